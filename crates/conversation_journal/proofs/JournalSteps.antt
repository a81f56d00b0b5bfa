-- A line after another: what stands of the conversation and of its journal.
use Rattle.std.proofs.Common.{◌≡◌, ◌∙◌, ◌≤◌, ◌||◌, ◌+◌, ℕ, zero, suc, Bool, true, false, cond, not, List, [], ◌∷◌, ◌++◌, length, drop, Option, None, Some, Result, Ok, Err, MatchBool, MatchOption, refl, sym, ap, ap₂, subst, arith, append_assoc}
use Rattle.std.proofs.lemmas.Bool.{and_from, eq-eqb}
use Rattle.std.proofs.lemmas.List.{append-nil, map-append}
use Rattle.std.specs.Cmp.Lexicographic.{same_text}
use Rattle.std.specs.Ffi.{without_last}
use Rattle.std.specs.List.{list_all}
use Rattle.std.specs.Option.{is_some}
use Rattle.std.specs.Str.{bytes_eq}
use Rattle.hickory_proto_core.specs.Handles.{OutcomeValue}
use Rattle.hickory_proto_core.specs.Records.{RecordValue}
use Rattle.hickory_proto_core.specs.ResponseKind.{is_empty}
use Rattle.hickory_proto_core.specs.declared.bounds_error.BoundsError.{BoundsError}
use Rattle.hickory_proto_core.specs.declared.recorded.Exchange.{Exchange}
use Rattle.hickory_resolver.specs.Reading.{IsBytesRead}
use Rattle.hickory_resolver.specs.hosts.hosts_error.HostsError.{HostsError}
use Rattle.hickory_resolver_lookup.specs.Requests.{request_of}
use Rattle.hickory_resolver_lookup.specs.declared.request.Request.{Request}
use Rattle.hickory_resolver_model.specs.Resuming.{Waits, IsDone}
use Rattle.hickory_resolver_model.specs.Bounds.{bounds_fault}
use Rattle.hickory_resolver_model.specs.Cache.{CacheValue}
use Rattle.hickory_resolver_model.specs.Hosts.{Host}
use Rattle.hickory_resolver_model.specs.Options.{bounds_of}
use Rattle.hickory_resolver_model.specs.Run.{Settings, call_context_at, first_cache, moment_of, settings_of}
use Rattle.hickory_resolver_theorems.specs.ResumingCalls.{CallProgressValue, ResumesCall}
use Rattle.hickory_resolver_theorems.proofs.CallsAlone.{resumed}
use Rattle.replay_script.specs.Output.{request_text}
use Rattle.replay_script.specs.Configuration.{ConfigurationValue, with_setting}
use Rattle.replay_script.specs.FailLine.{error_of}
use Rattle.replay_script.specs.Faults.{LineFaultValue, wrong_line}
use Rattle.replay_script.specs.Fields.{fields, is_allowed, is_skipped}
use Rattle.replay_script.specs.Line.{IsRead, IsSaid}
use Rattle.replay_script.specs.Reader.{answered, opened}
use Rattle.replay_script.specs.ReplyLine.{opened_response}
use Rattle.replay_script.specs.Script.{has_reply}
use Rattle.replay_script.specs.declared.fail_line.Failure.{Failure}
use Rattle.replay_script.specs.declared.line.Line.{Line}
use Rattle.replay_script.specs.declared.line.Line.TheVariants as line
use Rattle.replay_script.specs.declared.record_line.Section.{Section}
use Rattle.replay_script.specs.declared.reply_line.ReplyHead.{ReplyHead}
use Rattle.replay_script.specs.declared.script.OpenReply.{OpenReply}
use Rattle.replay_script.specs.declared.setting.Setting.{Setting as OneSetting}
use Rattle.replay_script.specs.declared.setting.Setting.TheVariants as setting
use Rattle.conversation.specs.Answers.{Answer, AreHosts, Came, Clears, Feeds, IsMade, IsOpened, Looks, Serves, Tells, config_of, just_begun, lines_told, telling}
use Rattle.conversation.specs.FileSettings.{AreSet, file_settings, lines_text, setting_in, with_edns}
use Rattle.conversation.specs.Files.{FilesValue}
use Rattle.conversation_journal.specs.Journal.{Busy, Idle, Turn, block_of, hosts_after, moment_asked, moment_begun, turn_of}
use Rattle.conversation.specs.State.{BegunValue, InFlightValue, Puts, Requests, Serving, Setting, Phase, request_at}
use Rattle.conversation.specs.Texts.{fields_text}
use Rattle.replay.specs.ScriptRun.{first_moment}
use Rattle.replay_script.specs.declared.fault.ScriptFault.TheVariants as script
use Rattle.conversation.specs.declared.fault.ConversationFault.{ConversationFault}
use Rattle.conversation.specs.declared.fault.ConversationFault.TheVariants as fault
use Rattle.conversation_journal.proofs.JournalTexts.{AreFields, whole_lines, whole_lines-append}
use Rattle.conversation_journal.proofs.JournalRequests.{IsWritable}
use Rattle.conversation_journal.proofs.JournalRuns.{HasRun, none_run, sent_so}
use Rattle.conversation_journal.proofs.JournalScript.{IsScript, from_ok, more-failure, more-line, more-record, more-reply, more-setting, written, written-text}
use Rattle.conversation_journal.proofs.JournalCalls.{NotOut, RequestSoFar, WholeCall, begun_call}
use Rattle.conversation_journal.proofs.JournalHappens.{IsNoMode}
use Rattle.conversation_journal.proofs.JournalStands.{IsBusy, IsServing, IsSetUp, IsSettingUp, IsUnderWay, StandsAt, clear-proceed, outcomes_in, outcomes_of, proceed, some-behind, some_request}

-- ---- a request is begun

pub record IsOpening (configuration : ConfigurationValue) (hosts : List ℕ) (now : ℕ) (s : Settings) (cache : CacheValue) : Type 0 where
  pub set_up : IsSetUp hosts now configuration s
  pub cache_is : cache ≡ first_cache s

module _ (configuration : ConfigurationValue) (hosts : List ℕ) (now : ℕ) (s : Settings) (cache : CacheValue) where
  by_table : bounds_fault (bounds_of configuration.options) ≡ None → (read : Result (Unit {0}) HostsError) (table : List Host) → IsBytesRead now hosts [] read table → AreHosts configuration read table (Ok (s, cache)) → IsOpening configuration hosts now s cache
  by_table bounds (Ok u) table is e =
      let made : Settings = settings_of (config_of configuration) configuration.options table in
      let both : Settings × CacheValue = (s, cache) in
      let same = ap (from_ok both) e in
      let s_is : s ≡ made = ap (λ p. p.0) same in
      record {
        set_up = record { bounds = bounds; table = table; hosts_are = is; settings_are = s_is ∙ ap (λ (x : Settings). sent_so made x.request_options) (sym s_is) };
        cache_is = ap (λ p. p.1) same ∙ ap first_cache (sym s_is);
      }
  by_table bounds (Err f) table is e = absurd (let h = e in cc)

  abbrev over : Result (Settings × CacheValue) ConversationFault
  over = Ok (s, cache)

  pub opening : IsMade configuration hosts now (Ok (s, cache)) → IsOpening configuration hosts now s cache
  opening is = by (bounds_fault (bounds_of configuration.options)) refl is
    where
      by : (o : Option BoundsError) → bounds_fault (bounds_of configuration.options) ≡ o → MatchOption o ((read : Result (Unit {0}) HostsError) × (table : List Host) × IsBytesRead now hosts [] read table × AreHosts configuration read table (Ok (s, cache))) (λ reversed. over ≡ Err (fault.Script script.ReversedBounds)) → IsOpening configuration hosts now s cache
      by None e (read, table, is, are) = by_table e read table is are
      by (Some reversed) e is = absurd (let h = is in cc)

-- whether questions have an EDNS record is no setting of a script
without-edns : (edns : Option Bool) (c : ConfigurationValue) (hosts : List ℕ) (now : ℕ) (s : Settings) (cache : CacheValue) → IsOpening (with_edns edns c) hosts now s cache → IsOpening c hosts now s cache
without-edns None c hosts now s cache o = o
without-edns (Some edns) c hosts now s cache o =
    record { set_up = record { bounds = o.set_up.bounds; table = o.set_up.table; hosts_are = o.set_up.hosts_are; settings_are = o.set_up.settings_are }; cache_is = o.cache_is }

-- ---- the lines of a file

-- what a line was read as
setting-read : (one : OneSetting) (said : Result Line LineFaultValue) → Ok one ≡ setting_in said → (said ≡ Ok (line.Configuration one)) × IsNoMode one
setting-read one (Ok (line.Configuration (setting.Option x))) e = let same : setting.Option x ≡ one = let h = e in cc in (ap (λ y. Ok (line.Configuration y)) same, subst IsNoMode same tt)
setting-read one (Ok (line.Configuration (setting.Domain x))) e = let same : setting.Domain x ≡ one = let h = e in cc in (ap (λ y. Ok (line.Configuration y)) same, subst IsNoMode same tt)
setting-read one (Ok (line.Configuration (setting.Search x))) e = let same : setting.Search x ≡ one = let h = e in cc in (ap (λ y. Ok (line.Configuration y)) same, subst IsNoMode same tt)
setting-read one (Ok (line.Configuration (setting.Upstream x))) e = absurd (let h = e in cc)
setting-read one (Ok line.Blank) e = absurd (let h = e in cc)
setting-read one (Ok (line.Reply x)) e = absurd (let h = e in cc)
setting-read one (Ok (line.Fail x)) e = absurd (let h = e in cc)
setting-read one (Ok (line.Record x y)) e = absurd (let h = e in cc)
setting-read one (Ok (line.Request x)) e = absurd (let h = e in cc)
setting-read one (Err f) e = absurd (let h = e in cc)

-- a line that was read has no byte that may not stand in it
read-allowed : (b : Bool) (l : List ℕ) (one : OneSetting) → IsRead b l (Ok (line.Configuration one)) → list_all is_allowed l ≡ true
read-allowed b l one is = by (is_skipped l) (list_all is_allowed l) refl is
  where
    r : Result Line LineFaultValue
    r = Ok (line.Configuration one)

    by : (skipped allowed : Bool) → list_all is_allowed l ≡ allowed → MatchBool skipped (r ≡ Ok line.Blank) (MatchBool allowed (IsSaid b (fields l) r) (r ≡ Err (wrong_line script.BadByte))) → list_all is_allowed l ≡ true
    by true a e is = absurd (let h = is in cc)
    by false true e is = e
    by false false e is = absurd (let h = is in cc)

line-more : (c : ConfigurationValue) (J B l : List ℕ) (one : OneSetting) → IsRead false l (Ok (line.Configuration one)) → IsNoMode one → IsSettingUp c J B → IsSettingUp (with_setting one c) (J ++ whole_lines (l ∷ [])) B
line-more c J B l one read kind is =
    let none : false ≡ has_reply is.said = ap is_some (sym is.open_is) ∙ is.script.keeps.reply_is in
    record {
      ls = is.ls ++ l ∷ [];
      said = is.said ++ line.Configuration one ∷ [];
      reader = record is.reader { configuration = with_setting one is.reader.configuration };
      journal_is = ap (λ x. x ++ whole_lines (l ∷ [])) is.journal_is ∙ sym (whole_lines-append is.ls (l ∷ []));
      script = more-line is.ls is.said is.reader is.script l one (read-allowed false l one read) (subst (λ b. IsRead b l (Ok (line.Configuration one))) none read) kind;
      configuration_is = ap (with_setting one) is.configuration_is;
      requests_are = is.requests_are;
      closed_are = is.closed_are;
      open_is = is.open_is;
      latest_is = is.latest_is;
      text_is = is.text_is;
    }

-- all lines that set something
lines-more : (ls : List (List ℕ)) (c whole : ConfigurationValue) (J B : List ℕ) → AreSet ls c (Ok whole) → IsSettingUp c J B → IsSettingUp whole (J ++ whole_lines ls) B
lines-more [] c whole J B e is =
    let same : c ≡ whole = let h = e in cc in
    let P : List ℕ → Type 0 = λ j. IsSettingUp whole j B in
    subst P (sym (append-nil J)) (subst (λ x. IsSettingUp x J B) same is)
lines-more (l ∷ ls) c whole J B (Ok one, (said, read, e), rest) is =
    let found = setting-read one said e in
    let more = line-more c J B l one (subst (λ r. IsRead false l r) found.0 read) found.1 is in
    let P : List ℕ → Type 0 = λ j. IsSettingUp whole j B in
    subst P (append_assoc J (whole_lines (l ∷ [])) (whole_lines ls) ∙ ap (λ x. J ++ x) (sym (whole_lines-append (l ∷ []) ls))) (lines-more ls (with_setting one c) whole (J ++ whole_lines (l ∷ [])) B rest more)
lines-more (l ∷ ls) c whole J B (Err f, read, e) is = absurd (let h = e in cc)

told-lines : (ls : List (List ℕ)) → lines_text ls ≡ whole_lines ls
told-lines [] = refl
told-lines (l ∷ ls) = append_assoc l (10 ∷ []) (lines_text ls) ∙ ap (λ rest. l ++ 10 ∷ rest) (told-lines ls)

-- what the file sets is set, and told
pub file-more : (files : FilesValue) (c : ConfigurationValue) (hosts J B : List ℕ) (now : ℕ) (s : Settings) (cache : CacheValue) → files.hosts ≡ hosts → IsSettingUp c J B → IsOpened (Setting c files) now (Ok (s, cache))
    → (whole : ConfigurationValue) × IsSettingUp whole (J ++ lines_told (Setting c files)) B × IsOpening whole hosts now s cache
file-more files c hosts J B now s cache hosts_are is (Ok w, (Ok whole, set, w_is), made) =
    let edns = (file_settings files.resolv).edns in
    let same : w ≡ with_edns edns whole = let h = w_is in cc in
    let opens : IsMade (with_edns edns whole) hosts now (Ok (s, cache)) = subst (λ h. IsMade (with_edns edns whole) h now (Ok (s, cache))) hosts_are (subst (λ x. IsMade x files.hosts now (Ok (s, cache))) same made) in
    let P : List ℕ → Type 0 = λ t. IsSettingUp whole (J ++ t) B in (
      whole,
      subst P (sym (told-lines (file_settings files.resolv).lines)) (lines-more (file_settings files.resolv).lines c whole J B set is),
      without-edns edns whole hosts now s cache (opening (with_edns edns whole) hosts now s cache opens),
    )
file-more files c hosts J B now s cache hosts_are is (Ok w, (Err f, set, w_is), made) = absurd (let h = w_is in cc)
file-more files c hosts J B now s cache hosts_are is (Err f, wrong, made) = absurd (let h = made in cc)

begin-first : (hosts J B : List ℕ) (configuration : ConfigurationValue) (s : Settings) (cache : CacheValue) (asked : Request) → IsSettingUp configuration J B → IsOpening configuration hosts (moment_of (request_of asked)) s cache → IsWritable (request_of asked) → IsUnderWay hosts J B s asked [] [] cache None
begin-first hosts J B configuration s cache asked is o writable =
    let run1 : HasRun s [] [] cache [] = subst (λ c. HasRun s [] [] c []) (sym o.cache_is) (none_run s) in
    let run2 : HasRun s is.reader.requests [] cache [] = subst (λ rs. HasRun s rs [] cache []) (sym is.requests_are) run1 in
    record {
      ls = is.ls;
      own = [];
      said = is.said;
      reader = is.reader;
      journal_is = is.journal_is;
      told_is = refl;
      script = subst (λ ls. IsScript ls is.said is.reader) (sym (append-nil is.ls)) is.script;
      first = moment_of (request_of asked);
      set_up = subst (λ c. IsSetUp hosts (moment_of (request_of asked)) c s) (sym is.configuration_is) o.set_up;
      started = ap (λ rs. first_moment (rs ++ request_of asked ∷ [])) is.requests_are;
      exchanges = [];
      has_run = subst (λ b. HasRun s is.reader.requests [] cache b) (sym is.text_is) run2;
      got = ap₂ (λ xs o. outcomes_in (xs ++ opened o)) is.closed_are is.open_is;
      order = omega (arith, is.latest_is);
      writable = writable;
    }

begin-next : (hosts J B : List ℕ) (latest : ℕ) (s : Settings) (cache : CacheValue) (asked : Request) → IsServing hosts J B latest s cache → latest ≤ moment_of (request_of asked) → IsWritable (request_of asked) → IsUnderWay hosts J B s asked [] [] cache None
begin-next hosts J B latest s cache asked is order writable = record {
  ls = is.ls;
  own = [];
  said = is.said;
  reader = is.reader;
  journal_is = is.journal_is;
  told_is = refl;
  script = subst (λ ls. IsScript ls is.said is.reader) (sym (append-nil is.ls)) is.script;
  first = is.first;
  set_up = is.set_up;
  started = is.started (request_of asked);
  exchanges = is.exchanges;
  has_run = is.has_run;
  got = is.got ∙ ap outcomes_of (sym (append-nil is.exchanges));
  order = subst (λ n. n ≤ moment_of (request_of asked)) (sym is.latest_is) order;
  writable = writable;
}

outcomes-more : (xs asks : List Exchange) (x : Exchange) → outcomes_of (xs ++ (asks ++ x ∷ [])) ≡ outcomes_of (xs ++ asks) ++ x.outcome ∷ []
outcomes-more xs asks x = ap outcomes_of (sym (append_assoc xs asks (x ∷ []))) ∙ map-append (λ y. y.outcome) (xs ++ asks) (x ∷ [])

-- ---- what was told goes on

told-more : (told : List ℕ) (own : List (List ℕ)) (given : List (List ℕ)) → told ≡ whole_lines own → told ++ fields_text given ≡ whole_lines (own ++ written given ∷ [])
told-more told own given e = ap₂ (λ x y. x ++ y) e (written-text given) ∙ sym (whole_lines-append own (written given ∷ []))

module _ (hosts J B : List ℕ) (s : Settings) (asked : Request) (asks : List Exchange) (told : List ℕ) (start : CacheValue) (given : List (List ℕ)) (own : AreFields given) where
  pub way-reply : (head : ReplyHead) → ((b : Bool) → IsSaid b given (Ok (line.Reply head))) → IsUnderWay hosts J B s asked asks told start None → IsUnderWay hosts J B s asked asks (told ++ fields_text given) start (Some (record { query = head.query; message = opened_response head }))
  way-reply head says w = record {
    ls = w.ls;
    own = w.own ++ written given ∷ [];
    said = w.said ++ line.Reply head ∷ [];
    reader = record w.reader { closed = w.reader.closed ++ opened w.reader.open_reply; open_reply = Some (record { query = head.query; message = opened_response head }) };
    journal_is = w.journal_is;
    told_is = told-more told w.own given w.told_is;
    script = subst (λ ls. IsScript ls (w.said ++ line.Reply head ∷ []) (record w.reader { closed = w.reader.closed ++ opened w.reader.open_reply; open_reply = Some (record { query = head.query; message = opened_response head }) })) (append_assoc w.ls w.own (written given ∷ [])) (more-reply (w.ls ++ w.own) w.said w.reader w.script given head own (says (has_reply w.said)));
    first = w.first;
    set_up = w.set_up;
    started = w.started;
    exchanges = w.exchanges;
    has_run = w.has_run;
    got = (refl, w.got);
    order = w.order;
    writable = w.writable;
  }

  pub way-record : (section : Section) (found : RecordValue) (reply : OpenReply) → IsSaid true given (Ok (line.Record section found)) → IsUnderWay hosts J B s asked asks told start (Some reply) → IsUnderWay hosts J B s asked asks (told ++ fields_text given) start (Some (answered section found reply))
  way-record section found reply says w =
      let has : true ≡ has_reply w.said = ap is_some (sym w.got.0) ∙ w.script.keeps.reply_is in
      record {
        ls = w.ls;
        own = w.own ++ written given ∷ [];
        said = w.said ++ line.Record section found ∷ [];
        reader = record w.reader { open_reply = Some (answered section found reply) };
        journal_is = w.journal_is;
        told_is = told-more told w.own given w.told_is;
        script = subst (λ ls. IsScript ls (w.said ++ line.Record section found ∷ []) (record w.reader { open_reply = Some (answered section found reply) })) (append_assoc w.ls w.own (written given ∷ [])) (more-record (w.ls ++ w.own) w.said w.reader w.script given section found reply own (subst (λ b. IsSaid b given (Ok (line.Record section found))) has says) w.got.0);
        first = w.first;
        set_up = w.set_up;
        started = w.started;
        exchanges = w.exchanges;
        has_run = w.has_run;
        got = (refl, w.got.1);
        order = w.order;
        writable = w.writable;
      }

  pub way-failure : (failure : Failure) (x : Exchange) → x.outcome ≡ Err (error_of failure.kind) → ((b : Bool) → IsSaid b given (Ok (line.Fail failure))) → IsUnderWay hosts J B s asked asks told start None → IsUnderWay hosts J B s asked (asks ++ x ∷ []) (told ++ fields_text given) start None
  way-failure failure x x_is says w = record {
    ls = w.ls;
    own = w.own ++ written given ∷ [];
    said = w.said ++ line.Fail failure ∷ [];
    reader = record w.reader { closed = w.reader.closed ++ opened w.reader.open_reply ++ (failure.query, Err (error_of failure.kind)) ∷ []; open_reply = None };
    journal_is = w.journal_is;
    told_is = told-more told w.own given w.told_is;
    script = subst (λ ls. IsScript ls (w.said ++ line.Fail failure ∷ []) (record w.reader { closed = w.reader.closed ++ opened w.reader.open_reply ++ (failure.query, Err (error_of failure.kind)) ∷ []; open_reply = None })) (append_assoc w.ls w.own (written given ∷ [])) (more-failure (w.ls ++ w.own) w.said w.reader w.script given failure own (says (has_reply w.said)));
    first = w.first;
    set_up = w.set_up;
    started = w.started;
    exchanges = w.exchanges;
    has_run = w.has_run;
    got = ap outcomes_in (append-nil _) ∙ map-append (λ o. o.1) (w.reader.closed ++ opened w.reader.open_reply) ((failure.query, Err (error_of failure.kind)) ∷ []) ∙ ap₂ (λ os o. os ++ o ∷ []) w.got (sym x_is) ∙ sym (outcomes-more w.exchanges asks x);
    order = w.order;
    writable = w.writable;
  }

pub way-done : (hosts J B : List ℕ) (s : Settings) (asked : Request) (asks : List Exchange) (told : List ℕ) (start : CacheValue) (reply : OpenReply) (x : Exchange) → x.outcome ≡ Ok reply.message → IsUnderWay hosts J B s asked asks told start (Some reply) → IsUnderWay hosts J B s asked (asks ++ x ∷ []) told start None
way-done hosts J B s asked asks told start reply x x_is w = record {
  ls = w.ls;
  own = w.own;
  said = w.said;
  reader = w.reader;
  journal_is = w.journal_is;
  told_is = w.told_is;
  script = w.script;
  first = w.first;
  set_up = w.set_up;
  started = w.started;
  exchanges = w.exchanges;
  has_run = w.has_run;
  got = ap (λ o. outcomes_in (w.reader.closed ++ opened o)) w.got.0 ∙ map-append (λ o. o.1) w.reader.closed ((reply.query, Ok reply.message) ∷ []) ∙ ap₂ (λ os o. os ++ o ∷ []) w.got.1 (sym x_is) ∙ sym (outcomes-more w.exchanges asks x);
  order = w.order;
  writable = w.writable;
}

-- ---- it goes on with what came back

pub feed : (hosts J B : List ℕ) (latest : ℕ) (s : Settings) (cache : CacheValue) (r : InFlightValue) (mark : List ℕ) (b : IsBusy hosts J B latest s cache r) (outcome : OutcomeValue) (begun : BegunValue) (answer : Answer)
    → IsUnderWay hosts J B s b.asked (b.asks ++ record { query = r.waiting.lookup.hop.query; outcome = outcome } ∷ []) begun.told b.start None → begun.request ≡ request_of b.asked → begun.sent ≡ r.begun.sent
    → Feeds mark (Serving s cache) begun r.waiting outcome answer
    → StandsAt hosts (J ++ answer.journal) (B ++ block_of mark answer) (turn_of mark answer.held (moment_of (request_of b.asked))) answer.phase answer.held
feed hosts J B latest s cache r mark b outcome begun answer w request_is sent_is (progress, after, resumes, tells) =
    let x : Exchange = record { query = r.waiting.lookup.hop.query; outcome = outcome } in
    let q = request_of b.asked in
    let now_is : r.waiting.lookup.now ≡ moment_of q = b.far.lookup.now_is in
    let goes : ResumesCall (call_context_at s (moment_of q)) r.waiting outcome cache progress after = subst (λ n. ResumesCall (call_context_at s n) r.waiting outcome cache progress after) now_is resumes in
    let far : RequestSoFar s q b.start b.call (b.asks ++ x ∷ []) progress after = resumed (call_context_at s (moment_of q)) (WholeCall s q b.start b.call) b.asks r.waiting cache b.far outcome progress after goes in
    proceed hosts J B s b.asked (b.asks ++ x ∷ []) b.start mark begun w request_is (sent_is ∙ b.sent_are ∙ sym (map-append (λ y. y.query) b.asks (x ∷ []))) b.call b.call_is progress after far answer [] tells

-- what is told of a request that was begun
pub record IsTold (s : Settings) (cache : CacheValue) (answer : Answer) : Type 0 where
  pub phase_is : answer.phase ≡ Serving s cache
  pub some : (is_some answer.held || not (is_empty answer.journal)) ≡ true

pub told-of : (mark explained : List ℕ) (s : Settings) (begun : BegunValue) (came : Came) (cache : CacheValue) (answer : Answer) → Tells mark explained s begun came cache answer → IsTold s cache answer
told-of mark explained s begun (Looks (Waits w)) cache answer e = subst (λ a. IsTold s cache a) (sym e) (record { phase_is = refl; some = refl })
told-of mark explained s begun (Looks (IsDone result)) cache answer (live, e) =
    subst (λ a. IsTold s cache a) (sym e) (record { phase_is = refl; some = ap not (some-behind begun.told (request_text begun.request) (some_request begun.request)) })
told-of mark explained s begun Clears cache answer e =
    subst (λ a. IsTold s cache a) (sym e) (record { phase_is = refl; some = ap not (some-behind begun.told (request_text begun.request) (some_request begun.request)) })

pub telling-told : (told : List ℕ) (s : Settings) (cache : CacheValue) (answer : Answer) → IsTold s cache answer → IsTold s cache (telling told answer)
telling-told told s cache answer is = record { phase_is = is.phase_is; some = by answer.held answer.journal is.some }
  where
    by : (held : Option InFlightValue) (journal : List ℕ) → (is_some held || not (is_empty journal)) ≡ true → (is_some held || not (is_empty (told ++ journal))) ≡ true
    by (Some r) journal h = refl
    by None [] h = absurd (let x = h in cc)
    by None (b ∷ journal) h = ap not (some-behind told (b ∷ journal) refl)

-- ---- whose request is in flight

abbrev pub IsHeld : Turn → Requests → Option InFlightValue → Type 0
IsHeld (Idle latest) requests held = ((m : List ℕ) → request_at m requests ≡ None) × (held ≡ None)
IsHeld (Busy mark latest) requests held = (request_at mark requests ≡ held) × ((m : List ℕ) → bytes_eq mark m ≡ false → request_at m requests ≡ None)

pub same-mark : (m : List ℕ) → bytes_eq m m ≡ true
same-mark [] = refl
same-mark (x ∷ xs) = and_from _ _ (eq-eqb x x refl) (same-mark xs)

pub held-idle : (mark : List ℕ) (o : Option InFlightValue) (latest : ℕ) (before after : Requests) → ((m : List ℕ) → request_at m before ≡ None) → Puts mark o before after → IsHeld (turn_of mark o latest) after o
held-idle mark None latest before after none puts = (λ m. puts m ∙ by (bytes_eq mark m) (none m), refl)
  where
    by : {x : Option InFlightValue} (b : Bool) → x ≡ None → cond b None x ≡ None
    by true e = refl
    by false e = e
held-idle mark (Some r) latest before after none puts =
    (puts mark ∙ ap (λ b. cond b (Some r) (request_at mark before)) (same-mark mark), λ m other. puts m ∙ ap (λ b. cond b (Some r) (request_at m before)) other ∙ none m)

pub held-own : (mark : List ℕ) (o : Option InFlightValue) (latest : ℕ) (before after : Requests) → ((m : List ℕ) → bytes_eq mark m ≡ false → request_at m before ≡ None) → Puts mark o before after → IsHeld (turn_of mark o latest) after o
held-own mark None latest before after none puts = (λ m. puts m ∙ by m (bytes_eq mark m) refl, refl)
  where
    by : (m : List ℕ) (b : Bool) → bytes_eq mark m ≡ b → cond b None (request_at m before) ≡ None
    by m true e = refl
    by m false e = none m e
held-own mark (Some r) latest before after none puts =
    (puts mark ∙ ap (λ b. cond b (Some r) (request_at mark before)) (same-mark mark), λ m other. puts m ∙ ap (λ b. cond b (Some r) (request_at m before)) other ∙ none m other)

pub held-other : (mark other : List ℕ) (latest : ℕ) (held : Option InFlightValue) (before after : Requests) → bytes_eq mark other ≡ false → IsHeld (Busy mark latest) before held → Puts other None before after → IsHeld (Busy mark latest) after held
held-other mark other latest held before after apart (own, none) puts =
    (puts mark ∙ ap (λ b. cond b None (request_at mark before)) (apart-too other mark apart) ∙ own, λ m away. puts m ∙ by (bytes_eq other m) (none m away))
  where
    apart-too : (x y : List ℕ) → bytes_eq y x ≡ false → bytes_eq x y ≡ false
    apart-too x y e = by (bytes_eq x y) refl
      where
        by : (b : Bool) → bytes_eq x y ≡ b → b ≡ false
        by true same =
            let one : x ≡ y = same_text x y (sym same) in
            absurd (let clash : true ≡ false = sym (same-mark y) ∙ ap (λ z. bytes_eq y z) (sym one) ∙ e in cc)
        by false other = refl

    by : {x : Option InFlightValue} (b : Bool) → x ≡ None → cond b None x ≡ None
    by true e = refl
    by false e = e

-- ---- a line while no request is in flight

drop-none : (n : ℕ) (xs : List ℕ) → xs ≡ [] → without_last (drop n xs) ≡ []
drop-none zero [] e = refl
drop-none (suc n) [] e = refl
drop-none n (x ∷ xs) e = absurd (let h = e in cc)

pub no-block : (mark : List ℕ) (answer : Answer) → answer.journal ≡ [] → block_of mark answer ≡ []
no-block mark answer e = by (is_some answer.held) (is_empty answer.journal) (ap is_empty e)
  where
    by : (held none : Bool) → none ≡ true → cond (held || none) [] (without_last (drop (length mark + 1) answer.text)) ≡ []
    by true none h = refl
    by false true h = refl
    by false false h = absurd (let x = h in cc)

pub no-text : (mark : List ℕ) (answer : Answer) → answer.text ≡ [] → block_of mark answer ≡ []
no-text mark answer e = by (is_some answer.held || is_empty answer.journal)
  where
    by : (b : Bool) → cond b [] (without_last (drop (length mark + 1) answer.text)) ≡ []
    by true = refl
    by false = drop-none (length mark + 1) answer.text e

-- what is told before a request is no block
pub same-block : (mark told : List ℕ) (answer : Answer) → (is_some answer.held || not (is_empty answer.journal)) ≡ true → block_of mark (telling told answer) ≡ block_of mark answer
same-block mark told answer some = by answer.held answer.journal some
  where
    text : List ℕ
    text = without_last (drop (length mark + 1) answer.text)

    by : (held : Option InFlightValue) (journal : List ℕ) → (is_some held || not (is_empty journal)) ≡ true → cond (is_some held || is_empty (told ++ journal)) [] text ≡ cond (is_some held || is_empty journal) [] text
    by (Some r) journal h = refl
    by None [] h = absurd (let x = h in cc)
    by None (b ∷ journal) h = ap (λ e. cond e [] text) (some-behind told (b ∷ journal) refl)

pub none-begun : (text : List ℕ) (answer : Answer) (phase : Phase) → answer.held ≡ None → answer.journal ≡ [] → moment_begun text answer phase ≡ None
none-begun text answer (Setting configuration files) h j = refl
none-begun text answer (Serving s cache) h j = rw (h, j) refl

pub some-begun : (text : List ℕ) (answer : Answer) (s : Settings) (cache : CacheValue) → IsTold s cache answer → moment_begun text answer answer.phase ≡ moment_asked (fields text)
some-begun text answer s cache told = ap (λ x. moment_begun text answer x) told.phase_is ∙ rw told.some refl

-- after this answer
abbrev pub NextIdle : List ℕ → List ℕ → List ℕ → List ℕ → ℕ → Answer → Type 0
NextIdle hosts J B mark latest answer = StandsAt (hosts_after hosts answer.phase) (J ++ answer.journal) (B ++ block_of mark answer) (turn_of mark answer.held latest) answer.phase answer.held

-- nothing is told
pub quiet : (hosts J B mark : List ℕ) (latest : ℕ) (answer : Answer) (phase : Phase) → answer.journal ≡ [] → answer.held ≡ None → answer.phase ≡ phase → StandsAt (hosts_after hosts phase) J B (Idle latest) phase None → NextIdle hosts J B mark latest answer
quiet hosts J B mark latest answer phase j h st stands =
    let P : Phase → Type 0 = λ x. StandsAt (hosts_after hosts x) (J ++ answer.journal) (B ++ block_of mark answer) (turn_of mark answer.held latest) x answer.held in
    let Q : Option InFlightValue → Type 0 = λ o. StandsAt (hosts_after hosts phase) (J ++ answer.journal) (B ++ block_of mark answer) (turn_of mark o latest) phase o in
    let R : List ℕ → Type 0 = λ x. StandsAt (hosts_after hosts phase) x (B ++ block_of mark answer) (Idle latest) phase None in
    let T : List ℕ → Type 0 = λ x. StandsAt (hosts_after hosts phase) J x (Idle latest) phase None in
    let j_is : J ≡ J ++ answer.journal = sym (append-nil J) ∙ ap (λ x. J ++ x) (sym j) in
    let b_is : B ≡ B ++ block_of mark answer = sym (append-nil B) ∙ ap (λ x. B ++ x) (sym (no-block mark answer j)) in
    subst P (sym st) (subst Q (sym h) (subst R j_is (subst T b_is stands)))

pub same-hosts : (hosts J B : List ℕ) (latest : ℕ) (phase : Phase) (held : Option InFlightValue) → StandsAt hosts J B (Idle latest) phase held → StandsAt (hosts_after hosts phase) J B (Idle latest) phase None
same-hosts hosts J B latest (Setting configuration files) held (hosts_are, zero_is, is) = (refl, zero_is, is)
same-hosts hosts J B latest (Serving s cache) held is = is

pub setting-up : (hosts J B : List ℕ) (latest : ℕ) (phase : Phase) (held : Option InFlightValue) (configuration : ConfigurationValue) (files : FilesValue) → phase ≡ Setting configuration files → StandsAt hosts J B (Idle latest) phase held → (files.hosts ≡ hosts) × (latest ≡ 0) × IsSettingUp configuration J B
setting-up hosts J B latest phase held configuration files e is = subst (λ x. StandsAt hosts J B (Idle latest) x held) e is

-- one more setting
pub set-more : (configuration : ConfigurationValue) (J B : List ℕ) (given : List (List ℕ)) (one : OneSetting) → AreFields given → IsSaid false given (Ok (line.Configuration one)) → IsNoMode one → IsSettingUp configuration J B → IsSettingUp (with_setting one configuration) (J ++ fields_text given) B
set-more configuration J B given one own says kind is =
    let none : false ≡ has_reply is.said = ap is_some (sym is.open_is) ∙ is.script.keeps.reply_is in
    record {
      ls = is.ls ++ written given ∷ [];
      said = is.said ++ line.Configuration one ∷ [];
      reader = record is.reader { configuration = with_setting one is.reader.configuration };
      journal_is = told-more J is.ls given is.journal_is;
      script = more-setting is.ls is.said is.reader is.script given one own (subst (λ b. IsSaid b given (Ok (line.Configuration one))) none says) kind;
      configuration_is = ap (with_setting one) is.configuration_is;
      requests_are = is.requests_are;
      closed_are = is.closed_are;
      open_is = is.open_is;
      latest_is = is.latest_is;
      text_is = is.text_is;
    }

-- the request that is begun here is under way, behind what the journal gets of a file
pub underway : (hosts J B : List ℕ) (latest : ℕ) (phase : Phase) (held : Option InFlightValue) (asked : Request) (s : Settings) (cache : CacheValue) → StandsAt hosts J B (Idle latest) phase held → IsOpened phase (moment_of (request_of asked)) (Ok (s, cache)) → latest ≤ moment_of (request_of asked) → IsWritable (request_of asked)
    → IsUnderWay hosts (J ++ lines_told phase) B s asked [] [] cache None
underway hosts J B latest (Setting configuration files) held asked s cache (hosts_are, zero_is, is) opens order writable =
    let more = file-more files configuration hosts J B (moment_of (request_of asked)) s cache hosts_are is opens in
    begin-first hosts (J ++ lines_told (Setting configuration files)) B more.0 s cache asked more.1 more.2 writable
underway hosts J B latest (Serving t before) held asked s cache is opens order writable =
    let both : Settings × CacheValue = (s, cache) in
    let same = ap (from_ok both) opens in
    let P : Settings → Type 0 = λ x. IsServing hosts J B latest x before in
    let Q : CacheValue → Type 0 = λ x. IsServing hosts J B latest s x in
    let R : List ℕ → Type 0 = λ j. IsUnderWay hosts j B s asked [] [] cache None in
    subst R (sym (append-nil J)) (begin-next hosts J B latest s cache asked (subst Q (sym (ap (λ p. p.1) same)) (subst P (sym (ap (λ p. p.0) same)) is)) order writable)

pub serves : (hosts J B mark : List ℕ) (explains : Bool) (asked : Request) (s : Settings) (cache : CacheValue) (answer : Answer) → IsUnderWay hosts J B s asked [] [] cache None → Serves mark explains (request_of asked) s cache answer
    → StandsAt hosts (J ++ answer.journal) (B ++ block_of mark answer) (turn_of mark answer.held (moment_of (request_of asked))) answer.phase answer.held
serves hosts J B mark explains asked s cache answer w (Looks progress, after, comes, explained, starts, tells) =
    let begun = begun_call s (request_of asked) cache progress after (not-out progress tells) comes in
    proceed hosts J B s asked [] cache mark (just_begun (request_of asked) explains) w refl refl begun.call begun.call_is progress after begun.far answer explained tells
  where
    not-out : (p : CallProgressValue) → Tells mark explained s (just_begun (request_of asked) explains) (Looks p) after answer → NotOut p
    not-out (Waits x) t = tt
    not-out (IsDone result) (live, e) = live
serves hosts J B mark explains asked s cache answer w (Clears, after, comes, explained, starts, tells) =
    clear-proceed hosts J B s asked [] cache mark (just_begun (request_of asked) explains) w refl refl refl after comes answer explained tells
