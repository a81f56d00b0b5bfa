-- What stands of a conversation with one request at a time, and of its journal: requests that were run, and the one that
-- is under way.
use Rattle.std.proofs.Common.{◌≡◌, ◌∙◌, ◌≤◌, ◌+◌, ◌-◌, ℕ, suc, false, List, [], ◌∷◌, ◌++◌, length, map, take, drop, codes, Option, None, Some, Ok, refl, sym, ap, ap₂, subst, arith, append_assoc, length-append}
use Rattle.std.proofs.lemmas.List.{append-nil}
use Rattle.std.specs.Ffi.{without_last}
use Rattle.hickory_proto_core.specs.Handles.{OutcomeValue}
use Rattle.hickory_proto_core.specs.ResponseKind.{is_empty}
use Rattle.hickory_proto_core.specs.declared.query.Query.{Query}
use Rattle.hickory_proto_core.specs.declared.recorded.Exchange.{Exchange}
use Rattle.hickory_resolver_lookup.specs.Requests.{request_of}
use Rattle.hickory_resolver_lookup.specs.declared.request.Request.{Request}
use Rattle.hickory_resolver_model.specs.Resuming.{Waits, IsDone}
use Rattle.hickory_resolver_model.specs.Bounds.{bounds_fault}
use Rattle.hickory_resolver_model.specs.Cache.{CacheValue}
use Rattle.hickory_resolver_model.specs.Calls.{SubLookup, asks_of_sub_lookups}
use Rattle.hickory_resolver_model.specs.Hosts.{Host}
use Rattle.hickory_resolver_model.specs.Lookup.{LookupResult}
use Rattle.hickory_resolver_model.specs.Options.{bounds_of}
use Rattle.hickory_resolver_model.specs.Run.{RequestValue, Lookup, LookupIp, ClearLookup, Clear, Settings, Call, IsServed, StepReply, Cleared, answers_at, ends_run, moment_of, settings_of}
use Rattle.hickory_resolver_model.specs.Run as run
use Rattle.hickory_resolver_theorems.specs.ResumingCalls.{CallProgressValue}
use Rattle.replay_script.specs.Output.{request_text, result_text, sent_text, step_text}
use Rattle.replay.specs.ScriptRun.{IsTable, first_moment}
use Rattle.replay_script.specs.Configuration.{ConfigurationValue}
use Rattle.replay_script.specs.Reader.{ReaderValue, opened}
use Rattle.replay_script.specs.declared.line.Line.{Line}
use Rattle.replay_script.specs.declared.line.Line.TheVariants as line
use Rattle.replay_script.specs.declared.script.OpenReply.{OpenReply}
use Rattle.conversation.specs.Answers.{Answer, Clears, ComesTo, Looks, Tells, asking, config_of}
use Rattle.conversation_journal.specs.Journal.{Idle, Busy, Turn, block_of, turn_of}
use Rattle.conversation.specs.State.{BegunValue, InFlightValue, Setting, Serving, Phase}
use Rattle.conversation.specs.Texts.{clear_text, looked_up_text}
use Rattle.conversation_journal.proofs.JournalTexts.{line_of, whole_lines, whole_lines-append}
use Rattle.conversation_journal.proofs.JournalRequests.{IsWritable, asked_fields, request-text}
use Rattle.conversation_journal.proofs.JournalRuns.{HasRun, run-more, sent_so}
use Rattle.conversation_journal.proofs.JournalScript.{IsScript, more-request}
use Rattle.conversation_journal.proofs.JournalCalls.{HasCall, RequestSoFar, cleared, looked_up}

-- ---- blocks

drop-mark : (mark Y : List ℕ) → drop (suc (length mark)) (mark ++ 32 ∷ Y) ≡ Y
drop-mark [] Y = refl
drop-mark (b ∷ mark) Y = drop-mark mark Y

take-front : (xs ys : List ℕ) → take (length xs) (xs ++ ys) ≡ xs
take-front [] ys = refl
take-front (x ∷ xs) ys = ap (λ more. x ∷ more) (take-front xs ys)

all-but-last : (X : List ℕ) → without_last (X ++ 10 ∷ []) ≡ X
all-but-last X =
    let size : length (X ++ 10 ∷ []) - 1 ≡ length X = omega (arith, length-append X (10 ∷ [])) in
    ap (λ n. take n (X ++ 10 ∷ [])) size ∙ take-front X (10 ∷ [])

block-text : (mark X : List ℕ) → without_last (drop (length mark + 1) (mark ++ 32 ∷ (X ++ 10 ∷ []))) ≡ X
block-text mark X =
    let size : length mark + 1 ≡ suc (length mark) = omega arith in
    ap (λ n. without_last (drop n (mark ++ 32 ∷ (X ++ 10 ∷ [])))) size ∙ ap without_last (drop-mark mark (X ++ 10 ∷ [])) ∙ all-but-last X

pub some_request : (q : RequestValue) → is_empty (request_text q) ≡ false
some_request (Lookup name t now) = refl
some_request (LookupIp host now) = refl
some_request (ClearLookup name t now) = refl
some_request (Clear now) = refl

pub some-behind : (told rest : List ℕ) → is_empty rest ≡ false → is_empty (told ++ rest) ≡ false
some-behind [] rest h = h
some-behind (b ∷ told) rest h = refl

block-of : (mark X : List ℕ) (answer : Answer) → answer.held ≡ None → is_empty answer.journal ≡ false → answer.text ≡ mark ++ 32 ∷ (X ++ 10 ∷ []) → block_of mark answer ≡ X
block-of mark X answer none some text = rw (none, some) (ap (λ t. without_last (drop (length mark + 1) t)) text ∙ block-text mark X)

behind-mark : (mark X : List ℕ) → (mark ++ codes " ") ++ X ++ codes "\n" ≡ mark ++ 32 ∷ (X ++ 10 ∷ [])
behind-mark mark X = append_assoc (mark ++ codes " ") X (codes "\n") ∙ append_assoc mark (codes " ") (X ++ 10 ∷ [])

looked_up-block : (mark : List ℕ) (begun : BegunValue) (result : LookupResult) → looked_up_text mark begun result ≡ mark ++ 32 ∷ ((request_text begun.request ++ sent_text begun.sent ++ result_text begun.request result) ++ 10 ∷ [])
looked_up-block mark begun result =
    let front = mark ++ codes " " in
    let q = request_text begun.request in
    let sent = sent_text begun.sent in
    let told = result_text begun.request result in
    ap (λ x. x ++ codes "\n") (ap (λ x. x ++ told) (append_assoc front q sent) ∙ append_assoc front (q ++ sent) told) ∙ behind-mark mark (q ++ sent ++ told)

clear-block : (mark : List ℕ) (q : RequestValue) → clear_text mark q ≡ mark ++ 32 ∷ ((request_text q ++ sent_text [] ++ codes "  cleared\n") ++ 10 ∷ [])
clear-block mark q =
    ap (λ x. x ++ codes "\n") (append_assoc (mark ++ codes " ") (request_text q) (codes "  cleared\n")) ∙ behind-mark mark (request_text q ++ codes "  cleared\n")
    ∙ ap (λ x. mark ++ 32 ∷ ((x ++ codes "  cleared\n") ++ 10 ∷ [])) (sym (append-nil (request_text q)))

-- ---- what stands

-- the settings of a resolver that was made at a moment, of what is configured and these hosts, but for how questions are
-- sent
pub record IsSetUp (hosts : List ℕ) (first : ℕ) (c : ConfigurationValue) (s : Settings) : Type 0 where
  pub bounds : bounds_fault (bounds_of c.options) ≡ None
  pub table : List Host
  pub hosts_are : IsTable first hosts table
  pub settings_are : s ≡ sent_so (settings_of (config_of c) c.options table) s.request_options

abbrev pub outcomes_in : List (Query × OutcomeValue) → List OutcomeValue
outcomes_in os = map (λ o. o.1) os

abbrev pub outcomes_of : List Exchange → List OutcomeValue
outcomes_of xs = map (λ x. x.outcome) xs

-- the outcomes that are whole, where this reply is open
abbrev pub IsGot : Option OpenReply → ReaderValue → List OutcomeValue → Type 0
IsGot None reader got = outcomes_in (reader.closed ++ opened reader.open_reply) ≡ got
IsGot (Some reply) reader got = (reader.open_reply ≡ Some reply) × (outcomes_in reader.closed ≡ got)

-- no request was begun
pub record IsSettingUp (configuration : ConfigurationValue) (J B : List ℕ) : Type 0 where
  pub ls : List (List ℕ)
  pub said : List Line
  pub reader : ReaderValue
  pub journal_is : J ≡ whole_lines ls
  pub script : IsScript ls said reader
  pub configuration_is : reader.configuration ≡ configuration
  pub requests_are : reader.requests ≡ []
  pub closed_are : reader.closed ≡ []
  pub open_is : reader.open_reply ≡ None
  pub latest_is : reader.latest ≡ 0
  pub text_is : B ≡ []

-- some requests were, and are over
pub record IsServing (hosts J B : List ℕ) (latest : ℕ) (s : Settings) (cache : CacheValue) : Type 0 where
  pub ls : List (List ℕ)
  pub said : List Line
  pub reader : ReaderValue
  pub journal_is : J ≡ whole_lines ls
  pub script : IsScript ls said reader
  pub first : ℕ
  pub set_up : IsSetUp hosts first reader.configuration s
  pub first_is : first_moment reader.requests ≡ first
  pub started : (q : RequestValue) → first_moment (reader.requests ++ q ∷ []) ≡ first
  pub exchanges : List Exchange
  pub has_run : HasRun s reader.requests exchanges cache B
  pub got : IsGot None reader (outcomes_of exchanges)
  pub latest_is : reader.latest ≡ latest

-- one is under way, with the lines that were told of it, and these exchanges
pub record IsUnderWay (hosts J B : List ℕ) (s : Settings) (asked : Request) (asks : List Exchange) (told : List ℕ) (start : CacheValue) (reply : Option OpenReply) : Type 0 where
  pub ls : List (List ℕ)
  pub own : List (List ℕ)
  pub said : List Line
  pub reader : ReaderValue
  pub journal_is : J ≡ whole_lines ls
  pub told_is : told ≡ whole_lines own
  pub script : IsScript (ls ++ own) said reader
  pub first : ℕ
  pub set_up : IsSetUp hosts first reader.configuration s
  pub started : first_moment (reader.requests ++ request_of asked ∷ []) ≡ first
  pub exchanges : List Exchange
  pub has_run : HasRun s reader.requests exchanges start B
  pub got : IsGot reply reader (outcomes_of (exchanges ++ asks))
  pub order : reader.latest ≤ moment_of (request_of asked)
  pub writable : IsWritable (request_of asked)

-- it waits for what comes back to a question
pub record IsBusy (hosts J B : List ℕ) (latest : ℕ) (s : Settings) (cache : CacheValue) (r : InFlightValue) : Type 0 where
  pub asked : Request
  pub asks : List Exchange
  pub start : CacheValue
  pub call : Call
  pub way : IsUnderWay hosts J B s asked asks r.begun.told start r.reply
  pub request_is : r.begun.request ≡ request_of asked
  pub sent_are : r.begun.sent ≡ map (λ x. x.query) asks ++ r.waiting.lookup.hop.query ∷ []
  pub call_is : HasCall s (request_of asked) call
  pub far : RequestSoFar s (request_of asked) start call asks (Waits r.waiting) cache
  pub latest_is : latest ≡ moment_of (request_of asked)

abbrev pub StandsAt : List ℕ → List ℕ → List ℕ → Turn → Phase → Option InFlightValue → Type 0
StandsAt hosts J B (Idle latest) (Setting configuration files) held = (files.hosts ≡ hosts) × (latest ≡ 0) × IsSettingUp configuration J B
StandsAt hosts J B (Idle latest) (Serving s cache) held = IsServing hosts J B latest s cache
StandsAt hosts J B (Busy mark latest) (Setting configuration files) held = ⊥
StandsAt hosts J B (Busy mark latest) (Serving s cache) None = ⊥
StandsAt hosts J B (Busy mark latest) (Serving s cache) (Some r) = IsBusy hosts J B latest s cache r

-- ---- a request is over

first-more : (rs : List RequestValue) (q p : RequestValue) → first_moment ((rs ++ q ∷ []) ++ p ∷ []) ≡ first_moment (rs ++ q ∷ [])
first-more [] q p = refl
first-more (r ∷ rs) q p = refl

pub over : (hosts J B : List ℕ) (s : Settings) (asked : Request) (asks : List Exchange) (told : List ℕ) (start : CacheValue) (parts : List SubLookup) (reply : StepReply) (after : CacheValue) → IsUnderWay hosts J B s asked asks told start None
    → asks ≡ asks_of_sub_lookups parts → IsServed (answers_at s) s start (request_of asked) parts reply after → ends_run reply ≡ false
    → IsServing hosts (J ++ (told ++ request_text (request_of asked))) (B ++ step_text (request_of asked) (map (λ x. x.query) asks) reply) (moment_of (request_of asked)) s after
over hosts J B s asked asks told start parts reply after w asks_are served live =
    let q = request_of asked in
    let l = line_of (codes "at") (asked_fields q) in
    let stage : run.Stage = record { request = q; before = start; piece = asks; parts = parts; step = record { now = moment_of q; exchanges = length asks; reply = reply } } in
    record {
      ls = (w.ls ++ w.own) ++ l ∷ [];
      said = w.said ++ line.Request asked ∷ [];
      reader = record w.reader { requests = w.reader.requests ++ q ∷ []; latest = moment_of q };
      journal_is = ap₂ (λ x y. x ++ y) w.journal_is (ap₂ (λ x y. x ++ y) w.told_is (request-text q)) ∙ sym (append_assoc (whole_lines w.ls) (whole_lines w.own) (whole_lines (l ∷ [])))
          ∙ ap (λ x. x ++ whole_lines (l ∷ [])) (sym (whole_lines-append w.ls w.own)) ∙ sym (whole_lines-append (w.ls ++ w.own) (l ∷ []));
      script = more-request (w.ls ++ w.own) w.said w.reader w.script q asked refl w.writable w.order;
      first = w.first;
      set_up = w.set_up;
      first_is = w.started;
      started = λ p. first-more w.reader.requests q p ∙ w.started;
      exchanges = w.exchanges ++ asks;
      has_run = run-more s w.reader.requests w.exchanges start B stage after w.has_run refl live (record { served = served; piece_is = asks_are; now_is = refl; count_is = refl });
      got = w.got;
      latest_is = refl;
    }

-- ---- how far it came

module _ (hosts J B : List ℕ) (s : Settings) (asked : Request) (asks : List Exchange) (start : CacheValue) (mark : List ℕ) (begun : BegunValue) (w : IsUnderWay hosts J B s asked asks begun.told start None) (request_is : begun.request ≡ request_of asked) (sent_are : begun.sent ≡ map (λ x. x.query) asks) where
  abbrev pub IsNext : Answer → Type 0
  IsNext answer = StandsAt hosts (J ++ answer.journal) (B ++ block_of mark answer) (turn_of mark answer.held (moment_of (request_of asked))) answer.phase answer.held

  -- the block and the lines of the journal
  ended : (cache : CacheValue) (answer : Answer) (block : List ℕ) → answer.phase ≡ Serving s cache → answer.held ≡ None → answer.journal ≡ begun.told ++ request_text begun.request → answer.text ≡ mark ++ 32 ∷ (block ++ 10 ∷ [])
      → IsServing hosts (J ++ (begun.told ++ request_text (request_of asked))) (B ++ block) (moment_of (request_of asked)) s cache → IsNext answer
  ended cache answer block phase_is held_is journal_is text_is serving =
      let own : begun.told ++ request_text (request_of asked) ≡ answer.journal = ap (λ q. begun.told ++ request_text q) (sym request_is) ∙ sym journal_is in
      let some : is_empty answer.journal ≡ false = ap is_empty journal_is ∙ some-behind begun.told (request_text begun.request) (some_request begun.request) in
      let told : block ≡ block_of mark answer = sym (block-of mark block answer held_is some text_is) in
      let P : Phase → Type 0 = λ x. StandsAt hosts (J ++ answer.journal) (B ++ block_of mark answer) (turn_of mark answer.held (moment_of (request_of asked))) x answer.held in
      let Q : Option InFlightValue → Type 0 = λ h. StandsAt hosts (J ++ answer.journal) (B ++ block_of mark answer) (turn_of mark h (moment_of (request_of asked))) (Serving s cache) h in
      let R : List ℕ → Type 0 = λ j. IsServing hosts (J ++ j) (B ++ block_of mark answer) (moment_of (request_of asked)) s cache in
      let T : List ℕ → Type 0 = λ b. IsServing hosts (J ++ (begun.told ++ request_text (request_of asked))) (B ++ b) (moment_of (request_of asked)) s cache in
      subst P (sym phase_is) (subst Q (sym held_is) (subst R own (subst T told serving)))

  pub proceed : (call : Call) → HasCall s (request_of asked) call → (progress : CallProgressValue) (cache : CacheValue) → RequestSoFar s (request_of asked) start call asks progress cache → (answer : Answer) (explained : List ℕ) → Tells mark explained s begun (Looks progress) cache answer → IsNext answer
  proceed call call_is (Waits x) cache far answer explained e =
      let busy : IsBusy hosts J B (moment_of (request_of asked)) s cache (asking begun x) = record {
        asked = asked;
        asks = asks;
        start = start;
        call = call;
        way = w;
        request_is = request_is;
        sent_are = ap (λ qs. qs ++ x.lookup.hop.query ∷ []) sent_are;
        call_is = call_is;
        far = far;
        latest_is = refl;
      } in
      let P : List ℕ → Type 0 = λ j. IsBusy hosts j (B ++ []) (moment_of (request_of asked)) s cache (asking begun x) in
      let Q : List ℕ → Type 0 = λ b. IsBusy hosts J b (moment_of (request_of asked)) s cache (asking begun x) in
      subst IsNext (sym e) (subst P (sym (append-nil J)) (subst Q (sym (append-nil B)) busy))
  proceed call call_is (IsDone result) cache far answer explained (live, e) =
      let up = looked_up s (request_of asked) start call far.parts result cache call_is far.whole in
      let block = step_text (request_of asked) (map (λ x. x.query) asks) up.reply in
      let same : request_text begun.request ++ sent_text begun.sent ++ result_text begun.request result ≡ block =
      ap (λ q. request_text q ++ sent_text begun.sent ++ result_text q result) request_is ∙ ap₂ (λ qs t. request_text (request_of asked) ++ sent_text qs ++ t) sent_are (sym up.text_is) in
      ended cache answer block (ap (λ a. a.phase) e) (ap (λ a. a.held) e) (ap (λ a. a.journal) e) (ap (λ a. a.text) e ∙ looked_up-block mark begun result ∙ ap (λ x. mark ++ 32 ∷ (x ++ 10 ∷ [])) same)
      (over hosts J B s asked asks begun.told start far.parts up.reply cache w far.asks_are up.served (up.ends ∙ live))

  pub clear-proceed : asks ≡ [] → (cache : CacheValue) → ComesTo s (request_of asked) start Clears cache → (answer : Answer) (explained : List ℕ) → Tells mark explained s begun Clears cache answer → IsNext answer
  clear-proceed none cache comes answer explained e =
      let block = step_text (request_of asked) (map (λ x. x.query) asks) (Cleared (Ok tt)) in
      let same : request_text begun.request ++ sent_text [] ++ codes "  cleared\n" ≡ block = ap₂ (λ q xs. request_text q ++ sent_text (map (λ x. x.query) xs) ++ codes "  cleared\n") request_is (sym none) in
      ended cache answer block (ap (λ a. a.phase) e) (ap (λ a. a.held) e) (ap (λ a. a.journal) e) (ap (λ a. a.text) e ∙ clear-block mark begun.request ∙ ap (λ x. mark ++ 32 ∷ (x ++ 10 ∷ [])) same)
      (over hosts J B s asked asks begun.told start [] (Cleared (Ok tt)) cache w none (cleared s (request_of asked) start cache comes).served refl)
