-- The lines of a journal are read as a script, when one more line comes.
use Rattle.std.proofs.Common.{◌≡◌, ◌≤◌, ◌+◌, ℕ, Bool, true, false, length, codes, List, [], ◌∷◌, ◌++◌, nat_lt, None, Some, Result, Ok, Err, MatchResult, refl, sym, ap, subst, arith}
use Rattle.std.proofs.lemmas.Bool.Decides.{nat_tests}
use Rattle.std.specs.List.{list_all}
use Rattle.hickory_proto_core.specs.Records.{RecordValue}
use Rattle.hickory_resolver_lookup.specs.Requests.{request_of}
use Rattle.hickory_resolver_lookup.specs.declared.request.Request.{Request}
use Rattle.hickory_resolver_model.specs.Run.{RequestValue, moment_of}
use Rattle.replay_script.specs.Configuration.{configured, with_setting}
use Rattle.replay_script.specs.Fields.{is_allowed}
use Rattle.replay_script.specs.Line.{IsRead, IsSaid}
use Rattle.replay_script.specs.Reader.{ReaderValue, Keeps, answered, failure_outcome, opened}
use Rattle.replay_script.specs.ReplyLine.{opened_response}
use Rattle.replay_script.specs.Script.{AreRead, has_reply, in_order, latest_from}
use Rattle.replay_script.specs.declared.fail_line.Failure.{Failure}
use Rattle.replay_script.specs.Faults.{LineFaultValue}
use Rattle.replay_script.specs.declared.fault.ScriptFault.{ScriptFault}
use Rattle.replay_script.specs.declared.fault.ScriptError.{ScriptError}
use Rattle.replay_script.specs.declared.line.Line.{Line}
use Rattle.replay_script.specs.declared.line.Line.TheVariants as line
use Rattle.replay_script.specs.declared.record_line.Section.{Section}
use Rattle.replay_script.specs.declared.reply_line.ReplyHead.{ReplyHead}
use Rattle.replay_script.specs.declared.script.OpenReply.{OpenReply}
use Rattle.replay_script.specs.declared.setting.Setting.{Setting}
use Rattle.replay_script.specs.declared.setting.Setting.TheVariants as setting
use Rattle.replay_script.proofs.Said.{keeps-configuration, keeps-failure, keeps-record, keeps-reply, keeps-request}
use Rattle.conversation.specs.Texts.{fields_text}
use Rattle.conversation_journal.proofs.JournalTexts.{AreAllowed, AreFields, IsField, allowed-append, line-allowed, line-read, line_of, whole_lines}
use Rattle.conversation_journal.proofs.JournalRequests.{IsWritable, asked-fields, asked_fields}
use Rattle.conversation_journal.proofs.JournalSaid.{request-read}
use Rattle.conversation_journal.proofs.JournalHappens.{IsNoMode}

-- these lines say this, and a reader keeps it; outcomes come in order
pub record IsScript (ls : List (List ℕ)) (said : List Line) (reader : ReaderValue) : Type 0 where
  pub allowed : AreAllowed ls
  pub read : AreRead [] ls (Ok said)
  pub keeps : Keeps reader said
  pub in_order : reader.configuration.table ≡ false

abbrev pub fresh : ReaderValue
fresh = record { closed = []; open_reply = None; requests = []; latest = 0; configuration = configured [] }

pub none_script : IsScript [] [] fresh
none_script = record {
  allowed = tt;
  read = refl;
  keeps = record { outcomes_are = refl; requests_are = refl; reply_is = refl; latest_is = refl; configuration_is = refl };
  in_order = refl;
}

-- the value that a result has
abbrev pub from_ok : {A E : Type 0} → A → Result A E → A
from_ok other (Ok x) = x
from_ok other (Err e) = other

abbrev refusal : List Line → ScriptFault → Result (List Line) ScriptError
refusal before f = Err (record { line = length before + 1; fault = f })

abbrev whole : List Line → Result (List Line) ScriptError
whole said = Ok said

read-last : (before said : List Line) (l : List ℕ) (more : Line) → said ≡ before → IsRead (has_reply said) l (Ok more) → in_order (latest_from 0 said) (Ok more) ≡ Ok more → AreRead before (l ∷ []) (Ok (said ++ more ∷ []))
read-last before said l more same is order =
    let goal : Result (List Line) ScriptError = Ok (said ++ more ∷ []) in
    let r : Result Line LineFaultValue = Ok more in
    let P : List Line → Type 0 = λ x. AreRead x (l ∷ []) goal in
    let M : Result Line ScriptFault → Type 0 = λ o. MatchResult o (λ m. AreRead (said ++ m ∷ []) [] goal) (λ f. goal ≡ Err (record { line = length said + 1; fault = f })) in
    subst P same (r, is, subst M (sym order) refl)

read-more : (before : List Line) (ls : List (List ℕ)) (said : List Line) (l : List ℕ) (more : Line) → AreRead before ls (Ok said) → IsRead (has_reply said) l (Ok more) → in_order (latest_from 0 said) (Ok more) ≡ Ok more → AreRead before (ls ++ l ∷ []) (Ok (said ++ more ∷ []))
read-more before [] said l more e is order = read-last before said l more (ap (from_ok said) e) is order
read-more before (x ∷ ls) said l more (read, own, rest) is order = (read, own, by (λ m rest. read-more (before ++ m ∷ []) ls said l more rest is order) (in_order (latest_from 0 before) read) rest)
  where
    by : ((m : Line) → AreRead (before ++ m ∷ []) ls (Ok said) → AreRead (before ++ m ∷ []) (ls ++ l ∷ []) (Ok (said ++ more ∷ []))) → (o : Result Line ScriptFault) → MatchResult o (λ m. AreRead (before ++ m ∷ []) ls (Ok said)) (λ f. whole said ≡ refusal before f)
        → MatchResult o (λ m. AreRead (before ++ m ∷ []) (ls ++ l ∷ []) (Ok (said ++ more ∷ []))) (λ f. whole (said ++ more ∷ []) ≡ refusal before f)
    by go (Ok m) rest = go m rest
    by go (Err f) e = absurd (let h = e in cc)

script-more : (ls : List (List ℕ)) (said : List Line) (reader : ReaderValue) (l : List ℕ) (more : Line) (after : ReaderValue) → IsScript ls said reader → list_all is_allowed l ≡ true → IsRead (has_reply said) l (Ok more) → in_order (latest_from 0 said) (Ok more) ≡ Ok more
    → Keeps after (said ++ more ∷ []) → after.configuration.table ≡ false → IsScript (ls ++ l ∷ []) (said ++ more ∷ []) after
script-more ls said reader l more after is own read order keeps straight = record {
  allowed = allowed-append ls (l ∷ []) is.allowed (own, tt);
  read = read-more [] ls said l more is.read read order;
  keeps = keeps;
  in_order = straight;
}

-- the line of fields
abbrev pub written : List (List ℕ) → List ℕ
written [] = []
written (f ∷ fs) = line_of f fs

pub written-text : (given : List (List ℕ)) → fields_text given ≡ whole_lines (written given ∷ [])
written-text [] = refl
written-text (f ∷ fs) = refl

written-allowed : (given : List (List ℕ)) → AreFields given → list_all is_allowed (written given) ≡ true
written-allowed [] own = refl
written-allowed (f ∷ fs) own = line-allowed f fs own.0 own.1

written-read : (b : Bool) (given : List (List ℕ)) (said : Line) → AreFields given → IsSaid b given (Ok said) → (said ≡ line.Blank → ⊥) → IsRead b (written given) (Ok said)
written-read b [] said own is some = absurd (some cc)
written-read b (f ∷ fs) said own is some = line-read b f fs said own.0 own.1 is

module _ (ls : List (List ℕ)) (said : List Line) (reader : ReaderValue) (is : IsScript ls said reader) where
  pub more-line : (l : List ℕ) (one : Setting) → list_all is_allowed l ≡ true → IsRead (has_reply said) l (Ok (line.Configuration one)) → IsNoMode one
      → IsScript (ls ++ l ∷ []) (said ++ line.Configuration one ∷ []) (record reader { configuration = with_setting one reader.configuration })
  more-line l one own read kind =
      script-more ls said reader l (line.Configuration one) (record reader { configuration = with_setting one reader.configuration }) is own read refl
      (keeps-configuration reader said one is.keeps) (straight one kind)
    where
      straight : (x : Setting) → IsNoMode x → (with_setting x reader.configuration).table ≡ false
      straight (setting.Option y) k = is.in_order
      straight (setting.Domain y) k = is.in_order
      straight (setting.Search y) k = is.in_order
      straight (setting.Upstream y) k = absurd k

  pub more-setting : (given : List (List ℕ)) (one : Setting) → AreFields given → IsSaid (has_reply said) given (Ok (line.Configuration one)) → IsNoMode one
      → IsScript (ls ++ written given ∷ []) (said ++ line.Configuration one ∷ []) (record reader { configuration = with_setting one reader.configuration })
  more-setting given one own says kind =
      more-line (written given) one (written-allowed given own) (written-read (has_reply said) given (line.Configuration one) own says (λ e. let h = e in cc)) kind

  pub more-reply : (given : List (List ℕ)) (head : ReplyHead) → AreFields given → IsSaid (has_reply said) given (Ok (line.Reply head))
      → IsScript (ls ++ written given ∷ []) (said ++ line.Reply head ∷ []) (record reader { closed = reader.closed ++ opened reader.open_reply; open_reply = Some (record { query = head.query; message = opened_response head }) })
  more-reply given head own says =
      script-more ls said reader (written given) (line.Reply head) (record reader { closed = reader.closed ++ opened reader.open_reply; open_reply = Some (record { query = head.query; message = opened_response head }) }) is (written-allowed given own) (written-read (has_reply said) given (line.Reply head) own says (λ e. let h = e in cc)) refl
      (keeps-reply reader said head is.keeps) is.in_order

  pub more-record : (given : List (List ℕ)) (section : Section) (found : RecordValue) (reply : OpenReply) → AreFields given → IsSaid (has_reply said) given (Ok (line.Record section found)) → reader.open_reply ≡ Some reply
      → IsScript (ls ++ written given ∷ []) (said ++ line.Record section found ∷ []) (record reader { open_reply = Some (answered section found reply) })
  more-record given section found reply own says is_open =
      script-more ls said reader (written given) (line.Record section found) (record reader { open_reply = Some (answered section found reply) }) is (written-allowed given own) (written-read (has_reply said) given (line.Record section found) own says (λ e. let h = e in cc)) refl
      (keeps-record reader said reply section found is_open is.keeps) is.in_order

  pub more-failure : (given : List (List ℕ)) (failure : Failure) → AreFields given → IsSaid (has_reply said) given (Ok (line.Fail failure))
      → IsScript (ls ++ written given ∷ []) (said ++ line.Fail failure ∷ []) (record reader { closed = reader.closed ++ opened reader.open_reply ++ failure_outcome failure ∷ []; open_reply = None })
  more-failure given failure own says =
      script-more ls said reader (written given) (line.Fail failure) (record reader { closed = reader.closed ++ opened reader.open_reply ++ failure_outcome failure ∷ []; open_reply = None }) is (written-allowed given own) (written-read (has_reply said) given (line.Fail failure) own says (λ e. let h = e in cc)) refl
      (keeps-failure reader said failure is.keeps) is.in_order

  pub more-request : (q : RequestValue) (r : Request) → request_of r ≡ q → IsWritable q → reader.latest ≤ moment_of q
      → IsScript (ls ++ line_of (codes "at") (asked_fields q) ∷ []) (said ++ line.Request r ∷ []) (record reader { requests = reader.requests ++ request_of r ∷ []; latest = moment_of (request_of r) })
  more-request q r same own order =
      let at : IsField (codes "at") = record { filled = refl; plain = refl; allowed = refl } in
      let late : nat_lt (moment_of (request_of r)) (latest_from 0 said) ≡ false = (let k = is.keeps.latest_is in let m = ap moment_of same in grind (arith, nat_tests)) in
      script-more ls said reader (line_of (codes "at") (asked_fields q)) (line.Request r) (record reader { requests = reader.requests ++ request_of r ∷ []; latest = moment_of (request_of r) }) is (line-allowed (codes "at") (asked_fields q) at (asked-fields q own)) (request-read (has_reply said) q r same own) (rw late refl)
      (keeps-request reader said r is.keeps) is.in_order
