-- A line is read and kept.
use Rattle.std.proofs.Common.{◌≡◌, ◌∙◌, ◌⊎◌, ◌<◌, ◌≤◌, ℕ, Bool, true, false, List, [], ◌∷◌, ◌++◌, Option, None, Some, Result, Ok, Err, OnOk, IfErr, IsOkUnless, MatchResult, MatchOption, refl, sym, ap, subst, inl, inr, arith, nat_lt}
use Rattle.std.proofs.lemmas.Bool.Decides.{nat_tests}
use Rattle.std.specs.Option.{is_some}
use Rattle.hickory_proto_core.specs.Records.{RecordValue}
use Rattle.hickory_resolver_lookup.specs.Requests.{request_of}
use Rattle.hickory_resolver_lookup.specs.declared.request.Request.{Request as AskedRequest}
use Rattle.hickory_resolver_model.specs.Run.{moment_of}
use Rattle.replay_script.specs.Faults.{out_of_memory}
use Rattle.replay_script.specs.Line.{IsRead, is_record}
use Rattle.replay_script.specs.ReplyLine.{opened_response}
use Rattle.replay_script.specs.Script.{has_reply, latest_from}
use Rattle.replay_script.specs.Reader.{ReaderValue, Keeps, IsTaken, IsAnswered, opened, answered, failure_outcome}
use Rattle.replay_script.specs.Configuration.{with_setting}
use Rattle.replay_script.specs.declared.fail_line.Failure.{Failure}
use Rattle.replay_script.specs.declared.fault.ScriptFault.{ScriptFault}
use Rattle.replay_script.specs.declared.fault.ScriptFault.TheVariants.{NoReply, MomentBack, OutOfMemory}
use Rattle.replay_script.specs.declared.line.Line.{Line}
use Rattle.replay_script.specs.declared.line.Line.TheVariants.{Configuration, Fail, Record, Reply, Request}
use Rattle.replay_script.specs.declared.record_line.Section.{Section}
use Rattle.replay_script.specs.declared.reply_line.ReplyHead.{ReplyHead}
use Rattle.replay_script.specs.declared.script.OpenReply.{OpenReply}
use Rattle.replay_script.specs.declared.setting.Setting.{Setting}
use Rattle.replay_script.proofs.Said.{keeps-configuration, keeps-failure, keeps-record, keeps-reply, keeps-request}

-- what was read
pub read_as : (b : Bool) (reader : ReaderValue) (said : List Line) (line : List ℕ) (l more : Line) → b ≡ is_some reader.open_reply → Keeps reader said → l ≡ more
    → IsRead b line (Ok l) ⊎ (Ok l ≡ Err out_of_memory) → IsRead (has_reply said) line (Ok more)
read_as b reader said line l more b_is k l_is (inl read) =
    let P : Bool → Type 0 = λ b. IsRead b line (Ok more) in
    let Q : Line → Type 0 = λ l. IsRead b line (Ok l) in
    subst P (b_is ∙ k.reply_is) (subst Q l_is read)
read_as b reader said line l more b_is k l_is (inr out) = absurd (let e = out in cc)

pub taken-reply : (before after : ReaderValue) (said : List Line) (line : List ℕ) (head : ReplyHead) (result : Result (Unit {0}) ScriptFault) → Keeps before said → IsRead (has_reply said) line (Ok (Reply head))
    → OnOk result (after ≡ record before { closed = before.closed ++ opened before.open_reply; open_reply = Some (record { query = head.query; message = opened_response head }) })
    → IsOkUnless result OutOfMemory → IsTaken said line result after
taken-reply before after said line head (Ok u) k read ok err =
    let P : ReaderValue → Type 0 = λ r. Keeps r (said ++ Reply head ∷ []) in
    (Reply head, read, refl, subst P (sym ok) (keeps-reply before said head k))
taken-reply before after said line head (Err fault) k read ok err = inl err

pub taken-failure : (before after : ReaderValue) (said : List Line) (line : List ℕ) (failure : Failure) (result : Result (Unit {0}) ScriptFault) → Keeps before said → IsRead (has_reply said) line (Ok (Fail failure))
    → OnOk result (after ≡ record before { closed = before.closed ++ opened before.open_reply ++ failure_outcome failure ∷ []; open_reply = None })
    → IsOkUnless result OutOfMemory → IsTaken said line result after
taken-failure before after said line failure (Ok u) k read ok err =
    let P : ReaderValue → Type 0 = λ r. Keeps r (said ++ Fail failure ∷ []) in
    (Fail failure, read, refl, subst P (sym ok) (keeps-failure before said failure k))
taken-failure before after said line failure (Err fault) k read ok err = inl err

record_by : (o : Option OpenReply) (before after : ReaderValue) (said : List Line) (line : List ℕ) (section : Section) (found : RecordValue) (result : Result (Unit {0}) ScriptFault) → before.open_reply ≡ o → is_some before.open_reply ≡ true → Keeps before said → IsRead (has_reply said) line (Ok (Record section found))
    → MatchOption o (result ≡ Err NoReply) (λ reply. MatchResult result (λ _. after ≡ record before { open_reply = Some (answered section found reply) }) (λ fault. fault ≡ OutOfMemory))
    → IsTaken said line result after
record_by None before after said line section found result o_is some k read did = absurd (let e = some in let f = ap is_some o_is in cc)
record_by (Some reply) before after said line section found (Ok u) o_is some k read did =
    let P : ReaderValue → Type 0 = λ r. Keeps r (said ++ Record section found ∷ []) in
    (Record section found, read, refl, subst P (sym did) (keeps-record before said reply section found o_is k))
record_by (Some reply) before after said line section found (Err fault) o_is some k read did = inl did

pub taken-record : (before after : ReaderValue) (said : List Line) (line : List ℕ) (section : Section) (found : RecordValue) (l : Line) (b : Bool) (result : Result (Unit {0}) ScriptFault)
    → b ≡ is_some before.open_reply → (is_record l ≡ true → b ≡ true) → l ≡ Record section found → Keeps before said → IsRead (has_reply said) line (Ok (Record section found))
    → IsAnswered before section found result after → IsTaken said line result after
taken-record before after said line section found l b result b_is placed l_is k read did =
    record_by before.open_reply before after said line section found result refl (sym b_is ∙ placed (ap is_record l_is)) k read did

pub taken-request : (before after : ReaderValue) (said : List Line) (line : List ℕ) (request : AskedRequest) (result : Result (Unit {0}) ScriptFault) → Keeps before said → IsRead (has_reply said) line (Ok (Request request))
    → OnOk result (after ≡ record before { requests = before.requests ++ request_of request ∷ []; latest = moment_of (request_of request) })
    → OnOk result (before.latest ≤ moment_of (request_of request))
    → IfErr result (λ fault. (fault ≡ OutOfMemory) ⊎ ((fault ≡ MomentBack) × (moment_of (request_of request) < before.latest)))
    → IsTaken said line result after
taken-request before after said line request (Ok u) k read ok order err =
    let P : ReaderValue → Type 0 = λ r. Keeps r (said ++ Request request ∷ []) in
    let late : before.latest ≤ moment_of (request_of request) = order in
    let same = k.latest_is in
    let not_before : nat_lt (moment_of (request_of request)) (latest_from 0 said) ≡ false = grind (arith, nat_tests) in
    (Request request, read, rw not_before, subst P (sym ok) (keeps-request before said request k))
taken-request before after said line request (Err fault) k read ok order (inl out) = inl out
taken-request before after said line request (Err fault) k read ok order (inr (back, less)) =
    let same = k.latest_is in
    let early : nat_lt (moment_of (request_of request)) (latest_from 0 said) ≡ true = grind (arith, nat_tests) in
    inr (Ok (Request request), read, rw early (ap Err (sym back)))

pub taken-configuration : (before after : ReaderValue) (said : List Line) (line : List ℕ) (setting : Setting) (result : Result (Unit {0}) ScriptFault) → Keeps before said → IsRead (has_reply said) line (Ok (Configuration setting))
    → OnOk result (after ≡ record before { configuration = with_setting setting before.configuration })
    → IsOkUnless result OutOfMemory → IsTaken said line result after
taken-configuration before after said line setting (Ok u) k read ok err =
    let P : ReaderValue → Type 0 = λ r. Keeps r (said ++ Configuration setting ∷ []) in
    (Configuration setting, read, refl, subst P (sym ok) (keeps-configuration before said setting k))
taken-configuration before after said line setting (Err fault) k read ok err = inl err
