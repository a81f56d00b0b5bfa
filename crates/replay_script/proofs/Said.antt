-- What lines say together, when one more line is read.
use Rattle.std.proofs.Common.{◌≡◌, ◌∙◌, ℕ, Bool, true, false, List, [], ◌∷◌, ◌++◌, None, Some, Ok, Err, refl, sym, ap}
use Rattle.std.proofs.lemmas.List.{append-nil}
use Rattle.std.specs.Option.{is_some}
use Rattle.hickory_proto_core.specs.Handles.{OutcomeValue}
use Rattle.hickory_proto_core.specs.Messages.{MessageValue}
use Rattle.hickory_proto_core.specs.Records.{RecordValue}
use Rattle.hickory_proto_core.specs.declared.query.Query.{Query}
use Rattle.hickory_resolver_lookup.specs.Requests.{request_of}
use Rattle.hickory_resolver_lookup.specs.declared.request.Request.{Request as AskedRequest}
use Rattle.hickory_resolver_model.specs.Run.{moment_of}
use Rattle.replay_script.specs.FailLine.{error_of}
use Rattle.replay_script.specs.RecordLine.{with_record}
use Rattle.replay_script.specs.ReplyLine.{opened_response}
use Rattle.replay_script.specs.Script.{with_records, outcomes_of, requests_of, settings_of, reply_from, latest_from}
use Rattle.replay_script.specs.Reader.{ReaderValue, Keeps, opened, answered, failure_outcome}
use Rattle.replay_script.specs.Configuration.{configured, with_setting}
use Rattle.replay_script.specs.declared.fail_line.Failure.{Failure}
use Rattle.replay_script.specs.declared.line.Line.{Line}
use Rattle.replay_script.specs.declared.line.Line.TheVariants.{Blank, Configuration, Fail, Record, Reply, Request}
use Rattle.replay_script.specs.declared.record_line.Section.{Section}
use Rattle.replay_script.specs.declared.reply_line.ReplyHead.{ReplyHead}
use Rattle.replay_script.specs.declared.script.OpenReply.{OpenReply}
use Rattle.replay_script.specs.declared.setting.Setting.{Setting}
use Rattle.replay_script.proofs.Settings.{configured-push}

-- a line that is no record leaves the records of the reply before it as they are
AddsNothing : Line → Type 0
AddsNothing x = (m : MessageValue) → with_records m (x ∷ []) ≡ m

with_records-push : (m : MessageValue) (said : List Line) (x : Line) → AddsNothing x → with_records m (said ++ x ∷ []) ≡ with_records m said
unfolding AddsNothing
with_records-push m [] x none = none m
with_records-push m (Blank ∷ said) x none = with_records-push m said x none
with_records-push m (Reply head ∷ said) x none = refl
with_records-push m (Fail failure ∷ said) x none = refl
with_records-push m (Record section found ∷ said) x none = with_records-push (with_record section found m) said x none
with_records-push m (Request request ∷ said) x none = with_records-push m said x none
with_records-push m (Configuration setting ∷ said) x none = with_records-push m said x none

outcomes_of-push : (said : List Line) (x : Line) → AddsNothing x → outcomes_of (said ++ x ∷ []) ≡ outcomes_of said ++ outcomes_of (x ∷ [])
outcomes_of-push [] x none = refl
outcomes_of-push (Blank ∷ said) x none = outcomes_of-push said x none
outcomes_of-push (Reply head ∷ said) x none =
    ap (λ m. (head.query, Ok m) ∷ outcomes_of (said ++ x ∷ [])) (with_records-push (opened_response head) said x none)
    ∙ ap (λ os. (head.query, Ok (with_records (opened_response head) said)) ∷ os) (outcomes_of-push said x none)
outcomes_of-push (Fail failure ∷ said) x none = ap (λ os. (failure.query, Err (error_of failure.kind)) ∷ os) (outcomes_of-push said x none)
outcomes_of-push (Record section found ∷ said) x none = outcomes_of-push said x none
outcomes_of-push (Request request ∷ said) x none = outcomes_of-push said x none
outcomes_of-push (Configuration setting ∷ said) x none = outcomes_of-push said x none

requests_of-push : (said : List Line) (x : Line) → requests_of (said ++ x ∷ []) ≡ requests_of said ++ requests_of (x ∷ [])
requests_of-push [] x = refl
requests_of-push (Blank ∷ said) x = requests_of-push said x
requests_of-push (Reply head ∷ said) x = requests_of-push said x
requests_of-push (Fail failure ∷ said) x = requests_of-push said x
requests_of-push (Record section found ∷ said) x = requests_of-push said x
requests_of-push (Request request ∷ said) x = ap (λ rs. request_of request ∷ rs) (requests_of-push said x)
requests_of-push (Configuration setting ∷ said) x = requests_of-push said x

reply_from-push : (given : Bool) (said : List Line) (x : Line) → reply_from given (said ++ x ∷ []) ≡ reply_from (reply_from given said) (x ∷ [])
reply_from-push given [] x = refl
reply_from-push given (Blank ∷ said) x = reply_from-push given said x
reply_from-push given (Reply head ∷ said) x = reply_from-push true said x
reply_from-push given (Fail failure ∷ said) x = reply_from-push false said x
reply_from-push given (Record section found ∷ said) x = reply_from-push given said x
reply_from-push given (Request request ∷ said) x = reply_from-push given said x
reply_from-push given (Configuration setting ∷ said) x = reply_from-push given said x

latest_from-push : (moment : ℕ) (said : List Line) (x : Line) → latest_from moment (said ++ x ∷ []) ≡ latest_from (latest_from moment said) (x ∷ [])
latest_from-push moment [] x = refl
latest_from-push moment (Blank ∷ said) x = latest_from-push moment said x
latest_from-push moment (Reply head ∷ said) x = latest_from-push moment said x
latest_from-push moment (Fail failure ∷ said) x = latest_from-push moment said x
latest_from-push moment (Record section found ∷ said) x = latest_from-push moment said x
latest_from-push moment (Request request ∷ said) x = latest_from-push (moment_of (request_of request)) said x
latest_from-push moment (Configuration setting ∷ said) x = latest_from-push moment said x

settings_of-push : (said : List Line) (x : Line) → settings_of (said ++ x ∷ []) ≡ settings_of said ++ settings_of (x ∷ [])
settings_of-push [] x = refl
settings_of-push (Blank ∷ said) x = settings_of-push said x
settings_of-push (Reply head ∷ said) x = settings_of-push said x
settings_of-push (Fail failure ∷ said) x = settings_of-push said x
settings_of-push (Record section found ∷ said) x = settings_of-push said x
settings_of-push (Request request ∷ said) x = settings_of-push said x
settings_of-push (Configuration setting ∷ said) x = ap (λ ss. setting ∷ ss) (settings_of-push said x)

-- a record goes to the last of some outcomes
put_record : Section → RecordValue → List (Query × OutcomeValue) → List (Query × OutcomeValue)
put_record section found [] = []
put_record section found ((query, Ok message) ∷ []) = (query, Ok (with_record section found message)) ∷ []
put_record section found ((query, Err error) ∷ []) = (query, Err error) ∷ []
put_record section found (x ∷ y ∷ outcomes) = x ∷ put_record section found (y ∷ outcomes)

put_last : (section : Section) (found : RecordValue) (closed : List (Query × OutcomeValue)) (query : Query) (message : MessageValue) → put_record section found (closed ++ (query, Ok message) ∷ []) ≡ closed ++ (query, Ok (with_record section found message)) ∷ []
unfolding put_record
put_last section found [] query message = refl
put_last section found (x ∷ []) query message = refl
put_last section found (x ∷ y ∷ closed) query message = ap (λ os. x ∷ os) (put_last section found (y ∷ closed) query message)

-- whether there is an outcome
has_outcome : List Line → Bool
has_outcome [] = false
has_outcome (Blank ∷ said) = has_outcome said
has_outcome (Reply head ∷ said) = true
has_outcome (Fail failure ∷ said) = true
has_outcome (Record section found ∷ said) = has_outcome said
has_outcome (Request request ∷ said) = has_outcome said
has_outcome (Configuration setting ∷ said) = has_outcome said

-- a record behind no outcome, and behind one
record IsUnanswered (section : Section) (found : RecordValue) (said : List Line) : Type 0 where
  outcomes_are : outcomes_of said ≡ []
  still : outcomes_of (said ++ Record section found ∷ []) ≡ []
  added : (m : MessageValue) → with_records m (said ++ Record section found ∷ []) ≡ with_record section found (with_records m said)

unanswered : (section : Section) (found : RecordValue) (said : List Line) → has_outcome said ≡ false → IsUnanswered section found said
unfolding has_outcome
unanswered section found [] none = record { outcomes_are = refl; still = refl; added = λ m. refl }
unanswered section found (Blank ∷ said) none = let r = unanswered section found said none in record { outcomes_are = r.outcomes_are; still = r.still; added = r.added }
unanswered section found (Reply head ∷ said) none = absurd (let e = none in cc)
unanswered section found (Fail failure ∷ said) none = absurd (let e = none in cc)
unanswered section found (Record other more ∷ said) none = let r = unanswered section found said none in record { outcomes_are = r.outcomes_are; still = r.still; added = λ m. r.added (with_record other more m) }
unanswered section found (Request request ∷ said) none = let r = unanswered section found said none in record { outcomes_are = r.outcomes_are; still = r.still; added = r.added }
unanswered section found (Configuration setting ∷ said) none = let r = unanswered section found said none in record { outcomes_are = r.outcomes_are; still = r.still; added = r.added }

record IsReplied (said : List Line) : Type 0 where
  query : Query
  outcome : OutcomeValue
  others : List (Query × OutcomeValue)
  outcomes_are : outcomes_of said ≡ (query, outcome) ∷ others

replied : (said : List Line) → has_outcome said ≡ true → IsReplied said
unfolding has_outcome
replied [] some = absurd (let e = some in cc)
replied (Blank ∷ said) some = let r = replied said some in record { query = r.query; outcome = r.outcome; others = r.others; outcomes_are = r.outcomes_are }
replied (Reply head ∷ said) some = record { query = head.query; outcome = Ok (with_records (opened_response head) said); others = outcomes_of said; outcomes_are = refl }
replied (Fail failure ∷ said) some = record { query = failure.query; outcome = Err (error_of failure.kind); others = outcomes_of said; outcomes_are = refl }
replied (Record section found ∷ said) some = let r = replied said some in record { query = r.query; outcome = r.outcome; others = r.others; outcomes_are = r.outcomes_are }
replied (Request request ∷ said) some = let r = replied said some in record { query = r.query; outcome = r.outcome; others = r.others; outcomes_are = r.outcomes_are }
replied (Configuration setting ∷ said) some = let r = replied said some in record { query = r.query; outcome = r.outcome; others = r.others; outcomes_are = r.outcomes_are }

with_records-behind : (m : MessageValue) (section : Section) (found : RecordValue) (said : List Line) → has_outcome said ≡ true → with_records m (said ++ Record section found ∷ []) ≡ with_records m said
unfolding has_outcome
with_records-behind m section found [] some = absurd (let e = some in cc)
with_records-behind m section found (Blank ∷ said) some = with_records-behind m section found said some
with_records-behind m section found (Reply head ∷ said) some = refl
with_records-behind m section found (Fail failure ∷ said) some = refl
with_records-behind m section found (Record other more ∷ said) some = with_records-behind (with_record other more m) section found said some
with_records-behind m section found (Request request ∷ said) some = with_records-behind m section found said some
with_records-behind m section found (Configuration setting ∷ said) some = with_records-behind m section found said some

behind_reply : (b : Bool) (section : Section) (found : RecordValue) (head : ReplyHead) (said : List Line) → has_outcome said ≡ b → outcomes_of (said ++ Record section found ∷ []) ≡ put_record section found (outcomes_of said)
    → outcomes_of (Reply head ∷ said ++ Record section found ∷ []) ≡ put_record section found (outcomes_of (Reply head ∷ said))
unfolding has_outcome put_record
behind_reply true section found head said some rest =
    let r = replied said some in
    let first : Query × OutcomeValue = (head.query, Ok (with_records (opened_response head) said)) in
    ap (λ m. (head.query, Ok m) ∷ outcomes_of (said ++ Record section found ∷ [])) (with_records-behind (opened_response head) section found said some)
    ∙ ap (λ os. first ∷ os) (rest ∙ ap (put_record section found) r.outcomes_are)
    ∙ sym (ap (λ os. put_record section found (first ∷ os)) r.outcomes_are)
behind_reply false section found head said none rest =
    let r = unanswered section found said none in
    ap (λ os. (head.query, Ok (with_records (opened_response head) (said ++ Record section found ∷ []))) ∷ os) r.still
    ∙ ap (λ m. (head.query, Ok m) ∷ []) (r.added (opened_response head))
    ∙ sym (ap (λ os. put_record section found ((head.query, Ok (with_records (opened_response head) said)) ∷ os)) r.outcomes_are)

behind_failure : (b : Bool) (section : Section) (found : RecordValue) (failure : Failure) (said : List Line) → has_outcome said ≡ b → outcomes_of (said ++ Record section found ∷ []) ≡ put_record section found (outcomes_of said)
    → outcomes_of (Fail failure ∷ said ++ Record section found ∷ []) ≡ put_record section found (outcomes_of (Fail failure ∷ said))
unfolding has_outcome put_record
behind_failure true section found failure said some rest =
    let r = replied said some in
    let first : Query × OutcomeValue = (failure.query, Err (error_of failure.kind)) in
    ap (λ os. first ∷ os) (rest ∙ ap (put_record section found) r.outcomes_are)
    ∙ sym (ap (λ os. put_record section found (first ∷ os)) r.outcomes_are)
behind_failure false section found failure said none rest =
    let r = unanswered section found said none in
    let first : Query × OutcomeValue = (failure.query, Err (error_of failure.kind)) in
    ap (λ os. first ∷ os) r.still ∙ sym (ap (λ os. put_record section found (first ∷ os)) r.outcomes_are)

outcomes_of-record : (section : Section) (found : RecordValue) (said : List Line) → outcomes_of (said ++ Record section found ∷ []) ≡ put_record section found (outcomes_of said)
unfolding has_outcome put_record
outcomes_of-record section found [] = refl
outcomes_of-record section found (Blank ∷ said) = outcomes_of-record section found said
outcomes_of-record section found (Reply head ∷ said) = behind_reply (has_outcome said) section found head said refl (outcomes_of-record section found said)
outcomes_of-record section found (Fail failure ∷ said) = behind_failure (has_outcome said) section found failure said refl (outcomes_of-record section found said)
outcomes_of-record section found (Record other more ∷ said) = outcomes_of-record section found said
outcomes_of-record section found (Request request ∷ said) = outcomes_of-record section found said
outcomes_of-record section found (Configuration setting ∷ said) = outcomes_of-record section found said

none_blank : AddsNothing Blank
unfolding AddsNothing
none_blank = λ m. refl

none_reply : (head : ReplyHead) → AddsNothing (Reply head)
unfolding AddsNothing
none_reply head = λ m. refl

none_failure : (failure : Failure) → AddsNothing (Fail failure)
unfolding AddsNothing
none_failure failure = λ m. refl

none_configuration : (setting : Setting) → AddsNothing (Configuration setting)
unfolding AddsNothing
none_configuration setting = λ m. refl

none_request : (request : AskedRequest) → AddsNothing (Request request)
unfolding AddsNothing
none_request request = λ m. refl

pub keeps-blank : (reader : ReaderValue) (said : List Line) → Keeps reader said → Keeps reader (said ++ Blank ∷ [])
keeps-blank reader said k = record {
  outcomes_are = k.outcomes_are ∙ sym (append-nil _) ∙ sym (outcomes_of-push said Blank none_blank);
  requests_are = k.requests_are ∙ sym (append-nil _) ∙ sym (requests_of-push said Blank);
  reply_is = k.reply_is ∙ sym (reply_from-push false said Blank);
  latest_is = k.latest_is ∙ sym (latest_from-push 0 said Blank);
  configuration_is = k.configuration_is ∙ ap configured (sym (append-nil _) ∙ sym (settings_of-push said Blank));
}

pub keeps-reply : (reader : ReaderValue) (said : List Line) (head : ReplyHead) → Keeps reader said
    → Keeps (record reader { closed = reader.closed ++ opened reader.open_reply; open_reply = Some (record { query = head.query; message = opened_response head }) }) (said ++ Reply head ∷ [])
keeps-reply reader said head k = record {
  outcomes_are = ap (λ os. os ++ (head.query, Ok (opened_response head)) ∷ []) k.outcomes_are ∙ sym (outcomes_of-push said (Reply head) (none_reply head));
  requests_are = k.requests_are ∙ sym (append-nil _) ∙ sym (requests_of-push said (Reply head));
  reply_is = sym (reply_from-push false said (Reply head));
  latest_is = k.latest_is ∙ sym (latest_from-push 0 said (Reply head));
  configuration_is = k.configuration_is ∙ ap configured (sym (append-nil _) ∙ sym (settings_of-push said (Reply head)));
}

pub keeps-failure : (reader : ReaderValue) (said : List Line) (failure : Failure) → Keeps reader said
    → Keeps (record reader { closed = reader.closed ++ opened reader.open_reply ++ failure_outcome failure ∷ []; open_reply = None }) (said ++ Fail failure ∷ [])
keeps-failure reader said failure k = record {
  outcomes_are = append-nil _ ∙ ap (λ os. os ++ failure_outcome failure ∷ []) k.outcomes_are ∙ sym (outcomes_of-push said (Fail failure) (none_failure failure));
  requests_are = k.requests_are ∙ sym (append-nil _) ∙ sym (requests_of-push said (Fail failure));
  reply_is = sym (reply_from-push false said (Fail failure));
  latest_is = k.latest_is ∙ sym (latest_from-push 0 said (Fail failure));
  configuration_is = k.configuration_is ∙ ap configured (sym (append-nil _) ∙ sym (settings_of-push said (Fail failure)));
}

pub keeps-record : (reader : ReaderValue) (said : List Line) (reply : OpenReply) (section : Section) (found : RecordValue) → reader.open_reply ≡ Some reply → Keeps reader said
    → Keeps (record reader { open_reply = Some (answered section found reply) }) (said ++ Record section found ∷ [])
keeps-record reader said reply section found is k =
    let before : reader.closed ++ (reply.query, Ok reply.message) ∷ [] ≡ outcomes_of said = ap (λ o. reader.closed ++ opened o) (sym is) ∙ k.outcomes_are in
    record {
      outcomes_are = sym (put_last section found reader.closed reply.query reply.message) ∙ ap (put_record section found) before ∙ sym (outcomes_of-record section found said);
      requests_are = k.requests_are ∙ sym (append-nil _) ∙ sym (requests_of-push said (Record section found));
      reply_is = ap is_some (sym is) ∙ k.reply_is ∙ sym (reply_from-push false said (Record section found));
      latest_is = k.latest_is ∙ sym (latest_from-push 0 said (Record section found));
      configuration_is = k.configuration_is ∙ ap configured (sym (append-nil _) ∙ sym (settings_of-push said (Record section found)));
    }

pub keeps-request : (reader : ReaderValue) (said : List Line) (request : AskedRequest) → Keeps reader said
    → Keeps (record reader { requests = reader.requests ++ request_of request ∷ []; latest = moment_of (request_of request) }) (said ++ Request request ∷ [])
keeps-request reader said request k = record {
  outcomes_are = k.outcomes_are ∙ sym (append-nil _) ∙ sym (outcomes_of-push said (Request request) (none_request request));
  requests_are = ap (λ rs. rs ++ request_of request ∷ []) k.requests_are ∙ sym (requests_of-push said (Request request));
  reply_is = k.reply_is ∙ sym (reply_from-push false said (Request request));
  latest_is = sym (latest_from-push 0 said (Request request));
  configuration_is = k.configuration_is ∙ ap configured (sym (append-nil _) ∙ sym (settings_of-push said (Request request)));
}

pub keeps-configuration : (reader : ReaderValue) (said : List Line) (setting : Setting) → Keeps reader said
    → Keeps (record reader { configuration = with_setting setting reader.configuration }) (said ++ Configuration setting ∷ [])
keeps-configuration reader said setting k = record {
  outcomes_are = k.outcomes_are ∙ sym (append-nil _) ∙ sym (outcomes_of-push said (Configuration setting) (none_configuration setting));
  requests_are = k.requests_are ∙ sym (append-nil _) ∙ sym (requests_of-push said (Configuration setting));
  reply_is = k.reply_is ∙ sym (reply_from-push false said (Configuration setting));
  latest_is = k.latest_is ∙ sym (latest_from-push 0 said (Configuration setting));
  configuration_is = ap (with_setting setting) k.configuration_is ∙ sym (configured-push (settings_of said) setting) ∙ ap configured (sym (settings_of-push said (Configuration setting)));
}
