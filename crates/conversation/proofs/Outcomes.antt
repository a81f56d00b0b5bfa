-- What comes back for a request in flight, and a request that is cancelled.
use Rattle.std.proofs.Common.{◌≡◌, ◌∙◌, ◌⊎◌, ◌&&◌, ℕ, Bool, true, false, List, [], ◌∷◌, Option, None, Some, Result, Ok, Err, IsErr, MatchOption, string_bytes, refl, sym, ap, subst, inl, inr}
use Rattle.std.specs.Option.{is_some, option_map}
use Rattle.std.specs.declared.alloc.AllocError.{AllocError}
use Rattle.hickory_proto_core.specs.Handles.{OutcomeValue}
use Rattle.hickory_proto_core.specs.ResponseKind.{is_empty}
use Rattle.hickory_proto_core.specs.declared.net_error.NetError.{NetError}
use Rattle.hickory_resolver_theorems.specs.ResumingCalls.{WaitingCallValue}
use Rattle.replay_script.specs.declared.fault.ScriptFault.TheVariants as script
use Rattle.hickory_proto_core.specs.Records.{RecordValue}
use Rattle.replay_script.specs.declared.fail_line.Failure.{Failure}
use Rattle.replay_script.specs.declared.line.Line.{Line}
use Rattle.replay_script.specs.declared.line.Line.TheVariants as line
use Rattle.replay_script.specs.declared.record_line.Section.{Section}
use Rattle.replay_script.specs.declared.reply_line.ReplyHead.{ReplyHead}
use Rattle.replay_script.specs.declared.script.OpenReply.{OpenReply}
use Rattle.conversation.specs.Answers.{Answer, AnswersDone, AnswersInFlight, AnswersLine, AnswersOutcome, AnswersSaid, EndsReply, Feeds, FeedsReply, Takes, cancelled, cancels, keeps, refused, with_line}
use Rattle.conversation.specs.Faults.{RefusalValue, is_memory, of_line, unknown}
use Rattle.conversation.specs.Hearing.{IsFedOut, IsFedWith, IsOutcomeOf, IsServedOut}
use Rattle.conversation.specs.Lines.{IsScriptLine}
use Rattle.conversation.specs.Said as said
use Rattle.conversation.specs.State.{BegunValue, ConversationValue, InFlightValue, Puts, Requests, Phase, request_at}
use Rattle.conversation.specs.Telling.{HasReply, IsActedUpon, IsAnswered, IsFailureOf, IsFed, IsForRequest, IsGiven, IsRefused, OfRequest, PutsSome, nothing_left}
use Rattle.conversation.specs.Texts.{cancelled_text}
use Rattle.conversation.specs.declared.fault.ConversationFault.TheVariants as fault
use Rattle.conversation.specs.declared.heard.Heard.{Heard}
use Rattle.conversation.proofs.Answered.{answered_as, answered_by, answered_out, none_left}
use Rattle.conversation.proofs.Held.{puts_again, some_again, some_stays}
use Rattle.conversation.proofs.Settings.{refused_for, when_false, when_true}
use Rattle.conversation.proofs.Choices.{match_false, match_true}

-- ---- in flight

-- for a request in flight
pub in_flight : (c : ConversationValue) (mark : List ℕ) (Kind : InFlightValue → Answer → Type 0) (answer : Answer) → is_some (request_at mark c.requests) ≡ true → ((r : InFlightValue) → request_at mark c.requests ≡ Some r → Kind r answer) → AnswersInFlight c mark Kind answer
in_flight c mark Kind answer = by (request_at mark c.requests)
  where
    by : (o : Option InFlightValue) → is_some o ≡ true → ((r : InFlightValue) → o ≡ Some r → Kind r answer) → MatchOption o (answer ≡ refused c mark (of_line fault.NoSuchRequest)) (λ r. Kind r answer)
    by None held kind = absurd (let h = held in cc)
    by (Some r) held kind = kind r refl

pub not_in_flight : (c : ConversationValue) (mark : List ℕ) (Kind : InFlightValue → Answer → Type 0) → is_some (request_at mark c.requests) ≡ false → AnswersInFlight c mark Kind (refused c mark (of_line fault.NoSuchRequest))
not_in_flight c mark Kind = by (request_at mark c.requests)
  where
    by : (o : Option InFlightValue) → is_some o ≡ false → MatchOption o (refused c mark (of_line fault.NoSuchRequest) ≡ refused c mark (of_line fault.NoSuchRequest)) (λ r. Kind r (refused c mark (of_line fault.NoSuchRequest)))
    by None none = refl
    by (Some r) none = absurd (let h = none in cc)

-- ---- a request is cancelled

pub cancel_told : (before after : ConversationValue) (mark : List ℕ) (heard : Heard) → string_bytes heard.explained ≡ [] → string_bytes heard.text ≡ cancelled_text mark → string_bytes heard.journal ≡ [] → heard.is_last ≡ false
    → after.lines ≡ before.lines → after.phase ≡ before.phase → Puts mark None before.requests after.requests → IsAnswered before mark (λ answer. answer ≡ cancelled before mark) nothing_left (Ok heard) after
cancel_told before after mark heard explained text journal last lines phase puts =
    answered_by before after mark (λ answer. answer ≡ cancelled before mark) nothing_left heard (cancelled before mark) refl explained text journal last
    (record { lines_are = lines; phase_is = phase; requests_are = puts })

pub cancels_held : (before after : ConversationValue) (mark : List ℕ) (given : List (List ℕ)) (result : Result Heard AllocError) → is_some (request_at mark before.requests) ≡ true → is_empty given ≡ true
    → IsAnswered before mark (λ answer. answer ≡ cancelled before mark) nothing_left result after → IsActedUpon before mark (said.Cancel given) result after
cancels_held before after mark given result held none =
    answered_as before after mark (λ answer. answer ≡ cancelled before mark) (AnswersSaid before mark (said.Cancel given)) nothing_left (IsServedOut before mark (said.Cancel given)) result
    (λ answer is. in_flight before mark (λ r answer. answer ≡ cancels before mark given) answer held
    (λ r found. is ∙ when_true (is_empty given) (cancelled before mark) (refused before mark (of_line (fault.Script script.FieldCount))) none))
    (none_left (IsServedOut before mark (said.Cancel given)))

pub not_cancelled : (c : ConversationValue) (mark : List ℕ) (given : List (List ℕ)) → is_some (request_at mark c.requests) ≡ true → is_empty given ≡ false → AnswersSaid c mark (said.Cancel given) (refused c mark (of_line (fault.Script script.FieldCount)))
not_cancelled c mark given held some =
    let answer = refused c mark (of_line (fault.Script script.FieldCount)) in
    in_flight c mark (λ r answer. answer ≡ cancels c mark given) answer held (λ r found. when_false (is_empty given) (cancelled c mark) answer some)

-- ---- whether a reply is open

-- what is known of a request in flight
pub reply_known : (mark : List ℕ) (requests : Requests) (found : Option Bool) (has_reply : Bool) → found ≡ option_map (λ r. is_some r.reply) (request_at mark requests) → found ≡ Some has_reply → HasReply requests mark has_reply
reply_known mark requests found has_reply is known = sym is ∙ known

pub reply_held : (mark : List ℕ) (requests : Requests) (has_reply : Bool) → HasReply requests mark has_reply → is_some (request_at mark requests) ≡ true
reply_held mark requests has_reply = by (request_at mark requests)
  where
    by : (o : Option InFlightValue) → option_map (λ r. is_some r.reply) o ≡ Some has_reply → is_some o ≡ true
    by None has = absurd (let h = has in cc)
    by (Some r) has = refl

-- and where none is
pub none_held : (mark : List ℕ) (requests : Requests) (found : Option Bool) → found ≡ option_map (λ r. is_some r.reply) (request_at mark requests) → ((b : Bool) → found ≡ Some b → ⊥) → is_some (request_at mark requests) ≡ false
none_held mark requests found = by (request_at mark requests)
  where
    by : (o : Option InFlightValue) → found ≡ option_map (λ r. is_some r.reply) o → ((b : Bool) → found ≡ Some b → ⊥) → is_some o ≡ false
    by None is none = refl
    by (Some r) is none = absurd (none (is_some r.reply) is)

-- the request of which it is known
reply_of : (mark : List ℕ) (requests : Requests) (has_reply : Bool) (r : InFlightValue) → HasReply requests mark has_reply → request_at mark requests ≡ Some r → is_some r.reply ≡ has_reply
reply_of mark requests has_reply r has found =
    let h : Some (is_some r.reply) ≡ Some has_reply = sym (ap (option_map (λ x. is_some x.reply)) found) ∙ has in cc

-- an answer for a request
pub for_request : (before after : ConversationValue) (mark : List ℕ) (Kind Other : InFlightValue → Answer → Type 0) (Comes More : InFlightValue → OutcomeValue → Type 0) (result : Result Heard AllocError)
    → ((r : InFlightValue) → request_at mark before.requests ≡ Some r → (answer : Answer) → Kind r answer → Other r answer)
    → ((r : InFlightValue) (outcome : OutcomeValue) → Comes r outcome → More r outcome)
    → IsForRequest before mark Kind Comes result after → IsForRequest before mark Other More result after
for_request before after mark Kind Other Comes More result turn leave =
    answered_as before after mark (OfRequest before mark Kind) (OfRequest before mark Other) (IsFedWith before mark Comes) (IsFedWith before mark More) result
    (λ answer kind r found. turn r found answer (kind r found)) (λ phase (r, outcome, found, comes, out). (r, outcome, found, leave r outcome comes, out))

-- a fault is told of a request
pub refused_request : (c : ConversationValue) (mark : List ℕ) (refusal wanted : RefusalValue) (Kind : InFlightValue → Answer → Type 0) (Comes : InFlightValue → OutcomeValue → Type 0) (result : Result Heard AllocError) → IsRefused c mark refusal result → refusal ≡ wanted
    → ((r : InFlightValue) → request_at mark c.requests ≡ Some r → is_memory wanted.fault ≡ false → Kind r (refused c mark wanted)) → IsForRequest c mark Kind Comes result c
refused_request c mark refusal wanted Kind Comes result is same kind =
    refused_for c mark refusal wanted (OfRequest c mark Kind) (IsFedWith c mark Comes) result is same (λ told r found. kind r found told)

-- ---- `done`

pub reply_ended : (before after : ConversationValue) (mark : List ℕ) (given : List (List ℕ)) (has_reply : Bool) (result : Result Heard AllocError) → HasReply before.requests mark has_reply → has_reply ≡ true → is_empty given ≡ true
    → IsForRequest before mark (λ r. FeedsReply mark before.phase r) (IsOutcomeOf (said.Done [])) result after → IsActedUpon before mark (said.Done given) result after
reply_ended before after mark (x ∷ xs) has_reply result has open_now none = absurd (let h = none in cc)
reply_ended before after mark [] has_reply result has open_now none =
    answered_as before after mark (OfRequest before mark (λ r. FeedsReply mark before.phase r)) (AnswersSaid before mark (said.Done [])) (IsFedWith before mark (IsOutcomeOf (said.Done []))) (IsServedOut before mark (said.Done [])) result
    (λ answer kind. in_flight before mark (λ r. AnswersDone before mark r []) answer (reply_held mark before.requests has_reply has)
    (λ r found. match_true (is_some r.reply) (FeedsReply mark before.phase r answer) (answer ≡ refused before mark (of_line (fault.Script script.NoReply))) (reply_of mark before.requests has_reply r has found ∙ open_now) (kind r found)))
    (λ phase left. inr left)

pub done_none : (c : ConversationValue) (mark : List ℕ) (given : List (List ℕ)) (has_reply : Bool) → HasReply c.requests mark has_reply → has_reply ≡ false
    → AnswersSaid c mark (said.Done given) (refused c mark (of_line (fault.Script script.NoReply)))
done_none c mark given has_reply has none =
    let answer = refused c mark (of_line (fault.Script script.NoReply)) in
    in_flight c mark (λ r. AnswersDone c mark r given) answer (reply_held mark c.requests has_reply has)
    (λ r found. match_false (is_some r.reply) (EndsReply c mark r given answer) (answer ≡ answer) (reply_of mark c.requests has_reply r has found ∙ none) refl)

pub done_more : (c : ConversationValue) (mark : List ℕ) (given : List (List ℕ)) (has_reply : Bool) → HasReply c.requests mark has_reply → has_reply ≡ true → is_empty given ≡ false
    → AnswersSaid c mark (said.Done given) (refused c mark (of_line (fault.Script script.FieldCount)))
done_more c mark given has_reply has open_now some =
    let answer = refused c mark (of_line (fault.Script script.FieldCount)) in
    in_flight c mark (λ r. AnswersDone c mark r given) answer (reply_held mark c.requests has_reply has)
    (λ r found. match_true (is_some r.reply) (EndsReply c mark r given answer) (answer ≡ refused c mark (of_line (fault.Script script.NoReply))) (reply_of mark c.requests has_reply r has found ∙ open_now)
    (match_false (is_empty given) (FeedsReply mark c.phase r answer) (answer ≡ answer) some refl))

-- ---- a request goes on

-- what is told over a resolver is told of the conversation
pub fed : (before after : ConversationValue) (mark : List ℕ) (begun : BegunValue) (w : WaitingCallValue) (outcome : OutcomeValue) (result : Result Heard AllocError) (phase left : Phase) → before.phase ≡ phase → after.lines ≡ before.lines → after.phase ≡ left
    → IsGiven mark (Feeds mark phase begun w outcome) (IsFedOut phase w outcome) result left before.requests after.requests → IsFed before mark begun w outcome result after
fed before after mark begun w outcome (Ok heard) phase left was lines is (answer, feeds, says, stands, puts) =
    (answer, subst (λ x. Feeds mark x begun w outcome answer) (sym was) feeds, says, record { lines_are = lines; phase_is = is ∙ stands; requests_are = puts })
fed before after mark begun w outcome (Err e) phase left was lines is (out, some) =
    (lines, inr (subst (λ x. IsFedOut x w outcome after.phase) (sym was) (subst (λ x. IsFedOut phase w outcome x) (sym is) out)), some)

pub not_fed : (c : ConversationValue) (mark : List ℕ) (begun : BegunValue) (w : WaitingCallValue) (outcome : OutcomeValue) (e : AllocError) → IsFed c mark begun w outcome (Err e) c
not_fed c mark begun w outcome e = (refl, inl refl, some_stays mark c.requests)

-- a request that was taken out goes on, and nothing else changed before
fed_for : (before mid after : ConversationValue) (mark : List ℕ) (r : InFlightValue) (begun : BegunValue) (outcome : OutcomeValue) (Kind : InFlightValue → Answer → Type 0) (Comes : InFlightValue → OutcomeValue → Type 0) (result : Result Heard AllocError)
    → request_at mark before.requests ≡ Some r → mid.lines ≡ before.lines → mid.phase ≡ before.phase → Puts mark None before.requests mid.requests → Comes r outcome
    → ((answer : Answer) → Feeds mark before.phase begun r.waiting outcome answer → Kind r answer)
    → IsFed mid mark begun r.waiting outcome result after → IsForRequest before mark Kind Comes result after
fed_for before mid after mark r begun outcome Kind Comes (Ok heard) found lines phase taken comes turn (answer, feeds, says, stands) = (
  answer,
  λ q is. let same : r ≡ q = let h : Some r ≡ Some q = sym found ∙ is in cc in subst (λ x. Kind x answer) same (turn answer (subst (λ x. Feeds mark x begun r.waiting outcome answer) phase feeds)),
  says,
  record {
    lines_are = stands.lines_are ∙ lines;
    phase_is = stands.phase_is;
    requests_are = puts_again mark None answer.held before.requests mid.requests after.requests taken stands.requests_are;
  },
)
fed_for before mid after mark r begun outcome Kind Comes (Err e) found lines phase taken comes turn (same, left, some) = record {
  lines_are = same ∙ lines;
  phase_is = by left;
  requests_are = some_again mark None before.requests mid.requests after.requests taken some;
}
  where
    by : (after.phase ≡ mid.phase) ⊎ IsFedOut mid.phase r.waiting outcome after.phase → (after.phase ≡ before.phase) ⊎ IsFedWith before mark Comes after.phase
    by (inl is) = inl (is ∙ phase)
    by (inr out) = inr (r, outcome, found, comes, subst (λ x. IsFedOut x r.waiting outcome after.phase) phase out)

-- the open reply is fed
pub reply_fed : (before mid after : ConversationValue) (mark : List ℕ) (r : InFlightValue) (reply : OpenReply) (outcome : OutcomeValue) (result : Result Heard AllocError)
    → Some r ≡ request_at mark before.requests → r.reply ≡ Some reply → outcome ≡ Ok reply.message → mid.lines ≡ before.lines → mid.phase ≡ before.phase → Puts mark None before.requests mid.requests
    → IsFed mid mark r.begun r.waiting outcome result after → IsForRequest before mark (λ r. FeedsReply mark before.phase r) (IsOutcomeOf (said.Done [])) result after
reply_fed before mid after mark r reply outcome result found is shown lines phase taken =
    fed_for before mid after mark r r.begun outcome (λ r. FeedsReply mark before.phase r) (IsOutcomeOf (said.Done [])) result (sym found) lines phase taken (reply, is, shown)
    (λ answer feeds. (reply, is, subst (λ o. Feeds mark before.phase r.begun r.waiting o answer) shown feeds))

abbrev pub failed : NetError → OutcomeValue
failed error = Err error

-- a failure is fed
pub failure_fed : (before mid after : ConversationValue) (mark : List ℕ) (given : List (List ℕ)) (r : InFlightValue) (begun : BegunValue) (outcome wanted : OutcomeValue) (result : Result Heard AllocError)
    → Some r ≡ request_at mark before.requests → begun ≡ with_line r.begun given → outcome ≡ wanted → mid.lines ≡ before.lines → mid.phase ≡ before.phase → Puts mark None before.requests mid.requests
    → IsFed mid mark begun r.waiting outcome result after → IsForRequest before mark (λ r. Feeds mark before.phase (with_line r.begun given) r.waiting wanted) (λ r o. o ≡ wanted) result after
failure_fed before mid after mark given r begun outcome wanted result found is shown lines phase taken =
    fed_for before mid after mark r begun outcome (λ r. Feeds mark before.phase (with_line r.begun given) r.waiting wanted) (λ r o. o ≡ wanted) result (sym found) lines phase taken shown
    (λ answer feeds. subst (λ o. Feeds mark before.phase (with_line r.begun given) r.waiting o answer) shown (subst (λ b. Feeds mark before.phase b r.waiting outcome answer) is feeds))

-- ---- a reply

-- a request is changed, and nothing is said
pub changed_told : (before after : ConversationValue) (mark : List ℕ) (change : InFlightValue → InFlightValue) (Kind : InFlightValue → Answer → Type 0) (Comes : InFlightValue → OutcomeValue → Type 0) (heard : Heard) (r : InFlightValue)
    → request_at mark before.requests ≡ Some r → Puts mark (Some (change r)) before.requests after.requests → after.lines ≡ before.lines → after.phase ≡ before.phase → Kind r (keeps before mark (change r))
    → string_bytes heard.explained ≡ [] → string_bytes heard.text ≡ [] → string_bytes heard.journal ≡ [] → heard.is_last ≡ false → IsForRequest before mark Kind Comes (Ok heard) after
changed_told before after mark change Kind Comes heard r found puts lines phase kind explained text journal last = (
  keeps before mark (change r),
  λ q is. let same : r ≡ q = let h : Some r ≡ Some q = sym found ∙ is in cc in subst (λ x. Kind x (keeps before mark (change r))) same kind,
  record { explained_is = explained; text_is = text; journal_is = journal; last_is = last },
  record { lines_are = lines; phase_is = phase; requests_are = puts },
)

pub changed_out : (before after : ConversationValue) (mark : List ℕ) (Kind : InFlightValue → Answer → Type 0) (Comes : InFlightValue → OutcomeValue → Type 0) (result : Result Heard AllocError) → IsErr result
    → after.lines ≡ before.lines → after.phase ≡ before.phase → PutsSome mark before.requests after.requests → IsForRequest before mark Kind Comes result after
changed_out before after mark Kind Comes result out lines phase some =
    answered_out before after mark (OfRequest before mark Kind) (IsFedWith before mark Comes) result out (record { lines_are = lines; phase_is = inl phase; requests_are = some })

-- ---- a line of an outcome

pub outcome_read : (before after : ConversationValue) (mark : List ℕ) (begins : Bool) (given : List (List ℕ)) (has_reply : Bool) (said_here : Line) (result : Result Heard AllocError) → HasReply before.requests mark has_reply
    → (begins && has_reply) ≡ false → IsScriptLine has_reply given (Ok said_here) → IsForRequest before mark (λ r. Takes before mark r given (Ok said_here)) (IsFailureOf said_here) result after → IsActedUpon before mark (said.Outcome begins given) result after
outcome_read before after mark begins given has_reply said_here result has early is =
    answered_as before after mark (OfRequest before mark (λ r. Takes before mark r given (Ok said_here))) (AnswersSaid before mark (said.Outcome begins given)) (IsFedWith before mark (IsFailureOf said_here)) (IsServedOut before mark (said.Outcome begins given)) result
    (λ answer kind. in_flight before mark (λ r. AnswersOutcome before mark r begins given) answer (reply_held mark before.requests has_reply has)
    (λ r found. match_false (begins && is_some r.reply) (answer ≡ refused before mark (of_line fault.ReplyNotDone)) (AnswersLine before mark r given answer) (not_early r found) (Ok said_here, read r found, kind r found)))
    (λ phase (r, outcome, found, (failure, fails, shown), out). inr (r, outcome, found, (failure, not_early r found, subst (λ l. IsScriptLine (is_some r.reply) given (Ok l)) fails (read r found), shown), out))
  where
    not_early : (r : InFlightValue) → request_at mark before.requests ≡ Some r → (begins && is_some r.reply) ≡ false
    not_early r found = ap (λ b. begins && b) (reply_of mark before.requests has_reply r has found) ∙ early

    read : (r : InFlightValue) → request_at mark before.requests ≡ Some r → IsScriptLine (is_some r.reply) given (Ok said_here)
    read r found = subst (λ b. IsScriptLine b given (Ok said_here)) (sym (reply_of mark before.requests has_reply r has found)) is

-- a line that is no outcome
pub not_taken : (c : ConversationValue) (mark : List ℕ) (given : List (List ℕ)) (r : InFlightValue) (said : Line) → ((head : ReplyHead) → said ≡ line.Reply head → ⊥)
    → ((section : Section) → (found : RecordValue) → said ≡ line.Record section found → ⊥) → ((failure : Failure) → said ≡ line.Fail failure → ⊥) → Takes c mark r given (Ok said) (refused c mark (unknown given))
not_taken c mark given r line.Blank a b d = refl
not_taken c mark given r (line.Configuration chosen) a b d = refl
not_taken c mark given r (line.Reply head) a b d = absurd (a head refl)
not_taken c mark given r (line.Record section found) a b d = absurd (b section found refl)
not_taken c mark given r (line.Fail failure) a b d = absurd (d failure refl)
not_taken c mark given r (line.Request request) a b d = refl

pub taken_as : (before after : ConversationValue) (mark : List ℕ) (given : List (List ℕ)) (said_here is : Line) (Comes : InFlightValue → OutcomeValue → Type 0) (result : Result Heard AllocError) → said_here ≡ is
    → ((r : InFlightValue) (outcome : OutcomeValue) → Comes r outcome → IsFailureOf is r outcome)
    → IsForRequest before mark (λ r. Takes before mark r given (Ok is)) Comes result after → IsForRequest before mark (λ r. Takes before mark r given (Ok said_here)) (IsFailureOf said_here) result after
taken_as before after mark given said_here is Comes result same leave told =
    subst (λ x. IsForRequest before mark (λ r. Takes before mark r given (Ok x)) (IsFailureOf x) result after) (sym same)
    (for_request before after mark (λ r. Takes before mark r given (Ok is)) (λ r. Takes before mark r given (Ok is)) Comes (IsFailureOf is) result (λ r found answer kind. kind) leave told)

pub line_fault : (c : ConversationValue) (mark : List ℕ) (begins : Bool) (given : List (List ℕ)) (has_reply : Bool) (refusal : RefusalValue) → HasReply c.requests mark has_reply → (begins && has_reply) ≡ false
    → IsScriptLine has_reply given (Err refusal) → AnswersSaid c mark (said.Outcome begins given) (refused c mark refusal)
line_fault c mark begins given has_reply refusal has early is =
    let answer = refused c mark refusal in
    in_flight c mark (λ r. AnswersOutcome c mark r begins given) answer (reply_held mark c.requests has_reply has)
    (λ r found. match_false (begins && is_some r.reply) (answer ≡ refused c mark (of_line fault.ReplyNotDone)) (AnswersLine c mark r given answer) (ap (λ b. begins && b) (reply_of mark c.requests has_reply r has found) ∙ early)
    (Err refusal, subst (λ b. IsScriptLine b given (Err refusal)) (sym (reply_of mark c.requests has_reply r has found)) is, refl))

pub reply_not_done : (c : ConversationValue) (mark : List ℕ) (begins : Bool) (given : List (List ℕ)) (has_reply : Bool) → HasReply c.requests mark has_reply → (begins && has_reply) ≡ true
    → AnswersSaid c mark (said.Outcome begins given) (refused c mark (of_line fault.ReplyNotDone))
reply_not_done c mark begins given has_reply has early =
    let answer = refused c mark (of_line fault.ReplyNotDone) in
    in_flight c mark (λ r. AnswersOutcome c mark r begins given) answer (reply_held mark c.requests has_reply has)
    (λ r found. match_true (begins && is_some r.reply) (answer ≡ answer) (AnswersLine c mark r given answer) (ap (λ b. begins && b) (reply_of mark c.requests has_reply r has found) ∙ early) refl)
