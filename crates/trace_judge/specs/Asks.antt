-- Questions that were asked, and those that were answered.
use Rattle.std.specs.Prelude.{◌+◌, ℕ, Bool, ◌&&◌, ◌||◌, nat_le, List, [], ◌∷◌, ◌++◌, if◌then◌else◌}
use Rattle.std.specs.List.{list_any}
use Rattle.hickory_proto_core.specs.Query.{query_eq}
use Rattle.hickory_proto_core.specs.Records.{RecordValue}
use Rattle.hickory_proto_core.specs.declared.query.Query.{Query}
use Rattle.trace_judge.specs.Receptions.{question_of}
use Rattle.trace_judge.specs.Trace.{is_counted, is_outcome, milliseconds_of}
use Rattle.trace_judge.specs.declared.asks.Ask.{Ask}
use Rattle.trace_judge.specs.declared.event.Event.{Event}
use Rattle.trace_judge.specs.declared.event.Moment.{Moment}
use Rattle.trace_judge.specs.declared.event.Said.{Said}
use Rattle.trace_judge.specs.declared.event.Said.TheVariants.{Asked, Received, Told}

abbrev pub ask_at : Moment → Query → Ask
ask_at moment q = record { moment = moment; query = q }

abbrev pub asked_by : Moment → Said → List Ask
asked_by moment (Asked q) = ask_at moment q ∷ []
asked_by moment (Received reply) = []
asked_by moment (Told reply) = []

-- every question that was asked, in order
abbrev pub asks : List Event → List Ask
asks [] = []
asks (event ∷ past) = asks past ++ asked_by event.moment event.said

-- a response that counts and has an outcome answers its question; every other code is a failure
abbrev pub answered_by : Bool → Moment → Said → List Ask
answered_by counts moment (Asked q) = []
answered_by counts moment (Received reply) =
    if counts && is_outcome reply.code then ask_at moment reply.query ∷ [] else []
answered_by counts moment (Told reply) = []

-- every question that was answered, in order
abbrev pub answers : List Event → List Ask
answers [] = []
answers (event ∷ past) = answers past ++ answered_by (is_counted past event.said) event.moment event.said

-- it is this question, at that moment or after it
abbrev pub is_ask_from : Query → ℕ → Ask → Bool
is_ask_from q since a = query_eq q a.query && nat_le since (milliseconds_of a.moment)

-- the question that a record was told for, or the one for the record itself, at that moment or after it
abbrev pub is_ask_since : ℕ → Query → RecordValue → Ask → Bool
is_ask_since since q told a = is_ask_from q since a || is_ask_from (question_of told) since a

-- such a question is among these, at that moment or after it
abbrev pub was_asked_since : List Ask → ℕ → Query → RecordValue → Bool
was_asked_since among since q told = list_any (is_ask_since since q told) among

-- such a question is among these, after that moment
abbrev pub was_asked_after : List Ask → ℕ → Query → RecordValue → Bool
was_asked_after among moment q told = was_asked_since among (moment + 1) q told
