-- A trace: what a resolver asked its upstream, what it received, and what it told its clients, each at a moment.
-- Of an event, `past` is what stands before it, the latest first.
use Rattle.std.specs.Prelude.{◌+◌, ◌*◌, ℕ, Bool, false, ◌||◌, ◌==◌, List, [], ◌∷◌, ◌++◌, Option, None, Some, unwrap_or, if◌then◌else◌}
use Rattle.std.specs.List.{list_any}
use Rattle.hickory_proto_core.specs.Codes.{response_code}
use Rattle.hickory_proto_core.specs.Query.{query_eq}
use Rattle.hickory_proto_core.specs.codes.response_code.ResponseCode.{ResponseCode}
use Rattle.hickory_proto_core.specs.declared.query.Query.{Query}
use Rattle.trace_judge.specs.declared.event.Event.{Event}
use Rattle.trace_judge.specs.declared.event.Moment.{Moment}
use Rattle.trace_judge.specs.declared.event.Said.{Said}
use Rattle.trace_judge.specs.declared.event.Said.TheVariants.{Asked, Received, Told}

abbrev pub milliseconds_of : Moment → ℕ
milliseconds_of m = 1000 * m.seconds + m.milliseconds

-- NOERROR and NXDOMAIN: every other code says nothing of records
abbrev pub is_outcome : ResponseCode → Bool
is_outcome code = (response_code code == 0) || (response_code code == 3)

-- the question is among these
abbrev pub is_asked : Query → List Query → Bool
is_asked q asked = list_any (λ a. query_eq a q) asked

-- what is left open where it is answered: the earliest of these that is this question is taken out
abbrev pub without : Query → List Query → List Query
without q [] = []
without q (a ∷ asked) = if query_eq a q then asked else a ∷ without q asked

abbrev pub open_after : Said → List Query → List Query
open_after (Asked q) asked = asked ++ q ∷ []
open_after (Received reply) asked = without reply.query asked
open_after (Told reply) asked = asked

-- the questions that were asked and that nothing received since has answered: each reception answers one
abbrev pub open_questions : List Event → List Query
open_questions [] = []
open_questions (event ∷ past) = open_after event.said (open_questions past)

-- a reception counts where its question is open
abbrev pub is_open_for : Said → List Query → Bool
is_open_for (Asked q) asked = false
is_open_for (Received reply) asked = is_asked reply.query asked
is_open_for (Told reply) asked = false

abbrev pub is_counted : List Event → Said → Bool
is_counted past said = is_open_for said (open_questions past)

-- the first moment of a trace, where it has begun
abbrev pub start_in : List Event → Option Moment
start_in [] = None
start_in (event ∷ past) = Some (unwrap_or (start_in past) event.moment)
