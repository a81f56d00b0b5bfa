-- What comes of a try, and what that tells of its server.
use Rattle.std.specs.Prelude.{ℕ, List, Option}
use Rattle.std.specs.Option.{option_map, option_map_or}
use Rattle.hickory_resolver_channels.specs.Channels.{ChannelsState, channel_at}
use Rattle.hickory_resolver_flights.specs.Flights.{FlightState, meaning_to}
use Rattle.hickory_resolver_flights.specs.declared.heard.Heard.{Heard}
use Rattle.hickory_resolver_flights.specs.declared.heard.Heard.TheVariants as what
use Rattle.hickory_resolver_tries.specs.declared.outcome.ReplyOutcome.{ReplyOutcome}
use Rattle.hickory_resolver_tries.specs.declared.outcome.ReplyOutcome.TheVariants as reply
use Rattle.hickory_resolver_transactions.specs.Transaction.{try_at, failed, failed_try, due_try}
use Rattle.hickory_resolver_transactions.specs.declared.candidate.Try.{Try}
use Rattle.hickory_resolver_steps.specs.Lists.{ListState, place_of}
use Rattle.hickory_resolver_steps.specs.Lists as list
use Rattle.hickory_resolver_steps.specs.declared.telling.Measure.{Measure}
use Rattle.hickory_resolver_steps.specs.declared.telling.Measure.TheVariants.{Answered, Failed, Nothing}
use Rattle.hickory_resolver_steps.specs.declared.telling.Telling.{Telling}

-- NOERROR and NXDOMAIN with something of the name are an answer. Another code is a failure, and so is what counts as
-- one: a lame reply, and one that is no message. What is asked again at once without OPT tells nothing.
abbrev pub measure_of_reply : ReplyOutcome → Measure
measure_of_reply reply.Truncated = Answered
measure_of_reply reply.Answer = Answered
measure_of_reply reply.Negative = Answered
measure_of_reply reply.WithoutOpt = Nothing
measure_of_reply reply.BadRest = Failed
measure_of_reply (reply.Code code) = Failed
measure_of_reply reply.Lame = Failed

abbrev pub measure_of : Heard → Measure
measure_of (what.Reply outcome) = measure_of_reply outcome
measure_of other = Nothing

abbrev pub measured : Measure → Telling → Try → ℕ → ListState → ListState
measured Answered at t place s = list.answered place t.sent_at at.moment s
measured Failed at t place s = list.failed place at.timeout t.sent_at at.moment s
measured Nothing at t place s = s

-- the place of the server of a channel
abbrev pub place_on : ℕ → ChannelsState → ListState → Option ℕ
place_on channel channels s = option_map (λ c. place_of c.server s) (channel_at channel channels)

abbrev pub told_of : Measure → Telling → ChannelsState → Try → ListState → ListState
told_of measure at channels t s =
    option_map_or (λ place. measured measure at t place s) (place_on t.channel channels s) s

-- octets came
abbrev pub servers_heard_to : Telling → ChannelsState → List ℕ → FlightState → ListState → Try → ListState
servers_heard_to at channels octets f s t = told_of (measure_of (meaning_to octets f t)) at channels t s

abbrev pub servers_heard : Telling → ChannelsState → ℕ → ℕ → List ℕ → FlightState → ListState → ListState
servers_heard at channels channel id octets f s =
    option_map_or (servers_heard_to at channels octets f s) (try_at channel id f.transaction) s

-- a channel failed
abbrev pub servers_failed : Telling → ChannelsState → ℕ → FlightState → ListState → ListState
servers_failed at channels channel f s =
    option_map_or (λ t. told_of Failed at channels t s) (failed_try channel f.transaction) s

-- Time passed. The stream of a try that ran out may swallow all, so that nothing more is sent on it; what still comes
-- on it is believed as before.
abbrev pub late_at : Telling → Try → ListState → ℕ → ListState
late_at at t s place =
    list.without_stream place t.channel (list.timed_out place at.timeout t.sent_at t.due at.moment s)

abbrev pub servers_late_to : Telling → ChannelsState → ListState → Try → ListState
servers_late_to at channels s t = option_map_or (late_at at t s) (place_on t.channel channels s) s

abbrev pub servers_late : Telling → ChannelsState → FlightState → ListState → ListState
servers_late at channels f s = option_map_or (servers_late_to at channels s) (due_try at.moment f.transaction) s
