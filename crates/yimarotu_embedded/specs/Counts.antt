-- What a session with a network did, in numbers.
use Rattle.std.specs.Prelude.{ℕ, ◌+◌, ◌-◌, ◌^◌, min, Bool, true, false, Option, None, Some, Result, Ok, Err, if◌then◌else◌}
use Rattle.hickory_proto_core.specs.declared.net_error.NetError.TheVariants.{Timeout}
use Rattle.hickory_resolver_model.specs.Lookup.{LookupResult}
use Rattle.yimarotu_embedded.specs.declared.counts.Counts.{Counts}
use Rattle.yimarotu_session.specs.NetworkSessions.{NetworkValue, found_at}
use Rattle.yimarotu_session.specs.declared.network_session.NetworkAction.{NetworkAction}
use Rattle.yimarotu_session.specs.declared.network_session.NetworkAction.TheVariants.{Send, Done}
use Rattle.yimarotu_session.specs.declared.session_error.SessionError.{SessionError}

abbrev pub no_counts : Counts
no_counts = record { started = 0; done_at_once = 0; sent = 0; timed_out = 0 }

-- the greatest number stays
abbrev pub one_more : ℕ → ℕ
one_more count = min (count + 1) (2 ^ 64 - 1)

-- one more look-up is started, and waits or is done at once
abbrev pub with_start : Bool → Counts → Counts
with_start waits counts = record counts {
  started = one_more counts.started;
  done_at_once = if waits then counts.done_at_once else one_more counts.done_at_once;
}

-- whether a look-up came to a timeout
abbrev pub is_timeout : LookupResult → Bool
is_timeout (Err Timeout) = true
is_timeout other = false

abbrev pub has_timed_out : Result LookupResult SessionError → Bool
has_timed_out (Ok found) = is_timeout found
has_timed_out (Err error) = false

-- one more look-up is done
abbrev pub with_done : Bool → Counts → Counts
with_done timed_out counts = if timed_out then record counts { timed_out = one_more counts.timed_out } else counts

-- a message is to be sent; or a look-up is done
abbrev pub with_action : Option NetworkAction → NetworkValue → Counts → Counts
with_action (Some (Send sent)) session counts = record counts { sent = one_more counts.sent }
with_action (Some (Done number)) session counts = with_done (has_timed_out (found_at number session)) counts
with_action other session counts = counts
