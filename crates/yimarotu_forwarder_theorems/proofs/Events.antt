-- What an event changes.
use Rattle.std.proofs.Common.{◌≡◌, ◌∙◌, ℕ, List, [], ◌∷◌, refl, sym, ap, subst}
use Rattle.std.specs.Prelude.{Option, None, Some, take}
use Rattle.std.specs.Option.{option_and_then, option_to_list}
use Rattle.client_requests.specs.Requests.{RequestValue, waiting_of}
use Rattle.client_requests.specs.declared.client.Client.{Client}
use Rattle.second_chance_cache.specs.Laws.{clears}
use Rattle.yimarotu_forwarder.specs.Forwarders.{ForwarderValue, ReplyingValue, cleared}
use Rattle.yimarotu_forwarder.specs.Options.{OptionsValue}
use Rattle.yimarotu_forwarder.specs.declared.answered.Answered.{Answered}
use Rattle.yimarotu_forwarder.specs.declared.answered.Answered.TheVariants.{Dropped, Replied, Waits}
use Rattle.yimarotu_forwarder.specs.declared.steps.ForwarderAction.{ForwarderAction}
use Rattle.yimarotu_forwarder.specs.declared.steps.ForwarderAction.TheVariants as act
use Rattle.yimarotu_forwarder_theorems.specs.Replies.{replied_by, replied_to, told_to_wait, untold, without_gone}
use Rattle.yimarotu_forwarder_theorems.specs.Runs.{ForwarderEvent, Happens, all_is_cleared, channel_fails, client_is_gone, is_stepped, local_data_is, name_is_flushed, octets_come, options_are, query_comes, query_is_refused, servers_are, step_is_refused, time_passes}
use Rattle.yimarotu_forwarder_theorems.proofs.Answering.{QueryMoves, answers, query_joins, query_stays}
use Rattle.yimarotu_forwarder_theorems.proofs.Cores.{Core, IsSaid, Joins, Leaves, Source, Stills, as_before, cache_changes, core, failures_change, is_flushed, left_by, more, still-one, stills-said}
use Rattle.yimarotu_forwarder_theorems.proofs.Stepping.{IsReply, StepMoves, step_replies, step_stays, steps}
use Rattle.yimarotu_forwarder_theorems.proofs.Stopping.{is-refused}

-- who comes to wait with it, and who is replied to; and nobody is gone
pub record Says (event : ForwarderEvent) (before : ForwarderValue) (told replied : List RequestValue) : Type 0 where
  pub told_is : told_to_wait event ≡ told
  pub replied_is : replied_to event before ≡ replied
  pub none_gone : (requests : List RequestValue) → without_gone event requests ≡ requests

-- Nobody comes to wait, and nobody is replied to; or one comes to wait; or one is replied to; or a client is gone; or
-- there are other options.
pub data EventMoves (event : ForwarderEvent) (before after : ForwarderValue) : Type 0 where
  event_stays : Says event before [] [] → Stills (IsSaid before) (core before) (core after)
      → EventMoves event before after
  event_joins : (w : RequestValue) → Says event before (w ∷ []) [] → Joins w (core before) (core after)
      → EventMoves event before after
  event_leaves : (w : RequestValue) → Says event before [] (w ∷ []) → Leaves w (core before) (core after)
      → EventMoves event before after
  event_goes : (client : ℕ) → event ≡ client_is_gone client → core after ≡ left_by client (core before)
      → EventMoves event before after
  event_options : (options : OptionsValue) → event ≡ options_are options → Says event before [] []
      → core after ≡ record (core before) { options = options } → EventMoves event before after

-- an event that says nothing of those who wait
quiet : {event : ForwarderEvent} {before : ForwarderValue} → told_to_wait event ≡ [] → replied_to event before ≡ []
    → ((requests : List RequestValue) → without_gone event requests ≡ requests) → Says event before [] []
quiet waits replies none = record { told_is = waits; replied_is = replies; none_gone = none }

nobody-waits : (c : Client) (octets : List ℕ) (now : ℕ) (answered : Answered) → (answered ≡ Waits → ⊥)
    → told_to_wait (query_comes c octets now answered) ≡ []
nobody-waits c octets now Waits not = absurd (not refl)
nobody-waits c octets now Replied not = refl
nobody-waits c octets now Dropped not = refl

query-moves : (c : Client) (octets : List ℕ) (now : ℕ) (answered : Answered) (b a : ForwarderValue)
    → QueryMoves c octets b a answered → EventMoves (query_comes c octets now answered) b a
query-moves c octets now answered b a (query_stays not own still) =
    event_stays (quiet (nobody-waits c octets now answered not) refl (λ ws. refl))
    (stills-said (core b) (core a) still)
query-moves c octets now answered b a (query_joins r w waits is kept j) =
    event_joins w (record {
      told_is =
          ap (λ (x : Answered). told_to_wait (query_comes c octets now x)) waits
          ∙ ap option_to_list (ap (option_and_then waiting_of) is ∙ kept);
      replied_is = refl;
      none_gone = λ ws. refl;
    }) j

nobody-replied : (action : Option ForwarderAction) (b : ForwarderValue) → (IsReply action → ⊥)
    → replied_by action b ≡ []
nobody-replied None b not = refl
nobody-replied (Some (act.Reply client)) b not = absurd (not tt)
nobody-replied (Some (act.Open opening)) b not = refl
nobody-replied (Some (act.Send sent)) b not = refl
nobody-replied (Some (act.Close channel)) b not = refl
nobody-replied (Some act.Continue) b not = refl

step-moves : (action : Option ForwarderAction) (b a : ForwarderValue) → StepMoves b a action
    → EventMoves (is_stepped action) b a
step-moves action b a (step_stays not still) =
    event_stays (quiet refl (nobody-replied action b not) (λ ws. refl)) still
step-moves action b a (step_replies w l does reply) =
    event_leaves w (record {
      told_is = refl;
      replied_is =
          ap (λ (x : Option ForwarderAction). replied_by x b) does
          ∙ ap (λ (r : Option ReplyingValue). take 1 (untold r)) l.was ∙ ap (take 1) l.first;
      none_gone = λ ws. refl;
    }) l

all-cleared : {said : Source → Type 0} (b : ForwarderValue) → Stills said (core b) (core (cleared b))
all-cleared b =
    let without : Core = record (core b) { cache = record b.cache { entries = [] } } in
    more (core b) without (core (cleared b)) (cache_changes (core b) without clears tt refl)
    (still-one without (core (cleared b)) (failures_change without (core (cleared b)) clears refl))

pub moves : (event : ForwarderEvent) (before after : ForwarderValue) → Happens event before after
    → EventMoves event before after
moves (query_comes c octets now answered) b a h =
    query-moves c octets now answered b a (answers c octets now b a answered h)
moves (query_is_refused now) b a h = event_stays (quiet refl refl (λ ws. refl))
    (as_before (core b) (core a) (ap core h))
moves (octets_come channel octets now) b a h = event_stays (quiet refl refl (λ ws. refl))
    (as_before (core b) (core a) (ap core h))
moves (channel_fails failure now) b a h = event_stays (quiet refl refl (λ ws. refl))
    (as_before (core b) (core a) (ap core h))
moves (time_passes now) b a h = event_stays (quiet refl refl (λ ws. refl))
    (as_before (core b) (core a) (ap core h))
moves (servers_are group servers) b a h = event_stays (quiet refl refl (λ ws. refl))
    (as_before (core b) (core a) (ap core h))
moves (local_data_is local) b a h =
    event_stays (quiet refl refl (λ ws. refl))
    (subst (λ (x : ForwarderValue). Stills (IsSaid b) (core b) (core x)) (sym h) (all-cleared b))
moves (client_is_gone client) b a h = event_goes client refl (ap core h)
moves (options_are options) b a h = event_options options refl (quiet refl refl (λ ws. refl)) (ap core h)
moves (name_is_flushed domain below) b a h =
    event_stays (quiet refl refl (λ ws. refl))
    (still-one (core b) (core a) (is_flushed (core b) (core a) domain.labels below (ap core h)))
moves all_is_cleared b a h =
    event_stays (quiet refl refl (λ ws. refl))
    (subst (λ (x : ForwarderValue). Stills (IsSaid b) (core b) (core x)) (sym h) (all-cleared b))
moves (is_stepped action) b a h = step-moves action b a (steps b a action h)
moves step_is_refused b a h = event_stays (quiet refl refl (λ ws. refl))
    (is-refused b a h)
