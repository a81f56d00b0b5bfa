-- Each transaction began when a question was asked, with the settings that the options say.
use Rattle.std.proofs.Common.{◌≡◌, ℕ, Bool, true, false, List, [], ◌∷◌, refl, ap, sym, subst, ◌∙◌}
use Rattle.std.specs.Prelude.{Option, None, Some, IfSome}
use Rattle.std.specs.Option.{is_some, option_map_or}
use Rattle.hickory_resolver_askers.specs.declared.asker.Asker.{Asker}
use Rattle.hickory_resolver_config.specs.ResolverConfig.{OptionsValue}
use Rattle.hickory_resolver_tries.specs.Question.{question_of}
use Rattle.hickory_resolver_tries.specs.declared.pool_question.PoolQuestion.{PoolQuestion}
use Rattle.hickory_resolver_transactions.specs.declared.settings.Settings.{Settings}
use Rattle.hickory_resolver_traffic.specs.Doing.{doing}
use Rattle.hickory_resolver_traffic.specs.Table.{CurrentState, EntryState}
use Rattle.hickory_resolver_traffic.specs.declared.doing.Doing.{Doing}
use Rattle.hickory_resolver_traffic.specs.declared.doing.Doing.TheVariants.{Hears, Doubts, Stalls, Fails, Quits, PutsBack, Expires, Frees, Refused, Leaves, Ends, Draws, BeginsRound, GivesUp, Blocks, Sends, Dates, Rests}
use Rattle.hickory_resolver_pool.specs.Laws.{PoolEvent, time_passes, group_has, is_asked, octets_come, channel_fails, is_forgotten, after_event}
use Rattle.hickory_resolver_pool.specs.Pool.{PoolState, no_servers, settings_for, list_of, joiner_of, join_in, join_or_begin, after_asking, Starts, StepsBy, StepsIn, StepsAs, Steps, is_end, is_put, put_by}
use Rattle.hickory_resolver_pool.specs.Pool as pool
use Rattle.hickory_resolver_pool.specs.declared.limits.PoolLimits.{PoolLimits}
use Rattle.hickory_resolver_pool.specs.declared.pool.Action.{Action}
use Rattle.hickory_resolver_pool_theorems.specs.Causes.{HasBegun}
use Rattle.hickory_resolver_pool_theorems.specs.Runs.{Happening, came, did, Runs, at_first, by_event, by_step}
use Rattle.hickory_resolver_pool_theorems.proofs.EachEntry.{HoldOfEach, AtCurrent, Begins, each-step, each-event, each-as}
use Rattle.hickory_resolver_pool_theorems.proofs.SettingsKept.{settings-done}

-- ---- the options of a pool stay

options-put : (what : Doing) (c : CurrentState) (s : PoolState) → (put_by what c s).options ≡ s.options
options-put PutsBack c s = refl
options-put Rests c s = refl
options-put Ends c s = refl
options-put Refused c s = refl
options-put Hears c s = refl
options-put Doubts c s = refl
options-put Stalls c s = refl
options-put Fails c s = refl
options-put Quits c s = refl
options-put Expires c s = refl
options-put Frees c s = refl
options-put (Leaves place) c s = refl
options-put Draws c s = refl
options-put (BeginsRound place) c s = refl
options-put GivesUp c s = refl
options-put Blocks c s = refl
options-put Sends c s = refl
options-put (Dates due) c s = refl

module _ (s t : PoolState) (r : Option Action) where
  abbrev Stay : Type 0
  Stay = t.options ≡ s.options

  options-by : (c : CurrentState) (ends puts : Bool) (what : Doing) → StepsBy ends puts what c s r t → Stay
  options-by c true puts what is = ap (λ (u : PoolState). u.options) is.pool
  options-by c false true what is = ap (λ (u : PoolState). u.options) is.pool ∙ options-put what c s
  options-by c false false what is = ap (λ (u : PoolState). u.options) is.pool

  options-in : (c : Option CurrentState) → StepsIn c s r t → Stay
  options-in None is = ap (λ (u : PoolState). u.options) is.1
  options-in (Some c) is = options-by c (is_end (doing c s.traffic)) (is_put (doing c s.traffic)) (doing c s.traffic) is

  options-step : Steps s r t → Stay
  options-step is = by (is_some s.traffic.outgoing) is
    where
      by : (writes : Bool) → StepsAs writes s r t → Stay
      by true steps = ap (λ (u : PoolState). u.options) steps.1
      by false steps = options-in s.current steps

options-asked : (list : Option ℕ) (question : PoolQuestion) (settings : Settings) (at : ℕ) (s : PoolState)
    → (after_asking list question settings at s).options ≡ s.options
options-asked None question settings at s = refl
options-asked (Some list) question settings at s = by (joiner_of (list, question) s)
  where
    joins : (n : Option ℕ) → (option_map_or (join_in at s) n s).options ≡ s.options
    joins None = refl
    joins (Some n) = refl

    by : (a : Option Asker) → (join_or_begin a (list, question) settings at s).options ≡ s.options
    by None = refl
    by (Some a) = joins (pool.number_of (list, question) s.questions)

options-event : (s : PoolState) (e : PoolEvent) → (after_event s e).options ≡ s.options
options-event s (time_passes at) = refl
options-event s (group_has group servers) = refl
options-event s (is_asked group query options dnssec at) =
    options-asked (list_of group s.traffic) (question_of query options dnssec) (settings_for s.options options) at s
options-event s (octets_come channel octets at) = refl
options-event s (channel_fails f at) = refl
options-event s (is_forgotten a) = refl

options-runs : (start : PoolState) (past : List Happening) (s : PoolState) → Runs start past s → s.options ≡ start.options
options-runs start _ _ at_first = refl
options-runs start _ _ (by_event past s e more) = options-event s e ∙ options-runs start past s more
options-runs start _ _ (by_step past s after r is more) = options-step s after r is ∙ options-runs start past s more

-- ---- each began so

abbrev pub BegunIn : OptionsValue → List Happening → ℕ → EntryState → Type 0
BegunIn options past n e = HasBegun options past n e.flying.flight.transaction.settings

begun-more : (options : OptionsValue) (a : Happening) (past : List Happening) (n : ℕ) (settings : Settings)
    → HasBegun options past n settings → HasBegun options (a ∷ past) n settings
begun-more options a past n settings w = record {
  later = a ∷ w.later;
  earlier = w.earlier;
  pool = w.pool;
  group = w.group;
  query = w.query;
  request = w.request;
  dnssec = w.dnssec;
  now = w.now;
  happened = ap (λ (p : List Happening). a ∷ p) w.happened;
  number = w.number;
  given = w.given;
  settings_are = w.settings_are;
}

begins-so : (options : OptionsValue) (past : List Happening) (s : PoolState) (e : PoolEvent) → s.options ≡ options
    → Begins (BegunIn options (came s e ∷ past)) s e
begins-so options past s (time_passes at) is = tt
begins-so options past s (group_has group servers) is = tt
begins-so options past s (octets_come channel octets at) is = tt
begins-so options past s (channel_fails f at) is = tt
begins-so options past s (is_forgotten a) is = tt
begins-so options past s (is_asked group query request dnssec at) is = λ list l at_list there said. record {
  later = [];
  earlier = past;
  pool = s;
  group = group;
  query = query;
  request = request;
  dnssec = dnssec;
  now = at;
  happened = refl;
  number = refl;
  given = said;
  settings_are = ap (λ (o : OptionsValue). settings_for o request) is;
}

pub begun-runs : (options : OptionsValue) (limits : PoolLimits) (seed : List ℕ) (past : List Happening) (s : PoolState)
    → Runs (no_servers options limits seed) past s → HoldOfEach (BegunIn options past) s
begun-runs options limits seed _ _ at_first = record { table = tt; worked = tt }
begun-runs options limits seed _ _ (by_event past s e more) =
    each-event (BegunIn options (came s e ∷ past)) s e
    (each-as (BegunIn options past) (BegunIn options (came s e ∷ past))
    (λ n f w. begun-more options (came s e) past n f.flying.flight.transaction.settings w) s
    (begun-runs options limits seed past s more))
    (begins-so options past s e (options-runs (no_servers options limits seed) past s more))
begun-runs options limits seed _ _ (by_step past s after r is more) =
    each-as (BegunIn options past) (BegunIn options (did s r ∷ past))
    (λ n f w. begun-more options (did s r) past n f.flying.flight.transaction.settings w) after
    (each-step (BegunIn options past)
    (λ what x y done w. subst (λ (settings : Settings). HasBegun options past x.current.number settings)
    (sym (settings-done what x y done)) w) s after r (begun-runs options limits seed past s more) is)

pub worked-begun : (options : OptionsValue) (limits : PoolLimits) (seed : List ℕ) (past : List Happening) (s : PoolState)
    → (c : CurrentState) → Runs (no_servers options limits seed) past s → s.current ≡ Some c
    → HasBegun options past c.number c.entry.flying.flight.transaction.settings
worked-begun options limits seed past s c runs works =
    subst (λ (o : Option CurrentState). IfSome o (AtCurrent (BegunIn options past))) works
    (begun-runs options limits seed past s runs).worked
