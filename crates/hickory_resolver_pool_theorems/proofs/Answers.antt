-- One who asks is answered as it is said.
use Rattle.std.proofs.Common.{◌≡◌, ◌≤◌, ℕ, Bool, true, false, cond, ◌&&◌, ltb, List, [], ◌∷◌, length, refl, ap, sym, subst, ◌∙◌, inl, inr, true≢false}
use Rattle.std.specs.Prelude.{Option, None, Some, IfSome}
use Rattle.std.specs.Option.{is_some, is_none, option_map_or, option_and_then}
use Rattle.std.proofs.lemmas.Bool.{ltb-false}
use Rattle.hickory_resolver_askers.specs.Askers.{AskersState, WaitingValue, has_place, first_waiting, place_for, to_admit, given_in, admitted_one, is_flying, is_waiting, joined_flying, joined_waiting, joined, left_of, forgot_as, forgot, asker_given}
use Rattle.hickory_resolver_askers.specs.declared.asker.Asker.{Asker}
use Rattle.hickory_resolver_askers.specs.declared.asker.AskerLimits.{AskerLimits}
use Rattle.hickory_resolver_askers.specs.declared.asker.Forgotten.{Forgotten}
use Rattle.hickory_resolver_askers.specs.declared.asker.Forgotten.TheVariants.{Nobody, OthersAsk, Last}
use Rattle.hickory_resolver_askers.specs.declared.asker.Place.{Place}
use Rattle.hickory_resolver_askers.specs.declared.asker.Place.TheVariants.{InFlight, Waits, Overloaded}
use Rattle.hickory_resolver_config.specs.ResolverConfig.{OptionsValue}
use Rattle.hickory_resolver_servers.specs.Server.{ServerState}
use Rattle.hickory_resolver_tries.specs.Question.{question_of}
use Rattle.hickory_resolver_tries.specs.declared.pool_question.PoolQuestion.{PoolQuestion}
use Rattle.hickory_resolver_traffic.specs.Doing.{is_empty}
use Rattle.hickory_resolver_traffic.specs.Groups.{GroupListState, current_of, list_at}
use Rattle.hickory_resolver_pool.specs.Laws.{PoolEvent, time_passes, group_has, is_asked, octets_come, channel_fails, is_forgotten, after_event}
use Rattle.hickory_resolver_pool.specs.Pool.{PoolState, no_servers, limits_of, settings_for, list_of, joiner_of, if_servers, asking_told, told_to_joiner, asked_by}
use Rattle.hickory_resolver_pool.specs.Servers.{PoolServerValue, states_of}
use Rattle.hickory_resolver_pool.specs.declared.limits.PoolLimits.{PoolLimits}
use Rattle.hickory_resolver_pool.specs.declared.pool.Asked.{Asked}
use Rattle.hickory_resolver_pool_theorems.specs.Answers.{servers_in, IsFull, IsAnswer, AskedIsAnswered}
use Rattle.hickory_resolver_pool_theorems.specs.Runs.{Happening, Runs, at_first, by_event, by_step}
use Rattle.hickory_resolver_pool_theorems.proofs.Groups.{IsGivenAs, CurrentIs, IsCurrentList, GroupsAre, given_in as servers_given, groups-runs}
use Rattle.hickory_resolver_pool_theorems.proofs.Lists.{bare_all}
use Rattle.hickory_resolver_pool_theorems.proofs.Tellings.{IsChanged, stays, is_over, is_admitted, changed-step, IsAsked, joins, begins, waits, none_served, none_placed, asked-asking, came-askers, failed-askers}

-- ---- the limits stay

limits-joined : (n : ℕ) (a : AskersState) → (joined n a).limits ≡ a.limits
limits-joined n a = by (is_flying n a) (is_waiting n a)
  where
    by : (f v : Bool)
        → (cond {A = AskersState} f (joined_flying n a) (cond v (joined_waiting n a) a)).limits ≡ a.limits
    by true v = refl
    by false true = refl
    by false false = refl

limits-forgot : (k : Asker) (a : AskersState) → (forgot k a).limits ≡ a.limits
limits-forgot k a = by (left_of k a)
  where
    by : (l : Forgotten) → (forgot_as l k a).limits ≡ a.limits
    by Nobody = refl
    by OthersAsk = refl
    by Last = refl

limits-changed : (a b : AskersState) → IsChanged a b → b.limits ≡ a.limits
limits-changed a _ stays = refl
limits-changed a _ (is_over n) = refl
limits-changed a _ is_admitted = by (to_admit a)
  where
    by : (f : Option (ℕ × WaitingValue)) → (option_map_or (admitted_one a) f a).limits ≡ a.limits
    by None = refl
    by (Some f) = refl

limits-asked : (a b : AskersState) (said : Asked) → IsAsked a said b → b.limits ≡ a.limits
limits-asked a _ _ (joins n k is) = limits-joined n a
limits-asked a _ _ (begins until) = refl
limits-asked a _ _ (waits until) = refl
limits-asked a _ _ none_served = refl
limits-asked a _ _ none_placed = refl

limits-event : (s : PoolState) (e : PoolEvent) → (after_event s e).traffic.askers.limits ≡ s.traffic.askers.limits
limits-event s (time_passes at) = refl
limits-event s (group_has group servers) = refl
limits-event s (is_asked group query options dnssec at) =
    limits-asked s.traffic.askers (after_event s (is_asked group query options dnssec at)).traffic.askers
    (asking_told (list_of group s.traffic) (question_of query options dnssec) s)
    (asked-asking (settings_for s.options options) at s (list_of group s.traffic) (question_of query options dnssec))
limits-event s (octets_come channel octets at) = ap (λ (a : AskersState). a.limits) (came-askers s channel octets at)
limits-event s (channel_fails f at) = ap (λ (a : AskersState). a.limits) (failed-askers s f at)
limits-event s (is_forgotten a) = limits-forgot a s.traffic.askers

limits-runs : (options : OptionsValue) (limits : PoolLimits) (seed : List ℕ) (past : List Happening) (s : PoolState)
    → Runs (no_servers options limits seed) past s → s.traffic.askers.limits ≡ (limits_of limits options).askers
limits-runs options limits seed _ _ at_first = refl
limits-runs options limits seed _ _ (by_event past s e more) =
    limits-event s e ∙ limits-runs options limits seed past s more
limits-runs options limits seed _ _ (by_step past s after r is more) =
    limits-changed s.traffic.askers after.traffic.askers (changed-step s after r is)
    ∙ limits-runs options limits seed past s more

-- ---- where there is no place

module _ (limits : PoolLimits) (s : PoolState)
    (waiting_limit : s.traffic.askers.limits.waiting ≡ limits.waiting)
    (flying_limit : s.traffic.askers.limits.transactions ≡ limits.transactions) where
  abbrev a : AskersState
  a = s.traffic.askers

  full : place_for a ≡ Overloaded → IsFull limits s
  full is = by (has_place a) (first_waiting a) (ltb (length a.waiting) a.limits.waiting) refl refl refl is
    where
      all_wait : ltb (length a.waiting) a.limits.waiting ≡ false → limits.waiting ≤ length a.waiting
      all_wait h = subst (λ (n : ℕ). n ≤ length a.waiting) waiting_limit (ltb-false (length a.waiting) a.limits.waiting h)

      by : (place : Bool) (f : Option (ℕ × WaitingValue)) (may : Bool) → has_place a ≡ place → first_waiting a ≡ f
          → ltb (length a.waiting) a.limits.waiting ≡ may
          → cond {A = Place} (place && is_none f) InFlight (cond may Waits Overloaded) ≡ Overloaded → IsFull limits s
      by true None may ps fs ms h = absurd cc
      by true (Some f) true ps fs ms h = absurd cc
      by true (Some f) false ps fs ms h = record {
        waiting = all_wait ms;
        in_flight = inr (ap (λ (b : Bool). is_some (cond b (first_waiting a) None)) ps
            ∙ ap (λ (o : Option (ℕ × WaitingValue)). is_some o) fs);
      }
      by false f true ps fs ms h = absurd cc
      by false f false ps fs ms h = record {
        waiting = all_wait ms;
        in_flight = inl (subst (λ (n : ℕ). n ≤ length a.in_flight) flying_limit
            (ltb-false (length a.in_flight) a.limits.transactions ps));
      }

  -- ---- what is answered, of a group that has servers

  module _ (servers : List PoolServerValue) (some : servers ≡ [] → ⊥) (n : ℕ) (question : PoolQuestion)
      (l : GroupListState) (there : list_at n s.traffic.groups ≡ Some l) where
    placed : (p : Place) → place_for a ≡ p → IsAnswer limits servers s (asked_by (given_in p a))
    placed InFlight is = some
    placed Waits is = some
    placed Overloaded is = full is

    begun : IsAnswer limits servers s
        (asked_by (option_map_or (λ x. asker_given a) (list_at n s.traffic.groups) None))
    begun =
        subst (λ (o : Option GroupListState). IsAnswer limits servers s (asked_by (option_map_or (λ x. asker_given a) o None)))
        (sym there) (placed (place_for a) refl)

    asked : IsAnswer limits servers s (asking_told (Some n) question s)
    asked = by (joiner_of (n, question) s)
      where
        by : (j : Option Asker) → IsAnswer limits servers s (told_to_joiner j (n, question) s)
        by None = begun
        by (Some j) = some

-- no servers are left out
no-states : (xs : List PoolServerValue) → states_of xs ≡ [] → xs ≡ []
no-states [] is = refl
no-states (x ∷ xs) is = absurd cc

empty-given : (servers : List ServerState) (given : List PoolServerValue) → bare_all servers ≡ states_of given
    → is_empty servers ≡ true → given ≡ []
empty-given [] given is empty = no-states given (sym is)
empty-given (x ∷ xs) given is empty = absurd (true≢false (sym empty))

some-given : (servers : List ServerState) (given : List PoolServerValue) → bare_all servers ≡ states_of given
    → is_empty servers ≡ false → given ≡ [] → ⊥
some-given [] given is empty none = true≢false empty
some-given (x ∷ xs) given is empty none =
    let no_such : bare_all (x ∷ xs) ≡ [] = is ∙ ap states_of none in cc

pub asked_is_answered : AskedIsAnswered
asked_is_answered options limits seed past s group question runs =
    by (current_of group s.traffic.groups) (groups.current group)
  where
    groups : GroupsAre past s.traffic.groups
    groups = groups-runs options limits seed past s runs

    limits_are : s.traffic.askers.limits ≡ (limits_of limits options).askers
    limits_are = limits-runs options limits seed past s runs

    by-list : (n : ℕ) (own : IsCurrentList (servers_given n past) (servers_in group past) s.traffic.groups.lists n s.traffic.groups.next)
        → (empty : Bool) → is_empty own.list.servers.servers ≡ empty
        → IsAnswer limits (servers_in group past) s (asking_told (cond empty None (Some n)) question s)
    by-list n own true is = own.servers ∙ empty-given own.list.servers.servers (servers_given n past) given.states is
      where
        given : IsGivenAs own.list (servers_given n past)
        given = subst (λ (o : Option GroupListState). IfSome o (λ l. IsGivenAs l (servers_given n past))) own.there (groups.each n)
    by-list n own false is =
        asked limits s (ap (λ (l : AskerLimits). l.waiting) limits_are) (ap (λ (l : AskerLimits). l.transactions) limits_are)
        (servers_in group past)
        (λ none. some-given own.list.servers.servers (servers_given n past) given.states is (sym own.servers ∙ none))
        n question own.list own.there
      where
        given : IsGivenAs own.list (servers_given n past)
        given = subst (λ (o : Option GroupListState). IfSome o (λ l. IsGivenAs l (servers_given n past))) own.there (groups.each n)

    by : (n : Option ℕ) → CurrentIs past s.traffic.groups group n
        → IsAnswer limits (servers_in group past) s (asking_told (option_and_then (if_servers s.traffic) n) question s)
    by None own = own
    by (Some n) own =
        subst (λ (o : Option GroupListState). IsAnswer limits (servers_in group past) s
        (asking_told (option_and_then (λ l. cond (is_empty l.servers.servers) None (Some n)) o) question s)) (sym own.there)
        (by-list n own (is_empty own.list.servers.servers) refl)
