-- The servers of each group are those that it was given last.
use Rattle.std.proofs.Common.{◌≡◌, ◌≤◌, ◌<◌, ◌+◌, max, ℕ, Bool, true, false, cond, eqb, eqb-true, eq-eqb, List, [], ◌∷◌, length, map, refl, ap, sym, subst, ◌∙◌, true≢false, arith}
use Rattle.std.specs.Prelude.{Option, None, Some, IfSome}
use Rattle.std.specs.Ordering.{nat_cmp}
use Rattle.std.specs.BTreeMap.{insert_entry, is_at}
use Rattle.std.specs.Option.{option_map_or}
use Rattle.hickory_resolver_askers.specs.Askers.{joiner, place_for}
use Rattle.hickory_resolver_askers.specs.Askers as ask
use Rattle.hickory_resolver_askers.specs.declared.asker.Asker.{Asker}
use Rattle.hickory_resolver_askers.specs.declared.asker.Place.{Place}
use Rattle.hickory_resolver_askers.specs.declared.asker.Place.TheVariants.{InFlight, Waits, Overloaded}
use Rattle.hickory_resolver_channels.specs.Channels.{channel_at}
use Rattle.hickory_resolver_channels.specs.declared.channel.Channel.{Channel}
use Rattle.hickory_resolver_config.specs.ResolverConfig.{OptionsValue}
use Rattle.hickory_resolver_servers.specs.Server.{ServerState, server_of}
use Rattle.hickory_resolver_tries.specs.Question.{question_of}
use Rattle.hickory_resolver_tries.specs.declared.pool_question.PoolQuestion.{PoolQuestion}
use Rattle.hickory_resolver_transactions.specs.declared.settings.Settings.{Settings}
use Rattle.hickory_resolver_traffic.specs.Groups.{GroupListState, GroupsState, current_of, list_in, is_needed, kept_if_needed, swept, drop_list, changed_list, put_list, new_list, retired, without_current, with_servers}
use Rattle.hickory_resolver_traffic.specs.Traffic.{ticked, begun_as, begun_with, entry_of, came_on, failed_on}
use Rattle.hickory_resolver_traffic.specs.Table.{EntryState}
use Rattle.hickory_resolver_traffic.specs.declared.inbox.ChannelFailure.{ChannelFailure}
use Rattle.hickory_resolver_pool.specs.Laws.{PoolEvent, time_passes, group_has, is_asked, octets_come, channel_fails, is_forgotten, after_event}
use Rattle.hickory_resolver_pool.specs.Pool.{PoolState, AskedOf, no_servers, settings_for, list_of, joiner_of, join_in, join_or_begin, ask_of, after_asking, Steps}
use Rattle.hickory_resolver_pool.specs.Pool as pool
use Rattle.hickory_resolver_pool.specs.Servers.{PoolServerValue, states_of, sources_of}
use Rattle.hickory_resolver_pool.specs.declared.limits.PoolLimits.{PoolLimits}
use Rattle.hickory_resolver_pool_theorems.specs.Answers.{servers_in}
use Rattle.hickory_resolver_pool_theorems.specs.Runs.{Happening, came, did, Runs, at_first, by_event, by_step}
use Rattle.hickory_resolver_pool_theorems.proofs.Keys.{apart-is, nat-self, found-inserted, others-inserted, others-set, found-set, others-removed, gone-removed, Apart, apart-set, apart-inserted, apart-removed}
use Rattle.hickory_resolver_pool_theorems.proofs.Lists.{bare_all, Stays, kept-begun}
use Rattle.hickory_resolver_pool_theorems.proofs.ListsKept.{IsKept, groups-same, kept-step}
use Rattle.hickory_resolver_pool_theorems.proofs.ByNumber.{At, none-inserted, none-set, none-removed}

-- ---- the list of a number has the servers that were given when it was the next

abbrev pub given_in : ℕ → List Happening → List PoolServerValue
given_in n [] = []
given_in n (came s (group_has group servers) ∷ past) =
    cond (eqb s.traffic.groups.next n) servers (given_in n past)
given_in n (other ∷ past) = given_in n past

pub record IsGivenAs (l : GroupListState) (servers : List PoolServerValue) : Type 0 where
  pub states : bare_all l.servers.servers ≡ states_of servers
  pub sources : l.sources ≡ map sources_of servers

-- ---- and the list of a group is the one that was given last

pub record IsCurrentList (given last : List PoolServerValue) (ls : List (ℕ × GroupListState)) (n next : ℕ) : Type 0 where
  pub list : GroupListState
  pub there : At n ls ≡ Some list
  pub is_current : list.is_current ≡ true
  pub servers : last ≡ given
  pub old : n < next

abbrev pub CurrentIs : List Happening → GroupsState → ℕ → Option ℕ → Type 0
CurrentIs past g group None = servers_in group past ≡ []
CurrentIs past g group (Some n) = IsCurrentList (given_in n past) (servers_in group past) g.lists n g.next

pub record GroupsAre (past : List Happening) (g : GroupsState) : Type 0 where
  pub apart : Apart g.lists
  pub new : (n : ℕ) → g.next ≤ n → At n g.lists ≡ None
  pub each : (n : ℕ) → IfSome (At n g.lists) (λ l. IsGivenAs l (given_in n past))
  pub current : (group : ℕ) → CurrentIs past g group (current_of group g)
  pub distinct : (group other n : ℕ) → current_of group g ≡ Some n → current_of other g ≡ Some n → group ≡ other

-- ---- where lists are kept

module _ (past more : List Happening) (g h : GroupsState) (kept : IsKept g h)
    (given : (n : ℕ) → given_in n more ≡ given_in n past) (last : (n : ℕ) → servers_in n more ≡ servers_in n past)
    (w : GroupsAre past g) where
  stays : (n : ℕ) → Stays (At n g.lists) (At n h.lists)
  stays n = kept.lists.each w.apart n

  none-kept : (n : ℕ) → At n g.lists ≡ None → At n h.lists ≡ None
  none-kept n none = by (At n h.lists) (subst (λ (o : Option GroupListState). Stays o (At n h.lists)) none (stays n))
    where
      by : (o : Option GroupListState) → Stays None o → o ≡ None
      by None it = refl
      by (Some l) it = absurd it

  each-kept : (n : ℕ) (a b : Option GroupListState) → Stays a b → IfSome a (λ l. IsGivenAs l (given_in n past))
      → IfSome b (λ l. IsGivenAs l (given_in n more))
  each-kept n None None it own = tt
  each-kept n None (Some k) it own = absurd it
  each-kept n (Some l) None it own = tt
  each-kept n (Some l) (Some k) it own = record {
    states = it.servers ∙ own.states ∙ ap states_of (sym (given n));
    sources = it.sources ∙ own.sources ∙ ap (λ (xs : List PoolServerValue). map sources_of xs) (sym (given n));
  }

  current-kept : (group : ℕ) (n : Option ℕ) → CurrentIs past g group n → CurrentIs more h group n
  current-kept group None own = last group ∙ own
  current-kept group (Some n) own = by (At n h.lists) refl (subst (λ (o : Option GroupListState). Stays o (At n h.lists)) own.there (stays n))
    where
      by : (o : Option GroupListState) → At n h.lists ≡ o → Stays (Some own.list) o
          → IsCurrentList (given_in n more) (servers_in group more) h.lists n h.next
      by None is it = absurd (true≢false (sym own.is_current ∙ it))
      by (Some k) is it = record {
        list = k;
        there = is;
        is_current = it.current ∙ own.is_current;
        servers = last group ∙ own.servers ∙ sym (given n);
        old = subst (λ (m : ℕ). n < m) (sym kept.next) own.old;
      }

  same-current : (group : ℕ) → current_of group h ≡ current_of group g
  same-current group = ap (λ (c : List (ℕ × ℕ)). At group c) kept.current

  pub groups-kept : GroupsAre more h
  groups-kept = record {
    apart = kept.lists.apart w.apart;
    new = λ n later. none-kept n (w.new n (subst (λ (m : ℕ). m ≤ n) kept.next later));
    each = λ n. each-kept n (At n g.lists) (At n h.lists) (stays n) (w.each n);
    current = λ group.
        subst (CurrentIs more h group) (sym (same-current group)) (current-kept group (current_of group g) (w.current group));
    distinct = λ group other n one two.
        w.distinct group other n (sym (same-current group) ∙ one) (sym (same-current other) ∙ two);
  }

-- ---- a group gets servers

module _ (past : List Happening) (s : PoolState) (group : ℕ) (servers : List PoolServerValue)
    (w : GroupsAre past s.traffic.groups) where
  abbrev g : GroupsState
  g = s.traffic.groups

  abbrev later : List Happening
  later = came s (group_has group servers) ∷ past

  abbrev fresh : GroupListState
  fresh = new_list g.next (states_of servers) (map sources_of servers)

  abbrev more : List (ℕ × GroupListState)
  more = insert_entry nat_cmp g.lists g.next fresh

  bare-states : (xs : List PoolServerValue) → bare_all (states_of xs) ≡ states_of xs
  bare-states [] = refl
  bare-states (x ∷ xs) = ap (λ (ys : List ServerState). server_of x.config x.scope ∷ ys) (bare-states xs)

  given-fresh : given_in g.next later ≡ servers
  given-fresh = ap (λ (b : Bool). cond b servers (given_in g.next past)) (eq-eqb g.next g.next refl)

  given-other : (n : ℕ) → eqb n g.next ≡ false → given_in n later ≡ given_in n past
  given-other n is = ap (λ (b : Bool). cond b servers (given_in n past)) (turned (eqb g.next n) refl)
    where
      turned : (b : Bool) → eqb g.next n ≡ b → b ≡ false
      turned false same = refl
      turned true same = absurd (true≢false (sym (eq-eqb n g.next (sym (eqb-true g.next n same))) ∙ is))

  more-each : (n : ℕ) (b : Bool) → eqb n g.next ≡ b → IfSome (At n more) (λ l. IsGivenAs l (given_in n later))
  more-each n true is =
      subst (λ (m : ℕ). IfSome (At m more) (λ l. IsGivenAs l (given_in m later))) (sym (eqb-true n g.next is))
      (subst (λ (o : Option GroupListState). IfSome o (λ l. IsGivenAs l (given_in g.next later)))
      (sym (found-inserted nat_cmp nat-self g.next fresh g.lists)) (record {
        states = bare-states servers ∙ ap states_of (sym given-fresh);
        sources = ap (λ (xs : List PoolServerValue). map sources_of xs) (sym given-fresh);
      }))
  more-each n false is =
      subst (λ (o : Option GroupListState). IfSome o (λ l. IsGivenAs l (given_in n later)))
      (sym (others-inserted n g.next (apart-is n g.next is) fresh g.lists))
      (subst (λ (xs : List PoolServerValue). IfSome (At n g.lists) (λ l. IsGivenAs l xs)) (sym (given-other n is)) (w.each n))

  -- the list before is used no more, and dropped where nobody needs it
  abbrev Left : ℕ → List (ℕ × GroupListState) → Type 0
  Left old ls =
      Apart ls × ((n : ℕ) → eqb n old ≡ false → At n ls ≡ At n more)
      × ((n : ℕ) → IfSome (At n ls) (λ l. IsGivenAs l (given_in n later)))
      × ((n : ℕ) → At n more ≡ None → At n ls ≡ None)

  apart-more : Apart more
  apart-more = apart-inserted g.next fresh g.lists (w.new g.next (omega arith)) w.apart

  left-more : (old : ℕ) → Left old more
  left-more old = (apart-more, (λ n is. refl), (λ n. more-each n (eqb n g.next) refl), λ n none. none)

  left-retired : (old : ℕ) → Left old (changed_list retired old more)
  left-retired old = by (list_in old more) refl
    where
      puts : (l : GroupListState) → list_in old more ≡ Some l → (n : ℕ) (b : Bool) → eqb n old ≡ b
          → IfSome (At n (put_list old (retired l) more)) (λ k. IsGivenAs k (given_in n later))
      puts l found n true is =
          subst (λ (m : ℕ). IfSome (At m (put_list old (retired l) more)) (λ k. IsGivenAs k (given_in m later))) (sym (eqb-true n old is))
          (subst (λ (o : Option GroupListState). IfSome o (λ k. IsGivenAs k (given_in old later)))
          (sym (found-set (is_at (nat_cmp old)) more l (retired l) found)) (record { states = own.states; sources = own.sources }))
        where
          own : IsGivenAs l (given_in old later)
          own = subst (λ (o : Option GroupListState). IfSome o (λ k. IsGivenAs k (given_in old later))) found (more-each old (eqb old g.next) refl)
      puts l found n false is =
          subst (λ (o : Option GroupListState). IfSome o (λ k. IsGivenAs k (given_in n later)))
          (sym (others-set n old (apart-is n old is) (retired l) more)) (more-each n (eqb n g.next) refl)

      by : (l : Option GroupListState) → list_in old more ≡ l
          → Left old (option_map_or (λ x. put_list old (retired x) more) l more)
      by None is = left-more old
      by (Some l) is = (
        apart-set old (retired l) more apart-more,
        (λ n other. others-set n old (apart-is n old other) (retired l) more),
        (λ n. puts l is n (eqb n old) refl),
        λ n none. none-set n old (retired l) more none,
      )

  left-swept : (old : ℕ) (ls : List (ℕ × GroupListState)) → Left old ls → Left old (swept old ls)
  left-swept old ls v = by (list_in old ls)
    where
      each : (n : ℕ) (b : Bool) → eqb n old ≡ b
          → IfSome (At n (drop_list old ls)) (λ k. IsGivenAs k (given_in n later))
      each n true is =
          subst (λ (o : Option GroupListState). IfSome o (λ k. IsGivenAs k (given_in n later)))
          (sym (ap (λ (m : ℕ). At m (drop_list old ls)) (eqb-true n old is) ∙ gone-removed old ls v.0)) tt
      each n false is =
          subst (λ (o : Option GroupListState). IfSome o (λ k. IsGivenAs k (given_in n later)))
          (sym (others-removed n old (apart-is n old is) ls)) (v.2 n)

      needed : (b : Bool) → Left old (cond b ls (drop_list old ls))
      needed true = v
      needed false = (
        apart-removed old ls v.0,
        (λ n other. others-removed n old (apart-is n old other) ls ∙ v.1 n other),
        (λ n. each n (eqb n old) refl),
        λ n none. none-removed n old ls (v.3 n none),
      )

      by : (l : Option GroupListState) → Left old (option_map_or (kept_if_needed old ls) l ls)
      by None = v
      by (Some l) = needed (is_needed l)

  left-without : (old : ℕ) → Left old (without_current more old)
  left-without old = left-swept old (changed_list retired old more) (left-retired old)

  abbrev Given : GroupsState
  Given = with_servers group (states_of servers) (map sources_of servers) g

  next-more : (n : ℕ) → g.next + max (length (states_of servers)) 1 ≤ n → g.next ≤ n
  next-more n later_on = omega (arith, later_on)

  next-other : (n : ℕ) → g.next + max (length (states_of servers)) 1 ≤ n → (b : Bool) → eqb n g.next ≡ b → b ≡ false
  next-other n later_on false is = refl
  next-other n later_on true is =
      let same : n ≡ g.next = eqb-true n g.next is in absurd (omega (arith, later_on, same))

  more-none : (n : ℕ) → g.next + max (length (states_of servers)) 1 ≤ n → At n more ≡ None
  more-none n later_on =
      none-inserted n g.next fresh g.lists (next-other n later_on (eqb n g.next) refl) (w.new n (next-more n later_on))

  -- the lists after it, of which the one before is left out
  abbrev lists_of : Option ℕ → List (ℕ × GroupListState)
  lists_of old = option_map_or (without_current more) old more

  left-lists : (old : Option ℕ) → (l : ℕ) → Left (option_map_or (λ o. o) old l) (lists_of old)
  left-lists None l = left-more l
  left-lists (Some old) l = left-without old

  old-is : (n : ℕ) → current_of group g ≡ Some n → n < g.next
  old-is n is = (subst (CurrentIs past g group) is (w.current group)).old

  -- one that is not the list before stays
  others-stay : (old : Option ℕ) → current_of group g ≡ old → (n : ℕ) → (old ≡ Some n → ⊥) → At n (lists_of old) ≡ At n more
  others-stay None is n apart = refl
  others-stay (Some old) is n apart = (left-without old).1 n (by (eqb n old) refl)
    where
      by : (b : Bool) → eqb n old ≡ b → b ≡ false
      by false same = refl
      by true same = absurd (apart (ap (λ (m : ℕ). Some m) (sym (eqb-true n old same))))

  others-same : (other : ℕ) → eqb other group ≡ false → current_of other Given ≡ current_of other g
  others-same other is = others-inserted other group (apart-is other group is) g.next g.current

  own-now : current_of group Given ≡ Some g.next
  own-now = found-inserted nat_cmp nat-self group g.next g.current

  not-old : current_of group g ≡ Some g.next → ⊥
  not-old is = let less = old-is g.next is in omega (arith, less)

  abbrev next_is : ℕ
  next_is = g.next + max (length (states_of servers)) 1

  current-own : CurrentIs later Given group (Some g.next)
  current-own = record {
    list = fresh;
    there = others-stay (current_of group g) refl g.next not-old ∙ found-inserted nat_cmp nat-self g.next fresh g.lists;
    is_current = refl;
    servers = ap (λ (b : Bool). cond b servers (servers_in group past)) (eq-eqb group group refl) ∙ sym given-fresh;
    old = omega arith;
  }

  current-other : (other : ℕ) → eqb other group ≡ false → (n : Option ℕ) → current_of other g ≡ n
      → CurrentIs past g other n → CurrentIs later Given other n
  current-other other is n at own = by n at own
    where
      turned : (b : Bool) → eqb group other ≡ b → b ≡ false
      turned false same = refl
      turned true same = absurd (true≢false (sym (eq-eqb other group (sym (eqb-true group other same))) ∙ is))

      last : servers_in other later ≡ servers_in other past
      last = ap (λ (b : Bool). cond b servers (servers_in other past)) (turned (eqb group other) refl)

      by : (m : Option ℕ) → current_of other g ≡ m → CurrentIs past g other m → CurrentIs later Given other m
      by None at own = last ∙ own
      by (Some m) at own =
          let apart : current_of group g ≡ Some m → ⊥ =
          λ same. true≢false (sym (eq-eqb other group (w.distinct other group m at same)) ∙ is) in
          let older : eqb m g.next ≡ false = differs m own.old (eqb m g.next) refl in
          record {
            list = own.list;
            there = others-stay (current_of group g) refl m apart
                ∙ others-inserted m g.next (apart-is m g.next older) fresh g.lists ∙ own.there;
            is_current = own.is_current;
            servers = last ∙ own.servers ∙ sym (given-other m older);
            old = let less = own.old in omega (arith, less);
          }
        where
          differs : (k : ℕ) → k < g.next → (b : Bool) → eqb k g.next ≡ b → b ≡ false
          differs k less false same = refl
          differs k less true same = let at_next : k ≡ g.next = eqb-true k g.next same in absurd (omega (arith, less, at_next))

  current-now : (other : ℕ) (b : Bool) → eqb other group ≡ b → CurrentIs later Given other (current_of other Given)
  current-now other true is =
      subst (λ (m : ℕ). CurrentIs later Given m (current_of m Given)) (sym (eqb-true other group is))
      (subst (CurrentIs later Given group) (sym own-now) current-own)
  current-now other false is =
      subst (CurrentIs later Given other) (sym (others-same other is))
      (current-other other is (current_of other g) refl (w.current other))

  not-next : (other : ℕ) → eqb other group ≡ false → current_of other g ≡ Some g.next → ⊥
  not-next other is at =
      let less = (subst (CurrentIs past g other) at (w.current other)).old in omega (arith, less)

  not-both : (one two n : ℕ) → eqb one group ≡ true → eqb two group ≡ false → current_of one Given ≡ Some n
      → current_of two Given ≡ Some n → ⊥
  not-both one two n ones twos is at =
      let number : Some g.next ≡ Some n =
      sym (ap (λ (m : ℕ). current_of m Given) (eqb-true one group ones) ∙ own-now) ∙ is in
      let same : g.next ≡ n = cc in
      not-next two twos (sym (others-same two twos) ∙ at ∙ ap (λ (m : ℕ). Some m) (sym same))

  distinct-now : (one two n : ℕ) (a b : Bool) → eqb one group ≡ a → eqb two group ≡ b
      → current_of one Given ≡ Some n → current_of two Given ≡ Some n → one ≡ two
  distinct-now one two n true true ones twos is at = eqb-true one group ones ∙ sym (eqb-true two group twos)
  distinct-now one two n false false ones twos is at =
      w.distinct one two n (sym (others-same one ones) ∙ is) (sym (others-same two twos) ∙ at)
  distinct-now one two n true false ones twos is at = absurd (not-both one two n ones twos is at)
  distinct-now one two n false true ones twos is at = absurd (not-both two one n twos ones at is)

  groups-given : GroupsAre later Given
  groups-given = record {
    apart = (left-lists (current_of group g) 0).0;
    new = λ n later_on. (left-lists (current_of group g) 0).3 n (more-none n later_on);
    each = (left-lists (current_of group g) 0).2;
    current = λ other. current-now other (eqb other group) refl;
    distinct = λ one two n is at. distinct-now one two n (eqb one group) (eqb two group) refl refl is at;
  }

-- ---- whatever happens

pub kept-asked : (list : Option ℕ) (question : PoolQuestion) (settings : Settings) (at : ℕ) (s : PoolState)
    → IsKept s.traffic.groups (after_asking list question settings at s).traffic.groups
kept-asked None question settings at s = groups-same s.traffic.groups s.traffic.groups refl
kept-asked (Some list) question settings at s = by (joiner_of (list, question) s)
  where
    self : IsKept s.traffic.groups s.traffic.groups
    self = groups-same s.traffic.groups s.traffic.groups refl

    joined-one : (n : ℕ) (a : Option Asker)
        → IsKept s.traffic.groups (option_map_or (λ b. ticked at (record s.traffic { askers = ask.joined n s.traffic.askers })) a s.traffic).groups
    joined-one n None = self
    joined-one n (Some a) = self

    joins : (n : Option ℕ) → IsKept s.traffic.groups (option_map_or (join_in at s) n s).traffic.groups
    joins None = self
    joins (Some n) = joined-one n (joiner n s.traffic.askers)

    place : (p : Place) (e : EntryState) → IsKept s.traffic.groups (begun_as p e list at s.traffic).groups
    place Overloaded e = self
    place InFlight e = record { next = refl; current = refl; lists = kept-begun list s.traffic.groups }
    place Waits e = record { next = refl; current = refl; lists = kept-begun list s.traffic.groups }

    begins : (l : Option GroupListState)
        → IsKept s.traffic.groups (option_map_or (begun_with list question settings at s.traffic) l (ticked at s.traffic)).groups
    begins None = self
    begins (Some l) = place (place_for s.traffic.askers) (entry_of list question settings l)

    by : (a : Option Asker) → IsKept s.traffic.groups (join_or_begin a (list, question) settings at s).traffic.groups
    by None = begins (list_in list s.traffic.groups.lists)
    by (Some a) = joins (pool.number_of (list, question) s.questions)

pub kept-came : (s : PoolState) (channel : ℕ) (octets : List ℕ) (at : ℕ)
    → IsKept s.traffic.groups (after_event s (octets_come channel octets at)).traffic.groups
kept-came s channel octets at = by (channel_at channel s.traffic.shared.channels)
  where
    by : (c : Option Channel)
        → IsKept s.traffic.groups (ticked at (option_map_or (came_on channel octets s.traffic) c s.traffic)).groups
    by None = groups-same s.traffic.groups s.traffic.groups refl
    by (Some c) = groups-same s.traffic.groups s.traffic.groups refl

pub kept-failed : (s : PoolState) (f : ChannelFailure) (at : ℕ)
    → IsKept s.traffic.groups (after_event s (channel_fails f at)).traffic.groups
kept-failed s f at = by (channel_at f.channel s.traffic.shared.channels)
  where
    by : (c : Option Channel)
        → IsKept s.traffic.groups (ticked at (option_map_or (failed_on f s.traffic) c s.traffic)).groups
    by None = groups-same s.traffic.groups s.traffic.groups refl
    by (Some c) = groups-same s.traffic.groups s.traffic.groups refl

groups-event : (past : List Happening) (s : PoolState) (e : PoolEvent) → GroupsAre past s.traffic.groups
    → GroupsAre (came s e ∷ past) (after_event s e).traffic.groups
groups-event past s (time_passes at) w =
    groups-kept past (came s (time_passes at) ∷ past) s.traffic.groups s.traffic.groups
    (groups-same s.traffic.groups s.traffic.groups refl) (λ n. refl) (λ n. refl) w
groups-event past s (group_has group servers) w = groups-given past s group servers w
groups-event past s (is_asked group query options dnssec at) w =
    groups-kept past (came s (is_asked group query options dnssec at) ∷ past) s.traffic.groups
    (after_event s (is_asked group query options dnssec at)).traffic.groups
    (kept-asked (list_of group s.traffic) (question_of query options dnssec) (settings_for s.options options) at s)
    (λ n. refl) (λ n. refl) w
groups-event past s (octets_come channel octets at) w =
    groups-kept past (came s (octets_come channel octets at) ∷ past) s.traffic.groups
    (after_event s (octets_come channel octets at)).traffic.groups (kept-came s channel octets at) (λ n. refl) (λ n. refl) w
groups-event past s (channel_fails f at) w =
    groups-kept past (came s (channel_fails f at) ∷ past) s.traffic.groups
    (after_event s (channel_fails f at)).traffic.groups (kept-failed s f at) (λ n. refl) (λ n. refl) w
groups-event past s (is_forgotten a) w =
    groups-kept past (came s (is_forgotten a) ∷ past) s.traffic.groups s.traffic.groups
    (groups-same s.traffic.groups s.traffic.groups refl) (λ n. refl) (λ n. refl) w

pub groups-runs : (options : OptionsValue) (limits : PoolLimits) (seed : List ℕ) (past : List Happening) (s : PoolState)
    → Runs (no_servers options limits seed) past s → GroupsAre past s.traffic.groups
groups-runs options limits seed _ _ at_first = record {
  apart = tt;
  new = λ n more. refl;
  each = λ n. tt;
  current = λ group. refl;
  distinct = λ group other n one two. absurd cc;
}
groups-runs options limits seed _ _ (by_event past s e more) =
    groups-event past s e (groups-runs options limits seed past s more)
groups-runs options limits seed _ _ (by_step past s after r is more) =
    groups-kept past (did s r ∷ past) s.traffic.groups after.traffic.groups (kept-step s after r is) (λ n. refl) (λ n. refl)
    (groups-runs options limits seed past s more)
