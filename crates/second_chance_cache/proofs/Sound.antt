-- What a clock is stays sound.
use Rattle.std.proofs.Common.{◌≡◌, ℕ, suc, ◌+◌, ◌-◌, ◌%◌, ◌^◌, Bool, true, false, cond, List, [], ◌∷◌, ◌++◌, length, refl, sym, ◌∙◌, ap, subst, arith, length-append}
use Rattle.std.specs.Prelude.{Option, None, Some}
use Rattle.std.specs.Option.{option_map}
use Rattle.std.specs.Str.{bytes_eq}
use native.Mathlib.Nat.{mod-lt}
use Rattle.second_chance_cache.specs.declared.clock.Clock.{Clock}
use Rattle.second_chance_cache.specs.SecondChance.{AreApart, Entry, all_weight, has, unmarked, without}
use Rattle.second_chance_cache.specs.Clock.{AreSound, emptied, live, marked_in, number_at, place_of, weight_at, with_front_unmarked, HasRoom, KeepsRoom}
use Rattle.second_chance_cache.proofs.Keys.{all_weight-asked, apart-append, apart-asked, apart-without, has-own-without, key_flip, length-asked, own_key, same_key, weight-append}
use Rattle.second_chance_cache.proofs.Numbers.{numbers-next}
use Rattle.second_chance_cache.proofs.Slots.{length-emptied, live-append, live-emptied, live-marked, place-absent, place-emptied_other, place-marked, place-push_other, place-push_own, weight-emptied}

module _ {V : Type 0} (numbers : List ℕ → Option ℕ) (first count octets : ℕ) where
  -- an empty slot goes
  pub sound-hole : (s : List (Option (Entry V))) → AreSound numbers (None ∷ s) first count octets
      → AreSound numbers s ((first + 1) % 2 ^ 64) count octets
  sound-hole s sound = record {
    placed = λ key. sound.placed key ∙ numbers-next first (place_of key s);
    small = mod-lt (first + 1) (omega arith);
    apart = sound.apart;
    count = sound.count;
    octets = sound.octets;
  }

  -- the numbers are these afterwards
  module _ (after : List ℕ → Option ℕ) where
    -- the first entry goes
    pub sound-dropped : (e : Entry V) (s : List (Option (Entry V))) → AreSound numbers (Some e ∷ s) first count octets
        → ((other : List ℕ) → after other ≡ cond (bytes_eq e.key other) None (numbers other))
        → AreSound after s ((first + 1) % 2 ^ 64) (count - 1) (octets - e.weight)
    sound-dropped e s sound change = record {
      placed = λ key. by key (bytes_eq e.key key) refl;
      small = mod-lt (first + 1) (omega arith);
      apart = sound.apart.1;
      count = omega (arith, sound.count);
      octets = omega (arith, sound.octets);
    }
      where
        by : (key : List ℕ) (is : Bool) → bytes_eq e.key key ≡ is
            → after key ≡ option_map (number_at ((first + 1) % 2 ^ 64)) (place_of key s)
        by key true own =
            let none : place_of key s ≡ None =
            place-absent key s (subst (λ (k : List ℕ). has k (live s) ≡ false)
            (same_key e.key key own) sound.apart.0) in
            change key ∙ ap (λ (b : Bool). cond b None (numbers key)) own
            ∙ ap (option_map (number_at ((first + 1) % 2 ^ 64))) (sym none)
        by key false own =
            let here : place_of key (Some e ∷ s) ≡ option_map suc (place_of key s) =
            ap (λ (b : Bool). cond b (Some 0) (option_map suc (place_of key s))) (key_flip e.key key own) in
            change key ∙ ap (λ (b : Bool). cond b None (numbers key)) own ∙ sound.placed key
            ∙ ap (option_map (number_at first)) here ∙ numbers-next first (place_of key s)

    -- the first entry goes to the back
    pub sound-turned : (e : Entry V) (s : List (Option (Entry V))) → AreSound numbers (Some e ∷ s) first count octets
        → ((other : List ℕ) → after other
        ≡ cond (bytes_eq e.key other)
        (option_map (λ _. number_at ((first + 1) % 2 ^ 64) (length s)) (numbers e.key)) (numbers other))
        → AreSound after (s ++ Some e ∷ []) ((first + 1) % 2 ^ 64) count octets
    sound-turned e s sound change = record {
      placed = λ key. by key (bytes_eq e.key key) refl;
      small = mod-lt (first + 1) (omega arith);
      apart = subst AreApart (sym (live-append s (Some e ∷ []))) (apart-append (live s) e sound.apart.1 sound.apart.0);
      count = sound.count
          ∙ sym (ap length (live-append s (Some e ∷ [])) ∙ length-append (live s) (e ∷ []) ∙ omega arith);
      octets = sound.octets
          ∙ sym (ap all_weight (live-append s (Some e ∷ [])) ∙ weight-append (live s) (e ∷ []) ∙ omega arith);
    }
      where
        new : ℕ
        new = (first + 1) % 2 ^ 64

        given : option_map (λ (_ : ℕ). number_at ((first + 1) % 2 ^ 64) (length s)) (numbers e.key)
            ≡ Some (number_at ((first + 1) % 2 ^ 64) (length s))
        given =
            ap (option_map (λ (_ : ℕ). number_at ((first + 1) % 2 ^ 64) (length s)))
            (sound.placed e.key
            ∙ ap (λ (b : Bool). option_map (number_at first) (cond b (Some 0) (option_map suc (place_of e.key s))))
            (own_key e.key))

        by : (key : List ℕ) (is : Bool) → bytes_eq e.key key ≡ is
            → after key ≡ option_map (number_at ((first + 1) % 2 ^ 64)) (place_of key (s ++ Some e ∷ []))
        by key true own =
            let is : e.key ≡ key = same_key e.key key own in
            let none : place_of key s ≡ None =
            place-absent key s (subst (λ (k : List ℕ). has k (live s) ≡ false) is sound.apart.0) in
            let for : bytes_eq key e.key ≡ true = subst (λ (k : List ℕ). bytes_eq k e.key ≡ true) is (own_key e.key) in
            change key
            ∙ ap (λ (b : Bool). cond b (option_map (λ (_ : ℕ). number_at ((first + 1) % 2 ^ 64) (length s))
            (numbers e.key))
            (numbers key)) own
            ∙ given
            ∙ ap (option_map (number_at ((first + 1) % 2 ^ 64))) (sym (place-push_own key e s for none))
        by key false own =
            let no : bytes_eq key e.key ≡ false = key_flip e.key key own in
            let here : place_of key (Some e ∷ s) ≡ option_map suc (place_of key s) =
            ap (λ (b : Bool). cond b (Some 0) (option_map suc (place_of key s))) no in
            change key
            ∙ ap (λ (b : Bool). cond b (option_map (λ (_ : ℕ). number_at ((first + 1) % 2 ^ 64) (length s))
            (numbers e.key))
            (numbers key)) own
            ∙ sound.placed key
            ∙ ap (option_map (number_at first)) here ∙ numbers-next first (place_of key s)
            ∙ ap (option_map (number_at ((first + 1) % 2 ^ 64))) (sym (place-push_other key e s no))

    -- an entry comes in
    pub sound-pushed : (e : Entry V) (s : List (Option (Entry V))) → AreSound numbers s first count octets
        → has e.key (live s) ≡ false
        → ((other : List ℕ) → after other ≡ cond (bytes_eq e.key other) (Some (number_at first (length s)))
        (numbers other))
        → AreSound after (s ++ Some e ∷ []) first (count + 1) (octets + e.weight)
    sound-pushed e s sound absent change = record {
      placed = λ key. by key (bytes_eq e.key key) refl;
      small = sound.small;
      apart = subst AreApart (sym (live-append s (Some e ∷ []))) (apart-append (live s) e sound.apart absent);
      count = ap (λ (n : ℕ). n + 1) sound.count
          ∙ sym (ap length (live-append s (Some e ∷ [])) ∙ length-append (live s) (e ∷ []));
      octets = ap (λ (n : ℕ). n + e.weight) sound.octets
          ∙ sym (ap all_weight (live-append s (Some e ∷ [])) ∙ weight-append (live s) (e ∷ []) ∙ omega arith);
    }
      where
        by : (key : List ℕ) (is : Bool) → bytes_eq e.key key ≡ is
            → after key ≡ option_map (number_at first) (place_of key (s ++ Some e ∷ []))
        by key true own =
            let is : e.key ≡ key = same_key e.key key own in
            let none : place_of key s ≡ None =
            place-absent key s (subst (λ (k : List ℕ). has k (live s) ≡ false) is absent) in
            let for : bytes_eq key e.key ≡ true = subst (λ (k : List ℕ). bytes_eq k e.key ≡ true) is (own_key e.key) in
            change key ∙ ap (λ (b : Bool). cond b (Some (number_at first (length s))) (numbers key)) own
            ∙ ap (option_map (number_at first)) (sym (place-push_own key e s for none))
        by key false own =
            change key ∙ ap (λ (b : Bool). cond b (Some (number_at first (length s))) (numbers key)) own
            ∙ sound.placed key
            ∙ ap (option_map (number_at first)) (sym (place-push_other key e s (key_flip e.key key own)))

    -- the slot of a key is emptied
    pub sound-emptied : (key : List ℕ) (at : ℕ) (s : List (Option (Entry V))) → AreSound numbers s first count octets
        → place_of key s ≡ Some at
        → ((other : List ℕ) → after other ≡ cond (bytes_eq key other) None (numbers other))
        → AreSound after (emptied at s) first (count - 1) (octets - weight_at at s)
    sound-emptied key at s sound found change = record {
      placed = λ other. by other (bytes_eq key other) refl;
      small = sound.small;
      apart = subst AreApart (sym gone) (apart-without key (live s) sound.apart);
      count = omega (arith, sound.count, length-emptied key s at found);
      octets = omega (arith, sound.octets, weight-emptied key s at found);
    }
      where
        gone : live (emptied at s) ≡ without key (live s)
        gone = live-emptied key s at sound.apart found

        by : (other : List ℕ) (is : Bool) → bytes_eq key other ≡ is
            → after other ≡ option_map (number_at first) (place_of other (emptied at s))
        by other true own =
            let is : key ≡ other = same_key key other own in
            let none : place_of other (emptied at s) ≡ None =
            place-absent other (emptied at s)
            (subst (λ (k : List ℕ). has k (live (emptied at s)) ≡ false) is
            (ap (has key) gone ∙ has-own-without key (live s))) in
            change other ∙ ap (λ (b : Bool). cond b None (numbers other)) own
            ∙ ap (option_map (number_at first)) (sym none)
        by other false own =
            change other ∙ ap (λ (b : Bool). cond b None (numbers other)) own ∙ sound.placed other
            ∙ ap (option_map (number_at first)) (sym (place-emptied_other key other s at own found))

  -- the entry of a key is asked for
  pub sound-marked : (key : List ℕ) (now at : ℕ) (s : List (Option (Entry V))) → AreSound numbers s first count octets
      → place_of key s ≡ Some at → AreSound numbers (marked_in at now s) first count octets
  sound-marked key now at s sound found =
      let same = live-marked key now s at sound.apart found in record {
        placed = λ other. sound.placed other ∙ ap (option_map (number_at first)) (sym (place-marked other now at s));
        small = sound.small;
        apart = subst AreApart (sym same) (apart-asked key now (live s) sound.apart);
        count = sound.count ∙ sym (ap length same ∙ length-asked key now (live s));
        octets = sound.octets ∙ sym (ap all_weight same ∙ all_weight-asked key now (live s));
      }

  -- the first entry loses its mark
  pub sound-unmarked : (slot : Option (Entry V)) (s : List (Option (Entry V)))
      → AreSound numbers (slot ∷ s) first count octets
      → AreSound numbers (option_map unmarked slot ∷ s) first count octets
  sound-unmarked None s sound = sound
  sound-unmarked (Some e) s sound = record {
    placed = sound.placed;
    small = sound.small;
    apart = sound.apart;
    count = sound.count;
    octets = sound.octets;
  }

  pub sound-front : (s : List (Option (Entry V))) → AreSound numbers s first count octets
      → AreSound numbers (with_front_unmarked s) first count octets
  sound-front [] sound = sound
  sound-front (slot ∷ s) sound = sound-unmarked slot s sound

-- ---- room

pub keeps-same : {V S H : Type 0} (c : Clock V S H) → KeepsRoom c c
keeps-same c = record { len = omega arith; slots = refl; index = omega arith }

pub keeps-both : {V S H : Type 0} (a b c : Clock V S H) → KeepsRoom a b → KeepsRoom b c → KeepsRoom a c
keeps-both a b c first then = record {
  len = omega (arith, first.len, then.len);
  slots = then.slots ∙ first.slots;
  index = omega (arith, first.index, then.index);
}

pub room-kept : {V S H : Type 0} (a b : Clock V S H) → HasRoom a → KeepsRoom a b → HasRoom b
room-kept a b room kept = record {
  slots = omega (arith, room.slots, kept.len, kept.slots);
  index = omega (arith, room.index, kept.index);
}
