-- A cache keeps to its bounds.
use Rattle.std.proofs.Common.{◌≡◌, ℕ, ◌+◌, ◌<◌, ◌≤◌, Bool, true, false, cond, List, [], ◌∷◌, ◌++◌, length, refl, arith, length-append}
use Rattle.std.specs.Prelude.{nat_lt, nat_le}
use Rattle.std.proofs.lemmas.Bool.{and_parts, leb-true, ltb-true}
use Rattle.second_chance_cache.specs.declared.bounds.CacheBounds.{CacheBounds}
use Rattle.second_chance_cache.specs.SecondChance.{AreApart, CacheValue, Entry, IsCache, all_weight, asked, has, is_kept, make_room, no_entries, stored, without}
use Rattle.second_chance_cache.specs.Laws.{CacheEvent, stores, asks, removes, clears, KeepsToItsBounds, after_event, after_events}
use Rattle.second_chance_cache.proofs.Keys.{all_weight-asked, apart-append, apart-asked, apart-without, has-own-without, length-asked, length-without, weight-append, weight-without}
use Rattle.second_chance_cache.proofs.Rounds.{apart-made, has-made, room-made}

module _ {V : Type 0} where
  abbrev IsWithin : CacheBounds → List (Entry V) → Type 0
  IsWithin bounds es = IsCache (record { bounds = bounds; entries = es })

  pub within-nothing : (bounds : CacheBounds) → IsWithin bounds []
  within-nothing bounds = record { count = omega arith; octets = omega arith; apart = tt }

  pub within-without : (bounds : CacheBounds) (key : List ℕ) (es : List (Entry V)) → IsWithin bounds es
      → IsWithin bounds (without key es)
  within-without bounds key es w = record {
    count = omega (arith, w.count, length-without key es);
    octets = omega (arith, w.octets, weight-without key es);
    apart = apart-without key es w.apart;
  }

  pub within-asked : (bounds : CacheBounds) (key : List ℕ) (now : ℕ) (es : List (Entry V)) → IsWithin bounds es
      → IsWithin bounds (asked key now es)
  within-asked bounds key now es w = record {
    count = omega (arith, w.count, length-asked key now es);
    octets = omega (arith, w.octets, all_weight-asked key now es);
    apart = apart-asked key now es w.apart;
  }

  -- one more of this weight
  pub record HasPlace (bounds : CacheBounds) (weight : ℕ) (key : List ℕ) (es : List (Entry V)) : Type 0 where
    pub count : length es + 1 ≤ bounds.entries
    pub octets : all_weight es + weight ≤ bounds.octets
    pub apart : AreApart es
    pub absent : has key es ≡ false

  pub place-made : (bounds : CacheBounds) (key : List ℕ) (weight now : ℕ) (es : List (Entry V)) → IsWithin bounds es
      → is_kept bounds weight ≡ true → HasPlace bounds weight key (make_room bounds weight now (without key es))
  place-made bounds key weight now es w kept =
      let rest : List (Entry V) = make_room bounds weight now (without key es) in
      let parts =
      and_parts (nat_lt (length rest) bounds.entries) (nat_le (all_weight rest + weight) bounds.octets)
      (room-made bounds weight now kept (without key es)) in
      let few : length rest < bounds.entries = ltb-true (length rest) bounds.entries parts.0 in
      let light : all_weight rest + weight ≤ bounds.octets = leb-true
      (all_weight rest + weight) bounds.octets parts.1 in record {
        count = omega arith;
        octets = light;
        apart = apart-made bounds weight now (without key es) (apart-without key es w.apart);
        absent = has-made bounds weight now key (without key es) (has-own-without key es);
      }

  pub within-pushed : (bounds : CacheBounds) (e : Entry V) (es : List (Entry V)) → HasPlace bounds e.weight e.key es
      → IsWithin bounds (es ++ e ∷ [])
  within-pushed bounds e es place = record {
    count = omega (arith, place.count, length-append es (e ∷ []));
    octets = omega (arith, place.octets, weight-append es (e ∷ []));
    apart = apart-append es e place.apart place.absent;
  }

  pub within-stored : (key : List ℕ) (value : V) (weight deadline now : ℕ) (c : CacheValue V) → IsCache c
      → IsCache (stored key value weight deadline now c)
  within-stored key value weight deadline now c w = by (is_kept c.bounds weight) refl
    where
      new : Entry V
      new = record { key = key; value = value; weight = weight; deadline = deadline; asked_again = false }

      by : (b : Bool) → is_kept c.bounds weight ≡ b
          → IsWithin c.bounds
          (cond b (make_room c.bounds weight now (without key c.entries)
          ++ record { key = key; value = value; weight = weight; deadline = deadline; asked_again = false } ∷ [])
          (without key c.entries))
      by true kept =
          within-pushed c.bounds
          (record { key = key; value = value; weight = weight; deadline = deadline; asked_again = false })
          (make_room c.bounds weight now (without key c.entries))
          (place-made c.bounds key weight now c.entries w kept)
      by false kept = within-without c.bounds key c.entries w

  within-event : (c : CacheValue V) (event : CacheEvent V) → IsCache c → IsCache (after_event c event)
  within-event c (stores key value weight deadline now) w = within-stored key value weight deadline now c w
  within-event c (asks key now) w = within-asked c.bounds key now c.entries w
  within-event c (removes key) w = within-without c.bounds key c.entries w
  within-event c clears w = within-nothing c.bounds

  within-events : (c : CacheValue V) (events : List (CacheEvent V)) → IsCache c → IsCache (after_events c events)
  within-events c [] w = w
  within-events c (event ∷ events) w = within-events (after_event c event) events (within-event c event w)

pub keeps_to_its_bounds : (V : Type 0) → KeepsToItsBounds V
keeps_to_its_bounds V bounds events = within-events (no_entries bounds) events (within-nothing bounds)
