use Rattle.std.proofs.Common.{◌≡◌, ℕ, ◌<◌, ◌^◌, List, ◌∙◌, ap, subst, length, arith}
use Rattle.std.specs.Prelude.{Some}
use Rattle.std.specs.Option.{option_map}
use Rattle.second_chance_cache.specs.Clock.{number_at, number_in, place_of}
use Rattle.second_chance_cache.proofs.Slots.{place-back}
use Rattle.second_chance_cache.proofs.clock.Clock.place_of.Goals as goal

pub returns-in-Some : goal.returns-in-Some
returns-in-Some g c =
    let clock = c.args.self.now in
    let key = c.args.key.now in
    let counted : clock.slots.len ≡ length clock.slots.items = clock.slots.ok.0 in
    let fits : clock.slots.len < 2 ^ 64 = omega (arith, clock.slots.small.0, clock.slots.small.1) in
    let short : length clock.slots.items < 2 ^ 64 = omega arith in
    let known : Some c.in-Some.number.now ≡ option_map (number_at clock.first) (place_of key clock.slots.items) =
    subst (λ (k : List ℕ). Some c.in-Some.number.now ≡ number_in k clock.index) c.of.ensures c.in-Some.ensures.value
    ∙ c.requires.placed key in
    ap Some c.place.ensures
    ∙ place-back key clock.slots.items clock.first c.in-Some.number.now c.requires.small short known
