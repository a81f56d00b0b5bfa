use Rattle.std.proofs.Common.{◌≡◌, false, take}
use Rattle.std.specs.List.{list_any}
use Rattle.hickory_resolver_model.specs.Verdict.{is_led_match}
use Rattle.hickory_resolver_client.proofs.verdict.any_led_match.Given as goal

abbrev pub invariant-loop-found : goal.invariant-loop-found
invariant-loop-found l = list_any (is_led_match l.query l.walk) (take l.found-index l.records) ≡ false
