use Rattle.std.proofs.Common.{◌≡◌, ◌∙◌, ◌&&◌, Bool, ap, take, drop, arith}
use Rattle.std.specs.List.{list_all}
use Rattle.hickory_proto_core.specs.Records.{a_data}
use Rattle.whole_lookups.specs.Denied.{is_kept_address}
use Rattle.whole_lookups.specs.Hints.{addresses_at}
use Rattle.whole_lookups.proofs.Hinted.{no-more-addresses, one-address}
use Rattle.whole_lookups.proofs.hints.v4_stay.Goals as goal

pub loop-preserved : goal.loop-preserved
loop-preserved c =
    let p = is_kept_address c.args.allow.now c.args.deny.now in
    let octets = c.args.octets.now in
    let same : c.both-stay.result ≡ (p (a_data (take 4 (drop c.loop.at octets))) && c.loop.stay) =
    c.both-stay.ensures ∙ ap (λ (b : Bool). b && c.loop.stay) c.is_v4_kept-kept.ensures in record {
      within = omega (arith, c.loop.invariant.within);
      so_far =
          rw same
          (one-address a_data 4 octets p c.args.count c.loop.counter c.loop.at c.loop.stay
          (list_all p (addresses_at a_data 4 c.args.count octets c.args.at)) (omega arith) c.loop.invariant.so_far);
    }

pub returns : goal.returns
returns c =
    let p = is_kept_address c.args.allow.now c.args.deny.now in
    let octets = c.args.octets.now in
    no-more-addresses a_data 4 octets p c.args.count c.loop.counter c.loop.at c.loop.stay
    (list_all p (addresses_at a_data 4 c.args.count octets c.args.at)) (omega arith) c.loop.invariant.so_far
