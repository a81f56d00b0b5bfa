use Rattle.std.proofs.Common.{◌∙◌, ◌++◌, ap, sym}
use Rattle.sha1.specs.Sha1.{sha1}
use Rattle.synthesis.proofs.Hashes.{first_digest, next_digest}
use Rattle.synthesis.proofs.nsec3.iterated.Goals as goal

pub loop-init : goal.loop-init
loop-init c = c.salted-hash.ensures ∙ sym (first_digest c.args.salt.now c.args.octets.now)

pub loop-preserved : goal.loop-preserved
loop-preserved c =
    c.salted-hash-in-loop.ensures ∙ ap (λ h. sha1 (h ++ c.args.salt.now)) c.loop.invariant
    ∙ sym (next_digest c.args.salt.now c.args.octets.now c.loop.counter)
