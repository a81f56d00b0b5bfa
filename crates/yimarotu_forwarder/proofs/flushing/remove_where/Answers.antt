-- What is left.
use Rattle.std.proofs.Common.{ℕ, Bool, List}
use Rattle.std.specs.Fn.{FnReturnsAt}
use Rattle.kept_failures.proofs.Left.{left_of}
use Rattle.yimarotu_forwarder.proofs.flushing.remove_where.Goals as goal

pub returns : goal.returns
returns g c =
    left_of (FnReturnsAt {F = g.row.F.Denot} {T = List ℕ} {R = Bool} g.F.Fn c.args.is_gone) c.args.cache.now
    c.remove_where.new.self c.remove_where.ensures.left c.remove_where.ensures.bounds
