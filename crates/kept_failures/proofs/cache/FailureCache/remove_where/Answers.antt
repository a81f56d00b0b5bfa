-- What is left.
use Rattle.std.proofs.Common.{ℕ, Bool, List}
use Rattle.std.specs.Fn.{FnReturnsAt}
use Rattle.kept_failures.proofs.Left.{left_of}
use Rattle.kept_failures.proofs.cache.FailureCache.remove_where.Goals as goal

pub returns : goal.returns
returns g c =
    rw (← c.self.view_is)
    (left_of (FnReturnsAt {F = g.row.F.Denot} {T = List ℕ} {R = Bool} g.F.Fn c.args.is_gone) c.self.inside.cache
    c.remove_where.new.self c.remove_where.ensures.left c.remove_where.ensures.bounds)
