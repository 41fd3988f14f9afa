-- The rise times the inverse of the way.
use Rattle.std.proofs.Common.{rules}
use Rattle.polynomials.proofs.Points.{slope_is}
use Rattle.polynomials.proofs.through.slope.Goals as goal

pub returns : goal.returns
returns c = search (rules, slope_is)
