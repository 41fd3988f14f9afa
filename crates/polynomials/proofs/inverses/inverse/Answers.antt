-- The whole table passes its test.
use Rattle.std.proofs.Common.{rules}
use Rattle.polynomials.proofs.Table.{inverse_at}
use Rattle.polynomials.proofs.inverses.inverse.Goals as goal

pub returns : goal.returns
returns c = rw (c.from-2.ensures, c.from.ensures) (search (rules, inverse_at))
