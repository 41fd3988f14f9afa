-- Either sign of the difference.
use Rattle.std.proofs.Common.{rules}
use Rattle.polynomials.proofs.Table.{inverse_above, inverse_under}
use Rattle.polynomials.proofs.inverses.inverse_of_difference.Goals as goal

pub returns-then-a-x : goal.returns-then-a-x
returns-then-a-x c = search (rules, inverse_above)

pub returns-else-a-x : goal.returns-else-a-x
returns-else-a-x c = search (rules, inverse_under)
