-- What the polynomial through the words kept is.
use Rattle.std.proofs.Common.{rules}
use Rattle.damage.proofs.Trying.{tried}
use Rattle.damage.proofs.seek.Search.attempt.Goals as goal

pub returns : goal.returns
returns c = let fitted = c.if-not-interpolate.ensures in tried _ _ _ _ _ _ (search rules) fitted.2 fitted.3 c.near.ensures
