-- The five words.
use Rattle.readings.proofs.Split.{majority}
use Rattle.readings.proofs.majority.Goals as goal

pub returns : goal.returns
returns c = majority
