-- The term of the system's record.
use Rattle.readings.proofs.System.{coded}
use Rattle.readings.proofs.coded.Goals as goal

pub returns : goal.returns
returns c = coded
