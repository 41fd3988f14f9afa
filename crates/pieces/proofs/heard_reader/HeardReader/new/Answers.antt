use Rattle.pieces.proofs.Stepping.{channel-waits}
use Rattle.pieces.proofs.heard_reader.HeardReader.new.Goals as goal

pub at-requires-clause-waited : goal.at-requires-clause-waited
at-requires-clause-waited c = rw c.none.ensures channel-waits
