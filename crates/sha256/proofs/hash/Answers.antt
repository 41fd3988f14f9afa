use Rattle.std.proofs.Common.{rules}
use Rattle.sha256.proofs.Zones.{blocks_none, blocks_more}
use Rattle.sha256.proofs.hash.Goals as goal

pub loop-n-init : goal.loop-n-init
loop-n-init c = search (rules, blocks_none)

pub loop-n-preserved : goal.loop-n-preserved
loop-n-preserved c = search (rules, blocks_more)
