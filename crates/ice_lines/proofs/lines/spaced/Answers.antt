use Rattle.std.proofs.Common.{rules}
use Rattle.ice_lines.proofs.Spaced.{spaced_none, spaced_more}
use Rattle.ice_lines.proofs.lines.spaced.Goals as goal

pub loop-n-init : goal.loop-n-init
loop-n-init c = search (rules, spaced_none)

pub loop-n-preserved : goal.loop-n-preserved
loop-n-preserved c = search (rules, spaced_more)
