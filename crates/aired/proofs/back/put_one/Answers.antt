use Rattle.std.proofs.Common.{ap}
use Rattle.channels.specs.Settings.{settings}
use Rattle.aired.proofs.Taking.{one_here}
use Rattle.aired.proofs.back.put_one.Goals as goal

pub returns-clause-cases : goal.returns-clause-cases
returns-clause-cases c = one_here _ _ _ c.args.heard _ _ _ _ c.if-heard-number.false (ap settings c.channel.ensures) c.taken-slot.ensures c.put.ensures.cases
