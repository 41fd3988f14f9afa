use Rattle.std.proofs.Common.{rules}
use Rattle.channels.proofs.Digits.{written_none, written_more, written_all}
use Rattle.channels.proofs.plan.make.write_digits.Goals as goal

pub loop-digit-init : goal.loop-digit-init
loop-digit-init c = search (rules, written_none)

pub loop-digit-preserved : goal.loop-digit-preserved
loop-digit-preserved c = search (rules, written_more)

pub returns : goal.returns
returns c = search (rules, written_all)
