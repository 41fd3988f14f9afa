use Rattle.channels.proofs.Digits.{Written}
use Rattle.channels.proofs.plan.make.write_digits.Given as goal

abbrev pub invariant-loop-digit : goal.invariant-loop-digit
invariant-loop-digit l = Written l.q l.fn.number l.digit-index l.rest l.digits
