-- What was kept of the words so far.
use Rattle.std.proofs.Common.{take}
use Rattle.plan_words.proofs.Reading.{Held}
use Rattle.plan_words.proofs.request.read_words.Given as goal

abbrev pub invariant-loop-i : goal.invariant-loop-i
invariant-loop-i l = Held l.asked.raw l.asked.numbers.items (take l.i l.words)
