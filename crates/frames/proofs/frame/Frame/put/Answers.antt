use Rattle.std.proofs.Common.{rules}
use Rattle.frames.proofs.There.{there_set}
use Rattle.frames.proofs.frame.Frame.put.Goals as goal

pub invariant_of-self : goal.invariant_of-self
invariant_of-self c = record { whole = search rules; there = search (rules, there_set) }
