use Rattle.channels.specs.Settings.{settings}
use Rattle.speakall.specs.Plan.{plan_of}
use Rattle.std.proofs.Common.{vec_items}
use Rattle.frames.proofs.Own.{Gathered}
use Rattle.frames.proofs.frame.Frame.words.Given as goal

abbrev pub invariant-loop-part : goal.invariant-loop-part
invariant-loop-part l = Gathered (settings l.self.channel) (vec_items l.self.slots) (plan_of (settings l.self.channel) l.number) l.part (vec_items l.words)
