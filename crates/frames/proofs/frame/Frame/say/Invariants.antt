use Rattle.std.proofs.Common.{◌≡◌, vec_items}
use Rattle.channels.specs.Plans.{plan_in}
use Rattle.frames.specs.Slots.{Said}
use Rattle.frames.proofs.frame.Frame.say.Given as goal

abbrev pub invariant-loop-part : goal.invariant-loop-part
invariant-loop-part l =
    (l.self.channel ≡ l.initial.self.channel)
    × Said l.initial.self.channel.q (plan_in l.plan) l.sender l.message l.part (vec_items l.initial.self.slots) (vec_items l.self.slots)
