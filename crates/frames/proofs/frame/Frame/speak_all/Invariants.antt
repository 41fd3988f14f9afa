use Rattle.std.proofs.Common.{◌≡◌, vec_items}
use Rattle.channels.specs.Settings.{settings}
use Rattle.frames.specs.Slots.{Hears}
use Rattle.frames.specs.Speakers.{speakers_in}
use Rattle.polynomials.proofs.Backward.{passed}
use Rattle.frames.proofs.frame.Frame.speak_all.Given as goal

-- those passed, the last ones, are heard
abbrev pub invariant-loop-speaker : goal.invariant-loop-speaker
invariant-loop-speaker l =
    (l.self.channel ≡ l.initial.self.channel)
    × Hears (settings l.initial.self.channel) (speakers_in (settings l.initial.self.channel) (passed l.speakers l.yielded)) (vec_items l.self.slots)
