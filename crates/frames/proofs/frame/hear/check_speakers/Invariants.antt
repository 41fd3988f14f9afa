use Rattle.std.proofs.Common.{◌≡◌, drop}
use Rattle.channels.specs.Settings.{settings}
use Rattle.frames.specs.Speakers.{refusal_in}
use Rattle.frames.proofs.frame.hear.check_speakers.Given as goal

-- those left decide
abbrev pub invariant-loop-speaker : goal.invariant-loop-speaker
invariant-loop-speaker l = refusal_in (settings l.channel) (drop l.speaker-index l.speakers) ≡ refusal_in (settings l.channel) l.speakers
