use Rattle.std.proofs.Common.{take, vec_items}
use Rattle.channels.specs.Settings.{settings}
use Rattle.command_words.specs.Each.{Each}
use Rattle.speakall.specs.Plan.{size}
use Rattle.ice_speakers.specs.Speakers.{Says}
use Rattle.ice_speakers.proofs.speakers.speakers_of.Given as goal

abbrev pub invariant-loop-spoken : goal.invariant-loop-spoken
invariant-loop-spoken l = Each (Says (size (settings l.channel))) (take l.spoken-index l.all) (vec_items l.speakers)
