use Rattle.channels.specs.Settings.{settings}
use Rattle.command_words.proofs.Grown.{each_none, each_more}
use Rattle.speakall.specs.Plan.{size}
use Rattle.std.proofs.Common.{vec_items}
use Rattle.ice_speakers.specs.Speakers.{Says}
use Rattle.ice_speakers.proofs.speakers.speakers_of.Goals as goal

pub loop-spoken-init : goal.loop-spoken-init
loop-spoken-init c = simp c.new-speakers.ensures.items (each_none (Says (size (settings c.args.channel))) c.args.all.now)

pub loop-spoken-preserved : goal.loop-spoken-preserved
loop-spoken-preserved c =
    simp c.in_ok-push.ensures.items
    (each_more (Says (size (settings c.args.channel))) c.args.all.now c.loop-spoken.spoken-index (vec_items c.loop-spoken.speakers) c.spoken-item.result _ c.loop-spoken-test.true c.spoken-item.is (record { number = c.narrowed-number.ensures; message = c.in_ok-message.ensures }) c.loop-spoken.invariant)
