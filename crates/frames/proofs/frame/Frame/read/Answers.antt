use Rattle.std.proofs.Common.{vec_items, ap, ◌∙◌, arith}
use Rattle.channels.proofs.Facts.{channel_good}
use Rattle.channels.specs.Settings.{settings}
use Rattle.frames.proofs.Delivery.{delivered}
use Rattle.polynomials.specs.Heard.{words_in}
use Rattle.speakall.specs.Plan.{plan_of}
use Rattle.frames.proofs.frame.Frame.read.Goals as goal

pub returns-clause-delivered : goal.returns-clause-delivered
returns-clause-delivered c =
    let frame = c.args.self.now in
    let plan = plan_of (settings c.args.self.now.channel) c.args.number in
    let words = ap words_in c.deref.ensures.value ∙ c.in_ok-words.ensures in
    delivered (settings frame.channel) (vec_items frame.slots) plan (words_in c.deref.result.now) c.read.result c.args.message.now c.read.new.message words (omega arith) c.read.ensures.made
    (channel_good frame.channel)
