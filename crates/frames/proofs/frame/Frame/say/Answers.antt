use Rattle.std.proofs.Common.{vec_items, sym, ap, ◌∙◌, arith}
use Rattle.channels.specs.Plans.{plan_in}
use Rattle.frames.proofs.Places.{said_more}
use Rattle.speakall.specs.Frame.{word_at}
use Rattle.speakall.specs.Plan.{slot_at}
use Rattle.frames.proofs.frame.Frame.say.Goals as goal

pub loop-part-preserved : goal.loop-part-preserved
loop-part-preserved c =
    let frame = c.args.self.now in
    let f = plan_in c.args.plan in
    let i = c.loop-part.part in (
      c.say_in.ensures.same ∙ c.loop-part.invariant.0,
      said_more frame.channel.q f c.args.sender c.args.message.now i c.in-Some.y c.word_at.result (vec_items frame.slots) (vec_items c.loop-part.self.slots) (vec_items c.say_in.new.self.slots)
          (omega arith) (omega arith) (sym frame.slots.ok.0 ∙ frame.whole) c.loop-part.invariant.1 (c.in-Some.ensures.2 ∙ ap (λ q. slot_at q f i) c.requires.side)
          (c.word_at.ensures ∙ ap (word_at c.args.message.now) c.from.ensures) (rw c.loop-part.invariant.0 at c.say_in.ensures.joined),
    )
