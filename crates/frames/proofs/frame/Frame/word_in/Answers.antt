use Rattle.std.proofs.Common.{ℕ, ◌∙◌, ap₂, vec_items, refl, arith}
use Rattle.channels.specs.Settings.{settings}
use Rattle.frames.proofs.Own.{own_in}
use Rattle.speakall.specs.Plan.{Plan, slot_at}
use Rattle.frames.proofs.frame.Frame.word_in.Goals as goal

pub returns : goal.returns
returns c =
    let frame = c.args.self.now in
    own_in (settings frame.channel) c.args.number c.args.part c.in_ok-y.y frame.channel.q (vec_items frame.slots) c.at.result c.word_of.result (omega arith) c.requires.planned.here
    frame.there refl
    (c.in_ok-y.ensures.2 ∙ ap₂ (λ (q : ℕ) (f : Plan). slot_at q f c.args.part) c.requires.planned.side c.requires.planned.plan) c.at.ensures c.word_of.ensures
