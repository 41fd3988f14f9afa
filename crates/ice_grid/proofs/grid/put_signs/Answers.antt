use Rattle.std.proofs.Common.{◌≡◌, vec_items, string_bytes, ap, ◌∙◌, arith}
use Rattle.channels.specs.declared.channel.Channel.{Channel}
use Rattle.ice_grid.proofs.Signs.{signs_none, signs_more, signs_not, signs_all}
use Rattle.ice_grid.proofs.grid.put_signs.Goals as goal
use Rattle.ice_grid.proofs.grid.put_signs.Goals.{in-Some+in_ok-put, in_default}

pub loop-part-init : goal.loop-part-init
loop-part-init c = signs_none c.args.frame.now.channel.q (vec_items c.args.frame.now.slots) c.args.numbers.now c.args.y (string_bytes c.args.text.now)

pub loop-part-preserved : goal.loop-part-preserved
loop-part-preserved c =
    let q = c.args.frame.now.channel.q in
    let same : c.channel.result.q ≡ q = ap (λ (k : Channel). k.q) c.channel.ensures in
    let slots = vec_items c.args.frame.now.slots in
    elim c.match-slot.branch [
      | in-Some+in_ok-put w ↦
          ap string_bytes w.text-is
          ∙ signs_more q slots c.args.numbers.now c.args.y c.loop-part.part _ (string_bytes c.loop-part.text) _ w.in-Some.slot w.mark.result c.loop-part.invariant w.in-Some.ensures.1 w.in-Some.ensures.2 w.mark.ensures w.in_ok-put.ensures
      | in_default w ↦
          ap string_bytes w.text-is ∙ signs_not q slots c.args.numbers.now c.args.y c.loop-part.part _ (string_bytes c.loop-part.text) c.loop-part.invariant (w.in_default.ensures (omega arith))
    ]

pub returns : goal.returns
returns c =
    let same : c.channel.result.q ≡ c.args.frame.now.channel.q = ap (λ (k : Channel). k.q) c.channel.ensures in
    signs_all c.args.frame.now.channel.q (vec_items c.args.frame.now.slots) c.args.numbers.now c.args.y c.loop-part.part (string_bytes c.args.text.now) (string_bytes c.loop-part.text) c.loop-part.invariant (omega arith)
