use Rattle.std.proofs.Common.{◌≡◌, ◌++◌, ◌<◌, vec_items, sym, ap, ◌∙◌, arith, rules}
use Rattle.std.proofs.lemmas.Iterator.Adapters.{YieldsList-from_once, fact_from_extend}
use Rattle.std.proofs.lemmas.List.{map-id}
use Rattle.std.specs.Option.{option_to_list}
use Rattle.aired.proofs.Recording.{records_more}
use Rattle.frames.proofs.Own.{there_at}
use Rattle.aired.specs.Aired.{record_with, records_to, what_if}
use Rattle.aired.proofs.recorded.records_of.Goals as goal
use Rattle.aired.proofs.recorded.records_of.Goals.{in-Some+in_ok-extend, in_default}

pub loop-part-init : goal.loop-part-init
unfolding records_to
loop-part-init c = search rules

pub record_of-requires : goal.record_of-requires
record_of-requires c = rw (c.channel-channel.ensures, c.in-Some.ensures.2) (there_at _ _ _ c.args.frame.now.there)

pub loop-y-preserved : goal.loop-y-preserved
loop-y-preserved c =
    let q = c.args.frame.now.channel.q in
    let slots = vec_items c.args.frame.now.slots in
    let x = c.loop-part.part in
    let y = c.loop-y.y in
    let before = vec_items c.loop-y.records in
    let side = rw c.channel-channel.ensures at c.parts-y-end.ensures in
    let sides = rw c.channel-channel.ensures at c.parts-part-end.ensures in
    elim c.match-slot.branch [
      | in-Some+in_ok-extend w ↦
          let one = option_to_list w.record_of.result in
          let more : vec_items w.extend.new.self ≡ before ++ one =
          rw w.in_ok-extend.was at (fact_from_extend (λ x. x) w.extend.result w.extend.ensures.ran (λ it b. YieldsList-from_once w.record_of.result b.0) (λ xs e h. h.0 ∙ ap (λ l. before ++ l) (sym (map-id xs) ∙ e))) in
          let below : y < q = omega arith in
          let here : one ≡ record_with c.args.number x y (what_if c.args.number x w.in-Some.slot) = w.record_of.ensures in
          let next = records_more q c.args.number slots x y below in
          let slot = w.in-Some.ensures.2 in
          let so_far = c.loop-y.invariant in
          rw w.records-is (cc)
      | in_default w ↦ absurd (omega (arith, w.in_default.ensures))
    ]
