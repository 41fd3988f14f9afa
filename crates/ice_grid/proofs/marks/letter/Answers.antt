use Rattle.std.proofs.Common.{sym, ◌∙◌}
use Rattle.std.proofs.lemmas.Slice.Zip.{either_empty_from_Zip}
use Rattle.ice_grid.proofs.Signs.{letter_here, letter_more, letter_none}
use Rattle.ice_grid.proofs.marks.letter.Goals as goal

pub returns-then-other-number : goal.returns-then-other-number
returns-then-other-number c =
    c.from.ensures ∙ sym (letter_here c.args.number _ _ _ _ _ _ c.in-Some.ensures.steps.0 c.in-Some.ensures.steps.1 c.if-other-number.true) ∙ c.loop-other.invariant.2

pub loop-other-preserved : goal.loop-other-preserved
loop-other-preserved c =
    ((tt, tt), tt, sym (letter_more c.args.number _ _ _ _ _ _ c.in-Some.ensures.steps.0 c.in-Some.ensures.steps.1 c.if-other-number.false) ∙ c.loop-other.invariant.2)

pub returns : goal.returns
returns c = sym (letter_none c.args.number _ _ (either_empty_from_Zip c.loop-other.other-iterator c.next.new.self _ c.in-None.is c.next.ensures.steps)) ∙ c.loop-other.invariant.2
