use Rattle.std.proofs.Common.{◌≡◌}
use Rattle.std.specs.Iterator.Adapters.{zip_first, zip_second}
use Rattle.std.specs.Slice.Iter.{iter_rest}
use Rattle.ice_grid.specs.Marks.{letter_of, letters}
use Rattle.ice_grid.proofs.marks.letter.Given as goal

-- what is left decides
abbrev pub invariant-loop-other : goal.invariant-loop-other
invariant-loop-other l =
    (goal.iterator-loop-other).can_next l.other-iterator × (goal.iterator-loop-other).is_finite l.other-iterator
    × (letter_of l.number (iter_rest (zip_first l.other-iterator)) (iter_rest (zip_second l.other-iterator)) ≡ letter_of l.number l.numbers letters)
