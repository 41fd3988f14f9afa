-- The numbers so far are those of the pieces so far.
use Rattle.std.proofs.Common.{map, vec_items}
use Rattle.command_words.specs.Each.{Each}
use Rattle.sender_words.specs.Pieces.{Writes}
use Rattle.sender_words.proofs.pieces.listed.Given as goal

abbrev pub invariant-loop-piece : goal.invariant-loop-piece
invariant-loop-piece l =
    (goal.iterator-loop-piece).can_next l.piece-iterator ×
    (goal.iterator-loop-piece).is_finite l.piece-iterator ×
    Each Writes (map (λ x. x.now) l.yielded) (vec_items l.numbers)
