use Rattle.std.proofs.Common.{vec_items}
use Rattle.pieces.proofs.Joining.{Joins}
use Rattle.pieces.proofs.together.read_pieces.Given as goal

abbrev pub invariant-loop-piece : goal.invariant-loop-piece
invariant-loop-piece l = Joins (λ v. vec_items v) l.pieces l.piece-index (vec_items l.records) l.reader
