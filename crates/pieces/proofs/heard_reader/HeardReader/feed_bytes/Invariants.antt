use Rattle.std.proofs.Common.{take, vec_items}
use Rattle.pieces.specs.Readers.{Fed}
use Rattle.pieces.proofs.heard_reader.HeardReader.feed_bytes.Given as goal

-- the bytes so far were fed
abbrev pub invariant-loop-b : goal.invariant-loop-b
invariant-loop-b l = Fed l.initial.reader (take l.b-index l.piece) (vec_items l.initial.records) l.reader (vec_items l.records)
