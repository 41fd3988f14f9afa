use Rattle.std.proofs.Common.{◌≡◌, length}
use Rattle.sha256.specs.Padding.{padded}
use Rattle.sha256.specs.Hash.{blocks_done}
use Rattle.sha256.specs.Message.{bytes}
use Rattle.sha256.proofs.hash.Given as goal

abbrev pub invariant-loop-n : goal.invariant-loop-n
invariant-loop-n l = (l.hash ≡ blocks_done (padded (bytes l.message)) l.n) × (length l.hash ≡ 8)
