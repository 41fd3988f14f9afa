use Rattle.std.proofs.Common.{◌≡◌, ◌+◌, length, take}
use Rattle.sha256.specs.Hash.{schedule}
use Rattle.sha256.proofs.rounds.expand.Given as goal

abbrev pub invariant-loop-n : goal.invariant-loop-n
invariant-loop-n l = (take (l.n + 16) l.w ≡ schedule l.fn.block l.n) × (length l.w ≡ 64)
