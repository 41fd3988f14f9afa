-- The words copied are the first that are left.
use Rattle.std.proofs.Common.{◌≡◌, length, take}
use Rattle.damage.proofs.seek.keep.Given as goal
use Rattle.readings.specs.Blocks.{left}

abbrev pub invariant-loop-place : goal.invariant-loop-place
invariant-loop-place l = take (length l.yielded) l.room ≡ take (length l.yielded) (left l.fn.block l.out 0 l.words)
