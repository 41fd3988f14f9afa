use Rattle.std.proofs.Common.{◌≡◌, ◌++◌, take, vec_items}
use Rattle.records.specs.Numbers.{bytes_of_numbers}
use Rattle.writers.proofs.put.put_numbers.Given as goal

abbrev pub invariant-loop-number : goal.invariant-loop-number
invariant-loop-number l = vec_items l.out ≡ vec_items l.initial.out ++ bytes_of_numbers (take l.number-index l.numbers)
