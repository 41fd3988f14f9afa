use Rattle.std.proofs.Common.{◌/◌, length, arith, rules}
use Rattle.std.proofs.lemmas.Iterator.{cases_from_all, YieldsList-from_slice}
use borrow.Author.Tests.{tests}
use Rattle.records.proofs.Fours.{Small, Large, small_told}
use Rattle.records.proofs.numbers.are_small.Goals as goal

pub returns : goal.returns
returns c =
    let cases = cases_from_all _ _ _ Small Large c.all.ensures.ran (YieldsList-from_slice c.as_chunks.result.0.now cc) (λ x q k. search (rules, tests)) (λ x q k. search (rules, tests)) in
    small_told c.all.result (length c.args.bytes.now / 4) c.args.bytes.now (omega arith) (omega arith) (rw c.as_chunks.ensures.front at cases)
