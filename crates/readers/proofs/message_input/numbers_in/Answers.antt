use Rattle.std.proofs.Common.{ℕ, List, ◌/◌, map, length, ap, ◌∙◌, arith, rules}
use Rattle.std.proofs.lemmas.Iterator.{items_from_collect, YieldsList-from_map, YieldsList-from_slice}
use Rattle.std.proofs.lemmas.Iterator.Consumers.{YieldsList-at}
use Rattle.std.proofs.lemmas.Result.{IfOk-at_ok}
use borrow.Author.Tests.{tests}
use Rattle.records.specs.Numbers.{four_at}
use Rattle.records.proofs.Fours.{numbers_chunks}
use Rattle.readers.proofs.message_input.numbers_in.Goals as goal

pub returns : goal.returns
returns c =
    let all = items_from_collect c.collect.result c.collect.ensures.ran (YieldsList-from_map _ (λ (w : List ℕ). four_at 0 w) (YieldsList-at c.map-numbers.ensures.source (YieldsList-from_slice c.as_chunks.result.0.now cc)) c.map-numbers.ensures.closure (λ x r q k. search (rules, tests))) in
    IfOk-at_ok _ c.in_ok-collect.was all ∙ ap (map (λ (w : List ℕ). four_at 0 w)) c.as_chunks.ensures.front ∙ numbers_chunks (length c.args.bytes.now / 4) c.args.bytes.now (omega arith) (omega arith)
