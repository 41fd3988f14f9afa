use Rattle.std.proofs.Common.{rules, ◌≡◌, true, false}
use Rattle.channels.specs.Settings.{settings}
use Rattle.std.proofs.lemmas.Bool.{both_ways}
use Rattle.words.proofs.Taken.{counts_here, counts_not}
use Rattle.words.proofs.Tested.{tested_none, tested_some, MatchOption-then_some}
use Rattle.words.proofs.air_word.AirWord.from_bytes.Goals as goal

pub returns-in_err-said-clause-tested : goal.returns-in_err-said-clause-tested
returns-in_err-said-clause-tested c = search (rules, tested_none)

pub returns-clause-tested : goal.returns-clause-tested
returns-clause-tested c =
    let said = c.in_ok-said.said in
    let counted = λ (t : c.counts.result ≡ true). counts_here (settings c.args.channel) c.args.frame c.args.part c.args.slot said.sender said.frame said.word c.args.bytes c.in_ok-said.ensures (c.counts.ensures.0 t) in
    let noise = λ (f : c.counts.result ≡ false). counts_not (settings c.args.channel) c.args.frame c.args.part c.args.slot said.sender said.frame said.word c.args.bytes
    (search rules) (search rules) (search rules) c.in_ok-said.ensures (λ h. both_ways c.counts.result f (c.counts.ensures.1 h)) in
    MatchOption-then_some _ _ _ _ _ c.then_some.ensures (λ t. tested_some _ _ _ _ _ _ _ (search rules) (counted t)) (λ f. tested_none _ _ _ _ _ (noise f))
