use Rattle.std.proofs.Common.{◌∙◌}
use Rattle.std.proofs.lemmas.Slice.Eq.{slice_eq-Decides}
use Rattle.std.proofs.lemmas.Bool.{both_ways}
use Rattle.words.proofs.Said.{not-said}
use Rattle.words.proofs.Tested.{MatchOption-then_some}
use Rattle.words.proofs.counted.read.Goals as goal
use Rattle.std.proofs.lemmas.Bool.Decides.{Decides-eqb}

pub returns : goal.returns
returns c =
    let said = c.said_in-said in
    let same = slice_eq-Decides Decides-eqb _ _ _ c.eq.ensures in
    MatchOption-then_some c.then_some.result c.eq.result said.result _ _ c.then_some.ensures (λ t. same.0 t ∙ c.to_bytes.ensures)
    (λ f. not-said c.args.bytes c.to_bytes.result said.result.sender said.result.frame said.result.word c.args.part said.ensures.sender said.ensures.frame said.ensures.word c.to_bytes.ensures (λ e. both_ways c.eq.result f (same.1 e)))
