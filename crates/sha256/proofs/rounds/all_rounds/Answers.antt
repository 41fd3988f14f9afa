use Rattle.std.proofs.Common.{rules, ◌∙◌, ap}
use Rattle.std.specs.List.{fold, zip}
use Rattle.std.proofs.lemmas.Iterator.{YieldsList-from_slice, YieldsList-from_zip}
use Rattle.std.proofs.lemmas.Iterator.Consumers.{fold_from_yields_List, YieldsList-at}
use Rattle.sha256.proofs.Steps.{round_of, all_rounds}
use Rattle.sha256.proofs.rounds.all_rounds.Goals as goal

pub returns : goal.returns
returns c =
    let w = c.args.w.now in
    fold_from_yields_List _ round_of c.args.state _ c.fold.ensures.ran (YieldsList-from_zip (YieldsList-at c.zip.ensures.first (YieldsList-from_slice c.round_constants.result.now c.iter.ensures.rest)) (YieldsList-from_slice w (search rules))) (λ a x b q k. search rules)
    ∙ ap (λ ks. fold round_of c.args.state (zip ks w)) c.round_constants.ensures ∙ all_rounds w c.args.state (search rules)
