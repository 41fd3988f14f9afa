use Rattle.std.proofs.Common.{◌∙◌, rules}
use Rattle.std.proofs.lemmas.Result.{IfOk-weaker}
use Rattle.ice_grid.proofs.Signs.{label_padded}
use Rattle.ice_grid.proofs.grid.label.Goals as goal

pub returns : goal.returns
returns c = IfOk-weaker c.format.result _ _ (λ s e. e ∙ label_padded c.args.y (search rules)) (simp c.laid_out.ensures at c.format.ensures.ok)
