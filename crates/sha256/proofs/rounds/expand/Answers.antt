use Rattle.std.proofs.Common.{rules, ◌∙◌, ap, ℕ, ◌+◌}
use Rattle.std.proofs.lemmas.List.{take_at, length-append}
use Rattle.sha256.proofs.Steps.{schedule_none, schedule_more, schedule_all}
use Rattle.sha256.proofs.rounds.expand.Goals as goal

pub loop-n-init : goal.loop-n-init
loop-n-init c = (take_at _ _ 16 c.copy_from_slice.ensures.len ∙ c.copy_from_slice.ensures.after ∙ schedule_none _, length-append c.copy_from_slice.new.self _ ∙ ap (λ (n : ℕ). n + 48) c.copy_from_slice.ensures.len)

pub loop-n-preserved : goal.loop-n-preserved
loop-n-preserved c = search (rules, schedule_more)

pub returns : goal.returns
returns c = search (rules, schedule_all)
