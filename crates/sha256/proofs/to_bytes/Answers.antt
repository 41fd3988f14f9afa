use Rattle.std.proofs.Common.{rules, ◌∙◌}
use Rattle.sha256.proofs.Steps.{bytes_made}
use Rattle.sha256.proofs.to_bytes.Goals as goal

pub returns : goal.returns
returns c = c.copy_from_slice.ensures.after ∙ c.as_flattened.ensures.value ∙ bytes_made _ _ c.map.ensures.items.long (λ k h. search rules)
