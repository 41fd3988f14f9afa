use Rattle.std.proofs.Common.{ℕ, ◌+◌, ◌*◌, ◌∙◌, get_or, rules}
use Rattle.sha256.specs.Message.{bytes}
use Rattle.sha256.specs.Padding.{padded}
use Rattle.sha256.proofs.Steps.{from_fn_items}
use Rattle.sha256.proofs.Zones.{word_made}
use Rattle.sha256.proofs.padding.word_at.Goals as goal

pub returns : goal.returns
returns c =
    let bs = padded (bytes c.args.message.now) in
    c.from_be_bytes.ensures
    ∙ word_made bs _ c.args.n c.from_fn.ensures.items.long (from_fn_items _ (λ (k : ℕ). get_or bs (4 * c.args.n + k) 0) _ (λ i y q k. search rules) _ 0 4 c.from_fn.ensures.items.each)
