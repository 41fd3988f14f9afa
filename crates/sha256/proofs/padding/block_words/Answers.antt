use Rattle.std.proofs.Common.{ℕ, ◌+◌, ◌*◌, rules}
use Rattle.sha256.specs.Message.{bytes}
use Rattle.sha256.specs.Padding.{padded, word_at}
use Rattle.sha256.proofs.Steps.{from_fn_items}
use Rattle.sha256.proofs.Zones.{words_made}
use Rattle.sha256.proofs.padding.block_words.Goals as goal

pub returns : goal.returns
returns c =
    words_made (padded (bytes c.args.message.now)) _ (16 * c.args.n) c.from_fn.ensures.items.long
    (from_fn_items _ (λ (k : ℕ). word_at (padded (bytes c.args.message.now)) (16 * c.args.n + k)) _ (λ i y q k. search rules) _ 0 16 c.from_fn.ensures.items.each)
