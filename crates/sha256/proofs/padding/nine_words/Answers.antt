use Rattle.std.proofs.Common.{rules}
use Rattle.sha256.proofs.Nine.{nine_words}
use Rattle.sha256.proofs.padding.nine_words.Goals as goal

pub returns : goal.returns
returns c = search (rules, nine_words)
