use Rattle.std.proofs.Common.{rules}
use Rattle.sha256.proofs.Nine.{nine_digest}
use Rattle.sha256.proofs.first_word.Goals as goal

pub returns : goal.returns
returns c = search (rules, nine_digest)
