use Rattle.std.proofs.Common.{rules}
use Rattle.std.proofs.lemmas.List.{length-append}
use Rattle.sha256.proofs.Zones.{digest_blocks}
use Rattle.sha256.proofs.digest.Goals as goal

pub returns : goal.returns
returns c = search (rules, digest_blocks, length-append)
