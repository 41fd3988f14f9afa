use Rattle.std.proofs.Common.{replicate, refl, rules}
use Rattle.records.proofs.Items.{joined_parts}
use Rattle.records.proofs.heard.joined.Goals as goal

pub returns : goal.returns
returns c = rw (c.copy_from_slice.ensures.after, c.copy_from_slice-2.ensures.after) (joined_parts c.args.head c.args.word (replicate 12 0) (search rules) refl)
