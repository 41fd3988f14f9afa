use Rattle.std.proofs.Common.{rules}
use Rattle.sha256.proofs.Zones.{padding-first, padding-zero, padding_field}
use Rattle.sha256.proofs.padding.padding_at.Goals as goal

pub returns-then-i-eq0 : goal.returns-then-i-eq0
returns-then-i-eq0 c = search (rules, padding-first)

pub returns-then-i-zeros : goal.returns-then-i-zeros
returns-then-i-zeros c = search (rules, padding-zero)

pub returns-else-i-zeros : goal.returns-else-i-zeros
returns-else-i-zeros c = search (rules, padding_field)
