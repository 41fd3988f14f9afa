use Rattle.std.proofs.Common.{sym, refl}
use Rattle.std.proofs.lemmas.List.{get_or_append_left, get_or-append_right}
use Rattle.sha256.proofs.message.Message.byte.Goals as goal

pub returns-then-i-self : goal.returns-then-i-self
returns-then-i-self c = sym (get_or_append_left _ _ 0 _ c.if-i-self.true)

pub returns-else-i-self : goal.returns-else-i-self
returns-else-i-self c = sym (get_or-append_right _ _ _ _ 0 refl c.if-i-self.false)
