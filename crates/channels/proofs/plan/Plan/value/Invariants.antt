use Rattle.std.proofs.Common.{◌≡◌, ℕ, ◌<◌, List, ◌++◌}
use Rattle.speakall.specs.Plan.{slot_at}
use Rattle.channels.specs.Plans.{plan_in}
use Rattle.channels.proofs.plan.Plan.value.Given as goal

-- the lower digits are left, and the value is that of the higher ones
abbrev pub invariant-loop-digit : goal.invariant-loop-digit
invariant-loop-digit l =
    (higher : List ℕ) × (plan_in l.fn.self ≡ l.digit-iterator.iter.rest.now ++ higher) × (l.value < l.fn.self.q) × (l.value ≡ slot_at l.fn.self.q higher l.x)
