-- The code's plan as the statement's.
-- plan_in, Planned. Assumes nothing.
use Rattle.std.specs.Prelude.{◌≡◌, ℕ, ◌^◌, ◌<◌, take}
use Rattle.channels.specs.declared.plan.Plan.{Plan}
use Rattle.speakall.specs.Plan as statement

abbrev pub plan_in : Plan → statement.Plan
plan_in p = take p.count p.digits

-- the plan of a sender that is there
pub record Planned (p : Plan) (c : statement.Channel) (number : ℕ) : Type 0 where
  pub here : number < c.q ^ c.d
  pub side : p.q ≡ c.q
  pub plan : plan_in p ≡ statement.plan_of c number
