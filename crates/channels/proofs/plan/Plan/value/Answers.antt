use Rattle.std.proofs.Common.{◌≡◌, [], ◌∷◌, ◌∙◌, sym, arith}
use Rattle.std.proofs.lemmas.List.{append-nil}
use Rattle.channels.proofs.Digits.{one_lower}
use Rattle.speakall.specs.Plan.{slot_at}
use Rattle.channels.specs.Plans.{plan_in}
use Rattle.channels.proofs.plan.Plan.value.Goals as goal

pub loop-digit-init : goal.loop-digit-init
unfolding slot_at
loop-digit-init c =
    let all : plan_in c.args.self ≡ c.into_iter-digit-iterator.result.iter.rest.now = cc in
    ([], all ∙ sym (append-nil c.into_iter-digit-iterator.result.iter.rest.now), omega arith, cc)

pub loop-digit-preserved : goal.loop-digit-preserved
unfolding slot_at
loop-digit-preserved c =
    let higher = c.loop-digit.invariant.0 in
    (c.in-Some.digit.now ∷ higher, one_lower c.next.new.self.iter.rest.now c.in-Some.digit.now higher c.loop-digit.invariant.1 c.in-Some.ensures.steps, omega arith, cc)
