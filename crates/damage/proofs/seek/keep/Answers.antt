-- The words that are left, one after the other.
use Rattle.std.proofs.Common.{ℕ, ◌/◌, Bool, not, length, rules, tests, length-append}
use Rattle.damage.proofs.Trying.{end, kept_all, kept_more, turn}
use Rattle.damage.proofs.seek.keep.Goals as goal
use Rattle.polynomials.specs.declared.words.PartWord.{PartWord}
use Rattle.readings.specs.Blocks.{is_among}
use Rattle.std.proofs.lemmas.Iterator.{YieldsList-from_slice, YieldsList-from_take}
use Rattle.std.proofs.lemmas.Iterator.Consumers.{YieldsList-at, YieldsList-from_enumerate, YieldsList-from_filter}

pub loop-place-preserved : goal.loop-place-preserved
loop-place-preserved c =
    let ws = c.args.words.now in
    let n = length c.args.room.now in
    let test : ℕ × PartWord → Bool = λ p. not (is_among (p.0 / c.args.block) c.args.out.now) in
    let at = turn c.loop-place.yielded _ c.loop-place.yielded_by _ _ c.next.ensures.steps _ c.in-Some.is (
    YieldsList-at c.into_iter-place-iterator.ensures.into_iter_gives (YieldsList-from_enumerate (YieldsList-at c.enumerate-place-items.ensures.source (YieldsList-from_take n (YieldsList-at c.take.ensures.source (
    YieldsList-from_filter _ test (YieldsList-at c.filter-left.ensures.source (YieldsList-from_enumerate (YieldsList-from_slice ws (cc)) (cc))) c.filter-left.ensures.closure (λ x r q k. search (rules, tests)))) c.take.ensures.count)) (cc))) in
    kept_more ws _ c.args.block c.args.out.now n _ c.loop-place.auto.room c.loop-place.invariant _ _ _ _ (length-append c.loop-place.yielded _) at

pub returns : goal.returns
returns c =
    let ws = c.args.words.now in
    let n = length c.args.room.now in
    let test : ℕ × PartWord → Bool = λ p. not (is_among (p.0 / c.args.block) c.args.out.now) in
    let all = end c.loop-place.yielded _ c.loop-place.yielded_by _ _ c.next.ensures.steps c.in-None.is (
    YieldsList-at c.into_iter-place-iterator.ensures.into_iter_gives (YieldsList-from_enumerate (YieldsList-at c.enumerate-place-items.ensures.source (YieldsList-from_take n (YieldsList-at c.take.ensures.source (
    YieldsList-from_filter _ test (YieldsList-at c.filter-left.ensures.source (YieldsList-from_enumerate (YieldsList-from_slice ws (cc)) (cc))) c.filter-left.ensures.closure (λ x r q k. search (rules, tests)))) c.take.ensures.count)) (cc))) in
    kept_all ws _ c.args.block c.args.out.now n _ c.loop-place.auto.room c.loop-place.invariant all c.requires.enough
