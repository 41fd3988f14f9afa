-- The loop starts at no coefficient, and ends at all.
use Rattle.std.proofs.Common.{◌≡◌, [], ◌∷◌, ◌++◌, mod-lt, lit<, rules}
use Rattle.polynomials.proofs.Backward.{begin, end, passed, turn}
use Rattle.polynomials.proofs.Horner.{word_at_more, word_at_none, word_at_same}
use Rattle.polynomials.proofs.words.value.Goals as goal

pub loop-number-init : goal.loop-number-init
loop-number-init c = (lit< tt, rw (begin c.args.message.now) (word_at_none c.args.x))

pub loop-number-preserved : goal.loop-number-preserved
loop-number-preserved c =
    let xs = c.loop-number.yielded in
    let more : passed c.args.message.now (xs ++ (c.in-Some.number ∷ [])) ≡ c.in-Some.number.now ∷ passed c.args.message.now xs = search (rules, turn) in
    (mod-lt _ (lit< tt), rw c.from.ensures (word_at_more _ _ _ _ _ more c.loop-number.invariant.1))

pub returns-clause-is : goal.returns-clause-is
returns-clause-is c =
    let all : passed c.args.message.now c.loop-number.yielded ≡ c.args.message.now = search (rules, end) in
    λ y e. word_at_same _ _ y _ e (rw all at c.loop-number.invariant.1)
