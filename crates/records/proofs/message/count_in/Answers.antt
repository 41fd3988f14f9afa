use Rattle.std.proofs.Common.{◌∷◌, refl, arith, rules}
use Rattle.records.proofs.Firsts.{counted, counted_cut, kind_cut, kind_is, kind_refused, rest_short, rest_long}
use Rattle.records.proofs.message.count_in.Goals as goal

pub returns-in_err-after_kind : goal.returns-in_err-after_kind
returns-in_err-after_kind c = kind_refused 2 2 c.args.bytes.now _ c.from_residual.result c.in_err-after_kind.field-0.0 c.from_residual.ensures.1 c.in_err-after_kind.ensures

pub returns-in_default : goal.returns-in_default
returns-in_default c = search (rules, kind_cut)

pub returns-then-rest-from : goal.returns-then-rest-from
returns-then-rest-from c =
    let cut = rest_short c.in_ok-after_kind.field-0.now 1 _ c.if-rest-from.true c.in-len1-up.len_at_least in
    rw (kind_is 2 c.args.bytes.now c.in_ok-after_kind.field-0.now c.in_ok-after_kind.ensures) (counted_cut 2 2 _ (2 ∷ c.in_ok-after_kind.field-0.now) _ (omega arith) (omega (arith, c.in-len1-up.len_at_least)) refl (omega (arith, cut, c.from.ensures)))

pub returns : goal.returns
returns c =
    let all = rest_long c.in_ok-after_kind.field-0.now 1 _ c.if-rest-from.false c.in-len1-up.len_at_least in
    rw (kind_is 2 c.args.bytes.now c.in_ok-after_kind.field-0.now c.in_ok-after_kind.ensures) (counted 2 2 _ (2 ∷ c.in_ok-after_kind.field-0.now) _ (omega arith) (omega (arith, c.in-len1-up.len_at_least)) refl (omega (arith, all, c.from.ensures)))
