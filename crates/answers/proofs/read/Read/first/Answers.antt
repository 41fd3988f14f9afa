use Rattle.std.proofs.Common.{◌∷◌, refl, arith, rules}
use Rattle.records.proofs.Firsts.{counted_cut, kind_cut, kind_is, kind_refused, rest_short, rest_long}
use Rattle.answers.proofs.Said.{read_made}
use Rattle.answers.proofs.read.Read.first.Goals as goal

pub returns-in_err-after_kind : goal.returns-in_err-after_kind
returns-in_err-after_kind c = kind_refused 4 11 c.args.bytes.now _ c.from_residual.result c.in_err-after_kind.field-0.0 c.from_residual.ensures.1 c.in_err-after_kind.ensures

pub returns-in_default : goal.returns-in_default
returns-in_default c = search (rules, kind_cut)

pub returns-then-rest-from : goal.returns-then-rest-from
returns-then-rest-from c =
    let cut = rest_short c.in_ok-after_kind.field-0.now 10 _ c.if-rest-from.true c.in-len10-up.len_at_least in
    rw (kind_is 4 c.args.bytes.now c.in_ok-after_kind.field-0.now c.in_ok-after_kind.ensures) (counted_cut 4 11 _ (4 ∷ c.in_ok-after_kind.field-0.now) _ (omega arith) (search rules) refl (omega (arith, cut, c.from.ensures)))

pub returns : goal.returns
returns c =
    let all = rest_long c.in_ok-after_kind.field-0.now 10 _ c.if-rest-from.false c.in-len10-up.len_at_least in
    rw (kind_is 4 c.args.bytes.now c.in_ok-after_kind.field-0.now c.in_ok-after_kind.ensures) (read_made (4 ∷ c.in_ok-after_kind.field-0.now) c.from_be_bytes.result c.from_be_bytes-2.result c.from_be_bytes.ensures (search rules) (search rules) refl (omega (arith, all, c.from.ensures)))
