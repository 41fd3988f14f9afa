use Rattle.std.proofs.Common.{◌∷◌, refl, rules}
use Rattle.std.proofs.lemmas.Result.{err_from_is_err_and}
use Rattle.records.proofs.Firsts.{channel_made, channel-not, kind_cut, kind_is, channel_refused}
use Rattle.records.proofs.channel_record.channel_first.Goals as goal

pub returns-in_err-after_kind : goal.returns-in_err-after_kind
returns-in_err-after_kind c = channel_refused c.args.bytes.now c.from_residual.result c.in_err-after_kind.field-0.0 c.from_residual.ensures.1 c.in_err-after_kind.ensures

pub returns-in_default : goal.returns-in_default
returns-in_default c = search (rules, kind_cut)

pub returns-in_err-new : goal.returns-in_err-new
returns-in_err-new c =
    let p = err_from_is_err_and c.from_residual-in_err-new.result c.from_residual-in_err-new.ensures.1 in
    rw (p.1, p.2, kind_is 1 c.args.bytes.now c.in_ok-after_kind.field-0.now c.in_ok-after_kind.ensures) (channel-not (1 ∷ c.in_ok-after_kind.field-0.now) c.in_err-new.field-0.0 (search rules) refl c.in_err-new.ensures.0 c.in_err-new.ensures.1)

pub returns : goal.returns
returns c = rw (kind_is 1 c.args.bytes.now c.in_ok-after_kind.field-0.now c.in_ok-after_kind.ensures) (channel_made (1 ∷ c.in_ok-after_kind.field-0.now) c.in_ok-new.field-0 (search rules) refl c.in_ok-new.ensures)
