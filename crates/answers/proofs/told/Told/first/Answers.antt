use Rattle.std.proofs.Common.{◌∷◌, refl, rules}
use Rattle.records.proofs.Firsts.{kind_cut, kind_is, kind_refused}
use Rattle.answers.proofs.Said.{told_made}
use Rattle.answers.proofs.told.Told.first.Goals as goal

pub returns-in_err-after_kind : goal.returns-in_err-after_kind
returns-in_err-after_kind c = kind_refused 5 10 c.args.bytes.now _ c.from_residual.result c.in_err-after_kind.field-0.0 c.from_residual.ensures.1 c.in_err-after_kind.ensures

pub returns-in_default : goal.returns-in_default
returns-in_default c = search (rules, kind_cut)

pub returns : goal.returns
returns c =
    rw (kind_is 5 c.args.bytes.now c.in_ok-after_kind.field-0.now c.in_ok-after_kind.ensures)
    (told_made (5 ∷ c.in_ok-after_kind.field-0.now) c.from_be_bytes-frame.result c.from_be_bytes-sender.result c.from_be_bytes-frame.ensures (search rules) c.told_as.result c.told_as.ensures (search rules) refl)
