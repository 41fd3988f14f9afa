use Rattle.std.proofs.Common.{◌≤◌, ◌∷◌, length, refl, sym, ap, ◌∙◌, arith, rules}
use Rattle.std.proofs.lemmas.List.{take_rest}
use Rattle.std.proofs.lemmas.Result.{err_from_is_err_and}
use Rattle.records.specs.declared.heard.What.TheVariants.{Word, Noise}
use Rattle.records.proofs.Firsts.{heard-word_cut, heard_unknown, heard-word, heard_noise, heard_made, kind_cut, kind_is, kind_refused, rest_long, rest_short}
use Rattle.records.specs.Hearing.{said_byte}
use Rattle.records.proofs.Items.{chunk_none, chunk_some}
use Rattle.records.proofs.heard.whole_in.Goals as goal
use Rattle.records.proofs.heard.whole_in.Goals.{in-Word+in_ok-ok_or-in-Word, in-Noise}

pub returns-in_err-after_kind : goal.returns-in_err-after_kind
returns-in_err-after_kind c = kind_refused 3 8 c.args.bytes.now _ c.from_residual.result c.in_err-after_kind.field-0.0 c.from_residual.ensures.1 c.in_err-after_kind.ensures

pub returns-in_default : goal.returns-in_default
returns-in_default c = search (rules, kind_cut)

pub returns-in_err-try_from : goal.returns-in_err-try_from
returns-in_err-try_from c =
    let p = err_from_is_err_and c.from_residual-in_err-try_from.result c.from_residual-in_err-try_from.ensures.1 in
    rw (p.1, p.2, kind_is 3 c.args.bytes.now c.in_ok-after_kind.field-0.now c.in_ok-after_kind.ensures, c.in_err-try_from.ensures.0) (heard_unknown (3 ∷ c.in_ok-after_kind.field-0.now) (search rules) refl c.in_err-try_from.ensures.1 c.in_err-try_from.ensures.2)

pub returns-in_err-ok_or-in-Word : goal.returns-in_err-ok_or-in-Word
returns-in_err-ok_or-in-Word c =
    let p = err_from_is_err_and c.from_residual-in_err-ok_or-in-Word.result c.from_residual-in_err-ok_or-in-Word.ensures.1 in
    let few = chunk_none _ _ c.first_chunk.result c.in_err-ok_or-in-Word.field-0.0 (sym c.ok_or.ensures.value ∙ c.in_err-ok_or-in-Word.was) c.first_chunk.ensures.cases in
    rw (p.1, p.2, kind_is 3 c.args.bytes.now c.in_ok-after_kind.field-0.now c.in_ok-after_kind.ensures, few.1) (heard-word_cut (3 ∷ c.in_ok-after_kind.field-0.now) (search rules) refl (c.in_ok-try_from.ensures ∙ ap said_byte c.in-Word.is) (omega (arith, rest_short c.in_ok-after_kind.field-0.now 7 12 few.0 c.in-len7-up.len_at_least)))

pub returns : goal.returns
returns c =
    rw (kind_is 3 c.args.bytes.now c.in_ok-after_kind.field-0.now c.in_ok-after_kind.ensures) (
    elim c.match-branch-3.branch [
      | in-Word+in_ok-ok_or-in-Word w ↦
          let chunk = chunk_some _ _ w.first_chunk.result w.in_ok-ok_or-in-Word.field-0 (sym w.ok_or.ensures.value ∙ w.in_ok-ok_or-in-Word.was) w.first_chunk.ensures.cases in
          let word = simp take_rest at chunk.same in
          let long : 20 ≤ length (3 ∷ c.in_ok-after_kind.field-0.now) = omega (arith, rest_long c.in_ok-after_kind.field-0.now 7 12 chunk.enough c.in-len7-up.len_at_least) in
          heard_made (3 ∷ c.in_ok-after_kind.field-0.now) c.from_be_bytes.result c.match-branch-3.what _ c.from_be_bytes.ensures (w.what-is ∙ ap Word word)
          (heard-word (3 ∷ c.in_ok-after_kind.field-0.now) long refl (c.in_ok-try_from.ensures ∙ ap said_byte w.in-Word.is))
      | in-Noise w ↦ heard_made (3 ∷ c.in_ok-after_kind.field-0.now) c.from_be_bytes.result c.match-branch-3.what Noise c.from_be_bytes.ensures w.what-is (heard_noise (3 ∷ c.in_ok-after_kind.field-0.now) (search rules) refl (c.in_ok-try_from.ensures ∙ ap said_byte w.in-Noise.is))
    ])
