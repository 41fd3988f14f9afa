use Rattle.std.proofs.Common.{length, string_bytes, sym, ap, ◌∙◌, rules}
use Rattle.std.proofs.lemmas.List.{length-map}
use Rattle.std.proofs.lemmas.Result.{IfOk-weaker}
use Rattle.ice_lines.specs.Lines.{spaced_of}
use Rattle.ice_lines.proofs.Spaced.{heard_none, heard_one, heard_many}
use Rattle.ice_lines.proofs.lines.heard.Goals as goal

pub returns-in-0 : goal.returns-in-0
returns-in-0 c =
    IfOk-weaker c.format.result _ _ (λ s e. heard_none c.args.number (length c.args.words.now) _ _ (string_bytes c.in_ok-parts.parts) (string_bytes c.in_ok-values.values) _ (sym (length-map c.args.words.now _))
    (c.in_ok-parts.ensures ∙ ap spaced_of (c.deref.ensures.value ∙ c.in_ok-parts_of.ensures)) (c.in_ok-values.ensures ∙ ap spaced_of (c.deref-2.ensures.value ∙ c.in_ok-values_of.ensures)) c.in-0.is e) c.format.ensures.ok

pub returns-in-1 : goal.returns-in-1
returns-in-1 c =
    IfOk-weaker c.format-in-1.result _ _ (λ s e. heard_one c.args.number (length c.args.words.now) _ _ (string_bytes c.in_ok-parts.parts) (string_bytes c.in_ok-values.values) _ (sym (length-map c.args.words.now _))
    (c.in_ok-parts.ensures ∙ ap spaced_of (c.deref.ensures.value ∙ c.in_ok-parts_of.ensures)) (c.in_ok-values.ensures ∙ ap spaced_of (c.deref-2.ensures.value ∙ c.in_ok-values_of.ensures)) c.in-1.is e) c.format-in-1.ensures.ok

pub returns : goal.returns
returns c =
    IfOk-weaker c.format-in_default.result _ _ (λ s e. heard_many c.args.number (length c.args.words.now) _ _ (string_bytes c.in_ok-parts.parts) (string_bytes c.in_ok-values.values) _ (sym (length-map c.args.words.now _))
    (c.in_ok-parts.ensures ∙ ap spaced_of (c.deref.ensures.value ∙ c.in_ok-parts_of.ensures)) (c.in_ok-values.ensures ∙ ap spaced_of (c.deref-2.ensures.value ∙ c.in_ok-values_of.ensures)) (search rules) (search rules) e) c.format-in_default.ensures.ok
