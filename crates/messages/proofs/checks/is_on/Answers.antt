-- Each word is tested.
use Rattle.std.proofs.Common.{List, eqb, refl, rules}
use Rattle.std.proofs.lemmas.List.Recursion.{and_is}
use Rattle.messages.proofs.checks.is_on.Goals as goal
use Rattle.polynomials.specs.Heard.{words_in}
use Rattle.polynomials.specs.declared.words.PartWord.{PartWord}
use Rattle.speakall.specs.Frame.{agrees, word_at}

pub returns : goal.returns
unfolding agrees
returns c =
    let m = c.args.message.now in
    and_is (λ (ws : List PartWord). agrees m (words_in ws)) (λ w. eqb (word_at m w.part) w.value) refl (λ _ _. refl) c.args.words.now (record { part = 0; value = 0 }) _ (search rules) (search rules)
