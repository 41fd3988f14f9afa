-- Counting the words off, one by one.
use Rattle.std.proofs.Common.{◌≡◌, ℕ, ◌+◌, Bool, true, false, cond, not, eqb, List, refl, rules, arith}
use Rattle.std.proofs.lemmas.List.Recursion.{is_count_by}
use Rattle.polynomials.proofs.checks.off.Goals as goal
use Rattle.polynomials.specs.Heard.{words_in}
use Rattle.polynomials.specs.declared.words.PartWord.{PartWord}
use Rattle.speakall.specs.Code.{off_of}
use Rattle.speakall.specs.Frame.{word_at}

one : (b : Bool) (n : ℕ) → cond b 0 1 + n ≡ cond (not b) (1 + n) n
one true n = omega arith
one false n = refl

pub returns : goal.returns
unfolding off_of
returns c =
    let m = c.args.message.now in
    search (rules, is_count_by (λ (ws : List PartWord). off_of m (words_in ws)) (λ w. not (eqb (word_at m w.part) w.value)) refl (λ w ws. one (eqb (word_at m w.part) w.value) (off_of m (words_in ws))))
