-- Lines that are made one after the other: those of one sender with each of the others, and so of every two.
-- two_more, two_all; few, many. Assumes nothing.
use Rattle.std.proofs.Common.{◌≡◌, ℕ, ◌-◌, ◌<◌, ◌≤◌, List, [], ◌∷◌, ◌++◌, map, length, sym, ap, ◌∙◌, append_assoc}
use Rattle.speakall.specs.Plan.{Channel}
use Rattle.std.proofs.lemmas.List.{append-nil}
use Rattle.std.proofs.lemmas.Bool.{le-leb, lt-leb}
use Rattle.ice_meetings.specs.Meets.{counts_of, every_two, few_or_most, most_of, most_text, pair_text}

module _ (c : Channel) (ns : List ℕ) where
  -- the lines of the first, and of every two of the others
  pub two_more : (ms : List ℕ) (n : ℕ) (os : List ℕ) (ls us : List (List ℕ)) → ms ≡ n ∷ os → us ≡ ls ++ map (pair_text c n) os → ls ++ every_two c ms ≡ every_two c ns → us ++ every_two c os ≡ every_two c ns
  unfolding every_two
  two_more ms n os ls us m e so =
      ap (λ (z : List (List ℕ)). z ++ every_two c os) e ∙ append_assoc ls (map (pair_text c n) os) (every_two c os) ∙ ap (λ (z : List ℕ). ls ++ every_two c z) (sym m) ∙ so

  pub two_all : (ms : List ℕ) (ls : List (List ℕ)) → ms ≡ [] → ls ++ every_two c ms ≡ every_two c ns → ls ≡ every_two c ns
  unfolding every_two
  two_all ms ls m so = sym (append-nil ls) ∙ ap (λ (z : List ℕ). ls ++ every_two c z) (sym m) ∙ so

  pub few : (ls : List (List ℕ)) → length ns ≤ 12 → ls ≡ every_two c ns → ls ≡ few_or_most c ns
  unfolding few_or_most
  few ls h e = rw (le-leb (length ns) 12 h) e

  pub many : (ls : List (List ℕ)) → 12 < length ns → ls ≡ most_text (most_of (c.d - 1) (counts_of c ns)) ∷ [] → ls ≡ few_or_most c ns
  unfolding few_or_most
  many ls h e = rw (lt-leb (length ns) 12 h) e
