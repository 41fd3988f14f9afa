-- An array filled by two slices.
-- joined_items. Assumes nothing.
use Rattle.std.proofs.Common.{◌≡◌, ℕ, List, [], ◌∷◌, ◌++◌, length, drop, ap, ◌∙◌}
use Rattle.std.proofs.lemmas.List.{append-nil, drop_at, take_at}
use borrow.Rule.Slice.PartMut.{put_mid}

-- eight items and then four, over twelve zeros
pub joined_items : (xs ys ts us : List ℕ) → length ts ≡ 8 → ts ≡ xs → us ≡ ys → put_mid 8 4 (ts ++ (0 ∷ 0 ∷ 0 ∷ 0 ∷ [])) us ≡ xs ++ ys
joined_items xs ys ts us l e f =
    let zeros : List ℕ = 0 ∷ 0 ∷ 0 ∷ 0 ∷ [] in
    ap (λ zs. zs ++ (us ++ drop 4 (drop 8 (ts ++ zeros)))) (take_at ts zeros 8 l) ∙ ap (λ zs. ts ++ (us ++ drop 4 zs)) (drop_at ts zeros 8 l) ∙ ap (λ zs. ts ++ zs) (append-nil us)
    ∙ ap (λ zs. zs ++ us) e ∙ ap (λ zs. xs ++ zs) f
