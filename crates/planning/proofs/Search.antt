-- The search through the sides and digits, in order: what is passed does not serve, and what is left comes later.
-- NoneLower: the digits of one side.
-- NoneNarrower with narrower_none, narrower_more, narrower_all, narrower_found: the sides.
-- list_none, list_passed, list_pushed, list_next_side, list_all: the list of all that serve. Assumes nothing.
use Rattle.std.proofs.Common.{◌≡◌, ℕ, ◌+◌, ◌<◌, ◌≤◌, List, [], ◌∷◌, ◌++◌, length, get_or, refl, ◌∙◌, subst, inl, inr, ⊎_elim, arith}
use Rattle.std.proofs.ByRecursion.{All-push, All-weaker, has_append_left, has_push}
use Rattle.std.proofs.lemmas.List.{map_push}
use Rattle.std.proofs.lemmas.Bool.{cases_eq, cases_order}
use Rattle.speakall.specs.Plan.{Channel, sides}
use Rattle.channels.specs.declared.channel.Channel.{Channel as CodeChannel}
use Rattle.channels.specs.Settings.{settings}
use Rattle.planning.specs.declared.wish.Wish.{Wish}
use Rattle.planning.specs.Wishes.{AllBefore, AllThatServe, Before, Best, NoneServes, Serves, asked, settings_of}
use Rattle.planning.proofs.Sides.{side_at, side_end, side_least, side_next, side_read, side_rises}
use Rattle.planning.proofs.Order.{Sooner, before_cases, before_from, order_push}

same-settings : (q d k q' d' k' : ℕ) → q ≡ q' → d ≡ d' → k ≡ k' → ◌≡◌ {A = Channel} (record { q = q; d = d; k = k }) (record { q = q'; d = d'; k = k' })
same-settings q d k q' d' k' e f g = rw (e, f, g)

module _ (w : Wish) where
  -- a channel that serves is the one asked for with its q and d
  is_asked : (c : Channel) (q d : ℕ) → Serves w c → c.q ≡ q → c.d ≡ d → c ≡ asked w q d
  is_asked c q d s e f = same-settings c.q c.d c.k q d w.others e f s.others

  -- no channel with this q and a d below this one serves
  abbrev pub NoneLower : ℕ → ℕ → Type 0
  NoneLower q d = (b : Channel) → Serves w b → b.q ≡ q → d ≤ b.d

  -- no channel with a q below this one serves
  abbrev pub NoneNarrower : ℕ → Type 0
  NoneNarrower q = (b : Channel) → Serves w b → q ≤ b.q

  pub narrower_none : NoneNarrower (side_at 0)
  narrower_none b s = side_least b.q s.valid.0.0

  pub narrower_more : (xs : List ℕ) (i : ℕ) → xs ≡ sides → i < length xs → ((b : Channel) → Serves w b → b.q ≡ get_or xs i 0 → ⊥) → NoneNarrower (side_at i) → NoneNarrower (side_at (i + 1))
  narrower_more xs i e h n l b s =
      let m = l b s in
      let r = side_read xs i e h in
      let ne = n b s in
      side_next xs i b.q e h s.valid.0.0 (omega (arith, ne))

  pub narrower_all : (xs : List ℕ) (i : ℕ) → xs ≡ sides → length xs ≤ i → NoneNarrower (side_at i) → NoneServes w
  narrower_all xs i e h l b s = let m = l b s in let v = s.valid.0.4 in let g = side_end xs i e h in omega arith

  pub narrower_found : (xs : List ℕ) (i : ℕ) → xs ≡ sides → i < length xs → (c : Channel) → Serves w c × (c.q ≡ get_or xs i 0) × NoneLower (get_or xs i 0) c.d → NoneNarrower (side_at i) → Best w c
  narrower_found xs i e h c s n =
      let r = s.1 ∙ side_read xs i e h in
      record {
        serves = s.0;
        first = λ b t before.
            let m = n b t in
            ⊎_elim (λ x. omega arith) (λ x. let k = s.2 b t (x.0 ∙ s.1) in omega (arith, x.1)) (before_cases b c before);
      }

  pub list_none : AllBefore w (asked w (side_at 0) 1) []
  list_none =
      record {
        only = tt;
        each = λ c s b.
            let m = narrower_none c s in
            let v = s.valid.0.1 in
            absurd (⊎_elim (λ x. omega arith) (λ x. omega (arith, x.1)) (before_cases c (asked w (side_at 0) 1) b));
        order = tt;
      }

  -- the same channels come before another one
  moved : (a b : Channel) (cs : List Channel) → ((c : Channel) → Serves w c → Sooner c a → Sooner c b) → ((c : Channel) → Serves w c → Sooner c b → Sooner c a) → AllBefore w a cs → AllBefore w b cs
  moved a b cs f g l =
      record {
        only = All-weaker (λ c. Serves w c × Before c a) (λ c. Serves w c × Before c b) (λ c h. (h.0, before_from c b (f c h.0 (before_cases c a h.1)))) cs l.only;
        each = λ c s h. l.each c s (before_from c a (g c s (before_cases c b h)));
        order = l.order;
      }

  later : (q d : ℕ) (c : Channel) → Sooner c (asked w q d) → Sooner c (asked w q (d + 1))
  later q d c s = ⊎_elim (λ x. inl x) (λ x. inr (x.0, omega (arith, x.1))) s

  pub list_passed : (q d : ℕ) (cs : List Channel) → (Serves w (asked w q d) → ⊥) → AllBefore w (asked w q d) cs → AllBefore w (asked w q (d + 1)) cs
  list_passed q d cs n l =
      moved (asked w q d) (asked w q (d + 1)) cs (λ c s h. later q d c h)
      (λ c s h.
      ⊎_elim (λ x. inl x)
      (λ x.
      let ne : c.d ≡ d → ⊥ = λ f. n (subst (Serves w) (is_asked c q d s x.0 f) s) in
      inr (x.0, omega (arith, ne, x.1)))
      h)
      l

  list_found : (q d : ℕ) (cs : List Channel) → Serves w (asked w q d) → AllBefore w (asked w q d) cs → AllBefore w (asked w q (d + 1)) (cs ++ (asked w q d ∷ []))
  list_found q d cs t l =
      let a = asked w q d in
      let z = asked w q (d + 1) in
      let under : (c : Channel) → Before c a → Before c z = λ c h. before_from c z (later q d c (before_cases c a h)) in
      record {
        only =
            All-push (λ c. Serves w c × Before c z) cs a (All-weaker (λ c. Serves w c × Before c a) (λ c. Serves w c × Before c z) (λ c h. (h.0, under c h.1)) cs l.only)
            (t, before_from a z (inr (refl, omega arith)));
        each = λ c s h.
            ⊎_elim
            (λ x. has_append_left cs (a ∷ []) c (l.each c s (before_from c a (inl x))))
            (λ x.
            ⊎_elim
            (λ e. rw (is_asked c q d s x.0 e) (has_push cs a))
            (λ ne. has_append_left cs (a ∷ []) c (l.each c s (before_from c a (inr (x.0, omega (arith, ne, x.1))))))
            (cases_eq c.d d))
            (before_cases c z h);
        order = order_push cs a l.order (All-weaker (λ c. Serves w c × Before c a) (λ c. Before c a) (λ c h. h.1) cs l.only);
      }

  -- the same of the code's channels
  pub list_pushed : (q d : ℕ) (xs : List CodeChannel) (c : CodeChannel) → settings c ≡ asked w q d → Serves w (settings c) → AllBefore w (asked w q d) (settings_of xs) → AllBefore w (asked w q (d + 1)) (settings_of (xs ++ (c ∷ [])))
  list_pushed q d xs c e t l = rw (map_push settings xs c, e) (list_found q d (settings_of xs) (rw e at t) l)

  pub list_next_side : (xs : List ℕ) (i : ℕ) (cs : List Channel) → xs ≡ sides → i < length xs → AllBefore w (asked w (side_at i) 5) cs → AllBefore w (asked w (side_at (i + 1)) 1) cs
  list_next_side xs i cs e h l =
      let r = side_rises xs i e h in
      moved (asked w (side_at i) 5) (asked w (side_at (i + 1)) 1) cs
      (λ c s b. inl (⊎_elim (λ x. omega arith) (λ x. omega (arith, x.0)) b))
      (λ c s b.
      let lt : c.q < side_at (i + 1) = ⊎_elim (λ x. x) (λ x. let v = s.valid.0.1 in absurd (omega (arith, x.1))) b in
      let next = side_next xs i c.q e h s.valid.0.0 in
      ⊎_elim
      (λ q. let v = s.valid.1 in inr (q, omega arith))
      (λ o. inl (⊎_elim (λ x. x) (λ x. let n = next x in absurd (omega arith)) o))
      (cases_order c.q (side_at i)))
      l

  pub list_all : (xs : List ℕ) (i : ℕ) (cs : List Channel) → xs ≡ sides → length xs ≤ i → AllBefore w (asked w (side_at i) 1) cs → AllThatServe w cs
  list_all xs i cs e h l =
      let g = side_end xs i e h in
      record {
        only = All-weaker (λ c. Serves w c × Before c (asked w (side_at i) 1)) (Serves w) (λ c b. b.0) cs l.only;
        each = λ c s. let v = s.valid.0.4 in l.each c s (before_from c (asked w (side_at i) 1) (inl (omega arith)));
        order = l.order;
      }
