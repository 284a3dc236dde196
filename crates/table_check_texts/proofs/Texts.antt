-- A text cut into pieces: clean pieces make a clean text, and a clean text has clean pieces where it may be cut. Assumes nothing.
use Prim.Native.Nat.{ℕ, ◌+◌, ◌-◌, ◌≤◌}
use native.Mathlib.Omega.{arith}
use mathlib.Core.Bool.{Bool, true, false}
use mathlib.Core.List.{List, [], ◌∷◌}
use mathlib.Core.Path.{◌≡◌, refl, sym, ap, ◌∙◌}
use lib.ListN.{take, drop}
use lib.Seq.{drop-drop}
use Rattle.le.specs.Le.{part}
use Rattle.text.specs.Conditions.{all_of, every}
use Rattle.text.proofs.Every.{every_one, every_cons}
use Rattle.text.proofs.Laws.{part-size, part-take}
use Rattle.table_words.specs.Words.{clean}
use Rattle.table_words.specs.Read.{is_cut}
use Rattle.table_words.proofs.Cut.{part-clean, rest-clean, whole-clean}
use Rattle.table_words.proofs.Opened.{opened}
use Rattle.table.specs.Layout.{between}
use Rattle.table_check_texts.specs.Check.{all_cut}

pub clean-none : clean [] ≡ true
unfolding opened
clean-none = refl

-- ---- a text cut at places that rise from f on

abbrev pub pieces : List ℕ → ℕ → List ℕ → List (List ℕ)
pieces s f [] = drop f s ∷ []
pieces s f (c ∷ cs) = part s f (c - f) ∷ pieces s c cs

abbrev pub Rise : ℕ → List ℕ → Type 0
Rise f [] = Unit {0}
Rise f (c ∷ cs) = (f ≤ c) × Rise c cs

-- pieces that are clean make a clean text
pub joined-clean : (s : List ℕ) (f : ℕ) (cs : List ℕ) → Rise f cs → every clean (pieces s f cs) ≡ true → clean (drop f s) ≡ true
joined-clean s f [] r e = sym (every_one clean (drop f s)) ∙ e
joined-clean s f (c ∷ cs) r e =
    let o = every_cons clean (part s f (c - f)) (pieces s c cs) e in
    let n : f + (c - f) ≡ c = omega (arith, r.0) in
    whole-clean s f (c - f) o.0 (rw n (joined-clean s c cs r.1 o.1))

-- the pieces of a clean text are clean where it may be cut
pub pieces_clean : (s : List ℕ) (f : ℕ) (cs : List ℕ) → Rise f cs → clean (drop f s) ≡ true → every clean (pieces s f cs) ≡ all_cut s cs
unfolding every all_of
pieces_clean s f [] r e = rw e
pieces_clean s f (c ∷ cs) r e = go (is_cut (drop c s)) refl (pieces_clean s c cs r.1)
  where
    size : f + (c - f) ≡ c
    size = omega (arith, r.0)

    first : clean (part s f (c - f)) ≡ is_cut (drop c s)
    first = part-clean s f (c - f) e ∙ ap (λ k. is_cut (drop k s)) size

    go : (t : Bool) → is_cut (drop c s) ≡ t → (clean (drop c s) ≡ true → every clean (pieces s c cs) ≡ all_cut s cs)
        → every clean (pieces s f (c ∷ cs)) ≡ all_cut s (c ∷ cs)
    go true k ih = rw (first, k) (ih (rw size at (rest-clean s f (c - f) e (first ∙ k))))
    go false k ih = rw (first, k)

-- ---- in the bytes t, of which the texts end at u

module _ (t : List ℕ) (u : ℕ) where
  -- the texts as they are lent, from a place on
  pub lent_from : (f c : ℕ) → f ≤ c → f ≤ u → drop (c - f) (take (u - f) (drop f t)) ≡ drop c (take u t)
  lent_from f c h k =
      let e : f + (c - f) ≡ c = omega arith in
      rw (part-size f u t k, drop-drop (c - f) f (take u t), e)

  pub piece_is : (a b : ℕ) → a ≤ b → b ≤ u → part (take u t) a (b - a) ≡ between t a b
  unfolding part
  piece_is a b h k =
      let e : a + (b - a) ≡ b = omega arith in
      part-take a u (b - a) t (omega arith) ∙ rw (e, part-size a b t h)

  pub last-is : (a : ℕ) → a ≤ u → drop a (take u t) ≡ between t a u
  unfolding part
  last-is a h = sym (part-size a u t h)
