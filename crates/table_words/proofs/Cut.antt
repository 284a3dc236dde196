-- Texts cut in two where no tail of a character stands: both are clean if the whole is. Assumes nothing.
use mathlib.Core.Path.{◌≡◌, ◌∙◌, refl, sym, ap}
use mathlib.Core.Bool.{Bool, true, false, not, cond, ◌&&◌, ◌||◌, false≢true, and-eq-true_iff}
use mathlib.Core.List.{List, [], ◌∷◌, ◌++◌}
use Rattle.std.specs.Prelude.{Option, None, Some}
use Prim.Native.Nat.{ℕ, ◌+◌, ◌≤◌}
use native.Mathlib.Omega.{arith}
use borrow.Author.Tests.{leb-true}
use lib.Dec.{leb, eqb}
use lib.ListN.{take, drop, take-append-drop}
use lib.Seq.{drop-drop}
use Rattle.le.specs.Le.{part}
use Rattle.text.specs.Text.{has, LF, pipe}
use Rattle.text.specs.Conditions.{all_of}
use Rattle.utf8.specs.Utf8.{Range, inside, utf8_tail, after, step, right, utf8}
use Rattle.utf8.proofs.Laws.{above, below, among, right-none}
use Rattle.utf8.proofs.Joined.{utf8_join}
use Rattle.table_words.specs.Words.{clean}
use Rattle.table_words.specs.Read.{plain, is_cut}

-- ---- UTF-8 cut in two

-- every byte that is still to come is a tail
unfoldable tailing : Option (List Range) → Bool
tailing None = true
tailing (Some []) = true
tailing (Some (r ∷ rs)) = (leb 0x80 r.lo && leb r.hi 0xbf) && tailing (Some rs)

tailing_cond : (t : Bool) (x y : Option (List Range)) → tailing (cond t x y) ≡ cond t (tailing x) (tailing y)
tailing_cond true x y = refl
tailing_cond false x y = refl

cond_same : (t : Bool) → cond t true true ≡ true
cond_same true = refl
cond_same false = refl

tailing_after : (b : ℕ) → tailing (after b) ≡ true
unfolding after tailing
tailing_after b = simp (tailing_cond, cond_same)

tailing_step : (st : Option (List Range)) (b : ℕ) → tailing st ≡ true → tailing (step st b) ≡ true
unfolding step tailing
tailing_step None b h = refl
tailing_step (Some []) b h = tailing_after b
tailing_step (Some (r ∷ rs)) b h = rw (tailing_cond, ((and-eq-true_iff (leb 0x80 r.lo && leb r.hi 0xbf) (tailing (Some rs))).0 h).1, cond_same)

-- a byte in a range of tails is a tail
tailed : (r : Range) (b : ℕ) → (leb 0x80 r.lo && leb r.hi 0xbf) ≡ true → inside utf8_tail b ≡ false → inside r b ≡ false
tailed r b h k = go (inside r b) refl
  where
    go : (t : Bool) → inside r b ≡ t → t ≡ false
    go true e =
        let p = (and-eq-true_iff (leb 0x80 r.lo) (leb r.hi 0xbf)).0 h in
        let q = (and-eq-true_iff (leb r.lo b) (leb b r.hi)).0 e in
        let lo = leb-true 0x80 r.lo p.0 in
        let hi = leb-true r.hi 0xbf p.1 in
        let above = leb-true r.lo b q.0 in
        let under = leb-true b r.hi q.1 in
        sym (among 0x80 0xbf b (omega arith) (omega arith)) ∙ k
    go false e = refl

not_false : (t : Bool) → not t ≡ true → t ≡ false
not_false true e = absurd (false≢true e)
not_false false e = refl

right-cut : (st : Option (List Range)) (a b : List ℕ) → tailing st ≡ true → right st (a ++ b) ≡ true → is_cut b ≡ true → right st a ≡ true
unfolding right step tailing
right-cut None [] b h e k = absurd (false≢true (sym (right-none b) ∙ e))
right-cut (Some []) [] b h e k = refl
right-cut (Some (r ∷ rs)) [] [] h e k = e
right-cut (Some (r ∷ rs)) [] (x ∷ l) h e k =
    let n = tailed r x ((and-eq-true_iff _ (tailing (Some rs))).0 h).0 (not_false (inside utf8_tail x) k) in
    absurd (false≢true (sym (ap (λ t. right (cond t (Some rs) None) l) n ∙ right-none l) ∙ e))
right-cut st (x ∷ a) b h e k = right-cut (step st x) a b (tailing_step st x h) e k

utf8-cut : (a b : List ℕ) → utf8 (a ++ b) ≡ true → is_cut b ≡ true → utf8 a ≡ true
unfolding utf8 tailing
utf8-cut a b e k = right-cut (Some []) a b refl e k

-- no character starts with a tail
after-tail : (b : ℕ) → 0x80 ≤ b → b ≤ 0xbf → after b ≡ None
unfolding after
after-tail b h k =
    rw (
      above 0x00 0x7f b (omega arith),
      below 0xc2 0xdf b (omega arith),
      below 0xe0 0xe0 b (omega arith),
      below 0xe1 0xec b (omega arith),
      below 0xed 0xed b (omega arith),
      below 0xee 0xef b (omega arith),
      below 0xf0 0xf0 b (omega arith),
      below 0xf1 0xf3 b (omega arith),
      below 0xf4 0xf4 b (omega arith),
    )

-- no text starts with a tail
utf8_tail_lem : (b : List ℕ) → is_cut b ≡ false → utf8 b ≡ false
unfolding utf8 right step
utf8_tail_lem [] k = absurd (false≢true (sym k))
utf8_tail_lem (x ∷ l) k = go (leb 0x80 x) (leb x 0xbf) refl refl k
  where
    go : (p q : Bool) → leb 0x80 x ≡ p → leb x 0xbf ≡ q → not (p && q) ≡ false → right (after x) l ≡ false
    go true true e f g =
        let lo = leb-true 0x80 x e in
        let hi = leb-true x 0xbf f in
        rw (after-tail x lo hi) (right-none l)
    go true false e f g = absurd (false≢true (sym g))
    go false q e f g = absurd (false≢true (sym g))

-- ---- clean texts

has_join : (x : ℕ) (a b : List ℕ) → has x (a ++ b) ≡ (has x a || has x b)
unfolding has
has_join x [] b = refl
has_join x (y ∷ a) b = rw (has_join x a b) (go (eqb y x) (has x a) (has x b))
  where
    go : (p q r : Bool) → (p || (q || r)) ≡ ((p || q) || r)
    go true q r = refl
    go false q r = refl

plain_join : (a b : List ℕ) → plain (a ++ b) ≡ (plain a && plain b)
unfolding all_of
plain_join a b = rw (has_join pipe a b, has_join LF a b) (go (has pipe a) (has LF a) (has pipe b) (has LF b))
  where
    go : (p l q m : Bool) → all_of (not (p || q) ∷ not (l || m) ∷ []) ≡ (all_of (not p ∷ not l ∷ []) && all_of (not q ∷ not m ∷ []))
    go true l q m = refl
    go false true true m = refl
    go false true false m = refl
    go false false q m = refl

clean_is : (l : List ℕ) → clean l ≡ (utf8 l && plain l)
unfolding clean all_of
clean_is l = go (utf8 l)
  where
    go : (t : Bool) → cond t (plain l) false ≡ (t && plain l)
    go true = refl
    go false = refl

record Both (a b : List ℕ) : Type 0 where
  utf : utf8 (a ++ b) ≡ true
  first : plain a ≡ true
  second : plain b ≡ true

both : (a b : List ℕ) → clean (a ++ b) ≡ true → Both a b
both a b e =
    let p = (and-eq-true_iff (utf8 (a ++ b)) (plain (a ++ b))).0 (sym (clean_is (a ++ b)) ∙ e) in
    let q = (and-eq-true_iff (plain a) (plain b)).0 (sym (plain_join a b) ∙ p.1) in
    record { utf = p.0; first = q.0; second = q.1 }

-- behind a clean text the rest is clean if the whole is
pub clean-rest : (a b : List ℕ) → clean (a ++ b) ≡ true → clean a ≡ true → clean b ≡ true
clean-rest a b e k =
    let h = both a b e in
    let u = ((and-eq-true_iff (utf8 a) (plain a)).0 (sym (clean_is a) ∙ k)).0 in
    clean_is b ∙ rw (sym (utf8_join a b u) ∙ h.utf, h.second)

-- of a clean text what stands before a place is clean if it may be cut there, and only then
pub clean-cut : (a b : List ℕ) → clean (a ++ b) ≡ true → clean a ≡ is_cut b
clean-cut a b e = go (is_cut b) (utf8 a) refl refl
  where
    go : (t u : Bool) → is_cut b ≡ t → utf8 a ≡ u → clean a ≡ t
    go true u k f = clean_is a ∙ rw (utf8-cut a b (both a b e).utf k, (both a b e).first)
    go false true k f = absurd (false≢true (sym (utf8_join a b f ∙ utf8_tail_lem b k) ∙ (both a b e).utf))
    go false false k f = clean_is a ∙ rw f

pub clean_join : (a b : List ℕ) → clean a ≡ true → clean b ≡ true → clean (a ++ b) ≡ true
clean_join a b h k =
    let p = (and-eq-true_iff (utf8 a) (plain a)).0 (sym (clean_is a) ∙ h) in
    let q = (and-eq-true_iff (utf8 b) (plain b)).0 (sym (clean_is b) ∙ k) in
    clean_is (a ++ b) ∙ rw (utf8_join a b p.0, q.0, plain_join a b, p.1, q.1)

-- ---- in a text, from f on

module _ (s : List ℕ) (f n : ℕ) where
  cut_at : drop f s ≡ part s f n ++ drop (f + n) s
  unfolding part
  cut_at = sym (take-append-drop n (drop f s)) ∙ ap (λ l. take n (drop f s) ++ l) (drop-drop n f s)

  module _ (e : clean (drop f s) ≡ true) where
    pub part-clean : clean (part s f n) ≡ is_cut (drop (f + n) s)
    part-clean = clean-cut (part s f n) (drop (f + n) s) (rw cut_at at e)

    pub rest-clean : clean (part s f n) ≡ true → clean (drop (f + n) s) ≡ true
    rest-clean k = clean-rest (part s f n) (drop (f + n) s) (rw cut_at at e) k

  pub whole-clean : clean (part s f n) ≡ true → clean (drop (f + n) s) ≡ true → clean (drop f s) ≡ true
  whole-clean h k = rw cut_at (clean_join (part s f n) (drop (f + n) s) h k)
