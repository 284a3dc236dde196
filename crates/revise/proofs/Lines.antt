-- The lines of a text by their places: where a line ends, what stands in it, and the tags. Assumes nothing.
use Prim.Native.Nat.{ℕ, zero, suc, ◌+◌, ◌-◌, ◌<◌, ◌≤◌}
use native.Mathlib.Omega.{arith}
use mathlib.Core.Bool.{Bool, true, false, not, cond, ◌&&◌, ◌||◌, false≢true}
use mathlib.Core.List.{List, [], ◌∷◌, ◌++◌, append_assoc}
use mathlib.Core.Logic.{◌≢◌}
use mathlib.Core.Path.{◌≡◌, refl, sym, ◌∙◌, ap}
use borrow.Author.Tests.{eq-eqb, ne_eqb, not-true}
use lib.Dec.{eqb}
use lib.ListN.{length, get_or, take, drop, length-append, take-append-drop}
use lib.Seq.{slice, length-slice, length-take-le, take_at, take-suc, take-take, drop-append-le}
use Rattle.text.specs.Conditions.{every}
use Rattle.text.specs.Literal.{bytes, encoded}
use Rattle.text.specs.Read.{Part, FirstAt}
use Rattle.text.specs.Text.{LF, pipe, has, begins, onto, split, joined}
use Rattle.text.proofs.Every.{every_cons}
use Rattle.text.proofs.Joined.{lacks, split-joined, split_lacks, joined-more, part-first}
use Rattle.text.proofs.Laws.{part_nil, part-take}
use Rattle.text.proofs.Parts.{split-next, split-last}
use Rattle.revise.specs.Lines.{lines, is_bar, is_signal}
use Rattle.revise.specs.Places.{lines_in, LineEnd}

-- ---- the tags

pub bar_tag : bytes "B|" ≡ 66 ∷ pipe ∷ []
unfolding bytes encoded
bar_tag = refl

pub signal_tag : bytes "S|" ≡ 83 ∷ pipe ∷ []
unfolding bytes encoded
signal_tag = refl

pub bar-begins : (l : List ℕ) → begins (66 ∷ pipe ∷ []) l ≡ is_bar l
bar-begins l = ap (λ t. begins t l) (sym bar_tag)

pub signal-begins : (l : List ℕ) → begins (83 ∷ pipe ∷ []) l ≡ is_signal l
signal-begins l = ap (λ t. begins t l) (sym signal_tag)

-- ---- a line in front, and the last one

-- a byte that is no LF goes to the first line
front : (a : ℕ) (x p : List ℕ) (ps qs : List (List ℕ)) → (has LF x ≡ false → qs ≡ p ∷ ps) → has LF (a ∷ x) ≡ false
    → cond (eqb a LF) ((a ∷ []) ∷ qs) (onto a qs) ≡ (a ∷ p) ∷ ps
unfolding has onto
front a x p ps qs h e = go (eqb a LF) e
  where
    go : (t : Bool) → (t || has LF x) ≡ false → cond t ((a ∷ []) ∷ qs) (onto a qs) ≡ (a ∷ p) ∷ ps
    go true k = absurd (false≢true (sym k))
    go false k = ap (onto a) (h k)

pub lines-behind : (x y : List ℕ) → has LF x ≡ false → lines (x ++ LF ∷ y) ≡ (x ++ LF ∷ []) ∷ lines y
unfolding lines
lines-behind [] y e = refl
lines-behind (a ∷ x) y e = front a x (x ++ LF ∷ []) (lines y) (lines (x ++ LF ∷ y)) (lines-behind x y) e

pub lines_only : (x : List ℕ) → 1 ≤ length x → has LF x ≡ false → lines x ≡ x ∷ []
unfolding lines has onto
lines_only [] h e = absurd (omega arith)
lines_only (a ∷ []) h e = go (eqb a LF) e
  where
    go : (t : Bool) → (t || false) ≡ false → cond t ((a ∷ []) ∷ []) ((a ∷ []) ∷ []) ≡ (a ∷ []) ∷ []
    go true k = refl
    go false k = refl
lines_only (a ∷ b ∷ x) h e = front a (b ∷ x) (b ∷ x) [] (lines (b ∷ x)) (lines_only (b ∷ x) (omega arith)) e

-- ---- by places

-- no line is left
pub lines_end : (s : List ℕ) (i : ℕ) → length s ≤ i → lines_in s i ≡ []
unfolding lines
lines_end s i h = rw (part_nil i (length s) s h)

-- a part cut in two
pub part_two : (from i to : ℕ) (s : List ℕ) → from ≤ i → i ≤ to → to ≤ length s → slice from to s ≡ slice from i s ++ slice i to s
part_two from i to s h k w =
    ap (drop from) (sym (take-append-drop i (take to s)) ∙ ap (λ l. l ++ slice i to s) (take-take i to s k))
    ∙ drop-append-le from (take i s) (slice i to s) (omega (arith, length-take-le i s (omega arith)))

-- a part and one byte more
pub part_snoc : (from to : ℕ) (s : List ℕ) → from < to → to ≤ length s → slice from to s ≡ slice from (to - 1) s ++ get_or s (to - 1) 0 ∷ []
part_snoc from to s h k =
    let one : to ≡ suc (to - 1) = omega arith in
    ap (λ (n : ℕ). slice from n s) one ∙ ap (drop from) (take-suc s (to - 1) 0 (omega arith))
    ∙ drop-append-le from (take (to - 1) s) (get_or s (to - 1) 0 ∷ []) (omega (arith, length-take-le (to - 1) s (omega arith)))

module _ {s : List ℕ} {at r : ℕ} (p : Part s at (length s)) (f : FirstAt s at (length s) LF r) where
  -- up to an LF
  pub lines_next : r < length s → LineEnd s at (r + 1)
  lines_next h = record { low = omega (arith, f.low); high = omega arith; is = ap lines (part-first p f h) ∙ lines-behind x y inner ∙ ap (λ l. l ∷ lines y) line }
    where
      x : List ℕ
      x = slice at r s

      y : List ℕ
      y = slice (r + 1) (length s) s

      inner : has LF x ≡ false
      inner = not-true _ (every_cons (lacks LF) x (split LF y) (ap (every (lacks LF)) (sym (split-next p f h)) ∙ split_lacks LF (slice at (length s) s))).0

      line : x ++ LF ∷ [] ≡ slice at (r + 1) s
      line =
          let size : at + (r + 1 - at) ≡ r + 1 = omega (arith, f.low) in
          sym (
          ap (λ (n : ℕ). slice at n s) (sym size) ∙ sym (part-take at (length s) (r + 1 - at) s (omega (arith, f.low)))
          ∙ ap (take (r + 1 - at)) (part-first p f h ∙ sym (append_assoc x (LF ∷ []) y))
          ∙ take_at (x ++ LF ∷ []) y (r + 1 - at) (omega (arith, length-append x (LF ∷ []), length-slice at r s f.high, f.low))
          )

  -- up to the end
  pub lines-last : at < length s → r ≡ length s → LineEnd s at (length s)
  lines-last h e = record { low = h; high = omega arith; is = lines_only x long inner ∙ ap (λ l. x ∷ l) (sym (lines_end s (length s) (omega arith))) }
    where
      x : List ℕ
      x = slice at (length s) s

      long : 1 ≤ length x
      long = omega (arith, length-slice at (length s) s p.within)

      inner : has LF x ≡ false
      inner = not-true _ (every_cons (lacks LF) x [] (ap (every (lacks LF)) (sym (split-last p f e)) ∙ split_lacks LF x)).0

-- ---- in a line

-- whether a text is not empty and has no LF before its last byte
unfoldable inner : List ℕ → Bool
inner [] = false
inner (x ∷ []) = true
inner (x ∷ y ∷ l) = not (eqb x LF) && inner (y ∷ l)

lines_inner : (l : List ℕ) → every inner (lines l) ≡ true
unfolding lines every inner onto
lines_inner [] = refl
lines_inner (x ∷ t) = go (eqb x LF) refl (lines t) (lines_inner t)
  where
    go : (b : Bool) → eqb x LF ≡ b → (ls : List (List ℕ)) → every inner ls ≡ true → every inner (cond b ((x ∷ []) ∷ ls) (onto x ls)) ≡ true
    go true h ls e = e
    go false h [] e = refl
    go false h ([] ∷ ls) e = absurd (false≢true e)
    go false h ((y ∷ l) ∷ ls) e = rw h e

inner_lacks : (l : List ℕ) (n : ℕ) → length l ≡ suc n → inner l ≡ true → has LF (take n l) ≡ false
unfolding inner has
inner_lacks [] n k e = absurd (false≢true e)
inner_lacks (x ∷ l) zero k e = refl
inner_lacks (x ∷ []) (suc n) k e = absurd (omega arith)
inner_lacks (x ∷ y ∷ l) (suc n) k e = go (eqb x LF) (inner_lacks (y ∷ l) n (omega arith)) e
  where
    go : (b : Bool) → (inner (y ∷ l) ≡ true → has LF (take n (y ∷ l)) ≡ false) → (not b && inner (y ∷ l)) ≡ true → (b || has LF (take n (y ∷ l))) ≡ false
    go true ih h = absurd (false≢true h)
    go false ih h = ih h

has_snoc : (b : ℕ) (x : List ℕ) (y : ℕ) → has b (x ++ y ∷ []) ≡ (has b x || eqb y b)
unfolding has
has_snoc b [] y = go (eqb y b)
  where
    go : (t : Bool) → (t || false) ≡ t
    go true = refl
    go false = refl
has_snoc b (a ∷ x) y = go (eqb a b) (has_snoc b x y)
  where
    go : (t : Bool) → has b (x ++ y ∷ []) ≡ (has b x || eqb y b) → (t || has b (x ++ y ∷ [])) ≡ ((t || has b x) || eqb y b)
    go true h = refl
    go false h = h

split-ended : (b : ℕ) (x : List ℕ) → has b x ≡ false → split b (x ++ b ∷ []) ≡ x ∷ [] ∷ []
unfolding every has joined
split-ended b x e = ap (split b) (sym (joined-more b x [] [])) ∙ split-joined b x ([] ∷ []) (rw e)

module _ {s : List ℕ} {at end : ℕ} (e : LineEnd s at end) where
  -- no LF before the last byte
  pub line_inner : has LF (slice at (end - 1) s) ≡ false
  line_inner =
      let line = slice at end s in
      let n = end - 1 - at in
      let size : length line ≡ suc n = omega (arith, length-slice at end s e.high, e.low) in
      let last : at + n ≡ end - 1 = omega (arith, e.low) in
      let before : take n line ≡ slice at (end - 1) s = part-take at end n s (omega (arith, e.low)) ∙ ap (λ (k : ℕ). slice at k s) last in
      ap (has LF) (sym before) ∙ inner_lacks line n size (every_cons inner line (lines_in s end) (ap (every inner) (sym e.is) ∙ lines_inner (slice at (length s) s))).0

  shape : slice at end s ≡ slice at (end - 1) s ++ get_or s (end - 1) 0 ∷ []
  shape = part_snoc at end s e.low e.high

  last : has LF (slice at end s) ≡ eqb (get_or s (end - 1) 0) LF
  last = ap (has LF) shape ∙ has_snoc LF (slice at (end - 1) s) (get_or s (end - 1) 0) ∙ rw line_inner

  -- it ends with an LF
  module _ (h : get_or s (end - 1) 0 ≡ LF) where
    pub line_shape : slice at end s ≡ slice at (end - 1) s ++ LF ∷ []
    line_shape = shape ∙ rw h

    pub line-ended : has LF (slice at end s) ≡ true
    line-ended = last ∙ eq-eqb _ _ h

    pub line-text : get_or (split LF (slice at end s)) 0 [] ≡ slice at (end - 1) s
    line-text = ap (λ l. get_or (split LF l) 0 []) line_shape ∙ ap (λ ps. get_or ps 0 []) (split-ended LF (slice at (end - 1) s) line_inner)

  -- it does not
  pub line_open : get_or s (end - 1) 0 ≢ LF → has LF (slice at end s) ≡ false
  line_open h = last ∙ ne_eqb _ _ h
