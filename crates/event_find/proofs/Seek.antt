-- The first line that has a key: the invariant of `find_line`. Assumes nothing.
use mathlib.Core.Path.{◌≡◌, ◌∙◌, refl, sym, ap}
use mathlib.Core.Bool.{true, false}
use mathlib.Core.List.{List, [], ◌∷◌}
use Prim.Native.Nat.{ℕ, zero, suc, ◌+◌, ◌≤◌, ◌<◌}
use native.Mathlib.Omega.{arith}
use lib.ListN.{length, get_or, drop, drop_of_length-le}
use Rattle.list.specs.Numbered.{numbered}
use Rattle.list.proofs.Laws.{numbered-length, numbered_next}
use Rattle.text.specs.Text.{same}
use Rattle.text.specs.Read.{Part}
use Rattle.text.specs.Conditions.{any_of}
use Rattle.event.specs.Signals.{has_key}
use Rattle.event.specs.Match.{value_at}
use Rattle.event_find.specs.Places.{print, key_at, line_at, lines_at, LinesOk}
use Rattle.event_find.specs.Steps.{Others}
use Rattle.event_find.specs.Steps.{FoundAt, Missing}
use Rattle.event_find.proofs.Prints.{other-print}

-- the places of a line's key
pub key-part : {s starts mids prints : List ℕ} {n i : ℕ} → LinesOk s starts mids prints n → i < n → Part s (get_or starts i 0) (get_or mids i 0)
key-part {i = i} l h =
    let k = l.lines i h in
    record { order = k.key; within = omega (arith, k.value, k.within) }

module _ (s starts mids : List ℕ) (n : ℕ) where
  pub lines-length : length (lines_at s starts mids n) ≡ n
  unfolding lines_at
  lines-length = numbered-length (line_at s starts mids) n

  lines_next : (i : ℕ) → i < n → drop i (lines_at s starts mids n) ≡ line_at s starts mids i ∷ drop (i + 1) (lines_at s starts mids n)
  unfolding lines_at
  lines_next i h =
      let e : suc i ≡ i + 1 = omega arith in
      numbered_next (line_at s starts mids) n i h ∙ ap (λ (k : ℕ). line_at s starts mids i ∷ drop k (numbered (line_at s starts mids) n)) e

  lines_none : (i : ℕ) → n ≤ i → drop i (lines_at s starts mids n) ≡ []
  lines_none i h = drop_of_length-le (lines_at s starts mids n) {i = i} (omega (arith, lines-length))

-- the lines up to i have other keys
pub record Seeking (k s starts mids : List ℕ) (n i : ℕ) : Type 0 where
  pub le : i ≤ n
  pub has : has_key k (lines_at s starts mids n) ≡ has_key k (drop i (lines_at s starts mids n))
  pub value : value_at k (lines_at s starts mids n) ≡ value_at k (drop i (lines_at s starts mids n))

pub seek_first : (k s starts mids : List ℕ) (n : ℕ) → Seeking k s starts mids n 0
seek_first k s starts mids n = record { le = omega arith; has = refl; value = refl }

module _ {k s starts mids : List ℕ} {n i : ℕ} (g : Seeking k s starts mids n i) where
  pub seek_last : n ≤ i → Missing k s starts mids n
  unfolding any_of value_at
  seek_last h = record { has = g.has ∙ rw (lines_none s starts mids n i h); value = g.value ∙ rw (lines_none s starts mids n i h) }

  module _ (h : i < n) where
    pub seek_found : true ≡ same k (key_at s starts mids i) → FoundAt k s starts mids n i
    unfolding any_of value_at
    seek_found e = record {
      below = h;
      has = g.has ∙ rw (lines_next s starts mids n i h, any_of, ← e);
      value = g.value ∙ rw (lines_next s starts mids n i h, value_at, ← e);
    }

    pub seek_more : false ≡ same k (key_at s starts mids i) → Seeking k s starts mids n (i + 1)
    unfolding any_of value_at
    seek_more e = record {
      le = omega arith;
      has = g.has ∙ rw (lines_next s starts mids n i h, any_of, ← e);
      value = g.value ∙ rw (lines_next s starts mids n i h, value_at, ← e);
    }

-- the lines before r have other fingerprints
pub seek_others : {k s starts mids prints : List ℕ} {h n r : ℕ} → LinesOk s starts mids prints n → h ≡ print k → r ≤ n → Others prints h 0 r → Seeking k s starts mids n r
seek_others {k} {s} {starts} {mids} {prints} {h} {n} {r} l e w o = upto r (omega arith)
  where
    upto : (m : ℕ) → m ≤ r → Seeking k s starts mids n m
    upto zero b = seek_first k s starts mids n
    upto (suc m) b =
        let d : suc m ≡ m + 1 = omega arith in
        rw d (seek_more (upto m (omega arith)) (omega arith) (other-print k (key_at s starts mids m) e (l.lines m (omega arith)).printed (λ q. o.other m (omega arith) (omega arith) (sym q))))
