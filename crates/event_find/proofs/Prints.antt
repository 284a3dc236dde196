-- Laws of fingerprints: word by word, byte by byte, and of unequal texts. Assumes nothing.
use mathlib.Core.Path.{◌≡◌, ◌∙◌, refl, sym, ap}
use mathlib.Core.Logic.{◌≢◌}
use mathlib.Core.Bool.{Bool, false}
use mathlib.Core.List.{List, [], ◌∷◌}
use Prim.Native.Nat.{ℕ, ◌+◌, ◌-◌, ◌/◌, ◌≤◌, ◌<◌}
use native.Mathlib.Omega.{arith}
use lib.ListN.{length, get_or, take}
use lib.Seq.{slice, length-slice, get_or-drop, get_or-take}
use Rattle.le.specs.Le.{part, le_nat}
use Rattle.le.proofs.Laws.{four, part_lent}
use Rattle.text.specs.Text.{same}
use Rattle.text.specs.Read.{Part}
use Rattle.text.proofs.Laws.{part_cons, part_nil, part_end, part-size, part-take}
use Rattle.text.proofs.Same.{differ}
use Rattle.event_find.specs.Places.{mixed, print_from, print}
use Rattle.event_find.specs.Steps.{Printing, PrintingEnd}

-- ---- `print_words` and `fingerprint`

pub printing-first : {s : List ℕ} {from to : ℕ} → Part s from to → Printing s from to 0 from
printing-first p = record { left = p; still = refl }

-- a byte of a text that has no word
print_byte : (h x : ℕ) (t : List ℕ) → length t < 3 → print_from h (x ∷ t) ≡ print_from (mixed h x) t
unfolding print_from
print_byte h x [] l = refl
print_byte h x (a ∷ []) l = refl
print_byte h x (a ∷ b ∷ []) l = refl
print_byte h x (a ∷ b ∷ c ∷ t) l = absurd (omega arith)

-- the first word of a part
part-word : (i to : ℕ) (s : List ℕ) → i + 4 ≤ to → to ≤ length s → slice i to s ≡ get_or s i 0 ∷ get_or s (i + 1) 0 ∷ get_or s (i + 2) 0 ∷ get_or s (i + 3) 0 ∷ slice (i + 4) to s
part-word i to s h l =
    let two : i + 1 + 1 ≡ i + 2 = omega arith in
    let three : i + 2 + 1 ≡ i + 3 = omega arith in
    let four : i + 3 + 1 ≡ i + 4 = omega arith in
    rw (part_cons i to s (omega arith) l, part_cons (i + 1) to s (omega arith) l, two, part_cons (i + 2) to s (omega arith) l, three, part_cons (i + 3) to s (omega arith) l, four)

module _ {s : List ℕ} {from to h i : ℕ} (p : Printing s from to h i) where
  pub printing-word : {w r : ℕ} → 4 ≤ to - i → w ≡ le_nat (part s i 4) → r ≡ mixed h w → Printing s from to r (i + 4)
  unfolding print_from
  printing-word {w} l e g =
      let n = e ∙ sym (four s i (omega (arith, p.left.within))) in
      record {
        left = record { order = omega arith; within = p.left.within };
        still = p.still ∙ rw (part-word i to s (omega arith) p.left.within, print_from, g, n);
      }

  pub printing-end : to - i < 4 → PrintingEnd s from to h i
  printing-end l = record { printing = p; short = omega (arith, p.left.order) }

module _ {s : List ℕ} {from to h i : ℕ} (p : PrintingEnd s from to h i) where
  pub printing_byte : {x r : ℕ} → i < to → x ≡ get_or s i 0 → r ≡ mixed h x → PrintingEnd s from to r (i + 1)
  printing_byte {x} l e g =
      let w = p.printing.left.within in
      let n : length (slice (i + 1) to s) < 3 = omega (arith, length-slice (i + 1) to s w, p.short) in
      record {
        printing = record {
          left = record { order = omega arith; within = w };
          still = p.printing.still ∙ rw (part_cons i to s l w, print_byte h (get_or s i 0) (slice (i + 1) to s) n, g, e);
        };
        short = omega (arith, p.short);
      }

  pub printing-last : to ≤ i → h / 65536 ≡ print (slice from to s)
  unfolding print_from
  printing-last l = sym (ap (λ (x : ℕ). x / 65536) (p.printing.still ∙ rw (part_nil i to s l)))

-- ---- `ends_alike` and `is_key`

module _ (k : List ℕ) {s : List ℕ} {from to : ℕ} (p : Part s from to) where
  -- a part of another length
  pub other_size : length k ≢ to - from → same k (slice from to s) ≡ false
  other_size n = sym (differ k (slice from to s) (λ q. n (ap length q ∙ length-slice from to s p.within)))

  -- a part with another byte at one place
  pub other_byte : (i j : ℕ) → from + i ≡ j → j < to → get_or k i 0 ≢ get_or s j 0 → same k (slice from to s) ≡ false
  other_byte i j e l n =
      let b = get_or-drop from (take to s) i 0 ∙ ap (λ (x : ℕ). get_or (take to s) x 0) e ∙ get_or-take to s j 0 l in
      sym (differ k (slice from to s) (λ q. n (ap (λ (t : List ℕ). get_or t i 0) q ∙ b)))

  -- a part of the same length with another last byte
  pub other_last : length k ≡ to - from → from < to → get_or k (length k - 1) 0 ≢ get_or s (to - 1) 0 → same k (slice from to s) ≡ false
  other_last e l n = other_byte (length k - 1) (to - 1) (omega (arith, e, l)) (omega (arith, l)) n

  -- a part with another first word
  pub other_word : from + 4 ≤ to → le_nat (part k 0 4) ≢ le_nat (part s from 4) → same k (slice from to s) ≡ false
  unfolding part
  other_word l n =
      let w = part-take from to 4 s l ∙ sym (part-size from (from + 4) s (omega arith)) ∙ part_lent s from 4 in
      sym (differ k (slice from to s) (λ q. n (ap (λ (t : List ℕ). le_nat (part t 0 4)) q ∙ ap le_nat w)))

-- texts with other fingerprints are not the same
pub other-print : (k t : List ℕ) {h p : ℕ} → h ≡ print k → p ≡ print t → h ≢ p → false ≡ same k t
other-print k t e g n = differ k t (λ q. n (e ∙ ap print q ∙ sym g))

-- the whole of a text
pub whole-key : (k t : List ℕ) {b : Bool} → b ≡ same (slice 0 (length k) k) t → b ≡ same k t
whole-key k t e = rw (part_end 0 k) at e
