-- The slots of a book one by one; and its lists are read back: its slots hold its holds and its records. Assumes nothing.
use Prim.Native.Nat.{ℕ, zero, suc, ◌+◌, ◌*◌, ◌^◌, ◌≤◌, ◌<◌}
use native.Mathlib.Omega.{arith}
use mathlib.Core.Bool.{Bool, true}
use mathlib.Core.List.{List, [], ◌++◌, map}
use mathlib.Core.Path.{◌≡◌, refl, ap, ◌∙◌, subst}
use mathlib.Mathlib.Data.List.Defs.{Forall}
use lib.ListN.{length, get_or, replicate}
use Rattle.le.specs.Le.{part}
use Rattle.text.specs.Conditions.{every}
use Rattle.text.proofs.Every.{every-below}
use Rattle.position.specs.State.{State}
use Rattle.book.specs.Layout.{hold_bytes, holds_bytes, record_bytes, encode, hold_of, record_of, hold_place, record_place, slots, hold_slots, record_slots, holds_of, records_of}
use Rattle.book.proofs.Fits.{HoldIn, RecordIn}
use Rattle.book.proofs.Back.{hold_back, record_back}
use Rattle.book.proofs.Items.{items_slots, items_read}
use Rattle.book.proofs.Lengths.{head-length, holds-written, records-written, front_length}
use Rattle.book.proofs.Parts.{behind, by_holds, header, holds_left, records_left, encode-is, holds-count, records-count}

-- ---- slots one by one

pub slots_length : (b : List ℕ) (at n : ℕ) → length (slots b at n) ≡ n
unfolding slots
slots_length b at zero = refl
slots_length b at (suc n) = ap suc (slots_length b (at + 32) n)

pub slots_at : (b : List ℕ) (at n i : ℕ) → i < n → get_or (slots b at n) i [] ≡ part b (at + 32 * i) 32
unfolding slots
slots_at b at zero i h = absurd (omega arith)
slots_at b at (suc n) zero h =
    let e : at + 32 * 0 ≡ at = omega arith in
    rw e
slots_at b at (suc n) (suc i) h =
    let e : at + 32 + 32 * i ≡ at + 32 * suc i = omega arith in
    slots_at b (at + 32) n i (omega arith) ∙ ap (λ (k : ℕ). part b k 32) e

-- what each slot has, slot i has
pub slot_has : (f : List ℕ → Bool) (b : List ℕ) (at n i : ℕ) → every f (slots b at n) ≡ true → i < n → f (part b (at + 32 * i) 32) ≡ true
slot_has f b at n i e h = subst (λ o. f o ≡ true) (slots_at b at n i h) (every-below f [] (slots b at n) e i (omega (arith, slots_length b at n)))

-- ---- the lists

module _ (c : ℕ) (st : State) where
  long : length (header c st) ≡ 96
  long = head-length c (length st.holds) (length st.records) st.head

  pub hold_slots_lem : length st.holds < 2 ^ 32 → hold_slots (encode c st) ≡ map hold_bytes st.holds
  unfolding hold_slots
  hold_slots_lem small =
      rw (holds-count c st small, encode-is c st, by_holds (header c st) st.holds (holds_left c st) st.records (records_left c st))
      (items_slots holds-written (header c st) st.holds (behind (holds_left c st) st.records (records_left c st)) (hold_place 0) long)

  pub record_slots_lem : length st.holds ≤ c → length st.records < 2 ^ 32 → record_slots c (encode c st) ≡ map record_bytes st.records
  unfolding record_slots
  record_slots_lem room small =
      let p = header c st ++ holds_bytes st.holds ++ replicate (holds_left c st) 0 in
      let front : length p ≡ record_place c 0 = front_length (header c st) st.holds (holds_left c st) c long (omega arith) in
      rw (records-count c st small, encode-is c st) (items_slots records-written p st.records (replicate (records_left c st) 0) (record_place c 0) front)

  pub holds_read : length st.holds < 2 ^ 32 → Forall HoldIn st.holds → holds_of (encode c st) ≡ st.holds
  unfolding holds_of
  holds_read small h = ap (map hold_of) (hold_slots_lem small) ∙ items_read hold_bytes hold_of hold_back st.holds h

  pub records-read : length st.holds ≤ c → length st.records < 2 ^ 32 → Forall RecordIn st.records → records_of c (encode c st) ≡ st.records
  unfolding records_of
  records-read room small h = ap (map record_of) (record_slots_lem room small) ∙ items_read record_bytes record_of record_back st.records h
