-- The two loops: the keys of the first clauses, and the first values. Assumes nothing.
use Prim.Native.Nat.{ℕ, ◌+◌, ◌*◌, ◌<◌, ◌≤◌}
use native.Mathlib.Omega.{arith}
use mathlib.Core.Path.{refl}
use mathlib.Core.List.{List, []}
use lib.ListN.{length, get_or, set}
use Rattle.text.proofs.Joined.{total_next}
use Rattle.table_wordbook.specs.Wordbook.{Words}
use Rattle.table_parts.specs.Codes.{keys_in, values_in, noted_all, numbers_of, values_noted, codes_of}
use Rattle.table_parts.proofs.Clauses.{words-weight}
use Rattle.table_codes.specs.Read.{clause_in, clauses_in, value_in, RowsOk, Room, Open, KeyAdded, ValueAdded, KeysNoted, ValuesCoded}
use Rattle.table_codes.proofs.Growing.{noted-next, numbers_next, values-next, codes_next}
use Rattle.table_codes.proofs.Places.{keys-count, values-count, key-at, value-at}
use Rattle.table_codes.proofs.Filling.{Filling, filling_first, filling_open, filling_more, filling_last}

-- ---- keys

-- i keys of m clauses
abbrev pub Keying : List ℕ → List ℕ → ℕ → Words → List ℕ → Words → List ℕ → ℕ → Type 0
Keying s cs m b numbers b₁ numbers₁ i = Filling (keys_in (clauses_in s cs m)) (noted_all []) (numbers_of []) b numbers b₁ numbers₁ m i

module _ {s cs : List ℕ} {m : ℕ} (rows : RowsOk s cs m) {b : Words} {numbers : List ℕ} (room : Room b numbers m) where
  abbrev keys : List (List ℕ)
  keys = keys_in (clauses_in s cs m)

  pub keying_first : Keying s cs m b numbers b numbers 0
  unfolding noted_all numbers_of
  keying_first = filling_first room keys (noted_all []) (numbers_of []) (omega (arith, words-weight (clauses_in s cs m), rows.light)) refl refl

  module _ {b₁ : Words} {numbers₁ : List ℕ} {i : ℕ} (k : Keying s cs m b numbers b₁ numbers₁ i) where
    pub keying_open : i < m → Open b₁ (length (clause_in s cs i).signal.key)
    keying_open h =
        rw (← key-at s cs m i h)
        (filling_open room keys (noted_all []) (numbers_of []) k h {size = length (get_or keys i [])} (omega (arith, k.filled.end, total_next keys i)))

    pub keying_more : {b₂ : Words} {r : ℕ} → i < m → KeyAdded (clause_in s cs i).signal.key b₁ b₂ r → Keying s cs m b numbers b₂ (set numbers₁ i r) (i + 1)
    keying_more h a =
        let z : i < length keys = omega (arith, keys-count s cs m) in
        filling_more room keys (noted_all []) (numbers_of []) k h (rw (← key-at s cs m i h, k.filled.words) at a) (noted-next [] keys i z) (numbers_next [] keys i z)

    pub keying_last : m ≤ i → KeysNoted s cs m b numbers b₁ numbers₁
    keying_last h = filling_last room keys (noted_all []) (numbers_of []) k (keys-count s cs m) h

-- ---- values

-- j values of m clauses
abbrev pub Coding : List ℕ → List ℕ → ℕ → Words → List ℕ → Words → List ℕ → ℕ → Type 0
Coding s cs m b codes b₁ codes₁ j = Filling (values_in (clauses_in s cs m)) (values_noted []) (codes_of []) b codes b₁ codes₁ (3 * m) j

module _ {s cs : List ℕ} {m : ℕ} (rows : RowsOk s cs m) {b : Words} {codes : List ℕ} (room : Room b codes (3 * m)) where
  abbrev values : List (List ℕ)
  values = values_in (clauses_in s cs m)

  pub coding_first : Coding s cs m b codes b codes 0
  unfolding values_noted codes_of
  coding_first = filling_first room values (values_noted []) (codes_of []) (omega (arith, words-weight (clauses_in s cs m), rows.light)) refl refl

  module _ {b₁ : Words} {codes₁ : List ℕ} {j : ℕ} (k : Coding s cs m b codes b₁ codes₁ j) where
    pub coding_open : j < 3 * m → Open b₁ (length (value_in s cs j))
    coding_open h =
        rw (← value-at s cs m j h)
        (filling_open room values (values_noted []) (codes_of []) k h {size = length (get_or values j [])} (omega (arith, k.filled.end, total_next values j)))

    pub coding_more : {b₂ : Words} {r : ℕ} → j < 3 * m → ValueAdded (value_in s cs j) b₁ b₂ r → Coding s cs m b codes b₂ (set codes₁ j r) (j + 1)
    coding_more h a =
        let z : j < length values = omega (arith, values-count s cs m) in
        filling_more room values (values_noted []) (codes_of []) k h (rw (← value-at s cs m j h, k.filled.words) at a) (values-next [] values j z) (codes_next [] values j z)

    pub coding_last : 3 * m ≤ j → ValuesCoded s cs m b codes b₁ codes₁
    coding_last h = filling_last room values (values_noted []) (codes_of []) k (values-count s cs m) h
