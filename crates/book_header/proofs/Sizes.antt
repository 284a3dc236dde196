-- What the lengths of a table and of a book say, as the code finds it out. Assumes nothing.
use Prim.Native.Nat.{ℕ, ◌+◌, ◌-◌, ◌*◌, ◌/◌, ◌≤◌}
use mathlib.Core.List.{List}
use Rattle.std.specs.Prelude.{Option, None, Some}
use mathlib.Core.Path.{◌≡◌, refl}
use lib.ListN.{length}
use borrow.Author.Tests.{eq-eqb, ne_eqb}
use Rattle.table.specs.Layout.{table_length}
use Rattle.book.specs.Layout.{bar_limit, capacity}
use Rattle.book.proofs.Lengths.{capacity_by, capacity_range}
use Rattle.book_header.specs.Size.{SizeOk, CapacityAs, SizedAs}

-- ---- a book

pub bars_found : (b : List ℕ) → length b ≡ 96 + 64 * ((length b - 96) / 64) → 1 ≤ (length b - 96) / 64 → (length b - 96) / 64 ≤ bar_limit
    → CapacityAs b (Some ((length b - 96) / 64))
bars_found b long least most = record { is = rw (capacity_by b ((length b - 96) / 64) long least most) refl; ok = record { long = long; least = least; most = most } }

pub none_found : (b : List ℕ) → ((c : ℕ) → SizeOk b c → ⊥) → CapacityAs b None
none_found b other = record { is = rw (go (capacity b) refl) refl; ok = tt }
  where
    go : (o : Option ℕ) → capacity b ≡ o → capacity b ≡ None
    go None e = e
    go (Some c) e =
        let r = capacity_range b c e in
        absurd (other c (record { long = r.0; least = r.1; most = r.2 }))

-- ---- and a table

pub other_table : (t b : List ℕ) → (length t ≡ table_length → ⊥) → SizedAs t b None
other_table t b e = record { is = rw (ne_eqb (length t) table_length e) refl; ok = tt }

pub same_table : (t b : List ℕ) (r : Option ℕ) → length t ≡ table_length → CapacityAs b r → SizedAs t b r
same_table t b (Some c) e x = record { is = rw (eq-eqb (length t) table_length e) x.is; ok = (e, x.ok) }
same_table t b None e x = record { is = rw (eq-eqb (length t) table_length e) x.is; ok = tt }
