-- The doubles of a pair are numbers. Assumes nothing.
use Prim.Native.Nat.{ℕ, ◌+◌, ◌*◌, ◌<◌}
use native.Mathlib.Omega.{arith}
use mathlib.Core.Path.{◌≡◌}
use mathlib.Core.Bool.{true, not}
use mathlib.Core.List.{List}
use lib.Dec.{T}
use lib.Ieee.{is_nan}
use lib.Ieee.Scale.{finite}
use Rattle.le.specs.Field.{u32}
use Rattle.text.proofs.Conditions.{fact}
use Rattle.double.specs.Double.{yield_ok}
use Rattle.double.proofs.Numbers.{pair_number, days-number}
use Rattle.bar.specs.Time.{seconds_between}
use Rattle.sheet.specs.Sheet.{Sheet}
use Rattle.position.specs.Rows.{Pair, side_of, pair_of}
use Rattle.position.specs.declared.Record.{Record}
use Rattle.book.specs.Layout.{record_place, record_of, record_slots}
use Rattle.book.specs.Check.{record_ok}
use Rattle.book.proofs.Slots.{slot_has}
use Rattle.book_field.proofs.Laws.{not_nan}
use Rattle.row_pairs.specs.Found.{Traded, record_at}

pub record PairNumbers (p : Pair) : Type 0 where
  pub from : T (not (is_nan p.open_price))
  pub to : T (not (is_nan p.close_price))
  pub days : T (not (is_nan p.days))
  pub bp : T (yield_ok p.yield)

pub pair_numbers_lem : (s : Sheet) (a b : Record) → finite a.bar.price ≡ true → finite b.bar.price ≡ true → PairNumbers (pair_of s a b)
unfolding pair_of
pair_numbers_lem s a b p q =
    let u : T (finite a.bar.price) = rw p tt in
    let v : T (finite b.bar.price) = rw q tt in
    record {
      from = not_nan a.bar.price p;
      to = not_nan b.bar.price q;
      days = days-number (seconds_between a.bar.time.instant.0 b.bar.time.instant.0);
      bp = pair_number (side_of a) a.bar.price b.bar.price u v;
    }

-- the price of record number j
pub record_priced : {n c : ℕ} {b : List ℕ} → Traded n c b → (j : ℕ) → j < u32 b 4 → finite (record_at c b j).bar.price ≡ true
unfolding record_slots record_of record_ok
record_priced {n} {c} {b} h j l =
    let e : record_place c 0 + 32 * j ≡ record_place c j = omega arith in
    fact _ (rw e at (slot_has (record_ok n) b (record_place c 0) (u32 b 4) j h.each l)) 2
