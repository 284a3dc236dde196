-- No double of a row of a state that bars can reach is NaN. Assumes nothing.
use Rattle.std.specs.Prelude.{Option, None, Some, Float}
use mathlib.Core.Bool.{Bool, true, false, cond}
use mathlib.Core.List.{List, [], ◌∷◌, map}
use mathlib.Core.Path.{◌≡◌}
use mathlib.Mathlib.Data.List.Defs.{Forall}
use mathlib.Mathlib.Data.List.Basic.{Forall-cons}
use lib.Dec.{T}
use lib.Ieee.Scale.{finite}
use Rattle.double.specs.declared.Yield.{Yield}
use Rattle.double.specs.declared.Yield.TheVariants.{Absent, Bp}
use Rattle.double.specs.Double.{yield_ok}
use Rattle.double.proofs.Numbers.{pair_number, days-number}
use Rattle.bar.specs.Time.{seconds_between}
use Rattle.sheet.specs.Sheet.{Sheet}
use Rattle.position.specs.Rows.{opens, side_of, pair_of, pairs_of, hold_row, hold_rows}
use Rattle.position.specs.declared.Record.{Record}
use Rattle.position.specs.declared.Hold.{Hold}
use Rattle.position_laws.proofs.Sound.{HoldOk, RecordOk, YieldOk}
use Rattle.book_field.proofs.Laws.{not_nan}
use Rattle.history.specs.Demand3.{PairNumbers, HoldNumbers}

pair_numbers_lem : (s : Sheet) (a b : Record) → finite a.bar.price ≡ true → finite b.bar.price ≡ true → PairNumbers (pair_of s a b)
unfolding pair_of
pair_numbers_lem s a b p q =
    let u : T (finite a.bar.price) = rw p tt in
    let v : T (finite b.bar.price) = rw q tt in
    record {
      open_price = not_nan a.bar.price p;
      close_price = not_nan b.bar.price q;
      days = days-number (seconds_between a.bar.time.instant.0 b.bar.time.instant.0);
      yield = pair_number (side_of a) a.bar.price b.bar.price u v;
    }

pub pairs_numbers : (s : Sheet) (rs : List Record) → Forall (RecordOk s) rs → Forall PairNumbers (pairs_of s rs)
unfolding pairs_of Forall
pairs_numbers s [] h = tt
pairs_numbers s (a ∷ []) h = tt
pairs_numbers s (a ∷ b ∷ rs) h =
    let one = (Forall-cons (RecordOk s) a (b ∷ rs)).0 h in
    let two = (Forall-cons (RecordOk s) b rs).0 one.1 in
    go (opens a) (pair_numbers_lem s a b one.0.bar.price two.0.bar.price) (pairs_numbers s (b ∷ rs) one.1)
  where
    go : (t : Bool) → PairNumbers (pair_of s a b) → Forall PairNumbers (pairs_of s (b ∷ rs))
        → Forall PairNumbers (cond t (pair_of s a b ∷ pairs_of s (b ∷ rs)) (pairs_of s (b ∷ rs)))
    go true p ps = (Forall-cons PairNumbers (pair_of s a b) (pairs_of s (b ∷ rs))).1 (p, ps)
    go false p ps = ps

yield-number : (y : Yield) → YieldOk y → T (yield_ok y)
yield-number Absent h = tt
yield-number (Bp x) h = rw h.0 tt

hold_numbers_lem : (o : Hold) → HoldOk o → HoldNumbers (hold_row o)
unfolding hold_row
hold_numbers_lem o h = record { price = not_nan o.price h.price; n1b = yield-number o.n1b h.n1b }

pub holds_numbers : (os : List Hold) → Forall HoldOk os → Forall HoldNumbers (hold_rows os)
unfolding hold_rows Forall
holds_numbers [] h = tt
holds_numbers (o ∷ os) h =
    let each = (Forall-cons HoldOk o os).0 h in
    (Forall-cons HoldNumbers (hold_row o) (map hold_row os)).1 (hold_numbers_lem o each.0, holds_numbers os each.1)
