-- A fresh book, its bars, and its rows. Assumes nothing.
use Rattle.std.specs.Prelude.{Result, Ok}
use Prim.Native.Nat.{ℕ}
use native.Mathlib.Nat.{le_refl}
use mathlib.Core.List.{List}
use mathlib.Core.Path.{◌≡◌, refl, subst}
use Rattle.run_feed.specs.Steps.{AllFed, FedAs}
use Rattle.std.proofs.lemmas.Result.{err_from_is_err_and}
use Rattle.run_input.specs.declared.InputError.{InputError}
use Rattle.run_bars.proofs.Printed.{made, started, rows_ready, holds_ready, printed-all}
use Rattle.run_bars.proofs.run_bars.Goals as goal

told : {s table b out : List ℕ} {at : ℕ} {r : Result ℕ InputError} → FedAs s table b out r → r ≡ Ok at → AllFed s table b out at
told {s} {table} {b} {out} f e = subst (FedAs s table b out) e f

pub unwrap-requires : goal.unwrap-requires
unwrap-requires c = made _ _ _ refl c.fresh.ensures

pub feed_lines-requires : goal.feed_lines-requires
feed_lines-requires c = started c.requires _ _ _ _ refl c.fresh.ensures (le_refl 65536)

pub put_pairs-end-requires : goal.put_pairs-end-requires
put_pairs-end-requires c =
    let all = rows_ready (told c.feed_lines.ensures c.in_ok-at.was) in
    record { booked = all.0; pair_room_in_bounds = all.1 }

pub put_holds-requires : goal.put_holds-requires
put_holds-requires c =
    let all = holds_ready (told c.feed_lines.ensures c.in_ok-at.was) c.put_pairs-end.ensures in
    record { booked = all.0; hold_room_in_bounds = all.1 }

pub returns : goal.returns
returns c = rw (← c.feed_lines.auto.out) (printed-all (told c.feed_lines.ensures c.in_ok-at.was) c.put_pairs-end.ensures c.put_holds.ensures)

pub returns-in_err-at : goal.returns-in_err-at
returns-in_err-at c =
    let p = err_from_is_err_and c.from_residual.result c.from_residual.ensures.1 in
    rw (p.1, p.2) (subst (FedAs _ _ _ _) c.in_err-at.was c.feed_lines.ensures)
