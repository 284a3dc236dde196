-- The two records are read and their pair is shown. Assumes nothing.
use Prim.Native.Nat.{◌+◌}
use native.Mathlib.Omega.{arith}
use mathlib.Core.Path.{◌≡◌, refl, sym, ap₂, subst}
use Rattle.table.specs.Layout.{counts_in, parts_in}
use Rattle.table.specs.Table.{sheet_of}
use Rattle.position.specs.Rows.{Pair, pair_of}
use Rattle.book.specs.Layout.{record_place}
use Rattle.row_pairs.specs.Found.{record_at, Shown}
use Rattle.row_pairs.specs.Row.{PairPut}
use Rattle.row_pairs.proofs.Records.{record_shown, record_lent}
use Rattle.row_pairs.proofs.pair_at.Goals as goal

pub put_pair-requires : goal.put_pair-requires
put_pair-requires c =
    let first : c.record_at-a.result ≡ record_at c.args.c c.args.b.now c.args.j = record_lent _ _ _ _ refl c.record_at-a.ensures in
    let second : c.record_at-z.result ≡ record_at c.args.c c.args.b.now (c.args.j + 1) =
    let a = c.args in
    record_lent _ _ (a.j + 1) (record_place a.c a.j + 32) (omega arith) c.record_at-z.ensures in
    let n = (counts_in c.args.t.now).events in
    let h = c.requires.traded in
    let l = c.requires.j_bound in
    record { t_value = c.requires.t_value; shown = subst (Shown n) (sym first) (record_shown h c.args.j (omega (arith, l))); shown_2 = subst (Shown n) (sym second) (record_shown h (c.args.j + 1) l); row_buffer_in_bounds = c.requires.row_buffer_in_bounds }

pub returns : goal.returns
returns c =
    let first : c.record_at-a.result ≡ record_at c.args.c c.args.b.now c.args.j = record_lent _ _ _ _ refl c.record_at-a.ensures in
    let second : c.record_at-z.result ≡ record_at c.args.c c.args.b.now (c.args.j + 1) =
    let a = c.args in
    record_lent _ _ (a.j + 1) (record_place a.c a.j + 32) (omega arith) c.record_at-z.ensures in
    let a = c.args in
    let s = sheet_of (parts_in a.t.now) in
    subst (λ (p : Pair). PairPut p a.buffer.now c.put_pair.new.buffer c.put_pair.result) (ap₂ (pair_of s) first second) c.put_pair.ensures
