-- 13, 14, or the bar is taken. Assumes nothing.
use Prim.Native.Nat.{◌<◌}
use native.Mathlib.Omega.{arith}
use mathlib.Core.Path.{◌≡◌, sym, ◌∙◌}
use mathlib.Core.Bool.{true}
use Rattle.le.specs.Field.{u32}
use Rattle.book_feed_step.specs.Steps.{in_time}
use Rattle.book_feed.proofs.Refusals.{bar_late, bar-full, bar-done}
use Rattle.book_feed.proofs.accept_bar.Goals as goal

pub returns-then-not-is_in_time : goal.returns-then-not-is_in_time
returns-then-not-is_in_time c =
    let a = c.args in
    bar_late a.t.now a.b.now a.c a.bar _ (sym c.if-not-is_in_time.true ∙ c.is_in_time.ensures)

pub returns-then-get_u32-c : goal.returns-then-get_u32-c
returns-then-get_u32-c c =
    let in_time_lem : true ≡ in_time c.args.bar c.args.b.now = sym c.if-not-is_in_time.false ∙ c.is_in_time.ensures in
    let a = c.args in
    bar-full a.t.now a.b.now a.c a.bar _ in_time_lem (omega (arith, c.if-get_u32-c.true, c.get_u32.ensures))

pub take_bar-requires : goal.take_bar-requires
take_bar-requires c =
    let room : u32 c.args.b.now 0 < c.args.c = omega (arith, c.if-get_u32-c.false, c.get_u32.ensures) in
    record { t_value = c.requires.t_value; book_passed = c.requires.book_passed; b_bound = room; bar_passed = c.requires.bar_passed; lines_ok = c.requires.lines_ok }

pub returns : goal.returns
returns c =
    let in_time_lem : true ≡ in_time c.args.bar c.args.b.now = sym c.if-not-is_in_time.false ∙ c.is_in_time.ensures in
    let room : u32 c.args.b.now 0 < c.args.c = omega (arith, c.if-get_u32-c.false, c.get_u32.ensures) in
    let a = c.args in
    bar-done a.t.now a.b.now a.c a.bar _ in_time_lem room c.take_bar.ensures
