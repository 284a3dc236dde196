-- `book_check::records_ok` meets its contract: `Walking` is kept. Assumes nothing.
use Prim.Native.Nat.{◌+◌, ◌-◌, ◌*◌}
use mathlib.Core.Bool.{◌&&◌}
use mathlib.Core.Path.{◌≡◌}
use lib.ListN.{take, drop}
use borrow.Author.Rules.{rules}
use Rattle.book.specs.Check.{record_ok}
use Rattle.book_check.specs.Walk.{risen}
use Rattle.book_check.proofs.Walk.{walking_first, walking_off, walking_more, walking_last}
use Rattle.book_check.proofs.records_ok.Goals as goal

pub loop-i-init : goal.loop-i-init
loop-i-init c = walking_first _ _ _ _ c.requires

pub returns-then-not-rises : goal.returns-then-not-rises
returns-then-not-rises c =
    let p = c.args.at + 32 * c.loop-i.i in
    let told : c.if-record_ok.value ≡ (record_ok c.args.events (take (p + 32 - p) (drop p c.args.b.now)) && risen c.args.b.now p c.loop-i.i) = search rules in
    walking_off c.loop-i.invariant c.loop-i-test.true told c.if-not-rises.true

pub loop-i-preserved : goal.loop-i-preserved
loop-i-preserved c =
    let p = c.args.at + 32 * c.loop-i.i in
    let told : c.if-record_ok.value ≡ (record_ok c.args.events (take (p + 32 - p) (drop p c.args.b.now)) && risen c.args.b.now p c.loop-i.i) = search rules in
    walking_more c.loop-i.invariant c.loop-i-test.true told c.if-not-rises.false

pub returns : goal.returns
returns c = walking_last c.loop-i.invariant c.loop-i-test.false
