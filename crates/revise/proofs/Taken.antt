-- What an accepted revise took, and the book that it left. Assumes nothing.
use Prim.Native.Nat.{ℕ, ◌≤◌}
use native.Mathlib.Omega.{arith}
use mathlib.Core.List.{List, [], append-nil}
use Rattle.std.specs.Prelude.{Some}
use mathlib.Core.Path.{◌≡◌, refl, sym, ap, ◌∙◌}
use borrow.Author.Tests.{leb-true}
use lib.Dec.{leb, eqb}
use lib.ListN.{length, length-map}
use Rattle.text.specs.Answer.{Got}
use Rattle.text.proofs.Answers.{got_from, must_got, given_got, got_same}
use Rattle.sheet.specs.Sheet.{Sheet}
use Rattle.table.specs.Layout.{table_length}
use Rattle.table.specs.Table.{read_table}
use Rattle.position.specs.Step.{Fed, plain}
use Rattle.position_laws.proofs.Sound.{Sound}
use Rattle.position_laws.proofs.Steps.{holds-count, records-few}
use Rattle.book.specs.Layout.{capacity, encode}
use Rattle.book.specs.Calls.{sized}
use Rattle.book.proofs.Lengths.{length-encode, capacity_range}
use Rattle.book.proofs.Passes.{Room}
use Rattle.revise.specs.Lines.{lines, bar_count}
use Rattle.revise.specs.Entries.{Entry, read_entries}
use Rattle.revise.specs.Chosen.{chosen, feds, agree}
use Rattle.revise.specs.Revise.{revised_limit, revised_bars, revise_do}
use Rattle.revise.proofs.Reached.{chosen-reached}

-- the room, the sheet and the entries that a revise of the book b with a table's bytes and a text had, and the book x that it left
pub record Revised (table b text x : List ℕ) : Type 0 where
  pub bars : ℕ
  pub sheet : Sheet
  pub es : List Entry
  pub sized : capacity b ≡ Some bars
  pub meant : read_table table ≡ Got sheet
  pub read : read_entries text ≡ Got es
  pub few : length (chosen es) ≤ bars
  pub left : x ≡ encode bars (plain sheet (feds (chosen es)))

pub took : (table b text x : List ℕ) → revise_do table b text ≡ Got x → Revised table b text x
unfolding revise_do
took table b text x e =
    let first = (must_got 7 (leb (bar_count (lines text)) revised_limit) _ x e).1 in
    let size = got_from (sized table b) _ x first in
    let bars = size.0 in
    let sheet = got_from (read_table table) _ x size.2 in
    let es = got_from (read_entries text) _ x sheet.2 in
    let differ = (must_got 19 (agree es.0) _ x es.2).1 in
    let room = must_got 14 (leb (length (chosen es.0)) bars) _ x differ in
    record {
      bars = bars;
      sheet = sheet.0;
      es = es.0;
      sized = given_got 8 (capacity b) bars (must_got 8 (eqb (length table) table_length) _ bars size.1).1;
      meant = sheet.1;
      read = es.1;
      few = leb-true (length (chosen es.0)) bars room.0;
      left = sym (got_same (encode bars (plain sheet.0 (feds (chosen es.0)))) x room.1);
    }

module _ {table b text x : List ℕ} (r : Revised table b text x) where
  -- the bars that the text has chosen
  pub revised_bars_lem : revised_bars text ≡ Got (feds (chosen r.es))
  unfolding revised_bars
  revised_bars_lem = rw r.read refl

  pub revised_reached : Sound r.sheet (plain r.sheet (feds (chosen r.es))) × Room r.sheet r.bars (plain r.sheet (feds (chosen r.es)))
  revised_reached =
      let range = capacity_range b r.bars r.sized in
      chosen-reached table r.sheet r.meant text r.es r.read r.bars range.1 range.2 (chosen r.es) [] (sym (append-nil (chosen r.es))) r.few

-- the book is as long as it was
pub revise_size : (table b text x : List ℕ) → revise_do table b text ≡ Got x → length x ≡ length b
revise_size table b text x e =
    let r = took table b text x e in
    let fs : List Fed = feds (chosen r.es) in
    let many : length fs ≤ r.bars = omega (arith, length-map (chosen r.es) (λ (e : Entry). e.fed), r.few) in
    ap (λ (y : List ℕ). length y) r.left
    ∙ length-encode r.bars (plain r.sheet fs) (omega (arith, holds-count r.sheet fs)) (omega (arith, records-few r.sheet fs))
    ∙ sym (capacity_range b r.bars r.sized).0
