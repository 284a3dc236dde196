-- The hold's slot is read and its row written. Assumes nothing.
use Prim.Native.Nat.{◌+◌}
use mathlib.Core.Path.{◌≡◌, ◌∙◌, sym, ap, subst}
use borrow.Author.Rules.{rules}
use Rattle.le.specs.Le.{part}
use Rattle.text.specs.Read.{Put}
use Rattle.position.specs.Rows.{hold_row}
use Rattle.position.specs.declared.HoldRow.{HoldRow}
use Rattle.book.specs.Layout.{hold_place, hold_of}
use Rattle.row_holds.proofs.Asked.{read_is, read-time}
use Rattle.row_blocks.specs.Blocks.{hold_row_bytes}
use Rattle.row_blocks_holds.specs.Row.{RowNumbers}
use Rattle.row_blocks_holds.proofs.Row.{row_numbers}
use Rattle.row_blocks_holds.proofs.put_hold.Goals as goal

pub row_of-requires : goal.row_of-requires
row_of-requires c =
    read-time c.requires.held c.args.i c.requires.i_bound c.hold_at-o.ensures

pub put_row-requires : goal.put_row-requires
put_row-requires c =
    let shown : c.row_of.result ≡ hold_row (hold_of (part c.args.b.now (hold_place c.args.i) 32)) =
    c.row_of.ensures ∙ ap hold_row (read_is c.requires.held c.args.i c.requires.i_bound c.hold_at-o.ensures) in
    record { hold_row_length_in_bounds = search rules; row_numbers = subst RowNumbers (sym shown) (row_numbers c.requires.held c.args.i c.requires.i_bound) }

pub returns : goal.returns
returns c =
    let shown : c.row_of.result ≡ hold_row (hold_of (part c.args.b.now (hold_place c.args.i) 32)) =
    c.row_of.ensures ∙ ap hold_row (read_is c.requires.held c.args.i c.requires.i_bound c.hold_at-o.ensures) in
    subst (λ (o : HoldRow). Put c.args.out.now c.put_row.new.out c.args.at (hold_row_bytes o) (c.args.at + 32)) shown c.put_row.ensures
