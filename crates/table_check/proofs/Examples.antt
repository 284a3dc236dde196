-- Case *1's table passes, part by part. Assumes nothing.
use mathlib.Core.Bool.{true, false}
use mathlib.Core.Path.{◌≡◌, refl}
use lib.ListN.{drop}
use Rattle.table.specs.Layout.{parts_in}
use Rattle.table.specs.Table.{is_table, head_ok}
use Rattle.table.proofs.Examples.{soy}
use Rattle.table_check_texts.specs.Check.{texts_ok}
use Rattle.table_check.specs.Check.{rows_ok, vocabulary_ok}
use Rattle.table_check.proofs.Opened.{opened}

passes : (is_table soy ≡ true) × (is_table (drop 1 soy) ≡ false)
unfolding opened soy
passes = (refl, refl)

part_by_part : (head_ok soy ≡ true) × (texts_ok (parts_in soy) ≡ true) × (rows_ok (parts_in soy) ≡ true) × (vocabulary_ok (parts_in soy) ≡ true)
unfolding opened soy
part_by_part = (refl, refl, refl, refl)
