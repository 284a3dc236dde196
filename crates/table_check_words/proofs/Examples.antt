-- The words of case *1's table. Assumes nothing.
use mathlib.Core.Bool.{true, false}
use mathlib.Core.Path.{◌≡◌, refl}
use Rattle.table_words.specs.Words.{key_parts, value_parts}
use Rattle.table.specs.Layout.{parts_in}
use Rattle.table.proofs.Examples.{soy}
use Rattle.table_check_words.specs.Check.{orders_of, laid, ranks_from}
use Rattle.table_check_words.proofs.Opened.{opened}

-- the keys and the values of case *1
words : (laid key_parts (parts_in soy).keytexts 0 (parts_in soy).keys ≡ true) × (laid value_parts (parts_in soy).valuetexts 1 (parts_in soy).values ≡ false)
    × (ranks_from (orders_of (parts_in soy).values) 0 (parts_in soy).values ≡ true)
unfolding opened soy
words = (refl, refl, refl)
