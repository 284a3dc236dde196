-- Worked examples of the order of texts, computed from the definitions. Assumes nothing.
use mathlib.Core.Path.{◌≡◌, refl}
use Rattle.text.specs.Literal.{bytes}
use Rattle.table_words_order.specs.Read.{order_of}
use Rattle.std.specs.declared.cmp.Ordering.TheVariants.{Less, Equal, Greater}
use Rattle.table_words_order.proofs.Opened.{opened}

-- the shorter of two texts with a common start comes first
orders : (order_of (bytes "ab") (bytes "abc") ≡ Less) × (order_of (bytes "b") (bytes "abc") ≡ Greater) × (order_of (bytes "ab") (bytes "ab") ≡ Equal)
unfolding opened
orders = (refl, refl, refl)
