-- What a feed and the row requests answer to the host, in numbers: case *1 and refusals; computed from the definitions. Assumes nothing.
use mathlib.Core.Path.{◌≡◌, refl}
use lib.IntN.{pos}
use lib.Ieee.{binary64, of_bits}
use lib.ListN.{replicate}
use Rattle.text.specs.Answer.{Got, ◌>>=◌}
use Rattle.table.proofs.Examples.{soy}
use Rattle.book.specs.Layout.{fresh_book}
use Rattle.row.specs.Calls.{pair_do, pair_row, hold_do}
use Rattle.row.proofs.Opened.{opened}
use Rattle.row.proofs.Examples.{fed, first_bar, second_bar, opening, whole}
use Rattle.position_book_answer.specs.Rows.{feed_answer, pair_answer, hold_answer}

-- long, changed, by event 0; then flat, changed, by event 1
feeds : (feed_answer (first_bar (fresh_book 2)) ≡ record { number = 0; pos = pos 1; changed = 1; decision = 1; event = 0 })
    × (feed_answer (second_bar opening) ≡ record { number = 0; pos = pos 0; changed = 1; decision = 1; event = 1 })
unfolding opened soy fed first_bar second_bar opening
feeds = (refl, refl)

-- a late bar: zeros, whatever the book has
late : feed_answer (first_bar opening) ≡ record { number = 13; pos = pos 0; changed = 0; decision = 0; event = 0 }
unfolding opened soy fed first_bar opening
late = refl

pair : pair_answer (pair_do soy whole (pos 0) (replicate 2048 7) >>= λ p. Got (pair_row p))
    ≡ record {
      number = 0;
      side = pos 1;
      opened = pos 0;
      closed = pos 86_400_000_000;
      from = of_bits binary64 0x4059_0000_0000_0000;
      to = of_bits binary64 0x405f_4000_0000_0000;
      ids = pos 1;
      days = of_bits binary64 0x3ff0_0000_0000_0000;
      present = 1;
      bp = of_bits binary64 0x40a3_8800_0000_0000;
      symbol = 2;
      mark = 3;
      sequence = 27;
      lots = 1;
    }
unfolding opened soy fed first_bar second_bar opening whole
pair = refl

-- the last hold's yield is absent; a row past the last is zeros
holds : (hold_answer (hold_do soy whole (pos 1)) ≡ record { number = 0; local = pos 86_400_000_000; pos = pos 0; price = of_bits binary64 0x405f_4000_0000_0000; present = 0; bp = of_bits binary64 0 })
    × (hold_answer (hold_do soy whole (pos 2)) ≡ record { number = 15; local = pos 0; pos = pos 0; price = of_bits binary64 0; present = 0; bp = of_bits binary64 0 })
unfolding opened soy fed first_bar second_bar opening whole
holds = (refl, refl)
