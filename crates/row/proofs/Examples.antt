-- Case *1's rows, asked of its book by its table, and what is refused; computed from the definitions. Assumes nothing.
use Rattle.std.specs.Prelude.{Some}
use Prim.Native.Nat.{ℕ}
use mathlib.Core.List.{List, ◌++◌}
use mathlib.Core.Path.{◌≡◌, refl}
use lib.IntN.{pos, negsuc}
use lib.Ieee.{binary64, of_bits}
use lib.ListN.{replicate}
use Rattle.double.specs.declared.Yield.TheVariants.{Bp}
use Rattle.text.specs.Answer.{Answer, Refused, Got}
use Rattle.text.specs.Literal.{bytes}
use Rattle.position.specs.Feed.{Accepted}
use Rattle.table.proofs.Examples.{soy}
use Rattle.book.specs.Layout.{fresh_book}
use Rattle.book.specs.Calls.{feed_do, feed_bytes}
use Rattle.row.specs.Calls.{pair_do, pair_bytes, hold_do, event_name_do, event_name_bytes}
use Rattle.row.proofs.Opened.{opened}

-- ---- the book of case *1, for two bars

-- what a feed of case *1 answers
unfoldable pub fed : ℕ → ℕ → ℕ → List ℕ → List ℕ → Answer (Accepted (List ℕ))
fed id instant price signals b =
    feed_do soy b (record { id = pos id; instant = pos instant; offset = pos 0; price = of_bits binary64 price; signals = signals })

unfoldable pub first_bar : List ℕ → Answer (Accepted (List ℕ))
first_bar b = fed 1 0 0x4059_0000_0000_0000 (bytes "d1_u_w|up_a_b_10\n") b

unfoldable pub second_bar : List ℕ → Answer (Accepted (List ℕ))
second_bar b = fed 2 86_400_000_000 0x405f_4000_0000_0000 (bytes "d1_u_w|down_a_b_5\n") b

unfoldable pub opening : List ℕ
opening = feed_bytes (fresh_book 2) (first_bar (fresh_book 2))

unfoldable pub whole : List ℕ
whole = feed_bytes opening (second_bar opening)

-- ---- rows

-- the texts stand at the start of the buffer, and the later bytes are kept
pair_row : pair_bytes (replicate 2048 7) (pair_do soy whole (pos 0) (replicate 2048 7)) ≡ bytes "M1soygo@is_match -> out@is_match" ++ replicate 2016 7
unfolding opened soy fed first_bar second_bar opening whole
pair_row = refl

hold_row : hold_do soy whole (pos 0) ≡ Got (record { local = record { 0 = pos 0 }; pos = pos 1; price = of_bits binary64 0x4059_0000_0000_0000; n1b = Bp (of_bits binary64 0x40a3_8800_0000_0000) })
unfolding opened soy fed first_bar second_bar opening whole
hold_row = refl

-- a buffer too short, a row past the last, a row below 0; a refusal keeps the buffer
no_row : (pair_do soy whole (pos 0) (replicate 2047 7) ≡ Refused 8) × (pair_do soy whole (pos 1) (replicate 2048 7) ≡ Refused 15)
    × (hold_do soy whole (pos 2) ≡ Refused 15) × (hold_do soy whole (negsuc 0) ≡ Refused 15)
    × (pair_bytes (replicate 2048 7) (pair_do soy whole (pos 1) (replicate 2048 7)) ≡ replicate 2048 7)
unfolding opened soy fed first_bar second_bar opening whole
no_row = (refl, refl, refl, refl, refl)

-- ---- an event's name

names : (event_name_bytes (replicate 256 7) (event_name_do soy (pos 1) (replicate 256 7)) ≡ bytes "out" ++ replicate 253 7)
    × (event_name_do soy (pos 2) (replicate 256 7) ≡ Refused 15) × (event_name_do soy (negsuc 0) (replicate 256 7) ≡ Refused 15)
    × (event_name_do soy (pos 1) (replicate 255 7) ≡ Refused 8) × (event_name_do (replicate 32768 0) (pos 1) (replicate 256 7) ≡ Refused 9)
unfolding opened soy
names = (refl, refl, refl, refl, refl)
