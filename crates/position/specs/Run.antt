-- The run program: from the bytes of its input to the bytes of its output. Assumes nothing.
use Rattle.std.specs.Prelude.{ℕ, Bool, true, false, cond, ◌&&◌, leb, eqb, Float, length, get_or, Option, None, Some}
use mathlib.Core.List.{List, [], ◌∷◌, ◌++◌, flat_map}
use Rattle.std.specs.Float.{binary64}
use Rattle.std.specs.Float.Ieee.{of_bits, to_bits}
use Rattle.double.specs.declared.Yield.{Yield}
use Rattle.double.specs.declared.Yield.TheVariants.{Absent, Bp}
use Rattle.text.specs.Answer.{Answer, Refused, Got, ◌>>=◌, must, given, number}
use Rattle.text.specs.Literal.{bytes}
use Rattle.text.specs.Text.{same, split, joined, each_line, LF, pipe}
use Rattle.text.specs.Number.{digits_to, plus, signed_to, bits_of, decimal_of, integer_of, hex_of}
use Rattle.double.specs.declared.Side.{Side}
use Rattle.sheet.specs.Sheet.{Sheet}
use Rattle.sheet.specs.Read.{read_sheet}
use Rattle.position.specs.State.{State, fresh_state, pos_sign}
use Rattle.position.specs.Feed.{Input, Accepted, feed_state}
use Rattle.position.specs.Rows.{Pair, pairs_of, hold_rows}
use Rattle.position.specs.declared.HoldRow.{HoldRow}

-- "from standard input of at most 65,536 bytes, C = 900"
abbrev pub input_limit : ℕ
input_limit = 65536

abbrev pub run_bars : ℕ
run_bars = 900

-- ---- reading: "a sheet, a line `-`, then `B|id|instant|offset|price` with following `S|key|value` lines"

-- the lines before a line `-`, and the parts between LFs behind it, the last of which stands behind the last LF
pub record Cut : Type 0 where
  pub sheet : List (List ℕ)
  pub bars : List (List ℕ)

abbrev pub behind : List ℕ → Option Cut → Option Cut
behind p None = None
behind p (Some c) = Some (record { sheet = p ∷ c.sheet; bars = c.bars })

-- the last part has no LF behind it, so it is no line `-`
unfoldable pub cut : List (List ℕ) → Option Cut
cut [] = None
cut (p ∷ []) = None
cut (p ∷ q ∷ ps) = cond (same p (bytes "-")) (Some (record { sheet = []; bars = q ∷ ps })) (behind p (cut (q ∷ ps)))

-- the lines, each with its LF
unfoldable pub ended : List (List ℕ) → List ℕ
ended ps = flat_map (λ p. p ++ LF ∷ []) ps

-- "id, instant and offset are decimal and reach the feed as i64, offset perhaps after `-`, instants up to 16 digits. Price is 16
-- lower-case hexadecimal digits of bits"; "field count (2) or a malformed B field (3)"
unfoldable pub bar_line : List (List ℕ) → Answer Input
bar_line f = do
  _ ← must 2 (eqb (length f) 5)
  id ← given 3 (plus (digits_to 10 (get_or f 1 [])))
  instant ← given 3 (plus (digits_to 16 (get_or f 2 [])))
  offset ← given 3 (signed_to 10 (get_or f 3 []))
  price ← given 3 (bits_of (get_or f 4 []))
  Got (record { id = id; instant = instant; offset = offset; price = of_bits binary64 price; signals = [] })

-- a line of signals goes to the bar before it; without one it is in the wrong place (2)
unfoldable pub add_signal : List ℕ → List Input → Answer (List Input)
add_signal l [] = Refused 2
add_signal l (i ∷ []) = Got (record { id = i.id; instant = i.instant; offset = i.offset; price = i.price; signals = i.signals ++ l } ∷ [])
add_signal l (i ∷ j ∷ is) = add_signal l (j ∷ is) >>= λ js. Got (i ∷ js)

-- "a wrong tag, place or field count (2)"
unfoldable pub input_line : List Input → List (List ℕ) → Answer (List Input)
input_line is f =
    cond (same (get_or f 0 []) (bytes "B")) (bar_line f >>= λ i. Got (is ++ i ∷ []))
    (cond (same (get_or f 0 []) (bytes "S") && eqb (length f) 3) (add_signal (get_or f 1 [] ++ pipe ∷ get_or f 2 [] ++ LF ∷ []) is)
    (Refused 2))

pub record Asked : Type 0 where
  pub sheet : Sheet
  pub inputs : List Input

-- "the first of: input past 65,536 bytes (7), no `-` line (2), a refused sheet, then line by line no LF, a wrong tag, place or field
-- count (2) or a malformed B field (3)"
unfoldable pub read_input : List ℕ → Answer Asked
read_input s = do
  _ ← must 7 (leb (length s) input_limit)
  c ← given 2 (cut (split LF s))
  sheet ← read_sheet (ended c.sheet)
  inputs ← each_line input_line [] c.bars
  Got (record { sheet = sheet; inputs = inputs })

-- ---- writing

-- the fields as a line
unfoldable pub line : List (List ℕ) → List ℕ
line fields = joined (pipe ∷ []) fields ++ LF ∷ []

-- "doubles as price is"
abbrev pub hex_bits : Float → List ℕ
hex_bits x = hex_of 16 (to_bits binary64 x)

-- "absent as `-`"
abbrev pub yield_text : Yield → List ℕ
yield_text Absent = bytes "-"
yield_text (Bp x) = hex_bits x

abbrev pub side_text : Side → List ℕ
side_text Side.Long = bytes "L"
side_text Side.Short = bytes "S"

abbrev pub flag_text : Bool → List ℕ
flag_text true = bytes "1"
flag_text false = bytes "0"

-- "`F|answer|pos|changed` per bar (pos -1, 0 or 1, both as they then stand)"
unfoldable pub feed_line : ℕ → State → List ℕ
feed_line n st = line (bytes "F" ∷ decimal_of n ∷ integer_of (pos_sign st.head.pos) ∷ flag_text st.head.changed ∷ [])

-- "pairs as R"; "Pair rows end with the opening lots, and so do R lines"
unfoldable pub pair_line : Pair → List ℕ
pair_line p =
    line
    (bytes "R" ∷ p.symbol ∷ p.mark ∷ side_text p.side ∷ integer_of p.open_local.0 ∷ integer_of p.close_local.0
    ∷ hex_bits p.open_price ∷ hex_bits p.close_price ∷ integer_of p.ids ∷ p.sequence ∷ hex_bits p.days ∷ yield_text p.yield ∷ decimal_of p.lots ∷ [])

-- "holds as H"
unfoldable pub hold_line : HoldRow → List ℕ
hold_line r = line (bytes "H" ∷ integer_of r.local.0 ∷ integer_of r.pos ∷ hex_bits r.price ∷ yield_text r.n1b ∷ [])

-- the state after a feed: a refusal leaves it
abbrev pub next_state : State → Answer (Accepted State) → State
next_state st (Refused n) = st
next_state st (Got a) = a.after

-- a line per bar, then the pairs and the holds
unfoldable pub feed_all : Sheet → State → List Input → List ℕ
feed_all s st [] = flat_map pair_line (pairs_of s st.records) ++ flat_map hold_line (hold_rows st.holds)
feed_all s st (i ∷ is) =
    let a = feed_state s run_bars i st in
    let next = next_state st a in
    feed_line (number a) next ++ feed_all s next is

-- "Only `E|number` is printed for" a refusal of the input
abbrev pub printed : Answer Asked → List ℕ
printed (Refused n) = line (bytes "E" ∷ decimal_of n ∷ [])
printed (Got a) = feed_all a.sheet fresh_state a.inputs

unfoldable pub run_do : List ℕ → List ℕ
run_do s = printed (read_input s)
