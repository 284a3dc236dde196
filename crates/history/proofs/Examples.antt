-- Lists of calls, computed: what each call answers, which bars survive, and that the book at the end is that of the plain machine after them.
-- Assumes nothing.
use Rattle.std.specs.Prelude.{None}
use Prim.Native.Nat.{ℕ}
use mathlib.Core.Bool.{true}
use mathlib.Core.List.{List, [], ◌∷◌, ◌++◌, map}
use mathlib.Core.Path.{◌≡◌, refl}
use lib.IntN.{pos, negsuc}
use lib.Ieee.{binary64, of_bits}
use lib.ListN.{replicate}
use Rattle.double.specs.declared.Yield.TheVariants.{Absent}
use Rattle.le.specs.Le.{patch}
use Rattle.text.specs.Answer.{Refused, Got, got_or}
use Rattle.text.specs.Literal.{bytes}
use Rattle.text.specs.Text.{same}
use Rattle.position.specs.Step.{plain}
use Rattle.table.proofs.Examples.{soy, meant}
use Rattle.book.specs.Layout.{records_of, encode}
use Rattle.book.specs.Calls.{fresh_do}
use Rattle.row.specs.Calls.{pair_do, pair_bytes, hold_do}
use Rattle.row_blocks.specs.Blocks.{counts_do}
use Rattle.history.specs.Calls.{Call, Fresh, Feed, FeedLine, Save, Restore, Ask, PairRow, HoldRow, PairRows, HoldRows, Counts, EventName, book_after, done_from}
use Rattle.history.specs.Survivors.{Past, Unknown, Known, survivors, AllOurs}
use Rattle.history.proofs.Opened.{opened}

-- ---- the calls, on a book of 3 bars

abbrev feed : List ℕ → ℕ → ℕ → List ℕ → Call
feed table id instant signals =
    Feed table (record { id = pos id; instant = pos instant; offset = pos 0; price = of_bits binary64 0x4059_0000_0000_0000; signals = signals })

abbrev up : List ℕ
up = bytes "d1_u_w|up_a_b_10\n"

abbrev down : List ℕ
down = bytes "d1_u_w|down_a_b_5\n"

-- made fresh of bytes that are no book
unfoldable start : List ℕ
start = got_or [] (fresh_do (replicate 288 255))

unfoldable buffer : List ℕ
buffer = replicate 288 3

-- a table that is none, a bar, and a save: its image
unfoldable beginning : List Call
beginning = feed (replicate 32768 0) 1 1 up ∷ feed soy 1 1 up ∷ Save soy buffer ∷ []

unfoldable image : List ℕ
image = book_after start beginning

-- a bar that a restore takes back, refusals of each kind between them (a late bar, a malformed signal, a damaged image, a short one, rows past
-- the last and before the first), two bars more, a full book, a save, rows, counts, blocks and a name
unfoldable calls : List Call
calls =
    beginning
    ++ feed soy 2 86400000001 down
    ∷ feed soy 3 5 up
    ∷ Restore soy image 0
    ∷ feed soy 4 7 down
    ∷ feed soy 5 9 (bytes "x")
    ∷ Restore soy (patch image 0 (9 ∷ [])) 0
    ∷ Restore soy (7 ∷ []) 0
    ∷ Ask (PairRow soy (pos 0) (replicate 2048 0))
    ∷ feed soy 6 172800000000 down
    ∷ feed soy 7 172800000001 up
    ∷ Save soy buffer
    ∷ Ask (PairRow soy (pos 0) (replicate 2048 0))
    ∷ Ask (HoldRow soy (pos 2))
    ∷ Ask (HoldRow soy (negsuc 0))
    ∷ Ask (Counts soy)
    ∷ Ask (HoldRows soy (pos 1) (replicate 64 0))
    ∷ Ask (PairRows soy (pos 1) (replicate 2144 0))
    ∷ Ask (EventName soy (pos 0) (replicate 256 0))
    ∷ []

-- ---- what they answer

said : map (λ d. d.answer.number) (done_from start calls) ≡ 9 ∷ 0 ∷ 0 ∷ 0 ∷ 13 ∷ 0 ∷ 0 ∷ 2 ∷ 10 ∷ 8 ∷ 15 ∷ 0 ∷ 14 ∷ 0 ∷ 0 ∷ 0 ∷ 15 ∷ 0 ∷ 0 ∷ 15 ∷ 0 ∷ []
unfolding opened soy start buffer beginning image calls
said = refl

-- ---- which bars survive: numbers 1, 4 and 6

abbrev ids : Past → List ℕ
ids Unknown = []
ids (Known []) = []
ids (Known (f ∷ fs)) = f.bar.id ∷ ids (Known fs)

-- the ids of those that survive the calls
abbrev left : List Call → List ℕ
left cs = ids (survivors soy (done_from start cs))

survived : left calls ≡ 1 ∷ 4 ∷ 6 ∷ []
unfolding opened soy start buffer beginning image calls
survived = refl

-- ---- the book is theirs

abbrev book_of : Past → List ℕ
book_of Unknown = []
book_of (Known fs) = encode 3 (plain meant fs)

kept : same (book_after start calls) (book_of (survivors soy (done_from start calls))) ≡ true
unfolding opened soy meant start buffer beginning image calls
kept = refl

-- ---- and its rows: a pair of bars 1 and 6, the hold of bar 6, no more of either

pair_row : (pair_bytes (replicate 2048 3) (pair_do soy (book_after start calls) (pos 0) (replicate 2048 3)) ≡ bytes "M1soygo@is_match -> out@is_match" ++ replicate 2016 3)
    × (pair_do soy (book_after start calls) (pos 1) (replicate 2048 3) ≡ Refused 15)
unfolding opened soy start buffer beginning image calls
pair_row = (refl, refl)

hold_row : (hold_do soy (book_after start calls) (pos 2)
    ≡ Got (record { local = record { 0 = pos 172800000000 }; pos = pos 0; price = of_bits binary64 0x4059_0000_0000_0000; n1b = Absent }))
    × (hold_do soy (book_after start calls) (pos 3) ≡ Refused 15)
unfolding opened soy start buffer beginning image calls
hold_row = (refl, refl)

counted : counts_do soy (book_after start calls) ≡ Got (record { holds = 3; pairs = 1 })
unfolding opened soy start buffer beginning image calls
counted = refl

-- ---- what is asked of the host can be had: a bar, its save, a bar, and the restore of that save

ours : AllOurs soy [] (done_from start (feed soy 1 1 up ∷ Save soy buffer ∷ feed soy 2 86400000001 down ∷ Restore soy image 0 ∷ []))
unfolding opened soy start buffer beginning image
ours = (λ e. refl, (tt, (λ e. refl, (λ e. refl, tt))))

-- ---- two saves that left the same bytes after different bars (a bar that no event matches leaves no id): the save that a restore names counts

unfoldable twice : List Call
twice = feed soy 1 5 [] ∷ Save soy buffer ∷ Fresh ∷ feed soy 2 5 [] ∷ Save soy buffer ∷ []

unfoldable equal : List ℕ
equal = book_after start twice

named : (left (twice ++ Restore soy equal 0 ∷ []) ≡ 2 ∷ []) × (left (twice ++ Restore soy equal 1 ∷ []) ≡ 1 ∷ [])
unfolding opened soy start buffer twice equal
named = (refl, refl)

-- ---- bars by lines: 1970 has no 29 February (16), seven digits behind the point (17), before 1970 UTC (11), the instant of the bar before (13)

unfoldable lines : List Call
lines =
    FeedLine soy (bytes "1,1970-01-02 00:00:01+00:00,100") up
    ∷ FeedLine soy (bytes "2,1970-02-29 00:00:00+00:00,100") up
    ∷ FeedLine soy (bytes "2,1970-02-28 00:00:00+00:00,1.0000000") up
    ∷ FeedLine soy (bytes "2,1970-01-01 00:00:00+00:01,100") up
    ∷ FeedLine soy (bytes "2,1970-01-02 08:00:01+08:00,100") up
    ∷ FeedLine soy (bytes "3,1970-01-03 00:00:00+00:00,100.00") down
    ∷ []

lines_said : map (λ d. d.answer.number) (done_from start lines) ≡ 0 ∷ 16 ∷ 17 ∷ 11 ∷ 13 ∷ 0 ∷ []
unfolding opened soy start lines
lines_said = refl

lines_survived : left lines ≡ 1 ∷ 3 ∷ []
unfolding opened soy start lines
lines_survived = refl

-- the bars that survive are those of the lines, so the book is the one that their numbers give
lines-kept : same (book_after start lines) (book_after start (feed soy 1 86401000000 up ∷ feed soy 3 172800000000 down ∷ [])) ≡ true
unfolding opened soy start lines
lines-kept = refl

-- ---- an image that no save of the list left: nothing is claimed, until a fresh or a restore of one that a save left

lost : (survivors soy (done_from start (Restore soy image 0 ∷ [])) ≡ Unknown) × (survivors soy (done_from start (Restore soy image 0 ∷ Fresh ∷ [])) ≡ Known [])
unfolding opened soy start buffer beginning image
lost = (refl, refl)

found : left (beginning ++ Restore soy start 0 ∷ Restore soy image 0 ∷ []) ≡ 1 ∷ []
unfolding opened soy start buffer beginning image
found = refl

-- ---- lots: five are opened, saved, closed, brought back by a restore and closed again, by a record that has them

-- soy, with five lots on its opening
unfoldable hedge : List ℕ
hedge = patch soy 80 (8 ∷ 0 ∷ [])

unfoldable opening : List Call
opening = feed hedge 1 1 up ∷ Save hedge buffer ∷ []

unfoldable again : List Call
again = opening ++ feed hedge 2 86400000001 down ∷ Restore hedge (book_after start opening) 0 ∷ feed hedge 3 86400000002 down ∷ []

five : (map (λ r. r.lots) (records_of 3 (book_after start again)) ≡ 5 ∷ 5 ∷ []) × (ids (survivors hedge (done_from start again)) ≡ 1 ∷ 3 ∷ [])
unfolding opened soy hedge start buffer opening again
five = (refl, refl)
