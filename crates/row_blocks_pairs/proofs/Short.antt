-- A block of pair rows has at least one, so that who reads on behind it comes to the end: the texts of a table's pair fit a row buffer. Assumes
-- nothing.
use Prim.Native.Nat.{ℕ, zero, suc, ◌+◌, ◌*◌, ◌^◌, ◌<◌, ◌≤◌}
use native.Mathlib.Omega.{arith}
use mathlib.Core.Bool.{Bool, true, false, cond}
use mathlib.Core.List.{List, [], ◌∷◌, ◌++◌, map}
use Rattle.std.specs.Prelude.{Some, slice_get}
use mathlib.Core.Path.{◌≡◌, refl, ap, subst}
use borrow.Author.Tests.{leb-true}
use lib.IntN.{ℤ, pos, negsuc}
use lib.ListN.{length, drop, length-append, length-take}
use Rattle.le.specs.Le.{part}
use Rattle.text.specs.Answer.{Got}
use Rattle.text.specs.Conditions.{every}
use Rattle.text.specs.Literal.{bytes, encoded}
use Rattle.text.specs.Text.{has}
use Rattle.text.proofs.Answers.{got_from, must_got, got_same}
use Rattle.text.proofs.Conditions.{fact}
use Rattle.text.proofs.Every.{every_cons}
use Rattle.sheet.specs.Sheet.{Clause, Sheet, name_limit}
use Rattle.table.specs.Layout.{settings_in, parts_in, event_text}
use Rattle.table.specs.Table.{settings_ok, head_ok, event_ok, events_ok, parts_ok, is_table, event_of, sheet_of, read_table}
use Rattle.table.specs.declared.EventRow.{EventRow}
use Rattle.table.proofs.Facts.{read_is, table_facts}
use Rattle.position.specs.Rows.{name_in, event_name, event_tag, sequence_part, sequence_of, Pair, opens, pair_of, pairs_of}
use Rattle.position.specs.declared.Description.{Description}
use Rattle.position.specs.declared.Description.TheVariants.{Event, Stop, Timeout}
use Rattle.position.specs.declared.Record.{Record}
use Rattle.book.specs.Layout.{records_of}
use Rattle.book.specs.Check.{full_ok}
use Rattle.book.specs.Calls.{checked}
use Rattle.row.specs.Calls.{row_buffer, row_at, pair_text}
use Rattle.row_names.proofs.Texts.{name-is, symbol-is}
use Rattle.row_sequence.specs.Part.{part_limit}
use Rattle.row_sequence.proofs.Tags.{tag_length}
use Rattle.row_sequence.proofs.Closings.{closing-length}
use Rattle.row_sequence.proofs.Parts.{event_part, stop-part, timeout-part}
use Rattle.row_blocks.specs.Blocks.{pair_row_bytes, pair_row_limit, pair_block_do}
use Rattle.row_blocks.proofs.Single.{row_of_lem, row_some, pair_long, traded}

-- ---- the texts of a table's sheet

record Short (s : Sheet) : Type 0 where
  name : length s.name ≤ name_limit
  symbol : length s.symbol ≤ name_limit
  stop : s.stop < 2 ^ 64
  timeout : 100 * s.timeout < 2 ^ 64
  event : (i : ℕ) → length (event_name s i) ≤ name_limit

event_short : (names : List ℕ) (cs : List Clause) (es : List EventRow) → every (event_ok names) es ≡ true → (i : ℕ)
    → length (name_in (slice_get (map (event_of names cs) es) i)) ≤ name_limit
unfolding event_of event_text event_ok part
event_short names cs [] h i = omega arith
event_short names cs (e ∷ es) h zero =
    let ok = (every_cons (event_ok names) e es h).0 in
    omega (arith, length-take e.len (drop e.at names), leb-true e.len name_limit (fact _ ok 2))
event_short names cs (e ∷ es) h (suc i) = event_short names cs es (every_cons (event_ok names) e es h).1 i

short : (t : List ℕ) → is_table t ≡ true → Short (sheet_of (parts_in t))
unfolding sheet_of parts_in head_ok settings_ok parts_ok events_ok
short t ok =
    let f = table_facts t ok in
    let settings = fact _ f.0 2 in
    let n = name-is t ok refl refl in
    let m = symbol-is t ok refl refl in
    record {
      name = omega (arith, n.1, ap length n.0);
      symbol = omega (arith, m.1, ap length m.0);
      stop = omega (arith, leb-true (settings_in t).stop _ (fact _ settings 2));
      timeout = omega (arith, leb-true (settings_in t).timeout _ (fact _ settings 1));
      event = event_short _ _ _ (fact _ (fact _ f.1 2) 0);
    }

-- ---- the texts of a pair

tagged-short : (d : List ℕ) → length d ≤ name_limit → length (sequence_part d) ≤ part_limit
unfolding sequence_part bytes encoded
tagged-short d h = go (has 64 d)
  where
    go : (t : Bool) → length (cond t d (d ++ bytes "@" ++ event_tag d)) ≤ part_limit
    go true = omega arith
    go false = rw (length-append (d ++ bytes "@") (event_tag d), length-append d (bytes "@")) (omega (arith, tag_length d))

part-short : {s : Sheet} → Short s → (r : Record) → length (sequence_of s r) ≤ part_limit
unfolding bytes encoded
part-short {s} h r = go r.description refl
  where
    go : (d : Description) → r.description ≡ d → length (sequence_of s r) ≤ part_limit
    go (Event i) e = subst (λ (l : List ℕ). length l ≤ part_limit) (event_part s r e refl) (tagged-short (event_name s i) (h.event i))
    go Stop e =
        omega (arith, ap length (stop-part s r e refl), closing-length r.operate s.stop (bytes "BP止损") h.stop (omega arith))
    go Timeout e =
        omega (arith, ap length (timeout-part s r e refl), closing-length r.operate (100 * s.timeout) (bytes "K超时") h.timeout (omega arith))

pair_short : {s : Sheet} → Short s → (a z : Record) → length (pair_text (pair_of s a z)) ≤ row_buffer
unfolding pair_of bytes encoded
pair_short {s} h a z =
    simp length-append (omega (arith, h.name, h.symbol, part-short h a, part-short h z))

pairs_short : {s : Sheet} → Short s → (rs : List Record) (i : ℕ) (p : Pair) → slice_get (pairs_of s rs) i ≡ Some p → length (pair_text p) ≤ row_buffer
unfolding pairs_of
pairs_short h [] i p e = absurd (let z : ◌≡◌ {A = ℕ} 0 1 = cc in omega arith)
pairs_short h (a ∷ []) i p e = absurd (let z : ◌≡◌ {A = ℕ} 0 1 = cc in omega arith)
pairs_short {s} h (a ∷ z ∷ rs) i p e = go (opens a) i (λ j f. pairs_short h (z ∷ rs) j p f) e
  where
    go : (t : Bool) (j : ℕ) → ((k : ℕ) → slice_get (pairs_of s (z ∷ rs)) k ≡ Some p → length (pair_text p) ≤ row_buffer)
        → slice_get (cond t (pair_of s a z ∷ pairs_of s (z ∷ rs)) (pairs_of s (z ∷ rs))) j ≡ Some p → length (pair_text p) ≤ row_buffer
    go true zero ih f =
        let is : pair_of s a z ≡ p = cc in
        subst (λ (q : Pair). length (pair_text q) ≤ row_buffer) is (pair_short h a z)
    go true (suc j) ih f = ih j f
    go false j ih f = ih j f

row-short : {s : Sheet} → Short s → (rs : List Record) (i : ℤ) (p : Pair) → row_at (pairs_of s rs) i ≡ Some p → length (pair_text p) ≤ row_buffer
row-short h rs (pos n) p e = pairs_short h rs n p e
row-short h rs (negsuc n) p e = absurd (let z : ◌≡◌ {A = ℕ} 0 1 = cc in omega arith)

-- ---- a block

sheet-short : (t : List ℕ) (c : ℕ) (b : List ℕ) (s : Sheet) → checked t c b ≡ Got s → Short s
unfolding checked
sheet-short t c b s e =
    let read = got_from (read_table t) _ s e in
    let full = must_got 10 (full_ok (length read.0.events) c b) _ s read.2 in
    let is = read_is t read.0 read.1 in
    rw (← got_same _ _ full.1, ← is.1) (short t is.0)

pub pair_some : (t b : List ℕ) (i : ℤ) (out : List ℕ) (block : List (List ℕ)) → pair_block_do t b i out ≡ Got block → 1 ≤ length block
pair_some t b i out block e =
    let a = traded t b i out block e in
    let row = row_of_lem pair_row_bytes (pairs_of a.sheet (records_of a.bars b)) i a.first a.there in
    let texts = row-short (sheet-short t a.bars b a.sheet a.check) (records_of a.bars b) i row.0 row.1 in
    row_some a (omega (arith, leb-true pair_row_limit (length out) a.room, ap length row.2, pair_long row.0, texts))
