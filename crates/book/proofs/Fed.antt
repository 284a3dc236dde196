-- An accepted feed on any bytes: what was read, and, part by part, the book that it leaves. Assumes nothing.
use Prim.Native.Nat.{ℕ, ◌+◌, ◌-◌, ◌*◌, ◌≤◌, ◌<◌}
use native.Mathlib.Omega.{arith}
use mathlib.Core.Bool.{Bool, true, false, cond, ◌&&◌}
use mathlib.Core.List.{List}
use Rattle.std.specs.Prelude.{Some}
use mathlib.Core.Path.{◌≡◌, refl, ap, ◌∙◌, subst}
use lib.Dec.{eqb}
use lib.ListN.{length}
use borrow.Author.Tests.{leb-true, ne_eqb}
use Rattle.le.specs.Le.{part, patch}
use Rattle.le.specs.Field.{u32}
use Rattle.le.proofs.Laws.{length-patch, part_same, part-after, part-before}
use Rattle.text.specs.Answer.{Answer, Got, given}
use Rattle.text.proofs.Answers.{got_from, must_got, got_same, given_got}
use Rattle.text.proofs.Conditions.{fact}
use Rattle.bar.specs.declared.Bar.{Bar}
use Rattle.sheet.specs.Sheet.{Sheet}
use Rattle.table.specs.Layout.{table_length}
use Rattle.table.specs.Table.{read_table}
use Rattle.position.specs.Step.{Going, Fed, step_head, settle, new_hold}
use Rattle.position.specs.Feed.{Input, line_input, fed_of, admitted, Accepted}
use Rattle.position_laws.proofs.OneRecord.{one_record}
use Rattle.position_laws.proofs.Reach.{admitted_got}
use Rattle.book.specs.Layout.{capacity, head_bytes, head_of, hold_bytes, hold_of, records_bytes, hold_place, record_place}
use Rattle.book.specs.Check.{counts_ok, header_ok}
use Rattle.book.specs.Calls.{sized, open_lots_in, settled, fed, feed_on, feed_do, feed_line_do}
use Rattle.book.proofs.Lengths.{head-length, hold_length, records-length, capacity_range}

-- ---- the bytes

module _ (c : ℕ) (bar : Bar) (g : Going) (b : List ℕ) (long : length b ≡ 96 + 64 * c) (room : u32 b 0 < c) (few : u32 b 4 + length g.wrote ≤ c) where
  abbrev hs : ℕ
  hs = u32 b 0

  abbrev last : ℕ
  last = hold_place (hs - 1)

  abbrev settled_bytes : List ℕ
  settled_bytes = hold_bytes (settle bar (hold_of (part b last 32)))

  abbrev added_bytes : List ℕ
  added_bytes = hold_bytes (new_hold bar g)

  abbrev recorded : List ℕ
  recorded = records_bytes g.wrote

  abbrev header : List ℕ
  header = head_bytes c (hs + 1) (u32 b 4 + length g.wrote) g.head

  -- the book after each patch but the last
  abbrev b0 : List ℕ
  b0 = settled bar b

  abbrev b1 : List ℕ
  b1 = patch b0 (hold_place hs) added_bytes

  abbrev b2 : List ℕ
  b2 = patch b1 (record_place c (u32 b 4)) recorded

  in0 : last + length settled_bytes ≤ length b
  in0 = omega (arith, hold_length (settle bar (hold_of (part b last 32))))

  size0 : length b0 ≡ length b
  unfolding settled
  size0 = go (eqb hs 0)
    where
      go : (t : Bool) → length (cond t b (patch b last settled_bytes)) ≡ length b
      go true = refl
      go false = length-patch b last settled_bytes in0

  in1 : hold_place hs + length added_bytes ≤ length b0
  in1 = omega (arith, hold_length (new_hold bar g), size0)

  size1 : length b1 ≡ length b
  size1 = length-patch b0 (hold_place hs) added_bytes in1 ∙ size0

  in2 : record_place c (u32 b 4) + length recorded ≤ length b1
  in2 = omega (arith, records-length g.wrote, size1)

  size2 : length b2 ≡ length b
  size2 = length-patch b1 (record_place c (u32 b 4)) recorded in2 ∙ size1

  in3 : 0 + length header ≤ length b2
  in3 = omega (arith, head-length c (hs + 1) (u32 b 4 + length g.wrote) g.head, size2)

  pub fed-size : length (fed c bar g b) ≡ length b
  unfolding fed
  fed-size = length-patch b2 0 header in3 ∙ size2

  -- the last hold, settled
  pub fed-last : 0 < hs → part (fed c bar g b) last 32 ≡ settled_bytes
  unfolding fed settled
  fed-last held =
      let n0 = hold_length (settle bar (hold_of (part b last 32))) in
      let is : b0 ≡ patch b last settled_bytes = rw (ne_eqb hs 0 (λ e. omega arith)) in
      part-after b2 0 header in3 last 32 (omega (arith, head-length c (hs + 1) (u32 b 4 + length g.wrote) g.head))
      ∙ part-before b1 (record_place c (u32 b 4)) recorded in2 last 32 (omega arith)
      ∙ part-before b0 (hold_place hs) added_bytes in1 last 32 (omega arith)
      ∙ ap (λ (l : List ℕ). part l last 32) is
      ∙ subst (λ (n : ℕ). part (patch b last settled_bytes) last n ≡ settled_bytes) n0 (part_same b last settled_bytes in0)

-- ---- an accepted feed

-- what it read, and the book that it left
pub record Took (b : List ℕ) (i : Input) (a : Accepted (List ℕ)) : Type 0 where
  pub c : ℕ
  pub got : Fed
  pub g : Going
  pub long : length b ≡ 96 + 64 * c
  pub room : u32 b 0 < c
  pub few : u32 b 4 + length g.wrote ≤ c
  pub read : fed_of i ≡ Got got
  pub after : fed c got.bar g b ≡ a.after

sized_some : (t b : List ℕ) (c : ℕ) → sized t b ≡ Got c → capacity b ≡ Some c
sized_some t b c e = given_got 8 (capacity b) c (must_got 8 (eqb (length t) table_length) (λ _. given 8 (capacity b)) c e).1

both : (t u : Bool) → (t && u) ≡ true → t ≡ true
both true u e = refl
both false u e = e

records-first : (c : ℕ) (b : List ℕ) → header_ok c b ≡ true → u32 b 4 ≤ u32 b 0
unfolding header_ok counts_ok
records-first c b e = leb-true (u32 b 4) (u32 b 0) (fact _ (both (counts_ok c b) _ e) 4)

-- a line's feed is the feed of the numbers that it says
pub line_feed : (t b line signals : List ℕ) (i : Input) → line_input line signals ≡ Got i → feed_line_do t b line signals ≡ feed_do t b i
unfolding feed_line_do feed_do
line_feed t b line signals i e = ap (feed_on t b) e

pub took : (t b : List ℕ) (i : Input) (a : Accepted (List ℕ)) → feed_do t b i ≡ Got a → Took b i a
unfolding feed_do feed_on
took t b i a e =
    let size = got_from (sized t b) _ a e in
    let c = size.0 in
    let means = got_from (read_table t) _ a size.2 in
    let header = must_got 10 (header_ok c b) _ a means.2 in
    let bar = got_from (admitted c (u32 b 0) (head_of b).end i) _ a header.1 in
    let f = bar.0 in
    let admitted = admitted_got c (u32 b 0) (head_of b).end i f bar.1 in
    let space = admitted.2 in
    let g = step_head means.0 f.bar f.signals (open_lots_in b) (head_of b) in
    let one = one_record means.0 f.bar f.signals (open_lots_in b) (head_of b) in
    let less = records-first c b header.0 in
    record {
      c = c;
      got = f;
      g = g;
      long = (capacity_range b c (sized_some t b c size.1)).0;
      room = space;
      few = omega arith;
      read = admitted.0;
      after = ap (λ (x : Accepted (List ℕ)). x.after) (got_same _ a bar.2);
    }
