-- What is claimed of a book that is that of the plain machine after some bars. Assumes nothing.
use Prim.Native.Nat.{ℕ, ◌≤◌}
use native.Mathlib.Omega.{arith}
use mathlib.Core.Bool.{true}
use mathlib.Core.List.{List, map}
use Rattle.std.specs.Prelude.{Some}
use mathlib.Core.Path.{◌≡◌, refl, sym, ap, ◌∙◌, subst}
use lib.IntN.{ℤ}
use lib.ListN.{length, length-map}
use borrow.Author.Tests.{le-leb, eq-eqb}
use Rattle.text.specs.Answer.{Got, given}
use Rattle.sheet.specs.Sheet.{Sheet, name_limit}
use Rattle.table.specs.Layout.{table_length}
use Rattle.table.specs.Table.{read_table}
use Rattle.table.proofs.Facts.{table_length_lem}
use Rattle.position.specs.State.{State}
use Rattle.position.specs.Step.{Fed, plain}
use Rattle.position.specs.Rows.{pairs_of, hold_row, hold_rows}
use Rattle.position_laws.proofs.Sound.{Sound}
use Rattle.position_laws.proofs.Steps.{holds-count, records-few}
use Rattle.book.specs.Layout.{capacity, encode}
use Rattle.book.specs.Calls.{checked}
use Rattle.book.proofs.Feeds.{feed_is, line-is}
use Rattle.book.proofs.Stored.{bars-are, sized-is, passes, save_is, restore_is}
use Rattle.book.proofs.Parts.{holds-count as H-is, records-count as R-is}
use Rattle.book.proofs.Passes.{Room, holds-small, records-small}
use Rattle.book.proofs.Ready.{ready, holds_kept, records-kept}
use Rattle.row.specs.Calls.{row_buffer, row_at, pair_do, hold_do, event_name_do}
use Rattle.row_blocks.specs.Blocks.{hold_row_bytes, hold_row_length, pair_row_bytes, pair_row_limit, block_from, block_do, hold_block_do, pair_block_do, counts_do}
use Rattle.history.specs.Demand3.{Kept}
use Rattle.history.proofs.Invariant.{BookOf}
use Rattle.history.proofs.Numbers.{pairs_numbers, holds_numbers}
use Rattle.history.proofs.Sizes.{same-capacity}

module _ (table : List ℕ) (s : Sheet) (meant : read_table table ≡ Got s) where
  -- ---- the calls on the book of a state

  module _ (c : ℕ) (st : State) (sound : Sound s st) (room : Room s c st) where
    pub pair_is : (i : ℤ) (buffer : List ℕ) → row_buffer ≤ length buffer → pair_do table (encode c st) i buffer ≡ given 15 (row_at (pairs_of s st.records) i)
    unfolding pair_do checked
    pair_is i buffer h = rw (sized-is table s meant c st sound room, le-leb row_buffer (length buffer) h, meant, passes table s meant c st sound room, records-kept s c st sound room)

    pub hold_is : (i : ℤ) → hold_do table (encode c st) i ≡ given 15 (row_at (hold_rows st.holds) i)
    unfolding hold_do checked
    hold_is i = rw (sized-is table s meant c st sound room, meant, passes table s meant c st sound room, holds_kept s c st sound room)

    -- ---- blocks, counts and names

    pair_block-is : (i : ℤ) (out : List ℕ) → pair_row_limit ≤ length out
        → pair_block_do table (encode c st) i out ≡ block_from (map pair_row_bytes (pairs_of s st.records)) i (length out)
    unfolding block_do checked
    pair_block-is i out h = rw (sized-is table s meant c st sound room, le-leb pair_row_limit (length out) h, meant, passes table s meant c st sound room, records-kept s c st sound room)

    hold_block-is : (i : ℤ) (out : List ℕ) → hold_row_length ≤ length out
        → hold_block_do table (encode c st) i out ≡ block_from (map hold_row_bytes (hold_rows st.holds)) i (length out)
    unfolding block_do checked
    hold_block-is i out h = rw (sized-is table s meant c st sound room, le-leb hold_row_length (length out) h, meant, passes table s meant c st sound room, holds_kept s c st sound room)

    counts-are : counts_do table (encode c st) ≡ Got (record { holds = length (hold_rows st.holds); pairs = length (pairs_of s st.records) })
    unfolding counts_do checked
    counts-are = rw (sized-is table s meant c st sound room, meant, passes table s meant c st sound room, records-kept s c st sound room, holds_kept s c st sound room)

  name-is : (i : ℤ) (buffer : List ℕ) → name_limit ≤ length buffer → event_name_do table i buffer ≡ given 15 (row_at (map (λ e. e.name) s.events) i)
  unfolding event_name_do
  name-is i buffer h = rw (eq-eqb (length table) table_length (table_length_lem table s meant), le-leb name_limit (length buffer) h, meant)

  holds-many : (fs : List Fed) → length (hold_rows (plain s fs).holds) ≡ length fs
  unfolding hold_rows
  holds-many fs = length-map (plain s fs).holds hold_row ∙ holds-count s fs

  -- ---- all that is claimed

  encoded : (lent : List ℕ) (fs : List Fed) (c : ℕ) → Sound s (plain s fs) → Room s c (plain s fs) → length (encode c (plain s fs)) ≡ length lent
      → Kept table s lent fs (encode c (plain s fs))
  encoded lent fs c sound room long =
      let st = plain s fs in
      record {
        long = long;
        bars = c;
        sized = same-capacity lent (encode c st) (sym long) ∙ bars-are table s meant c st sound room;
        state = refl;
        holds = H-is c st (holds-small s c st sound room) ∙ holds-count s fs;
        records = R-is c st (records-small s c st sound room);
        few = records-few s fs;
        feeds = λ i. feed_is table s c st i (ready table s c st (table_length_lem table s meant) meant sound room);
        feed_lines = λ line signals. line-is table s c st line signals (ready table s c st (table_length_lem table s meant) meant sound room);
        saves = save_is table s meant c st sound room;
        restores = restore_is table s meant c st sound room;
        pairs_read = pair_is c st sound room;
        holds_read = hold_is c st sound room;
        pair_blocks = pair_block-is c st sound room;
        hold_blocks = hold_block-is c st sound room;
        counts = counts-are c st sound room ∙ ap (λ (n : ℕ). Got (record { holds = n; pairs = length (pairs_of s st.records) })) (holds-many fs);
        names = name-is;
        pair_numbers = pairs_numbers s st.records sound.records;
        hold_numbers = holds_numbers st.holds sound.holds;
      }

  pub kept : (lent : List ℕ) (fs : List Fed) (b : List ℕ) → BookOf s (plain s fs) b → length b ≡ length lent → Kept table s lent fs b
  kept lent fs b k long =
      subst (Kept table s lent fs) (sym k.state) (encoded lent fs k.bars k.sound k.room (ap (λ (x : List ℕ). length x) (sym k.state) ∙ long))
