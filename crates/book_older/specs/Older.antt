-- What a book was before lots: two zeros stood in a hold where its lots are now, and a record's event index had four bytes. The header was what it is.
-- Assumes nothing.
use Rattle.std.specs.Prelude.{ℕ, ◌-◌, Bool, true, cond, ◌&&◌, ◌||◌, List, [], ◌∷◌, map, ◌≡◌, leb, ltb, eqb}
use Rattle.std.specs.Float.Ieee.Scale.{finite}
use Rattle.le.specs.Le.{part}
use Rattle.le.specs.Field.{u8, u32, f64}
use Rattle.text.specs.Text.{same}
use Rattle.text.specs.Conditions.{all_of, every}
use Rattle.bar.specs.Bar.{last_id, time_ok}
use Rattle.position.specs.State.{fresh_head, trades}
use Rattle.position.specs.Step.{held_lots}
use Rattle.position.specs.declared.Record.{Record}
use Rattle.position.specs.declared.Hold.{Hold}
use Rattle.book.specs.Layout.{head_bytes, time_at, pos_at, yield_at, description_at, hold_place, hold_slots, record_slots, holds_of, records_of}
use Rattle.book.specs.Check.{zeros, stored_yield_ok, description_ok, counts_ok, open_ok, reference_ok, header_ok, rising, full_ok}

-- ---- the checks of then

-- "two zeros"
unfoldable pub hold_was : List ℕ → Bool
hold_was b = all_of (time_ok (time_at b 0 8) ∷ leb (u8 b 12) 2 ∷ stored_yield_ok b (u8 b 13) ∷ zeros b 14 2 ∷ finite (f64 b 16) ∷ [])

-- "u32 event index"
unfoldable pub record_was : ℕ → List ℕ → Bool
record_was n b =
    all_of
    (time_ok (time_at b 0 8)
    ∷ leb (u32 b 12) last_id
    ∷ finite (f64 b 16)
    ∷ trades (u8 b 24)
    ∷ leb (u8 b 25) 2
    ∷ description_ok n (u8 b 26) (u32 b 28)
    ∷ eqb (u8 b 27) 0
    ∷ [])

unfoldable pub last_was : List ℕ → List ℕ → Bool
last_was b o = all_of (hold_was o ∷ same (part o 0 12) (part b 32 12) ∷ eqb (u8 o 12) (u8 b 24) ∷ eqb (u8 o 13) 0 ∷ [])

unfoldable pub used_was : List ℕ → Bool
used_was b =
    all_of
    (leb (u8 b 24) 2
    ∷ leb (u8 b 25) 1
    ∷ zeros b 30 2
    ∷ time_ok (time_at b 32 40)
    ∷ open_ok b (u8 b 26) 48 44
    ∷ open_ok b (u8 b 27) 56 64
    ∷ reference_ok b (u8 b 28)
    ∷ last_was b (part b (hold_place (u32 b 0 - 1)) 32)
    ∷ [])

unfoldable pub header_was : ℕ → List ℕ → Bool
header_was c b = counts_ok c b && cond (eqb (u32 b 0) 0) (same (part b 0 96) (head_bytes c 0 0 fresh_head)) (used_was b)

unfoldable pub full_was : ℕ → ℕ → List ℕ → Bool
full_was n c b =
    all_of
    (header_was c b
    ∷ (eqb (u8 b 28) 0 || ltb (u32 b 84) n)
    ∷ every hold_was (hold_slots b)
    ∷ rising (hold_slots b)
    ∷ every (record_was n) (record_slots c b)
    ∷ rising (record_slots c b)
    ∷ [])

-- ---- the meaning of then, with one lot

unfoldable pub hold_meant : List ℕ → Hold
hold_meant b =
    record { time = time_at b 0 8; pos = pos_at (u8 b 12); price = f64 b 16; n1b = yield_at (u8 b 13) (f64 b 24); lots = held_lots (pos_at (u8 b 12)) 1 }

unfoldable pub record_meant : List ℕ → Record
record_meant b =
    record {
      bar = record { id = u32 b 12; time = time_at b 0 8; price = f64 b 16 };
      operate = u8 b 24;
      pos = pos_at (u8 b 25);
      description = description_at (u8 b 26) (u32 b 28);
      lots = 1;
    }

-- ---- "so saved books still load": with n events in the table, such a book passes both checks, and its lists are those that it had

pub record Kept (n c : ℕ) (b : List ℕ) : Type 0 where
  pub header : header_ok c b ≡ true
  pub full : full_ok n c b ≡ true
  pub holds : holds_of b ≡ map hold_meant (hold_slots b)
  pub records : records_of c b ≡ map record_meant (record_slots c b)
