-- A record's part of the sequence, and the two parts joined. Assumes nothing.
use Prim.Native.Nat.{ℕ, ◌+◌, ◌*◌, ◌≤◌}
use native.Mathlib.Omega.{arith}
use mathlib.Core.Path.{◌≡◌, refl}
use mathlib.Core.Bool.{true, false, or-true}
use mathlib.Core.List.{List, [], ◌∷◌, ◌++◌}
use lib.Dec.{eqb}
use lib.ListN.{length, length-append}
use lib.Seq.{slice}
use Rattle.text.specs.Literal.{bytes, encoded}
use Rattle.text.specs.Text.{has}
use Rattle.text.specs.Number.{decimal_of}
use Rattle.text.specs.Read.{Put}
use Rattle.text.proofs.Put.{put-put, put_whole}
use Rattle.stop.specs.Stop.{stop_text}
use Rattle.stop.proofs.Writing.{text-whole}
use Rattle.sheet.specs.Sheet.{Sheet, name_limit}
use Rattle.position.specs.Rows.{event_name, close_name, event_tag, sequence_part, sequence_of}
use Rattle.position.specs.declared.Description.TheVariants.{Event, Stop, Timeout}
use Rattle.position.specs.declared.Record.{Record}
use Rattle.row_sequence.specs.Part.{PartPut}
use Rattle.row_sequence.proofs.Tags.{tag_length}

-- the same text by another name
pub part_as : {a b t u : List ℕ} {at r : ℕ} → t ≡ u → PartPut a b at t r → PartPut a b at u r
part_as e p = rw (← e) p

-- ---- `put_event_desc`

module _ (d : List ℕ) {a b : List ℕ} {at p : ℕ} (h : length d ≤ name_limit) (w : Put a b at (slice 0 (length d) d) p) where
  whole : Put a b at d p
  whole = put_whole d w

  pub name-end : p ≤ at + name_limit
  name-end = omega (arith, whole.end)

  pub desc_kept : has 64 d ≡ true → PartPut a b at (sequence_part d) p
  unfolding sequence_part
  desc_kept e = rw e (record { put = whole; short = omega arith })

  pub desc_tagged : {c m : List ℕ} {q r : ℕ} → has 64 d ≡ false → Put b c p (64 ∷ []) q → Put c m q (event_tag d) r → PartPut a m at (sequence_part d) r
  unfolding sequence_part bytes encoded
  desc_tagged e x y = rw e (record {
    put = put-put (put-put whole x) y;
    short = rw (length-append, length-append) (omega (arith, tag_length d));
  })

-- ---- `put_description`

-- a text with `@` stays as it is
has-at : (x y z : List ℕ) → has 64 (x ++ bytes "@" ++ y ++ z) ≡ true
unfolding has bytes encoded
has-at [] y z = refl
has-at (b ∷ x) y z = rw (has-at x y z) (or-true (eqb b 64))

kept : (x y z : List ℕ) → x ++ bytes "@" ++ y ++ z ≡ sequence_part (x ++ bytes "@" ++ y ++ z)
unfolding sequence_part
kept x y z = rw (has-at x y z)

module _ (s : Sheet) (r : Record) where
  pub event_part : {i : ℕ} {name : List ℕ} → r.description ≡ Event i → name ≡ event_name s i → sequence_part name ≡ sequence_of s r
  unfolding sequence_of
  event_part e n = rw (e, n)

  pub stop-part : {v : ℕ} → r.description ≡ Stop → v ≡ s.stop → close_name r.operate ++ bytes "@" ++ stop_text v ++ bytes "BP止损" ≡ sequence_of s r
  unfolding sequence_of
  stop-part e n = rw (e, n) (kept (close_name r.operate) (stop_text s.stop) (bytes "BP止损"))

  -- a timeout is whole
  pub timeout-part : {v : ℕ} → r.description ≡ Timeout → v ≡ s.timeout
      → close_name r.operate ++ bytes "@" ++ stop_text (100 * v) ++ bytes "K超时" ≡ sequence_of s r
  unfolding sequence_of
  timeout-part e n = rw (e, n, text-whole s.timeout) (kept (close_name r.operate) (decimal_of s.timeout) (bytes "K超时"))

-- ---- `put_sequence`

pub joined : {a b c d x y : List ℕ} {at p q r : ℕ} → PartPut a b at x p → Put b c p (bytes " -> ") q → PartPut c d q y r → Put a d at (x ++ bytes " -> " ++ y) r
joined u v w = put-put (put-put u.put v) w.put
