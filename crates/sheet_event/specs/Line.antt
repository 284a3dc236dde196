-- What the reading of an event's line means, for the contracts of its functions. Assumes nothing.
use Rattle.sheet.specs.declared.SheetError.{SheetError}
use Rattle.std.specs.Prelude.{ℕ, suc, ◌+◌, ◌≤◌, ◌≡◌, true, List, [], ◌∷◌, length, Result, Ok, Err}
use Rattle.std.proofs.Math.Seq.{slice}
use Rattle.text.specs.Answer.{Answer, Refused, Got}
use Rattle.sheet.specs.Sheet.{lots_limit, exit_in}
use Rattle.sheet.specs.Read.{event_fields, event_line}
use Rattle.sheet.specs.Places.{fields_of, behind, sheet_at, SheetOk, SheetIs, sheet_refusal}
use Rattle.sheet.specs.declared.SheetAt.{SheetAt}
use Rattle.sheet_numbers.specs.Counted.{in_place}
use Rattle.sheet_event.specs.declared.EventKind.{EventKind}
use Rattle.sheet_event.specs.declared.EventKind.TheVariants.{Opening, Exit}

-- ---- the kind

-- the number that is kept
abbrev pub kind_number : EventKind → ℕ
kind_number Opening = 0
kind_number Exit = 1

-- ---- the lots

abbrev pub lots_read : Result ℕ SheetError → Answer ℕ
lots_read (Ok n) = Got n
lots_read (Err e) = Refused (sheet_refusal e)

abbrev pub LotsOk : Result ℕ SheetError → Type 0
LotsOk (Ok n) = (1 ≤ n) × (n ≤ lots_limit)
LotsOk (Err e) = Unit {0}

-- r is the answer x
pub record LotsIs (x : Answer ℕ) (r : Result ℕ SheetError) : Type 0 where
  pub is : lots_read r ≡ x
  pub ok : LotsOk r

-- ---- the line

-- its fields behind the tag are as many as it may have, the operate ends at b and the name at c; and it stands where it may
pub record Told (s es : List ℕ) (from b c to kind : ℕ) (a : SheetAt) : Type 0 where
  pub low : from ≤ b
  pub middle : b + 1 ≤ c
  pub high : c ≤ to
  pub within : to ≤ length s
  pub fields : fields_of s from to ≡ slice from b s ∷ slice (b + 1) c s ∷ behind s c to
  pub count : event_fields (exit_in kind) (suc (length (fields_of s from to))) ≡ true
  pub place : in_place es a.events kind ≡ true

-- The sheet so far is `a`, with es and cs; r is what it says with one line more, and es' are its events' numbers then: an event line, whose
-- fields behind the tag are from..to, whatever the clauses are.
abbrev pub EventLineAs : List ℕ → ℕ → ℕ → ℕ → SheetAt → List ℕ → List ℕ → Result SheetAt SheetError → Type 0
EventLineAs s from to kind a es es' r =
    (cs : List ℕ) → SheetOk s es cs a → SheetIs s es' cs (event_line (exit_in kind) (sheet_at s es cs a) ([] ∷ fields_of s from to)) r
