-- What the code's answers say of a bar's line with its revision. Assumes nothing.
use Rattle.revise_first.specs.declared.FirstError.{FirstError}
use Rattle.revise_first.specs.declared.FirstError.TheVariants.{Malformed, BadNumber, BadBar}
use Rattle.std.specs.Prelude.{ℕ, ◌+◌, ◌<◌, ◌≤◌, true, List, [], ◌∷◌, ◌++◌, ◌≡◌, length, get_or, take, Result, Ok, Err, Option, Some, None}
use Rattle.std.specs.Float.Ieee.Scale.{finite}
use Rattle.std.proofs.Math.Seq.{slice}
use Rattle.text.specs.Answer.{Answer, Refused, Got, ◌>>=◌}
use Rattle.text.specs.Literal.{bytes}
use Rattle.text.specs.Number.{unsigned}
use Rattle.text.specs.Text.{pipe, split}
use Rattle.bar.specs.Bar.{time_ok, bar_of}
use Rattle.bar.specs.declared.BarNumbers.{BarNumbers}
use Rattle.position.specs.Feed.{Input}
use Rattle.position.specs.Run.{bar_line}
use Rattle.revise.specs.Entries.{last_revision, Revision, first_line}
use Rattle.revise_first.specs.declared.Revised.{Revised}

-- the number of each refusal
abbrev pub first_refusal : FirstError → ℕ
first_refusal Malformed = 2
first_refusal BadNumber = 3
first_refusal BadBar = 11

-- the bar with its revision, or that number
abbrev pub first_of : Result Revised FirstError → Answer Revision
first_of (Ok r) = Got (record { bar = r.bar; number = r.revision })
first_of (Err e) = Refused (first_refusal e)

-- a bar's time and price are in range
abbrev pub FirstOk : Result Revised FirstError → Type 0
FirstOk (Ok r) = (time_ok r.bar.time ≡ true) × (finite r.bar.price ≡ true)
FirstOk (Err e) = Unit {0}

-- r is what the line l says
pub record FirstAs (l : List ℕ) (r : Result Revised FirstError) : Type 0 where
  pub is : first_of r ≡ first_line l
  pub ok : FirstOk r

-- ---- the steps

-- 11, of four numbers
unfoldable pub ranged_do : Input → ℕ → Answer Revision
ranged_do i r = bar_of i.id i.instant i.offset i.price >>= λ b. Got (record { bar = b; number = r })

pub record RangedAs (n : BarNumbers) (revision : ℕ) (r : Result Revised FirstError) : Type 0 where
  pub is : first_of r ≡ (bar_of n.id n.instant n.offset n.price >>= λ b. Got (record { bar = b; number = revision }))
  pub ok : FirstOk r

-- 3, then 11, of the five fields behind the tag
unfoldable pub fields_do : List (List ℕ) → Answer Revision
fields_do f = do
  i ← bar_line (bytes "B" ∷ take 4 f)
  r ← unsigned last_revision (get_or f 4 [])
  ranged_do i r

pub record FieldsAs (l : List ℕ) (r : Result Revised FirstError) : Type 0 where
  pub is : first_of r ≡ fields_do (split pipe l)
  pub ok : FirstOk r

-- the last `|` of s in from..to
pub record LastPipe (s : List ℕ) (from to r : ℕ) : Type 0 where
  pub low : from ≤ r
  pub high : r < to
  pub fields : split pipe (slice from to s) ≡ split pipe (slice from r s) ++ slice (r + 1) to s ∷ []

abbrev pub revision_of : Option ℕ → Answer ℕ
revision_of (Some v) = Got v
revision_of None = Refused 3

-- the revision that a field says
pub record RevisionAs (l : List ℕ) (r : Option ℕ) : Type 0 where
  pub is : revision_of r ≡ unsigned last_revision l
