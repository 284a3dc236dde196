-- The first line of an entry that stands at a place: it is not refused, and its bar is the entry's. Assumes nothing.
use Rattle.revise_first.specs.declared.FirstError.{FirstError}
use Rattle.std.specs.Prelude.{Result, Ok}
use Prim.Native.Nat.{ℕ}
use mathlib.Core.Bool.{false≢true}
use mathlib.Core.List.{List}
use mathlib.Core.Path.{◌≡◌, sym, ap, ◌∙◌}
use lib.Seq.{slice}
use Rattle.text.specs.Answer.{Refused}
use Rattle.text.proofs.Answers.{got_same}
use Rattle.revise.specs.Entries.{Revision, Entry, first_line}
use Rattle.revise.specs.Places.{lines_in, LineEnd, EntryAt}
use Rattle.revise.proofs.Places.{entry-there, Said, said}
use Rattle.revise_first.specs.First.{first_of, FirstAs}
use Rattle.revise_first.specs.declared.Revised.{Revised}

module _ {s : List ℕ} {p z : ℕ} {e : Entry} (w : EntryAt s p z e) {end : ℕ} (l : LineEnd s p end) where
  pub parts : Said (slice p end s) (lines_in s end) e
  parts = said (slice p end s) (lines_in s end) e (entry-there w l)

  pub first-bar : {r : Revised} → FirstAs (slice p end s) (Ok r) → r.bar ≡ e.fed.bar
  first-bar f = ap (λ (x : Revision). x.bar) (got_same _ parts.first (f.is ∙ parts.is)) ∙ parts.bar

  pub first-stands : {n : ℕ} {q : (Result Revised FirstError)} → FirstAs (slice p end s) q → first_of q ≡ Refused n → ⊥
  first-stands f h = false≢true (let z = sym h ∙ f.is ∙ parts.is in cc)
