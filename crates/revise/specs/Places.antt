-- Where the lines and the entries of a list stand in its text: what the contracts of `revise_*` cite. Assumes nothing.
use Rattle.std.specs.Prelude.{ℕ, ◌+◌, ◌<◌, ◌≤◌, List, [], ◌∷◌, ◌≡◌, length, get_or}
use Rattle.std.proofs.Math.Seq.{slice}
use Rattle.text.specs.Answer.{Got}
use Rattle.bar.specs.Bar.{last_instant}
use Rattle.revise.specs.Lines.{lines, bar_count, signal_lines}
use Rattle.revise.specs.Entries.{Entry, entry, entries, read_entries}
use Rattle.revise.specs.Chosen.{instant_of}

-- the lines of s from a place on
abbrev pub lines_in : List ℕ → ℕ → List (List ℕ)
lines_in s i = lines (slice i (length s) s)

-- the line of s that starts at `at` ends before r
pub record LineEnd (s : List ℕ) (at r : ℕ) : Type 0 where
  pub low : at < r
  pub high : r ≤ length s
  pub is : lines_in s at ≡ slice at r s ∷ lines_in s r

-- the S lines of s that stand first from `from` on end before r
pub record SignalsEnd (s : List ℕ) (from r : ℕ) : Type 0 where
  pub low : from ≤ r
  pub high : r ≤ length s
  pub lines : signal_lines 0 (lines_in s from) ≡ slice from r s
  pub rest : entries (lines_in s from) ≡ entries (lines_in s r)
  pub bars : bar_count (lines_in s from) ≡ bar_count (lines_in s r)
  pub stop : signal_lines 0 (lines_in s r) ≡ []

-- the entry e stands in p..z of s
pub record EntryAt (s : List ℕ) (p z : ℕ) (e : Entry) : Type 0 where
  pub end : ℕ
  pub line : LineEnd s p end
  pub signals : SignalsEnd s end z
  pub is : entry (slice p end s) (lines_in s end) ≡ Got e

-- ---- what is kept of each entry: where it starts, its instant and its revision

-- of entry number k: it ends where the next one starts
pub record KeptAt (s places instants revisions : List ℕ) (k : ℕ) (e : Entry) : Type 0 where
  pub at : EntryAt s (get_or places k 0) (get_or places (k + 1) 0) e
  pub instant : get_or instants k 0 ≡ instant_of e
  pub small : get_or instants k 0 ≤ last_instant
  pub revision : get_or revisions k 0 ≡ e.revision

-- of all entries, from number k on
abbrev pub KeptFrom : List ℕ → List ℕ → List ℕ → List ℕ → ℕ → List Entry → Type 0
KeptFrom s places instants revisions k [] = Unit {0}
KeptFrom s places instants revisions k (e ∷ es) = KeptAt s places instants revisions k e × KeptFrom s places instants revisions (k + 1) es

-- all n entries of s were read, and are kept
pub record Kept (s places instants revisions : List ℕ) (n : ℕ) : Type 0 where
  pub es : List Entry
  pub read : read_entries s ≡ Got es
  pub count : length es ≡ n
  pub each : KeptFrom s places instants revisions 0 es
  pub places-room : n < length places
  pub instants_room : n ≤ length instants
  pub revisions_room : n ≤ length revisions

-- the entries cs are those of these numbers, below n
abbrev pub PickedAt : List ℕ → List ℕ → List ℕ → List ℕ → ℕ → List ℕ → List Entry → Type 0
PickedAt s places instants revisions n [] [] = Unit {0}
PickedAt s places instants revisions n [] (c ∷ cs) = ⊥
PickedAt s places instants revisions n (k ∷ ks) [] = ⊥
PickedAt s places instants revisions n (k ∷ ks) (c ∷ cs) = (k < n) × KeptAt s places instants revisions k c × PickedAt s places instants revisions n ks cs
