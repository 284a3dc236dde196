-- What the steps of the finding answer: a fingerprint by words, lines with another fingerprint, the line of a key. Assumes nothing.
use Rattle.std.specs.Prelude.{ℕ, ◌+◌, ◌≤◌, ◌<◌, ◌≡◌, ◌≢◌, true, false, List, get_or, None, Option, Some}
use Rattle.std.proofs.Math.Seq.{slice}
use Rattle.text.specs.Read.{Part}
use Rattle.signal.specs.Value.{value_of}
use Rattle.event.specs.Signals.{has_key}
use Rattle.event.specs.Match.{value_at}
use Rattle.event_find.specs.Places.{print_from, line_at, lines_at}

-- ---- a fingerprint

-- h is the fingerprint of s in from..to up to i
pub record Printing (s : List ℕ) (from to h i : ℕ) : Type 0 where
  pub left : Part s i to
  pub still : print_from 0 (slice from to s) ≡ print_from h (slice i to s)

-- where no word is left
pub record PrintingEnd (s : List ℕ) (from to h i : ℕ) : Type 0 where
  pub printing : Printing s from to h i
  pub short : to < i + 4

-- ---- lines

-- the lines from..to have other fingerprints than h
pub record Others (prints : List ℕ) (h from to : ℕ) : Type 0 where
  pub other : (j : ℕ) → from ≤ j → j < to → get_or prints j 0 ≢ h

-- ---- the line of a key

-- line i is the first of n whose key is k
pub record FoundAt (k s starts mids : List ℕ) (n i : ℕ) : Type 0 where
  pub below : i < n
  pub has : has_key k (lines_at s starts mids n) ≡ true
  pub value : value_at k (lines_at s starts mids n) ≡ value_of (line_at s starts mids i).value

-- no line's key is k
pub record Missing (k s starts mids : List ℕ) (n : ℕ) : Type 0 where
  pub has : has_key k (lines_at s starts mids n) ≡ false
  pub value : value_at k (lines_at s starts mids n) ≡ None

abbrev pub FoundAs : List ℕ → List ℕ → List ℕ → List ℕ → ℕ → Option ℕ → Type 0
FoundAs k s starts mids n (Some i) = FoundAt k s starts mids n i
FoundAs k s starts mids n None = Missing k s starts mids n
