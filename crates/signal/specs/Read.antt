-- What the code's answers mean: the texts at the places that they hold. Assumes nothing.
use Rattle.signal.specs.declared.SignalAloneError.{SignalAloneError}
use Rattle.utf8_text.specs.Read.{alone_refusal}
use Rattle.signal.specs.declared.SignalError.{SignalError}
use Rattle.signal.specs.declared.SignalError.TheVariants.{NotSeven, BadScore}
use Rattle.std.specs.Prelude.{ℕ, ◌+◌, ◌-◌, ◌≤◌, ◌<◌, ◌≡◌, Bool, not, cond, ◌||◌, List, [], ◌∷◌, length, Option, None, Result, Ok, Err, Some}
use Rattle.std.proofs.Math.Seq.{slice}
use Rattle.text.specs.Answer.{Answer, Refused, Got}
use Rattle.text.specs.Text.{same, split, underscore}
use Rattle.text.specs.Read.{Put}
use Rattle.signal.specs.Signal.{Signal, key_of, wildcard, score_limit, signal_of, signal_alone}
use Rattle.signal.specs.Value.{Value, valued, value_of}
use Rattle.signal.specs.declared.Three.{Three}
use Rattle.signal.specs.declared.SignalAt.{SignalAt}
use Rattle.signal.specs.declared.ValueAt.{ValueAt}
use Rattle.signal.specs.declared.KeyEnd.{KeyEnd}

-- ---- parts

-- the parts of s from a place on
abbrev pub parts_from : List ℕ → ℕ → List (List ℕ)
parts_from s from = split underscore (slice from (length s) s)

-- an underscore at a stands behind the part of s that starts at `from`, and more parts behind it
pub record EndsAt (s : List ℕ) (from a : ℕ) : Type 0 where
  pub order : from ≤ a
  pub within : a < length s
  pub parts : parts_from s from ≡ slice from a s ∷ parts_from s (a + 1)

-- the underscore behind the part of s that starts at `from`, or none behind the last part
abbrev pub PartEnd : List ℕ → ℕ → Option ℕ → Type 0
PartEnd s from (Some a) = EndsAt s from a
PartEnd s from None = parts_from s from ≡ slice from (length s) s ∷ []

-- three parts of s follow `from`, the underscores behind them at a, b and c
pub record Cuts (s : List ℕ) (from a b c : ℕ) : Type 0 where
  pub first : from ≤ a
  pub second : a < b
  pub third : b < c
  pub within : c < length s
  pub parts : parts_from s from ≡ slice from a s ∷ slice (a + 1) b s ∷ slice (b + 1) c s ∷ parts_from s (c + 1)

abbrev pub ThreeFrom : List ℕ → ℕ → Option Three → Type 0
ThreeFrom s from (Some t) = Cuts s from t.first t.second t.third
ThreeFrom s from None = length (parts_from s from) ≤ 3

-- ---- signals

-- the signal whose parts end before the places
abbrev pub signal_in : List ℕ → SignalAt → Signal
signal_in s a = record {
  key = key_of (slice 0 a.k1 s) (slice (a.k1 + 1) a.k2 s) (slice (a.k2 + 1) a.k3 s);
  v1 = slice (a.k3 + 1) a.v1 s;
  v2 = slice (a.v1 + 1) a.v2 s;
  v3 = slice (a.v2 + 1) a.v3 s;
  score = a.score;
}

-- the places follow each other within the text, and the score is in its range
pub record SignalOk (s : List ℕ) (a : SignalAt) : Type 0 where
  pub k1-k2 : a.k1 < a.k2
  pub k2-k3 : a.k2 < a.k3
  pub k3-v1 : a.k3 < a.v1
  pub v1-v2 : a.v1 < a.v2
  pub v2-v3 : a.v2 < a.v3
  pub within : a.v3 < length s
  pub low : a.score ≤ score_limit

-- the number and the signal of each answer
abbrev pub signal_refusal : SignalError → ℕ
signal_refusal NotSeven = 5
signal_refusal BadScore = 6

abbrev pub read_of : List ℕ → Result SignalAt SignalError → Answer Signal
read_of s (Ok a) = Got (signal_in s a)
read_of s (Err e) = Refused (signal_refusal e)

abbrev pub ReadOk : List ℕ → Result SignalAt SignalError → Type 0
ReadOk s (Ok a) = SignalOk s a
ReadOk s (Err e) = Unit {0}

-- r is what s says
pub record ReadAs (s : List ℕ) (r : Result SignalAt SignalError) : Type 0 where
  pub is : read_of s r ≡ signal_of s
  pub ok : ReadOk s r

-- the same of a text that stands alone
abbrev pub signal_alone_refusal : SignalAloneError → ℕ
signal_alone_refusal (SignalAloneError.Text e) = alone_refusal e
signal_alone_refusal (SignalAloneError.Signal e) = signal_refusal e

abbrev pub alone_of : List ℕ → Result SignalAt SignalAloneError → Answer Signal
alone_of s (Ok a) = Got (signal_in s a)
alone_of s (Err e) = Refused (signal_alone_refusal e)

abbrev pub AloneOk : List ℕ → Result SignalAt SignalAloneError → Type 0
AloneOk s (Ok a) = SignalOk s a
AloneOk s (Err e) = Unit {0}

pub record AloneAs (s : List ℕ) (r : Result SignalAt SignalAloneError) : Type 0 where
  pub is : alone_of s r ≡ signal_alone s
  pub ok : AloneOk s r

-- ---- keys

-- what a part adds to a key, which has some part already or none
abbrev pub key_part : Bool → List ℕ → List ℕ
key_part some p = cond (same p wildcard) [] (cond some (underscore ∷ p) p)

-- s in from..to was added to a key, whose end was e and now is r
pub record KeyPut (before after : List ℕ) (e : KeyEnd) (s : List ℕ) (from to : ℕ) (r : KeyEnd) : Type 0 where
  pub put : Put before after e.at (key_part e.some (slice from to s)) r.at
  pub more : r.some ≡ (e.some || not (same (slice from to s) wildcard))
  pub near : r.at ≤ e.at + (to - from) + 1

-- the key of a signal in s was written at `at`, and r is the place behind it
pub record KeyAt (before after : List ℕ) (at : ℕ) (s : List ℕ) (a : SignalAt) (r : ℕ) : Type 0 where
  pub put : Put before after at (signal_in s a).key r
  pub near : r ≤ at + a.k3 + 1

-- ---- values

-- the value whose parts end before the places
abbrev pub value_in : List ℕ → Option ValueAt → Option Value
value_in s (Some a) = valued (slice 0 a.v1 s) (slice (a.v1 + 1) a.v2 s) (slice (a.v2 + 1) a.v3 s) (Some a.score)
value_in s None = None

pub record ValueOk (s : List ℕ) (a : ValueAt) : Type 0 where
  pub v1-v2 : a.v1 < a.v2
  pub v2-v3 : a.v2 < a.v3
  pub within : a.v3 < length s

abbrev pub PlacesOk : List ℕ → Option ValueAt → Type 0
PlacesOk s (Some a) = ValueOk s a
PlacesOk s None = Unit {0}

-- r is what s says
pub record ValueAs (s : List ℕ) (r : Option ValueAt) : Type 0 where
  pub is : value_in s r ≡ value_of s
  pub ok : PlacesOk s r
