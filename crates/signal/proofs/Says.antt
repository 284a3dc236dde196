-- What a signal and a value say, by the parts that were found. Assumes nothing.
use mathlib.Core.Path.{◌≡◌, ◌∙◌, refl, sym, ap}
use mathlib.Core.Logic.{◌≢◌}
use mathlib.Core.Bool.{Bool, true, false, cond}
use mathlib.Core.List.{List, [], ◌∷◌}
use Rattle.signal.specs.declared.SignalError.TheVariants.{NotSeven, BadScore}
use Rattle.std.specs.Prelude.{Option, None, Some, Ok, Err}
use Rattle.std.specs.Option.{ok_or}
use Prim.Native.Nat.{ℕ, ◌+◌, ◌≤◌}
use native.Mathlib.Omega.{arith}
use borrow.Author.Tests.{leb-true, ne_eqb}
use lib.Dec.{leb}
use lib.IntN.{ℤ, pos, negsuc}
use lib.ListN.{length}
use lib.Seq.{slice}
use Rattle.text.specs.Text.{split, underscore}
use Rattle.text.specs.Number.{i32_of}
use Rattle.signal.specs.Signal.{score, score_limit, signal_of}
use Rattle.signal.specs.Value.{value_of}
use Rattle.signal.specs.Read.{parts_from, Cuts, ReadAs, ValueAs}
use Rattle.signal.proofs.Parts.{parts_all}

-- ---- scores

pub score-low : (o : Option ℤ) {n : ℕ} → Some n ≡ score o → n ≤ score_limit
score-low None e = absurd (let z : ◌≡◌ {A = ℕ} 0 1 = cc in omega arith)
score-low (Some (pos m)) {n} e = go (leb m score_limit) refl e
  where
    go : (t : Bool) → leb m score_limit ≡ t → Some n ≡ cond t (Some m) None → n ≤ score_limit
    go true h k = let g : n ≡ m = cc in omega (arith, leb-true m score_limit h)
    go false h k = absurd (let z : ◌≡◌ {A = ℕ} 0 1 = cc in omega arith)
score-low (Some (negsuc m)) e = absurd (let z : ◌≡◌ {A = ℕ} 0 1 = cc in omega arith)

-- ---- a signal

-- what `ok_or` refuses was none
pub none_refused : {X E : Type 0} (o : Option X) (d e : E) → Err d ≡ ok_or o e → (o ≡ None) × (d ≡ e)
none_refused (Some x) d e h = absurd (let z : ◌≡◌ {A = ℕ} 0 1 = cc in omega arith)
none_refused None d e h = (refl, cc)

short : (s : List ℕ) → length (split underscore s) ≢ 7 → ReadAs s (Err NotSeven)
unfolding signal_of
short s h = record { is = rw (ne_eqb _ _ h); ok = tt }

pub few-first : (s : List ℕ) → length (parts_from s 0) ≤ 3 → ReadAs s (Err NotSeven)
few-first s h = short s (omega (arith, ap length (parts_all s)))

module _ {s : List ℕ} {k1 k2 k3 : ℕ} (a : Cuts s 0 k1 k2 k3) where
  pub few-second : length (parts_from s (k3 + 1)) ≤ 3 → ReadAs s (Err NotSeven)
  few-second h = short s (omega (arith, ap length (parts_all s), ap length a.parts))

  module _ {v1 v2 v3 : ℕ} (b : Cuts s (k3 + 1) v1 v2 v3) where
    six : split underscore s ≡ slice 0 k1 s ∷ slice (k1 + 1) k2 s ∷ slice (k2 + 1) k3 s ∷ slice (k3 + 1) v1 s ∷ slice (v1 + 1) v2 s ∷ slice (v2 + 1) v3 s ∷ parts_from s (v3 + 1)
    six = sym (parts_all s) ∙ a.parts ∙ ap (λ ps. slice 0 k1 s ∷ slice (k1 + 1) k2 s ∷ slice (k2 + 1) k3 s ∷ ps) b.parts

    pub many : 2 ≤ length (parts_from s (v3 + 1)) → ReadAs s (Err NotSeven)
    many h = short s (omega (arith, ap length six))

    module _ (l : parts_from s (v3 + 1) ≡ slice (v3 + 1) (length s) s ∷ []) where
      seven : split underscore s ≡ slice 0 k1 s ∷ slice (k1 + 1) k2 s ∷ slice (k2 + 1) k3 s ∷ slice (k3 + 1) v1 s ∷ slice (v1 + 1) v2 s ∷ slice (v2 + 1) v3 s ∷ slice (v3 + 1) (length s) s ∷ []
      seven = six ∙ rw l

      pub bad_score : None ≡ score (i32_of (slice (v3 + 1) (length s) s)) → ReadAs s (Err BadScore)
      unfolding signal_of
      bad_score e = record { is = rw (seven, ← e); ok = tt }

      pub signal-is : {n : ℕ} → Some n ≡ score (i32_of (slice (v3 + 1) (length s) s)) → ReadAs s (Ok (record { k1 = k1; k2 = k2; k3 = k3; v1 = v1; v2 = v2; v3 = v3; score = n }))
      unfolding signal_of
      signal-is {n} e = record {
        is = rw (seven, ← e);
        ok = record {
          k1-k2 = a.second;
          k2-k3 = a.third;
          k3-v1 = omega (arith, b.first);
          v1-v2 = b.second;
          v2-v3 = b.third;
          within = b.within;
          low = score-low (i32_of (slice (v3 + 1) (length s) s)) e;
        };
      }

-- ---- a value

absent : (s : List ℕ) → length (split underscore s) ≢ 4 → ValueAs s None
unfolding value_of
absent s h = record { is = rw (ne_eqb _ _ h); ok = tt }

pub value-few : (s : List ℕ) → length (parts_from s 0) ≤ 3 → ValueAs s None
value-few s h = absent s (omega (arith, ap length (parts_all s)))

module _ {s : List ℕ} {v1 v2 v3 : ℕ} (a : Cuts s 0 v1 v2 v3) where
  pub value-many : 2 ≤ length (parts_from s (v3 + 1)) → ValueAs s None
  value-many h = absent s (omega (arith, ap length (parts_all s), ap length a.parts))

  module _ (l : parts_from s (v3 + 1) ≡ slice (v3 + 1) (length s) s ∷ []) where
    four : split underscore s ≡ slice 0 v1 s ∷ slice (v1 + 1) v2 s ∷ slice (v2 + 1) v3 s ∷ slice (v3 + 1) (length s) s ∷ []
    four = sym (parts_all s) ∙ a.parts ∙ rw l

    pub value_none : None ≡ i32_of (slice (v3 + 1) (length s) s) → ValueAs s None
    unfolding value_of
    value_none e = record { is = rw (four, ← e); ok = tt }

    pub value-is : {n : ℤ} → Some n ≡ i32_of (slice (v3 + 1) (length s) s) → ValueAs s (Some (record { v1 = v1; v2 = v2; v3 = v3; score = n }))
    unfolding value_of
    value-is e = record { is = rw (four, ← e); ok = record { v1-v2 = a.second; v2-v3 = a.third; within = a.within } }
