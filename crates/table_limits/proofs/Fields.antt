-- What a text and each kind of field give: a name, a number, an operate, a signal. Assumes nothing.
use Prim.Native.Nat.{ℕ, suc, ◌+◌, ◌≤◌, ◌<◌}
use native.Mathlib.Omega.{arith}
use mathlib.Core.Bool.{Bool, true, false, cond, ◌||◌}
use mathlib.Core.List.{List, [], ◌∷◌}
use Rattle.std.specs.Prelude.{Option, None, Some}
use mathlib.Core.Path.{◌≡◌, refl, sym}
use borrow.Author.Tests.{leb-true, eqb-true}
use lib.Dec.{leb, eqb}
use lib.ListN.{length, get_or}
use Rattle.text.specs.Answer.{given}
use Rattle.text.specs.Conditions.{every}
use Rattle.text.specs.Number.{at_most, digits_to, unsigned, i32_of}
use Rattle.text.specs.Text.{same, split, underscore, point}
use Rattle.text.proofs.Refusals.{Gives, refuses, gives, then_with}
use Rattle.utf8.specs.Alone.{text_limit, text}
use Rattle.utf8.specs.Utf8.{utf8}
use Rattle.stop.specs.Stop.{hundredths_in, stop_in, hundredths_of}
use Rattle.operate.specs.Operate.{latin, chinese, code_from, operate_of}
use Rattle.signal.proofs.Keys.{key-length}
use Rattle.signal.specs.Signal.{Signal, key_of, score_limit, score, signal_of}
use Rattle.signal.proofs.Says.{score-low}
use Rattle.sheet.specs.Sheet.{Kind, Clause, name_limit, evening_limit, lots_ok}
use Rattle.sheet.specs.Read.{name, minutes_in, lots_behind}
use Rattle.table_words.specs.Words.{clean}
use Rattle.table_limits.specs.Fine.{value_ok, operate_limit, fine_clause, clause_weight}
use Rattle.text.proofs.Every.{every_three}
use Rattle.text.proofs.Joined.{lacks, total_next, split-length}
use Rattle.table_limits.proofs.Lines.{part-clean, part_lacks}
use Rattle.table_limits.proofs.Words.{value-ok, key-ok}
use Rattle.table_limits.proofs.Facts.{clause_sure}
use Rattle.table_limits.proofs.Given.{must_test, given_some, gives_also}

-- ---- the whole text

pub record Text (s : List ℕ) : Type 0 where
  pub short : length s ≤ text_limit
  pub right : utf8 s ≡ true

pub text_gives : (s : List ℕ) → Gives (λ _. Text s) (text s)
unfolding text
text_gives s =
    then_with (must_test 7 (leb (length s) text_limit) tt)
    (λ _ h. gives_also (must_test 1 (utf8 s) tt) (λ _ k. record { short = leb-true (length s) text_limit h; right = k }))

-- ---- names and numbers

-- n is the field s, and short
pub record Name (s n : List ℕ) : Type 0 where
  pub is : n ≡ s
  pub short : length n ≤ name_limit

pub name_gives : (s : List ℕ) → Gives (Name s) (name s)
name_gives s = then_with (must_test 7 (leb (length s) name_limit) tt) (λ _ h. gives (record { is = refl; short = leb-true (length s) name_limit h }))

-- a number within its limit
limit_gives : (hi : ℕ) (o : Option ℕ) → Gives (λ n. n ≤ hi) (given 3 (at_most hi o))
limit_gives hi None = refuses
limit_gives hi (Some v) = low (leb v hi) refl
  where
    low : (t : Bool) → leb v hi ≡ t → Gives (λ n. n ≤ hi) (given 3 (cond t (Some v) None))
    low true e = gives (leb-true v hi e)
    low false e = refuses

pub unsigned_gives : (hi : ℕ) (s : List ℕ) → Gives (λ n. n ≤ hi) (unsigned hi s)
unfolding unsigned
unsigned_gives hi s = limit_gives hi (digits_to 10 s)

pub stop_gives : (hi : ℕ) (s : List ℕ) → Gives (λ n. n ≤ hi) (hundredths_of hi s)
unfolding hundredths_of stop_in
stop_gives hi s = limit_gives hi (hundredths_in (split point s))

pub minutes_give : (fs : List (List ℕ)) → Gives (λ n. n ≤ evening_limit) (given 3 (minutes_in fs))
minutes_give [] = gives {x = 0} (omega arith)
minutes_give (field ∷ _) = limit_gives evening_limit (digits_to 10 field)

pub lots_give : (fs : List (List ℕ)) → Gives (λ n. lots_ok n ≡ true) (lots_behind fs)
lots_give [] = gives {x = 1} refl
lots_give (field ∷ _) = then_with (given_some 3 (digits_to 10 field) tt) (λ n _. then_with (must_test 18 (lots_ok n) tt) (λ _ k. gives k))

-- ---- operates

code_gives : (k : ℕ) (s : List ℕ) (ls cs : List (List ℕ)) → Gives (λ n. n < k + length ls) (given 4 (code_from k s ls cs))
unfolding code_from
code_gives k s [] cs = refuses
code_gives k s (l ∷ ls) [] = refuses
code_gives k s (l ∷ ls) (c ∷ cs) = go (same s l || same s c) (code_gives (suc k) s ls cs)
  where
    go : (t : Bool) → Gives (λ n. n < suc k + length ls) (given 4 (code_from (suc k) s ls cs))
        → Gives (λ n. n < k + suc (length ls)) (given 4 (cond t (Some k) (code_from (suc k) s ls cs)))
    go true g = gives {x = k} (omega arith)
    go false g = gives_also g (λ n h. omega arith)

pub operate_gives : (s : List ℕ) → Gives (λ n. n ≤ operate_limit) (operate_of s)
unfolding operate_of latin
operate_gives s = gives_also (code_gives 0 s latin chinese) (λ n h. omega arith)

-- ---- signals

module _ (kind : Kind) where
  abbrev saying : Signal → Clause
  saying x = record { kind = kind; signal = x }

  -- a clause of the signal is fine and no heavier than n bytes
  pub record Says (n : ℕ) (x : Signal) : Type 0 where
    pub fine : fine_clause (saying x) ≡ true
    pub light : clause_weight (saying x) ≤ n

  module _ (s : List ℕ) (c : clean s ≡ true) where
    abbrev at : ℕ → List ℕ
    at i = get_or (split underscore s) i []

    three : (f : List ℕ → Bool) → ((i : ℕ) → f (at i) ≡ true) → every f (at 0 ∷ at 1 ∷ at 2 ∷ []) ≡ true
    three f h = every_three f (at 0) (at 1) (at 2) (h 0) (h 1) (h 2)

    value : (i : ℕ) → value_ok (at i) ≡ true
    value i = value-ok (at i) (part-clean s c i) (part_lacks s i)

    says : (n : ℕ) → length (split underscore s) ≡ 7 → n ≤ score_limit
        → Says (length s) (record { key = key_of (at 0) (at 1) (at 2); v1 = at 3; v2 = at 4; v3 = at 5; score = n })
    unfolding clause_weight
    says n e h =
        let ps = split underscore s in
        let k = key-ok (at 0) (at 1) (at 2) (three clean (part-clean s c)) (three (lacks underscore) (part_lacks s)) in
        record {
          fine = clause_sure _ (record { key = k; v1 = value 3; v2 = value 4; v3 = value 5; score = h });
          light =
              omega (
                arith,
                e,
                key-length (at 0) (at 1) (at 2),
                split-length underscore s,
                total_next ps 0,
                total_next ps 1,
                total_next ps 2,
                total_next ps 3,
                total_next ps 4,
                total_next ps 5,
              );
        }

    pub signal_gives : Gives (Says (length s)) (signal_of s)
    unfolding signal_of
    signal_gives =
        then_with (must_test 5 (eqb (length (split underscore s)) 7) tt)
        (λ _ e. then_with (given_some 6 (score (i32_of (at 6))) tt)
        (λ n h. gives (says n (eqb-true (length (split underscore s)) 7 e) (score-low (i32_of (at 6)) (sym h)))))
