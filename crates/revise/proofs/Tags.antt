-- Lines by their tags: an S line in front, another line in front, none. Assumes nothing.
use Prim.Native.Nat.{ℕ, suc, ◌≤◌}
use native.Mathlib.Omega.{arith}
use mathlib.Core.Bool.{Bool, true, false, cond, ◌&&◌, false≢true, and-eq-true_iff}
use mathlib.Core.List.{List, [], ◌∷◌, ◌++◌}
use mathlib.Core.Path.{◌≡◌, refl, sym, ap, ◌∙◌}
use borrow.Author.Tests.{eqb-true}
use lib.Dec.{eqb}
use lib.ListN.{length, drop}
use Rattle.text.specs.Answer.{Answer, Refused, Got, ◌>>=◌, must}
use Rattle.text.specs.Text.{LF, pipe, begins, has, empty}
use Rattle.text.proofs.Answers.{got_from, must_got}
use Rattle.revise.specs.Lines.{is_bar, is_signal, bar_count, signal_lines}
use Rattle.revise.specs.Entries.{Revision, Entry, fields_in, first_line, entry, entries}
use Rattle.revise.proofs.Lines.{bar-begins, signal-begins}

begins-long : (a b : ℕ) (l : List ℕ) → begins (a ∷ b ∷ []) l ≡ true → 2 ≤ length l
unfolding begins
begins-long a b [] e = absurd (false≢true e)
begins-long a b (x ∷ []) e = go (eqb a x) e
  where
    go : (t : Bool) → (t && false) ≡ true → 2 ≤ 1
    go true k = absurd (false≢true k)
    go false k = absurd (false≢true k)
begins-long a b (x ∷ y ∷ l) e = omega arith

-- it is no line of a bar
begins-other : (l : List ℕ) → begins (83 ∷ pipe ∷ []) l ≡ true → begins (66 ∷ pipe ∷ []) l ≡ false
unfolding begins
begins-other [] e = refl
begins-other (x ∷ l) e = go (eqb 83 x) refl e
  where
    go : (t : Bool) → eqb 83 x ≡ t → (t && begins (pipe ∷ []) l) ≡ true → (eqb 66 x && begins (pipe ∷ []) l) ≡ false
    go true h k = rw (sym (eqb-true 83 x h)) refl
    go false h k = absurd (false≢true k)

pub signal-long : (l : List ℕ) → is_signal l ≡ true → 2 ≤ length l
signal-long l e = begins-long 83 pipe l (signal-begins l ∙ e)

module _ (l : List ℕ) (ls : List (List ℕ)) where
  -- an S line in front
  module _ (e : is_signal l ≡ true) where
    pub signals-more : (k : ℕ) → signal_lines k (l ∷ ls) ≡ drop k l ++ signal_lines k ls
    unfolding signal_lines
    signals-more k = rw e

    pub entries-more : entries (l ∷ ls) ≡ entries ls
    unfolding entries
    entries-more = rw e

    pub bars-more : bar_count (l ∷ ls) ≡ bar_count ls
    unfolding bar_count
    bars-more = rw (sym (bar-begins l) ∙ begins-other l (signal-begins l ∙ e))

  pub signals-stop : (k : ℕ) → is_signal l ≡ false → signal_lines k (l ∷ ls) ≡ []
  unfolding signal_lines
  signals-stop k e = rw e

pub signals-none : (k : ℕ) → signal_lines k [] ≡ []
unfolding signal_lines
signals-none k = refl

-- ---- no S line in front

-- where nothing is left of the S lines in front, none stands there
pub signals-other : (l : List ℕ) (ls : List (List ℕ)) → 1 ≤ length l → signal_lines 0 (l ∷ ls) ≡ [] → is_signal l ≡ false
unfolding signal_lines
signals-other [] ls h e = absurd (omega arith)
signals-other (x ∷ l) ls h e = go (is_signal (x ∷ l)) e
  where
    go : (t : Bool) → cond t (x ∷ l ++ signal_lines 0 ls) [] ≡ [] → t ≡ false
    go true k = absurd (let z : suc (length (l ++ signal_lines 0 ls)) ≡ 0 = ap length k in omega arith)
    go false k = refl

pub signals_some : (l : List ℕ) (ls : List (List ℕ)) → is_signal l ≡ true → empty (signal_lines 0 (l ∷ ls)) ≡ false
signals_some [] ls e = absurd (let h = signal-long [] e in omega arith)
signals_some (x ∷ l) ls e = ap empty (signals-more (x ∷ l) ls e 0)

-- another line in front starts an entry
pub entries-one : (l : List ℕ) (ls : List (List ℕ)) → is_signal l ≡ false → entries (l ∷ ls) ≡ (entry l ls >>= λ e. entries ls >>= λ es. Got (e ∷ es))
unfolding entries
entries-one l ls e = rw e

-- an entry's first line is a bar's
pub entry-bar : (l : List ℕ) (ls : List (List ℕ)) (e : Entry) → entry l ls ≡ Got e → is_bar l ≡ true
unfolding entry first_line
entry-bar l ls e h =
    let r = got_from (first_line l) _ e h in
    let m = must_got 2 (is_bar l && has LF l && eqb (length (fields_in l)) 6) _ r.0 r.1 in
    ((and-eq-true_iff (is_bar l) (has LF l)).0 ((and-eq-true_iff (is_bar l && has LF l) (eqb (length (fields_in l)) 6)).0 m.0).0).0

pub bars-one : (l : List ℕ) (ls : List (List ℕ)) → is_bar l ≡ true → bar_count (l ∷ ls) ≡ suc (bar_count ls)
unfolding bar_count
bars-one l ls e = rw e
