-- A line and an entry by where they stand: there is one at a place; and what an entry has of its lines. Assumes nothing.
use Prim.Native.Nat.{ℕ}
use native.Mathlib.Omega.{arith}
use mathlib.Core.List.{List, []}
use mathlib.Core.Path.{◌≡◌, sym, ap, ◌∙◌, subst}
use lib.ListN.{length, get_or}
use lib.Seq.{slice, length-slice}
use Rattle.text.specs.Answer.{Got}
use Rattle.text.proofs.Answers.{got_from, got_same}
use Rattle.event.specs.Signals.{read_signals}
use Rattle.revise.specs.Lines.{signal_lines}
use Rattle.revise.specs.Entries.{Revision, Entry, first_line, entry}
use Rattle.revise.specs.Places.{lines_in, LineEnd, EntryAt}

pub line_once : {s : List ℕ} {at a b : ℕ} → LineEnd s at a → LineEnd s at b → a ≡ b
line_once {s} {at} {a} {b} x y =
    let same : length (slice at a s) ≡ length (slice at b s) = ap (λ ls. length (get_or ls 0 [])) (sym x.is ∙ y.is) in
    omega (arith, same, length-slice at a s x.high, length-slice at b s y.high, x.low, y.low)

-- the entry that stands at the place of a line that ends before r
pub entry-there : {s : List ℕ} {p z r : ℕ} {e : Entry} → EntryAt s p z e → LineEnd s p r → entry (slice p r s) (lines_in s r) ≡ Got e
entry-there {s} {p} {z} {r} {e} w l = subst (λ (k : ℕ). entry (slice p k s) (lines_in s k) ≡ Got e) (line_once w.line l) w.is

pub entry_once : {s : List ℕ} {p z w : ℕ} {a b : Entry} → EntryAt s p z a → EntryAt s p w b → a ≡ b
entry_once {a = a} {b = b} x y = got_same a b (sym (entry-there x y.line) ∙ y.is)

-- ---- an entry by its lines

-- what an entry has of its lines
pub record Said (l : List ℕ) (ls : List (List ℕ)) (e : Entry) : Type 0 where
  pub first : Revision
  pub is : first_line l ≡ Got first
  pub bar : first.bar ≡ e.fed.bar
  pub lines : signal_lines 0 ls ≡ e.lines

pub said : (l : List ℕ) (ls : List (List ℕ)) (e : Entry) → entry l ls ≡ Got e → Said l ls e
unfolding entry
said l ls e h =
    let r = got_from (first_line l) _ e h in
    let g = got_from (read_signals (signal_lines 2 ls)) _ e r.2 in
    let z = got_same _ e g.2 in
    record { first = r.0; is = r.1; bar = ap (λ (e : Entry). e.fed.bar) z; lines = ap (λ (e : Entry). e.lines) z }
