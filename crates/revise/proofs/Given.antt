-- A list of bars is refused with a number that is not 0, or each of its entries has a bar in range whose price is a double. Assumes nothing.
use Prim.Native.Nat.{ℕ}
use native.Mathlib.Omega.{arith}
use mathlib.Core.Bool.{Bool, true, false, cond, ◌&&◌}
use mathlib.Core.List.{List, [], ◌∷◌}
use mathlib.Core.Path.{◌≡◌, refl, subst}
use mathlib.Mathlib.Data.List.Defs.{Forall}
use mathlib.Mathlib.Data.List.Basic.{Forall-cons}
use lib.Dec.{T, eqb}
use lib.Ieee.{binary64, fits}
use lib.Ieee.Bits.{of_bits-fits}
use lib.ListN.{length, get_or, take}
use Rattle.text.specs.Answer.{Answer, Got, ◌>>=◌}
use Rattle.text.specs.Number.{unsigned}
use Rattle.text.specs.Text.{LF, has, empty, split, each_line}
use Rattle.text.proofs.Answers.{got_same}
use Rattle.text.proofs.Refusals.{Gives, refuses, gives, Any, must_gives, then_with, then_gives, loud, lines_give}
use Rattle.utf8.specs.Utf8.{right, utf8}
use Rattle.utf8.specs.Alone.{text}
use Rattle.bar.specs.Bar.{bar_of}
use Rattle.event.specs.Signals.{Line, signal_line, read_signals}
use Rattle.position.specs.Feed.{Input, fed_of}
use Rattle.position.specs.Run.{bar_line}
use Rattle.position_laws.proofs.Sound.{BarOk}
use Rattle.position_laws.proofs.Reach.{fed-ok}
use Rattle.revise.specs.Lines.{lines, ended, is_bar, is_signal, signal_lines}
use Rattle.revise.specs.Entries.{Entry, last_revision, fields_in, first_line, entry, entries, read_entries}

-- ---- answers

-- what was got is as it is given
pub of_got : {X : Type 0} {P : X → Type 0} {a : Answer X} (y : X) → Gives P a → a ≡ Got y → P y
of_got y refuses e = absurd (let z : ◌≡◌ {A = ℕ} 0 1 = cc in omega arith)
of_got {P = P} y (gives {x} p) e = subst P (got_same x y e) p

-- what is known of what was got is given
pub with_got : {X : Type 0} {P : X → Type 0} {a : Answer X} → Gives Any a → ((x : X) → a ≡ Got x → P x) → Gives P a
with_got refuses f = refuses
with_got (gives {x} u) f = gives (f x refl)

-- ---- signals

line_gives : (ls : List Line) (fields : List (List ℕ)) → Gives Any (signal_line ls fields)
unfolding signal_line
line_gives ls fields = search loud

pub signals_give : (s : List ℕ) → Gives Any (read_signals s)
unfolding read_signals text
signals_give s = search (loud, lines_give signal_line line_gives)

no_signals : read_signals [] ≡ Got []
unfolding read_signals text utf8 right split each_line
no_signals = refl

-- ---- a first line

fields_give : (f : List (List ℕ)) → Gives (λ i. T (fits binary64 i.price)) (bar_line f)
unfolding bar_line
fields_give f = search (loud, gives, of_bits-fits) depth 12

-- a bar is one that could be fed without signals
bar_gives : (i : Input) → T (fits binary64 i.price) → Gives BarOk (bar_of i.id i.instant i.offset i.price)
unfolding bar_of fed_of
bar_gives i double = with_got (search loud) (λ b e. fed-ok alone (record { bar = b; signals = [] }) (rw (e, no_signals) refl) double)
  where
    alone : Input
    alone = record { id = i.id; instant = i.instant; offset = i.offset; price = i.price; signals = [] }

number_gives : (most : ℕ) (s : List ℕ) → Gives Any (unsigned most s)
unfolding unsigned
number_gives most s = search loud

pub first_gives : (l : List ℕ) → Gives (λ r. BarOk r.bar) (first_line l)
unfolding first_line
first_gives l =
    then_gives (must_gives 2 (is_bar l && has LF l && eqb (length (fields_in l)) 6) tt)
    (λ _. then_with (fields_give (take 5 (fields_in l)))
    (λ i double. then_gives (number_gives last_revision (get_or (fields_in l) 5 [])) (λ n. then_with (bar_gives i double) (λ b ok. gives ok))))

-- ---- the entries

abbrev pub EntryOk : Entry → Type 0
EntryOk e = BarOk e.fed.bar

entry_gives : (l : List ℕ) (ls : List (List ℕ)) → Gives EntryOk (entry l ls)
unfolding entry
entry_gives l ls = then_with (first_gives l) (λ r ok. then_gives (signals_give (signal_lines 2 ls)) (λ signals. gives ok))

entries_give : (ls : List (List ℕ)) → Gives (Forall EntryOk) (entries ls)
unfolding entries Forall
entries_give [] = gives tt
entries_give (l ∷ ls) = go (is_signal l) (entries_give ls)
  where
    go : (t : Bool) → Gives (Forall EntryOk) (entries ls)
        → Gives (Forall EntryOk) (cond t (entries ls) (entry l ls >>= λ e. entries ls >>= λ es. Got (e ∷ es)))
    go true more = more
    go false more = then_with (entry_gives l ls) (λ e ok. then_with more (λ es oks. gives ((Forall-cons EntryOk e es).1 (ok, oks))))

pub read_gives : (s : List ℕ) → Gives (Forall EntryOk) (read_entries s)
unfolding read_entries
read_gives s =
    then_gives (must_gives 2 (empty (signal_lines 0 (lines s))) tt)
    (λ _. then_with (entries_give (lines s)) (λ es oks. then_gives (must_gives 2 (ended s) tt) (λ _. gives oks)))
