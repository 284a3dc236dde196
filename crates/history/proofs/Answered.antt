-- No call says 0 unless it is done; and what each then leaves. Assumes nothing.
use Prim.Native.Nat.{ℕ, suc}
use mathlib.Core.Bool.{Bool, true, false, cond, ◌||◌}
use mathlib.Core.List.{List, [], ◌∷◌}
use Rattle.std.specs.Prelude.{Option, None, Some}
use mathlib.Core.Path.{◌≡◌, refl}
use lib.Dec.{T, ltb, eqb}
use lib.Ieee.{binary64, fits}
use lib.ListN.{length}
use lib.Signed.{lt_z}
use Rattle.le.specs.Field.{u32}
use Rattle.text.specs.Answer.{Answer, Refused, Got, ◌>>=◌, must, given}
use Rattle.text.proofs.Refusals.{Gives, refuses, gives, Any, must_gives, given_gives, then_with, then_gives, loud, lines_give}
use Rattle.text.specs.Number.{unsigned}
use Rattle.utf8.specs.Alone.{text}
use Rattle.stop.specs.Stop.{hundredths_of}
use Rattle.operate.specs.Operate.{operate_of}
use Rattle.signal.specs.Signal.{signal_of}
use Rattle.sheet.specs.Sheet.{Kind, Sheet}
use Rattle.sheet.specs.Read.{position_line, lots_behind, event_line, clause_line, later_line, sheet_line, read_sheet}
use Rattle.bar.specs.Bar.{bar_of}
use Rattle.bar.specs.declared.Time.{Time}
use Rattle.event.specs.Signals.{Line, signal_line, read_signals}
use Rattle.table.specs.Layout.{table_length}
use Rattle.table.specs.Compile.{compile_do}
use Rattle.table.specs.Table.{read_table}
use Rattle.position.specs.Step.{Fed}
use Rattle.bar_line.proofs.Given.{line_gives as bar-line-gives}
use Rattle.position.specs.Feed.{Input, line_input, fed_of, admitted, Accepted}
use Rattle.book.specs.Layout.{capacity, head_of, fresh_book}
use Rattle.book.specs.Check.{header_ok}
use Rattle.book.specs.Calls.{sized, checked, fresh_do, feed_on, feed_do, feed_line_do, save_do, restore_do}

-- ---- what the calls read

line_gives : (ls : List Line) (fields : List (List ℕ)) → Gives Any (signal_line ls fields)
unfolding signal_line
line_gives ls fields = search loud

signals_give : (s : List ℕ) → Gives Any (read_signals s)
unfolding read_signals text
signals_give s = search (loud, lines_give signal_line line_gives)

fed_gives : (i : Input) → Gives Any (fed_of i)
unfolding fed_of bar_of
fed_gives i = search (loud, signals_give)

admitted_gives : (c holds : ℕ) (end : Time) (i : Input) → Gives Any (admitted c holds end i)
unfolding admitted
admitted_gives c holds end i = search (loud, fed_gives)

table_gives : (t : List ℕ) → Gives Any (read_table t)
unfolding read_table
table_gives t = search loud

-- ---- compiling

signal_gives : (s : List ℕ) → Gives Any (signal_of s)
unfolding signal_of
signal_gives s = search loud

operate_gives : (s : List ℕ) → Gives Any (operate_of s)
unfolding operate_of
operate_gives s = search loud

position_gives : (f : List (List ℕ)) → Gives Any (position_line f)
unfolding position_line unsigned hundredths_of
position_gives f = search loud depth 14

lots_give : (f : List (List ℕ)) → Gives Any (lots_behind f)
lots_give [] = search loud
lots_give (field ∷ f) = search loud

event_gives : (exit : Bool) (s : Sheet) (f : List (List ℕ)) → Gives Any (event_line exit s f)
unfolding event_line
event_gives exit s f = search (loud, operate_gives, lots_give) depth 12

clause_gives : (kind : Kind) (s : Sheet) (f : List (List ℕ)) → Gives Any (clause_line kind s f)
unfolding clause_line
clause_gives kind s f = search (loud, signal_gives)

cond_gives : {X : Type 0} (t : Bool) (x y : Answer X) → Gives Any x → Gives Any y → Gives Any (cond t x y)
cond_gives true x y g h = g
cond_gives false x y g h = h

wrong_gives : {X : Type 0} → Gives {X = X} Any (Refused 2)
wrong_gives = refuses

later_gives : (s : Sheet) (f : List (List ℕ)) → Gives Any (later_line s f)
unfolding later_line
later_gives s f = search (cond_gives, event_gives, clause_gives, wrong_gives) depth 12

sheet_line_gives : (o : Option Sheet) (f : List (List ℕ)) → Gives Any (sheet_line o f)
sheet_line_gives None f = search (loud, position_gives)
sheet_line_gives (Some s) f = search (loud, later_gives)

pub compile_gives : (s table : List ℕ) → Gives Any (compile_do s table)
unfolding compile_do read_sheet text
compile_gives s table = search (loud, lines_give sheet_line sheet_line_gives)

-- ---- the calls

-- a book made fresh, for as many bars as it has bytes for
abbrev pub Cleared : List ℕ → List ℕ → Type 0
Cleared b x = (c : ℕ) × (capacity b ≡ Some c) × (x ≡ fresh_book c)

pub fresh_gives : (b : List ℕ) → Gives (Cleared b) (fresh_do b)
unfolding fresh_do
fresh_gives b = go (capacity b) refl
  where
    go : (o : Option ℕ) → capacity b ≡ o → Gives (Cleared b) (given 8 o >>= λ c. Got (fresh_book c))
    go None e = refuses
    go (Some c) e = gives (c, e, refl)

pub feed_gives : (t b : List ℕ) (i : Input) → Gives Any (feed_do t b i)
unfolding feed_do feed_on
feed_gives t b i = search (loud, table_gives, admitted_gives) depth 8

-- an admitted bar is that of the arguments
admitted-fed : (c holds : ℕ) (end : Time) (i : Input) → Gives (λ f. fed_of i ≡ Got f) (admitted c holds end i)
unfolding admitted
admitted-fed c holds end i = go refl (fed_gives i)
  where
    go : {a : Answer Fed} → fed_of i ≡ a → Gives Any a
        → Gives (λ f. fed_of i ≡ Got f)
        (a >>= λ f. must 13 (eqb holds 0 || lt_z end.instant.0 f.bar.time.instant.0) >>= λ _. must 14 (ltb holds c) >>= λ _. Got f)
    go e refuses = refuses
    go e (gives {x} u) =
        then_gives (must_gives 13 (eqb holds 0 || lt_z end.instant.0 x.bar.time.instant.0) tt)
        (λ _. then_gives (must_gives 14 (ltb holds c) tt) (λ _. gives e))

sized_gives : (t b : List ℕ) → Gives Any (sized t b)
sized_gives t b = then_gives (must_gives 8 (eqb (length t) table_length) tt) (λ _. given_gives 8 (capacity b) tt)

-- so the arguments of an accepted feed say a bar and its signals
pub feed_fed : (t b : List ℕ) (i : Input) → Gives (λ x. (f : Fed) × (fed_of i ≡ Got f)) (feed_do t b i)
unfolding feed_do feed_on
feed_fed t b i =
    then_gives {a = sized t b} (sized_gives t b)
    (λ c. then_gives (table_gives t)
    (λ s. then_gives (must_gives 10 (header_ok c b) tt)
    (λ _. then_with (admitted-fed c (u32 b 0) (head_of b).end i) (λ f e. gives (f, e)))))

-- ---- a line's feed is refused with the line, or is the feed of the numbers that it says

input_gives : (line signals : List ℕ) → Gives (λ i. T (fits binary64 i.price)) (line_input line signals)
unfolding line_input
input_gives line signals = then_with (bar-line-gives line) (λ n fit. gives fit)

unread_gives : (t b : List ℕ) (n : ℕ) → Gives (λ x. ⊥) (feed_on t b (Refused (suc n)))
unfolding feed_on
unread_gives t b n =
    then_gives {a = sized t b} (sized_gives t b)
    (λ c. then_gives (table_gives t) (λ s. then_gives (must_gives 10 (header_ok c b) tt) (λ _. refuses)))

-- so what holds of a refusal, and of the feed of each four numbers with a double, holds of a line's feed
pub of_line : (P : Answer Input → Answer (Accepted (List ℕ)) → Type 0) (t b line signals : List ℕ)
    → ((n m : ℕ) → P (Refused n) (Refused (suc m)))
    → ((i : Input) → T (fits binary64 i.price) → P (Got i) (feed_do t b i))
    → P (line_input line signals) (feed_line_do t b line signals)
unfolding feed_do feed_line_do
of_line P t b line signals refused done = go (input_gives line signals)
  where
    unread : (n : ℕ) {x : Answer (Accepted (List ℕ))} → Gives (λ x. ⊥) x → P (Refused n) x
    unread k (refuses {n}) = refused k n
    unread k (gives e) = absurd e

    go : {a : Answer Input} → Gives (λ i. T (fits binary64 i.price)) a → P a (feed_on t b a)
    go (refuses {n}) = unread (suc n) (unread_gives t b n)
    go (gives {x} double) = done x double

checked_gives : (t : List ℕ) (c : ℕ) (b : List ℕ) → Gives Any (checked t c b)
unfolding checked
checked_gives t c b = search (loud, table_gives)

pub save_gives : (t b image : List ℕ) → Gives (λ x. x ≡ b) (save_do t b image)
unfolding save_do
save_gives t b image = search (loud, checked_gives, gives)

pub restore_gives : (t b image : List ℕ) → Gives (λ x. x ≡ image) (restore_do t b image)
unfolding restore_do
restore_gives t b image = search (loud, checked_gives, gives)
