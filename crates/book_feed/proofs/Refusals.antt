-- A feed refusal by refusal, and what it is behind each check. Assumes nothing.
use Rattle.book.specs.Opened.{opened_of}
use Rattle.book_feed.specs.declared.FeedError.{FeedError}
use Rattle.book_feed.specs.declared.FeedError.TheVariants as FeedError
use Rattle.book.specs.declared.OpenError.{OpenError}
use Rattle.book.specs.declared.OpenError.TheVariants.{WrongLength, NotTable, NotBook}
use Rattle.std.specs.Prelude.{Option, Result, Ok, Err}
use Prim.Native.Nat.{ℕ, ◌≤◌, ◌<◌}
use mathlib.Core.Path.{◌≡◌, refl, sym, ap, ◌∙◌, subst}
use borrow.Author.Tests.{le-ltb, lt-ltb}
use mathlib.Core.Bool.{Bool, true, false}
use mathlib.Core.List.{List}
use lib.Dec.{ltb}
use lib.IntN.{ℤ}
use lib.Ieee.{Float}
use mir.Syntax.{w64}
use mir.Val.{SFits}
use mir.Facts.{to_z-of_z}
use Rattle.le.specs.Field.{u32}
use Rattle.le.proofs.Signs.{back}
use Rattle.text.specs.Answer.{Answer, Refused, Got, ◌>>=◌, must}
use Rattle.text.proofs.Answers.{refused_then, got_then}
use Rattle.bar.specs.Bar.{bar_of}
use Rattle.bar.specs.declared.Bar.{Bar}
use Rattle.event.specs.Signals.{Line, read_signals}
use Rattle.sheet.specs.Sheet.{Sheet}
use Rattle.position.specs.Step.{Fed, step_head}
use Rattle.position.specs.Feed.{Input, fed_of, admitted, Accepted, reported}
use Rattle.position.specs.declared.Report.{Report}
use Rattle.table.specs.Layout.{parts_in}
use Rattle.table.specs.Table.{is_table, sheet_of, read_table}
use Rattle.book.specs.Layout.{head_of}
use Rattle.book.specs.Check.{header_ok}
use Rattle.book.specs.Calls.{sized, open_lots_in, fed, feed_on, feed_bytes}
use Rattle.book_header.specs.Size.{SizeOk}
use Rattle.book_write.specs.Write.{BookPassed}
use Rattle.book_feed_input.specs.Bars.{BarAs}
use Rattle.book_feed_step.specs.Steps.{in_time, taken}
use Rattle.book_feed.specs.Feed.{feed_of, FeedAs}
use Rattle.book_feed.specs.Steps.{book_opened, OpenedOk, TableOpenedAs, BookOpenedAs, bar_do, signals_do, numbers_do}

-- a refusal leaves the bytes as they were
pub refused : {n : ℕ} {a : Answer (Accepted (List ℕ))} {b : List ℕ} {r : Result Report FeedError} → feed_of b r ≡ Refused n → Refused n ≡ a → FeedAs a b b r
refused {b = b} e f = record { is = e ∙ f; bytes = ap (feed_bytes b) f }

pub feed_as : {b m : List ℕ} {a x : Answer (Accepted (List ℕ))} {r : Result Report FeedError} → x ≡ a → FeedAs x b m r → FeedAs a b m r
feed_as {b} {m} {r = r} e w = subst (λ a. FeedAs a b m r) e w

-- two tests, and what follows behind both
behind : {X Y : Type 0} (m n : ℕ) (s t : Bool) (x : X) (k : X → Answer Y)
    → (must m s >>= (λ _. must n t >>= λ _. Got x) >>= k) ≡ (must m s >>= λ _. must n t >>= λ _. k x)
behind m n false t x k = refl
behind m n true false x k = refl
behind m n true true x k = refl

-- ---- 8, 9, 10

module _ {t b : List ℕ} where
  pub table_length_lem : Refused 8 ≡ sized t b → TableOpenedAs t b (Err WrongLength)
  table_length_lem e = record { is = rw (← e) refl; ok = tt }

  module _ {c : ℕ} (e : Got c ≡ sized t b) where
    pub table_not : is_table t ≡ false → TableOpenedAs t b (Err NotTable)
    table_not f = record { is = rw (← e, f) refl; ok = tt }

    pub table_is : is_table t ≡ true → SizeOk b c → TableOpenedAs t b (Ok c)
    table_is f k = record { is = rw (← e, f) refl; ok = (f, k) }

  pub book-refused : {n : ℕ} {r : Result ℕ OpenError} → opened_of r ≡ Refused n → OpenedOk (λ c. (is_table t ≡ true) × BookPassed b c) r → TableOpenedAs t b r → BookOpenedAs t b r
  book-refused e k w = record { is = e ∙ refused_then (λ c. must 10 (header_ok c b) >>= λ _. Got c) (sym e ∙ w.is); ok = k }

  module _ {c : ℕ} (w : TableOpenedAs t b (Ok c)) where
    pub book-not : header_ok c b ≡ false → BookOpenedAs t b (Err NotBook)
    book-not g = record { is = rw (← w.is, g) refl; ok = tt }

    pub book-is : header_ok c b ≡ true → BookOpenedAs t b (Ok c)
    book-is g = record { is = rw (← w.is, g) refl; ok = (w.ok.0, record { size = w.ok.1; header = g }) }

-- ---- 11, then the rest

-- a bar is read of the numbers as they were given
pub told_bar : {id instant offset : ℤ} {price : Float} {r : Option Bar} → SFits w64 id → SFits w64 instant → SFits w64 offset
    → BarAs (back w64 id) (back w64 instant) (back w64 offset) price r → BarAs id instant offset price r
told_bar f g h w = rw (to_z-of_z f, to_z-of_z g, to_z-of_z h) at w

module _ (t b : List ℕ) (c : ℕ) (i : Input) where
  pub bar-refused : {r : Result Report FeedError} → feed_of b r ≡ Refused 11 → Refused 11 ≡ bar_of i.id i.instant i.offset i.price → FeedAs (numbers_do t c i b) b b r
  unfolding numbers_do
  bar-refused e h = refused e (refused_then (λ bar. signals_do t c bar i.signals b) h)

  pub bar-read : {bar : Bar} {m : List ℕ} {r : Result Report FeedError} → Got bar ≡ bar_of i.id i.instant i.offset i.price
      → FeedAs (signals_do t c bar i.signals b) b m r → FeedAs (numbers_do t c i b) b m r
  unfolding numbers_do
  bar-read h w = feed_as (got_then (λ bar. signals_do t c bar i.signals b) h) w

-- ---- a feed is its steps, whatever reaches it

-- 8, 9, 10, and what follows behind them
opening : {S X : Type 0} (a : Answer ℕ) (u : Bool) (v : ℕ → Bool) (s : S) (k : ℕ → S → Answer X)
    → (a >>= λ c. must 9 u >>= (λ _. Got s) >>= λ s. must 10 (v c) >>= λ _. k c s)
    ≡ (a >>= (λ c. must 9 u >>= λ _. Got c) >>= (λ c. must 10 (v c) >>= λ _. Got c) >>= λ c. k c s)
opening (Refused n) u v s k = refl
opening (Got c) false v s k = refl
opening (Got c) true v s k = go (v c)
  where
    go : (w : Bool) → (must 10 w >>= λ _. k c s) ≡ (must 10 w >>= (λ _. Got c) >>= λ c. k c s)
    go false = refl
    go true = refl

then_same : {X Y : Type 0} (a : Answer X) (f g : X → Answer Y) → ((x : X) → f x ≡ g x) → (a >>= f) ≡ (a >>= g)
then_same (Refused n) f g h = refl
then_same (Got x) f g h = h x

module _ (t b : List ℕ) where
  takes : ℕ → Sheet → Fed → Answer (Accepted (List ℕ))
  takes c s f =
      let g = step_head s f.bar f.signals (open_lots_in b) (head_of b) in
      Got (record { after = fed c f.bar g b; report = reported s f.signals g })

  -- behind 10
  numbers : (c : ℕ) (i : Input) → (admitted c (u32 b 0) (head_of b).end i >>= takes c (sheet_of (parts_in t))) ≡ numbers_do t c i b
  unfolding admitted fed_of numbers_do signals_do bar_do taken takes
  numbers c i = of_bar (bar_of i.id i.instant i.offset i.price)
    where
      admits : Fed → Answer Fed
      admits f = must 13 (in_time f.bar b) >>= λ _. must 14 (ltb (u32 b 0) c) >>= λ _. Got f

      accepts : Fed → Answer (Accepted (List ℕ))
      accepts f = Got (taken t c f.bar f.signals b)

      of_signals : (bar : Bar) (a : Answer (List Line))
          → (a >>= (λ ls. Got (record { bar = bar; signals = ls })) >>= admits >>= accepts) ≡ (a >>= λ ls. bar_do t c bar ls b)
      of_signals bar (Refused n) = refl
      of_signals bar (Got ls) = behind 13 14 (in_time bar b) (ltb (u32 b 0) c) (record { bar = bar; signals = ls }) accepts

      of_bar : (a : Answer Bar)
          → (a >>= (λ bar. read_signals i.signals >>= λ ls. Got (record { bar = bar; signals = ls })) >>= admits >>= accepts)
          ≡ (a >>= λ bar. signals_do t c bar i.signals b)
      of_bar (Refused n) = refl
      of_bar (Got bar) = of_signals bar (read_signals i.signals)

  steps : (input : Answer Input) → feed_on t b input ≡ (book_opened t b >>= λ c. input >>= λ i. numbers_do t c i b)
  unfolding feed_on read_table takes
  steps input =
      opening (sized t b) (is_table t) (λ c. header_ok c b) (sheet_of (parts_in t)) (λ c s. input >>= λ i. admitted c (u32 b 0) (head_of b).end i >>= takes c s)
      ∙ then_same (book_opened t b) _ _ (λ c. then_same input _ _ (numbers c))

  module _ (input : Answer Input) where
    -- refused before anything reaches it
    pub feed_unopened : {n : ℕ} {o : Result ℕ OpenError} {r : Result Report FeedError} → feed_of b r ≡ Refused n → opened_of o ≡ Refused n → BookOpenedAs t b o → FeedAs (feed_on t b input) b b r
    feed_unopened f e w = refused f (refused_then (λ c. input >>= λ i. numbers_do t c i b) (sym e ∙ w.is) ∙ sym (steps input))

    -- what reaches it decides
    pub feed_reached : {c : ℕ} {m : List ℕ} {r : Result Report FeedError} → BookOpenedAs t b (Ok c) → FeedAs (input >>= λ i. numbers_do t c i b) b m r → FeedAs (feed_on t b input) b m r
    feed_reached w k = feed_as (got_then (λ c. input >>= λ i. numbers_do t c i b) w.is ∙ sym (steps input)) k

-- the four numbers are those that were given
pub told_numbers : (t b : List ℕ) (c : ℕ) (i : Input) {m : List ℕ} {r : Result Report FeedError} → SFits w64 i.id → SFits w64 i.instant → SFits w64 i.offset
    → FeedAs (numbers_do t c (record { id = back w64 i.id; instant = back w64 i.instant; offset = back w64 i.offset; price = i.price; signals = i.signals }) b) b m r
    → FeedAs (numbers_do t c i b) b m r
told_numbers t b c i f g h w = rw (to_z-of_z f, to_z-of_z g, to_z-of_z h) at w

-- ---- the signals' refusals

module _ (t b : List ℕ) (c : ℕ) (bar : Bar) (signals : List ℕ) where
  pub signals-refused : {n : ℕ} {r : Result Report FeedError} → feed_of b r ≡ Refused n → Refused n ≡ read_signals signals → FeedAs (signals_do t c bar signals b) b b r
  unfolding signals_do
  signals-refused e f = refused e (refused_then (λ ls. bar_do t c bar ls b) f)

  pub signals-read : {ls : List Line} {m : List ℕ} {r : Result Report FeedError} → Got ls ≡ read_signals signals → FeedAs (bar_do t c bar ls b) b m r
      → FeedAs (signals_do t c bar signals b) b m r
  unfolding signals_do
  signals-read e w = feed_as (got_then (λ ls. bar_do t c bar ls b) e) w

-- ---- 13, 14

module _ (t b : List ℕ) (c : ℕ) (bar : Bar) (ls : List Line) where
  pub bar_late : false ≡ in_time bar b → FeedAs (bar_do t c bar ls b) b b (Err FeedError.Late)
  unfolding bar_do
  bar_late e = refused refl (rw (← e) refl)

  module _ (e : true ≡ in_time bar b) where
    pub bar-full : c ≤ u32 b 0 → FeedAs (bar_do t c bar ls b) b b (Err FeedError.Full)
    unfolding bar_do
    bar-full h = refused refl (rw (← e, le-ltb (u32 b 0) c h) refl)

    pub bar-done : {m : List ℕ} {r : Report} → u32 b 0 < c → record { after = m; report = r } ≡ taken t c bar ls b → FeedAs (bar_do t c bar ls b) b m (Ok r)
    unfolding bar_do
    bar-done h f = rw (← e, lt-ltb (u32 b 0) c h) (record { is = ap Got f; bytes = ap (λ a. a.after) f })
