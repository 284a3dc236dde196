-- A request for an event's name: each refusal, and the name that is written. Assumes nothing.
use Prim.Native.Nat.{ℕ, zero, suc, ◌<◌, ◌≤◌}
use native.Mathlib.Omega.{arith}
use mathlib.Core.Path.{◌≡◌, ◌∙◌, refl, sym, ap}
use mathlib.Core.Logic.{◌≢◌}
use mathlib.Core.Bool.{true, false}
use mathlib.Core.List.{List, [], ◌∷◌, map}
use Rattle.row.specs.Read.{row_refusal}
use Rattle.row.specs.declared.RowError.{RowError}
use Rattle.book.specs.declared.OpenError.TheVariants as OpenError
use Rattle.std.specs.Prelude.{Option, None, Some, Ok, Err, slice_get}
use borrow.Author.Tests.{eq-eqb, ne_eqb, le-leb, lt-leb}
use lib.IntN.{ℤ}
use lib.ListN.{length, length-map}
use lib.Seq.{slice}
use Rattle.list.proofs.Elements.{none-at}
use Rattle.text.specs.Answer.{Refused, Got, ◌>>=◌, given}
use Rattle.text.specs.Read.{Put}
use Rattle.text.proofs.Put.{put_whole}
use Rattle.sheet.specs.Sheet.{Event, name_limit}
use Rattle.table.specs.Layout.{table_length, counts_in, parts_in}
use Rattle.table.specs.Table.{is_table, sheet_of, read_table}
use Rattle.table.proofs.Facts.{events-count}
use Rattle.position.specs.Rows.{name_in, event_name}
use Rattle.row.specs.Calls.{row_at, event_name_do}
use Rattle.row_names.specs.Read.{NameAs}

-- ---- the names of a list of events

name-at : (es : List Event) (k : ℕ) → k < length es → slice_get (map (λ e. e.name) es) k ≡ Some (name_in (slice_get es k))
name-at [] k h = absurd (omega arith)
name-at (e ∷ es) zero h = refl
name-at (e ∷ es) (suc k) h = name-at es k (omega arith)

-- the names of the events of a table
abbrev names_of : List ℕ → List (List ℕ)
names_of t = map (λ e. e.name) (sheet_of (parts_in t)).events

-- ---- the request

module _ (t : List ℕ) (i : ℤ) (b : List ℕ) where
  -- a refusal leaves the buffer
  refused : (e : RowError) → event_name_do t i b ≡ Refused (row_refusal e) → NameAs t i b b (Err e)
  refused e f = record { is = sym (ap (λ x. x >>= λ name. Got (length name)) f); bytes = rw f }

  pub other_length : length t ≢ table_length → NameAs t i b b (Err (RowError.Open OpenError.WrongLength))
  unfolding event_name_do
  other_length h = refused _ (rw (ne_eqb (length t) table_length h))

  module _ (z : length t ≡ table_length) where
    pub short_buffer : length b < name_limit → NameAs t i b b (Err (RowError.Open OpenError.WrongLength))
    unfolding event_name_do
    short_buffer h = refused _ (rw (eq-eqb (length t) table_length z, lt-leb name_limit (length b) h))

    module _ (h : name_limit ≤ length b) where
      pub not_table : is_table t ≡ false → NameAs t i b b (Err (RowError.Open OpenError.NotTable))
      unfolding event_name_do read_table
      not_table e = refused _ (rw (eq-eqb (length t) table_length z, le-leb name_limit (length b) h, e))

      module _ (ok : is_table t ≡ true) where
        asked : {o : Option (List ℕ)} → row_at (names_of t) i ≡ o → event_name_do t i b ≡ given 15 o
        unfolding event_name_do read_table
        asked e = rw (eq-eqb (length t) table_length z, le-leb name_limit (length b) h, ok) (ap (given 15) e)

        pub no_row : {e : RowError} → (e ≡ RowError.PastLast) × (row_at (names_of t) i ≡ None) → NameAs t i b b (Err e)
        no_row n = rw n.0 (refused RowError.PastLast (asked n.1))

        module _ {k : ℕ} (row : row_at (names_of t) i ≡ slice_get (names_of t) k) where
          pub past-last : (counts_in t).events ≤ k → NameAs t i b b (Err RowError.PastLast)
          past-last l = no_row (refl, row ∙ none-at (names_of t) k (omega (arith, length-map (sheet_of (parts_in t)).events (λ e. e.name), events-count t)))

          -- the whole of a text that is the name is written
          pub name-put : {x m : List ℕ} {r : ℕ} → k < (counts_in t).events → x ≡ event_name (sheet_of (parts_in t)) k → Put b m 0 (slice 0 (length x) x) r → NameAs t i b m (Ok r)
          name-put {x} {m} {r} l q p =
              let e : event_name_do t i b ≡ Got x = asked (row ∙ name-at (sheet_of (parts_in t)).events k (omega (arith, events-count t)) ∙ ap Some (sym q)) in
              let w : Put b m 0 x r = put_whole x p in
              record { is = rw e (ap Got (omega (arith, w.end))); bytes = rw e w.written }
