-- The choice that an event of an accepted table gives. Assumes nothing.
use Rattle.std.specs.Prelude.{Option, Some}
use Prim.Native.Nat.{ℕ, ◌<◌, ◌≤◌}
use mathlib.Core.Path.{◌≡◌, sym, ap, ◌∙◌, subst}
use mathlib.Core.List.{List}
use borrow.Author.Tests.{leb-true}
use Rattle.list.proofs.Elements.{next-at}
use Rattle.text.proofs.Conditions.{fact}
use Rattle.sheet.specs.Sheet.{lots_in}
use Rattle.position.specs.Step.{choice_at, choice_of}
use Rattle.table.specs.Layout.{counts_in, between, parts_in}
use Rattle.table.specs.Table.{event_ok, sheet_of, event_of}
use Rattle.table.specs.Read.{EventAt}
use Rattle.table.specs.declared.Places.{Places}
use Rattle.table.specs.declared.EventRow.{EventRow}
use Rattle.table_match.specs.First.{Below}
use Rattle.table_match.proofs.Sound.{Accepted, event_ok_lem, event_next}

-- a match that is an event is one of the table's
pub below : {n i : ℕ} {m : (Option ℕ)} → Below n m → m ≡ Some i → i < n
below b e = subst (Below _) e b

module _ {t : List ℕ} {p : Places} (a : Accepted t p) {l : List ℕ} (f : l ≡ between t p.events p.clauses) {i : ℕ} (h : i < (counts_in t).events) {e : EventRow} (r : EventAt l i e) where
  -- "operates .. are in range"
  pub operate-most : e.operate ≤ 6
  unfolding event_ok
  operate-most = leb-true _ _ (fact _ (event_ok_lem a f h r) 1)

  pub choice_is : {m : (Option ℕ)} → m ≡ Some i → record { operate = e.operate; event = i; lots = lots_in e.kind } ≡ choice_of (sheet_of (parts_in t)).events (m)
  unfolding event_of
  choice_is q = sym (ap (λ (x : Option ℕ). choice_of (sheet_of (parts_in t)).events (x)) q ∙ ap (choice_at i) (next-at (sheet_of (parts_in t)).events i (event_next a f h r)))
