-- The texts of an accepted table as they are lent: the position's name and symbol, and the name of an event. Assumes nothing.
use Prim.Native.Nat.{ℕ, ◌+◌, ◌-◌, ◌<◌, ◌≤◌}
use native.Mathlib.Omega.{arith}
use mathlib.Core.Path.{◌≡◌, ◌∙◌, refl, sym, ap, subst}
use mathlib.Core.Bool.{true}
use mathlib.Core.List.{List}
use borrow.Author.Tests.{leb-true}
use lib.ListN.{length, take, drop}
use lib.Seq.{drop-drop}
use Rattle.le.specs.Le.{part}
use Rattle.list.proofs.Elements.{next-at}
use Rattle.text.proofs.Conditions.{fact}
use Rattle.text.proofs.Laws.{part-size, part-take}
use Rattle.sheet.specs.Sheet.{name_limit}
use Rattle.table.specs.Layout.{counts_in, places_in, between, parts_in, event_text}
use Rattle.table.specs.Table.{event_ok, events_ok, parts_ok, is_table, event_of, sheet_of}
use Rattle.table.specs.Read.{EventAt, Headed}
use Rattle.table.specs.declared.Counts.{Counts}
use Rattle.table.specs.declared.Places.{Places}
use Rattle.table.specs.declared.EventRow.{EventRow}
use Rattle.table.proofs.Facts.{table_facts}
use Rattle.table.proofs.Heads.{headed, lent, between-length, events-many}
use Rattle.table.proofs.Spans.{follow-within}
use Rattle.position.specs.Rows.{name_in, event_name}
use Rattle.table_match.proofs.Sound.{Accepted, event_next, no_event, event_is, event_ok_lem}

-- the bytes from..to of t, as they are lent, are the text, which is no longer than a name may be
abbrev Lent : List ℕ → ℕ → ℕ → List ℕ → Type 0
Lent t from to text = (take (to - from) (drop from t) ≡ text) × (length (take (to - from) (drop from t)) ≤ name_limit)

lent_text : (t : List ℕ) (from to : ℕ) {text : List ℕ} → to ≤ length t → to - from ≤ name_limit → between t from to ≡ text → Lent t from to text
lent_text t from to h k e = (lent t from to ∙ e, omega (arith, ap length (lent t from to), between-length t from to h))

-- ---- the position's name and symbol

module _ (t : List ℕ) (ok : is_table t ≡ true) {c : Counts} {p : Places} (cs : c ≡ counts_in t) (ps : p ≡ places_in t) where
  head : Headed t c p
  head = rw (cs, ps) (headed t (table_facts t ok).0)

  pub name-room : p.texts + c.name ≤ length t
  name-room = omega (arith, head.names, head.keytexts, head.valuetexts, head.used, head.within)

  pub symbol-room : (p.texts + c.name ≤ p.names) × (p.names ≤ length t)
  symbol-room = (omega (arith, head.names), omega (arith, head.keytexts, head.valuetexts, head.used, head.within))

  pub name-is : Lent t p.texts (p.texts + c.name) (sheet_of (parts_in t)).name
  unfolding sheet_of parts_in
  name-is = lent_text t p.texts (p.texts + c.name) name-room (omega (arith, head.name-short)) (rw (cs, ps))

  pub symbol-is : Lent t (p.texts + c.name) p.names (sheet_of (parts_in t)).symbol
  unfolding sheet_of parts_in
  symbol-is = lent_text t (p.texts + c.name) p.names symbol-room.1 (omega (arith, head.names, head.symbol-short)) (rw (cs, ps))

-- ---- the name of an event

-- a part of a part
part-part : (t : List ℕ) (a b at n : ℕ) → a ≤ b → a + at + n ≤ b → between t (a + at) (a + at + n) ≡ part (between t a b) at n
unfolding part
part-part t a b at n h k =
    part-size (a + at) (a + at + n) t (omega arith)
    ∙ sym (part-take (a + at) b n t k)
    ∙ ap (take n) (sym (drop-drop at a (take b t)))
    ∙ ap (λ (l : List ℕ). take n (drop at l)) (sym (part-size a b t h))

module _ {t : List ℕ} {p : Places} (a : Accepted t p) {i : ℕ} (h : i < (counts_in t).events) {e : EventRow} (r : EventAt (between t p.events p.clauses) i e) where
  many : i < length (parts_in t).events
  many = omega (arith, events-many t)

  short : e.len ≤ name_limit
  unfolding event_ok
  short = leb-true _ _ (fact _ (event_ok_lem a refl h r) 2)

  within : e.at + e.len ≤ length (parts_in t).names
  unfolding parts_ok events_ok
  within = subst (λ x. x.at + x.len ≤ length (parts_in t).names) (event_is a refl h r) (follow-within (λ x. x.at) (λ x. x.len) no_event 0 (length (parts_in t).names) (parts_in t).events (fact _ (fact _ (table_facts t a.table).1 2) 1) i many)

  names-room : (p.names ≤ p.keytexts) × (p.keytexts ≤ length t)
  names-room =
      let d : Headed t (counts_in t) p = head t a.table refl a.places in
      (d.keytexts, omega (arith, d.valuetexts, d.used, d.within))

  name-end : p.names + e.at + e.len ≤ p.keytexts
  unfolding parts_in
  name-end = omega (arith, rw (← a.places) at (within), between-length t p.names p.keytexts names-room.1, names-room.0)

  pub event_name-room : p.names + e.at + e.len ≤ length t
  event_name-room = omega (arith, name-end, names-room.1)

  named : event_name (sheet_of (parts_in t)) i ≡ part (between t p.names p.keytexts) e.at e.len
  unfolding event_of event_text parts_in
  named = rw a.places (ap name_in (next-at (sheet_of (parts_in t)).events i (event_next a refl h r)))

  pub event_name-is : Lent t (p.names + e.at) (p.names + e.at + e.len) (event_name (sheet_of (parts_in t)) i)
  event_name-is =
      lent_text t (p.names + e.at) (p.names + e.at + e.len) event_name-room (omega (arith, short))
      (part-part t p.names p.keytexts e.at e.len names-room.0 name-end ∙ sym named)
