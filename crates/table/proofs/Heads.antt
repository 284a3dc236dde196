-- What is known of a table whose header is right: its counts, its places, and the lengths of its parts. Assumes nothing.
use Prim.Native.Nat.{ℕ, ◌-◌, ◌≤◌}
use native.Mathlib.Omega.{arith}
use mathlib.Core.Bool.{true}
use mathlib.Core.List.{List}
use mathlib.Core.Path.{◌≡◌, refl}
use lib.ListN.{length, take, drop, length-take, length-drop}
use borrow.Author.Tests.{leb-true, eqb-true}
use Rattle.list.proofs.Laws.{rows-length}
use Rattle.le.specs.Le.{part}
use Rattle.text.proofs.Conditions.{fact}
use Rattle.table.specs.Layout.{table_length, event_length, clause_length, word_length, counts_in, places_in, event_in, clause_in, word_in, between, parts_in}
use Rattle.table.specs.Table.{counts_ok, places_ok, head_ok}
use Rattle.table.specs.Read.{Headed}

-- ---- the header

pub headed : (t : List ℕ) → head_ok t ≡ true → Headed t (counts_in t) (places_in t)
unfolding head_ok counts_ok places_ok
headed t e =
    let c = fact _ e 3 in
    let p = fact _ e 4 in
    record {
      size = eqb-true _ _ (fact _ e 0);
      counts = refl;
      places = refl;
      events-few = leb-true _ _ (fact _ c 0);
      clauses-few = leb-true _ _ (fact _ c 1);
      keys-few = leb-true _ _ (fact _ c 2);
      values-few = leb-true _ _ (fact _ c 3);
      name-short = leb-true _ _ (fact _ c 4);
      symbol-short = leb-true _ _ (fact _ c 5);
      events = eqb-true _ _ (fact _ p 0);
      clauses = eqb-true _ _ (fact _ p 1);
      keys = eqb-true _ _ (fact _ p 2);
      values = eqb-true _ _ (fact _ p 3);
      texts = eqb-true _ _ (fact _ p 4);
      names = eqb-true _ _ (fact _ p 5);
      keytexts = leb-true _ _ (fact _ p 6);
      valuetexts = leb-true _ _ (fact _ p 7);
      used = leb-true _ _ (fact _ p 8);
      within = omega (arith, eqb-true (length t) table_length (fact _ e 0), leb-true (places_in t).used table_length (fact _ p 9));
    }

-- ---- the parts

-- the bytes a..b of t, as they are lent
pub lent : (t : List ℕ) (a b : ℕ) → take (b - a) (drop a t) ≡ between t a b
unfolding part
lent t a b = refl

pub between-length : (t : List ℕ) (a b : ℕ) → b ≤ length t → length (between t a b) ≡ b - a
unfolding part
between-length t a b h = omega (arith, length-take (b - a) (drop a t), length-drop a t)

-- how many rows of each kind there are
module _ (t : List ℕ) where
  pub events-many : length (parts_in t).events ≡ (counts_in t).events
  unfolding parts_in
  events-many = rows-length event_in event_length (counts_in t).events _

  pub clauses-many : length (parts_in t).clauses ≡ (counts_in t).clauses
  unfolding parts_in
  clauses-many = rows-length clause_in clause_length (counts_in t).clauses _

  pub keys-many : length (parts_in t).keys ≡ (counts_in t).keys
  unfolding parts_in
  keys-many = rows-length word_in word_length (counts_in t).keys _

  pub values-many : length (parts_in t).values ≡ (counts_in t).values
  unfolding parts_in
  values-many = rows-length word_in word_length (counts_in t).values _
