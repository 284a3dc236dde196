-- Rows printed one behind another. Assumes nothing.
use Prim.Native.Nat.{ℕ, zero, suc, ◌+◌, ◌*◌, ◌≤◌, ◌<◌}
use native.Mathlib.Omega.{arith}
use native.Mathlib.Nat.{mul-le-mul_right}
use native.Mathlib.Numerals.{add-one}
use mathlib.Core.List.{List, [], ◌∷◌, ◌++◌, flat_map, append-nil, append_assoc}
use Rattle.std.specs.Prelude.{None, Some, Option, slice_get}
use Rattle.std.proofs.lemmas.Option.{none-some, slice_get_within}
use mathlib.Core.Path.{◌≡◌, sym, ap, subst}
use lib.ListN.{length, take}
use lib.Seq.{take_all}
use Rattle.text.specs.Read.{Put}
use Rattle.text.proofs.Put.{put-none, put-put}
use Rattle.position.specs.Run.{run_bars}
use Rattle.run_fields.specs.Fields.{ShortPut}
use Rattle.run_rows.specs.Rows.{RowAdded}

-- the first i rows were printed from `from` on, each in at most n bytes
pub record Listed {X : Type 0} (rows : List X) (text : X → List ℕ) (n : ℕ) (before after : List ℕ) (from i at : ℕ) : Type 0 where
  pub put : Put before after from (flat_map text (take i rows)) at
  pub few : at ≤ from + i * n
  pub count : i ≤ length rows

-- ---- one row

-- one past the last
none_above : {X : Type 0} (rows : List X) (i : ℕ) → slice_get rows i ≡ None → length rows ≤ i
none_above [] i e = omega arith
none_above (y ∷ rows) zero e = absurd (none-some y (sym e))
none_above (y ∷ rows) (suc i) e = omega (arith, none_above rows i e)

take_next : {X : Type 0} (rows : List X) (i : ℕ) (x : X) → slice_get rows i ≡ Some x → take (suc i) rows ≡ take i rows ++ x ∷ []
take_next [] i x e = absurd (none-some x e)
take_next (y ∷ rows) zero x e = cc
take_next (y ∷ rows) (suc i) x e = ap (λ (l : List _). y ∷ l) (take_next rows i x e)

lines_more : {X : Type 0} (text : X → List ℕ) (xs : List X) (x : X) → flat_map text (xs ++ x ∷ []) ≡ flat_map text xs ++ text x
unfolding flat_map
lines_more text [] x = append-nil (text x)
lines_more text (y ∷ xs) x = rw (lines_more text xs x) (sym (append_assoc (text y) (flat_map text xs) (text x)))

module _ {X : Type 0} {rows : List X} {text : X → List ℕ} {n : ℕ} {before after : List ℕ} {from i at : ℕ} where
  -- one row more
  pub listed_more : Listed rows text n before after from i at → (x : X) (next : List ℕ) (r : ℕ) → slice_get rows i ≡ Some x → ShortPut n after next at (text x) r
      → Listed rows text n before next from (i + 1) r
  listed_more l x next r e p =
      let few = l.few in
      let more = p.short in
      record {
        put = rw (add-one i, take_next rows i x e, lines_more text (take i rows) x) (put-put l.put p.put);
        few = omega arith;
        count = omega (arith, slice_get_within rows i x e);
      }

  -- no row is left
  pub listed_all : Listed rows text n before after from i at → slice_get rows i ≡ None → (most : ℕ) → length rows ≤ most → ShortPut (most * n) before after from (flat_map text rows) at
  listed_all l e most h =
      let few = l.few in
      let count = l.count in
      let all : i * n ≤ most * n = mul-le-mul_right n (omega arith) in
      record {
        put = subst (λ (xs : List X). Put before after from (flat_map text xs) at) (take_all i rows (none_above rows i e)) l.put;
        short = omega arith;
      }

pub listed_none : {X : Type 0} (rows : List X) (text : X → List ℕ) (n : ℕ) (before : List ℕ) (from : ℕ) → from ≤ length before → Listed rows text n before before from 0 from
unfolding flat_map
listed_none rows text n before from h = record { put = put-none before from h; few = omega arith; count = omega arith }

-- ---- the loop

module _ {X : Type 0} {rows : List X} {text : X → List ℕ} {n : ℕ} {before after : List ℕ} {from i at : ℕ} (l : Listed rows text n before after from i at) where
  -- there is room for one row more
  pub listed_room : from + (run_bars + 1) * n ≤ length before → length rows ≤ run_bars → (i ≤ run_bars) × (at + n ≤ length after)
  listed_room h few =
      let short = l.few in
      let count = l.count in
      let kept = l.put.kept in
      let all : i * n ≤ run_bars * n = mul-le-mul_right n (omega arith) in
      (omega arith, omega arith)

  pub listed_next : (a : Option ℕ) {next : List ℕ} {r : ℕ} → RowAdded rows text n i after next at a → a ≡ Some r → Listed rows text n before next from (i + 1) r
  listed_next a {next} {r} e is = let row = subst (RowAdded rows text n i after next at) is e in listed_more l row.0 next r row.1 row.2

  pub listed_last : (a : Option ℕ) {next : List ℕ} → RowAdded rows text n i after next at a → a ≡ None → (most : ℕ) → length rows ≤ most → ShortPut (most * n) before next from (flat_map text rows) at
  listed_last a {next} e is most h = let None = subst (RowAdded rows text n i after next at) is e in rw None.1 (listed_all l None.0 most h)
