-- The parts of a text, one underscore after another. Assumes nothing.
use mathlib.Core.Path.{◌≡◌, refl, sym, ap}
use mathlib.Core.Logic.{◌≢◌}
use mathlib.Core.Bool.{Bool, true, false, false≢true}
use mathlib.Core.List.{List, [], ◌∷◌}
use Prim.Native.Nat.{ℕ, ◌+◌, ◌≤◌}
use native.Mathlib.Omega.{arith}
use borrow.Author.Tests.{ltb-true, ltb-false}
use lib.Dec.{ltb}
use Rattle.std.specs.Prelude.{Option, Some, None}
use Rattle.std.specs.Bool.{then_some}
use Rattle.std.specs.Option.{is_some}
use lib.ListN.{length}
use lib.Seq.{slice}
use Rattle.text.specs.Text.{split, underscore}
use Rattle.text.specs.Read.{Part, FirstAt}
use Rattle.text.proofs.Laws.{part_end}
use Rattle.text.proofs.Parts.{split-next, split-last, split_some}
use Rattle.signal.specs.Read.{parts_from, PartEnd}

-- the parts from the start are all
pub parts_all : (s : List ℕ) → parts_from s 0 ≡ split underscore s
parts_all s = ap (split underscore) (part_end 0 s)

rest : (s : List ℕ) (from : ℕ) → from ≤ length s → Part s from (length s)
rest s from h = record { order = h; within = omega arith }

module _ {s : List ℕ} {from r : ℕ} (h : from ≤ length s) (f : FirstAt s from (length s) underscore r) where
  pub parts_last : r ≡ length s → parts_from s from ≡ slice from (length s) s ∷ []
  parts_last e = split-last (rest s from h) f e

  pub parts_next : r ≢ length s → parts_from s from ≡ slice from r s ∷ parts_from s (r + 1)
  parts_next e = split-next (rest s from h) f (omega (arith, f.high))

  -- the first underscore is behind a part, or there is none
  pub end-from : PartEnd s from (then_some (ltb r (length s)) r)
  end-from = go (ltb r (length s)) refl
    where
      go : (t : Bool) → ltb r (length s) ≡ t → PartEnd s from (then_some t r)
      go true e = let l = ltb-true r (length s) e in record { order = f.low; within = l; parts = parts_next (omega arith) }
      go false e = parts_last (let h = ltb-false r (length s) e in omega (arith, f.high))

-- where an underscore follows there are more parts, else it is the last
pub more_parts : (s : List ℕ) (from : ℕ) (o : Option ℕ) → PartEnd s from o → is_some o ≡ true → 2 ≤ length (parts_from s from)
more_parts s from (Some a) h e = omega (arith, ap length h.parts, split_some underscore (slice (a + 1) (length s) s))
more_parts s from None h e = absurd (false≢true e)

pub last_part : (s : List ℕ) (from : ℕ) (o : Option ℕ) → PartEnd s from o → is_some o ≡ false → parts_from s from ≡ slice from (length s) s ∷ []
last_part s from (Some a) h e = absurd (false≢true (sym e))
last_part s from None h e = h
