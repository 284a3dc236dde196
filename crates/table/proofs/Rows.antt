-- A row's fields are those at its place among the rows. Assumes nothing.
use Prim.Native.Nat.{ℕ, ◌+◌}
use mathlib.Core.Path.{◌≡◌, refl}
use mathlib.Core.List.{List}
use lib.ListN.{drop}
use lib.Seq.{drop-drop}
use Rattle.le.specs.Le.{part}
use Rattle.le.specs.Field.{u16}
use Rattle.table.specs.Layout.{event_in, clause_in, word_in}

-- the field k behind the place p
field : (l : List ℕ) (p k : ℕ) → u16 l (p + k) ≡ u16 (drop p l) k
unfolding part
field l p k = rw drop-drop

first : (l : List ℕ) (p : ℕ) → u16 l p ≡ u16 (drop p l) 0
unfolding part
first l p = refl

module _ (l : List ℕ) (p a b c d : ℕ) (ea : a ≡ u16 l p) (eb : b ≡ u16 l (p + 2)) (ec : c ≡ u16 l (p + 4)) (ed : d ≡ u16 l (p + 6)) where
  pub word_is : record { at = a; len = b; rank = c; order = d } ≡ word_in (drop p l)
  unfolding word_in
  word_is = rw (ea, eb, ec, ed, first l p, field l p 2, field l p 4, field l p 6)

  module _ (e f : ℕ) (ee : e ≡ u16 l (p + 8)) (ef : f ≡ u16 l (p + 10)) where
    pub clause_is : record { kind = a; key = b; v1 = c; v2 = d; v3 = e; score = f } ≡ clause_in (drop p l)
    unfolding clause_in
    clause_is = rw (ea, eb, ec, ed, ee, ef, first l p, field l p 2, field l p 4, field l p 6, field l p 8, field l p 10)

    pub event_is : record { kind = a; operate = b; at = c; len = d; first = e; count = f } ≡ event_in (drop p l)
    unfolding event_in
    event_is = rw (ea, eb, ec, ed, ee, ef, first l p, field l p 2, field l p 4, field l p 6, field l p 8, field l p 10)
