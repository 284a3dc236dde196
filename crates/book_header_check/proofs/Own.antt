-- A fresh header, written over as many bytes as it has. Assumes nothing.
use Prim.Native.Nat.{ℕ}
use mathlib.Core.List.{List}
use mathlib.Core.Path.{◌≡◌, sym, ap, ◌∙◌}
use lib.ListN.{length, take}
use Rattle.le.specs.Le.{part, patch}
use Rattle.le.proofs.Laws.{patch-all, part-all}
use Rattle.position.specs.State.{fresh_head}
use Rattle.position.specs.declared.Head.{Head}
use Rattle.book.specs.Layout.{head_bytes}
use Rattle.book.proofs.Lengths.{head-length}

pub own_fresh : (l : List ℕ) {a : List ℕ} {h : Head} (c : ℕ) → length l ≡ 96 → h ≡ fresh_head → a ≡ patch l 0 (head_bytes c 0 0 h) → take 96 a ≡ head_bytes c 0 0 fresh_head
unfolding part
own_fresh l {a} {h} c n k e =
    ap (take 96) (e ∙ patch-all l (head_bytes c 0 0 h) (head-length c 0 0 h ∙ sym n) ∙ ap (head_bytes c 0 0) k) ∙ part-all (head_bytes c 0 0 fresh_head) 96 (head-length c 0 0 fresh_head)
