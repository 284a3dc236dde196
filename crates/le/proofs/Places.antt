-- Parts and patches of a list that is written as its parts. Assumes nothing.
use Prim.Native.Nat.{ℕ, ◌+◌}
use mathlib.Core.Path.{◌≡◌, refl}
use mathlib.Core.List.{List, [], ◌++◌, append_assoc}
use lib.ListN.{length, take, length-append}
use lib.Seq.{take_at, drop_at}
use Rattle.le.specs.Le.{part, patch}

pub part_mid : (p mid q : List ℕ) (at n : ℕ) → length p ≡ at → length mid ≡ n → part (p ++ mid ++ q) at n ≡ mid
unfolding part
part_mid p mid q at n e f = rw (append_assoc p mid q, drop_at p (mid ++ q) at e) (take_at mid q n f)

pub patch_mid : (p old new q : List ℕ) (at : ℕ) → length p ≡ at → length old ≡ length new → patch (p ++ old ++ q) at new ≡ p ++ new ++ q
unfolding patch
patch_mid p old new q at e f = rw (front, drop_at (p ++ old) q (at + length new) far) refl
  where
    far : length (p ++ old) ≡ at + length new
    far = rw (length-append p old, e, f) refl

    front : take at (p ++ old ++ q) ≡ p
    front = rw (append_assoc p old q) (take_at p (old ++ q) at e)

pub patch-first : (old new q : List ℕ) → length old ≡ length new → patch (old ++ q) 0 new ≡ new ++ q
patch-first old new q f = patch_mid [] old new q 0 refl f
