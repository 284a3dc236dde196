-- `book_header::capacity` meets its contract. Assumes nothing.
use Prim.Native.Nat.{◌/◌}
use native.Mathlib.Omega.{arith}
use mathlib.Core.Bool.{◌&&◌, and-eq-true_iff, false≢true}
use mathlib.Core.Path.{◌≡◌, ◌∙◌, refl, sym}
use lib.Dec.{leb}
use borrow.Author.Rules.{rules}
use borrow.Author.Tests.{leb-true, le-leb}
use Rattle.book.specs.Layout.{bar_limit}
use Rattle.book_header.proofs.Sizes.{bars_found, none_found}
use Rattle.book_header.proofs.capacity.Goals as goal
use Rattle.book_header.proofs.capacity.Goals.{else-contains-via-then-contains+else-n-c, else-contains-via-else-contains}

pub returns-then-n-c : goal.returns-then-n-c
returns-then-n-c c =
    let n = c.saturating_sub.result / 64 in
    let tested : c.contains.result ≡ (leb 1 n && leb n bar_limit) = search rules in
    let range = (and-eq-true_iff (leb 1 n) (leb n bar_limit)).0 (sym tested ∙ c.if-contains.true) in
    let size = c.saturating_sub.ensures in
    rw size (bars_found c.args.b.now (omega (arith, c.if-n-c.true, size)) (omega (arith, leb-true 1 n range.0, size)) (omega (arith, leb-true n bar_limit range.1, size)))

pub returns-else-contains : goal.returns-else-contains
returns-else-contains c =
    let n = c.saturating_sub.result / 64 in
    let tested : c.contains.result ≡ (leb 1 n && leb n bar_limit) = search rules in
    let size = c.saturating_sub.ensures in
    none_found c.args.b.now (λ m k.
    elim c.else-contains.branch [
      | else-contains-via-then-contains+else-n-c w ↦ omega (arith, k.long, w.if-n-c.false, size)
      | else-contains-via-else-contains w ↦
          let same : n ≡ m = omega (arith, k.long, size) in
          false≢true (sym w.if-contains.false ∙ tested ∙ rw (same, le-leb 1 m k.least, le-leb m bar_limit k.most) refl)
    ])
