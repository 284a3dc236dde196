-- `book_header_check::is_fresh` meets its contract. Assumes nothing.
use native.Mathlib.Omega.{arith}
use mathlib.Core.Path.{refl, ap₂, ◌∙◌}
use lib.ListN.{replicate}
use Rattle.text.specs.Text.{same}
use Rattle.position.specs.State.{fresh_head}
use Rattle.book_header_check.proofs.Fields.{bytes-are}
use Rattle.book_header_check.proofs.Own.{own_fresh}
use Rattle.book_header_check.proofs.is_fresh.Goals as goal

pub put_head-requires : goal.put_head-requires
unfolding fresh_head
put_head-requires c = record { in_bounds = omega arith; c_le_bar_limit = c.requires.most; reference_value = rw c.fresh_head.ensures }

pub returns : goal.returns
returns c =
    c.part_eq.ensures ∙ ap₂ same (bytes-are _ 0 96) (own_fresh (replicate 96 0) _ refl c.fresh_head.ensures c.put_head.ensures)
