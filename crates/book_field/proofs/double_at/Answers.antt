-- `book_field::double_at` meets its contract. Assumes nothing.
use mathlib.Core.Path.{◌∙◌}
use lib.Ieee.{of_bits}
use Rattle.le.specs.Field.{u64}
use Rattle.book_field.proofs.Laws.{or_nan}
use Rattle.book_field.proofs.double_at.Goals as goal

pub returns : goal.returns
unfolding of_bits
returns c =
    let a = c.args in
    c.unwrap_or.ensures ∙ or_nan (u64 a.b.now a.at) _ c.get_f64.ensures
