-- Opens every definition of `list`, for examples that compute. Assumes nothing.
use Rattle.list.specs.Numbered.{numbered, rows}

unfoldable pub opened : Unit {0}
unfolding numbered rows
opened = tt
