-- Opens every definition of `le` and of what it leans on, for examples that compute. Assumes nothing.
use Rattle.le.specs.Le.{part, patch, le_bytes, le_nat, sign_bits, signed}
use Rattle.le.specs.Real.{real_of}

unfoldable pub opened : Unit {0}
unfolding part patch le_bytes le_nat sign_bits signed real_of
opened = tt
