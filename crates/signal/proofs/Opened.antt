-- Opens every definition of `signal` and of what it leans on, for examples that compute. Assumes nothing.
use Rattle.utf8.proofs.Opened.{opened as opened-utf8}
use Rattle.signal.specs.Signal.{wildcard, without_wild, key_of, signal_of, signal_alone}
use Rattle.signal.specs.Value.{value_of}

unfoldable pub opened : Unit {0}
unfolding opened-utf8 wildcard without_wild key_of signal_of signal_alone value_of
opened = tt
