-- The fingerprint stays below 2 ^ 32.
use Rattle.std.proofs.Common.{◌<◌}
use Rattle.test_console_text.proofs.raw.fingerprint.Given as goal

abbrev pub invariant-loop-x : goal.invariant-loop-x
invariant-loop-x l = l.h < 4294967296
