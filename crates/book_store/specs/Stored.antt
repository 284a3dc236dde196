-- What fresh, save and restore answer, and the lent bytes at exit. Assumes nothing.
use Rattle.book.specs.declared.OpenError.{OpenError}
use Rattle.book.specs.Opened.{open_refusal}
use Rattle.std.specs.Prelude.{ℕ, ◌≡◌, List, Result, Ok, Err}
use Rattle.text.specs.Answer.{Answer, Refused, Got, got_or}

-- the number of each answer; where it is done, the bytes at exit
abbrev pub stored_of : List ℕ → Result (Unit {0}) OpenError → Answer (List ℕ)
stored_of after (Ok u) = Got after
stored_of after (Err e) = Refused (open_refusal e)

-- r is the answer d, and the bytes that were `before` are those that it gives, or as they were
pub record StoredAs (d : Answer (List ℕ)) (before after : List ℕ) (r : Result (Unit {0}) OpenError) : Type 0 where
  pub is : stored_of after r ≡ d
  pub bytes : after ≡ got_or before d
