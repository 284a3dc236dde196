-- A header's bytes by the parts that are written. Assumes nothing.
use Rattle.std.specs.Prelude.{Option, None, Some}
use Prim.Native.Nat.{ℕ}
use mathlib.Core.List.{◌++◌}
use mathlib.Core.Path.{◌≡◌, refl}
use lib.Ieee.{to_bits}
use Rattle.position.specs.declared.LastEvent.{LastEvent}
use Rattle.le.specs.Le.{le_bytes, sign_bits}
use Rattle.position.specs.declared.Head.{Head}
use Rattle.book.specs.Layout.{open_time, reference_bytes, head_bytes}
use Rattle.book_header_write.specs.Bytes.{counts_bytes, flags_bytes, times_bytes, last_bytes, last_of}

last-bytes : (r : Option LastEvent) → last_bytes (last_of r) ≡ reference_bytes r
unfolding le_bytes sign_bits to_bits
last-bytes None = refl
last-bytes (Some r) = refl

pub head-parts : (c hs rs : ℕ) (h : Head)
    → counts_bytes c hs rs
    ++ flags_bytes h
    ++ times_bytes h.end (open_time h.long) (open_time h.short) ++ last_bytes (last_of h.reference)
    ≡ head_bytes c hs rs h
unfolding head_bytes le_bytes
head-parts c hs rs h = rw (last-bytes h.reference) refl
