-- The yield that a feed stores is that of the last hold's price and the bar's, whatever the book's bytes; so it lies where double/proofs/Distance
-- says. Assumes nothing.
use Prim.Native.Nat.{ℕ, ◌<◌}
use mathlib.Core.Bool.{◌&&◌, true, and-eq-true_iff}
use mathlib.Core.List.{List}
use mathlib.Core.Path.{◌≡◌, sym, ap, ◌∙◌}
use lib.Ieee.Scale.{finite}
use Rattle.le.specs.Field.{u32}
use Rattle.text.specs.Answer.{Got}
use Rattle.double.specs.Double.{hold_yield}
use Rattle.double.proofs.Distance.{within_38}
use Rattle.bar.specs.Bar.{id_ok, instant_ok, offset_ok}
use Rattle.bar.specs.declared.Bar.{Bar}
use Rattle.position.specs.Step.{settle}
use Rattle.position.specs.Feed.{Input, Accepted}
use Rattle.position.specs.declared.Hold.{Hold}
use Rattle.position_laws.proofs.Reach.{bar_made, fed-bar, yield-ok}
use Rattle.book.specs.Layout.{hold_bytes, hold_of}
use Rattle.book.specs.Calls.{feed_do}
use Rattle.book.specs.Distance.{hold_in, last, Stored38}
use Rattle.book.proofs.Back.{yield_back}
use Rattle.book.proofs.Ranges.{yield_in}
use Rattle.book.proofs.Fed.{took, fed-last}

settled-yield : (bar : Bar) (o : Hold) → finite bar.price ≡ true → (hold_of (hold_bytes (settle bar o))).n1b ≡ hold_yield o.price bar.price
unfolding settle
settled-yield bar o e = yield_back (settle bar o) (yield_in (hold_yield o.price bar.price) (yield-ok o.price bar.price e))

fed-yield : (t b : List ℕ) (i : Input) (a : Accepted (List ℕ)) → feed_do t b i ≡ Got a → 0 < u32 b 0
    → (hold_in a.after (last b)).n1b ≡ hold_yield (hold_in b (last b)).price i.price
fed-yield t b i a e held =
    let f = took t b i a e in
    let bar = f.got.bar in
    let m = bar_made i.id i.instant i.offset i.price bar (fed-bar i f.got f.read) in
    let price : i.price ≡ bar.price = ap (λ (x : Bar). x.price) m.1 in
    let finite-price = ((and-eq-true_iff (id_ok i.id && instant_ok i.instant && offset_ok i.offset) (finite i.price)).0 m.0).1 in
    sym (ap (λ (l : List ℕ). (hold_in l (last b)).n1b) f.after)
    ∙ ap (λ (l : List ℕ). (hold_of l).n1b) (fed-last f.c bar f.g b f.long f.room f.few held)
    ∙ settled-yield bar (hold_in b (last b)) (rw price at finite-price)
    ∙ ap (hold_yield (hold_in b (last b)).price) (sym price)

pub stored_38 : Stored38
stored_38 t b i a e held moved = rw (fed-yield t b i a e held) (within_38 (hold_in b (last b)).price i.price moved)
