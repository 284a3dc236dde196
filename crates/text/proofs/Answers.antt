-- Laws of answers: the first refusal counts. Assumes nothing.
use mathlib.Core.Bool.{Bool, true, false, false≢true}
use Rattle.std.specs.Prelude.{Option, None, Some, Result, Err}
use Rattle.std.specs.Option.{ok_or}
use Rattle.std.specs.Result.{IsErrAnd}
use Rattle.std.proofs.lemmas.Result.{err_from_is_err_and}
use mathlib.Core.Path.{◌≡◌, refl, ap}
use Prim.Native.Nat.{ℕ}
use Rattle.text.specs.Answer.{Answer, Refused, Got, ◌>>=◌, must, given}

pub refused_then : {X Y : Type 0} {n : ℕ} {a : Answer X} (k : X → Answer Y) → Refused n ≡ a → Refused n ≡ (a >>= k)
refused_then k e = ap (λ a. a >>= k) e

pub got_then : {X Y : Type 0} {x : X} {a : Answer X} (k : X → Answer Y) → Got x ≡ a → k x ≡ (a >>= k)
got_then k e = ap (λ a. a >>= k) e

-- ---- where something was got, each step before it got something

pub got_from : {X Y : Type 0} (a : Answer X) (k : X → Answer Y) (y : Y) → (a >>= k) ≡ Got y → (x : X) × (a ≡ Got x) × (k x ≡ Got y)
got_from (Refused n) k y e = absurd (false≢true (cc))
got_from (Got x) k y e = (x, refl, e)

pub must_got : {Y : Type 0} (n : ℕ) (t : Bool) (k : Unit {0} → Answer Y) (y : Y) → (must n t >>= k) ≡ Got y → (t ≡ true) × (k tt ≡ Got y)
must_got n true k y e = (refl, e)
must_got n false k y e = absurd (false≢true (cc))

pub got_same : {X : Type 0} (x y : X) → Got x ≡ Got y → x ≡ y
got_same x y e = cc

pub given_got : {X : Type 0} (n : ℕ) (o : Option X) (x : X) → given n o ≡ Got x → o ≡ Some x
given_got n None x e = absurd (false≢true (cc))
given_got n (Some y) x e = ap Some (got_same y x e)

-- ---- where nothing was had, `ok_or(e)?` answers e

pub none_passed : {X Y E : Type 0} (o : Option X) (d e : E) (r : Result Y E) → Err d ≡ ok_or o e → IsErrAnd r (λ y. y ≡ d) → (o ≡ None) × (r ≡ Err e)
none_passed (Some x) d e r h q = absurd (false≢true cc)
none_passed None d e r h q =
    let p = err_from_is_err_and r q in
    (refl, cc (p.1, p.2))
