-- A key written part by part. Assumes nothing.
use mathlib.Core.Path.{◌≡◌, refl, sym, ap, ◌∙◌}
use mathlib.Core.Bool.{Bool, true, false, not, cond, ◌||◌}
use mathlib.Core.List.{List, [], ◌∷◌, ◌++◌, append_assoc, append-nil}
use Prim.Native.Nat.{ℕ, ◌+◌, ◌-◌, ◌≤◌}
use native.Mathlib.Omega.{arith}
use lib.ListN.{length, length-append}
use lib.Seq.{slice, length-slice}
use Rattle.text.specs.Text.{same, joined, underscore}
use Rattle.text.specs.Read.{Part, Put}
use Rattle.text.proofs.Put.{put-none, put-put}
use Rattle.signal.specs.Signal.{wildcard, without_wild, key_of}
use Rattle.signal.specs.Read.{signal_in, SignalOk, key_part, KeyPut}
use Rattle.signal.specs.declared.SignalAt.{SignalAt}
use Rattle.signal.specs.declared.KeyEnd.{KeyEnd}

or_false : (b : Bool) → b ≡ b || false
or_false true = refl
or_false false = refl

or_true : (b : Bool) → true ≡ b || true
or_true true = refl
or_true false = refl

-- ---- one part

module _ {s : List ℕ} {from to : ℕ} (p : Part s from to) (e : KeyEnd) where
  size : length (slice from to s) ≡ to - from
  size = length-slice from to s p.within

  -- a wildcard adds nothing
  pub key_wild : (l : List ℕ) → e.at ≤ length l → same (slice from to s) wildcard ≡ true → KeyPut l l e s from to e
  key_wild l h w = record { put = rw w (put-none l e.at h); more = rw w (or_false e.some); near = omega arith }

  module _ (w : same (slice from to s) wildcard ≡ false) where
    -- behind another part, an underscore and the part
    pub key-next : {l m n : List ℕ} {x q : ℕ} → e.some ≡ true → Put l m e.at (underscore ∷ []) x → Put m n x (slice from to s) q → KeyPut l n e s from to (record { at = q; some = true })
    key-next o a b = record { put = rw (w, o) (put-put a b); more = rw w (or_true e.some); near = omega (arith, a.end, b.end, size) }

    -- the first part
    pub key-first : {l m : List ℕ} {q : ℕ} → e.some ≡ false → Put l m e.at (slice from to s) q → KeyPut l m e s from to (record { at = q; some = true })
    key-first o a = record { put = rw (w, o) a; more = rw w (or_true e.some); near = omega (arith, a.end, size) }

-- ---- three parts

-- the three parts, each with what parts it from those before it
three_parts : (a b c : List ℕ) → key_part false a ++ key_part (false || not (same a wildcard)) b ++ key_part (false || not (same a wildcard) || not (same b wildcard)) c ≡ key_of a b c
unfolding key_of without_wild joined
three_parts a b c = go (same a wildcard) (same b wildcard) (same c wildcard)
  where
    go : (x y z : Bool)
        → cond x [] a ++ cond y [] (cond (not x) (underscore ∷ b) b) ++ cond z [] (cond (not x || not y) (underscore ∷ c) c)
        ≡ joined (underscore ∷ []) (cond x (cond y (cond z [] (c ∷ [])) (b ∷ cond z [] (c ∷ []))) (a ∷ cond y (cond z [] (c ∷ [])) (b ∷ cond z [] (c ∷ []))))
    go true true true = refl
    go true true false = refl
    go true false true = append-nil b
    go true false false = simp append_assoc
    go false true true = simp append-nil
    go false true false = simp (append-nil, append_assoc)
    go false false true = simp (append-nil, append_assoc)
    go false false false = simp append_assoc

-- what each adds, together
three_sizes : (a b c : List ℕ)
    → length (key_part false a) + length (key_part (false || not (same a wildcard)) b) + length (key_part (false || not (same a wildcard) || not (same b wildcard)) c) ≡ length (key_of a b c)
three_sizes a b c =
    sym (length-append (key_part false a ++ key_part (false || not (same a wildcard)) b) (key_part (false || not (same a wildcard) || not (same b wildcard)) c)
    ∙ ap (λ (k : ℕ). k + length (key_part (false || not (same a wildcard) || not (same b wildcard)) c)) (length-append (key_part false a) (key_part (false || not (same a wildcard)) b)))
    ∙ ap length (three_parts a b c)

first-length : (p : List ℕ) → length (key_part false p) ≤ length p
first-length p = go (same p wildcard)
  where
    go : (t : Bool) → length (cond t [] p) ≤ length p
    go true = omega arith
    go false = omega arith

next-length : (some : Bool) (p : List ℕ) → length (key_part some p) ≤ length p + 1
next-length some p = go (same p wildcard) some
  where
    go : (t u : Bool) → length (cond t [] (cond u (underscore ∷ p) p)) ≤ length p + 1
    go true u = omega arith
    go false true = omega arith
    go false false = omega arith

pub key-length : (a b c : List ℕ) → length (key_of a b c) ≤ length a + length b + length c + 2
key-length a b c =
    let second = next-length (false || not (same a wildcard)) b in
    let third = next-length (false || not (same a wildcard) || not (same b wildcard)) c in
    omega (arith, three_sizes a b c, first-length a, second, third)

-- a signal's key is no longer than what stands before its values
pub key-short : (s : List ℕ) (a : SignalAt) → SignalOk s a → length (signal_in s a).key ≤ a.k3
key-short s a ok =
    let one = length-slice 0 a.k1 s (omega arith) in
    let two = length-slice (a.k1 + 1) a.k2 s (omega arith) in
    let three = length-slice (a.k2 + 1) a.k3 s (omega arith) in
    omega (arith, key-length (slice 0 a.k1 s) (slice (a.k1 + 1) a.k2 s) (slice (a.k2 + 1) a.k3 s), one, two, three, ok.k1-k2, ok.k2-k3)

-- room for a key is room for each part behind those before it
module _ (s : List ℕ) (a : SignalAt) (at : ℕ) (l : List ℕ) (h : at + length (signal_in s a).key ≤ length l) where
  abbrev k1 : List ℕ
  k1 = slice 0 a.k1 s

  abbrev k2 : List ℕ
  k2 = slice (a.k1 + 1) a.k2 s

  abbrev k3 : List ℕ
  k3 = slice (a.k2 + 1) a.k3 s

  sizes : length (key_part false k1) + length (key_part (false || not (same k1 wildcard)) k2) + length (key_part (false || not (same k1 wildcard) || not (same k2 wildcard)) k3)
      ≡ length (signal_in s a).key
  sizes = three_sizes k1 k2 k3

  pub key_one_room : at + length (key_part false k1) ≤ length l
  key_one_room = omega (arith, h, sizes)

  module _ {m : List ℕ} {x : KeyEnd} (p : KeyPut l m (record { at = at; some = false }) s 0 a.k1 x) where
    pub key_two_room : x.at + length (key_part x.some k2) ≤ length m
    key_two_room = rw p.more (omega (arith, h, p.put.end, p.put.kept, sizes))

    pub key_three_room : {n : List ℕ} {y : KeyEnd} → KeyPut m n x s (a.k1 + 1) a.k2 y → y.at + length (key_part y.some k3) ≤ length n
    key_three_room q =
        let e = rw p.more at q.put.end in
        rw (q.more, p.more) (omega (arith, h, p.put.end, p.put.kept, e, q.put.kept, sizes))

pub key-is : {l m n o : List ℕ} {at : ℕ} {s : List ℕ} {a b c d f g : ℕ} {x y z : KeyEnd}
    → KeyPut l m (record { at = at; some = false }) s a b x → KeyPut m n x s c d y → KeyPut n o y s f g z
    → Put l o at (key_of (slice a b s) (slice c d s) (slice f g s)) z.at
key-is {s = s} {a} {b} {c} {d} {f} {g} p q r =
    rw (← three_parts (slice a b s) (slice c d s) (slice f g s))
    (rw (q.more, p.more) at (put-put (put-put p.put q.put) r.put))
