-- A text that is written to a lent part of a list, which so bounds it. Assumes nothing.
use Prim.Native.Nat.{ℕ, ◌+◌, ◌-◌, ◌≤◌}
use native.Mathlib.Omega.{arith}
use mathlib.Core.List.{List, ◌++◌, append_assoc}
use mathlib.Core.Path.{◌≡◌, refl, sym, ap, ◌∙◌}
use lib.ListN.{length, take, drop, length-drop, take-append-drop}
use lib.Seq.{length-take-le, drop-append-le, drop-drop}
use Rattle.le.specs.Le.{patch}
use Rattle.text.specs.Read.{Put}
use Rattle.text.proofs.Put.{put-patch}
use Rattle.run_fields.specs.Fields.{ShortPut}

pub lent_room : (l : List ℕ) (at room : ℕ) → at + room ≤ length l → room ≤ length (take (at + room - at) (drop at l))
lent_room l at room h =
    let k : at + room - at ≡ room = omega arith in
    rw k (omega (arith, length-take-le room (drop at l) (rw length-drop (omega arith))))

-- q is what stands in room bytes from `at` on, after t was written to their start
pub lent_put : (l : List ℕ) (at room : ℕ) {q t : List ℕ} {n : ℕ} → at + room ≤ length l → Put (take (at + room - at) (drop at l)) q 0 t n
    → ShortPut room l (take at l ++ (q ++ drop (at + room - at) (drop at l))) at t (at + n)
unfolding patch
lent_put l at room {q} {t} {n} h p = record { put = rw end at (put-patch {l = l} {t = t} {at = at} written (omega (arith, short))); short = omega (arith, short, end) }
  where
    k : at + room - at ≡ room
    k = omega arith

    rest : List ℕ
    rest = drop at l

    size : length (take room rest) ≡ room
    size = length-take-le room rest (rw length-drop (omega arith))

    end : at + length t ≡ at + n
    end = omega (arith, p.end)

    lent : length (take (at + room - at) (drop at l)) ≡ room
    lent = rw k size

    short : length t ≤ room
    short = omega (arith, p.end, p.fit, lent)

    is : q ≡ t ++ drop (length t) (take room rest)
    is = p.written ∙ rw (k, (let z : 0 + length t ≡ length t = omega arith in z)) refl

    written : take at l ++ (q ++ drop (at + room - at) (drop at l)) ≡ take at l ++ t ++ drop (at + length t) l
    written =
        rw (k, is)
        (ap (λ (x : List ℕ). take at l ++ x) (append_assoc t (drop (length t) (take room rest)) (drop room rest)
        ∙ ap (λ (x : List ℕ). t ++ x) (sym (drop-append-le (length t) (take room rest) (drop room rest) (omega (arith, size, short))) ∙ ap (drop (length t)) (take-append-drop room rest) ∙ drop-drop (length t) at l))
        ∙ sym (append_assoc (take at l) t (drop (at + length t) l)))
