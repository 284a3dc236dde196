-- A buffer that is filled with rows, one behind another, while they fit. Assumes nothing.
use Prim.Native.Nat.{ℕ, ◌+◌, ◌-◌, ◌<◌}
use native.Mathlib.Omega.{arith}
use mathlib.Core.List.{List, [], ◌∷◌, ◌++◌, flatten, append_assoc, append-nil}
use mathlib.Core.Path.{◌≡◌, ◌∙◌, refl, sym, ap, ap₂}
use borrow.Author.Tests.{le-leb, lt-leb}
use lib.ListN.{length, length-append}
use Rattle.text.specs.Read.{Put}
use Rattle.text.proofs.Put.{put-none, put-put}
use Rattle.row_blocks.specs.Blocks.{fitting}
use Rattle.row_blocks.specs.Read.{Filled}

-- one row more behind the others
flatten_more : (done : List (List ℕ)) (r : List ℕ) → flatten (done ++ r ∷ []) ≡ flatten done ++ r
unfolding flatten
flatten_more [] r = append-nil r
flatten_more (x ∷ done) r = ap (λ (l : List ℕ). x ++ l) (flatten_more done r) ∙ sym (append_assoc x (flatten done) r)

-- ---- the next row fits, or does not

fitting-next : (room : ℕ) (r : List ℕ) (rs : List (List ℕ)) (left : ℕ) → room ≡ length r + left → fitting room (r ∷ rs) ≡ r ∷ fitting left rs
unfolding fitting
fitting-next room r rs left e =
    let less : room - length r ≡ left = omega arith in
    rw (le-leb (length r) room (omega arith), less)

fitting-full : (room : ℕ) (r : List ℕ) (rs : List (List ℕ)) → room < length r → fitting room (r ∷ rs) ≡ []
unfolding fitting
fitting-full room r rs h = rw (lt-leb (length r) room h)

-- ---- the loop: n of all rows were written, up to `at`, and those of the rest follow that still fit

pub record Filling (all : List (List ℕ)) (before after : List ℕ) (rest : List (List ℕ)) (n at : ℕ) : Type 0 where
  pub done : List (List ℕ)
  pub still : fitting (length before) all ≡ done ++ fitting (length before - at) rest
  pub put : Put before after 0 (flatten done) at
  pub count : n ≡ length done

pub filling_none : (all : List (List ℕ)) (before : List ℕ) → Filling all before before all 0 0
unfolding flatten
filling_none all before =
    let whole : length before - 0 ≡ length before = omega arith in
    record { done = []; still = rw whole; put = put-none before 0 (omega arith); count = refl }

module _ {all : List (List ℕ)} {before after : List ℕ} {n at : ℕ} where
  pub filling_next : {r later : List ℕ} {rest : List (List ℕ)} {q : ℕ} → Filling all before after (r ∷ rest) n at → Put after later at r q → Filling all before later rest (n + 1) q
  filling_next {r} {later} {rest} {q} f w =
      let room : length before - at ≡ length r + (length before - q) = omega (arith, w.end, w.fit, f.put.kept) in
      record {
        done = f.done ++ r ∷ [];
        still = f.still ∙ ap (λ (l : List (List ℕ)). f.done ++ l) (fitting-next (length before - at) r rest (length before - q) room)
            ∙ sym (append_assoc f.done (r ∷ []) (fitting (length before - q) rest));
        put = rw (flatten_more f.done r) (put-put f.put w);
        count = rw (length-append f.done (r ∷ [])) (omega (arith, f.count));
      }

  -- nothing more is written
  filled : {rest : List (List ℕ)} → Filling all before after rest n at → fitting (length before - at) rest ≡ [] → Filled all before after (record { rows = n; length = at })
  filled {rest} f e =
      let whole : fitting (length before) all ≡ f.done = f.still ∙ ap (λ (l : List (List ℕ)). f.done ++ l) e ∙ append-nil f.done in
      let size : at ≡ length (flatten f.done) = omega (arith, f.put.end) in
      record { is = rw whole (ap₂ (λ (a b : ℕ). record { rows = a; length = b }) f.count size); bytes = rw whole f.put.written }

  pub filling_full : {r : List ℕ} {rest : List (List ℕ)} → Filling all before after (r ∷ rest) n at → length before - at < length r
      → Filled all before after (record { rows = n; length = at })
  filling_full {r} {rest} f h = filled f (fitting-full (length before - at) r rest h)

  pub filling_last : Filling all before after [] n at → Filled all before after (record { rows = n; length = at })
  unfolding fitting
  filling_last f = filled f refl
