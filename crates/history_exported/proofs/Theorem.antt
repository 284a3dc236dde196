-- Demand 3 holds of every run of the exported calls, by their contracts alone. Assumes nothing.
use Prim.Native.Nat.{ℕ}
use native.Mathlib.Omega.{arith}
use mathlib.Core.List.{List}
use mathlib.Core.Path.{◌≡◌, refl, sym, ap, subst, ◌∙◌}
use Rattle.text.specs.Answer.{Answer, Got, number, got_or}
use Rattle.text.proofs.Refusals.{Gives, refuses, gives}
use Rattle.table.specs.Compile.{compile_do}
use Rattle.book.specs.Calls.{fresh_do}
use Rattle.history.specs.Calls.{book_after, Done, done_from}
use Rattle.history.specs.Demand3.{Claimed, Demand3}
use Rattle.history.proofs.Answered.{compile_gives, fresh_gives}
use Rattle.history.proofs.Theorem.{demand_3}
use Rattle.history_exported.specs.Run.{Exported}
use Rattle.history_exported.proofs.Tied.{calls_of, run_tied}

-- no call is refused with 0
done : {X : Type 0} {P : X → Type 0} (a : Answer X) → Gives P a → number a ≡ 0 → (x : X) × (a ≡ Got x)
done a refuses e = absurd (let z : ◌≡◌ {A = ℕ} 0 1 = omega arith in omega arith)
done a (gives {x} p) e = (x, refl)

pub exported : Exported
unfolding Exported Demand3
exported text before table r compiled zero lent b q made null ds e ran double =
    let sheet = done (compile_do text before) (compile_gives text before) (sym compiled.0 ∙ zero) in
    let fresh = done (fresh_do lent) (fresh_gives lent) (sym made.0 ∙ null) in
    let book : fresh_do lent ≡ Got b = fresh.1 ∙ ap Got (sym (made.1 ∙ ap (got_or lent) fresh.1)) in
    let tied = run_tied b ds e ran in
    let s = sheet.0 in
    let held = demand_3 text before table s sheet.1 compiled.1 lent b book (calls_of ds) double in
    let moved = subst (λ (x : List ℕ). Claimed table s lent (done_from b (calls_of ds)) x) tied.1 held in
    (s, sheet.1, subst (λ (q : List Done). Claimed table s lent q e) tied.0 moved)
