-- A match as a number, and back. Assumes nothing.
use Rattle.std.proofs.lemmas.Option.{same_Some, none-some}
use Prim.Native.Nat.{ℕ, ◌≤◌, ◌<◌}
use native.Mathlib.Omega.{arith}
use mathlib.Core.List.{List}
use Rattle.std.specs.Prelude.{None, Some, Option}
use mathlib.Core.Path.{◌≡◌, refl, sym, ap, ◌∙◌, subst}
use borrow.Author.Tests.{ne_eqb}
use Rattle.event.specs.Signals.{Line}
use Rattle.event.specs.Match.{first_match}
use Rattle.table.specs.Layout.{counts_in, parts_in}
use Rattle.table.specs.Table.{sheet_of}
use Rattle.table_match.specs.First.{Below}
use Rattle.revise_match.specs.Matched.{match_in, MatchedAt}

event_in_lem : (i : ℕ) → i < 65535 → match_in i ≡ Some i
event_in_lem i h = rw (ne_eqb i 65535 (λ e. omega arith))

module _ {t : List ℕ} {ls : List Line} where
  pub code_event : {i : ℕ} → Some i ≡ first_match (sheet_of (parts_in t)).events ls → i < (counts_in t).events → (counts_in t).events ≤ 32 → MatchedAt t i ls
  code_event {i} e h few =
      let is = event_in_lem i (omega arith) in
      record { is = is ∙ e; below = λ j k. subst (λ (n : ℕ). n < (counts_in t).events) (same_Some i j (sym is ∙ k)) h }

  pub code_nothing : None ≡ first_match (sheet_of (parts_in t)).events ls → MatchedAt t 65535 ls
  code_nothing e = record { is = e; below = λ j k. absurd (none-some j k) }

-- back
pub match_below : {t : List ℕ} {code : ℕ} {ls : List Line} → MatchedAt t code ls → (m : Option ℕ) → m ≡ match_in code → Below (counts_in t).events m
match_below w (Some i) e = w.below i (sym e)
match_below w None e = tt
