-- The lines of a text in UTF-8, their fields and the parts of these; and what reading line by line keeps. Assumes nothing.
use Prim.Native.Nat.{ℕ, suc, ◌+◌}
use native.Mathlib.Omega.{arith}
use mathlib.Core.Bool.{Bool, true, false, ◌&&◌}
use mathlib.Core.List.{List, [], ◌∷◌}
use mathlib.Core.Path.{◌≡◌, refl}
use lib.ListN.{length, get_or}
use Rattle.text.specs.Answer.{Answer}
use Rattle.text.specs.Conditions.{all_of}
use Rattle.text.specs.Text.{has, split, each_line, LF, pipe, underscore}
use Rattle.text.proofs.Conditions.{◌also◌, none_left, sure}
use Rattle.text.proofs.Refusals.{Gives, refuses, gives, then_with}
use Rattle.utf8.specs.Utf8.{utf8}
use Rattle.table_words.specs.Words.{clean}
use Rattle.text.proofs.Every.{every-at}
use Rattle.text.proofs.Joined.{lacks, split_lacks, total}
use Rattle.table_limits.proofs.Parted.{Parted, split_at, utf8_parted, lacks_parted, two_parted, same_parted}

-- a line without its LF
pub record Line (p : List ℕ) : Type 0 where
  pub right : utf8 p ≡ true
  pub one : lacks LF p ≡ true

-- part i, which is empty where there is none
lacks_at : (b : ℕ) (s : List ℕ) (i : ℕ) → lacks b (get_or (split b s) i []) ≡ true
unfolding has
lacks_at b s i = every-at (lacks b) [] refl (split b s) (split_lacks b s) i

pub line_at : (s : List ℕ) → utf8 s ≡ true → (i : ℕ) → Line (get_or (split LF s) i [])
line_at s e i = record { right = split_at (utf8_parted LF (omega arith)) s e i; one = lacks_at LF s i }

pub field_at : {p : List ℕ} → Line p → (i : ℕ) → clean (get_or (split pipe p) i []) ≡ true
unfolding clean
field_at {p} l i =
    let right = split_at (utf8_parted pipe (omega arith)) p l.right i in
    let one = split_at (lacks_parted pipe LF refl) p l.one i in
    sure (right also lacks_at pipe p i also one also none_left)

-- ---- the parts of a field

pub clean_parted : Parted underscore clean
unfolding clean all_of
clean_parted =
    same_parted (two_parted (utf8_parted underscore (omega arith)) (two_parted (lacks_parted underscore pipe refl) (lacks_parted underscore LF refl)))
    (λ l. go (utf8 l) (lacks pipe l) (lacks LF l))
  where
    go : (a b c : Bool) → all_of (a ∷ b ∷ c ∷ []) ≡ (a && (b && c))
    go true true true = refl
    go true true false = refl
    go true false c = refl
    go false b c = refl

pub part-clean : (f : List ℕ) → clean f ≡ true → (i : ℕ) → clean (get_or (split underscore f) i []) ≡ true
part-clean f e i = split_at clean_parted f e i

pub part_lacks : (f : List ℕ) (i : ℕ) → lacks underscore (get_or (split underscore f) i []) ≡ true
part_lacks f i = lacks_at underscore f i

-- ---- line by line

-- `Kept n x`: x is as it should be while n bytes are left for later lines. What each line keeps by spending no more than its own bytes,
-- all lines keep.
module _ {X : Type 0} (f : X → List (List ℕ) → Answer X) (Kept : ℕ → X → Type 0)
    (step : (n : ℕ) (x : X) (p : List ℕ) → Line p → Kept (length p + n) x → Gives (Kept n) (f x (split pipe p))) where
  pub lines_keep : (ps : List (List ℕ)) → ((i : ℕ) → Line (get_or ps i [])) → (x : X) → Kept (total ps) x → Gives (Kept 0) (each_line f x ps)
  unfolding each_line total
  lines_keep [] ls x k = gives k
  lines_keep ([] ∷ []) ls x k = gives k
  lines_keep ((b ∷ p) ∷ []) ls x k = refuses
  lines_keep (p ∷ q ∷ ps) ls x k = then_with (step (total (q ∷ ps)) x p (ls 0) k) (λ y h. lines_keep (q ∷ ps) (λ i. ls (suc i)) y h)
