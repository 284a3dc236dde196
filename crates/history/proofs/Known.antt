-- The survivors stay known while accepted feeds have the table and accepted restores the image of the save that they name. Assumes nothing.
use Rattle.std.proofs.lemmas.Option.{same_Some, none-some}
use Prim.Native.Nat.{ℕ, zero, suc}
use mathlib.Core.Bool.{cond}
use mathlib.Core.List.{List, [], ◌∷◌, map}
use Rattle.std.specs.Prelude.{Some, slice_get}
use mathlib.Core.Path.{◌≡◌, refl, ap, ◌∙◌}
use mathlib.Mathlib.Data.List.Defs.{Forall}
use mathlib.Mathlib.Data.List.Basic.{Forall-cons}
use Rattle.text.specs.Answer.{Answer, Got, ◌>>=◌, number}
use Rattle.text.specs.Text.{same}
use Rattle.text.proofs.Same.{same_refl}
use Rattle.text.proofs.Refusals.{Gives, refuses, gives}
use Rattle.position.specs.Step.{Fed}
use Rattle.position.specs.Feed.{Input, Accepted, fed_of}
use Rattle.history.specs.Calls.{Call, Fresh, Feed, FeedLine, Save, Restore, Ask, answered, after, done_from}
use Rattle.history.specs.Survivors.{Past, Unknown, Known, Saved, Ledger, add, saved_as, if_done, survive, ledger_from, images, Ours, AllOurs}
use Rattle.history.proofs.Answered.{feed_fed, of_line}

abbrev pub IsKnown : Past → Type 0
IsKnown Unknown = ⊥
IsKnown (Known fs) = Unit {0}

pub known_is : (p : Past) → IsKnown p → (fs : List Fed) × (p ≡ Known fs)
known_is Unknown k = absurd k
known_is (Known fs) k = (fs, refl)

-- what survives is known, at every save too, and the images are those that the saves left
pub record Sure (l : Ledger) (is : List (List ℕ)) : Type 0 where
  pub past : IsKnown l.past
  pub saves : Forall (λ v. IsKnown v.past) l.saves
  pub left : map (λ v. v.image) l.saves ≡ is

-- those before with its own added
add-known : (p : Past) (a : Answer Fed) (f : Fed) → a ≡ Got f → IsKnown p → IsKnown (add p a)
add-known Unknown a f e k = k
add-known (Known fs) a f e k = rw e tt

-- the image that save number k left
saved_known : (k : ℕ) (image : List ℕ) (vs : List Saved) → Forall (λ v. IsKnown v.past) vs → slice_get (map (λ v. v.image) vs) k ≡ Some image
    → IsKnown (saved_as k image vs)
unfolding saved_as
saved_known k image [] h e = absurd (none-some image e)
saved_known zero image (v ∷ vs) h e =
    rw (same_Some v.image image e, same_refl image) ((Forall-cons (λ (v : Saved). IsKnown v.past) v vs).0 h).0
saved_known (suc k) image (v ∷ vs) h e = saved_known k image vs ((Forall-cons (λ (v : Saved). IsKnown v.past) v vs).0 h).1 e

module _ (table b : List ℕ) (l : Ledger) (is : List (List ℕ)) (k : Sure l is) where
  feed_sure : (t : List ℕ) (i : Input) → Ours table is (Feed t i) (answered b (Feed t i)) → Sure (survive table l (Feed t i) (answered b (Feed t i))) is
  feed_sure t i ours = go (feed_fed t b i) ours
    where
      go : {a : Answer (Accepted (List ℕ))} → Gives (λ x. (f : Fed) × (fed_of i ≡ Got f)) a → (number a ≡ 0 → t ≡ table)
          → Sure (if_done (number a) (record { past = cond (same t table) (add l.past (fed_of i)) Unknown; saves = l.saves }) l) is
      go refuses h = k
      go (gives f) h = record { past = rw (h refl, same_refl table) (add-known l.past (fed_of i) f.0 f.1 k.past); saves = k.saves; left = k.left }

  line_sure : (t line signals : List ℕ) → Ours table is (FeedLine t line signals) (answered b (FeedLine t line signals))
      → Sure (survive table l (FeedLine t line signals) (answered b (FeedLine t line signals))) is
  line_sure t line signals =
      of_line (λ a x. (number x ≡ 0 → t ≡ table) → Sure (if_done (number x) (record { past = cond (same t table) (add l.past (a >>= fed_of)) Unknown; saves = l.saves }) l) is)
      t b line signals (λ n m h. k) (λ i double. feed_sure t i)

  -- with other bars, at the same saves
  at : (n : ℕ) (p : Past) → (n ≡ 0 → IsKnown p) → Sure (if_done n (record { past = p; saves = l.saves }) l) is
  at zero p h = record { past = h refl; saves = k.saves; left = k.left }
  at (suc n) p h = k

  noted : (n : ℕ) (image : List ℕ)
      → Sure (if_done n (record { past = l.past; saves = record { image = image; past = l.past } ∷ l.saves }) l) (if_done n (image ∷ is) is)
  noted zero image =
      record {
        past = k.past;
        saves = (Forall-cons (λ (v : Saved). IsKnown v.past) (record { image = image; past = l.past }) l.saves).1 (k.past, k.saves);
        left = ap (λ (q : List (List ℕ)). image ∷ q) k.left;
      }
  noted (suc n) image = k

  call_sure : (c : Call) → Ours table is c (answered b c) → Sure (survive table l c (answered b c)) (images is c (answered b c))
  call_sure Fresh ours = at (answered b Fresh).number (Known []) (λ e. tt)
  call_sure (Feed t i) ours = feed_sure t i ours
  call_sure (FeedLine t line signals) ours = line_sure t line signals ours
  call_sure (Save t image) ours = noted (answered b (Save t image)).number (answered b (Save t image)).image
  call_sure (Restore t image j) ours =
      at (answered b (Restore t image j)).number (saved_as j image l.saves)
      (λ e. saved_known j image l.saves k.saves (ap (λ (q : List (List ℕ)). slice_get q j) k.left ∙ ours e))
  call_sure (Ask r) ours = k

pub stays_known : (table b : List ℕ) (l : Ledger) (is : List (List ℕ)) (cs : List Call) → Sure l is → AllOurs table is (done_from b cs)
    → IsKnown (ledger_from table l (done_from b cs)).past
unfolding done_from ledger_from
stays_known table b l is [] k ours = k.past
stays_known table b l is (c ∷ cs) k ours =
    stays_known table (after b c) (survive table l c (answered b c)) (images is c (answered b c)) cs (call_sure table b l is k c ours.0) ours.1
