-- "By the calls' arguments and answers alone, the surviving bars and signals are": no definition here is given a book. Assumes nothing.
use Rattle.std.specs.Prelude.{ℕ, zero, suc, cond, List, [], ◌∷◌, ◌++◌, ◌≡◌, Some, slice_get}
use Rattle.text.specs.Answer.{Answer, Refused, Got, ◌>>=◌}
use Rattle.text.specs.Text.{same}
use Rattle.position.specs.Step.{Fed}
use Rattle.position.specs.Feed.{line_input, fed_of}
use Rattle.history.specs.Calls.{Call, Fresh, Feed, FeedLine, Save, Restore, Ask, Answered, Done}

-- ---- the survivors

-- the bars and signals that the book stands for; they are not known after a restore whose image is not that of the save it names, and after an
-- accepted feed with another table, until a fresh or a restore brings known ones back
pub data Past : Type 0 where
  Unknown : Past
  Known : List Fed → Past

-- an accepted save: the image that it left, and what survived then
pub record Saved : Type 0 where
  pub image : List ℕ
  pub past : Past

-- what survives, and the accepted saves, the last first
pub record Ledger : Type 0 where
  pub past : Past
  pub saves : List Saved

-- "those before with its own added at the end"
abbrev pub add : Past → Answer Fed → Past
add Unknown a = Unknown
add (Known fs) (Refused n) = Unknown
add (Known fs) (Got f) = Known (fs ++ f ∷ [])

-- "those at the save that wrote its image": save number k, where it wrote these bytes
unfoldable pub saved_as : ℕ → List ℕ → List Saved → Past
saved_as k image [] = Unknown
saved_as zero image (v ∷ vs) = cond (same image v.image) v.past Unknown
saved_as (suc k) image (v ∷ vs) = saved_as k image vs

-- "else as before": where a call was refused (no call is refused with 0: history/proofs/Answered)
abbrev pub if_done : {X : Type 0} → ℕ → X → X → X
if_done zero x y = x
if_done (suc n) x y = y

-- "fresh, none; after an accepted feed, those before with its own added at the end; after an accepted restore, those at the save that wrote
-- its image; else as before": of a book whose table this is. A line's "own" is the bar that the line says.
abbrev pub survive : List ℕ → Ledger → Call → Answered → Ledger
survive table l Fresh a = if_done a.number (record { past = Known []; saves = l.saves }) l
survive table l (Feed t i) a = if_done a.number (record { past = cond (same t table) (add l.past (fed_of i)) Unknown; saves = l.saves }) l
survive table l (FeedLine t line signals) a =
    if_done a.number (record { past = cond (same t table) (add l.past (line_input line signals >>= fed_of)) Unknown; saves = l.saves }) l
survive table l (Save t image) a = if_done a.number (record { past = l.past; saves = record { image = a.image; past = l.past } ∷ l.saves }) l
survive table l (Restore t image k) a = if_done a.number (record { past = saved_as k image l.saves; saves = l.saves }) l
survive table l (Ask r) a = l

unfoldable pub ledger_from : List ℕ → Ledger → List Done → Ledger
ledger_from table l [] = l
ledger_from table l (d ∷ ds) = ledger_from table (survive table l d.call d.answer) ds

-- of a book that was made fresh
unfoldable pub survivors : List ℕ → List Done → Past
survivors table ds = (ledger_from table (record { past = Known []; saves = [] }) ds).past

-- ---- what a host keeps, so that the survivors stay known: the table with its book, and each image as a save left it

-- the images that accepted saves left, the last first
abbrev pub images : List (List ℕ) → Call → Answered → List (List ℕ)
images is Fresh a = is
images is (Feed t i) a = is
images is (FeedLine t line signals) a = is
images is (Save t image) a = if_done a.number (a.image ∷ is) is
images is (Restore t image k) a = is
images is (Ask r) a = is

-- an accepted feed had the table, and the image of an accepted restore is the one that the save it names left
abbrev pub Ours : List ℕ → List (List ℕ) → Call → Answered → Type 0
Ours table is Fresh a = Unit {0}
Ours table is (Feed t i) a = a.number ≡ 0 → t ≡ table
Ours table is (FeedLine t line signals) a = a.number ≡ 0 → t ≡ table
Ours table is (Save t image) a = Unit {0}
Ours table is (Restore t image k) a = a.number ≡ 0 → slice_get is k ≡ Some image
Ours table is (Ask r) a = Unit {0}

-- of all calls, where these images were left before
abbrev pub AllOurs : List ℕ → List (List ℕ) → List Done → Type 0
AllOurs table is [] = Unit {0}
AllOurs table is (d ∷ ds) = Ours table is d.call d.answer × AllOurs table (images is d.call d.answer) ds
