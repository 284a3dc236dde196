-- Which event a bar's signals choose: on texts alone. Assumes nothing.
use Rattle.std.specs.Prelude.{ℕ, suc, Bool, true, false, not, cond, ◌&&◌, ◌||◌, List, [], ◌∷◌, pos, Option, None, Some}
use Rattle.std.specs.Int.Signed.{le_z}
use Rattle.text.specs.Text.{same, empty}
use Rattle.text.specs.Conditions.{every, any_of}
use Rattle.signal.specs.Signal.{Signal, wildcard}
use Rattle.signal.specs.Value.{Value, value_of}
use Rattle.sheet.specs.Sheet.{Kind, All, Any, Not, Clause, Event}
use Rattle.event.specs.Signals.{Line}

-- ---- a clause

-- the value of a key; "A value counts when ..; otherwise its key counts as absent."
unfoldable pub value_at : List ℕ → List Line → Option Value
value_at k [] = None
value_at k (l ∷ ls) = cond (same k l.key) (value_of l.value) (value_at k ls)

-- "each v is equal or the clause's is wild"
abbrev pub agrees : List ℕ → List ℕ → Bool
agrees own v = same own v || same own wildcard

-- "the score is at least its own, and each v is equal or the clause's is wild"
unfoldable pub meets : Signal → Value → Bool
meets c v = le_z (pos c.score) v.score && agrees c.v1 v.v1 && agrees c.v2 v.v2 && agrees c.v3 v.v3

abbrev pub met_by : Signal → Option Value → Bool
met_by c None = false
met_by c (Some v) = meets c v

-- "A clause holds when its key is present, the score is at least its own, and each v is equal or the clause's is wild."
unfoldable pub holds : List Line → Signal → Bool
holds ls c = met_by c (value_at c.key ls)

-- ---- an event

abbrev pub is_kind : Kind → Kind → Bool
is_kind All All = true
is_kind Any Any = true
is_kind Not Not = true
is_kind All Any = false
is_kind All Not = false
is_kind Any All = false
is_kind Any Not = false
is_kind Not All = false
is_kind Not Any = false

-- the signals of the clauses of a kind, in the order of their lines
unfoldable pub of_kind : Kind → List Clause → List Signal
of_kind k [] = []
of_kind k (c ∷ cs) = let later = of_kind k cs in cond (is_kind k c.kind) (c.signal ∷ later) later

-- "An event matches when no N clause holds, all A clauses hold, and some Y clause holds or there is none."
unfoldable pub matches : List Line → Event → Bool
matches ls e =
    let any = of_kind Any e.clauses in
    not (any_of (holds ls) (of_kind Not e.clauses)) && every (holds ls) (of_kind All e.clauses) && (any_of (holds ls) any || empty any)

-- ---- the first match

abbrev pub is_exit : Event → Bool
is_exit e = e.exit

abbrev pub is_opening : Event → Bool
is_opening e = not e.exit

-- the first event of that kind that matches, where k events stand before
unfoldable pub first_of : (Event → Bool) → ℕ → List Line → List Event → Option ℕ
first_of kind k ls [] = None
first_of kind k ls (e ∷ es) = cond (kind e && matches ls e) (Some k) (first_of kind (suc k) ls es)

abbrev pub preferred : Option ℕ → Option ℕ → Option ℕ
preferred None y = y
preferred (Some x) y = Some x

-- "The first event that matches is chosen, openings before exits; none exactly when none matches."
unfoldable pub first_match : List Event → List Line → Option ℕ
first_match es ls = preferred (first_of is_opening 0 ls es) (first_of is_exit 0 ls es)
