-- Laws of the calls' definitions, for the proofs. Assumes nothing.
use mathlib.Core.Path.{◌≡◌, ◌∙◌, ap}
use mathlib.Core.List.{List, []}
use Prim.Native.Nat.{ℕ, ◌-◌, ◌≤◌, ◌<◌}
use native.Mathlib.Omega.{arith}
use borrow.Author.Tests.{le-leb, lt-leb}
use lib.ListN.{length, get_or}
use lib.Seq.{slice, take-length}
use Rattle.text.specs.Answer.{Answer, Refused, Got}
use Rattle.text.specs.Read.{Put}
use Rattle.text.proofs.Answers.{refused_then}
use Rattle.text.proofs.Put.{put-put}
use Rattle.operate.specs.Operate.{chinese}
use Rattle.operate.specs.Read.{Name}
use Rattle.operate.proofs.Laws.{name-none, name-is}
use Rattle.signal.specs.Signal.{Signal, signal_alone}
use Rattle.signal.specs.Read.{signal_in}
use Rattle.signal.specs.declared.SignalAt.{SignalAt}
use Rattle.position_book_answer_alone.specs.Calls.{signal_do, signal_answer, signal_bytes, SignalIs, name_do, name_answer, name_bytes, NameIs}
use Rattle.position_book_answer_alone.specs.declared.SignalAnswer.{SignalAnswer}
use Rattle.position_book_answer_alone.specs.declared.NameAnswer.{NameAnswer}

-- ---- a signal alone

-- what a signal says, written text by text
pub signal-put : (text : List ℕ) {l m n o z : List ℕ} (a : SignalAt) {k p q r : ℕ}
    → Put l m 0 (signal_in text a).key k → Put m n k (signal_in text a).v1 p → Put n o p (signal_in text a).v2 q → Put o z q (signal_in text a).v3 r
    → SignalIs (Got (signal_in text a)) l z (record { number = 0; score = a.score; key = k; v1 = p - k; v2 = q - p; v3 = r - q })
signal-put text a {k} {p} {q} {r} x y u v = (rw (third, second, first, key), (put-put (put-put (put-put x y) u) v).written)
  where
    key : k ≡ length (signal_in text a).key
    key = omega (arith, x.end)

    first : p - k ≡ length (signal_in text a).v1
    first = omega (arith, y.end)

    second : q - p ≡ length (signal_in text a).v2
    second = omega (arith, u.end)

    third : r - q ≡ length (signal_in text a).v3
    third = omega (arith, v.end)

module _ (text out : List ℕ) where
  pub signal-refused : {n : ℕ} → Refused n ≡ signal_alone text → Refused n ≡ signal_do text out
  unfolding signal_do
  signal-refused e = refused_then _ e

  pub signal-short : {g : Signal} → Got g ≡ signal_alone text → length out < length text → Refused 8 ≡ signal_do text out
  unfolding signal_do
  signal-short e h = rw (← e, lt-leb (length text) (length out) h)

  pub signal-done : {g : Signal} → Got g ≡ signal_alone text → length text ≤ length out → Got g ≡ signal_do text out
  unfolding signal_do
  signal-done e h = rw (← e, le-leb (length text) (length out) h)

  -- the call's whole result, from the case that applies
  pub signal_case : {o : Answer Signal} {r : SignalAnswer} {after : List ℕ} → o ≡ signal_do text out → r ≡ signal_answer o → after ≡ signal_bytes out o → SignalIs (signal_do text out) out after r
  signal_case e p q = (p ∙ ap signal_answer e, q ∙ ap (signal_bytes out) e)

-- ---- an operate's name

module _ (code : ℕ) (out : List ℕ) where
  -- the same of a name
  pub name_case : {o : Answer (List ℕ)} {r : NameAnswer} {after : List ℕ} → o ≡ name_do code out → r ≡ name_answer o → after ≡ name_bytes out o → NameIs (name_do code out) out after r
  name_case e p q = (p ∙ ap name_answer e, q ∙ ap (name_bytes out) e)

  pub name_unknown : 7 ≤ code → Refused 4 ≡ name_do code out
  unfolding name_do
  name_unknown h = rw (← name-none code h)

  module _ {name : List ℕ} (h : code < 7) (n : Name (get_or chinese code []) 6 name) where
    size : length (get_or chinese code []) ≡ 6
    size = omega (arith, ap length n.is, n.size)

    pub name-short : length out < 6 → Refused 8 ≡ name_do code out
    unfolding name_do
    name-short k = rw (← name-is code h, size, lt-leb 6 (length out) k)

    pub name_done : 6 ≤ length out → Got (get_or chinese code []) ≡ name_do code out
    unfolding name_do
    name_done k = rw (← name-is code h, size, le-leb 6 (length out) k)

    -- the array, copied whole to the start
    pub name-put : {after : List ℕ} {r : ℕ} → Put out after 0 (slice 0 6 name) r
        → NameIs (Got (get_or chinese code [])) out after (record { number = 0; length = r })
    name-put {after} {r} p =
        let whole : slice 0 6 name ≡ get_or chinese code [] = rw (n.size, take-length name) n.is in
        let q : Put out after 0 (get_or chinese code []) r = rw whole at p in
        let e : r ≡ length (get_or chinese code []) = omega (arith, q.end) in
        (rw e, q.written)
