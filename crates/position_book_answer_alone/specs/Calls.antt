-- What the calls of a text or a code alone answer to the host: the number and values, and the bytes of the lent buffer at exit. A refusal has
-- zeros for values and keeps every byte. Assumes nothing.
use Rattle.std.specs.Prelude.{ℕ, ◌≡◌, List, ◌++◌, leb, length}
use Rattle.le.specs.Le.{patch}
use Rattle.text.specs.Answer.{Answer, Refused, Got, ◌>>=◌, must}
use Rattle.operate.specs.Operate.{operate_name}
use Rattle.signal.specs.Signal.{Signal, signal_alone}
use Rattle.position_book_answer_alone.specs.declared.SignalAnswer.{SignalAnswer}
use Rattle.position_book_answer_alone.specs.declared.OperateAnswer.{OperateAnswer}
use Rattle.position_book_answer_alone.specs.declared.NameAnswer.{NameAnswer}

-- ---- a signal alone

-- 7, 1, 2, 5 and 6 as 01 has them; then 8 where the buffer is shorter than the text, so that it may not hold what the signal says
unfoldable pub signal_do : List ℕ → List ℕ → Answer Signal
signal_do text out = do
  g ← signal_alone text
  _ ← must 8 (leb (length text) (length out))
  Got g

-- the number, the score and the lengths of the texts that the buffer then holds
abbrev pub signal_answer : Answer Signal → SignalAnswer
signal_answer (Refused n) = record { number = n; score = 0; key = 0; v1 = 0; v2 = 0; v3 = 0 }
signal_answer (Got g) = record { number = 0; score = g.score; key = length g.key; v1 = length g.v1; v2 = length g.v2; v3 = length g.v3 }

-- the key and the three values one after another at the start of the buffer, the later bytes kept
abbrev pub signal_bytes : List ℕ → Answer Signal → List ℕ
signal_bytes out (Refused n) = out
signal_bytes out (Got g) = patch out 0 (g.key ++ g.v1 ++ g.v2 ++ g.v3)

-- r is the number and the values of the answer, and the buffer that was `before` is `after` at exit
abbrev pub SignalIs : Answer Signal → List ℕ → List ℕ → SignalAnswer → Type 0
SignalIs d before after r = (r ≡ signal_answer d) × (after ≡ signal_bytes before d)

-- ---- an operate alone

abbrev pub operate_answer : Answer ℕ → OperateAnswer
operate_answer (Refused n) = record { number = n; code = 0 }
operate_answer (Got c) = record { number = 0; code = c }

-- ---- an operate's Chinese name

-- 4 for a number that is no code; then 8 where the buffer is shorter than the name
unfoldable pub name_do : ℕ → List ℕ → Answer (List ℕ)
name_do code out = do
  name ← operate_name code
  _ ← must 8 (leb (length name) (length out))
  Got name

-- a name's length, since the buffer has the name
abbrev pub length_answer : Answer ℕ → NameAnswer
length_answer (Refused n) = record { number = n; length = 0 }
length_answer (Got n) = record { number = 0; length = n }

abbrev pub name_answer : Answer (List ℕ) → NameAnswer
name_answer a = length_answer (a >>= λ name. Got (length name))

abbrev pub name_bytes : List ℕ → Answer (List ℕ) → List ℕ
name_bytes out (Refused n) = out
name_bytes out (Got name) = patch out 0 name

-- the same of a name
abbrev pub NameIs : Answer (List ℕ) → List ℕ → List ℕ → NameAnswer → Type 0
NameIs d before after r = (r ≡ name_answer d) × (after ≡ name_bytes before d)
