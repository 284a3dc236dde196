-- What a line says, by the fields that were found. Assumes nothing.
use Prim.Native.Nat.{ℕ, ◌+◌, ◌^◌, ◌<◌}
use native.Mathlib.Omega.{arith}
use mathlib.Core.List.{List, ◌∷◌}
use mathlib.Core.Logic.{◌≢◌}
use Rattle.std.specs.Prelude.{Option, None, Some, Err}
use Rattle.std.specs.Option.{ok_or}
use mathlib.Core.Path.{◌≡◌, refl, sym, ap, ◌∙◌}
use borrow.Author.Tests.{ne_eqb}
use lib.IntN.{pos}
use lib.Ieee.{Float}
use lib.ListN.{length}
use lib.Seq.{slice}
use mir.Syntax.{w64}
use mir.Val.{SFits, to_z}
use mir.ValLaws.{to_z_pos}
use mir.Facts.{to_z-of_z}
use Rattle.le.proofs.Signs.{back}
use Rattle.text.specs.Answer.{Refused, Got}
use Rattle.text.specs.Number.{digits_to}
use Rattle.text.specs.Read.{FirstAt}
use Rattle.text.specs.Text.{split}
use Rattle.text.proofs.Cut.{split_one, CutAt, cut}
use Rattle.text.proofs.Laws.{part_end}
use Rattle.bar_line.specs.Line.{comma, stamp_of, price_of, line_of}
use Rattle.bar_line.specs.declared.Stamp.{Stamp}
use Rattle.bar.specs.declared.BarNumbers.{BarNumbers}

module _ (line : List ℕ) {n : ℕ} (e : n ≡ length (split comma (slice 0 (length line) line))) where
  pub not_three : n ≢ 3 → Refused 16 ≡ line_of line
  unfolding line_of
  not_three h =
      let k : n ≡ length (split comma line) = e ∙ ap (λ (l : List ℕ). length (split comma l)) (part_end 0 line) in
      rw (← k, ne_eqb n 3 h)

  pub cut-first : n ≡ 3 → {a : ℕ} → FirstAt line 0 (length line) comma a → CutAt comma line 0 (length line) a 2
  cut-first h f = cut (record { order = omega arith; within = omega arith }) f (sym e ∙ h) (omega arith)

-- what `ok_or` refuses was none
pub none_refused : {X E : Type 0} (o : Option X) (d e : E) → Err d ≡ ok_or o e → (o ≡ None) × (d ≡ e)
none_refused (Some x) d e h = absurd (let z : ◌≡◌ {A = ℕ} 0 1 = cc in omega arith)
none_refused None d e h = (refl, cc)

-- the numbers of a bar as the code holds them
pub bar-is : (id : ℕ) (at : Stamp) {x : Float} → id < 2 ^ 63 → SFits w64 at.instant → SFits w64 at.offset
    → ◌≡◌ {A = BarNumbers} (record { id = to_z w64 id; instant = back w64 at.instant; offset = back w64 at.offset; price = x })
    (record { id = pos id; instant = at.instant; offset = at.offset; price = x })
bar-is id at h i o = rw (to_z_pos w64 id h, to_z-of_z i, to_z-of_z o)

module _ {line : List ℕ} {a : ℕ} (f : CutAt comma line 0 (length line) a 2) where
  first : split comma line ≡ slice 0 a line ∷ split comma (slice (a + 1) (length line) line)
  first = ap (split comma) (sym (part_end 0 line)) ∙ f.fields

  three : length (split comma line) ≡ 3
  three = rw first (omega (arith, f.left))

  pub bad_id : None ≡ digits_to 10 (slice 0 a line) → Refused 16 ≡ line_of line
  unfolding line_of
  bad_id e = rw (three, first, ← e)

  module _ {id : ℕ} (e0 : Some id ≡ digits_to 10 (slice 0 a line)) {b : ℕ} (g : CutAt comma line (a + 1) (length line) b 1) where
    pub bad_stamp : Refused 16 ≡ stamp_of (slice (a + 1) b line) → Refused 16 ≡ line_of line
    unfolding line_of
    bad_stamp e = rw (three, first, g.fields, ← e0, ← e)

    module _ {at : Stamp} (e1 : Got at ≡ stamp_of (slice (a + 1) b line)) where
      pub bad_price : {m : ℕ} → Refused m ≡ price_of (slice (b + 1) (length line) line) → Refused m ≡ line_of line
      unfolding line_of
      bad_price e = rw (three, first, g.fields, split_one comma (slice (b + 1) (length line) line) g.left, ← e0, ← e1, ← e)

      pub line-is : {x : Float} → Got x ≡ price_of (slice (b + 1) (length line) line)
          → Got (record { id = pos id; instant = at.instant; offset = at.offset; price = x }) ≡ line_of line
      unfolding line_of
      line-is e = rw (three, first, g.fields, split_one comma (slice (b + 1) (length line) line) g.left, ← e0, ← e1, ← e)
