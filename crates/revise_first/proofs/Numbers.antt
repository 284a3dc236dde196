-- The revision that a field says, and the bar of four numbers. Assumes nothing.
use Prim.Native.Nat.{ℕ, ◌<◌, ◌≤◌}
use mathlib.Core.List.{List}
use Rattle.revise_first.specs.declared.FirstError.TheVariants.{BadBar}
use Rattle.std.specs.Prelude.{None, Some, Option, Ok, Err}
use mathlib.Core.Path.{◌≡◌, subst}
use borrow.Author.Tests.{le-leb, lt-leb}
use mir.Facts.{to_z-of_z}
use mir.Syntax.{w64}
use mir.Val.{SFits}
use Rattle.le.proofs.Signs.{back}
use Rattle.text.specs.Answer.{Answer, Got}
use Rattle.text.specs.Number.{digits_to, unsigned}
use Rattle.text.proofs.Answers.{refused_then, got_then}
use Rattle.bar.specs.declared.Bar.{Bar}
use Rattle.bar.specs.declared.BarNumbers.{BarNumbers}
use Rattle.book_feed_input.specs.Bars.{BarAs}
use Rattle.revise.specs.Entries.{last_revision, Revision}
use Rattle.revise_first.specs.First.{RangedAs, RevisionAs}

-- ---- `read_revision`

module _ {l : List ℕ} where
  pub revision-none : None ≡ digits_to 10 l → RevisionAs l None
  unfolding unsigned
  revision-none e = record { is = rw (← e) }

  module _ {v : ℕ} (e : Some v ≡ digits_to 10 l) where
    pub revision-past : last_revision < v → RevisionAs l None
    unfolding unsigned
    revision-past h = record { is = rw (← e, lt-leb v last_revision h) }

    pub revision-is : v ≤ last_revision → RevisionAs l (Some v)
    unfolding unsigned
    revision-is h = record { is = rw (← e, le-leb v last_revision h) }

-- ---- `in_range`

module _ {n : BarNumbers} (revision : ℕ) {q : (Option Bar)} (f : SFits w64 n.id) (g : SFits w64 n.instant) (h : SFits w64 n.offset)
    (w : BarAs (back w64 n.id) (back w64 n.instant) (back w64 n.offset) n.price q) where
  -- the bar is read of the numbers as they were given
  told : BarAs n.id n.instant n.offset n.price q
  told = rw (to_z-of_z f, to_z-of_z g, to_z-of_z h) at w

  abbrev numbered : Bar → Answer Revision
  numbered b = Got (record { bar = b; number = revision })

  pub range_in : {b : Bar} → q ≡ Some b → RangedAs n revision (Ok (record { bar = b; revision = revision }))
  range_in e =
      let r = subst (BarAs _ _ _ _) e told in
      record { is = got_then numbered r.is; ok = r.ok }

  pub range_out : q ≡ None → RangedAs n revision (Err BadBar)
  range_out e = record { is = refused_then numbered (subst (BarAs _ _ _ _) e told).is; ok = tt }
