-- The texts of a table as they are lent, all at once, and where they are cut. Assumes nothing.
use Prim.Native.Nat.{ℕ, ◌+◌, ◌-◌, ◌≤◌}
use native.Mathlib.Omega.{arith}
use mathlib.Core.Bool.{Bool, true, false, false≢true}
use mathlib.Core.List.{List, [], ◌∷◌}
use mathlib.Core.Path.{◌≡◌, refl, sym, ap, ◌∙◌}
use lib.ListN.{take, drop}
use lib.Seq.{drop-drop}
use Rattle.text.specs.Conditions.{every}
use Rattle.text.proofs.Laws.{part-size}
use Rattle.table_words.specs.Words.{clean}
use Rattle.table.specs.Layout.{parts_in}
use Rattle.table.specs.Read.{Headed}
use Rattle.table.specs.declared.Counts.{Counts}
use Rattle.table.specs.declared.Places.{Places}
use Rattle.table_check_texts.specs.Check.{all_cut, texts_ok}
use Rattle.table_check_texts.proofs.Texts.{pieces, Rise, joined-clean, pieces_clean, lent_from, piece_is, last-is}

-- the bytes a..b of t
abbrev pub lent : List ℕ → ℕ → ℕ → List ℕ
lent t a b = take (b - a) (drop a t)

module _ {t : List ℕ} {c : Counts} {p : Places} (h : Headed t c p) where
  -- the places where the texts are cut
  abbrev cuts : List ℕ
  cuts = (p.texts + c.name) ∷ p.names ∷ p.keytexts ∷ p.valuetexts ∷ []

  rise : Rise p.texts cuts
  rise = (omega arith, (omega (arith, h.names), (h.keytexts, (h.valuetexts, tt))))

  -- they are the pieces of all bytes up to where the last ends
  texts-are : texts_ok (parts_in t) ≡ every clean (pieces (take p.used t) p.texts cuts)
  unfolding texts_ok parts_in
  texts-are =
      rw (
        piece_is t p.used p.texts (p.texts + c.name) (omega arith) (omega (arith, h.names, h.keytexts, h.valuetexts, h.used)),
        piece_is t p.used (p.texts + c.name) p.names (omega (arith, h.names)) (omega (arith, h.keytexts, h.valuetexts, h.used)),
        piece_is t p.used p.names p.keytexts h.keytexts (omega (arith, h.valuetexts, h.used)),
        piece_is t p.used p.keytexts p.valuetexts h.valuetexts h.used,
        last-is t p.used p.valuetexts h.used,
        h.counts,
        h.places,
      )

  ordered : p.texts ≤ p.used
  ordered = omega (arith, h.names, h.keytexts, h.valuetexts, h.used)

  -- all of them, and the places in them
  whole_is : lent t p.texts p.used ≡ drop p.texts (take p.used t)
  whole_is = part-size p.texts p.used t ordered

  cuts_are : all_cut (lent t p.texts p.used) (c.name ∷ (p.names - p.texts) ∷ (p.keytexts - p.texts) ∷ (p.valuetexts - p.texts) ∷ []) ≡ all_cut (take p.used t) cuts
  cuts_are =
      let first : drop c.name (lent t p.texts p.used) ≡ drop (p.texts + c.name) (take p.used t) = rw whole_is (drop-drop c.name p.texts (take p.used t)) in
      rw (
        first,
        lent_from t p.used p.texts p.names (omega (arith, h.names)) ordered,
        lent_from t p.used p.texts p.keytexts (omega (arith, h.names, h.keytexts)) ordered,
        lent_from t p.used p.texts p.valuetexts (omega (arith, h.names, h.keytexts, h.valuetexts)) ordered,
      )

  pub texts_unclean : {x : Bool} → x ≡ clean (lent t p.texts p.used) → x ≡ false → false ≡ texts_ok (parts_in t)
  texts_unclean e f = go (texts_ok (parts_in t)) refl
    where
      go : (b : Bool) → texts_ok (parts_in t) ≡ b → false ≡ b
      go true k = absurd (false≢true (sym f ∙ e ∙ ap clean whole_is ∙ joined-clean (take p.used t) p.texts cuts rise (sym texts-are ∙ k)))
      go false k = refl

  pub texts-cut : {x y : Bool} → x ≡ clean (lent t p.texts p.used) → x ≡ true
      → y ≡ all_cut (lent t p.texts p.used) (c.name ∷ (p.names - p.texts) ∷ (p.keytexts - p.texts) ∷ (p.valuetexts - p.texts) ∷ []) → y ≡ texts_ok (parts_in t)
  texts-cut e f g = g ∙ cuts_are ∙ sym (texts-are ∙ pieces_clean (take p.used t) p.texts cuts rise (sym (ap clean whole_is) ∙ sym e ∙ f))
