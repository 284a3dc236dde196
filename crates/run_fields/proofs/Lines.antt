-- Fields written one behind another make a line. Assumes nothing.
use Prim.Native.Nat.{ℕ}
use mathlib.Core.Path.{◌≡◌, ◌∙◌, refl, sym, ap}
use mathlib.Core.List.{List, [], ◌∷◌, ◌++◌, flat_map, append_assoc, append-nil}
use Rattle.text.specs.Text.{LF, pipe, joined}
use Rattle.text.specs.Read.{Put}
use Rattle.text.proofs.Put.{put-put}
use Rattle.position.specs.Run.{line}
use Rattle.run_fields.specs.Fields.{fields_text}

-- ---- texts

-- a field in front of a line
field_line : (p q : List ℕ) (qs : List (List ℕ)) → (p ++ pipe ∷ []) ++ line (q ∷ qs) ≡ line (p ∷ q ∷ qs)
unfolding line joined
field_line p q qs = sym (append_assoc (p ++ pipe ∷ []) (joined (pipe ∷ []) (q ∷ qs)) (LF ∷ []))

-- fields in front of a line
fields-line : (ps : List (List ℕ)) (q : List ℕ) (qs : List (List ℕ)) → fields_text ps ++ line (q ∷ qs) ≡ line (ps ++ q ∷ qs)
unfolding fields_text flat_map
fields-line [] q qs = refl
fields-line (p ∷ ps) q qs =
    append_assoc (p ++ pipe ∷ []) (fields_text ps) (line (q ∷ qs)) ∙ ap (λ (l : List ℕ). (p ++ pipe ∷ []) ++ l) (fields-line ps q qs) ∙ front ps
  where
    front : (ps : List (List ℕ)) → (p ++ pipe ∷ []) ++ line (ps ++ q ∷ qs) ≡ line (p ∷ ps ++ q ∷ qs)
    front [] = field_line p q qs
    front (x ∷ ps) = field_line p x (ps ++ q ∷ qs)

-- ---- writing

-- the same text by another name
put_as : {a b t u : List ℕ} {at r : ℕ} → t ≡ u → Put a b at t r → Put a b at u r
put_as e p = rw (← e) p

module _ {a b c : List ℕ} {at r end : ℕ} where
  -- the last field of a line
  pub put_last : (q : List ℕ) → Put a b at q r → Put b c r (LF ∷ []) end → Put a c at (line (q ∷ [])) end
  unfolding line joined
  put_last q u v = put-put u v

  -- a field in front of others of a line
  pub put_field : (p q : List ℕ) (qs : List (List ℕ)) → Put a b at (p ++ pipe ∷ []) r → Put b c r (line (q ∷ qs)) end → Put a c at (line (p ∷ q ∷ qs)) end
  put_field p q qs u v = put_as (field_line p q qs) (put-put u v)

  pub put-fields : (ps : List (List ℕ)) (q : List ℕ) (qs : List (List ℕ)) → Put a b at (fields_text ps) r → Put b c r (line (q ∷ qs)) end → Put a c at (line (ps ++ q ∷ qs)) end
  put-fields ps q qs u v = put_as (fields-line ps q qs) (put-put u v)

  -- a field in front of others that others follow
  pub put-more : (p : List ℕ) (ps : List (List ℕ)) → Put a b at (p ++ pipe ∷ []) r → Put b c r (fields_text ps) end → Put a c at (fields_text (p ∷ ps)) end
  unfolding fields_text flat_map
  put-more p ps u v = put-put u v

pub put_one : {a b : List ℕ} {at end : ℕ} (p : List ℕ) → Put a b at (p ++ pipe ∷ []) end → Put a b at (fields_text (p ∷ [])) end
unfolding fields_text flat_map
put_one p u = put_as (sym (append-nil (p ++ pipe ∷ []))) u
