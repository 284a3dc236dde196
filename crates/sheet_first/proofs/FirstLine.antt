-- What a first line says, by the fields that were found. Assumes nothing.
use Prim.Native.Nat.{ℕ, suc, ◌+◌, ◌-◌, ◌<◌, ◌≤◌}
use native.Mathlib.Omega.{arith}
use native.Mathlib.Decide.{dec_lt}
use mathlib.Core.Path.{◌≡◌, ◌∙◌, refl, sym, ap}
use mathlib.Core.Logic.{◌≢◌, ◌⊎◌, inl, inr}
use mathlib.Core.Bool.{Bool, true, false, ◌&&◌, ◌||◌}
use mathlib.Core.List.{List, [], ◌∷◌}
use Rattle.sheet.specs.declared.SheetAt.{SheetAt}
use Rattle.sheet.specs.declared.SheetError.{SheetError}
use Rattle.std.specs.Prelude.{Option, None, Some, Result, Ok, Err}
use borrow.Author.Tests.{eq-eqb, ne_eqb, le-leb, lt-leb}
use lib.Dec.{leb, eqb}
use lib.ListN.{length, get_or}
use lib.Seq.{slice, length-slice}
use Rattle.list.specs.Numbered.{numbered, rows}
use Rattle.text.specs.Literal.{bytes, encoded}
use Rattle.text.specs.Text.{same, split, onto, pipe, point}
use Rattle.text.specs.Number.{at_most, digits_to, unsigned}
use Rattle.text.specs.Read.{Part, FirstAt}
use Rattle.text.proofs.Cut.{cut-rest}
use Rattle.text_number.proofs.Digits.{at-most}
use Rattle.stop.specs.Stop.{hundredths_in, stop_in, hundredths_of}
use Rattle.sheet.specs.Sheet.{name_limit, interval_limit, timeout_limit, stop_limit, t0_limit, evening_limit}
use Rattle.sheet.specs.Read.{minutes_in, position_line}
use Rattle.sheet.specs.Places.{fields_of, behind, sheet_at, clauses_before}
use Rattle.sheet.proofs.Fields.{Field, field, LastTwo, last_two, split-few, tag_other, tag_long, two_first}
use Rattle.sheet_first.specs.First.{Names, settings_line, SettingsAs, PositionAs}

-- ---- the numbers

-- what the field from..to is as a number of at most hi
abbrev pub field_of : List ℕ → ℕ → ℕ → ℕ → Option ℕ
field_of s hi from to = at_most hi (digits_to 10 (slice from to s))

pub names-rest : {s : List ℕ} {name symbol to : ℕ} → Names s name symbol to → Part s (symbol + 1) to
names-rest n = record { order = omega (arith, n.within); within = n.line }

-- what is read behind t0 is within its limit
minutes_most : (fs : List (List ℕ)) {v : ℕ} → Some v ≡ minutes_in fs → v ≤ evening_limit
minutes_most [] {v} e =
    let z : v ≡ 0 = cc in
    omega arith
minutes_most (field ∷ _) e = at-most evening_limit (digits_to 10 field) e

module _ {s : List ℕ} {name symbol to : ℕ} (n : Names s name symbol to) (low : 4 ≤ length (fields_of s (symbol + 1) to)) (high : length (fields_of s (symbol + 1) to) ≤ 5)
    {a : ℕ} (at-a : FirstAt s (symbol + 1) to pipe a) where
  f : Field s (symbol + 1) to a
  f = field (names-rest n) at-a (omega (arith, low))

  pub behind-interval : Part s (a + 1) to
  behind-interval = cut-rest f

  pub bad_interval : None ≡ field_of s interval_limit (symbol + 1) a → SettingsAs s name symbol to (Err SheetError.BadNumber)
  unfolding settings_line unsigned hundredths_of
  bad_interval e es cs = record { is = rw (f.fields, ← e); ok = tt }

  module _ {interval : ℕ} (e0 : Some interval ≡ field_of s interval_limit (symbol + 1) a) {b : ℕ} (at-b : FirstAt s (a + 1) to pipe b) where
    g : Field s (a + 1) to b
    g = field behind-interval at-b (omega (arith, f.left, low))

    pub behind-timeout : Part s (b + 1) to
    behind-timeout = cut-rest g

    pub bad_timeout : None ≡ field_of s timeout_limit (a + 1) b → SettingsAs s name symbol to (Err SheetError.BadNumber)
    unfolding settings_line unsigned hundredths_of
    bad_timeout e es cs = record { is = rw (f.fields, g.fields, ← e0, ← e); ok = tt }

    module _ {timeout : ℕ} (e1 : Some timeout ≡ field_of s timeout_limit (a + 1) b) {c : ℕ} (at-c : FirstAt s (b + 1) to pipe c) where
      h : Field s (b + 1) to c
      h = field behind-timeout at-c (omega (arith, g.left, f.left, low))

      pub behind-stop : Part s (c + 1) to
      behind-stop = cut-rest h

      pub bad_stop : None ≡ stop_in stop_limit (slice (b + 1) c s) → SettingsAs s name symbol to (Err SheetError.BadNumber)
      unfolding settings_line unsigned hundredths_of
      bad_stop e es cs = record { is = rw (f.fields, g.fields, h.fields, ← e0, ← e1, ← e); ok = tt }

      module _ {stop : ℕ} (e2 : Some stop ≡ stop_in stop_limit (slice (b + 1) c s)) {d : ℕ} (at-d : FirstAt s (c + 1) to pipe d) where
        last : LastTwo s (c + 1) to d
        last = last_two behind-stop at-d (omega (arith, h.left, g.left, f.left, high))

        pub behind-t0 : Part s d to
        behind-t0 = last.rest

        pub bad_t0 : None ≡ field_of s t0_limit (c + 1) d → SettingsAs s name symbol to (Err SheetError.BadNumber)
        unfolding settings_line unsigned hundredths_of
        bad_t0 e es cs = record { is = rw (f.fields, g.fields, h.fields, last.fields, ← e0, ← e1, ← e2, ← e); ok = tt }

        pub bad_evening : {t0 : ℕ} → Some t0 ≡ field_of s t0_limit (c + 1) d → None ≡ minutes_in (behind s d to) → SettingsAs s name symbol to (Err SheetError.BadNumber)
        unfolding settings_line unsigned hundredths_of
        bad_evening e3 e es cs = record { is = rw (f.fields, g.fields, h.fields, last.fields, ← e0, ← e1, ← e2, ← e3, ← e); ok = tt }

        pub settings-are : {t0 evening : ℕ} → Some t0 ≡ field_of s t0_limit (c + 1) d → Some evening ≡ minutes_in (behind s d to)
            → SettingsAs s name symbol to (Ok (record { name = name; symbol = symbol; interval = interval; timeout = timeout; stop = stop; t0 = t0; evening = evening; events = 0; clauses = 0 }))
        unfolding settings_line unsigned hundredths_of stop_in sheet_at rows numbered clauses_before
        settings-are {t0} {evening} e3 e4 es cs = record {
          is = rw (f.fields, g.fields, h.fields, last.fields, ← e0, ← e1, ← e2, ← e3, ← e4);
          ok = record {
            name = n.first;
            symbol = n.second;
            within = omega (arith, n.within, n.line);
            brief-name = n.brief-name;
            brief-symbol = n.brief-symbol;
            settings = record {
              interval = at-most interval_limit (digits_to 10 (slice (symbol + 1) a s)) e0;
              timeout = at-most timeout_limit (digits_to 10 (slice (a + 1) b s)) e1;
              stop = at-most stop_limit (hundredths_in (split point (slice (b + 1) c s))) e2;
              t0 = at-most t0_limit (digits_to 10 (slice (c + 1) d s)) e3;
              evening = minutes_most (behind s d to) e4;
            };
            few = omega arith;
            short = omega arith;
            events = λ i k. absurd (omega arith);
            all = refl;
            clauses = λ i k. absurd (omega arith);
            rise = λ i k. absurd (omega arith);
          };
        }

-- ---- the first line

and_false : (t : Bool) → (t && false) ≡ false
and_false true = refl
and_false false = refl

-- seven fields, or eight
abbrev seven_or_eight : ℕ → Bool
seven_or_eight n = eqb n 7 || eqb n 8

neither : (n : ℕ) → n ≢ 7 → n ≢ 8 → seven_or_eight n ≡ false
neither n h k = rw (ne_eqb n 7 h) (ne_eqb n 8 k)

either : (n : ℕ) → 7 ≤ n → n ≤ 8 → seven_or_eight n ≡ true
either n h k = elim (dec_lt n 8) [ yes l ↦ rw (eq-eqb n 7 (omega arith)) refl | no l ↦ rw (ne_eqb n 7 (λ e. omega arith)) (eq-eqb n 8 (omega arith)) ]

module _ {s : List ℕ} {to : ℕ} (p : Part s 0 to) {m : ℕ} (count : m ≡ length (fields_of s 0 to)) where
  pub first_count : (m < 7) ⊎ ((7 ≤ m) × (8 < m)) → PositionAs s to (Err SheetError.Malformed)
  unfolding position_line
  first_count h es cs = record { is = rw (← count, other h, and_false (same (get_or (fields_of s 0 to) 0 []) (bytes "P"))); ok = tt }
    where
      other : (m < 7) ⊎ ((7 ≤ m) × (8 < m)) → seven_or_eight m ≡ false
      other (inl l) = neither m (λ e. omega arith) (λ e. omega arith)
      other (inr l) = neither m (λ e. omega arith) (λ e. omega arith)

  module _ (low : 7 ≤ m) (high : m ≤ 8) where
    counted : seven_or_eight (length (fields_of s 0 to)) ≡ true
    counted = rw (← count) (either m low high)

    pub first-room : 2 ≤ to
    first-room = omega (arith, count, split-few pipe (slice 0 to s), length-slice 0 to s p.within)

    pub first_rest : Part s 2 to
    first_rest = record { order = first-room; within = p.within }

    bytes-are : slice 0 to s ≡ get_or s 0 0 ∷ get_or s 1 0 ∷ slice 2 to s
    bytes-are = two_first p first-room

    wrong_tag : same (get_or (fields_of s 0 to) 0 []) (80 ∷ []) ≡ false → PositionAs s to (Err SheetError.Malformed)
    unfolding position_line bytes encoded
    wrong_tag h es cs = record { is = rw h; ok = tt }

    pub first-other : get_or s 0 0 ≢ 80 → PositionAs s to (Err SheetError.Malformed)
    first-other h = wrong_tag (rw bytes-are (tag_other 80 (get_or s 0 0) (get_or s 1 0 ∷ slice 2 to s) h))

    pub first-long : get_or s 1 0 ≢ pipe → PositionAs s to (Err SheetError.Malformed)
    first-long h = wrong_tag (rw bytes-are (tag_long 80 (get_or s 0 0) (get_or s 1 0) (slice 2 to s) h))

    module _ (is-p : get_or s 0 0 ≡ 80) (is-pipe : get_or s 1 0 ≡ pipe) where
      tagged : fields_of s 0 to ≡ (80 ∷ []) ∷ fields_of s 2 to
      unfolding split onto
      tagged =
          let e : slice 0 to s ≡ 80 ∷ pipe ∷ slice 2 to s = bytes-are ∙ rw (is-p, is-pipe) in
          ap (split pipe) e

      six_left : suc (length (fields_of s 2 to)) ≡ m
      six_left = sym (count ∙ ap length tagged)

      module _ {name : ℕ} (at-name : FirstAt s 2 to pipe name) where
        named : Field s 2 to name
        named = field first_rest at-name (omega (arith, six_left))

        pub behind-name : Part s (name + 1) to
        behind-name = cut-rest named

        pub name-long : name_limit < name - 2 → PositionAs s to (Err SheetError.PastLimit)
        unfolding position_line bytes encoded same
        name-long h es cs = record { is = rw (counted, tagged, named.fields, lt-leb (length (slice 2 name s)) 256 (omega (arith, length-slice 2 name s (omega (arith, named.high, p.within))))); ok = tt }

        module _ (short : name - 2 ≤ name_limit) {symbol : ℕ} (at-symbol : FirstAt s (name + 1) to pipe symbol) where
          symbolic : Field s (name + 1) to symbol
          symbolic = field behind-name at-symbol (omega (arith, six_left, named.left))

          name_fits : leb (length (slice 2 name s)) 256 ≡ true
          name_fits = le-leb (length (slice 2 name s)) 256 (omega (arith, length-slice 2 name s (omega (arith, named.high, p.within))))

          pub symbol-long : name_limit < symbol - (name + 1) → PositionAs s to (Err SheetError.PastLimit)
          unfolding position_line bytes encoded same
          symbol-long h es cs = record { is = rw (counted, tagged, named.fields, symbolic.fields, name_fits, lt-leb (length (slice (name + 1) symbol s)) 256 (omega (arith, length-slice (name + 1) symbol s (omega (arith, symbolic.high, p.within))))); ok = tt }

          module _ (brief : symbol - (name + 1) ≤ name_limit) where
            pub names-are : Names s name symbol to
            names-are = record { first = named.low; second = omega (arith, symbolic.low); within = symbolic.high; line = p.within; brief-name = omega arith; brief-symbol = omega (arith, symbolic.low) }

            pub numbers-least : 4 ≤ length (fields_of s (symbol + 1) to)
            numbers-least = omega (arith, six_left, named.left, symbolic.left)

            pub numbers-most : length (fields_of s (symbol + 1) to) ≤ 5
            numbers-most = omega (arith, six_left, named.left, symbolic.left)

            symbol_fits : leb (length (slice (name + 1) symbol s)) 256 ≡ true
            symbol_fits = le-leb (length (slice (name + 1) symbol s)) 256 (omega (arith, length-slice (name + 1) symbol s (omega (arith, symbolic.high, p.within))))

            pub position_is : {r : Result SheetAt SheetError} → SettingsAs s name symbol to r → PositionAs s to r
            unfolding position_line settings_line bytes encoded same
            position_is k es cs = record { is = (k es cs).is ∙ rw (counted, tagged, named.fields, symbolic.fields, name_fits, symbol_fits); ok = (k es cs).ok }
