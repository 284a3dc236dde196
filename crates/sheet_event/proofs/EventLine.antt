-- What an event line says, by the fields that were found. Assumes nothing.
use Prim.Native.Nat.{ℕ, suc, ◌+◌, ◌-◌, ◌*◌, ◌%◌, ◌<◌, ◌≤◌}
use native.Mathlib.Omega.{arith}
use mathlib.Core.Path.{◌≡◌, ◌∙◌, refl, sym, ap}
use mathlib.Core.Bool.{Bool, true, false, not, ◌&&◌, ◌||◌, false≢true}
use mathlib.Core.List.{List, [], ◌∷◌}
use Rattle.sheet.specs.declared.SheetError.{SheetError}
use Rattle.std.specs.Prelude.{Ok, Err}
use borrow.Author.Tests.{ne_eqb, eqb-true, le-leb, lt-leb, lt-ltb, le-ltb}
use lib.Dec.{leb, eqb}
use lib.ListN.{length, take, drop}
use lib.Seq.{slice, length-slice}
use Rattle.le.specs.Le.{part, patch}
use Rattle.text.specs.Answer.{Refused, Got}
use Rattle.text.specs.Text.{pipe}
use Rattle.text.specs.Read.{Part, FirstAt}
use Rattle.text.proofs.Laws.{part-size}
use Rattle.text.proofs.Cut.{cut-rest}
use Rattle.operate.specs.Operate.{operate_of}
use Rattle.operate.specs.Read.{code_of}
use Rattle.operate.specs.declared.Operate.{Operate}
use Rattle.operate.specs.declared.Operate.TheVariants.{HL, HS, HO, LO, LE, SO, SE}
use Rattle.sheet.specs.Sheet.{event_limit, name_limit, lots_limit, exit_in, lots_in}
use Rattle.sheet.specs.Read.{lots_behind, event_fields, event_line}
use Rattle.sheet.specs.Places.{fields_of, behind, sheet_refusal}
use Rattle.sheet.specs.declared.SheetAt.{SheetAt}
use Rattle.sheet.proofs.Fields.{Field, field, last_two}
use Rattle.sheet_numbers.specs.Counted.{counted, in_place}
use Rattle.sheet_numbers.proofs.Counts.{event_total, exit-last}
use Rattle.sheet_numbers.proofs.MoreEvents.{event_added, event_ok_lem, EventNumbers}
use Rattle.sheet_event.specs.declared.EventKind.{EventKind}
use Rattle.sheet_event.specs.declared.EventKind.TheVariants.{Opening, Exit}
use Rattle.sheet_event.specs.Line.{kind_number, Told, EventLineAs}

pub kind_low : (k : EventKind) → kind_number k ≤ 1
kind_low Opening = omega arith
kind_low Exit = omega arith

pub code_low : (o : Operate) → code_of o ≤ 6
code_low HL = omega arith
code_low HS = omega arith
code_low HO = omega arith
code_low LO = omega arith
code_low LE = omega arith
code_low SO = omega arith
code_low SE = omega arith

-- ---- how many fields: two or three

few : (exit : Bool) (n : ℕ) → event_fields exit (suc n) ≡ true → (2 ≤ n) × (n ≤ 3)
few exit n h = go (eqb (suc n) 3) refl (eqb (suc n) 4) refl exit h
  where
    go : (t : Bool) → eqb (suc n) 3 ≡ t → (u : Bool) → eqb (suc n) 4 ≡ u → (x : Bool) → (t || not x && u) ≡ true → (2 ≤ n) × (n ≤ 3)
    go true p u q x r = (omega (arith, eqb-true (suc n) 3 p), omega (arith, eqb-true (suc n) 3 p))
    go false p true q x r = (omega (arith, eqb-true (suc n) 4 q), omega (arith, eqb-true (suc n) 4 q))
    go false p false q true r = absurd (false≢true r)
    go false p false q false r = absurd (false≢true r)

-- ---- the lots: an exit has no field behind its name
exit-one : (x : Bool) (more : List (List ℕ)) {lots : ℕ} → event_fields x (suc (suc (suc (length more)))) ≡ true → x ≡ true → Got lots ≡ lots_behind more → lots ≡ 1
exit-one true [] h e l = cc
exit-one true (f ∷ fs) h e l = absurd (false≢true (rw (ne_eqb (suc (suc (suc (suc (length fs))))) 3 (omega arith)) at h))
exit-one false more h e l = absurd (false≢true e)

-- ---- how the line starts

module _ {s : List ℕ} {from to : ℕ} (p : Part s from to) (kind : ℕ) (a : SheetAt) (es : List ℕ) {n : ℕ} (counts : n ≡ length (fields_of s from to)) {t : Bool}
    (tests : t ≡ event_fields (exit_in kind) (suc n)) where
  tested : t ≡ event_fields (exit_in kind) (suc (length (fields_of s from to)))
  tested = tests ∙ ap (λ n. event_fields (exit_in kind) (suc n)) counts

  pub wrong_count : t ≡ false → EventLineAs s from to kind a es es (Err SheetError.Malformed)
  unfolding event_line
  wrong_count e cs ok = record { is = rw (← tested, e); ok = tt }

  module _ (yes : t ≡ true) where
    count : event_fields (exit_in kind) (suc (length (fields_of s from to))) ≡ true
    count = sym tested ∙ yes

    pub misplaced : in_place es a.events kind ≡ false → EventLineAs s from to kind a es es (Err SheetError.Malformed)
    unfolding event_line
    misplaced h cs ok = record { is = rw (count, exit-last ok, h); ok = tt }

    module _ {b : ℕ} (f : FirstAt s from to pipe b) where
      first : Field s from to b
      first = field p f (few (exit_in kind) (length (fields_of s from to)) count).0

      pub rest : Part s (b + 1) to
      rest = cut-rest first

      pub told : {c : ℕ} → FirstAt s (b + 1) to pipe c → in_place es a.events kind ≡ true → Told s es from b c to kind a
      told g h =
          let last = last_two rest g (omega (arith, first.left, (few (exit_in kind) (length (fields_of s from to)) count).1)) in
          record {
            low = f.low;
            middle = g.low;
            high = g.high;
            within = p.within;
            fields = first.fields ∙ ap (λ l. slice from b s ∷ l) last.fields;
            count = count;
            place = h;
          }

-- ---- how it goes on

module _ {s es : List ℕ} {from b c to kind : ℕ} {a : SheetAt} (k : Told s es from b c to kind a) where
  size : length (slice (b + 1) c s) ≡ c - (b + 1)
  size = length-slice (b + 1) c s (omega (arith, k.high, k.within))

  counted-fields : event_fields (exit_in kind) (suc (suc (suc (length (behind s c to))))) ≡ true
  counted-fields = rw k.fields at k.count

  -- the operate as it is lent
  spelled : operate_of (take (b - from) (drop from s)) ≡ operate_of (slice from b s)
  spelled = ap operate_of (part-size from b s k.low)

  pub unknown : Refused 4 ≡ operate_of (take (b - from) (drop from s)) → EventLineAs s from to kind a es es (Err SheetError.UnknownOperate)
  unfolding event_line
  unknown h cs ok =
      let o = h ∙ spelled in
      record { is = rw (k.fields, counted-fields, exit-last ok, k.place, ← o); ok = tt }

  module _ {operate : ℕ} (lent : Got operate ≡ operate_of (take (b - from) (drop from s))) where
    o : Got operate ≡ operate_of (slice from b s)
    o = lent ∙ spelled

    pub long-name : name_limit < c - (b + 1) → EventLineAs s from to kind a es es (Err SheetError.PastLimit)
    unfolding event_line
    long-name h cs ok = record { is = rw (k.fields, counted-fields, exit-last ok, k.place, ← o, lt-leb (length (slice (b + 1) c s)) 256 (omega (arith, size))); ok = tt }

    module _ (short : c - (b + 1) ≤ name_limit) where
      fits : leb (length (slice (b + 1) c s)) 256 ≡ true
      fits = le-leb (length (slice (b + 1) c s)) 256 (omega (arith, size))

      pub bad_lots : {e : SheetError} → Refused (sheet_refusal e) ≡ lots_behind (behind s c to) → EventLineAs s from to kind a es es (Err e)
      unfolding event_line
      bad_lots h cs ok = record { is = rw (k.fields, counted-fields, exit-last ok, k.place, ← o, fits, ← h); ok = tt }

      module _ {lots : ℕ} (l : Got lots ≡ lots_behind (behind s c to)) where
        pub no_room : event_limit ≤ a.events → EventLineAs s from to kind a es es (Err SheetError.PastLimit)
        unfolding event_line
        no_room h cs ok = record { is = rw (k.fields, counted-fields, exit-last ok, k.place, ← o, fits, ← l, event_total ok, le-ltb a.events 32 h); ok = tt }

        -- fs are the numbers, and r the counts, with one event more
        pub event_is : {fs : List ℕ} {r : SheetAt} → 1 ≤ lots → lots ≤ lots_limit → length es ≡ 192 → a.events < event_limit → kind ≤ 1 → operate ≤ 6
            → fs ≡ patch es (6 * a.events) ((kind + 2 * (lots - 1)) ∷ operate ∷ (b + 1) ∷ (c - (b + 1)) ∷ a.clauses ∷ 0 ∷ []) → r ≡ counted a (a.events + 1) a.clauses
            → EventLineAs s from to kind a es fs (Ok r)
        unfolding event_line part
        event_is least most room free low high p q cs ok =
            let two : (kind + 2 * (lots - 1)) % 2 ≡ kind % 2 = omega arith in
            let exit : exit_in (kind + 2 * (lots - 1)) ≡ exit_in kind = ap (λ x. eqb x 1) two in
            let many : lots_in (kind + 2 * (lots - 1)) ≡ lots = omega arith in
            let e : EventNumbers s es a (kind + 2 * (lots - 1)) operate (b + 1) (c - (b + 1)) = record {
              room = room;
              free = free;
              lots = rw (many, le-leb 1 lots least) (le-leb lots 1000 most);
              single = λ x. many ∙ exit-one (exit_in kind) (behind s c to) counted-fields (sym exit ∙ x) l;
              operate-low = high;
              within = omega (arith, k.middle, k.high, k.within);
              brief = short;
              place = rw two k.place;
            } in
            rw (p, q) (record {
              is = ap Got (event_added ok e) ∙ rw (two, many, k.fields, counted-fields, exit-last ok, k.place, ← o, fits, ← l, event_total ok, lt-ltb a.events 32 free, part-size (b + 1) c s k.middle);
              ok = event_ok_lem ok e;
            })
