-- A sheet that is cut at some byte. Its refusal at the cut is 1, or 26 if a net sheet is cut after one of its gate lines. After the first lines every
-- earlier fault of the part is also a fault of the sheet, and an accepted part has ended there (for a net sheet, if it has all n − 1 gate lines). A
-- part with fewer gate lines says nothing about the sheet, which may be accepted too, as another net. So "a sheet without an earlier fault that
-- hasn't ended by then" (document 02, K6), cut there, is refused with 1 at the cut: for every sheet, and every cut after the first lines.
-- Assumes nothing.
use Rattle.std.specs.Prelude.{◌<◌, ◌≤◌, ◌+◌, ◌-◌, ◌^◌, ◌*◌, ◌≡◌, ◌&&◌, ◌∷◌, ◌++◌}
use Rattle.laws.specs.Prelude.{ℕ, suc, zero, ◌∙◌, sym, ap, refl, ap₂, subst⁻¹, true, false, Bool, not}
use Rattle.laws.specs.Prelude.{and-eq-true_iff, List, [], map, zero-add, mul-le-mul, arith, eqb, length, take, drop, length-append, length-drop}
use Rattle.laws.specs.Prelude.{take-append-drop, length-take-le, eqb-true, read_cases}
use Rattle.rules.specs.Calls.Answers.{Answer, accepted, refused}
use Rattle.rules.specs.Limits.{cells_fit_of, most_levels, most_inputs}
use Rattle.rules.specs.Lists.{all, any, same}
use Rattle.rules.specs.Sheets.Fields.{Read, read, turned_back, Reader, then, ◌>>=◌, give, Judged, good, bad, judged, strict, run, field, the_word, closed}
use Rattle.rules.specs.Sheets.Reading.{answered, read_net, read_table}
use Rattle.rules.specs.Sheets.SheetRules.{GoodNames, HeaderRules}
use Rattle.rules.specs.Sheets.Sheets.{Header, Gate, Net, levels_field, inputs_of, inputs_field, is_name, name_field, name_fields, name_fields_in, header_lines}
use Rattle.rules.specs.Sheets.Sheets.{header_lines_in, reference_text, reference_of, reference_field, digits_field, used_by, gate_line, or_end, gate_lines, all_used}
use Rattle.rules.specs.Sheets.Sheets.{net_sheet, levels_at, level_field, ink_field, level_fields, row_lines, table_sheet}
use Rattle.rules.specs.Text.{space, newline, text, digit_byte, is_digit}
use Prim.Native.String.{String}
use Rattle.std.proofs.Math.Option.{Option, none, some}
use Rattle.laws.specs.Lists.Same.{same_true, same_length}
use Rattle.laws.specs.Calls.Answers.{not_refused}
use Rattle.laws.specs.Nets.Inks.{field_bad}
use Rattle.laws.specs.Lists.Finds.{found_is, first_in_range}
use Rattle.laws.specs.Numbers.Sizes.{inputs_fit_lem, kept_size}
use Rattle.laws.specs.Numbers.Decimals.{decimal_length}
use Rattle.readback.specs.Readers.Fields.{not_good, judged_good, parts_newline}
use Rattle.readback.specs.Readers.Judges.{judges_inputs, name_parts}
use Rattle.readback.specs.Nets.References.{judges_reference}
use Rattle.readback.specs.Sheets.Header.{spells_header}
use Rattle.readback.specs.Readers.Spells.{not_read}
use Rattle.readback.specs.Readers.Collects.{then_then}
use Rattle.readback.specs.Readers.Ends.{used_read, used_turned}
use Rattle.readback.specs.Sheets.Length.{reference_length_lem}
use Rattle.readback.specs.Readers.Walks.{Compositional, AnyJudge, any_first, names_walk, header_walk, levels_walk, rows_walk, gate_walk}
use Rattle.readback.specs.Readers.Cuts.{Goes, Stopped, at_end, late_end, before, Firm, Shuts, Takes, goes_give, firm_give, takes_give}
use Rattle.readback.specs.Readers.Cuts.{goes_then, firm_then, takes_then, shuts_then, takes_more, firm_more, Stays, Narrow, goes_field}
use Rattle.readback.specs.Readers.Cuts.{field_good, firm_field, firm_step, takes_step, firm_end, shuts_end}

-- ---- the judges

-- if a verdict is bad, the test failed, with its number
judged_bad : {A : Type 0} (test : Bool) (a : A) (number k : ℕ) → judged test a number ≡ bad k → (test ≡ false) × (k ≡ number)
judged_bad true a number k e = absurd (not_good k a (sym e))
judged_bad false a number k e = (refl, (cc))

-- a fixed word
narrow_word : (word : String) → Narrow (length (text word)) (the_word word)
unfolding the_word
narrow_word word = record {
  short = λ w a e. let same : w ≡ text word = same_true w (text word) (judged_good (same w (text word)) tt 1 a e).0 in omega (arith, ap length same);
  number = 1;
  one = λ w k e _. (judged_bad (same w (text word)) tt 1 k e).1;
}

narrow_levels : Narrow 1 levels_field
unfolding levels_field
narrow_levels = record { short = short; number = 2; one = one }
  where
    short : (w : List ℕ) (a : ℕ) → levels_field w ≡ good a → length w ≤ 1
    short [] a e = omega arith
    short (b ∷ []) a e = omega arith
    short (b ∷ c ∷ w) a e = absurd (not_good 2 a e)

    one : (w : List ℕ) (k : ℕ) → levels_field w ≡ bad k → 1 < length w → k ≡ 2
    one [] k e l = absurd (omega arith)
    one (b ∷ []) k e l = absurd (omega arith)
    one (b ∷ c ∷ w) k e l = cc

narrow_inputs : (m : ℕ) → Narrow 2 (inputs_field m)
unfolding inputs_field
narrow_inputs m = record { short = short; number = 3; one = one }
  where
    short : (w : List ℕ) (a : ℕ) → inputs_field m w ≡ good a → length w ≤ 2
    short w a e =
        let ((n, fits, _), _, is) = (judges_inputs m).only w a e in
        omega (arith, (inputs_fit_lem n).0 fits, decimal_length 1 n (omega (arith, (inputs_fit_lem n).0 fits)), ap length is)

    one : (w : List ℕ) (k : ℕ) → inputs_field m w ≡ bad k → 2 < length w → k ≡ 3
    one w k e l = go (inputs_of w) e
      where
        go : (o : Option ℕ) → ◌≡◌ {A = Judged ℕ} (elim o [ none ↦ bad 3 | some n ↦ judged (cells_fit_of m n) n 3 ]) (bad k) → k ≡ 3
        go none e = cc
        go (some n) e = (judged_bad (cells_fit_of m n) n 3 k e).1

narrow_name : (earlier : List (List ℕ)) → Narrow 8 (name_field earlier)
unfolding name_field
narrow_name earlier = record {
  short = λ w a e.
      let (t, _) = judged_good (is_name w && not (any (same w) earlier)) w 4 a e in
      (name_parts w ((and-eq-true_iff (is_name w) (not (any (same w) earlier))).0 t).0).0;
  number = 4;
  one = λ w k e _. (judged_bad (is_name w && not (any (same w) earlier)) w 4 k e).1;
}

-- a row's level and its ink: a bad field stays bad, since only single bytes are good
stays_level : (l : ℕ) → Stays 0 (level_field l)
unfolding level_field
stays_level l [] v k there long e = absurd (omega arith)
stays_level l (b ∷ []) [] k there long e = e
stays_level l (b ∷ []) (c ∷ v) k there long e =
    rw (same_length (b ∷ c ∷ v) (digit_byte l ∷ []) (λ h. omega arith)) (ap bad (sym (judged_bad (same (b ∷ []) (digit_byte l ∷ [])) tt 5 k e).1))
stays_level l (b ∷ c ∷ w) v k there long e =
    rw (same_length (b ∷ c ∷ (w ++ v)) (digit_byte l ∷ []) (λ h. omega arith)) (ap bad (sym (judged_bad (same (b ∷ c ∷ w) (digit_byte l ∷ [])) tt 5 k e).1))

stays_ink : (m : ℕ) → Stays 0 (ink_field m)
unfolding ink_field
stays_ink m [] v k there long e = absurd (omega arith)
stays_ink m (b ∷ []) [] k there long e = e
stays_ink m (b ∷ []) (c ∷ v) k there long e = ap bad (sym (field_bad m b k e))
stays_ink m (b ∷ c ∷ w) v k there long e = e

-- a reference, with up to 99 gates before it
narrow_reference : (names : List (List ℕ)) → GoodNames names → (earlier : ℕ) (used : List ℕ) → earlier ≤ 99 → Narrow 8 (reference_field names earlier used)
unfolding reference_field reference_of
narrow_reference names g earlier used few = record { short = short; number = 7; one = one }
  where
    short : (w : List ℕ) (a : ℕ) → reference_field names earlier used w ≡ good a → length w ≤ 8
    short w a e =
        let ((r, below, _), _, is) = (judges_reference names g earlier used).only w a e in
        omega (arith, ap length is, reference_length_lem names g r (omega arith))

    one : (w : List ℕ) (k : ℕ) → reference_field names earlier used w ≡ bad k → 8 < length w → k ≡ 7
    one w k e long = go (reference_of names earlier w) refl e
      where
        go : (o : Option ℕ) → reference_of names earlier w ≡ o
            → ◌≡◌ {A = Judged ℕ} (elim o [ none ↦ bad 7 | some r ↦ judged (not (any (eqb r) used)) r 8 ]) (bad k) → k ≡ 7
        go none d e = cc
        go (some r) d e =
            let (_, below, is) = found_is (first_in_range (λ r. same w (reference_text names r)) 0 (length names + earlier)) r d in
            absurd (omega (arith, ap length (same_true w (reference_text names r) is), reference_length_lem names g r (omega arith)))

narrow_digits : (m : ℕ) → m ≤ most_levels → Narrow 81 (digits_field m)
unfolding digits_field
narrow_digits m small = record {
  short = λ w a e.
      let (t, _) = judged_good (eqb (length w) (m * m) && all (is_digit m) w) (map (λ b. b - 48) w) 6 a e in
      let square : m * m ≤ 9 * 9 = mul-le-mul small small in
      let count : length w ≡ m * m = eqb-true _ _ ((and-eq-true_iff (eqb (length w) (m * m)) (all (is_digit m) w)).0 t).0 in
      omega arith;
  number = 6;
  one = λ w k e _. (judged_bad (eqb (length w) (m * m) && all (is_digit m) w) (map (λ b. b - 48) w) 6 k e).1;
}

-- ---- the first lines

-- bounds on the bytes: of the names, each with a separator; of everything before the parts specific to a kind of sheet
abbrev name_bytes : ℕ
name_bytes = 9 * most_inputs

abbrev head_bytes : ℕ
head_bytes = 19 + name_bytes

-- building readers preserves `Goes`
goes_composes : Compositional strict AnyJudge (λ A r. Goes r)
goes_composes = record { gives = λ a. goes_give a; joins = λ r next h i. goes_then next h i; fields = λ judge due _. goes_field judge due }

abbrev goes_names : (last count : ℕ) (earlier : List (List ℕ)) → Goes (name_fields last count earlier)
goes_names last count earlier = names_walk goes_composes any_first last count earlier

abbrev goes_header : (last : ℕ) → Goes (header_lines last)
goes_header last = header_walk goes_composes any_first last

firm_names : {late : ℕ} (last count : ℕ) (earlier : List (List ℕ)) → Firm late (9 * count) (name_fields last count earlier)
unfolding name_fields_in
firm_names last zero earlier = firm_give earlier 0
firm_names last (suc zero) earlier = firm_step (name_field earlier) last 8 (narrow_name earlier) 0 _ (λ _ _ w _ _ _. firm_give (earlier ++ (w ∷ [])) 0)
firm_names last (suc (suc count)) earlier =
    firm_more (9 + 9 * suc count) (9 * suc (suc count)) (omega arith)
    (firm_step (name_field earlier) space 8 (narrow_name earlier) (9 * suc count) _ (λ _ _ w _ _ _. firm_names last (suc count) (earlier ++ (w ∷ []))))

takes_names : (last count : ℕ) (earlier : List (List ℕ)) → Takes (9 * count) (name_fields last count earlier)
unfolding name_fields_in
takes_names last zero earlier = takes_give earlier 0
takes_names last (suc zero) earlier = takes_step (name_field earlier) last 8 (narrow_name earlier) 0 _ (λ _ _ w _ _ _. takes_give (earlier ++ (w ∷ [])) 0)
takes_names last (suc (suc count)) earlier =
    takes_more (9 + 9 * suc count) (9 * suc (suc count)) (omega arith)
    (takes_step (name_field earlier) space 8 (narrow_name earlier) (9 * suc count) _ (λ _ _ w _ _ _. takes_names last (suc count) (earlier ++ (w ∷ []))))

-- the inputs that were read, each with at most 9 bytes for its name
names_most : (m : ℕ) (s : List ℕ) (at n : ℕ) (rest : List ℕ) (place : ℕ) → field (inputs_field m) newline s at ≡ read n rest place → 9 * n ≤ name_bytes
names_most m s at n rest place e =
    let ((k, fits, _), same, _) = (judges_inputs m).only (run s) n (field_good (inputs_field m) newline s at n rest place e) in
    omega (arith, (inputs_fit_lem k).0 fits)

firm_header : {late : ℕ} (last : ℕ) → Firm late head_bytes (header_lines last)
unfolding header_lines_in text
firm_header last =
    firm_step (the_word "levels") space 6 (narrow_word "levels") (12 + name_bytes) _ (λ _ _ _ _ _ _.
    firm_step (the_word "inputs") newline 6 (narrow_word "inputs") (5 + name_bytes) _ (λ _ _ _ _ _ _.
    firm_step levels_field space 1 narrow_levels (3 + name_bytes) _ (λ _ _ m _ _ _.
    firm_step (inputs_field m) newline 2 (narrow_inputs m) name_bytes _ (λ s at n rest place e.
    firm_more (9 * n) name_bytes (names_most m s at n rest place e)
    (firm_then _ (9 * n) 0 (goes_names last n []) (firm_names last n []) (λ _ _ names _ _ _. (firm_give _ 0, λ _. omega arith)))))))

takes_header : (last : ℕ) → Takes head_bytes (header_lines last)
unfolding header_lines_in text
takes_header last =
    takes_step (the_word "levels") space 6 (narrow_word "levels") (12 + name_bytes) _ (λ _ _ _ _ _ _.
    takes_step (the_word "inputs") newline 6 (narrow_word "inputs") (5 + name_bytes) _ (λ _ _ _ _ _ _.
    takes_step levels_field space 1 narrow_levels (3 + name_bytes) _ (λ _ _ m _ _ _.
    takes_step (inputs_field m) newline 2 (narrow_inputs m) name_bytes _ (λ s at n rest place e.
    takes_more (9 * n + 0) name_bytes (omega (arith, names_most m s at n rest place e))
    (takes_then _ (9 * n) 0 (takes_names last n []) (λ _ _ names _ _ _. takes_give _ 0))))))

-- ---- table sheets

abbrev goes_levels : (levels : List ℕ) → Goes (level_fields levels)
goes_levels levels = levels_walk goes_composes (λ _. tt) (λ _. tt) levels

abbrev goes_rows : (m n p count : ℕ) (inks : List ℕ) → Goes (row_lines m n p count inks)
goes_rows m n p count inks = rows_walk goes_composes (λ _. tt) (λ _. tt) m n p count inks

firm_levels : (levels : List ℕ) → Firm 1 0 (level_fields levels)
unfolding level_fields
firm_levels [] = firm_give tt 0
firm_levels (l ∷ ls) =
    firm_then _ 0 0 (goes_field (level_field l) space) (firm_field (level_field l) space 0 (stays_level l)) (λ _ _ _ _ _ _. (firm_levels ls, λ _. omega arith))

firm_rows : (m n p count : ℕ) (inks : List ℕ) → Firm 1 0 (row_lines m n p count inks)
unfolding row_lines
firm_rows m n p zero inks = firm_give inks 0
firm_rows m n p (suc count) inks =
    firm_then _ 0 0 (goes_levels (levels_at m n p)) (firm_levels (levels_at m n p)) (λ _ _ _ _ _ _. (
      firm_then _ 0 0 (goes_field (ink_field m) newline) (firm_field (ink_field m) newline 0 (stays_ink m)) (λ _ _ ink _ _ _.
          (firm_rows m n (suc p) count (inks ++ (ink ∷ [])), λ _. omega arith)),
      λ _. omega arith,
    ))

-- a table sheet's first bytes: with the word `ink`
abbrev pub table_first : ℕ
table_first = 4 + head_bytes

firm_table : Firm 1 table_first table_sheet
unfolding table_sheet text
firm_table =
    firm_then _ table_first 4 (goes_header space) (firm_more head_bytes table_first (omega arith) (firm_header space)) (λ s at h rest place e. (
      firm_step (the_word "ink") newline 3 (narrow_word "ink") 0 _ (λ _ _ _ _ _ _.
          firm_then _ 0 0 (goes_rows h.levels h.inputs 0 (h.levels ^ h.inputs) [])
          (firm_rows h.levels h.inputs 0 (h.levels ^ h.inputs) []) (λ _ _ inks _ _ _.
          (firm_end _, λ _. omega arith))),
      λ long. omega (arith, takes_header space s at h rest place e),
    ))

-- no table sheet may continue
abbrev Every : {A : Type 0} → A → Type 0
Every a = Unit {0}

shuts_table : Shuts Every table_sheet
unfolding table_sheet
shuts_table =
    shuts_then _ (goes_header space) (λ h.
    shuts_then _ (goes_field (the_word "ink") newline) (λ _.
    shuts_then _ (goes_rows h.levels h.inputs 0 (h.levels ^ h.inputs) []) (λ inks. shuts_end _ Every)))

-- ---- net sheets

abbrev goes_gate : (m : ℕ) (names : List (List ℕ)) (earlier : List Gate) → Goes (gate_line m names earlier)
goes_gate m names earlier = gate_walk goes_composes (λ _ _ _. tt) (λ _. tt) m names earlier

module _ (m : ℕ) (small : m ≤ most_levels) (names : List (List ℕ)) (good_names : GoodNames names) where
  -- two references of up to 8 bytes, up to 81 digits, and a separator after each
  firm_gate : (earlier : List Gate) → length earlier ≤ 99 → Firm 26 100 (gate_line m names earlier)
  unfolding gate_line
  firm_gate earlier few =
      firm_step (reference_field names (length earlier) (used_by earlier)) space 8 (narrow_reference names good_names _ _ few) 91 _ (λ _ _ left _ _ _.
      firm_step (reference_field names (length earlier) (left ∷ used_by earlier)) space 8 (narrow_reference names good_names _ _ few) 82 _ (λ _ _ right _ _ _.
      firm_step (digits_field m) newline 81 (narrow_digits m small) 0 _ (λ _ _ digits _ _ _. firm_give _ 0)))

  takes_gate : (earlier : List Gate) → length earlier ≤ 99 → Takes 100 (gate_line m names earlier)
  unfolding gate_line
  takes_gate earlier few =
      takes_step (reference_field names (length earlier) (used_by earlier)) space 8 (narrow_reference names good_names _ _ few) 91 _ (λ _ _ left _ _ _.
      takes_step (reference_field names (length earlier) (left ∷ used_by earlier)) space 8 (narrow_reference names good_names _ _ few) 82 _ (λ _ _ right _ _ _.
      takes_step (digits_field m) newline 81 (narrow_digits m small) 0 _ (λ _ _ digits _ _ _. takes_give _ 0)))

-- the checks after the gate lines: the sheet has ended, and earlier gates are used
abbrev after_gates : Header → List Gate → Reader Net
after_gates h gates = closed >>= λ _. all_used h.inputs gates >>= λ _. give (record { header = h; gates = gates })

-- all n − 1 gate lines
abbrev pub AllGates : Net → Type 0
AllGates net = length net.gates ≡ net.header.inputs - 1

module _ (h : Header) where
  abbrev net_of : List Gate → Net
  net_of gates = record { header = h; gates = gates }

  -- at the sheet's end, a net of these gates, ..
  end_read : (gates : List Gate) (at : ℕ) (a : Net) (rest : List ℕ) (place : ℕ) → after_gates h gates [] at ≡ read a rest place
      → (a ≡ net_of gates) × (rest ≡ [])
  unfolding closed then
  end_read gates at a rest place e = go (all_used h.inputs gates [] at) refl e
    where
      go : (u : Read (Unit {0})) → all_used h.inputs gates [] at ≡ u → then u (λ _. give (net_of gates)) ≡ read a rest place
          → (a ≡ net_of gates) × (rest ≡ [])
      go (read v r p) d e =
          let (_, all, _) = used_read h.inputs gates [] at v r p d in
          ((cc), (cc))
      go (turned_back number p) d e = absurd (not_read number p a rest place e)

  -- .. or 26 there
  end_turned : (gates : List Gate) (at number place : ℕ) → after_gates h gates [] at ≡ turned_back number place → (number ≡ 26) × (place ≡ at)
  unfolding closed then
  end_turned gates at number place e = go (all_used h.inputs gates [] at) refl e
    where
      go : (u : Read (Unit {0})) → all_used h.inputs gates [] at ≡ u → then u (λ _. give (net_of gates)) ≡ turned_back number place
          → (number ≡ 26) × (place ≡ at)
      go (read v r p) d e = absurd (not_read number place _ r p (sym e))
      go (turned_back k p) d e =
          let (_, late, here) = used_turned h.inputs gates [] at k p d in
          let z : number ≡ k = cc in
          let y : place ≡ p = cc in
          (z ∙ late, y ∙ here)

  -- the sheet ends
  firm_after : (gates : List Gate) → Firm 26 1 (after_gates h gates)
  unfolding closed then
  firm_after gates [] at number place e =
      let (late, here) = end_turned gates at number place e in
      late_end late (omega arith) (omega arith)
  firm_after gates (b ∷ s) at number place e = before (let here : place ≡ at = cc in omega arith) (λ long t. e)

  -- the sheet ends after these gates, or there are more
  firm_or_end : (gates : List Gate) (more : Reader (List Gate)) (b : ℕ) → 0 < b → Firm 26 b (more >>= after_gates h)
      → Firm 26 b (or_end gates more >>= after_gates h)
  unfolding or_end then
  firm_or_end gates more b positive firm [] at number place e =
      let (late, here) = end_turned gates at number place e in
      late_end late (omega arith) (omega arith)
  firm_or_end gates more b positive firm (c ∷ s) at number place e = elim (firm (c ∷ s) at number place e) [
    | at_end one end ↦ at_end one end
    | late_end is short end ↦ late_end is short end
    | before within stays ↦ before within stays
  ]

  module _ (small : h.levels ≤ most_levels) (good_names : GoodNames h.names) where
    firm_gates : (count : ℕ) (earlier : List Gate) → length earlier + count ≤ 99
        → Firm 26 (suc (count * 100)) (gate_lines h.levels h.names count earlier >>= after_gates h)
    unfolding gate_lines then
    firm_gates zero earlier few = firm_after earlier
    firm_gates (suc count) earlier few =
        let line = gate_line h.levels h.names earlier in
        subst⁻¹ (λ (r : Reader Net). Firm 26 (suc (suc count * 100)) r)
        (then_then line (λ g. or_end (earlier ++ (g ∷ [])) (gate_lines h.levels h.names count (earlier ++ (g ∷ [])))) (after_gates h))
        (firm_then _ (suc (suc count * 100)) (suc (count * 100)) (goes_gate h.levels h.names earlier)
        (firm_more 100 (suc (suc count * 100)) (omega arith) (firm_gate h.levels small h.names good_names earlier (omega arith)))
        (λ s at g rest place e. (
          firm_or_end (earlier ++ (g ∷ [])) _ (suc (count * 100)) (omega arith)
              (firm_gates count (earlier ++ (g ∷ [])) (omega (arith, length-append earlier (g ∷ [])))),
          λ long. omega (arith, takes_gate h.levels small h.names good_names earlier (omega arith) s at g rest place e),
        )))

  shuts_after : (gates : List Gate) → Shuts AllGates (after_gates h gates)
  unfolding closed then
  shuts_after gates [] at a rest place e is = record { none = (end_read gates at a rest place e).1; after = λ c t. ap (turned_back 1) (omega arith) }
  shuts_after gates (c ∷ s) at a rest place e is = absurd (not_read 1 at a rest place e)

  -- with all gates, no more follow
  shuts_or_end : (gates : List Gate) (more : Reader (List Gate)) → Shuts AllGates (more >>= after_gates h)
      → (length gates ≡ h.inputs - 1 → (c : ℕ) (t : List ℕ) (at : ℕ) → (more >>= after_gates h) (c ∷ t) at ≡ turned_back 1 at)
      → Shuts AllGates (or_end gates more >>= after_gates h)
  unfolding or_end then
  shuts_or_end gates more shuts whole [] at a rest place e is =
      let (same, nothing) = end_read gates at a rest place e in
      let all : length gates ≡ h.inputs - 1 = rw same at is in
      record { none = nothing; after = λ c t. whole all c t at ∙ ap (turned_back 1) (omega arith) }
  shuts_or_end gates more shuts whole (c ∷ s) at a rest place e is =
      let shut = shuts (c ∷ s) at a rest place e is in
      record { none = shut.none; after = shut.after }

  shuts_gates : (count : ℕ) (earlier : List Gate) → length earlier + count ≡ h.inputs - 1
      → Shuts AllGates (gate_lines h.levels h.names count earlier >>= after_gates h)
  unfolding gate_lines closed then
  shuts_gates zero earlier many = shuts_after earlier
  shuts_gates (suc count) earlier many =
      let line = gate_line h.levels h.names earlier in
      subst⁻¹ (λ (r : Reader Net). Shuts AllGates r)
      (then_then line (λ g. or_end (earlier ++ (g ∷ [])) (gate_lines h.levels h.names count (earlier ++ (g ∷ [])))) (after_gates h))
      (shuts_then _ (goes_gate h.levels h.names earlier) (λ g.
      let longer = length-append earlier (g ∷ []) in
      shuts_or_end (earlier ++ (g ∷ [])) _ (shuts_gates count (earlier ++ (g ∷ [])) (omega arith)) (none_more count (earlier ++ (g ∷ [])) (omega arith))))
    where
      none_more : (count : ℕ) (gates : List Gate) → length gates + count ≡ h.inputs - 1 → length gates ≡ h.inputs - 1 → (c : ℕ) (t : List ℕ) (at : ℕ)
          → (gate_lines h.levels h.names count gates >>= after_gates h) (c ∷ t) at ≡ turned_back 1 at
      none_more zero gates many all c t at = refl
      none_more (suc count) gates many all c t at = absurd (omega arith)

-- one more than the most bytes of a net sheet: with line 4, and 100 for each gate line
abbrev gate_bytes : ℕ
gate_bytes = 1 + (most_inputs - 1) * 100

abbrev pub net_first : ℕ
net_first = 17 + gate_bytes + head_bytes

firm_net : Firm 26 net_first net_sheet
unfolding net_sheet text
firm_net =
    firm_then _ net_first (17 + gate_bytes) (goes_header newline) (firm_more head_bytes net_first (omega arith) (firm_header newline)) (λ s at h rest place e.
    let ((own, kept), same, _, _) = (spells_header newline parts_newline).only s at h rest place e in (
      firm_step (the_word "left") space 4 (narrow_word "left") (12 + gate_bytes) _ (λ _ _ _ _ _ _.
          firm_step (the_word "right") space 5 (narrow_word "right") (6 + gate_bytes) _ (λ _ _ _ _ _ _.
          firm_step (the_word "table") newline 5 (narrow_word "table") gate_bytes _ (λ _ _ _ _ _ _.
          rw same (gates own kept)))),
      λ long. omega (arith, takes_header newline s at h rest place e),
    ))
  where
    gates : (h : Header) → HeaderRules h → Firm 26 gate_bytes (gate_lines h.levels h.names (h.inputs - 1) [] >>= after_gates h)
    gates h kept =
        let size = kept_size h kept in
        firm_more (suc ((h.inputs - 1) * 100)) gate_bytes (omega (arith, size.inputs_most))
        (firm_gates h size.levels_most kept.names (h.inputs - 1) [] (omega (arith, size.inputs_most)))

shuts_net : Shuts AllGates net_sheet
unfolding net_sheet
shuts_net =
    shuts_then _ (goes_header newline) (λ h.
    shuts_then _ (goes_field (the_word "left") space) (λ _.
    shuts_then _ (goes_field (the_word "right") space) (λ _.
    shuts_then _ (goes_field (the_word "table") newline) (λ _.
    shuts_gates h (h.inputs - 1) [] (omega arith)))))

-- ---- the laws

-- The result for the part before a cut at `k`: it is a whole sheet, or it has an earlier fault, or it has not ended by then, or, if it has fewer than
-- `first` bytes, it is refused there with the number judged last.
pub data Cut {A : Type 0} (first late : ℕ) (answer : Answer A) (k : ℕ) : Type 0 where
  ended : (a : A) → answer ≡ accepted a → Cut first late answer k
  faulty : (number place : ℕ) → answer ≡ refused number place → place < k → Cut first late answer k
  unended : answer ≡ refused 1 k → Cut first late answer k
  lately : k < first → answer ≡ refused late k → Cut first late answer k

-- `call` judges sheets, and `first` bytes hold its first lines, or all lines of a net sheet; what it accepts may continue unless it is `Whole`
pub record Cutting {A : Type 0} (call : List ℕ → Answer A) (first late : ℕ) (Whole : A → Type 0) : Type 0 where
  -- one of the four
  pub cases : (s : List ℕ) (k : ℕ) → k ≤ length s → Cut first late (call (take k s)) k
  -- a fault before the cut is also a fault of the sheet
  pub fault : (s : List ℕ) (k : ℕ) → k ≤ length s → first ≤ k → (number place : ℕ) → call (take k s) ≡ refused number place → place < k
      → call s ≡ refused number place
  -- if the part is accepted, the sheet has bytes after its last line
  pub more : (s : List ℕ) (k : ℕ) → k < length s → (a : A) → call (take k s) ≡ accepted a → Whole a → call s ≡ refused 1 k

module _ {A : Type 0} {r : Reader A} {first late : ℕ} {Whole : A → Type 0} (firm : Firm late first r) (shuts : Shuts Whole r) where
  part_cases : (s : List ℕ) (k : ℕ) → k ≤ length s → Cut first late (answered (r (take k s) 0)) k
  unfolding answered
  part_cases s k within = read_cases (r (take k s) 0)
      (λ a rest p d. ended a (rw d refl))
      (λ number place d. turned number place d (firm (take k s) 0 number place d))
    where
      part : length (take k s) ≡ k
      part = length-take-le k s within

      turned : (number place : ℕ) → r (take k s) 0 ≡ turned_back number place → Stopped late r first (take k s) 0 number place
          → Cut first late (answered (r (take k s) 0)) k
      turned number place d (at_end one end) = unended (rw d (ap₂ refused one (end ∙ zero-add (length (take k s)) ∙ part)))
      turned number place d (late_end is short end) = lately (omega (arith, part)) (rw d (ap₂ refused is (end ∙ zero-add (length (take k s)) ∙ part)))
      turned number place d (before early _) = faulty number place (rw d refl) (omega (arith, part))

  part_fault : (s : List ℕ) (k : ℕ) → k ≤ length s → first ≤ k → (number place : ℕ) → answered (r (take k s) 0) ≡ refused number place → place < k
      → answered (r s 0) ≡ refused number place
  unfolding answered
  part_fault s k within long number place e early = go (r (take k s) 0) refl e
    where
      part : length (take k s) ≡ k
      part = length-take-le k s within

      turned : Stopped late r first (take k s) 0 number place → answered (r s 0) ≡ refused number place
      turned (at_end one end) = absurd (omega (arith, part))
      turned (late_end is short end) = absurd (omega (arith, part))
      turned (before _ stays) = ap answered (sym (ap (λ t. r t 0) (take-append-drop k s)) ∙ stays (omega (arith, part)) (drop k s))

      go : (u : Read A) → r (take k s) 0 ≡ u → answered u ≡ refused number place → answered (r s 0) ≡ refused number place
      go (read a rest p) d e = absurd (not_refused a number place e)
      go (turned_back j p) d e = turned (firm (take k s) 0 number place (d ∙ let z : ◌≡◌ {A = Read A} (turned_back j p) (turned_back number place) = cc in z))

  part_more : (s : List ℕ) (k : ℕ) → k < length s → (a : A) → answered (r (take k s) 0) ≡ accepted a → Whole a → answered (r s 0) ≡ refused 1 k
  unfolding answered
  part_more s k within a e is = go (r (take k s) 0) refl e (drop k s) refl
    where
      go : (u : Read A) → r (take k s) 0 ≡ u → answered u ≡ accepted a → (t : List ℕ) → drop k s ≡ t → answered (r s 0) ≡ refused 1 k
      go (turned_back j p) d e t f = absurd (not_refused a j p (sym e))
      go (read b rest p) d e [] f = absurd (omega (arith, length-drop k s, ap length f))
      go (read b rest p) d e (c ∷ t) f =
          let whole : s ≡ take k s ++ c ∷ t = sym (take-append-drop k s) ∙ ap (λ u. take k s ++ u) f in
          ap answered (ap (λ u. r u 0) whole ∙ (shuts (take k s) 0 b rest p d (let same : a ≡ b = cc in rw same at is)).after c t)
          ∙ ap (refused 1) (zero-add (length (take k s)) ∙ length-take-le k s (omega arith))

  cutting : Cutting (λ s. answered (r s 0)) first late Whole
  cutting = record { cases = part_cases; fault = part_fault; more = part_more }

pub table_cut : Cutting read_table table_first 1 Every
unfolding read_table
table_cut = cutting firm_table shuts_table

pub net_cut : Cutting read_net net_first 26 AllGates
unfolding read_net
net_cut = cutting firm_net shuts_net

-- "a sheet without an earlier fault that hasn't ended by then", cut there, is refused with 1 at the cut, ..
pub not_ended : {A : Type 0} {call : List ℕ → Answer A} {first late : ℕ} {Whole : A → Type 0} → Cutting call first late Whole → (s : List ℕ) (k : ℕ) → first ≤ k
    → k ≤ length s → ((number place : ℕ) → call s ≡ refused number place → k ≤ place) → ((a : A) → call (take k s) ≡ accepted a → ⊥)
    → call (take k s) ≡ refused 1 k
not_ended {A} {call} {first} {late} cut s k long within faultless going = elim (cut.cases s k within) [
  | ended a e ↦ absurd (going a e)
  | faulty number place e early ↦ absurd (omega (arith, faultless number place (cut.fault s k within long number place e early)))
  | unended e ↦ e
  | lately short e ↦ absurd (omega arith)
]

-- .. and so is an accepted sheet that is longer, if none may continue
pub accepted_longer : {A : Type 0} {call : List ℕ → Answer A} {first late : ℕ} → Cutting call first late Every → (s : List ℕ) (k : ℕ) → first ≤ k
    → k < length s → (a : A) → call s ≡ accepted a → call (take k s) ≡ refused 1 k
accepted_longer cut s k long within a e =
    not_ended cut s k long (omega arith) (λ number place d. absurd (not_refused a number place (sym e ∙ d)))
    (λ b d. not_refused a 1 k (sym e ∙ cut.more s k within b d tt))
