-- The numbers with which a sheet is refused: a net sheet with 1, 2, 3, 4, 6, 7, 8 or 26, a table sheet with 1 to 6, a loose one with these and 20.
-- Assumes nothing.
use Rattle.std.specs.Prelude.{◌+◌, ◌-◌, ◌^◌, ◌*◌, ◌≡◌, ◌&&◌, ◌∷◌, ◌++◌}
use Rattle.laws.specs.Prelude.{ℕ, suc, zero, sym, refl, true, false, Bool, not, List, [], map, eqb, length}
use Rattle.rules.specs.Limits.{levels_fit, cells_fit_of}
use Rattle.rules.specs.Lists.{all, any, same}
use Rattle.rules.specs.Sheets.Fields.{Read, read, turned_back, Judged, bad, judged, strict, loose, Layout, the_word}
use Rattle.rules.specs.Sheets.Reading.{read_net, read_table}
use Rattle.rules.specs.Sheets.Sheets.{levels_field, inputs_of, inputs_field, is_name, name_field, reference_of, reference_field, digits_field, net_sheet, level_field}
use Rattle.rules.specs.Sheets.Sheets.{ink_field, table_sheet}
use Rattle.rules.specs.Text.{space, newline, digit_byte, is_digit}
use Rattle.std.proofs.Math.Option.{Option, none, some}
use Rattle.rules.specs.Sheets.LooseSheet.{Row, any_level, index_fields, is_of, not_given, row_from, loose_rows, loose_sheet, read_loose}
use Rattle.readback.specs.Readers.Spells.{not_read}
use Rattle.laws.specs.Lists.Distinct.{In}
use Rattle.laws.specs.Nets.Inks.{field_bad}
use Rattle.readback.specs.Readers.Among.{Among, AmongJudge, Refuses, named_bad, named_turned, test_bad, among_give, among_then, among_field_in}
use Rattle.readback.specs.Readers.Among.{among_word, among_closed, among_answer}
use Rattle.readback.specs.Readers.Ends.{among_or_end, among_used}
use Rattle.readback.specs.Nets.NetSheets.{net_to_end}
use Rattle.readback.specs.Readers.Walks.{Compositional, FirstJudges, among_composes, header_walk, to_end_walk, net_walk, table_walk}

abbrev pub net_numbers : List ℕ
net_numbers = 1 ∷ 2 ∷ 3 ∷ 4 ∷ 6 ∷ 7 ∷ 8 ∷ 26 ∷ []

abbrev pub table_numbers : List ℕ
table_numbers = 1 ∷ 2 ∷ 3 ∷ 4 ∷ 5 ∷ 6 ∷ []

abbrev pub loose_numbers : List ℕ
loose_numbers = 1 ∷ 2 ∷ 3 ∷ 4 ∷ 5 ∷ 6 ∷ 20 ∷ []

-- The numbers that both kinds of sheet share are parameters of this section; 7, 8 and 26 belong to a net sheet, and 5 to a table sheet.
module _ (numbers : List ℕ) (one : In 1 numbers) (two : In 2 numbers) (three : In 3 numbers) (four : In 4 numbers) (six : In 6 numbers) where
  -- ---- the judges

  among_levels : AmongJudge numbers levels_field
  unfolding levels_field
  among_levels [] k e = named_bad numbers one 2 k two e
  among_levels (b ∷ []) k e = test_bad numbers one (is_digit 10 b && levels_fit (b - 48)) (b - 48) 2 k two e
  among_levels (b ∷ c ∷ w) k e = named_bad numbers one 2 k two e

  among_inputs : (m : ℕ) → AmongJudge numbers (inputs_field m)
  unfolding inputs_field
  among_inputs m w k e = go (inputs_of w) e
    where
      go : (o : Option ℕ) → ◌≡◌ {A = Judged ℕ} (elim o [ none ↦ bad 3 | some n ↦ judged (cells_fit_of m n) n 3 ]) (bad k) → In k numbers
      go none e = named_bad numbers one 3 k three e
      go (some n) e = test_bad numbers one (cells_fit_of m n) n 3 k three e

  among_name : (earlier : List (List ℕ)) → AmongJudge numbers (name_field earlier)
  unfolding name_field
  among_name earlier w k e = test_bad numbers one (is_name w && not (any (same w) earlier)) w 4 k four e

  among_reference : In 7 numbers → In 8 numbers → (names : List (List ℕ)) (earlier : ℕ) (used : List ℕ) → AmongJudge numbers (reference_field names earlier used)
  unfolding reference_field
  among_reference seven eight names earlier used w k e = go (reference_of names earlier w) e
    where
      go : (o : Option ℕ) → ◌≡◌ {A = Judged ℕ} (elim o [ none ↦ bad 7 | some r ↦ judged (not (any (eqb r) used)) r 8 ]) (bad k) → In k numbers
      go none e = named_bad numbers one 7 k seven e
      go (some r) e = test_bad numbers one (not (any (eqb r) used)) r 8 k eight e

  among_digits : (m : ℕ) → AmongJudge numbers (digits_field m)
  unfolding digits_field
  among_digits m w k e = test_bad numbers one (eqb (length w) (m * m) && all (is_digit m) w) (map (λ b. b - 48) w) 6 k six e

  among_level : In 5 numbers → (due : ℕ) → AmongJudge numbers (level_field due)
  unfolding level_field
  among_level five due w k e = test_bad numbers one (same w (digit_byte due ∷ [])) tt 5 k five e

  among_ink : (m : ℕ) → AmongJudge numbers (ink_field m)
  unfolding ink_field
  among_ink m [] k e = named_bad numbers one 6 k six e
  among_ink m (b ∷ []) k e = rw (field_bad m b k e) six
  among_ink m (b ∷ c ∷ w) k e = named_bad numbers one 6 k six e

  -- ---- the sheets

  abbrev composes : (layout : Layout) → Compositional layout (λ A judge. AmongJudge numbers judge) (λ A r. Among numbers r)
  composes layout = among_composes numbers one layout

  first_judges : FirstJudges (λ A judge. AmongJudge numbers judge)
  first_judges = record { word = among_word numbers one; levels = among_levels; inputs = among_inputs; name = among_name }

  -- a net sheet read to its end, and with the check there
  module _ (seven : In 7 numbers) (eight : In 8 numbers) where
    pub among_to_end : Among numbers net_to_end
    among_to_end = to_end_walk (composes strict) (among_reference seven eight) among_digits first_judges (among_closed numbers one)
        (λ A a more h. among_or_end a more numbers h)

    among_net : In 26 numbers → Among numbers net_sheet
    among_net late =
        net_walk (composes strict) (among_reference seven eight) among_digits first_judges (among_closed numbers one)
        (λ A a more h. among_or_end a more numbers h)
        (λ n gates. among_used n gates numbers late)

  among_table : In 5 numbers → Among numbers table_sheet
  among_table five = table_walk (composes strict) (among_level five) among_ink first_judges (among_closed numbers one)

  -- a loose sheet's levels, rows, and the whole
  among_any_level : In 5 numbers → (m : ℕ) → AmongJudge numbers (any_level m)
  unfolding any_level
  among_any_level five m [] k e = named_bad numbers one 5 k five e
  among_any_level five m (b ∷ []) k e = test_bad numbers one (is_digit m b) (b - 48) 5 k five e
  among_any_level five m (b ∷ c ∷ w) k e = named_bad numbers one 5 k five e

  among_index : In 5 numbers → (m count before : ℕ) → Among numbers (index_fields m count before)
  unfolding index_fields
  among_index five m zero before = among_give numbers one before
  among_index five m (suc count) before =
      among_then numbers one _ _ (among_field_in numbers one loose (any_level m) space (among_any_level five m)) (λ l. among_index five m count (before * m + l))

  among_not_given : In 20 numbers → (first : ℕ) (earlier : List Row) (p : ℕ) → Among numbers (not_given first earlier p)
  unfolding not_given
  among_not_given twenty first earlier p s at k place e = go (any (is_of p) earlier) e
    where
      go : (t : Bool) → ◌≡◌ {A = Read (Unit {0})} (elim t [ true ↦ turned_back 20 first | false ↦ read tt s at ]) (turned_back k place) → In k numbers
      go true e = named_turned numbers one 20 first k place twenty e
      go false e = absurd (not_read k place tt s at (sym e))

  among_loose_row : In 5 numbers → In 20 numbers → (m n : ℕ) (earlier : List Row) (first : ℕ) → Among numbers (row_from m n earlier first)
  unfolding row_from
  among_loose_row five twenty m n earlier first =
      among_then numbers one _ _ (among_index five m n 0) (λ p.
      among_then numbers one _ _ (among_not_given twenty first earlier p) (λ _.
      among_then numbers one _ _ (among_field_in numbers one loose (ink_field m) newline (among_ink m)) (λ ink. among_give numbers one _)))

  among_loose_rows : In 5 numbers → In 20 numbers → (m n count : ℕ) (earlier : List Row) → Among numbers (loose_rows m n count earlier)
  unfolding loose_rows
  among_loose_rows five twenty m n zero earlier = among_give numbers one earlier
  among_loose_rows five twenty m n (suc count) earlier =
      among_then numbers one (λ s at. row_from m n earlier at s at) _ (λ s at. among_loose_row five twenty m n earlier at s at)
      (λ row. among_loose_rows five twenty m n count (earlier ++ (row ∷ [])))

  among_loose_sheet : In 5 numbers → In 20 numbers → Among numbers loose_sheet
  unfolding loose_sheet
  among_loose_sheet five twenty =
      among_then numbers one _ _ (header_walk (composes loose) first_judges space) (λ h.
      among_then numbers one _ _ (among_field_in numbers one loose (the_word "ink") newline (among_word numbers one "ink")) (λ _.
      among_then numbers one _ _ (among_loose_rows five twenty h.levels h.inputs (h.levels ^ h.inputs) []) (λ rows.
      among_then numbers one _ _ (among_closed numbers one) (λ _. among_give numbers one _))))

-- ---- the three sheets

pub net_refusal : Refuses net_numbers read_net
unfolding read_net any
net_refusal = among_answer net_numbers net_sheet (among_net net_numbers refl refl refl refl refl refl refl refl)

pub table_refusal : Refuses table_numbers read_table
unfolding read_table any
table_refusal = among_answer table_numbers table_sheet (among_table table_numbers refl refl refl refl refl refl)

pub loose_refusal : Refuses loose_numbers read_loose
unfolding read_loose any
loose_refusal = among_answer loose_numbers loose_sheet (among_loose_sheet loose_numbers refl refl refl refl refl refl refl)
