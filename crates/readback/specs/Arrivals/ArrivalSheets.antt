-- Arrival sheets: what was printed is read back, and what was accepted is exactly what would be printed and follows every rule.
-- Assumes nothing.
use Rattle.std.specs.Prelude.{◌≤◌, ◌≡◌, ◌↔◌, ◌&&◌, ◌∷◌, ◌++◌}
use Rattle.laws.specs.Prelude.{ℕ, sym, refl, true, and-eq-true_iff, List, [], append_assoc, append-nil, arith, leb, length}
use Rattle.laws.specs.Prelude.{le-leb, leb-true}
use Rattle.rules.specs.Calls.Answers.{accepted}
use Rattle.rules.specs.Limits.{most_time}
use Rattle.rules.specs.Lists.{all, same}
use Rattle.rules.specs.Sheets.Fields.{good, is_separator}
use Rattle.rules.specs.Sheets.Printed.{line}
use Rattle.rules.specs.Sheets.SheetRules.{GoodNames}
use Rattle.rules.specs.Text.{space, newline, text, decimal, value_of, is_decimal}
use Rattle.rules.specs.Sheets.ArrivalSheet.{Arrival, arrival_of, earliest_of, latest_of, next_name, time_field, arrival_line, arrival_lines, arrival_sheet}
use Rattle.rules.specs.Sheets.ArrivalSheet.{read_arrivals, printed_arrival, printed_arrivals, printed_arrival_sheet, ArrivalRules, EachArrivalRules}
use Rattle.rules.specs.Sheets.ArrivalSheet.{ArrivalSheetRules}
use Rattle.laws.specs.Lists.Same.{same_refl, same_true}
use Rattle.laws.specs.Nets.ArrivalEnds.{earliest_of_lem, latest_of_lem, kept_of, arrival_again, kept_order}
use Rattle.laws.specs.Numbers.Digits.{decimal_value, decimal_is, is_decimal_lem}
use Rattle.readback.specs.Readers.Spells.{Spells, SpellsTo, spells_give, spells_then, spells_as}
use Rattle.readback.specs.Readers.Collects.{Collects, collects_none, collects_more}
use Rattle.readback.specs.Readers.Fields.{plain, is_word, Judges, judged_good, parts_space, parts_newline, spells_field, judges_word, Ended, spells_end}
use Rattle.readback.specs.Readers.Decimals.{decimal_word}
use Rattle.readback.specs.Readers.Judges.{name_word}
use Rattle.readback.specs.Sheets.ReadBack.{whole_back, whole_kept, whole_sheets}

-- ---- the fields

-- the name that is due
judges_next : (name : List ℕ) → is_word name ≡ true → Judges (next_name name) (Unit {0}) (λ _. tt) (λ _. name)
unfolding next_name
judges_next name word = record {
  passes = λ _. rw same_refl;
  word = λ _. word;
  only = λ w a e. (tt, refl, same_true w name (judged_good (same w name) tt 18 a e).0);
}

-- a time from `least` on
judges_time : (least : ℕ) → Judges (time_field least) ((time : ℕ) × (time ≤ most_time) × (least ≤ time)) (λ x. x.0) (λ x. decimal x.0)
unfolding time_field
judges_time least = record { passes = λ x. passes x.0 x.1 x.2; word = λ x. decimal_word x.0; only = only }
  where
    passes : (time : ℕ) → time ≤ most_time → least ≤ time → time_field least (decimal time) ≡ good time
    passes time h k = rw (decimal_value time, decimal_is time, le-leb time most_time h, le-leb least time k) refl

    only : (w : List ℕ) (a : ℕ) → time_field least w ≡ good a
        → (x : (time : ℕ) × (time ≤ most_time) × (least ≤ time)) × (a ≡ x.0) × (w ≡ decimal x.0)
    only w a e =
        let time = value_of 0 w in
        let (t, q) = judged_good (is_decimal w && leb time most_time && leb least time) time 19 a e in
        let (f, k) = (and-eq-true_iff (is_decimal w && leb time most_time) (leb least time)).0 t in
        let (d, h) = (and-eq-true_iff (is_decimal w) (leb time most_time)).0 f in
        ((time, leb-true time most_time h, leb-true least time k), q, is_decimal_lem w d)

-- ---- a line

line_text : (name : List ℕ) (from to : ℕ) (a : Arrival) → earliest_of a ≡ from → latest_of a ≡ to
    → name ++ space ∷ [] ++ (decimal from ++ space ∷ [] ++ (decimal to ++ newline ∷ [] ++ [])) ≡ printed_arrival name a
unfolding printed_arrival line
line_text name from to a d e = rw (d, e) (simp (append_assoc, append-nil))

spells_line : (name : List ℕ) → is_word name ≡ true → Spells (arrival_line name) ((a : Arrival) × ArrivalRules a) (λ x. x.0) (λ x. printed_arrival name x.0)
unfolding arrival_line
spells_line name word = spells_as
    (spells_then _ (spells_field space parts_space (judges_next name word)) (λ _.
    spells_then _ (spells_field space parts_space (judges_time 0)) (λ from.
    spells_then _ (spells_field newline parts_newline (judges_time from.0)) (λ to. spells_give (arrival_of from.0 to.0)))))
    (λ (_, ((from, _, _), ((to, h, k), _))).
    ((arrival_of from to, kept_of from to k h), refl, line_text name from to (arrival_of from to) (earliest_of_lem from to) (latest_of_lem from to)))
    (λ (a, kept).
    let (k, h) = kept_order a kept in (
      (tt, ((earliest_of a, omega arith, omega arith), ((latest_of a, h, k), tt))),
      sym (arrival_again a kept),
      sym (line_text name (earliest_of a) (latest_of a) a refl refl),
    ))

-- ---- all lines, and the sheet

spells_lines : (names : List (List ℕ)) → GoodNames names → (earlier : List Arrival)
    → Collects (arrival_lines names earlier) earlier (length names) EachArrivalRules (printed_arrivals names)
unfolding arrival_lines printed_arrivals
spells_lines [] names_good earlier = collects_none earlier EachArrivalRules (printed_arrivals []) tt refl
spells_lines (name ∷ names) names_good earlier =
    collects_more _ earlier (length names) ArrivalRules (λ _. EachArrivalRules) EachArrivalRules (printed_arrival name) (printed_arrivals names)
    (printed_arrivals (name ∷ names))
    (spells_line name (name_word name names_good.0)) (λ a. spells_lines names names_good.2 (earlier ++ (a ∷ []))) (λ a others. (λ h. h, λ h. h))
    (λ a others l. refl)

sheet_text : (names : List (List ℕ)) (arrivals : List Arrival)
    → text "name" ++ space ∷ [] ++ (text "from" ++ space ∷ [] ++ (text "to" ++ newline ∷ [] ++ (printed_arrivals names arrivals ++ [])))
    ≡ printed_arrival_sheet names arrivals
unfolding printed_arrival_sheet line
sheet_text names arrivals = simp (append_assoc, append-nil)

module _ (names : List (List ℕ)) (names_good : GoodNames names) where
  -- the reader of arrival sheets spells the arrivals that follow the rules
  spells_arrivals : SpellsTo Ended (arrival_sheet names) ((arrivals : List Arrival) × ArrivalSheetRules names arrivals) (λ x. x.0)
      (λ x. printed_arrival_sheet names x.0)
  unfolding arrival_sheet plain is_word all text is_separator space newline
  spells_arrivals = spells_as
      (spells_then _ (spells_field space refl (judges_word "name" refl)) (λ _.
      spells_then _ (spells_field space refl (judges_word "from" refl)) (λ _.
      spells_then _ (spells_field newline refl (judges_word "to" refl)) (λ _.
      spells_then _ (spells_lines names names_good []) (λ arrivals. spells_end arrivals.0)))))
      (λ (_, (_, (_, ((arrivals, count, each), _)))). ((arrivals, record { count = count; each = each }), refl, sheet_text names arrivals))
      (λ (arrivals, kept). ((tt, (tt, (tt, ((arrivals, kept.count, kept.each), tt)))), refl, sym (sheet_text names arrivals)))

  -- printed arrivals are read back
  pub arrivals_read_back : (arrivals : List Arrival) → ArrivalSheetRules names arrivals
      → read_arrivals names (printed_arrival_sheet names arrivals) ≡ accepted arrivals
  unfolding read_arrivals
  arrivals_read_back arrivals kept = whole_back spells_arrivals (arrivals, kept)

  -- an accepted arrival sheet is the print of its arrivals, which follow the rules
  pub arrivals_accepted : (s : List ℕ) (arrivals : List Arrival) → read_arrivals names s ≡ accepted arrivals
      → (s ≡ printed_arrival_sheet names arrivals) × ArrivalSheetRules names arrivals
  unfolding read_arrivals
  arrivals_accepted = whole_kept (printed_arrival_sheet names) spells_arrivals

  -- an arrival sheet is accepted exactly if it is the print of arrivals that follow the rules, one for each input
  pub arrival_sheets : (s : List ℕ)
      → ((arrivals : List Arrival) × (read_arrivals names s ≡ accepted arrivals))
      ↔ ((arrivals : List Arrival) × ArrivalSheetRules names arrivals × (s ≡ printed_arrival_sheet names arrivals))
  unfolding read_arrivals
  arrival_sheets = whole_sheets (printed_arrival_sheet names) spells_arrivals
