-- The result of requiring a table without open cells: 27 at the lowest open index, or no cell is open. One law for each outcome, for a
-- list of cells, for bare cells and for a table sheet.
-- Assumes nothing.
use Rattle.std.specs.Prelude.{◌<◌, ◌≤◌, ◌^◌, ◌≡◌}
use Rattle.laws.specs.Prelude.{ℕ, ◌∙◌, sym, refl, true, false, List, dec_lt, arith, length, get_or, eq-eqb, eqb-true, ne_eqb, lt-ltb}
use Rattle.laws.specs.Prelude.{le-ltb, eqb-false, leb-true}
use Rattle.rules.specs.Calls.Answers.{accepted, refused, onward}
use Rattle.rules.specs.Calls.OpenCells.{is_open_of, full, full_cells, full_table, read_full}
use Rattle.rules.specs.Limits.{size_fits}
use Rattle.rules.specs.Lists.{first_place}
use Rattle.rules.specs.Sheets.Reading.{read_table}
use Rattle.rules.specs.Sheets.SheetRules.{TableRules, FullTable}
use Rattle.rules.specs.Sheets.Sheets.{Table}
use Rattle.rules.specs.Calls.Answers as answers
use Rattle.rules.specs.Calls.BareCells.{bare_cells}
use Rattle.laws.specs.Calls.Answers.{not_refused}
use Rattle.laws.specs.Calls.BareCells.{bare_within, bare_accepted, bare_inks, bare_kept}
use Rattle.laws.specs.Lists.FirstPlaces.{any_place, at_first, before_first}
use Rattle.laws.specs.Lists.Places.{mem_get_or}
use Rattle.laws.specs.Lists.Tests.{all_mem}

-- ---- a list of cells

-- a cell is open exactly if its ink is m
pub open_ink : (m c : ℕ) → is_open_of m c ≡ true → c ≡ m
unfolding is_open_of
open_ink m c e = eqb-true c m e

pub shut_ink : (m c : ℕ) → is_open_of m c ≡ false → c ≡ m → ⊥
unfolding is_open_of
shut_ink m c e = eqb-false c m e

pub is_open : (m c : ℕ) → c ≡ m → is_open_of m c ≡ true
unfolding is_open_of
is_open m c e = eq-eqb c m e

pub not_open : (m c : ℕ) → (c ≡ m → ⊥) → is_open_of m c ≡ false
unfolding is_open_of
not_open m c ne = ne_eqb c m ne

module _ (m : ℕ) (cells : List ℕ) where
  -- by the place of the first open cell
  pub full_27 : first_place (is_open_of m) cells < length cells → full m cells ≡ refused 27 (first_place (is_open_of m) cells)
  unfolding full
  full_27 h = rw (any_place (is_open_of m) cells, lt-ltb _ _ h, full)

  pub full_on : length cells ≤ first_place (is_open_of m) cells → full m cells ≡ accepted tt
  unfolding full
  full_on h = rw (any_place (is_open_of m) cells, le-ltb _ _ h, full)

-- either no cell is open, or some cell is and the lowest one is reported
pub data Fullness (m : ℕ) (cells : List ℕ) : Type 0 where
  all_shut : full m cells ≡ accepted tt → ((k : ℕ) → k < length cells → get_or cells k 0 ≡ m → ⊥) → Fullness m cells
  lowest_open : (k : ℕ) → full m cells ≡ refused 27 k → k < length cells → get_or cells k 0 ≡ m → ((p : ℕ) → p < k → get_or cells p 0 ≡ m → ⊥)
      → Fullness m cells

module _ (m : ℕ) (cells : List ℕ) where
  pub fullness : Fullness m cells
  fullness = elim (dec_lt (first_place (is_open_of m) cells) (length cells)) [
    | yes h ↦
        lowest_open (first_place (is_open_of m) cells) (full_27 m cells h) h (open_ink m _ (at_first (is_open_of m) 0 cells h))
        (λ p l. shut_ink m _ (before_first (is_open_of m) 0 cells p l))
    | no h ↦ all_shut (full_on m cells (omega arith)) (λ k l. shut_ink m _ (before_first (is_open_of m) 0 cells k (omega arith)))
  ]

  -- if cells are full, none is open
  pub none_open : full m cells ≡ accepted tt → (k : ℕ) → k < length cells → get_or cells k 0 ≡ m → ⊥
  none_open e =
      elim fullness [ all_shut _ none ↦ none | lowest_open k back _ _ _ ↦ absurd (not_refused tt 27 k (sym e ∙ back)) ]

  -- .. and conversely
  pub open_none : ((k : ℕ) → k < length cells → get_or cells k 0 ≡ m → ⊥) → full m cells ≡ accepted tt
  open_none none = elim fullness [ all_shut e _ ↦ e | lowest_open k _ inside gap _ ↦ absurd (none k inside gap) ]

  -- a refusal is 27 at the lowest open cell
  pub some_open : (number place : ℕ) → full m cells ≡ refused number place
      → (number ≡ 27) × (place < length cells) × (get_or cells place 0 ≡ m) × ((p : ℕ) → p < place → get_or cells p 0 ≡ m → ⊥)
  some_open number place e = elim fullness [
    | all_shut on _ ↦ absurd (not_refused tt number place (sym on ∙ e))
    | lowest_open k back inside gap before ↦
        let same : k ≡ place = cc in
        (cc, rw same at inside, rw same at gap, rw same at before)
  ]

-- ---- a table

module _ (t : Table) where
  -- a full table's inks are levels, ..
  pub table_full : TableRules t → full_table t ≡ accepted tt → FullTable t
  unfolding full_table
  table_full kept e k h = omega (arith, kept.within k h, none_open t.header.levels t.inks e k h)

  -- .. and if they are levels, it is full
  pub full_table_lem : FullTable t → full_table t ≡ accepted tt
  unfolding full_table
  full_table_lem below = open_none t.header.levels t.inks (λ k h e. omega (arith, below k h))

-- ---- bare cells

module _ (m n : ℕ) (cells : List ℕ) where
  pub cells_refused : (number place : ℕ) → refused number place ≡ bare_cells m n cells → refused number place ≡ full_cells m n cells
  unfolding full_cells onward
  cells_refused number place e = rw (← e)

  pub cells_judged : accepted tt ≡ bare_cells m n cells → full m cells ≡ full_cells m n cells
  unfolding full_cells onward
  cells_judged e = rw (← e)

  -- cells below m
  pub cells_full : size_fits m n ≡ true → length cells ≡ m ^ n → ((k : ℕ) → k < length cells → get_or cells k 0 < m) → accepted tt ≡ full_cells m n cells
  cells_full fits count below =
      sym (open_none m cells (λ k h e. omega (arith, below k h))) ∙ cells_judged (bare_within m n cells fits count (λ k h. omega (arith, below k h)))

  -- full cells are bare cells that are accepted, none of them open
  pub cells_accepted : accepted tt ≡ full_cells m n cells → (accepted tt ≡ bare_cells m n cells) × (full m cells ≡ accepted tt)
  cells_accepted e = go (bare_cells m n cells) refl
    where
      go : (r : answers.Answer (Unit {0})) → bare_cells m n cells ≡ r → (accepted tt ≡ bare_cells m n cells) × (full m cells ≡ accepted tt)
      go (accepted tt) b = (sym b, cells_judged (sym b) ∙ sym e)
      go (refused number place) b = absurd (not_refused tt number place (e ∙ sym (cells_refused number place (sym b))))

  -- the size fits, and the number of cells is right
  pub cells_sized : accepted tt ≡ full_cells m n cells → (size_fits m n ≡ true) × (length cells ≡ m ^ n)
  cells_sized e = bare_accepted m n cells (cells_accepted e).0

  -- .. and each cell is below m
  pub cells_below : accepted tt ≡ full_cells m n cells → (k : ℕ) → k < length cells → get_or cells k 0 < m
  cells_below e k h =
      let (bare, shut) = cells_accepted e in
      let most = leb-true (get_or cells k 0) m (all_mem _ (mem_get_or cells k 0 h) (bare_inks m n cells bare)) in
      omega (arith, most, none_open m cells shut k h)

-- the inks of a full table that follows the rules are full cells
pub cells_kept : (t : Table) → TableRules t → FullTable t → full_cells t.header.levels t.header.inputs t.inks ≡ accepted tt
unfolding full_table
cells_kept t kept below = sym (cells_judged t.header.levels t.header.inputs t.inks (sym (bare_kept t kept))) ∙ full_table_lem t below

-- ---- a table sheet

module _ (s : List ℕ) where
  pub read_refused : (number place : ℕ) → read_table s ≡ refused number place → read_full s ≡ refused number place
  unfolding read_full onward
  read_refused number place e = rw (e, read_full)

  pub read_27 : (t : Table) → read_table s ≡ accepted t → (number place : ℕ) → full_table t ≡ refused number place → read_full s ≡ refused number place
  unfolding read_full onward
  read_27 t e number place back = rw (e, back, read_full)

  pub read_full_lem : (t : Table) → read_table s ≡ accepted t → full_table t ≡ accepted tt → read_full s ≡ accepted t
  unfolding read_full onward
  read_full_lem t e on = rw (e, on, read_full)

-- a table sheet that needs a full table is refused like any table sheet, or has an open cell, or is read
pub data FullRead (s : List ℕ) : Type 0 where
  turned_back_lem : (number place : ℕ) → read_table s ≡ refused number place → read_full s ≡ refused number place → FullRead s
  left_open : (t : Table) → read_table s ≡ accepted t → (k : ℕ) → full_table t ≡ refused 27 k → read_full s ≡ refused 27 k → FullRead s
  whole : (t : Table) → read_table s ≡ accepted t → full_table t ≡ accepted tt → read_full s ≡ accepted t → FullRead s

module _ (s : List ℕ) where
  pub full_read : FullRead s
  unfolding full_table
  full_read = go (read_table s) refl
    where
      judged : (t : Table) → read_table s ≡ accepted t → Fullness t.header.levels t.inks → FullRead s
      judged t e (all_shut on _) = whole t e on (read_full_lem s t e on)
      judged t e (lowest_open k back _ _ _) = left_open t e k back (read_27 s t e 27 k back)

      go : (r : answers.Answer Table) → read_table s ≡ r → FullRead s
      go (refused number place) e = turned_back_lem number place e (read_refused s number place e)
      go (accepted t) e = judged t e (fullness t.header.levels t.inks)

  -- accepted exactly if the sheet is read and its table is full
  pub read_accepted : (t : Table) → read_full s ≡ accepted t → (read_table s ≡ accepted t) × (full_table t ≡ accepted tt)
  read_accepted t e = elim full_read [
    | turned_back_lem number place _ back ↦ absurd (not_refused t number place (sym e ∙ back))
    | left_open _ _ k _ back ↦ absurd (not_refused t 27 k (sym e ∙ back))
    | whole u read on same ↦
        let is : u ≡ t = cc in
        (rw is at read, rw is at on)
  ]
