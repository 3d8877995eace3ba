-- A block of m * m rows: the last two levels count up from 0, and the levels before them stay the same. A line of a block: the m rows in which only the
-- last level counts up.
-- Assumes nothing.
use Rattle.std.specs.Prelude.{◌<◌, ◌≤◌, ◌+◌, ◌^◌, ◌*◌, ◌≡◌, ◌∷◌, ◌++◌, Ok}
use Rattle.laws.specs.Prelude.{ℕ, ◌∙◌, sym, ap, refl, true, false, Bool, false≢true, List, [], mul-le-mul_right}
use Rattle.laws.specs.Prelude.{pow-suc, suc-mul, mul-le-mul, add-mul, add-one, arith, length, get_or, take, drop, set, get_or-take, take-take, digits_mod}
use Rattle.laws.specs.Prelude.{digits_div}
use Rattle.rules.specs.Limits.{most_levels, most_inputs}
use Rattle.rules.specs.Sheets.Sheets.{levels_at}
use Rattle.laws.specs.Numbers.Levels.{levels_below, levels_suc}
use Rattle.fields.specs.declared.steps.Field.{Field}
use Rattle.table_reader.specs.Fast.Due.{AreDigits, row_bytes, RowStands}
use Rattle.table_reader.specs.Row.{row_line}
use Rattle.table_reader.specs.Fast.Rows.{TableReached, reached_next}

-- ---- the levels

-- the levels `ls` of k inputs have the index q
pub record LevelsOf (m k q : ℕ) (ls : List ℕ) : Type 0 where
  pub due : ls ≡ levels_at m k q
  pub most : q < m ^ k

-- one more level
pub more_levels : (m k q l : ℕ) → l < m → levels_at m (k + 1) (q * m + l) ≡ levels_at m k q ++ (l ∷ [])
more_levels m k q l h =
    rw (add-one, levels_suc, digits_div q h, digits_mod q h)

pub one_more : {m k q : ℕ} {ls : List ℕ} → LevelsOf m k q ls → (l : ℕ) → l < m → LevelsOf m (k + 1) (q * m + l) (ls ++ (l ∷ []))
one_more {m} {k} {q} of l h =
    record {
      due = ap (λ xs. xs ++ (l ∷ [])) of.due ∙ sym (more_levels m k q l h);
      most = rw (add-one, pow-suc) (omega (arith, mul-le-mul_right m of.most, suc-mul q m));
    }

-- ---- what is tried

-- the rows that share the levels `ls`, of index q, are next: a block, or a line of it. `levels` begins with the first of `ls`, and the cells have room
pub record BlockStarts (m front k q : ℕ) (levels ls cells : List ℕ) : Type 0 where
  pub few : m ≤ most_levels
  pub inputs : front ≤ most_inputs
  pub short : front ≤ length levels
  pub shared : LevelsOf m k q ls
  pub room : m ^ (front + 1 + 1) ≤ length cells

-- the rows from index p on were tried: the cells before theirs are unchanged and, if they have the expected bytes, they are read after those before them
pub record BlockTried (s : List ℕ) (at m front p rows end : ℕ) (before after : List ℕ) (r : Bool) : Type 0 where
  pub kept : take p after ≡ take p before
  pub within : r ≡ true → end ≤ length s
  pub reached : r ≡ true → (start : ℕ) → TableReached s start m (front + 1 + 1) before at p → TableReached s start m (front + 1 + 1) after end (p + rows)

-- no row of them counts as read
pub block_left : (s before after : List ℕ) (at m front p rows end : ℕ) → take p after ≡ take p before → BlockTried s at m front p rows end before after false
block_left s before after at m front p rows end kept =
    record { kept = kept; within = λ e. absurd (false≢true e); reached = λ e. absurd (false≢true e) }

-- the row or line l of m, each of `size` bytes, is within the sheet if they all are
pub next_within : (at place l m size most : ℕ) → l < m → place ≡ at + l * size → at + m * size ≤ most → place + size ≤ most
next_within at place l m size most h e all = omega (arith, mul-le-mul_right size h, suc-mul l size, e, all)

-- ---- the rows of a line

-- one more row
pub line_next : {m k q : ℕ} {ls : List ℕ} → LevelsOf m k q ls → (s now : List ℕ) (start place l ink next : ℕ) → l < m → m ^ (k + 1) ≤ length now
    → RowStands s place m (ls ++ (l ∷ [])) ink next
    → TableReached s start m (k + 1) now place (q * m + l) → TableReached s start m (k + 1) (set now (q * m + l) ink) next (q * m + (l + 1))
line_next {m} {k} {q} of s now start place l ink next h room row rows =
    let here = one_more of l h in
    let after : q * m + l + 1 ≡ q * m + (l + 1) = omega arith in
    let found : Field = record { value = ink; next = next } in
    rw after at (reached_next s start m (k + 1) now place (q * m + l) rows here.most (Ok found)
    (row.reads ∙ ap (λ xs. row_line m xs (drop place s) place) here.due) found refl (omega (arith, here.most)))

-- ---- the lines of a block

pub front_digits : (m front q : ℕ) (levels : List ℕ) → LevelsOf m front q (take front levels) → 0 < m → m ≤ most_levels → AreDigits levels front
front_digits m front q levels of pos few k h =
    let below : get_or (take front levels) k 0 < m = rw of.due (levels_below m front q k pos h) in
    omega (arith, rw get_or-take at below)

-- their bytes are few
abbrev pub FewBytes : ℕ → ℕ → Type 0
FewBytes m front =
    (m * row_bytes front ≤ most_levels * row_bytes most_inputs) × (m * (m * row_bytes front) ≤ most_levels * (most_levels * row_bytes most_inputs))

pub few_bytes : (m front : ℕ) → m ≤ most_levels → front ≤ most_inputs → FewBytes m front
few_bytes m front few inputs =
    let row : row_bytes front ≤ row_bytes most_inputs = omega arith in
    let line : m * row_bytes front ≤ most_levels * row_bytes most_inputs = mul-le-mul few row in
    (line, mul-le-mul few line)

-- cells before the block are unchanged if those before its line l are
pub line_kept : (before after : List ℕ) (m q l : ℕ) → take ((q * m + l) * m) after ≡ take ((q * m + l) * m) before
    → take (q * m * m) after ≡ take (q * m * m) before
line_kept before after m q l e =
    let earlier : q * m ≤ q * m + l = omega arith in
    let most = mul-le-mul_right m earlier in
    sym (take-take (q * m * m) ((q * m + l) * m) after most) ∙ ap (take (q * m * m)) e ∙ take-take (q * m * m) ((q * m + l) * m) before most

-- the line after line l of block q
pub line_after : (m q l : ℕ) → (q * m + l) * m + m ≡ (q * m + (l + 1)) * m
line_after m q l = omega (arith, add-mul (q * m) l m, add-mul (q * m) (l + 1) m, add-mul l 1 m)
