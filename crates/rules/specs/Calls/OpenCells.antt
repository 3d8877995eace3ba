-- Document 02, K13: "Some assignments cannot occur on a given panel, and its maker writes `-` as their ink. Table sheets take it, and a cell holds m
-- for it." What needs a table without such cells.
-- Assumes nothing.
use Rattle.std.specs.Prelude.{ℕ, Bool, true, false, List, eqb}
use Rattle.rules.specs.Lists.{any, first_place}
use Rattle.rules.specs.Sheets.Sheets.{Table}
use Rattle.rules.specs.Calls.Answers.{Answer, accepted, onward, refused}
use Rattle.rules.specs.Sheets.Reading.{read_table}
use Rattle.rules.specs.Calls.BareCells.{bare_cells}

-- "a cell holds m for it"
unfoldable pub is_open_of : ℕ → ℕ → Bool
is_open_of m c = eqb c m

-- "Everything that counts classes, marks groups or fills gates needs a full table". 27: "open cell where a full table is needed, place the lowest such index"
unfoldable pub full : ℕ → List ℕ → Answer (Unit {0})
full m cells = elim (any (is_open_of m) cells) [ true ↦ refused 27 (first_place (is_open_of m) cells) | false ↦ accepted tt ]

-- judges bare cells that must be a full table: 27 is judged "for bare cells between 10 and 11"
unfoldable pub full_cells : ℕ → ℕ → List ℕ → Answer (Unit {0})
full_cells m n cells = onward (bare_cells m n cells) (λ _. full m cells)

-- judges 27 for a sheet's table
unfoldable pub full_table : Table → Answer (Unit {0})
full_table t = full t.header.levels t.inks

-- reads a table sheet that must be a full table: 27 is judged once the sheet is read, "before 13"
unfoldable pub read_full : List ℕ → Answer Table
read_full s = onward (read_table s) (λ t. onward (full_table t) (λ _. accepted t))

-- all of this file computes
unfoldable pub computing : Unit {0}
unfolding is_open_of full full_cells full_table read_full
computing = tt
