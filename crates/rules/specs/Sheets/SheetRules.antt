-- Document 01, section 'Sheets', stated without a reader: the rules for a header, a net's gates and a table's inks. A sheet is
-- accepted exactly if it is the print of a net or a table that follows them (the theorems are in the crate `readback`).
-- Assumes nothing.
use Rattle.std.specs.Prelude.{ℕ, suc, ◌+◌, ◌*◌, ◌^◌, ◌≤◌, ◌<◌, ◌≡◌, true, false, List, [], ◌∷◌, length, get_or, eqb}
use Rattle.rules.specs.Lists.{any, same}
use Rattle.rules.specs.Limits.{levels_fit, inputs_fit, cells_fit_of}
use Rattle.rules.specs.Sheets.Sheets.{Header, Gate, Net, Table, is_name, used_by}

-- "A name has 1 to 8 bytes .. It isn't `ink`, and no two inputs share one."
abbrev pub GoodNames : List (List ℕ) → Type 0
GoodNames [] = Unit {0}
GoodNames (w ∷ ws) = (is_name w ≡ true) × (any (same w) ws ≡ false) × GoodNames ws

-- levels, inputs and the number of cells are within their bounds, and there are n good names
pub record HeaderRules (h : Header) : Type 0 where
  pub levels : levels_fit h.levels ≡ true
  pub inputs : inputs_fit h.inputs ≡ true
  pub cells : cells_fit_of h.levels h.inputs ≡ true
  pub count : length h.names ≡ h.inputs
  pub names : GoodNames h.names

-- "Table is m·m digits below m"
pub record GateTable (m : ℕ) (digits : List ℕ) : Type 0 where
  pub count : length digits ≡ m * m
  pub below : (k : ℕ) → k < length digits → get_or digits k 0 < m

-- the same for every gate
abbrev pub Tables : ℕ → List Gate → Type 0
Tables m [] = Unit {0}
Tables m (g ∷ gates) = GateTable m g.digits × Tables m gates

-- "Left and right are each an input name or the decimal number .. of an earlier gate." `k` references come before the list.
abbrev pub RefersBack : ℕ → List Gate → Type 0
RefersBack k [] = Unit {0}
RefersBack k (g ∷ gates) = (g.left < k) × (g.right < k) × RefersBack (suc k) gates

-- no number occurs twice
abbrev pub Distinct : List ℕ → Type 0
Distinct [] = Unit {0}
Distinct (x ∷ xs) = (any (eqb x) xs ≡ false) × Distinct xs

-- The rules for gate lines, however many there are: "No input or gate is referred to twice."
pub record GateRules (m n : ℕ) (gates : List Gate) : Type 0 where
  pub back : RefersBack n gates
  pub once : Distinct (used_by gates)
  pub tables : Tables m gates

-- every gate but the last is used
abbrev pub EarlierUsed : ℕ → List Gate → Type 0
EarlierUsed n gates = (k : ℕ) → suc k < length gates → any (eqb (n + k)) (used_by gates) ≡ true

-- "A net sheet may have from 1 to n − 1 gate lines .. inputs may stay unused, earlier gates may not." (document 02, K12): a net of m levels, n inputs
pub record IsNet (m n : ℕ) (gates : List Gate) : Type 0 where
  pub some : 0 < length gates
  pub count : length gates < n
  pub rules : GateRules m n gates
  pub used : EarlierUsed n gates

-- a net sheet follows every rule
pub record NetRules (net : Net) : Type 0 where
  pub header : HeaderRules net.header
  pub gates : IsNet net.header.levels net.header.inputs net.gates

-- a table sheet follows every rule: one ink for each cell, below m, or m if the cell is open
pub record TableRules (t : Table) : Type 0 where
  pub header : HeaderRules t.header
  pub count : length t.inks ≡ t.header.levels ^ t.header.inputs
  pub within : (k : ℕ) → k < length t.inks → get_or t.inks k 0 ≤ t.header.levels

-- a full table: no cell is open (document 02, K13)
abbrev pub FullTable : Table → Type 0
FullTable t = (k : ℕ) → k < length t.inks → get_or t.inks k 0 < t.header.levels
