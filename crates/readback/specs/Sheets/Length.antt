-- "the settled sheet's length, which is never over 512": this holds for every accepted net sheet.
-- Assumes nothing.
use Rattle.std.specs.Prelude.{◌<◌, ◌≤◌, ◌+◌, ◌-◌, ◌*◌, ◌∷◌}
use Rattle.laws.specs.Prelude.{ℕ, suc, refl, List, [], mul-le-mul_right, le_trans, arith, length, get_or, length-append}
use Rattle.laws.specs.Prelude.{length-map}
use Rattle.rules.specs.Limits.{cells_fit_of, most_settled}
use Rattle.rules.specs.Lists.{range, all, concat_map}
use Rattle.rules.specs.Sheets.Printed.{line, first_lines, printed_gate, printed_net}
use Rattle.rules.specs.Sheets.SheetRules.{GoodNames, GateTable, RefersBack, Tables, NetRules}
use Rattle.rules.specs.Sheets.Sheets.{Gate, Net, reference_text}
use Rattle.rules.specs.Text.{text}
use Rattle.laws.specs.Numbers.Decimals.{decimal_length}
use Rattle.readback.specs.Readers.Judges.{name_parts}
use Rattle.readback.specs.Readers.Names.{good_name}
use Rattle.readback.specs.Nets.References.{to_input, to_gate, refers}
use Rattle.laws.specs.Numbers.Sizes.{kept_size, every_size, bounded_at}

-- ---- the parts of a sheet

-- a line of names: at most 8 bytes and a separator each
names_length : (ws : List (List ℕ)) → GoodNames ws → 0 < length ws → length (line ws) ≤ 9 * length ws
unfolding line
names_length [] g h = absurd (omega arith)
names_length (w ∷ []) g h =
    let (l, _, _) = name_parts w g.0 in
    rw length-append (omega arith)
names_length (w ∷ v ∷ ws) g h =
    let (l, _, _) = name_parts w g.0 in
    let i = names_length (v ∷ ws) g.2 (omega arith) in
    rw length-append (omega arith)

-- a reference to an input or to one of the first 99 gates is no longer than a name
pub reference_length_lem : (names : List (List ℕ)) → GoodNames names → (r : ℕ) → r < length names + 99 → length (reference_text names r) ≤ 8
reference_length_lem names g r h = elim (refers names r) [
  | to_input l e ↦ rw e (name_parts (get_or names r []) (good_name names g r l)).0
  | to_gate l e ↦ rw e (le_trans (decimal_length 1 (r + 1 - length names) (omega arith)) (omega arith))
]

-- a gate line: two references, the digits and three separators
gate_length : (names : List (List ℕ)) → GoodNames names → (m : ℕ) (g : Gate) → g.left < length names + 99 → g.right < length names + 99
    → GateTable m g.digits → length (printed_gate names g) ≤ 19 + m * m
unfolding printed_gate line
gate_length names n m g h k t =
    let i = reference_length_lem names n g.left h in
    let j = reference_length_lem names n g.right k in
    simp (length-append, length-map) (omega (arith, t.count))

-- all gate lines; `k` references come before them
gates_length : (names : List (List ℕ)) → GoodNames names → (m k : ℕ) (gates : List Gate) → RefersBack k gates → k + length gates ≤ length names + 99
    → Tables m gates → length (concat_map (printed_gate names) gates) ≤ length gates * (19 + m * m)
unfolding concat_map
gates_length names n m k [] b h t = omega arith
gates_length names n m k (g ∷ gates) b h t =
    let i = gate_length names n m g (omega (arith, b.0)) (omega (arith, b.1)) t.0 in
    let j = gates_length names n m (suc k) gates b.2 (omega arith) t.1 in
    rw length-append (omega arith)

-- ---- the bound

-- an upper bound for a net sheet of m levels and n inputs: two fixed lines (31), two values (6), the names, the gate lines
bound : ℕ → ℕ → ℕ
bound m n = 37 + 9 * n + (n - 1) * (19 + m * m)

-- it is the sum of the parts
sheet_length : (net : Net) → NetRules net → length (printed_net net) ≤ bound net.header.levels net.header.inputs
unfolding printed_net first_lines line bound text
sheet_length net k =
    let h = net.header in
    let z = kept_size h k.header in
    let a = decimal_length 1 h.levels (omega arith) in
    let b = decimal_length 1 h.inputs (omega arith) in
    let c = names_length h.names k.header.names (omega arith) in
    let d = gates_length h.names k.header.names h.levels h.inputs net.gates
    k.gates.rules.back (omega arith) k.gates.rules.tables in
    let e : length net.gates * (19 + h.levels * h.levels) ≤ (h.inputs - 1) * (19 + h.levels * h.levels) =
    mul-le-mul_right (19 + h.levels * h.levels) (omega (arith, k.gates.count)) in
    simp length-append (omega arith)

-- no net sheet is longer than 512 bytes
pub net_length : (net : Net) → NetRules net → length (printed_net net) ≤ most_settled
unfolding every_size all range bound cells_fit_of
net_length net kept = le_trans (sheet_length net kept) (bounded_at bound most_settled refl _ _ (kept_size net.header kept.header))
