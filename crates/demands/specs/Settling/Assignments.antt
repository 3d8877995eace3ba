-- The demands, for assignments: "An assignment gives each input a level." A table has one row for each, so the statements about indices
-- (`table_at`, `check_agrees`, `make_refuses`) are statements about assignments.
-- Assumes nothing.
use Rattle.std.specs.Prelude.{◌<◌, ◌≤◌, ◌+◌, ◌-◌, ◌^◌, ◌≡◌, ◌↔◌}
use Rattle.laws.specs.Prelude.{ℕ, sym, subst, iff_trans, iff_not, List, length, get_or}
use Rattle.rules.specs.Calls.Answers.{accepted, refused, ink_in}
use Rattle.rules.specs.Calls.Checking.{agree, check_call}
use Rattle.rules.specs.Calls.OpenCells.{read_full}
use Rattle.rules.specs.Calls.Settling.{make_call}
use Rattle.rules.specs.Groups.Marks.{marks_length}
use Rattle.rules.specs.Nets.Trees.{Computes}
use Rattle.rules.specs.Nets.Value.{with_gates, value, value_with}
use Rattle.rules.specs.Sheets.Reading.{read_net, read_table, table_of_net}
use Rattle.rules.specs.Sheets.SheetRules.{HeaderRules, IsNet}
use Rattle.rules.specs.Sheets.Sheets.{Gate, Header, Net, Table}
use Rattle.laws.specs.Numbers.Assignments.{Assignment, index_of, each_assignment}
use Rattle.trees.specs.Trees.Uniqueness.{table_at}
use Rattle.readback.specs.Sheets.ReadBack.{net_accepted, table_accepted}
use Rattle.trees.specs.Trees.NetTables.{levels_pos}
use Rattle.demands.specs.Sheets.FullSheets.{full_accepted}
use Rattle.demands.specs.Others.Checks.{check_agrees}
use Rattle.demands.specs.Settling.Makes.{make_refuses}

-- "The net's value is its last gate's.", at an assignment: "An assignment gives each input a level."
unfoldable pub value_at : ℕ → ℕ → List Gate → List ℕ → ℕ
value_at m n gates ls = get_or (with_gates m ls gates) (n + length gates - 1) 0

-- a table's ink at an assignment: that of the one row with its levels
unfoldable pub ink_at : Table → List ℕ → ℕ
ink_at t ls = ink_in t.inks (index_of t.header.levels ls)

-- an assignment of the inputs under a header
abbrev pub LevelsGiven : Header → List ℕ → Type 0
LevelsGiven h ls = Assignment h.levels h.inputs ls

-- a net's value is the table's ink at every assignment
abbrev pub AgreesOnAll : List Gate → Table → Type 0
AgreesOnAll gates t = (ls : List ℕ) → LevelsGiven t.header ls → value_at t.header.levels t.header.inputs gates ls ≡ ink_at t ls

-- this holds at every index exactly if it holds at every assignment
computes_all : (t : Table) → HeaderRules t.header → (gates : List Gate)
    → Computes t.header.levels t.header.inputs gates (ink_in t.inks) ↔ AgreesOnAll gates t
unfolding value_at ink_at value value_with
computes_all t kept gates =
    each_assignment t.header.levels t.header.inputs (levels_pos t.header.levels kept.levels)
    (λ ls p. value_at t.header.levels t.header.inputs gates ls ≡ ink_in t.inks p)

-- Demand 2, "The table of a net is Section I's value on every assignment": for an accepted net sheet, the table's ink at any assignment is
-- the net's value there.
pub table_at_assignment : (s : List ℕ) (net : Net) → read_net s ≡ accepted net → AgreesOnAll net.gates (table_of_net net)
unfolding table_of_net
table_at_assignment s net reads =
    (computes_all (table_of_net net) (net_accepted s net reads).1.header net.gates).0
    (λ p h. sym (table_at net.header.levels net.header.inputs net.gates p h))

-- .. at every assignment that is not open
abbrev pub AgreesWhereShut : List Gate → Table → Type 0
AgreesWhereShut gates t =
    (ls : List ℕ) → LevelsGiven t.header ls → (ink_at t ls ≡ t.header.levels → ⊥) → value_at t.header.levels t.header.inputs gates ls ≡ ink_at t ls

-- Demand 2, "the check of a net against a table says yes exactly when they agree on every assignment", now for "the assignments that aren't open"
-- (document 02, K13)
pub check_agrees_assignments : (s r : List ℕ) (net : Net) (t : Table) → read_net s ≡ accepted net → read_table r ≡ accepted t
    → net.header ≡ t.header → (cells : List ℕ) → t.header.levels ^ t.header.inputs ≤ length cells
    → ((check_call s r cells).answer ≡ agree) ↔ AgreesWhereShut net.gates t
unfolding value_at ink_at value value_with
check_agrees_assignments s r net t reads_net reads_table header cells long =
    iff_trans
    (subst (λ (h : Header). ((check_call s r cells).answer ≡ agree)
    ↔ ((p : ℕ) → p < t.header.levels ^ t.header.inputs → (ink_in t.inks p ≡ t.header.levels → ⊥)
    → value h.levels h.inputs net.gates p ≡ ink_in t.inks p))
    header (check_agrees s r net t reads_net reads_table header cells long))
    (each_assignment t.header.levels t.header.inputs (levels_pos t.header.levels (table_accepted r t reads_table).1.header.levels)
    (λ ls p. (ink_in t.inks p ≡ t.header.levels → ⊥) → value_at t.header.levels t.header.inputs net.gates ls ≡ ink_in t.inks p))

-- some net with the table's levels and inputs has, at every assignment, the ink of that assignment's row
abbrev pub HasTreeOnAll : Table → Type 0
HasTreeOnAll t = (gates : List Gate) × IsNet t.header.levels t.header.inputs gates × AgreesOnAll gates t

-- Demand 3, "making refuses the table as having no tree exactly when no fanout-free tree .. computes it": no net, whatever its wiring
-- and its digits, has at every assignment the ink of that assignment's row.
pub make_refuses_assignments : (s : List ℕ) (t : Table) → read_full s ≡ accepted t
    → (cells marks output : List ℕ) → t.header.levels ^ t.header.inputs ≤ length cells → marks_length t.header.inputs ≤ length marks
    → ((place : ℕ) × ((make_call s cells marks output).answer ≡ refused 16 place)) ↔ (HasTreeOnAll t → ⊥)
make_refuses_assignments s t reads cells marks output cells_fit marks_fit =
    let all = computes_all t (full_accepted s t reads).1.header in
    iff_trans (make_refuses s t reads cells marks output cells_fit marks_fit)
    (iff_not (λ tree. (tree.0, tree.1, (all tree.0).0 tree.2), λ tree. (tree.0, tree.1, (all tree.0).1 tree.2)))
