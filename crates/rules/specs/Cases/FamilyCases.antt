-- Document 02, K3, by small cases: how many trees, in which order, which nets are one wiring, and the two calls. Sheets are written as in `Cases`,
-- with `/` for the line feed.
-- Assumes nothing.
use Rattle.std.specs.Prelude.{ℕ, ◌+◌, ◌%◌, ◌≡◌, refl, cond, not, ◌&&◌, ◌||◌, List, [], ◌∷◌, map, replicate, take, eqb}
use Prim.Native.String.{String}
use Rattle.rules.specs.Lists.{range}
use Rattle.rules.specs.Sheets.Sheets.{Gate, Table}
use Rattle.rules.specs.Sheets.Printed.{printed_table}
use Rattle.rules.specs.Groups.Marks.{inside}
use Rattle.rules.specs.Nets.Wirings.{Wiring, input, gate}
use Rattle.rules.specs.Nets.Family.{tree_count, counts_of, family_wiring, gate_groups}
use Rattle.rules.specs.Nets.Leaves.{leaves_of}
use Rattle.rules.specs.Calls.Answers.{accepted, ink_in}
use Rattle.rules.specs.Calls.FamilyCalls.{count_of_table, family_count_call, family_tree_call}
use Rattle.rules.specs.Cases.Cases.{zero_table, majority, marks_of_case}
use Rattle.rules.specs.Cases.Written.{paper, abc, nines, writing}
use Rattle.rules.specs.Evaluation.{computing}

-- 1 where an odd number of a b c are 1: each input matters, and every group has mark 2
unfoldable pub odd_table : Table
odd_table = abc 2 (λ a b c. (a + b + c) % 2)

-- the wiring of a number
unfoldable pub wiring_of_table : Table → ℕ → Wiring
wiring_of_table t r =
    let m = t.header.levels in
    let n = t.header.inputs in
    let marks = marks_of_case t in
    family_wiring n marks (counts_of n marks) n (leaves_of m n (ink_in t.inks)) r

-- for the odd table over a b c: "The order is by A's number", which is 1, 3, 5
pub three_trees : (count_of_table odd_table ≡ 3)
    × (wiring_of_table odd_table 0 ≡ gate (input 0) (gate (input 1) (input 2)))
    × (wiring_of_table odd_table 1 ≡ gate (gate (input 0) (input 1)) (input 2))
    × (wiring_of_table odd_table 2 ≡ gate (gate (input 0) (input 2)) (input 1))
unfolding computing writing wiring_of_table marks_of_case odd_table
three_trees = (refl, refl, refl, refl)

-- "a family numbers the wirings on just these" leaves (document 02, K12): the table of all ink 0 has one, `a b`; in the other only b and c matter
pub one_tree : (count_of_table zero_table ≡ 1)
    × (wiring_of_table zero_table 0 ≡ gate (input 0) (input 1))
    × (count_of_table (abc 2 (λ a b c. (b + c) % 2)) ≡ 1)
    × (wiring_of_table (abc 2 (λ a b c. (b + c) % 2)) 0 ≡ gate (input 1) (input 2))
unfolding computing writing wiring_of_table marks_of_case zero_table
one_tree = (refl, refl, refl, refl)

-- "A table with no tree gets count 0, never 16."
pub no_trees : count_of_table majority ≡ 0
unfolding computing writing majority
no_trees = refl

-- four inputs, every group of mark 2: 15 trees
pub fifteen_trees : tree_count 4 (0 ∷ replicate 15 2) 15 ≡ 15
unfolding computing
fifteen_trees = refl

-- six inputs, split into the first three and the last three: 3 trees of each
unfoldable pub halves : List ℕ
halves = map (λ g. cond (not (eqb g 0) && (inside 6 g 7 || inside 6 g 56 || eqb g 63)) 2 0) (range 0 64)

-- "then A's tree, then B's": B's tree changes fastest
pub by_halves : (tree_count 6 halves 63 ≡ 9)
    × (family_wiring 6 halves (counts_of 6 halves) 6 63 1 ≡ gate (gate (input 0) (gate (input 1) (input 2))) (gate (gate (input 3) (input 4)) (input 5)))
    × (family_wiring 6 halves (counts_of 6 halves) 6 63 3 ≡ gate (gate (gate (input 0) (input 1)) (input 2)) (gate (input 3) (gate (input 4) (input 5))))
unfolding computing halves
by_halves = (refl, refl, refl)

-- a gate by its two references, whatever its table
unfoldable pub joining : ℕ → ℕ → Gate
joining l r = record { left = l; right = r; digits = [] }

-- over a b c d: `a b`, `c d`, `1 2` and, with other sides and gate numbers, `d c`, `b a`, `2 1` have the same groups; `a b`, `1 c`, `2 d` does not
pub groups_joined_case : (gate_groups 4 (joining 0 1 ∷ joining 2 3 ∷ joining 4 5 ∷ []) ≡ 3 ∷ 12 ∷ 15 ∷ [])
    × (gate_groups 4 (joining 3 2 ∷ joining 1 0 ∷ joining 5 4 ∷ []) ≡ 12 ∷ 3 ∷ 15 ∷ [])
    × (gate_groups 4 (joining 0 1 ∷ joining 4 2 ∷ joining 5 3 ∷ []) ≡ 3 ∷ 7 ∷ 15 ∷ [])
unfolding computing joining
groups_joined_case = (refl, refl, refl)

-- ---- the calls

-- "A table with no tree gets count 0, never 16.": accepted, with the cells and marks written, and further bytes kept
pub none_counted_case : family_count_call (printed_table majority) (nines 9) (nines 4)
    ≡ record { answer = accepted 0; cells = 0 ∷ 0 ∷ 0 ∷ 1 ∷ 0 ∷ 1 ∷ 1 ∷ 1 ∷ 9 ∷ []; marks = 0x28 ∷ 0x42 ∷ 9 ∷ 9 ∷ [] }
unfolding computing writing majority
none_counted_case = refl

pub three_counted : family_count_call (printed_table odd_table) (nines 8) (nines 2)
    ≡ record { answer = accepted 3; cells = 0 ∷ 1 ∷ 1 ∷ 0 ∷ 1 ∷ 0 ∷ 0 ∷ 1 ∷ []; marks = 0xa8 ∷ 0xaa ∷ [] }
unfolding computing writing odd_table
three_counted = refl

-- the sheet of a number, for the odd table over a b c
abbrev Writes : ℕ → String → Type 0
Writes number sheet =
    let made = family_tree_call (printed_table odd_table) number (nines 8) (nines 2) (nines 64) in
    (made.answer ≡ accepted 59) × (take 59 made.output ≡ paper sheet)

-- "writes the tree of that number, from 0"; "number 0 is the settled net" (starred case 2)
pub three_written : Writes 0 "levels inputs/2 3/a b c/left right table/b c 0110/a 1 0110/"
    × Writes 1 "levels inputs/2 3/a b c/left right table/a b 0110/1 c 0110/"
    × Writes 2 "levels inputs/2 3/a b c/left right table/a c 0110/1 b 0110/"
unfolding computing writing odd_table
three_written = ((refl, refl), (refl, refl), (refl, refl))
