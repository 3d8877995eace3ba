-- Document 02, K3: how many trees a table has, the tree of each number, and when two nets are one wiring. The rule for the gates' digits
-- is in `Filling`.
-- Assumes nothing.
use Rattle.std.specs.Prelude.{ℕ, zero, suc, ◌+◌, ◌-◌, ◌*◌, ◌/◌, ◌%◌, ◌^◌, ◌≡◌, true, false, ◌&&◌, List, [], ◌∷◌, ◌++◌, map, get_or, eqb, ltb}
use Rattle.rules.specs.Lists.{range, any, those, total}
use Rattle.rules.specs.Sheets.Sheets.{Gate}
use Rattle.rules.specs.Groups.Groups.{member, size}
use Rattle.rules.specs.Groups.Marks.{mark_in, parts_at}
use Rattle.rules.specs.Nets.Wirings.{Wiring, input, gate, first_input, links_of}
use Rattle.rules.specs.Nets.Filling.{input_groups, filled}
use Rattle.rules.specs.Nets.Leaves.{leaves_of}

-- ---- the count

-- The splits of a group into two of mark 2, each given by its part A, in rising order of A's number. "A split is counted once, with the first-listed
-- input on the left."
unfoldable pub splits_of : ℕ → List ℕ → ℕ → List ℕ
splits_of n marks g = those (λ a. parts_at n marks g a && member (first_input n g) a) (range 1 (g - 1))

-- the count of g in a list that holds each group's count at its number
abbrev pub count_in : List ℕ → ℕ → ℕ
count_in counts g = get_or counts g 0

-- "a split's count from its two groups": each tree of A with each tree of B
unfoldable pub split_count : List ℕ → ℕ → ℕ → ℕ
split_count counts g a = count_in counts a * count_in counts (g - a)

-- "A group's count comes from its splits": 0 if its mark is not 2, and 1 for a single input. `counts` holds the counts of the
-- groups below g.
unfoldable pub count_of : ℕ → List ℕ → List ℕ → ℕ → ℕ
count_of n marks counts g =
    elim (eqb (mark_in marks g) 2) [
      | true ↦ elim (eqb (size n g) 1) [ true ↦ 1 | false ↦ total (map (split_count counts g) (splits_of n marks g)) ]
      | false ↦ 0
    ]

-- the counts of the groups below `end`
unfoldable pub counts_below : ℕ → List ℕ → ℕ → List ℕ
counts_below n marks zero = []
counts_below n marks (suc end) = let counts = counts_below n marks end in counts ++ (count_of n marks counts end ∷ [])

-- the counts of all groups
unfoldable pub counts_of : ℕ → List ℕ → List ℕ
counts_of n marks = counts_below n marks (2 ^ n)

-- "the count of the trees" on these leaves: "a family numbers the wirings on just these" (document 02, K12)
unfoldable pub tree_count : ℕ → List ℕ → ℕ → ℕ
tree_count n marks leaves = count_in (counts_of n marks) leaves

-- ---- the tree of a number

-- a split, and a number among the trees of that split
pub record Numbered : Type 0 where
  pub part : ℕ
  pub number : ℕ

-- The split that number r falls in, and its number there: split counts are subtracted from r until it is below the next one. If there is none,
-- part 0.
unfoldable pub numbered_at : (ℕ → ℕ) → List ℕ → ℕ → Numbered
numbered_at count [] r = record { part = 0; number = r }
numbered_at count (a ∷ parts) r =
    elim (ltb r (count a)) [ true ↦ record { part = a; number = r } | false ↦ numbered_at count parts (r - count a) ]

-- The wiring of number r of group g. "The order is by A's number, then A's tree, then B's." `fuel` is at least the number of members.
unfoldable pub family_wiring : ℕ → List ℕ → List ℕ → ℕ → ℕ → ℕ → Wiring
family_wiring n marks counts zero g r = input (first_input n g)
family_wiring n marks counts (suc fuel) g r =
    elim (eqb (size n g) 1) [
      | true ↦ input (first_input n g)
      | false ↦
          let split = numbered_at (split_count counts g) (splits_of n marks g) r in
          let a = split.part in
          let b = g - a in
          gate (family_wiring n marks counts fuel a (split.number / count_in counts b)) (family_wiring n marks counts fuel b (split.number % count_in counts b))
    ]

-- The net of number r, from the marks. "Gate tables follow the settled net's rule."
unfoldable pub family_gates : ℕ → ℕ → (ℕ → ℕ) → List ℕ → ℕ → List Gate
family_gates m n f marks r = filled m n f (links_of n 0 (family_wiring n marks (counts_of n marks) n (leaves_of m n f) r))

-- ---- one wiring

-- the groups of some gates, where `groups` holds the group of every reference so far; a gate's group is the union of its references' groups
unfoldable pub groups_from : List ℕ → List Gate → List ℕ
groups_from groups [] = []
groups_from groups (g ∷ gates) =
    let own = get_or groups g.left 0 + get_or groups g.right 0 in
    own ∷ groups_from (groups ++ (own ∷ [])) gates

-- the group of each gate, in the gates' order
unfoldable pub gate_groups : ℕ → List Gate → List ℕ
gate_groups n gates = groups_from (input_groups n) gates

-- "Nets that differ only in which side is left, in gate numbers or in gate tables are one wiring": gates join the same groups of inputs.
-- A group says which inputs are below a gate, but nothing about a side, a number or a table; and in a net it determines which two
-- smaller groups its gate joins. (`same_wiring` in trees/Filling/GateGroups proves that this is
-- what the sentence says about the two trees: one is the other with sides exchanged, `Turned`.)
abbrev pub SameWiring : ℕ → List Gate → List Gate → Type 0
SameWiring n gates others = (g : ℕ) → any (eqb g) (gate_groups n gates) ≡ any (eqb g) (gate_groups n others)

-- all of this file computes
unfoldable pub computing : Unit {0}
unfolding splits_of split_count count_of counts_below counts_of tree_count numbered_at family_wiring family_gates groups_from gate_groups
computing = tt
