-- The shallow wiring of a group of mark 2. "Among equally shallow trees each group takes the part A of lowest number that keeps its own group
-- shallowest": this holds at each gate; it is a wiring of the group, as deep as the group's fewest layers; and no wiring of the group with few
-- classes at each gate has fewer.
-- Assumes nothing.
use Rattle.std.specs.Prelude.{◌<◌, ◌≤◌, ◌+◌, ◌-◌, ◌^◌, ◌≡◌, ◌≢◌, ◌&&◌}
use Rattle.laws.specs.Prelude.{ℕ, max, ⊎_elim, true, Bool, and-eq-true_iff, List, arith, eqb}
use Rattle.laws.specs.Prelude.{eq-eqb, eqb-true}
use Rattle.rules.specs.Groups.Groups.{size}
use Rattle.rules.specs.Groups.Marks.{inside, marks_of}
use Rattle.rules.specs.Nets.Wirings.{Wiring, group_of}
use Rattle.rules.specs.Nets.Shallow.{split_layers, fewest_layers, shallow_split, shallow_wiring}
use Rattle.rules.specs.Nets.SettledLaws.{found_in_range, MayBeA, may_be_a, may_be_a_lem, may_be}
use Rattle.trees.specs.Trees.Trees.{EachGate, WiringOf}
use Rattle.trees.specs.Groups.Members.{member_inside, size_le}
use Rattle.trees.specs.Groups.Classes.{Few}
use Rattle.trees.specs.Groups.MarkRule.{parts_found, parts_at_holds, marked}
use Rattle.trees.specs.Trees.MarkTwo.{Splits, two_says, wiring_of_lem, each_gate}
use Rattle.trees.specs.Shallow.Depths.{depth}
use Rattle.trees.specs.Shallow.FewestLayers.{fewest, Shallowest, fewest_attained}
use Rattle.trees.specs.Shallow.Choices.{EachSplit, takes_chosen}

-- ---- "the part A of lowest number that keeps its own group shallowest"

-- A part of g that may be A, and that "keeps its own group shallowest": the gate that joins it and the rest, each with its fewest layers, has
-- the fewest of g.
pub record MayBeShallowA (n : ℕ) (marks : List ℕ) (g a : ℕ) : Type 0 where
  pub may : MayBeA n marks g a
  pub keeps : 1 + max (fewest n marks a) (fewest n marks (g - a)) ≡ fewest n marks g

-- the part that the shallow wiring takes
abbrev pub shallow_part : ℕ → List ℕ → ℕ → ℕ
shallow_part n marks g = shallow_split n marks (fewest_layers n marks) g

module _ (n : ℕ) (marks : List ℕ) (g : ℕ) where
  -- what `shallow_split` tests
  abbrev is_shallow_a : ℕ → Bool
  is_shallow_a a = may_be_a n marks g a && eqb (split_layers (fewest_layers n marks) g a) (fewest n marks g)

  shallow_tested : (a : ℕ) → MayBeShallowA n marks g a → is_shallow_a a ≡ true
  unfolding split_layers
  shallow_tested a is = (and-eq-true_iff _ _).1 (may_be_a_lem n marks g a is.may, eq-eqb _ _ is.keeps)

  shallow_may_be : (a : ℕ) → 0 < a → a < g → is_shallow_a a ≡ true → MayBeShallowA n marks g a
  unfolding split_layers
  shallow_may_be a some less e =
      let (may, keeps) = (and-eq-true_iff (may_be_a n marks g a) _).0 e in
      record { may = may_be n marks g a some less may; keeps = eqb-true _ _ keeps }

  -- if there is such a part, the shallow wiring takes one, namely that of lowest number
  pub shallow_lowest : (a : ℕ) → MayBeShallowA n marks g a → MayBeShallowA n marks g (shallow_part n marks g) × (shallow_part n marks g ≤ a)
  unfolding shallow_split
  shallow_lowest a is =
      let (passes, least) : (is_shallow_a (shallow_part n marks g) ≡ true) × (shallow_part n marks g ≤ a) =
      found_in_range _ 1 _ a is.may.some (omega (arith, is.may.less)) (shallow_tested a is) in
      (shallow_may_be (shallow_part n marks g) (omega arith) (omega (arith, is.may.less)) passes, least)

-- ---- the least depth

module _ (m n : ℕ) (pos : 0 < m) (f : ℕ → ℕ) where
  -- ---- the shallow wiring

  -- a group of mark 2 with several members: the shallow wiring's A is such a part, ..
  pub shallow_parts : (g : ℕ) → g < 2 ^ n → marked m n pos f g ≡ 2 → size n g ≢ 1
      → MayBeShallowA n (marks_of m n f) g (shallow_part n (marks_of m n f) g)
  shallow_parts g g< two several =
      let twos = ⊎_elim (λ one. absurd (several one)) (λ parts. parts) (two_says m n pos f g g< two).why in
      let best : Shallowest n (marks_of m n f) g g< = fewest_attained n (marks_of m n f) g g< twos in
      let parts = best.parts in
      let held = parts_at_holds n (marks_of m n f) g parts.a (parts_found n (marks_of m n f) g g< parts) in
      let rest : g - parts.a ≡ parts.b = omega arith in
      (shallow_lowest n (marks_of m n f) g parts.a (record {
        may = record {
          some = parts.some_a;
          less = omega arith;
          part = held.0;
          two = held.1;
          rest_two = held.2;
          holds_first = best.holds_first;
        };
        keeps = rw rest best.attained;
      })).0

  -- .. of lowest number: it is the least such part
  pub shallow_least : (g a : ℕ) → MayBeShallowA n (marks_of m n f) g a → shallow_part n (marks_of m n f) g ≤ a
  shallow_least g a is = (shallow_lowest n (marks_of m n f) g a is).1

  -- so it is a choice of parts
  pub shallow_splits : (leaves : ℕ) → Splits n (marked m n pos f) leaves (shallow_part n (marks_of m n f))
  shallow_splits leaves g g< g_in two several =
      let may = (shallow_parts g g< two several).may in
      record { part = may.part; some = may.some; less = may.less; two_a = may.two; two_b = may.rest_two }

  -- what a gate of the shallow wiring takes: among the parts that may be A and keep their group shallowest, the one of lowest number
  abbrev pub TakesLowest : ℕ → ℕ → Type 0
  TakesLowest g a = MayBeShallowA n (marks_of m n f) g a × ((c : ℕ) → MayBeShallowA n (marks_of m n f) g c → a ≤ c)

  -- no wiring of the same group with few classes at each gate has fewer layers
  abbrev pub AsShallow : Wiring → Type 0
  AsShallow v = (w : Wiring) → WiringOf n (group_of v) w → EachGate (Few m n f) w → depth v ≤ depth w

  module _ (leaves : ℕ) (leaves< : leaves < 2 ^ n) (two : marked m n pos f leaves ≡ 2) where
    abbrev shallow : Wiring
    shallow = shallow_wiring n (marks_of m n f) leaves

    self_inside : inside n leaves leaves ≡ true
    self_inside = member_inside n leaves leaves (λ i i< is. is)

    -- it is a wiring of the group with few classes at each gate, ..
    pub shallow_wiring_of : WiringOf n leaves shallow × EachGate (Few m n f) shallow
    unfolding shallow_wiring
    shallow_wiring_of =
        let w = wiring_of_lem n (marked m n pos f) leaves (shallow_part n (marks_of m n f)) (shallow_splits leaves) n leaves leaves< self_inside
        (size_le n leaves) two in
        (w.0, each_gate n shallow (λ g g< two_g. (two_says m n pos f g g< two_g).few) w.0.0 w.1)

    -- .. at each gate "each group takes the part A of lowest number that keeps its own group shallowest", ..
    pub shallow_takes : EachSplit TakesLowest shallow
    unfolding shallow_wiring
    shallow_takes =
        takes_chosen n (marked m n pos f) leaves (shallow_part n (marks_of m n f)) (shallow_splits leaves) TakesLowest
        (λ g g< g_in two_g several_g. (shallow_parts g g< two_g several_g, shallow_least g)) n leaves leaves< self_inside (size_le n leaves) two
