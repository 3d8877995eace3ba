-- The computed list of marks follows document 01's three-way rule at every group.
-- Assumes nothing.
use Rattle.std.specs.Prelude.{◌<◌, ◌≤◌, ◌+◌, ◌-◌, ◌^◌, ◌≡◌, ◌≢◌, ◌⊎◌, ◌||◌}
use Rattle.laws.specs.Prelude.{ℕ, suc, zero, ◌∙◌, sym, ap, refl, ⊎_elim, inl, inr, true, false, Bool, not, true≢false}
use Rattle.laws.specs.Prelude.{and-eq-true_iff, List, [], Memᴰ, add-one, ℕ_discrete, arith, eqb, leb, length, length-append, get_or-append}
use Rattle.laws.specs.Prelude.{get_or_at, eqb-true, eqb-false, leb-true, leb-false, by_cases}
use Rattle.rules.specs.Groups.Groups.{member, size, multiplicity}
use Rattle.rules.specs.Groups.Marks.{inside, mark_in, parts_at, mark_of, marks_below, marks_of}
use Rattle.rules.specs.Lists.{range, any}
use Rattle.rules.specs.Nets.Trees.{Apart}
use Rattle.rules.specs.Nets.Wirings.{first_input}
use Rattle.rules.specs.Sheets.Sheets.{level}
use Rattle.laws.specs.Nets.StoredMarks.{InTwoBits}
use Rattle.laws.specs.Lists.Tests.{mem_any, any_same}
use Rattle.laws.specs.Lists.Ranges.{mem_range, range_mem}
use Rattle.laws.specs.Lists.FirstPlaces.{first_passes}
use Rattle.trees.specs.Trees.Trees.{Tells}
use Rattle.trees.specs.Groups.Members.{member_single, inside_join, rest_apart, size_one, size_zero}
use Rattle.trees.specs.Groups.Levels.{level_below, part_ext}
use Rattle.trees.specs.Groups.Joins.{apart_sym}
use Rattle.trees.specs.Groups.Alike.{alike_part}
use Rattle.trees.specs.Groups.Classes.{few_classes}

-- "it parts into two non-empty groups that both have mark 2", for marks given by `mark`
pub record PartsIntoTwos (n : ℕ) (mark : ℕ → ℕ) (g : ℕ) : Type 0 where
  pub a : ℕ
  pub b : ℕ
  pub joined : a + b ≡ g
  pub apart : Apart n a b
  pub some_a : 0 < a
  pub some_b : 0 < b
  pub two_a : mark a ≡ 2
  pub two_b : mark b ≡ 2

-- Document 01's three-way rule, as a statement about marks.
pub record ThreeWay (m n : ℕ) (f : ℕ → ℕ) (mark : ℕ → ℕ) (g : ℕ) : Type 0 where
  pub empty : g ≡ 0 → mark g ≡ 0
  pub over : m < multiplicity m n f g → mark g ≡ 0
  pub single : size n g ≡ 1 → mark g ≡ 2
  pub parted : multiplicity m n f g ≤ m → PartsIntoTwos n mark g → mark g ≡ 2
  pub otherwise : 0 < g → multiplicity m n f g ≤ m → size n g ≢ 1 → (PartsIntoTwos n mark g → ⊥) → mark g ≡ 1

-- ---- the test of the computed rule

-- what `parts_at` tests
pub parts_at_holds : (n : ℕ) (marks : List ℕ) (g a : ℕ) → parts_at n marks g a ≡ true
    → (inside n a g ≡ true) × (mark_in marks a ≡ 2) × (mark_in marks (g - a) ≡ 2)
unfolding parts_at
parts_at_holds n marks g a h =
    let both = (and-eq-true_iff _ (eqb (mark_in marks (g - a)) 2)).0 h in
    let first = (and-eq-true_iff (inside n a g) (eqb (mark_in marks a) 2)).0 both.0 in
    (first.0, eqb-true _ _ first.1, eqb-true _ _ both.1)

-- a group that the search finds and its rest are the two parts
unfoldable pub parts_of : (n : ℕ) (marks : List ℕ) (g a : ℕ) → g < 2 ^ n → 0 < a → a < g → parts_at n marks g a ≡ true
    → PartsIntoTwos n (mark_in marks) g
parts_of n marks g a g< some less h =
    let held = parts_at_holds n marks g a h in
    record {
      a = a;
      b = g - a;
      joined = omega arith;
      apart = rest_apart n a g (omega arith) g< held.0;
      some_a = some;
      some_b = omega arith;
      two_a = held.1;
      two_b = held.2;
    }

-- the first of two parts is found
pub parts_found : (n : ℕ) (marks : List ℕ) (g : ℕ) → g < 2 ^ n → (parts : PartsIntoTwos n (mark_in marks) g)
    → parts_at n marks g parts.a ≡ true
unfolding parts_at
parts_found n marks g g< parts =
    let part = inside_join n parts.a parts.b (omega arith) (omega arith) parts.apart in
    let rest : g - parts.a ≡ parts.b = omega arith in
    rw (rw parts.joined at part, rest, parts.two_a, parts.two_b)

-- the two parts, exchanged
unfoldable pub parts_swap : (n : ℕ) (mark : ℕ → ℕ) (g : ℕ) → PartsIntoTwos n mark g → PartsIntoTwos n mark g
parts_swap n mark g parts = record {
  a = parts.b;
  b = parts.a;
  joined = omega arith;
  apart = apart_sym n parts.a parts.b parts.apart;
  some_a = parts.some_b;
  some_b = parts.some_a;
  two_a = parts.two_b;
  two_b = parts.two_a;
}

-- the rule's search finds something exactly if the group parts into twos
pub search_parts : (n : ℕ) (marks : List ℕ) (g : ℕ) → g < 2 ^ n → any (parts_at n marks g) (range 1 (g - 1)) ≡ true
    → PartsIntoTwos n (mark_in marks) g
search_parts n marks g g< h =
    let found = first_passes (parts_at n marks g) 1 (g - 1) h in
    parts_of n marks g _ g< (omega arith) (omega arith) found.1

parts_search : (n : ℕ) (marks : List ℕ) (g : ℕ) → g < 2 ^ n → PartsIntoTwos n (mark_in marks) g
    → any (parts_at n marks g) (range 1 (g - 1)) ≡ true
parts_search n marks g g< parts =
    mem_any (parts_at n marks g) (mem_range 1 (g - 1) parts.a (omega arith) (omega arith)) (parts_found n marks g g< parts)

-- ---- the list

-- the rule's result, by its two tests: empty or over m; one member or two parts
abbrev outcome : Bool → Bool → ℕ
outcome true two = 0
outcome false true = 2
outcome false false = 1

abbrev none_test : ℕ → ℕ → (ℕ → ℕ) → ℕ → Bool
none_test m n f g = eqb g 0 || not (leb (multiplicity m n f g) m)

abbrev two_test : ℕ → List ℕ → ℕ → Bool
two_test n marks g = eqb (size n g) 1 || any (parts_at n marks g) (range 1 (g - 1))

mark_outcome : (m n : ℕ) (f : ℕ → ℕ) (marks : List ℕ) (g : ℕ)
    → mark_of m n f marks g ≡ outcome (none_test m n f g) (two_test n marks g)
unfolding mark_of
mark_outcome m n f marks g = go (none_test m n f g) (two_test n marks g)
  where
    go : (b c : Bool) → elim b as (λ _. ℕ) [ true ↦ 0 | false ↦ elim c [ true ↦ 2 | false ↦ 1 ] ] ≡ outcome b c
    go true c = refl
    go false true = refl
    go false false = refl

-- the rule reads only the marks below the group
pub mark_agree : (m n : ℕ) (f : ℕ → ℕ) (xs ys : List ℕ) (g : ℕ) → ((a : ℕ) → a < g → mark_in xs a ≡ mark_in ys a)
    → mark_of m n f xs g ≡ mark_of m n f ys g
unfolding parts_at
mark_agree m n f xs ys g e = simp (mark_outcome, any_same (parts_at n xs g) (parts_at n ys g) (range 1 (g - 1)) same_test)
  where
    same_test : (a : ℕ) → Memᴰ a (range 1 (g - 1)) → parts_at n xs g a ≡ parts_at n ys g a
    same_test a i = let between = range_mem 1 (g - 1) a i in rw (e a (omega arith), e (g - a) (omega arith))

module _ (m n : ℕ) (f : ℕ → ℕ) where
  marks_below_length : (k : ℕ) → length (marks_below m n f k) ≡ k
  unfolding marks_below
  marks_below_length zero = refl
  marks_below_length (suc k) = rw (length-append, marks_below_length k, add-one)

  -- a mark in the list follows the rule, given the marks below
  mark_below : (k g : ℕ) → g < k → mark_in (marks_below m n f k) g ≡ mark_of m n f (marks_below m n f g) g
  unfolding marks_below
  mark_below zero g h = absurd (omega arith)
  mark_below (suc k) g h = by_cases (ℕ_discrete g k)
      (λ e. rw e (get_or_at (marks_below m n f k) _ [] 0 k (marks_below_length k)))
      (λ ne. get_or-append (marks_below m n f k) _ 0 g (rw (marks_below_length k) (omega arith)) ∙ mark_below k g (omega arith))

-- which of the three cases applies to a group
pub data Way (m n : ℕ) (f mark : ℕ → ℕ) (g : ℕ) : Type 0 where
  to_none : (0 < g → multiplicity m n f g ≤ m → ⊥) → mark g ≡ 0 → Way m n f mark g
  to_two : 0 < g → multiplicity m n f g ≤ m → (size n g ≡ 1) ⊎ PartsIntoTwos n mark g → mark g ≡ 2 → Way m n f mark g
  to_one : 0 < g → multiplicity m n f g ≤ m → size n g ≢ 1 → (PartsIntoTwos n mark g → ⊥) → mark g ≡ 1 → Way m n f mark g

module _ (m n : ℕ) (pos : 0 < m) (f : ℕ → ℕ) where
  abbrev pub marked : ℕ → ℕ
  marked g = mark_in (marks_of m n f) g

  pub marks_length_lem : length (marks_of m n f) ≡ 2 ^ n
  unfolding marks_of
  marks_length_lem = marks_below_length m n f (2 ^ n)

  -- each mark follows the rule, given all marks
  pub mark_rule : (g : ℕ) → g < 2 ^ n → marked g ≡ mark_of m n f (marks_of m n f) g
  unfolding marks_of
  mark_rule g g< =
      mark_below m n f (2 ^ n) g g<
      ∙ mark_agree m n f _ _ g (λ a h. mark_below m n f g a h ∙ sym (mark_below m n f (2 ^ n) a (omega arith)))

  -- the member of a group of one
  only_member : (g i : ℕ) → g < 2 ^ n → size n g ≡ 1 → member i g ≡ true → i ≡ first_input n g
  only_member g i g< one is =
      eqb-true _ _ (sym (ap (member i) (size_one n g g< one).1 ∙ member_single i (first_input n g)) ∙ is)

  -- and the group is not empty
  single_some : (g : ℕ) → size n g ≡ 1 → 0 < g
  single_some zero one = absurd (omega (arith, size_zero n))
  single_some (suc g) one = omega arith

  -- a group of one member has at most m classes: its level determines the class
  single_few : (g : ℕ) → g < 2 ^ n → size n g ≡ 1 → multiplicity m n f g ≤ m
  single_few g g< one =
      let v : ℕ → ℕ = λ p. level m n p (first_input n g) in
      let tells : Tells m n f g v = λ p q e. alike_part m n pos f g p q (part_ext m n pos g p q (λ i i< is. rw (only_member g i g< one is) e)) in
      few_classes m n pos f g g< m v (λ p. level_below m n pos p (first_input n g)) tells

  -- one of the three cases applies to every group
  pub way : (g : ℕ) → g < 2 ^ n → Way m n f marked g
  way g g< = start (eqb g 0) refl (leb (multiplicity m n f g) m) refl
    where
      outcome_is : marked g ≡ outcome (none_test m n f g) (two_test n (marks_of m n f) g)
      outcome_is = mark_rule g g< ∙ mark_outcome m n f (marks_of m n f) g

      several : 0 < g → multiplicity m n f g ≤ m → (b : Bool) → eqb (size n g) 1 ≡ b → (c : Bool)
          → any (parts_at n (marks_of m n f) g) (range 1 (g - 1)) ≡ c
          → marked g ≡ outcome false (b || c) → Way m n f marked g
      several some few true one c found e = to_two some few (inl (eqb-true _ _ one)) e
      several some few false one true found e = to_two some few (inr (search_parts n _ g g< found)) e
      several some few false one false found e =
          to_one some few (eqb-false _ _ one) (λ parts. true≢false (sym (parts_search n _ g g< parts) ∙ found)) e

      start : (b : Bool) → eqb g 0 ≡ b → (c : Bool) → leb (multiplicity m n f g) m ≡ c → Way m n f marked g
      start true none c few = to_none (omega (arith, eqb-true g 0 none)) (outcome_is ∙ rw none)
      start false none false few = to_none (omega (arith, leb-false (multiplicity m n f g) m few)) (outcome_is ∙ rw (none, few))
      start false none true few =
          let some : 0 < g = omega (arith, eqb-false g 0 none) in
          several some (leb-true _ _ few) (eqb (size n g) 1) refl _ refl (outcome_is ∙ rw (none, few))

  -- a mark fits into two bits
  pub mark_small : InTwoBits (2 ^ n) (marks_of m n f)
  mark_small g g< = elim (way g g<) [
    | to_none _ e ↦ omega (arith, e)
    | to_two _ _ _ e ↦ omega (arith, e)
    | to_one _ _ _ _ e ↦ omega (arith, e)
  ]

  -- the computed list of marks satisfies document 01's rule at every group
  pub three_way : (g : ℕ) → g < 2 ^ n → ThreeWay m n f marked g
  three_way g g< = elim (way g g<) [
    | to_none not_some e ↦
        record {
          empty = λ _. e;
          over = λ _. e;
          single = λ one. absurd (not_some (single_some g one) (single_few g g< one));
          parted = λ few parts. absurd (not_some (omega arith) few);
          otherwise = λ some few _ _. absurd (not_some some few);
        }
    | to_two some few why e ↦
        record {
          empty = omega arith;
          over = omega arith;
          single = λ _. e;
          parted = λ _ _. e;
          otherwise = λ _ _ several no_parts. absurd (⊎_elim several no_parts why);
        }
    | to_one some few several no_parts e ↦
        record {
          empty = omega arith;
          over = omega arith;
          single = λ one. absurd (several one);
          parted = λ _ parts. absurd (no_parts parts);
          otherwise = λ _ _ _ _. e;
        }
  ]
