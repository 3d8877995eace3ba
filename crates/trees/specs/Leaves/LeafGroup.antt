-- The leaves of a table (document 02, K12) as a group: "A settled tree now has just the inputs that matter as leaves; if fewer than two do, the
-- first-listed others make up two." They are distinct inputs, so the sum of their powers is the group of exactly these inputs.
-- Assumes nothing.
use Rattle.std.specs.Prelude.{◌<◌, ◌+◌, ◌-◌, ◌^◌, ◌≡◌, ◌&&◌, ◌∷◌, ◌++◌}
use Rattle.laws.specs.Prelude.{ℕ, suc, zero, max, ◌∙◌, sym, ap, refl, subst, ⊎_elim, true, false, Bool, not, true≢false, List}
use Rattle.laws.specs.Prelude.{[], map, Memᴰ, append-nil, mem_head, mem_tail, mem_append_cases, mem_append_left, arith}
use Rattle.laws.specs.Prelude.{eqb, length, take, drop, length-append, length-take, take-append-drop, eq-eqb, eqb-true, pow_pos}
use Rattle.rules.specs.Groups.Groups.{member, size}
use Rattle.rules.specs.Lists.{range, any, those, total}
use Rattle.rules.specs.Nets.Leaves.{matters, mattering, leaf_inputs, leaves_of}
use Rattle.rules.specs.Nets.Trees.{Apart}
use Rattle.rules.specs.Sheets.SheetRules.{Distinct}
use Rattle.laws.specs.Lists.Tests.{one_where, not_true_false, two_ways, any_cons, none_append, mem_any}
use Rattle.laws.specs.Lists.Ranges.{mem_range, range_mem, range_length}
use Rattle.laws.specs.Lists.Counts.{count, count_cons}
use Rattle.laws.specs.Lists.Distinct.{NotIn}
use Rattle.laws.specs.Lists.Finds.{those_mem}
use Rattle.laws.specs.Lists.Listed.{mem_those, those_pass}
use Rattle.laws.specs.Lists.Totals.{any_mem, those_range_distinct}
use Rattle.trees.specs.Groups.Members.{member_single, member_zero, member_join, single_below, join_below, size_zero, size_single, size_join}
use Rattle.trees.specs.Leaves.Mattering.{Holding}

-- ---- distinct inputs as a group

-- the sum of 2 to the power i over a list
abbrev powers_of : List ℕ → ℕ
powers_of xs = total (map (λ i. 2 ^ i) xs)

-- it is the group of exactly the listed inputs
pub record ListGroup (n : ℕ) (xs : List ℕ) : Type 0 where
  pub below : powers_of xs < 2 ^ n
  pub members : (i : ℕ) → i < n → member i (powers_of xs) ≡ any (eqb i) xs
  pub many : size n (powers_of xs) ≡ length xs

pub list_group : (n : ℕ) (xs : List ℕ) → Distinct xs → ((x : ℕ) → Memᴰ x xs → x < n) → ListGroup n xs
unfolding total any
list_group n [] distinct inputs = record { below = pow_pos n; members = λ i i<. member_zero i; many = size_zero n }
list_group n (x ∷ xs) distinct inputs =
    let rest = list_group n xs distinct.1 (λ y is. inputs y (mem_tail is)) in
    let x< = inputs x (mem_head refl) in
    let x_below = single_below x n x< in
    let apart : Apart n (2 ^ x) (powers_of xs) = λ i i<. rw (member_single i x, rest.members i i<) (other i (eqb i x) refl) in
    record {
      below = join_below n (2 ^ x) (powers_of xs) x_below rest.below apart;
      members = λ i i<. member_join i n (2 ^ x) (powers_of xs) x_below rest.below apart i<
          ∙ rw (member_single i x, rest.members i i<) (sym (any_cons (eqb i) x xs));
      many = size_join n (2 ^ x) (powers_of xs) x_below rest.below apart ∙ omega (arith, size_single x n x<, rest.many);
    }
  where
    other : (i : ℕ) (t : Bool) → eqb i x ≡ t → (t && any (eqb i) xs) ≡ false
    other i true e = rw (eqb-true i x e) distinct.0
    other i false e = refl

-- the front of a list without repetition is without repetition, ..
distinct_take : (k : ℕ) (xs : List ℕ) → Distinct xs → Distinct (take k xs)
distinct_take zero xs distinct = tt
distinct_take (suc k) [] distinct = tt
distinct_take (suc k) (x ∷ xs) distinct = (
  ((none_append (eqb x) (take k xs) (drop k xs)).0 (rw (take-append-drop k xs) distinct.0)).0,
  distinct_take k xs distinct.1,
)

-- .. its elements are in the list, ..
mem_take : (k x : ℕ) (xs : List ℕ) → Memᴰ x (take k xs) → Memᴰ x xs
mem_take k x xs is = subst (λ (l : List ℕ). Memᴰ x l) (take-append-drop k xs) (mem_append_left (drop k xs) is)

-- .. and two such lists that share nothing can be joined
distinct_append : (xs ys : List ℕ) → Distinct xs → Distinct ys → ((x : ℕ) → Memᴰ x xs → NotIn x ys) → Distinct (xs ++ ys)
distinct_append [] ys dx dy apart = dy
distinct_append (x ∷ xs) ys dx dy apart = (
  (none_append (eqb x) xs ys).1 (dx.0, apart x (mem_head refl)),
  distinct_append xs ys dx.1 dy (λ y is. apart y (mem_tail is)),
)

-- each element passes or fails
count_both : (test : ℕ → Bool) (xs : List ℕ) → count test xs + count (λ x. not (test x)) xs ≡ length xs
unfolding those
count_both test [] = refl
count_both test (x ∷ xs) =
    omega (arith, count_cons test x xs, count_cons (λ x. not (test x)) x xs, count_both test xs, one (test x))
  where
    one : (t : Bool) → one_where t + one_where (not t) ≡ 1
    one true = refl
    one false = refl

module _ (m n : ℕ) (pos : 0 < m) (f : ℕ → ℕ) where
  -- ---- the inputs that matter

  abbrev idle_test : ℕ → Bool
  idle_test i = not (matters m n f i)

  -- the inputs that do not matter
  abbrev idles : List ℕ
  idles = those idle_test (range 0 n)

  -- how many of them are leaves, if there are enough
  abbrev spare : ℕ
  spare = 2 - length (mattering m n f)

  -- an input is listed exactly if it matters
  pub mattering_is : (i : ℕ) → i < n → any (eqb i) (mattering m n f) ≡ matters m n f i
  unfolding mattering
  mattering_is i i< =
      two_ways _ _ (λ listed. those_pass (matters m n f) i (range 0 n) (any_mem i _ listed))
      (λ is. mem_any (eqb i) (mem_those (matters m n f) i (range 0 n) (mem_range 0 n i (omega arith) (omega arith)) is) (eq-eqb i i refl))

  -- ---- the leaves

  -- those that matter, then others
  leaf_inputs_are : leaf_inputs m n f ≡ mattering m n f ++ take spare idles
  unfolding leaf_inputs
  leaf_inputs_are = refl

  -- each is an input
  leaf_below : (x : ℕ) → Memᴰ x (leaf_inputs m n f) → x < n
  unfolding leaf_inputs mattering
  leaf_below x is =
      ⊎_elim (λ first. omega (arith, (range_mem 0 n x (those_mem (matters m n f) (range 0 n) x first)).1))
      (λ later. omega (arith, (range_mem 0 n x (those_mem idle_test (range 0 n) x (mem_take spare x idles later))).1))
      (mem_append_cases (mattering m n f) is)

  -- none occurs twice: no input both matters and does not
  leaf_inputs_distinct : Distinct (leaf_inputs m n f)
  unfolding leaf_inputs mattering
  leaf_inputs_distinct =
      distinct_append (mattering m n f) (take spare idles) (those_range_distinct (matters m n f) 0 n)
      (distinct_take spare idles (those_range_distinct idle_test 0 n)) λ x is.
      not_true_false _ λ both.
      let matters_x = those_pass (matters m n f) x (range 0 n) is in
      let idle_x = those_pass idle_test x (range 0 n) (mem_take spare x idles (any_mem x _ both)) in
      true≢false (sym idle_x ∙ ap not matters_x)

  leaves_are : ListGroup n (leaf_inputs m n f)
  leaves_are = list_group n (leaf_inputs m n f) leaf_inputs_distinct leaf_below

  -- the leaves are a group
  pub leaves_below : leaves_of m n f < 2 ^ n
  unfolding leaves_of
  leaves_below = leaves_are.below

  -- its members are the inputs that are leaves
  pub leaf_is : (i : ℕ) → i < n → member i (leaves_of m n f) ≡ any (eqb i) (leaf_inputs m n f)
  unfolding leaves_of
  leaf_is i i< = leaves_are.members i i<

  -- every input that matters is a leaf
  pub leaves_hold : Holding m n pos f (leaves_of m n f)
  leaves_hold i i< is =
      leaf_is i i< ∙ rw leaf_inputs_are (mem_any (eqb i) (mem_append_left _ (any_mem i _ (mattering_is i i< ∙ is))) (eq-eqb i i refl))

  -- and every leaf matters if two or more inputs do
  pub leaves_matter : 1 < length (mattering m n f) → (i : ℕ) → i < n → member i (leaves_of m n f) ≡ matters m n f i
  leaves_matter enough i i< =
      let none : spare ≡ 0 = omega arith in
      leaf_is i i< ∙ rw (leaf_inputs_are, none, append-nil) (mattering_is i i<)

  -- there are as many leaves as inputs that matter, but at least two
  pub leaves_size : 1 < n → size n (leaves_of m n f) ≡ max 2 (length (mattering m n f))
  unfolding leaves_of mattering
  leaves_size several =
      leaves_are.many
      ∙ rw (leaf_inputs_are, length-append, length-take) (omega (arith, count_both (matters m n f) (range 0 n), range_length 0 n))

  -- so there are at least two of them, ..
  pub leaves_several : 1 < n → 1 < size n (leaves_of m n f)
  leaves_several several = omega (arith, leaves_size several)

  -- .. and their group is not empty
  pub leaves_some : 1 < n → 0 < leaves_of m n f
  leaves_some several = go (leaves_of m n f) (leaves_several several)
    where
      go : (g : ℕ) → 1 < size n g → 0 < g
      go zero many = absurd (omega (arith, size_zero n))
      go (suc g) many = omega arith
