-- The place of refusal 16 as the code searches for it: size by size, and within each size by rising number.
-- Assumes nothing.
use Rattle.std.specs.Prelude.{◌<◌, ◌≤◌, ◌+◌, ◌-◌, ◌^◌, ◌≡◌, ◌&&◌}
use Rattle.laws.specs.Prelude.{ℕ, ◌∙◌, sym, ap, true, false, Bool, List, Memᴰ, sub-zero, arith, eqb}
use Rattle.std.proofs.Math.Option.{Option, none, some}
use Rattle.rules.specs.Lists.{range, those, concat_map, find}
use Rattle.rules.specs.Groups.Groups.{size}
use Rattle.rules.specs.Groups.Marks.{mark_in, by_size, no_tree_place}
use Rattle.laws.specs.Lists.Concat.{concat_mem}
use Rattle.laws.specs.Lists.Finds.{or_else, find_append, find_those, find_same, those_mem}
use Rattle.laws.specs.Lists.Ranges.{range_mem, range_next, range_none}

abbrev pub is_one_of : List ℕ → ℕ → Bool
is_one_of marks g = eqb (mark_in marks g) 1

-- g has k members and mark 1
abbrev pub one_of : ℕ → List ℕ → ℕ → ℕ → Bool
one_of n marks k g = eqb (size n g) k && is_one_of marks g

-- the lowest such group below `end` that is at least g
unfoldable pub lowest : ℕ → ℕ → List ℕ → ℕ → ℕ → Option ℕ
lowest n end marks k g = find (one_of n marks k) (range g (end - g))

-- ---- one size

module _ (n end : ℕ) (marks : List ℕ) (k g : ℕ) where
  module _ (h : g < end) where
    pub lowest_here : one_of n marks k g ≡ true → lowest n end marks k g ≡ some g
    unfolding lowest find
    lowest_here e = rw (range_next g end h, e, find)

    pub lowest_next : one_of n marks k g ≡ false → lowest n end marks k (g + 1) ≡ lowest n end marks k g
    unfolding lowest find
    lowest_next e = rw (range_next g end h, e, find)

  pub lowest_past : end ≤ g → lowest n end marks k g ≡ none
  unfolding lowest find
  lowest_past h = rw (range_none g end h)

-- ---- size by size

-- the place among the groups of k or more members
unfoldable pub place_from : ℕ → List ℕ → ℕ → Option ℕ
place_from n marks k = find (is_one_of marks) (concat_map (λ s. those (λ g. eqb (size n g) s) (range 0 (2 ^ n))) (range k (n + 1 - k)))

module _ (n : ℕ) (marks : List ℕ) where
  -- the lowest of one size, or else the place among the larger ones
  size_next : (k : ℕ) → k ≤ n → place_from n marks k ≡ or_else (lowest n (2 ^ n) marks k 0) (place_from n marks (k + 1))
  unfolding place_from concat_map lowest
  size_next k h = rw (range_next k (n + 1) (omega arith), find_append, find_those, sub-zero)

  module _ (k : ℕ) (h : k ≤ n) (end : ℕ) (is : end ≡ 2 ^ n) where
    search_by : (o : Option ℕ) → lowest n end marks k 0 ≡ o → place_from n marks k ≡ or_else o (place_from n marks (k + 1))
    search_by o found = size_next k h ∙ ap (λ o. or_else o (place_from n marks (k + 1))) (sym (ap (λ (e : ℕ). lowest n e marks k 0) is) ∙ found)

    pub place_here : {g : ℕ} → lowest n end marks k 0 ≡ some g → place_from n marks k ≡ some g
    place_here {g} found = search_by (some g) found

    pub mark_place_next : lowest n end marks k 0 ≡ none → place_from n marks (k + 1) ≡ place_from n marks k
    mark_place_next found = sym (search_by none found)

  pub place_none : (k : ℕ) → n < k → place_from n marks k ≡ none
  unfolding place_from concat_map find
  place_none k h = rw (range_none k (n + 1) (omega arith))

  -- the search that starts at the empty group gives the place
  place_from_lem : elim (place_from n marks 0) as (λ _. ℕ) [ none ↦ 0 | some g ↦ g ] ≡ no_tree_place n marks
  unfolding place_from no_tree_place by_size
  place_from_lem = rw sub-zero

  pub place_found : (g : ℕ) → place_from n marks 0 ≡ some g → g ≡ no_tree_place n marks
  place_found g e = sym (ap (λ o. elim o as (λ _. ℕ) [ none ↦ 0 | some g ↦ g ]) e) ∙ place_from_lem

  pub place_missing : place_from n marks 0 ≡ none → 0 ≡ no_tree_place n marks
  place_missing e = sym (ap (λ o. elim o as (λ _. ℕ) [ none ↦ 0 | some g ↦ g ]) e) ∙ place_from_lem

-- marks that agree on every group give the same place

pub mark_place_agree : (n : ℕ) (marks other : List ℕ) → ((g : ℕ) → g < 2 ^ n → mark_in marks g ≡ mark_in other g) → no_tree_place n marks ≡ no_tree_place n other
unfolding no_tree_place by_size
mark_place_agree n marks other e = ap (λ (o : Option ℕ). elim o as (λ _. ℕ) [ none ↦ 0 | some g ↦ g ]) (find_same (is_one_of marks) (is_one_of other) (by_size n) same)
  where
    same : (g : ℕ) → Memᴰ g (by_size n) → is_one_of marks g ≡ is_one_of other g
    same g m =
        let (k, _, of_size) = concat_mem (λ s. those (λ g. eqb (size n g) s) (range 0 (2 ^ n))) (range 0 (n + 1)) m in
        let (_, below) = range_mem 0 (2 ^ n) g (those_mem (λ g. eqb (size n g) k) (range 0 (2 ^ n)) g of_size) in
        ap (λ (v : ℕ). eqb v 1) (e g (omega arith))
