-- The loops over a group's splits, over plain numbers: the splits before the part `part` of the members other than the first-listed are done.
-- Assumes nothing.
use Rattle.std.specs.Prelude.{◌<◌, ◌≤◌, ◌+◌, ◌-◌, ◌^◌, ◌≡◌, ◌≢◌}
use Rattle.laws.specs.Prelude.{ℕ, ◌∙◌, sym, ap, refl, List, zero-add, arith, length}
use Rattle.std.specs.Int.Bits.{and_self}
use Rattle.rules.specs.Limits.{most_inputs}
use Rattle.rules.specs.Groups.Groups.{size}
use Rattle.rules.specs.Groups.Marks.{mark_in}
use Rattle.rules.specs.Nets.Wirings.{first_input}
use Rattle.rules.specs.Lists.{total}
use Rattle.rules.specs.Nets.Family.{splits_of, numbered_at}
use Rattle.trees.specs.Families.FamilyCounts.{group_trees, split_counted, count_several}
use Rattle.radix.specs.Parts.{PartOf, Next, next_part}
use Rattle.marks.specs.FirstParts.{part_at}
use Rattle.tree_counts.specs.Counts.{Countable, Splittable, CountsKnown}
use Rattle.tree_counts.specs.Walk.{splits_from, counts_for, falls, splits_all, splits_none, counts_next, falls_here, falls_later}

-- where the walk is
pub record Passed (rest part : ℕ) : Type 0 where
  pub low : part ≤ rest
  pub is_part : PartOf part rest

pub passed_none : (rest : ℕ) → Passed rest 0
passed_none rest = record { low = omega arith; is_part = refl }

pub passed_next : (rest part next : ℕ) → part < rest → Next rest part next → Passed rest next
passed_next rest part next more after = record { low = after.least rest more (and_self rest); is_part = after.part }

-- the sum so far plus the counts of the remaining splits is the sum over all
abbrev pub Summed : List ℕ → ℕ → ℕ → ℕ → ℕ → Type 0
Summed marks g rest part sum =
    (n : ℕ) → g < 2 ^ n → sum + counts_for n marks g (splits_from n marks g ((g - rest) + part)) ≡ counts_for n marks g (splits_of n marks g)

-- among the remaining splits, the rest of the number falls where the number falls among all
abbrev pub SplitsLeft : List ℕ → ℕ → ℕ → ℕ → ℕ → ℕ → Type 0
SplitsLeft marks g rest r part left =
    (n : ℕ) → g < 2 ^ n → falls n marks g (splits_from n marks g ((g - rest) + part)) left ≡ falls n marks g (splits_of n marks g) r

module _ (marks : List ℕ) (g rest : ℕ) (some : 0 < g) (is_rest : (n : ℕ) → g < 2 ^ n → rest ≡ g - 2 ^ first_input n g) where
  -- the current split
  module _ (counts later : List ℕ) (group : Countable marks counts g) (two : mark_in marks g ≡ 2) (same : length later ≡ length counts)
      (kept : CountsKnown marks later)
      (part : ℕ) (more : part < rest) (passed : Passed rest part) where
    pub looked : Splittable marks later g ((g - rest) + part)
    looked =
        let at = part_at g rest some is_rest most_inputs group.below part more passed.is_part in
        record {
          group = record { some = some; below = group.below; marked = group.marked; room = omega (arith, group.room); kept = kept };
          two = two;
          some = at.0;
          less = at.1;
          holds = λ n g<. let here = part_at g rest some is_rest n g< part more passed.is_part in (here.2, here.3);
        }

  -- ---- the sum

  pub summed_none : Summed marks g rest 0 0
  summed_none n g< = zero-add _ ∙ ap (counts_for n marks g) (splits_all marks g rest some is_rest n g<)

  module _ (part next sum count : ℕ) (more : part < rest) (passed : Passed rest part) (after : Next rest part next) (summed : Summed marks g rest part sum)
      (is : (n : ℕ) → g < 2 ^ n → count ≡ split_counted n marks g ((g - rest) + part)) where
    pub summed_next : Summed marks g rest next (sum + count)
    summed_next n g< = omega (arith, summed n g<, is n g<, counts_next marks g rest some is_rest n g< part next more passed.is_part after)

  pub summed_all : (part sum : ℕ) → Summed marks g rest part sum → rest ≤ part → mark_in marks g ≡ 2 → ((n : ℕ) → g < 2 ^ n → size n g ≢ 1)
      → (n : ℕ) → g < 2 ^ n → sum ≡ group_trees n marks g
  unfolding total
  summed_all part sum summed end two several n g< =
      omega (arith, summed n g<, ap (counts_for n marks g) (splits_none marks g rest some is_rest n g< part end), count_several n marks g g< two (several n g<))

  -- with one more split, the sum is at most the group's count
  pub summed_most : (part sum count : ℕ) → g < 2 ^ most_inputs → part < rest → Passed rest part → Summed marks g rest part sum
      → ((n : ℕ) → g < 2 ^ n → count ≡ split_counted n marks g ((g - rest) + part)) → mark_in marks g ≡ 2 → ((n : ℕ) → g < 2 ^ n → size n g ≢ 1)
      → sum + count ≤ group_trees most_inputs marks g
  summed_most part sum count g< more passed summed is two several =
      let after = next_part most_inputs rest part (omega (arith, is_rest most_inputs g<)) more passed.is_part in
      omega (
        arith,
        summed most_inputs g<,
        is most_inputs g<,
        counts_next marks g rest some is_rest most_inputs g< part _ more passed.is_part after,
        count_several most_inputs marks g g< two (several most_inputs g<),
      )

  -- ---- the number

  module _ (r : ℕ) where
    pub left_all : SplitsLeft marks g rest r 0 r
    left_all n g< = ap (λ (splits : List ℕ). falls n marks g splits r) (splits_all marks g rest some is_rest n g<)

    pub left_none : (part left : ℕ) → SplitsLeft marks g rest r part left → rest ≤ part
        → (n : ℕ) → g < 2 ^ n → record { part = 0; number = left } ≡ falls n marks g (splits_of n marks g) r
    unfolding numbered_at
    left_none part left so_far end n g< =
        sym (ap (λ (splits : List ℕ). falls n marks g splits left) (splits_none marks g rest some is_rest n g< part end)) ∙ so_far n g<

    module _ (part left count : ℕ) (more : part < rest) (passed : Passed rest part) (so_far : SplitsLeft marks g rest r part left)
        (is : (n : ℕ) → g < 2 ^ n → count ≡ split_counted n marks g ((g - rest) + part)) where
      pub left_here : g < 2 ^ most_inputs → left < count
          → (n : ℕ) → g < 2 ^ n → record { part = (g - rest) + part; number = left } ≡ falls n marks g (splits_of n marks g) r
      left_here small below n g< =
          let after = next_part most_inputs rest part (omega (arith, is_rest most_inputs small)) more passed.is_part in
          sym (falls_here marks g rest some is_rest n g< part _ more passed.is_part after left (omega (arith, is n g<))) ∙ so_far n g<

      pub left_later : (next : ℕ) → Next rest part next → count ≤ left → SplitsLeft marks g rest r next (left - count)
      left_later next after past n g< =
          ap (λ (k : ℕ). falls n marks g (splits_from n marks g ((g - rest) + next)) (left - k)) (is n g<)
          ∙ sym (falls_later marks g rest some is_rest n g< part next more passed.is_part after left (omega (arith, is n g<)))
          ∙ so_far n g<
