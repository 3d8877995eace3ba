-- The cells and the marks of a table in their buffers, and the count of its trees.
-- Assumes nothing.
use Rattle.std.specs.Prelude.{◌<◌, ◌≤◌, ◌-◌, ◌^◌, ◌≡◌}
use Rattle.laws.specs.Prelude.{ℕ, suc, zero, ◌∙◌, ap, refl, subst⁻¹, true, List, sub-zero, lt_of_lt_of_le, arith, length, get_or}
use Rattle.laws.specs.Prelude.{take, replicate, pow_mono}
use Rattle.rules.specs.Limits.{most_inputs, size_fits}
use Rattle.rules.specs.Groups.Marks.{marks_of, stored_marks}
use Rattle.rules.specs.Nets.Leaves.{leaves_of}
use Rattle.rules.specs.Nets.Family.{tree_count, counts_of}
use Rattle.rules.specs.Calls.Answers.{ink_in, written}
use Rattle.laws.specs.Numbers.Sizes.{sized}
use Rattle.trees.specs.Groups.MarkRule.{marks_length_lem}
use Rattle.trees.specs.Leaves.LeafGroup.{leaves_below, leaves_some}
use Rattle.gate_tables.specs.MadeNet.{some_level, two_inputs}
use Rattle.tree_counts.specs.Counts.{CountsKnown, Countable, CountKnown}

-- no count is known yet
abbrev pub NoneKnown : List ℕ → Type 0
NoneKnown counts = (g : ℕ) → ◌≡◌ {A = ℕ} (get_or counts g 0) 0

pub none_known : (k : ℕ) → NoneKnown (replicate k 0)
none_known zero g = refl
none_known (suc k) zero = refl
none_known (suc k) (suc g) = none_known k g

-- an array for the most inputs has room for every group
pub groups_room : (m n : ℕ) → size_fits m n ≡ true → 2 ^ n ≤ 2 ^ most_inputs
groups_room m n fit = pow_mono {i = n} {j = most_inputs} (sized m n fit).inputs_most

-- the count, and what is written
pub record MarkedCount (m n : ℕ) (inks cells marks : List ℕ) (r : ℕ) (cells_then own marks_then counts : List ℕ) : Type 0 where
  pub count : r ≡ tree_count n (marks_of m n (ink_in inks)) (leaves_of m n (ink_in inks))
  pub copied : cells_then ≡ written cells inks
  pub front : take (2 ^ n) own ≡ marks_of m n (ink_in inks)
  pub marked : marks_then ≡ written marks (stored_marks (marks_of m n (ink_in inks)))
  pub kept : CountsKnown (marks_of m n (ink_in inks)) counts

module _ (m n : ℕ) (fit : size_fits m n ≡ true) (f : ℕ → ℕ) where
  pos : 0 < m
  pos = some_level m n fit

  -- the front of the call's own marks, up to the number of groups
  pub marks_front : (own : List ℕ) → take (2 ^ n) own ≡ marks_of m n f → (end : ℕ) → end ≡ 2 ^ n → take (end - 0) own ≡ marks_of m n f
  marks_front own front end is = ap (λ (k : ℕ). take k own) (sub-zero end ∙ is) ∙ front

  module _ (own counts : List ℕ) (front : own ≡ marks_of m n f) (room : 2 ^ n ≤ length counts) (kept : CountsKnown own counts) where
    -- so the trees on the leaves can be counted, ..
    pub leaves_countable : Countable own counts (leaves_of m n f)
    leaves_countable =
        let below = leaves_below m n pos f in
        record {
          some = leaves_some m n pos f (two_inputs m n fit);
          below = lt_of_lt_of_le below (groups_room m n fit);
          marked = subst⁻¹ (λ (l : List ℕ). leaves_of m n f < length l) front (omega (arith, marks_length_lem m n pos f));
          room = omega arith;
          kept = kept;
        }

  -- .. and their count is the table's
  pub leaves_counted : (own : List ℕ) → own ≡ marks_of m n f → (g : ℕ) → g ≡ leaves_of m n f → (r : ℕ) (counts : List ℕ) → CountKnown own g r counts
      → r ≡ tree_count n (marks_of m n f) (leaves_of m n f)
  unfolding tree_count
  leaves_counted own front g leaves r counts found =
      found.count n (subst⁻¹ (λ (k : ℕ). k < 2 ^ n) leaves (leaves_below m n pos f)) ∙ (λ i. get_or (counts_of n (front i)) (leaves i) 0)
