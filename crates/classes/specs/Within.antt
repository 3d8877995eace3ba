-- An assignment of a group plus one of the other inputs is inside the cells.
-- Assumes nothing.
use Rattle.std.specs.Prelude.{◌<◌, ◌≤◌, ◌+◌, ◌-◌, ◌^◌, ◌≡◌}
use Rattle.laws.specs.Prelude.{ℕ, List, le_trans, pow-le-pow_right, dec_lt, arith, length, get_or, take}
use Rattle.laws.specs.Prelude.{get_or-eq_default}
use Rattle.rules.specs.Limits.{most_cells}
use Rattle.rules.specs.Calls.Answers.{ink_in}
use Rattle.cells.specs.Full.{Full}
use Rattle.laws.specs.Numbers.Sizes.{sized}
use Rattle.rules.specs.Groups.Groups.{part, size, others, points}
use Rattle.trees.specs.Trees.Trees.{mix}
use Rattle.trees.specs.Groups.Levels.{mix_below}
use Rattle.trees.specs.Groups.Members.{size_le}
use Rattle.laws.specs.Lists.Places.{mem_get_or}
use Rattle.trees.specs.Groups.Points.{points_are_parts}
use Rattle.radix.specs.Fronts.{Front, part_is}
use Rattle.radix.specs.Widths.{most_members, most_offsets}

-- p with each of ys added is below b
abbrev pub Within : ℕ → List ℕ → ℕ → Type 0
Within b ys p = (k : ℕ) → k < length ys → p + get_or ys k 0 < b

-- the other inputs' assignments, added to one of the group's
pub part_within : (m n : ℕ) → 0 < m → (g : ℕ) → g < 2 ^ n → (b : ℕ) → m ^ n ≤ b
    → (p : ℕ) → part m n g p ≡ p → Within b (points m n (others n g)) p
unfolding mix
part_within m n pos g g< b room p p_part k k< =
    let y = get_or (points m n (others n g)) k 0 in
    let y_part = (points_are_parts m n pos (others n g) y (mem_get_or (points m n (others n g)) k 0 k<)).0 in
    omega (arith, mix_below m n pos g p y g<, p_part, y_part)

-- the same for two lists that have them at the front
pub lists_within : (m n : ℕ) → 0 < m → (g : ℕ) → g < 2 ^ n → (b : ℕ) → m ^ n ≤ b → {xs ys : List ℕ} {own other : ℕ} → Front (points m n g) own xs
    → Front (points m n (others n g)) other ys → (i : ℕ) → i < length (take (own - 0) xs) → Within b (take (other - 0) ys) (get_or (take (own - 0) xs) i 0)
lists_within m n pos g g< b room own other =
    rw (part_is own, part_is other) (λ i i<. part_within m n pos g g< b room _ (points_are_parts m n pos g _ (mem_get_or (points m n g) i 0 i<)).0)

-- Room to count the classes of a group of m levels and n inputs: the cells, and work arrays for the assignments of the group and of
-- the other inputs. Offsets are below 2 to the 16.
pub record OffsetRoom (m n : ℕ) (cells xs ys : List ℕ) : Type 0 where
  pub some : 0 < m
  pub inputs : n ≤ most_members
  pub small : m ^ n ≤ most_offsets
  pub for_cells : m ^ n ≤ length cells
  pub for_xs : m ^ n ≤ length xs
  pub for_ys : m ^ n ≤ length ys

-- room for the assignments of one group and for those of the other inputs
pub record GroupRoom (m n g : ℕ) (xs ys : List ℕ) : Type 0 where
  pub some : 0 < m
  pub inputs : n ≤ most_members
  pub small : m ^ n ≤ most_offsets
  pub for_xs : m ^ size n g ≤ length xs
  pub for_ys : m ^ size n (others n g) ≤ length ys

pub group_room : {m n : ℕ} {cells xs ys : List ℕ} → OffsetRoom m n cells xs ys → (g : ℕ) → GroupRoom m n g xs ys
group_room {m} {n} room g =
    record {
      some = room.some;
      inputs = room.inputs;
      small = room.small;
      for_xs = le_trans (pow-le-pow_right room.some (size_le n g)) room.for_xs;
      for_ys = le_trans (pow-le-pow_right room.some (size_le n (others n g))) room.for_ys;
    }

-- any group of a full table has at most the table's cells of assignments
pub group_fits : (m n : ℕ) (cells : List ℕ) → Full m n cells → (g : ℕ) → m ^ size n g ≤ most_cells
group_fits m n cells full g =
    let fit = sized m n full.size in
    le_trans (pow-le-pow_right (omega (arith, fit.levels_least)) (size_le n g)) fit.cells_most

-- every ink of a full table is a level, and so is 0
pub inks_below : (m n : ℕ) (cells : List ℕ) → Full m n cells → (k : ℕ) → ink_in cells k < m
inks_below m n cells full k = go (dec_lt k (length cells))
  where
    go : Dec (k < length cells) → ink_in cells k < m
    go (yes h) = full.levels k (omega (arith, full.count))
    go (no h) = rw (get_or-eq_default cells 0 {n = k} (omega arith)) (omega (arith, (sized m n full.size).levels_least))
