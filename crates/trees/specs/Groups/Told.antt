-- Rows of a group that differ pairwise at columns which have the same levels at some inputs: the group has at least that many classes, and so does
-- the group with any of these inputs added. So a larger group is known to have too many classes without reading the cells.
-- Assumes nothing.
use Rattle.std.specs.Prelude.{◌<◌, ◌≤◌, ◌+◌, ◌^◌, ◌≡◌, ◌≢◌, ◌||◌}
use Rattle.laws.specs.Prelude.{ℕ, ◌∙◌, sym, ap, refl, true, false, Bool, true≢false, cond}
use Rattle.rules.specs.Groups.Groups.{member, multiplicity}
use Rattle.rules.specs.Nets.Filling.{class_number}
use Rattle.rules.specs.Nets.Trees.{Apart}
use Rattle.rules.specs.Sheets.Sheets.{level}
use Rattle.laws.specs.Lists.Pigeonhole.{later_differ, pigeonhole}
use Rattle.trees.specs.Trees.Trees.{mix}
use Rattle.trees.specs.Groups.Members.{member_join, join_below}
use Rattle.trees.specs.Groups.Levels.{level_ext, level_mix, mix_below}
use Rattle.trees.specs.Groups.Classes.{class_below, class_alike}

-- the indices y and z have the same level at every input of s
abbrev pub SameAt : ℕ → ℕ → ℕ → ℕ → ℕ → Type 0
SameAt m n s y z = (i : ℕ) → i < n → member i s ≡ true → level m n y i ≡ level m n z i

-- a column at which rows p and q of g differ, and which has the levels of `base` at the inputs of s
pub record ApartAt (m n : ℕ) (f : ℕ → ℕ) (g s base p q : ℕ) : Type 0 where
  pub column : ℕ
  pub same : SameAt m n s column base
  pub differ : f (mix m n g p column) ≢ f (mix m n g q column)

-- k rows of g that differ pairwise at such columns
pub record Told (m n : ℕ) (f : ℕ → ℕ) (g s k : ℕ) : Type 0 where
  pub row : ℕ → ℕ
  pub base : ℕ
  pub apart : (i j : ℕ) → i < j → j < k → ApartAt m n f g s base (row i) (row j)

module _ (m n : ℕ) (pos : 0 < m) (f : ℕ → ℕ) where
  -- they are in different classes
  pub told_many : (g s k : ℕ) → g < 2 ^ n → Told m n f g s k → k ≤ multiplicity m n f g
  told_many g s k g< told =
      pigeonhole (multiplicity m n f g) k (λ i. class_number m n f g (told.row i)) (λ i _. class_below m n pos f g g< (told.row i))
      (later_differ k _ λ i j h j< e. let at = told.apart i j h j< in at.differ (class_alike m n pos f g g< (told.row i) (told.row j) e at.column))

  -- Too many, inherited: d shares no input with g, and is inside s. Each row takes the columns' levels at d, and s is passed on unchanged.
  pub told_on : (g d s k : ℕ) → g < 2 ^ n → d < 2 ^ n → Apart n g d → ((i : ℕ) → i < n → member i d ≡ true → member i s ≡ true)
      → Told m n f g s k → Told m n f (g + d) s k
  told_on g d s k g< d< apart inside told = record {
    row = wide;
    base = told.base;
    apart = λ i j h j<.
        let at = told.apart i j h j< in
        record {
          column = at.column;
          same = at.same;
          differ = λ e. at.differ (ap f (sym (same_index at.column at.same i)) ∙ e ∙ ap f (same_index at.column at.same j));
        };
  }
    where
      wide : ℕ → ℕ
      wide i = mix m n d told.base (told.row i)

      g+d< : g + d < 2 ^ n
      g+d< = join_below n g d g< d< apart

      -- the row with a column is the same index as before
      same_index : (y : ℕ) → SameAt m n s y told.base → (i : ℕ) → mix m n (g + d) (wide i) y ≡ mix m n g (told.row i) y
      same_index y same i =
          level_ext m n pos (mix m n (g + d) (wide i) y) (mix m n g (told.row i) y) (mix_below m n pos (g + d) (wide i) y g+d<)
          (mix_below m n pos g (told.row i) y g<)
          (λ a a<.
          simp (
            level_mix m n pos (g + d) (wide i) y a g+d< a<,
            level_mix m n pos d told.base (told.row i) a d< a<,
            level_mix m n pos g (told.row i) y a g< a<,
            member_join a n g d g< d< apart a<,
          )
          (at a a< (member a g) (member a d) refl refl))
        where
          at : (a : ℕ) → a < n → (t u : Bool) → member a g ≡ t → member a d ≡ u
              → cond (t || u) (cond u (level m n told.base a) (level m n (told.row i) a)) (level m n y a)
              ≡ cond t (level m n (told.row i) a) (level m n y a)
          at a a< true true in_g in_d = absurd (true≢false (rw (in_g, in_d) at (apart a a<)))
          at a a< true false in_g in_d = refl
          at a a< false true in_g in_d = sym (same a a< (inside a a< in_d))
          at a a< false false in_g in_d = refl
