-- Document 01's sentences on the settled net's choices, word for word: "A group of mark 2 with several members is parted as
-- (A, B), both of mark 2, A holding its first-listed input, A of lowest number."; classes are "numbered from 0 in the order in which
-- they first appear as the group's assignments are counted, first-listed member slowest".
-- Assumes nothing.
use Rattle.std.specs.Prelude.{◌<◌, ◌≤◌, ◌-◌, ◌^◌, ◌≡◌, ◌≢◌}
use Rattle.laws.specs.Prelude.{ℕ, ◌∙◌, sym, ap, ⊎_elim, true, true≢false, and-eq-true_iff, Memᴰ, le_of_eq, le_of_lt, dec_lt}
use Rattle.laws.specs.Prelude.{arith, length, get_or}
use Rattle.rules.specs.Groups.Groups.{size, points, alike, classes, multiplicity}
use Rattle.rules.specs.Groups.Marks.{marks_of}
use Rattle.rules.specs.Lists.{first_place}
use Rattle.rules.specs.Nets.Settled.{split_of}
use Rattle.rules.specs.Nets.SettledLaws.{MayBeA, split_lowest, ByAppearance}
use Rattle.rules.proofs.Nets.SettledLaws.{classes_by_appearance}
use Rattle.laws.specs.Lists.FirstPlaces.{before_first, first_passes}
use Rattle.trees.specs.Trees.Trees.{Alike}
use Rattle.trees.specs.Groups.Points.{points_are_parts, points_rise}
use Rattle.trees.specs.Groups.Alike.{alike_tested}
use Rattle.trees.specs.Groups.Classes.{classes_are_points}
use Rattle.trees.specs.Groups.MarkRule.{marked, parts_at_holds}
use Rattle.trees.specs.Trees.MarkTwo.{two_says, some-A}
use Rattle.laws.specs.Lists.Places.{mem_place}

module _ (m n : ℕ) (pos : 0 < m) (f : ℕ → ℕ) (g : ℕ) (g< : g < 2 ^ n) where
  -- ---- "A of lowest number"

  -- "A group of mark 2 with several members is parted as (A, B), both of mark 2, A holding its first-listed input": `split_of` gives
  -- such an A, ..
  pub split_parts : marked m n pos f g ≡ 2 → size n g ≢ 1 → MayBeA n (marks_of m n f) g (split_of n (marks_of m n f) g)
  split_parts two several =
      let parts = ⊎_elim (λ one. absurd (several one)) (λ parts. parts) (two_says m n pos f g g< two).why in
      let found = first_passes _ 1 (g - 1) (some-A n (marks_of m n f) g g< parts) in
      let (passes, first) = (and-eq-true_iff _ _).0 found.1 in
      let held = parts_at_holds n (marks_of m n f) g _ passes in
      (split_lowest n (marks_of m n f) g _
      (record { some = omega arith; less = omega arith; part = held.0; two = held.1; rest_two = held.2; holds_first = first })).0

  -- .. "of lowest number": it is the least such part.
  pub split_least : (a : ℕ) → MayBeA n (marks_of m n f) g a → split_of n (marks_of m n f) g ≤ a
  split_least a is = (split_lowest n (marks_of m n f) g a is).1

  -- ---- "in the order in which they first appear"

  -- where the i-th class appears first among the group's assignments
  abbrev appearance : ℕ → ℕ
  appearance i = first_place (alike m n f g (get_or (classes m n f g) i 0)) (points m n g)

  -- Classes rise: a class of lower number is listed by a lower assignment, ..
  pub classes_rise : (i j : ℕ) → i < j → j < multiplicity m n f g → get_or (classes m n f g) i 0 < get_or (classes m n f g) j 0
  unfolding multiplicity
  classes_rise i j h k =
      let by : ByAppearance (alike m n f g) (points m n g) (classes m n f g) = classes_by_appearance m n f g in
      rw (← (by.first i (omega arith)), ← (by.first j k))
      (points_rise m n pos g (appearance i) (appearance j) (by.order i j h k) (by.appears j k))

  -- .. which is the least of its class: every assignment of the group that is alike to it is that one or a later one.
  pub class_least : (i : ℕ) → i < multiplicity m n f g → (q : ℕ) → Memᴰ q (points m n g) → Alike m n f g (get_or (classes m n f g) i 0) q
      → get_or (classes m n f g) i 0 ≤ q
  unfolding multiplicity
  class_least i h q is alike_q = go (mem_place q (points m n g) is)
    where
      by : ByAppearance (alike m n f g) (points m n g) (classes m n f g)
      by = classes_by_appearance m n f g

      tested : alike m n f g (get_or (classes m n f g) i 0) q ≡ true
      tested =
          rw ((points_are_parts m n pos g _ (classes_are_points m n pos f g g< i h)).0, (points_are_parts m n pos g q is).0) at
          (alike_tested m n pos f g (get_or (classes m n f g) i 0) q g< alike_q)

      -- q is where the class appears first, or later
      go : (k : ℕ) × (k < length (points m n g)) × (get_or (points m n g) k 0 ≡ q) → get_or (classes m n f g) i 0 ≤ q
      go (k, k<, at) = compared (dec_lt k (appearance i)) (dec_lt (appearance i) k)
        where
          compared : Dec (k < appearance i) → Dec (appearance i < k) → get_or (classes m n f g) i 0 ≤ q
          compared (yes earlier) _ =
              absurd (true≢false (sym (rw (← at) at tested) ∙ before_first (alike m n f g (get_or (classes m n f g) i 0)) 0 (points m n g) k earlier))
          compared (no _) (yes later) =
              rw (← (by.first i h), ← at) (le_of_lt (points_rise m n pos g (appearance i) k later k<))
          compared (no not-Earlier) (no not_later) =
              let here : appearance i ≡ k = omega arith in
              le_of_eq (sym (by.first i h) ∙ ap (λ (j : ℕ). get_or (points m n g) j 0) here ∙ at)
