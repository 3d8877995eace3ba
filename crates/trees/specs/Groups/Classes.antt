-- A group's classes: their numbers, their count, and the two ways to bound it.
-- Assumes nothing.
use Rattle.std.specs.Prelude.{◌<◌, ◌≤◌, ◌+◌, ◌^◌, ◌≡◌}
use Rattle.laws.specs.Prelude.{ℕ, ◌∙◌, sym, refl, ⊎_elim, true, true≢false, [], Memᴰ, mem_not_nil, not-suc-le-zero}
use Rattle.laws.specs.Prelude.{lt_trans, dec_lt, arith, get_or, eq-eqb, by_cases}
use Rattle.rules.specs.Groups.Groups.{part, points, others, alike, alike_over, classes, multiplicity}
use Rattle.rules.specs.Nets.Filling.{class_number}
use Rattle.laws.specs.Lists.Tests.{mem_all}
use Rattle.laws.specs.Lists.Places.{mem_get_or}
use Rattle.laws.specs.Lists.FirstPlaces.{first_passing}
use Rattle.laws.specs.Lists.Pigeonhole.{pigeonhole}
use Rattle.trees.specs.Trees.Trees.{Alike}
use Rattle.trees.specs.Groups.Levels.{part_part}
use Rattle.trees.specs.Groups.Points.{part_in_points, points_are_parts}
use Rattle.trees.specs.Groups.Alike.{alike_holds, alike_tested, alike_part, alike_sym, alike_trans}
use Rattle.trees.specs.Groups.Firsts.{Keeps, firsts_keep}

-- at most m classes
abbrev pub Few : ℕ → ℕ → (ℕ → ℕ) → ℕ → Type 0
Few m n f g = multiplicity m n f g ≤ m

module _ (m n : ℕ) (pos : 0 < m) (f : ℕ → ℕ) (g : ℕ) (g< : g < 2 ^ n) where
  -- an assignment is alike to itself by the test
  own_class : (p : ℕ) → alike m n f g p p ≡ true
  unfolding alike alike_over
  own_class p = mem_all _ (points m n (others n g)) (λ y i. eq-eqb (f (p + y)) (f (p + y)) refl)

  -- what is listed
  classes_keep : Keeps (alike m n f g) [] (points m n g) (classes m n f g)
  unfolding classes alike
  classes_keep = firsts_keep (alike m n f g) own_class [] (points m n g)

  -- "The group's multiplicity is the number of classes": each listed assignment is one of the group's, ..
  pub classes_are_points : (i : ℕ) → i < multiplicity m n f g → Memᴰ (get_or (classes m n f g) i 0) (points m n g)
  unfolding multiplicity
  classes_are_points i h =
      ⊎_elim (λ k. absurd (mem_not_nil k)) (λ k. k) (classes_keep.from _ (mem_get_or (classes m n f g) i 0 h))

  -- .. so it equals its own part in the group; ..
  listed_part : (i : ℕ) → i < multiplicity m n f g → part m n g (get_or (classes m n f g) i 0) ≡ get_or (classes m n f g) i 0
  listed_part i h = (points_are_parts m n pos g _ (classes_are_points i h)).0

  -- .. they are pairwise not alike, ..
  pub classes_differ : (i j : ℕ) → i < j → j < multiplicity m n f g
      → Alike m n f g (get_or (classes m n f g) i 0) (get_or (classes m n f g) j 0) → ⊥
  unfolding multiplicity
  classes_differ i j h k a = true≢false (sym tested ∙ classes_keep.fresh (λ _ _ _ l. absurd (not-suc-le-zero l)) i j h k)
    where
      tested : alike m n f g (get_or (classes m n f g) j 0) (get_or (classes m n f g) i 0) ≡ true
      tested =
          rw (listed_part i (lt_trans h k), listed_part j k) at
          (alike_tested m n pos f g (get_or (classes m n f g) j 0) (get_or (classes m n f g) i 0) g< (alike_sym m n pos f g _ _ a))

  -- .. so two alike ones have the same place
  pub listed_once : (i j : ℕ) → i < multiplicity m n f g → j < multiplicity m n f g
      → Alike m n f g (get_or (classes m n f g) i 0) (get_or (classes m n f g) j 0) → i ≡ j
  listed_once i j i< j< a = by_cases (dec_lt i j)
      (λ h. absurd (classes_differ i j h j< a))
      (λ h. by_cases (dec_lt j i)
      (λ k. absurd (classes_differ j i k i< (alike_sym m n pos f g _ _ a)))
      (λ k. omega arith))

  -- the class number of an index is a place in the list, and the entry there passes the test
  class_place : (p : ℕ) → (class_number m n f g p < multiplicity m n f g)
      × (alike m n f g (part m n g p) (get_or (classes m n f g) (class_number m n f g p) 0) ≡ true)
  unfolding class_number multiplicity alike
  class_place p =
      first_passing (alike m n f g (part m n g p)) 0 (classes m n f g)
      (classes_keep.covers (part m n g p) (part_in_points m n pos g p))

  -- a class number is below the number of classes
  pub class_below : (p : ℕ) → class_number m n f g p < multiplicity m n f g
  class_below p = (class_place p).0

  -- .. and every index is alike to the listed one of its class
  pub class_listed : (p : ℕ) → Alike m n f g p (get_or (classes m n f g) (class_number m n f g p) 0)
  class_listed p = alike_holds m n pos f g p _ g< (rw (listed_part (class_number m n f g p) (class_below p)) (class_place p).1)

  -- two indices have the same class number exactly if they are alike for the group
  pub class_alike : (p q : ℕ) → class_number m n f g p ≡ class_number m n f g q → Alike m n f g p q
  class_alike p q e = alike_trans m n pos f g _ _ _ (class_listed p) (alike_sym m n pos f g _ _ (rw e (class_listed q)))

  pub alike_class : (p q : ℕ) → Alike m n f g p q → class_number m n f g p ≡ class_number m n f g q
  alike_class p q h = listed_once (class_number m n f g p) (class_number m n f g q) (class_below p) (class_below q)
      (λ y. sym (class_listed p y) ∙ h y ∙ class_listed q y)

  -- the class of an index is that of its part in the group
  pub class_part : (p : ℕ) → class_number m n f g (part m n g p) ≡ class_number m n f g p
  class_part p = alike_class (part m n g p) p (alike_part m n pos f g (part m n g p) p (part_part m n pos g p))

  -- a value below k that separates classes bounds their number
  pub few_classes : (k : ℕ) (v : ℕ → ℕ) → ((p : ℕ) → v p < k) → ((p q : ℕ) → v p ≡ v q → Alike m n f g p q) → multiplicity m n f g ≤ k
  few_classes k v small tells =
      pigeonhole k (multiplicity m n f g) (λ i. v (get_or (classes m n f g) i 0)) (λ i h. small _)
      (λ i j i< j< e. listed_once i j i< j< (tells _ _ e))
