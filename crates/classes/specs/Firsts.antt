-- The first of each class, found one assignment at a time.
-- Assumes nothing.
use Rattle.std.specs.Prelude.{◌<◌, ◌≤◌, ◌+◌, ◌-◌, ◌^◌, ◌≡◌, ◌∷◌, ◌++◌}
use Rattle.laws.specs.Prelude.{ℕ, suc, ◌∙◌, sym, ap, refl, subst, ap₂, true, false, Bool, List, [], zero-add, le_trans}
use Rattle.laws.specs.Prelude.{dec_lt, arith, ltb, length, get_or, take, length-append, length-take, length-take-le, get_or-take, take_at, take_all, take-take}
use Rattle.laws.specs.Prelude.{take-length, lt-ltb, le-ltb}
use Rattle.rules.specs.Lists.{any, first_place}
use Rattle.rules.specs.Groups.Groups.{size, others, points, alike_over, firsts, classes}
use Rattle.laws.specs.Lists.FirstPlaces.{any_place}
use Rattle.cells.specs.Bound.{first_is}
use Rattle.radix.specs.Fronts.{Front, part_is}
use Rattle.trees.specs.Groups.Points.{points_length}

-- the first of each class of the assignments xs; ys are the assignments of the other inputs
unfoldable pub classes_over : (ℕ → ℕ) → List ℕ → List ℕ → List ℕ
classes_over f ys xs = firsts (alike_over f ys) [] xs

-- the lists of the assignments of a group and of the other inputs give the group's classes
pub group_front : (m n g : ℕ) (f : ℕ → ℕ) {xs ys : List ℕ} {own other : ℕ} → Front (points m n g) own xs → Front (points m n (others n g)) other ys
    → (enough : ℕ) {r : ℕ} {fs : List ℕ} → Front (take enough (classes_over f (take (other - 0) ys) (take (own - 0) xs))) r fs
    → Front (take enough (classes m n f g)) r fs
unfolding classes_over classes
group_front m n g f own other enough {r} {fs} found =
    subst (λ (l : List ℕ). Front (take enough l) r fs) (ap₂ (λ (us vs : List ℕ). classes_over f us vs) (part_is other) (part_is own)) found

-- the first that passes among the first `count` of a list: none before j passes, and the one at j does unless j is the end
pub search_is : (test : ℕ → Bool) (xs : List ℕ) (count j : ℕ) → count ≤ length xs → j ≤ count → ((p : ℕ) → p < j → test (get_or xs p 0) ≡ false)
    → (j < count → test (get_or xs j 0) ≡ true) → j ≡ first_place test (take count xs)
search_is test xs count j room low before at =
    let long = length-take-le count xs room in
    first_is test (take count xs) j (omega arith) (λ p h. ap test (get_or-take count xs p 0 (omega arith)) ∙ before p h)
    (λ h. ap test (get_or-take count xs j 0 (omega arith)) ∙ at (omega arith))

module _ (same : ℕ → ℕ → Bool) where
  -- an assignment whose class is already kept
  pub firsts_known : (kept : List ℕ) (p : ℕ) (ps : List ℕ) → first_place (same p) kept < length kept
      → firsts same kept (p ∷ ps) ≡ firsts same kept ps
  unfolding firsts
  firsts_known kept p ps h = rw (any_place (same p) kept ∙ lt-ltb _ _ h, firsts)

  -- the first of its class
  pub firsts_new : (kept : List ℕ) (p : ℕ) (ps : List ℕ) → length kept ≤ first_place (same p) kept
      → firsts same kept (p ∷ ps) ≡ firsts same (kept ++ (p ∷ [])) ps
  unfolding firsts
  firsts_new kept p ps h = rw (any_place (same p) kept ∙ le-ltb _ _ h, firsts)

  -- what is kept stays at the front
  pub firsts_front : (kept ps : List ℕ) → take (length kept) (firsts same kept ps) ≡ kept
  unfolding firsts
  firsts_front kept [] = take-length kept
  firsts_front kept (p ∷ ps) = go (any (same p) kept) (firsts_front kept ps) (firsts_front (kept ++ (p ∷ [])) ps)
    where
      go : (b : Bool) → take (length kept) (firsts same kept ps) ≡ kept
          → take (length (kept ++ (p ∷ []))) (firsts same (kept ++ (p ∷ [])) ps) ≡ kept ++ (p ∷ [])
          → take (length kept) (elim b as (λ _. List ℕ) [ true ↦ firsts same kept ps | false ↦ firsts same (kept ++ (p ∷ [])) ps ]) ≡ kept
      go true old new = old
      go false old new =
          sym (take-take (length kept) (length (kept ++ (p ∷ []))) (firsts same (kept ++ (p ∷ [])) ps) (omega (arith, length-append kept (p ∷ []))))
          ∙ ap (take (length kept)) new
          ∙ take_at kept (p ∷ []) (length kept) refl

  -- there are at most as many as those kept and those left together
  pub firsts_fewer : (kept ps : List ℕ) → length (firsts same kept ps) ≤ length kept + length ps
  unfolding firsts
  firsts_fewer kept [] = omega arith
  firsts_fewer kept (p ∷ ps) = go (any (same p) kept) (firsts_fewer kept ps) (firsts_fewer (kept ++ (p ∷ [])) ps)
    where
      go : (b : Bool) → length (firsts same kept ps) ≤ length kept + length ps
          → length (firsts same (kept ++ (p ∷ [])) ps) ≤ length (kept ++ (p ∷ [])) + length ps
          → length {A = ℕ} (elim b as (λ _. List ℕ) [ true ↦ firsts same kept ps | false ↦ firsts same (kept ++ (p ∷ [])) ps ]) ≤ length kept + suc (length ps)
      go true old new = omega arith
      go false old new = omega (arith, length-append kept (p ∷ []))

-- the first `enough` of the classes are all of them if there are no more, ..
pub front_all : (enough : ℕ) (classes : List ℕ) {count : ℕ} {kept : List ℕ} → Front (take enough classes) count kept → length classes ≤ enough
    → Front classes count kept
front_all enough classes {count} {kept} front few = subst (λ (l : List ℕ). Front l count kept) (take_all enough classes few) front

-- .. and the first m + 1 are more than m exactly when the classes are
module _ (m : ℕ) (classes : List ℕ) {count : ℕ} {kept : List ℕ} (front : Front (take (m + 1) classes) count kept) where
  pub front_over : m < count → m < length classes
  front_over h = omega (arith, front.count, length-take (m + 1) classes)

  pub front_within : count ≤ m → length classes ≤ m
  front_within h = omega (arith, front.count, length-take (m + 1) classes)

  pub front_test : ltb m count ≡ ltb m (length classes)
  front_test = go (dec_lt m count)
    where
      go : Dec (m < count) → ltb m count ≡ ltb m (length classes)
      go (yes over) = lt-ltb m count over ∙ sym (lt-ltb m (length classes) (front_over over))
      go (no within) = le-ltb m count (omega arith) ∙ sym (le-ltb m (length classes) (front_within (omega arith)))

-- a group has no more classes than assignments
pub classes_fit : (m n : ℕ) → 0 < m → (f : ℕ → ℕ) (g : ℕ) → length (classes m n f g) ≤ m ^ size n g
unfolding classes
classes_fit m n pos f g =
    le_trans (firsts_fewer (alike_over f (points m n (others n g))) [] (points m n g)) (rw (zero-add, points_length m n pos g) (omega arith))
