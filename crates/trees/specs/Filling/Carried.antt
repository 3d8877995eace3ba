-- What the wire of a group carries: its only input's level, or its class. It is below m if the group has at most m classes,
-- depends only on the levels of the group's members, and determines the ink.
-- Assumes nothing.
use Rattle.std.specs.Prelude.{◌<◌, ◌^◌, ◌≡◌, ◌≢◌}
use Rattle.laws.specs.Prelude.{ℕ, ◌∙◌, sym, ap, refl, subst, subst⁻¹, lt_of_lt_of_le, eqb, eq-eqb, eqb-true, ne_eqb, eqb-false, pow_pos}
use Rattle.laws.specs.Prelude.{test_cases}
use Rattle.rules.specs.Groups.Groups.{size, part}
use Rattle.rules.specs.Nets.Filling.{class_number, carried}
use Rattle.rules.specs.Nets.Wirings.{first_input}
use Rattle.rules.specs.Sheets.Sheets.{level}
use Rattle.trees.specs.Trees.Trees.{Tells}
use Rattle.trees.specs.Groups.Members.{member_single, single_below, size_single, size_one, first_member}
use Rattle.trees.specs.Groups.Levels.{level_below, level_part_in, part_ext}
use Rattle.trees.specs.Groups.Alike.{alike_part}
use Rattle.trees.specs.Groups.Classes.{Few, class_below, class_alike, alike_class, few_classes}

-- ---- a group of one input

module _ (m n : ℕ) (pos : 0 < m) where
  -- a group of one input is given that input's level
  pub single_level : (i p q : ℕ) → i < n → part m n (2 ^ i) p ≡ part m n (2 ^ i) q → level m n p i ≡ level m n q i
  single_level i p q h e = sym (given p) ∙ ap (λ r. level m n r i) e ∙ given q
    where
      given : (r : ℕ) → level m n (part m n (2 ^ i) r) i ≡ level m n r i
      given r = level_part_in m n pos (2 ^ i) r i h (member_single i i ∙ eq-eqb i i refl)

  -- and the level determines it
  level_single : (i p q : ℕ) → level m n p i ≡ level m n q i → part m n (2 ^ i) p ≡ part m n (2 ^ i) q
  level_single i p q e = part_ext m n pos (2 ^ i) p q (λ j h k. rw (eqb-true j i (sym (member_single j i) ∙ k)) e)

  -- so the group has at most m classes
  pub single_few : (f : ℕ → ℕ) (i : ℕ) → i < n → Few m n f (2 ^ i)
  single_few f i h =
      few_classes m n pos f (2 ^ i) (single_below i n h) m (λ p. level m n p i) (λ p. level_below m n pos p i)
      (λ p q e. alike_part m n pos f (2 ^ i) p q (level_single i p q e))

-- the first-listed input of such a group is its only one
pub first_single : (n i : ℕ) → i < n → first_input n (2 ^ i) ≡ i
first_single n i h =
    let first = (first_member n (2 ^ i) (single_below i n h) (pow_pos i)).1 in
    eqb-true (first_input n (2 ^ i)) i (sym (member_single (first_input n (2 ^ i)) i) ∙ first)

-- ---- any group

module _ (m n : ℕ) (f : ℕ → ℕ) where
  carried_single : (g : ℕ) → size n g ≡ 1 → (p : ℕ) → carried m n f g p ≡ level m n p (first_input n g)
  unfolding carried
  carried_single g one p = rw (carried, eq-eqb (size n g) 1 one)

  -- a wire from a gate carries its group's class
  pub carried_several : (g : ℕ) → size n g ≢ 1 → (p : ℕ) → carried m n f g p ≡ class_number m n f g p
  unfolding carried
  carried_several g several p = rw (carried, ne_eqb (size n g) 1 several)

  -- a wire from an input carries its level
  pub carried_input : (i : ℕ) → i < n → (p : ℕ) → carried m n f (2 ^ i) p ≡ level m n p i
  carried_input i h p = carried_single (2 ^ i) (size_single i n h) p ∙ ap (level m n p) (first_single n i h)

module _ (m n : ℕ) (pos : 0 < m) (f : ℕ → ℕ) (g : ℕ) (g< : g < 2 ^ n) where
  -- it is below m
  pub carried_below : Few m n f g → (p : ℕ) → carried m n f g p < m
  carried_below few p = test_cases (eqb (size n g) 1)
      (λ one. rw (carried_single m n f g (eqb-true (size n g) 1 one) p) (level_below m n pos p (first_input n g)))
      (λ several. rw (carried_several m n f g (eqb-false (size n g) 1 several) p) (lt_of_lt_of_le (class_below m n pos f g g< p) few))

  -- it determines the ink, given the other inputs
  pub carried_tells : Tells m n f g (carried m n f g)
  carried_tells p q e = test_cases (eqb (size n g) 1)
      (λ is.
      let one = eqb-true (size n g) 1 is in
      let same = sym (carried_single m n f g one p) ∙ e ∙ carried_single m n f g one q in
      alike_part m n pos f g p q
      (subst⁻¹ (λ (h : ℕ). part m n h p ≡ part m n h q) (size_one n g g< one).1 (level_single m n pos (first_input n g) p q same)))
      (λ is.
      let several = eqb-false (size n g) 1 is in
      class_alike m n pos f g g< p q (sym (carried_several m n f g several p) ∙ e ∙ carried_several m n f g several q))

  -- it depends only on what the group is given
  pub carried_part : (p q : ℕ) → part m n g p ≡ part m n g q → carried m n f g p ≡ carried m n f g q
  carried_part p q e = test_cases (eqb (size n g) 1)
      (λ is.
      let one = eqb-true (size n g) 1 is in
      let first = size_one n g g< one in
      carried_single m n f g one p
      ∙ single_level m n pos (first_input n g) p q first.0 (subst (λ (h : ℕ). part m n h p ≡ part m n h q) first.1 e)
      ∙ sym (carried_single m n f g one q))
      (λ is.
      let several = eqb-false (size n g) 1 is in
      carried_several m n f g several p
      ∙ alike_class m n pos f g g< p q (alike_part m n pos f g p q e)
      ∙ sym (carried_several m n f g several q))
