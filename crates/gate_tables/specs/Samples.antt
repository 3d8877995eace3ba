-- One assignment for each value that a wire below the last carries, in the order of the values: an input's levels, or the first of
-- each class.
-- Assumes nothing.
use Rattle.std.specs.Prelude.{◌<◌, ◌≤◌, ◌-◌, ◌^◌, ◌*◌, ◌%◌, ◌/◌, ◌≡◌, ◌≢◌}
use Rattle.laws.specs.Prelude.{ℕ, ◌∙◌, sym, ap, refl, subst⁻¹, true, false, Bool, List, zero-add, one-le-pow}
use Rattle.laws.specs.Prelude.{le_refl, mod-eq_of_lt, mul-div_cancel, eqb, length, get_or, eq-eqb, eqb-true, ne_eqb, eqb-false}
use Rattle.rules.specs.Sheets.Sheets.{level}
use Rattle.rules.specs.Groups.Groups.{points, part, size, classes, multiplicity}
use Rattle.rules.specs.Nets.Wirings.{first_input}
use Rattle.rules.specs.Nets.Filling.{carried, class_number}
use Rattle.laws.specs.Lists.Ranges.{map_range_length, map_range_at}
use Rattle.laws.specs.Lists.Places.{mem_get_or}
use Rattle.trees.specs.Groups.Members.{member_single, size_one}
use Rattle.trees.specs.Groups.Levels.{level_below, level_part_in}
use Rattle.trees.specs.Groups.Points.{points_are_parts, points_rise}
use Rattle.trees.specs.Leaves.Neighbours.{level_points, points_single}
use Rattle.trees.specs.Groups.Classes.{Few, classes_are_points, class_below, class_part, class_listed, listed_once}
use Rattle.trees.specs.Filling.Carried.{carried_several, carried_input}
use Rattle.gate_tables.specs.ClassOrder.{Rises, classes_rising}

-- ---- the samples

unfoldable pub samples : ℕ → ℕ → (ℕ → ℕ) → ℕ → List ℕ
samples m n f g = elim (eqb (size n g) 1) [ true ↦ points m n g | false ↦ classes m n f g ]

pub level_points_length : (m w : ℕ) → length (level_points m w) ≡ m
level_points_length m w = map_range_length (λ l. l * w) 0 m

module _ (m n : ℕ) (f : ℕ → ℕ) (g : ℕ) (g< : g < 2 ^ n) where
  -- a group of one member
  pub samples_single : eqb (size n g) 1 ≡ true → samples m n f g ≡ level_points m (m ^ (n - 1 - first_input n g))
  unfolding samples
  samples_single one =
      let first = size_one n g g< (eqb-true (size n g) 1 one) in
      rw (samples, one) (ap (points m n) first.1 ∙ points_single m n (first_input n g) first.0)

  -- of several
  pub samples_several : size n g ≢ 1 → samples m n f g ≡ classes m n f g
  unfolding samples
  samples_several several = rw (samples, ne_eqb (size n g) 1 several)

  -- each is an assignment of the group
  pub samples_own : 0 < m → (u : ℕ) → u < length (samples m n f g) → part m n g (get_or (samples m n f g) u 0) ≡ get_or (samples m n f g) u 0
  unfolding samples multiplicity
  samples_own pos u = go (eqb (size n g) 1)
    where
      go : (one : Bool) →
          let xs : List ℕ = elim one as (λ _. List ℕ) [ true ↦ points m n g | false ↦ classes m n f g ] in
          u < length xs → part m n g (get_or xs u 0) ≡ get_or xs u 0
      go true u< = (points_are_parts m n pos g _ (mem_get_or (points m n g) u 0 u<)).0
      go false u< = (points_are_parts m n pos g _ (classes_are_points m n pos f g g< u u<)).0

  -- there are at most m
  pub samples_few : Few m n f g → length (samples m n f g) ≤ m
  unfolding samples multiplicity
  samples_few few = go (eqb (size n g) 1) refl
    where
      go : (one : Bool) → eqb (size n g) 1 ≡ one → length (samples m n f g) ≤ m
      go true is = rw (samples_single is, level_points_length m (m ^ (n - 1 - first_input n g))) (le_refl m)
      go false is = rw (samples, is) few

  -- and they rise
  pub samples_rise : 0 < m → Rises (samples m n f g)
  unfolding samples
  samples_rise pos = go (eqb (size n g) 1)
    where
      go : (one : Bool) → Rises (elim one as (λ _. List ℕ) [ true ↦ points m n g | false ↦ classes m n f g ])
      go true = points_rise m n pos g
      go false = classes_rising m n pos f g g<

-- what samples are for a wire: all values that it carries are below their number, and if an index gives the wire's group sample u, the
-- wire carries u
pub record Sampled (m n : ℕ) (f : ℕ → ℕ) (g : ℕ) (xs : List ℕ) : Type 0 where
  pub all : (p : ℕ) → carried m n f g p < length xs
  pub carries : (u p : ℕ) → u < length xs → part m n g p ≡ get_or xs u 0 → carried m n f g p ≡ u

module _ (m n : ℕ) (pos : 0 < m) (f : ℕ → ℕ) where
  -- for an input
  sampled_input : (i : ℕ) → i < n → Sampled m n f (2 ^ i) (points m n (2 ^ i))
  unfolding level
  sampled_input i h =
      let w = m ^ (n - 1 - i) in
      let count : length (points m n (2 ^ i)) ≡ m = ap length (points_single m n i h) ∙ level_points_length m w in
      let at : (u : ℕ) → u < m → get_or (points m n (2 ^ i)) u 0 ≡ u * w =
      λ u u<. rw (points_single m n i h, map_range_at (λ l. l * w) 0 m u 0 u<, zero-add) in
      record {
        all = λ p. rw (count, carried_input m n f i h p) (level_below m n pos p i);
        carries = λ u p u< e.
            carried_input m n f i h p
            ∙ sym (level_part_in m n pos (2 ^ i) p i h (member_single i i ∙ eq-eqb i i refl))
            ∙ ap (λ (q : ℕ). q / w % m) (e ∙ at u (rw count at u<))
            ∙ ap (λ (q : ℕ). q % m) (mul-div_cancel u (one-le-pow (n - 1 - i) m pos))
            ∙ mod-eq_of_lt (rw count at u<);
      }

  module _ (g : ℕ) (g< : g < 2 ^ n) where
    -- for a gate
    sampled_gate : size n g ≢ 1 → Sampled m n f g (classes m n f g)
    unfolding multiplicity
    sampled_gate several =
        record {
          all = λ p. rw (carried_several m n f g several p) (class_below m n pos f g g< p);
          carries = λ u p u< e.
              carried_several m n f g several p
              ∙ sym (class_part m n pos f g g< p)
              ∙ ap (class_number m n f g) e
              ∙ sym (listed_once m n pos f g g< u _ u< (class_below m n pos f g g< _) (class_listed m n pos f g g< (get_or (classes m n f g) u 0)));
        }

    -- the samples of a wire form such a list
    pub sampled : Sampled m n f g (samples m n f g)
    unfolding samples
    sampled = go (eqb (size n g) 1) refl
      where
        go : (b : Bool) → eqb (size n g) 1 ≡ b → Sampled m n f g (samples m n f g)
        go true is =
            let first = size_one n g g< (eqb-true (size n g) 1 is) in
            rw (samples, is)
            (subst⁻¹ (λ (h : ℕ). Sampled m n f h (points m n h)) first.1 (sampled_input (first_input n g) first.0))
        go false is = rw (samples, is) (sampled_gate (eqb-false (size n g) 1 is))
