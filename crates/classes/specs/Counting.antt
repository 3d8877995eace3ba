-- A loop that keeps the first of each class until there are enough, over plain lists: the classes of what is kept and of the assignments not yet
-- visited are the classes of all.
-- Assumes nothing.
use Rattle.std.specs.Prelude.{◌<◌, ◌≤◌, ◌+◌, ◌≡◌, ◌∷◌, ◌++◌}
use Rattle.laws.specs.Prelude.{ℕ, ◌∙◌, sym, ap, refl, ap₂, subst⁻¹, List, [], add-one, ℕ_discrete, arith, length, get_or, take}
use Rattle.laws.specs.Prelude.{drop, set, length-set, drop_of_length-le, length-take, get_or-set_same, get_or-set_other, length-take-le, take-suc-set, take_all}
use Rattle.rules.specs.Lists.{first_place}
use Rattle.rules.specs.Groups.Groups.{alike_over, firsts}
use Rattle.classes.specs.Firsts.{classes_over, firsts_known, firsts_new, firsts_front}
use Rattle.laws.specs.Lists.Walks.{rest}
use Rattle.radix.specs.Fronts.{Front}
use Rattle.rules.specs.Limits.{most_cells}
use Rattle.classes.specs.Chains.{NoChains}
use Rattle.classes.specs.Keys.{key_bound}
use Rattle.classes.specs.Within.{Within}

-- what holds for a list's elements holds after a store if it holds for what is stored
pub by_set : (P : ℕ → Type 0) (l : List ℕ) (i v j : ℕ) → i < length l → (j ≡ i → P v) → ((j ≡ i → ⊥) → P (get_or l j 0)) → P (get_or (set l i v) j 0)
by_set P l i v j room at other = go (ℕ_discrete j i)
  where
    go : Dec (j ≡ i) → P (get_or (set l i v) j 0)
    go (yes e) = subst⁻¹ P (ap (λ (k : ℕ). get_or (set l i v) k 0) e ∙ get_or-set_same l i v 0 room) (at e)
    go (no ne) = subst⁻¹ P (get_or-set_other l i j v 0 ne) (other ne)

-- room for `enough` classes and for keys, no chains yet, and every assignment inside the cells
pub record Ready (cells xs ys : List ℕ) (enough : ℕ) (firsts links heads : List ℕ) : Type 0 where
  pub for_firsts : enough ≤ length firsts
  pub for_links : enough ≤ length links
  pub few : enough ≤ most_cells
  pub no_chains : NoChains heads
  pub for_keys : key_bound ≤ length heads
  pub inside : (i : ℕ) → i < length xs → Within (length cells) ys (get_or xs i 0)

module _ (f : ℕ → ℕ) (b : ℕ) (ys xs : List ℕ) (enough : ℕ) where
  -- what is kept before assignment i is visited
  pub record FirstsFound (fs : List ℕ) (count i : ℕ) : Type 0 where
    pub low : i ≤ length xs
    pub few : count ≤ enough
    pub room : enough ≤ length fs
    pub left : firsts (alike_over f ys) (take count fs) (drop i xs) ≡ classes_over f ys xs
    pub inside : (j : ℕ) → j < count → Within b ys (get_or fs j 0)

  pub kept_none : (fs : List ℕ) → enough ≤ length fs → FirstsFound fs 0 0
  unfolding classes_over
  kept_none fs h = record { low = omega arith; few = omega arith; room = h; left = refl; inside = λ j k. absurd (omega arith) }

module _ {f : ℕ → ℕ} {b : ℕ} {ys xs : List ℕ} {enough : ℕ} {fs : List ℕ} {count i : ℕ} (kept : FirstsFound f b ys xs enough fs count i) where
  kept_length : length (take count fs) ≡ count
  kept_length = length-take-le count fs (omega (arith, kept.few, kept.room))

  -- all are visited
  pub kept_all : length xs ≤ i → Front (take enough (classes_over f ys xs)) count fs
  unfolding firsts
  kept_all h =
      let all : take count fs ≡ classes_over f ys xs = ap (firsts (alike_over f ys) (take count fs)) (sym (drop_of_length-le xs h)) ∙ kept.left in
      let long : length (classes_over f ys xs) ≡ count = sym (ap length all) ∙ kept_length in
      record {
        count = omega (arith, length-take enough (classes_over f ys xs), kept.few);
        is = all ∙ sym (take_all enough (classes_over f ys xs) (omega (arith, kept.few)));
      }

  -- or enough are kept
  pub kept_enough : count ≡ enough → Front (take enough (classes_over f ys xs)) count fs
  kept_enough e =
      let front : take enough (classes_over f ys xs) ≡ take count fs =
      ap₂ (λ (k : ℕ) (l : List ℕ). take k l) (sym (kept_length ∙ e)) (sym kept.left) ∙ firsts_front (alike_over f ys) (take count fs) (drop i xs) in
      record { count = sym (ap length front ∙ kept_length); is = sym front }

  module _ (more : i < length xs) {k : ℕ} (place : k ≡ first_place (alike_over f ys (get_or xs i 0)) (take count fs)) where
    -- an assignment whose class is already kept
    pub kept_known : k < count → FirstsFound f b ys xs enough fs count (i + 1)
    kept_known h =
        record {
          low = omega arith;
          few = kept.few;
          room = kept.room;
          left = sym (firsts_known (alike_over f ys) (take count fs) (get_or xs i 0) (drop (i + 1) xs) (omega (arith, kept_length)))
              ∙ ap (firsts (alike_over f ys) (take count fs)) (sym (rest xs i more))
              ∙ kept.left;
          inside = kept.inside;
        }

    module _ (new : count ≤ k) where
      -- the first of its class is added to those kept
      joins : firsts (alike_over f ys) (take count fs ++ (get_or xs i 0 ∷ [])) (drop (i + 1) xs) ≡ classes_over f ys xs
      joins =
          sym (firsts_new (alike_over f ys) (take count fs) (get_or xs i 0) (drop (i + 1) xs) (omega (arith, kept_length)))
          ∙ ap (firsts (alike_over f ys) (take count fs)) (sym (rest xs i more))
          ∙ kept.left

      pub kept_new : count < enough → Within b ys (get_or xs i 0) → FirstsFound f b ys xs enough (set fs count (get_or xs i 0)) (count + 1) (i + 1)
      kept_new h w =
          record {
            low = omega arith;
            few = omega arith;
            room = omega (arith, kept.room, length-set fs count (get_or xs i 0));
            left = ap (λ (l : List ℕ). firsts (alike_over f ys) l (drop (i + 1) xs))
                (ap (λ (j : ℕ). take j (set fs count (get_or xs i 0))) (add-one count) ∙ take-suc-set fs count (get_or xs i 0) (omega (arith, kept.room)))
                ∙ joins;
            inside = λ j l. by_set (Within b ys) fs count (get_or xs i 0) j (omega (arith, kept.room)) (λ _. w) (λ ne. kept.inside j (omega (arith, ne)));
          }

-- the first assignment
pub firsts_found_one : (f : ℕ → ℕ) (b : ℕ) (ys xs : List ℕ) (enough : ℕ) (fs : List ℕ) → 0 < enough → enough ≤ length fs → 0 < length xs → Within
    b ys (get_or xs 0 0)
    → FirstsFound f b ys xs enough (set fs 0 (get_or xs 0 0)) 1 1
unfolding first_place
firsts_found_one f b ys xs enough fs some room more = kept_new (kept_none f b ys xs enough fs room) more refl (omega arith) some
