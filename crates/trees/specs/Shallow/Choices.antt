-- At each gate, a wiring by a choice of parts takes the part that the choice gives.
-- Assumes nothing.
use Rattle.std.specs.Prelude.{◌<◌, ◌≤◌, ◌+◌, ◌-◌, ◌^◌, ◌≡◌, ◌≢◌}
use Rattle.laws.specs.Prelude.{ℕ, suc, zero, refl, true, false, Bool, arith, eqb, eqb-false}
use Rattle.rules.specs.Groups.Groups.{size}
use Rattle.rules.specs.Groups.Marks.{inside}
use Rattle.rules.specs.Nets.Wirings.{Wiring, input, gate, group_of, first_input, wiring_by}
use Rattle.trees.specs.Groups.Members.{size_pos}
use Rattle.trees.specs.Trees.MarkTwo.{Splits, two_some, parted, a_below, b_below, a_inside, b_inside, parted_sizes, wiring_of_lem}

-- something holds for every gate's group and its left part
abbrev pub EachSplit : (ℕ → ℕ → Type 0) → Wiring → Type 0
EachSplit P (input i) = Unit {0}
EachSplit P (gate a b) = P (group_of (gate a b)) (group_of a) × EachSplit P a × EachSplit P b

-- something holds for a wiring and for every wiring in it
abbrev pub EachWithin : (Wiring → Type 0) → Wiring → Type 0
EachWithin P (input i) = P (input i)
EachWithin P (gate a b) = P (gate a b) × EachWithin P a × EachWithin P b

module _ (n : ℕ) (mark : ℕ → ℕ) (leaves : ℕ) (split : ℕ → ℕ) (splits : Splits n mark leaves split) (P : ℕ → ℕ → Type 0)
    (chosen : (g : ℕ) → g < 2 ^ n → inside n g leaves ≡ true → mark g ≡ 2 → size n g ≢ 1 → P g (split g)) where
  -- what holds for each group and its chosen part holds at each gate
  pub takes_chosen : (fuel g : ℕ) → g < 2 ^ n → inside n g leaves ≡ true → size n g ≤ fuel → mark g ≡ 2 → EachSplit P (wiring_by n split fuel g)
  unfolding wiring_by group_of
  takes_chosen zero g g< g_in enough two = absurd (omega (arith, size_pos n g g< (two_some n mark leaves split splits g g< g_in two)))
  takes_chosen (suc fuel) g g< g_in enough two = go _ (eqb (size n g) 1) refl λ several.
      let smaller = parted_sizes n mark leaves split splits g g< g_in two several in
      let half = parted n mark leaves split splits g g< g_in two several in
      let a< = a_below n mark leaves split splits g g< g_in two several in
      let b< = b_below n mark leaves split splits g g< g_in two several in
      let a_in = a_inside n mark leaves split splits g g< g_in two several in
      let b_in = b_inside n mark leaves split splits g g< g_in two several in
      let left = wiring_of_lem n mark leaves split splits fuel _ a< a_in (omega arith) half.two_a in
      let right = wiring_of_lem n mark leaves split splits fuel _ b< b_in (omega arith) half.two_b in
      let joined : split g + (g - split g) ≡ g = omega (arith, half.less) in (
        rw (left.0.1, right.0.1, joined) (chosen g g< g_in two several),
        takes_chosen fuel _ a< a_in (omega arith) half.two_a,
        takes_chosen fuel _ b< b_in (omega arith) half.two_b,
      )
    where
      go : (w : Wiring) (b : Bool) → eqb (size n g) 1 ≡ b → (size n g ≢ 1 → EachSplit P w)
          → EachSplit P (elim b as (λ _. Wiring) [ true ↦ input (first_input n g) | false ↦ w ])
      go w true one rest = tt
      go w false several rest = rest (eqb-false _ _ several)
