-- The theorems of Families/FamilyWirings that rest on a definition which a must-fail edit changes: they stand here, so that the edit leaves specs/ readable.
-- Assumes nothing.
use Rattle.std.specs.Prelude.{◌<◌, ◌-◌, ◌^◌, ◌≡◌, ◌↔◌, ◌≢◌}
use Rattle.laws.specs.Prelude.{ℕ, suc, zero, ◌∙◌, sym, ap, refl, ap₂, ⊎_elim, zero-div, mul-pos, zero-mod, ℕ_discrete, arith}
use Rattle.laws.specs.Prelude.{ne_eqb}
use Rattle.rules.specs.Groups.Groups.{size}
use Rattle.rules.specs.Groups.Marks.{marks_of}
use Rattle.rules.specs.Nets.Family.{splits_of, split_count, numbered_at, family_wiring}
use Rattle.rules.specs.Nets.Settled.{split_of, settled_wiring}
use Rattle.rules.specs.Nets.Trees.{EachOnce}
use Rattle.rules.specs.Nets.Wirings.{Wiring, input, gate, group_of, first_input, wiring_by}
use Rattle.laws.specs.Lists.Totals.{numbered_first}
use Rattle.trees.specs.Trees.Trees.{WiringOf, EachGate}
use Rattle.trees.specs.Groups.Members.{size_le}
use Rattle.trees.specs.Groups.Classes.{Few}
use Rattle.trees.specs.Trees.Wirings.{group_below}
use Rattle.trees.specs.Groups.MarkRule.{marked}
use Rattle.trees.specs.Trees.MarkTwo.{is_a, some-A, two_says, wiring_mark, split_two, settled_wiring_of}
use Rattle.trees.specs.Families.NormalWirings.{Normal, normal, normal_turned, turned_gates, normal_once, normal_group}
use Rattle.trees.proofs.Families.NormalWirings.{normal_is}
use Rattle.trees.specs.Families.FamilyCounts.{split_is, split_counted, no_parts_count}
use Rattle.trees.specs.Families.Families.{AllTwos, wired, wired_single, wired_several}
use Rattle.trees.proofs.Families.Families.{wiring_numbered_lem, number_wired}
use Rattle.trees.specs.Families.FamilyWirings.{OfFamily, count_at, number_in, wiring_numbered}

module _ (m n : ℕ) (pos : 0 < m) (f : ℕ → ℕ) where
  -- ---- mark 2 at each group, and few classes at each gate's group

  twos_few : (w : Wiring) → EachOnce n w → AllTwos n (marks_of m n f) w → EachGate (Few m n f) w
  twos_few (input i) once twos = tt
  twos_few (gate a b) once twos =
      ((two_says m n pos f _ (group_below n (gate a b) once) twos.0).few, twos_few a once.1 twos.1, twos_few b once.2 twos.2)

  few_twos : (w : Wiring) → EachOnce n w → EachGate (Few m n f) w → AllTwos n (marks_of m n f) w
  few_twos (input i) once few = unfold group_of in wiring_mark m n pos f (input i) once tt
  few_twos (gate a b) once few = (wiring_mark m n pos f (gate a b) once few, few_twos a once.1 few.1, few_twos b once.2 few.2)

  -- ---- numbers and wirings

  module _ (g : ℕ) (g< : g < 2 ^ n) where
    -- Each number below the count gives a wiring of the group with few classes at each gate and the first-listed input on the left, ..
    pub number_gives : (r : ℕ) → r < count_at m n pos f g → OfFamily m n pos f g r (wiring_numbered m n pos f g r)
    number_gives r h =
        let is = wiring_numbered_lem n (marks_of m n f) n g r g< (size_le n g) h in
        record {
          of = is.family.of;
          few = twos_few (wiring_numbered m n pos f g r) is.family.of.0 is.family.twos;
          norm = is.family.norm;
          number = is.number;
        }

    -- .. different numbers give different ones, ..
    pub numbers_differ : (r s : ℕ) → r < count_at m n pos f g → s < count_at m n pos f g → wiring_numbered m n pos f g r ≡ wiring_numbered m n pos f g s → r ≡ s
    numbers_differ r s h k e = sym (number_gives r h).number ∙ ap (number_in m n pos f) e ∙ (number_gives s k).number

    -- .. and each such wiring is that of its number.
    pub wiring_has : (w : Wiring) → WiringOf n g w → EachGate (Few m n f) w → Normal n w → (number_in m n pos f w < count_at m n pos f g) × (wiring_numbered m n pos f g (number_in m n pos f w) ≡ w)
    wiring_has w of few norm =
        let is = number_wired n (marks_of m n f) w of.0 (few_twos w of.0 few) norm in
        (rw of.1 at is.0, rw of.1 at (is.1 n (size_le n (group_of w))))

    -- the number of any wiring with few classes at each gate, up to sides
    pub normal_has : (w : Wiring) → WiringOf n g w → EachGate (Few m n f) w
        → (number_in m n pos f (normal n w) < count_at m n pos f g) × (wiring_numbered m n pos f g (number_in m n pos f (normal n w)) ≡ normal n w)
    normal_has w of few =
        wiring_has (normal n w) (normal_once n w of.0, normal_group n w ∙ of.1) (turned_gates (Few m n f) (normal_turned n w) few) (normal_is n w of.0)

    -- ---- count 0

    -- a group of mark 2 has a tree, ..
    pub two_counted : marked m n pos f g ≡ 2 → 0 < count_at m n pos f g
    two_counted two =
        let w = settled_wiring_of m n pos f g g< two in
        omega (arith, (normal_has (settled_wiring n (marks_of m n f) g) w.0 w.1).0)

    -- .. and no other group has: the count is 0 exactly if the mark is not 2.
    pub count_zero : (count_at m n pos f g ≡ 0) ↔ (marked m n pos f g ≢ 2)
    count_zero = (λ none two. omega (arith, two_counted two), λ other. no_parts_count n (marks_of m n f) g g< other)

  -- ---- number 0

  -- number 0 falls in the group's split of lowest number
  first_split : (g : ℕ) → g < 2 ^ n → marked m n pos f g ≡ 2 → size n g ≢ 1
      → numbered_at (split_counted n (marks_of m n f) g) (splits_of n (marks_of m n f) g) 0 ≡ record { part = split_of n (marks_of m n f) g; number = 0 }
  unfolding splits_of split_of split_count
  first_split g g< two several =
      let parts = ⊎_elim (λ one. absurd (several one)) (λ parts. parts) (two_says m n pos f g g< two).why in
      numbered_first (split_counted n (marks_of m n f) g) (is_a n (marks_of m n f) g) 1 (g - 1) (some-A n (marks_of m n f) g g< parts)
      (λ a is. let split = split_is n (marks_of m n f) g a is in
      mul-pos (two_counted a (omega (arith, split.less)) split.two) (two_counted (g - a) (omega arith) split.rest_two))

  -- the wiring by the settled choice, by its last gate
  settled_single : (fuel g : ℕ) → size n g ≡ 1 → wiring_by n (split_of n (marks_of m n f)) fuel g ≡ input (first_input n g)
  unfolding wiring_by
  settled_single zero g one = refl
  settled_single (suc fuel) g one = rw (one, wiring_by)

  settled_several : (fuel g : ℕ) → size n g ≢ 1 →
      let split = split_of n (marks_of m n f) in
      wiring_by n split (suc fuel) g ≡ gate (wiring_by n split fuel (split g)) (wiring_by n split fuel (g - split g))
  unfolding wiring_by
  settled_several fuel g several = rw (ne_eqb (size n g) 1 several, wiring_by)

  zero_settled : (fuel g : ℕ) → g < 2 ^ n → marked m n pos f g ≡ 2 → wired n (marks_of m n f) fuel g 0 ≡ wiring_by n (split_of n (marks_of m n f)) fuel g
  unfolding family_wiring wiring_by
  zero_settled zero g g< two = refl
  zero_settled (suc fuel) g g< two = elim (ℕ_discrete (size n g) 1) [
    | yes one ↦ wired_single n (marks_of m n f) (suc fuel) g 0 one ∙ sym (settled_single (suc fuel) g one)
    | no several ↦
        let half = split_two m n pos f g g< two several in
        wired_several n (marks_of m n f) fuel g 0 several
        ∙ rw (first_split g g< two several, zero-div, zero-mod)
        (ap₂ gate (zero_settled fuel _ (omega (arith, half.less)) half.two_a) (zero_settled fuel _ (omega arith) half.two_b))
        ∙ sym (settled_several fuel g several)
  ]

  -- Number 0 is the settled wiring.
  pub number_zero : (g : ℕ) → g < 2 ^ n → marked m n pos f g ≡ 2 → wiring_numbered m n pos f g 0 ≡ settled_wiring n (marks_of m n f) g
  unfolding settled_wiring
  number_zero g g< two = zero_settled n g g< two
