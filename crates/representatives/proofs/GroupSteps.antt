-- A step from group to group over plain lists: the empty group, and a group to which too many classes pass on.
-- Assumes nothing.
use Rattle.std.specs.Prelude.{◌<◌, ◌≤◌, ◌+◌, ◌-◌, ◌^◌, ◌*◌, ◌≡◌}
use Rattle.laws.specs.Prelude.{ℕ, ◌∙◌, sym, ap, refl, subst, subst⁻¹, true, List, zero-mul, one-le-pow, arith, length}
use Rattle.laws.specs.Prelude.{get_or, set, get_or-set_same, eqb-true, pow_pos}
use lib.Bits.{bit_and, and_le_r}
use Rattle.rules.specs.Groups.Groups.{member, size}
use Rattle.rules.specs.Groups.Marks.{inside}
use Rattle.trees.specs.Groups.Members.{member_single, single_below}
use Rattle.rules.specs.Nets.Trees.{Apart}
use Rattle.trees.specs.Trees.MarkTwo.{inside_trans}
use Rattle.trees.specs.Groups.TakenOff.{off_inside, off_apart, alone_le}
use Rattle.trees.specs.Groups.Classes.{class_below}
use Rattle.trees.specs.Groups.Covers.{covers_same, empty_cover}
use Rattle.trees.specs.Groups.Told.{Told, told_on}
use Rattle.radix.specs.Parts.{PartOf, part_inside, inside_part, part_apart}
use Rattle.representatives.specs.Known.{RepFew, Base, Known}
use Rattle.representatives.specs.Sources.{PassesOn, OneOf, has_member}
use Rattle.representatives.specs.Steps.{Work, NextStep, RepStepped}
use Rattle.representatives.specs.Counting.{judged_many}
use Rattle.representatives.specs.Working.{step_level, step_own_places, step_judged}

module _ {m n : ℕ} {f : ℕ → ℕ} {cells weights counts kept xs ys firsts : List ℕ} {idle g past : ℕ}
    (work : Work m n cells weights counts kept xs ys firsts) (next : NextStep m n f counts kept idle g past) where
  -- there is a level
  level : 0 < m
  level = step_level work next

  -- the places of g exist
  own_places : g * m + m ≤ length kept
  own_places = step_own_places work next

  -- the empty group
  pub step_empty : g ≡ 0 → RepStepped m n f counts kept g 1 (set kept 0 0)
  step_empty none =
      record {
        below = λ j h. absurd (omega (arith, ap (λ (k : ℕ). k * m) none, zero-mul m));
        found = record {
          few = λ _.
              subst⁻¹ (λ (k : ℕ). RepFew m n f (set kept 0 0) k 1) none
              (record {
                most = level;
                fits = one-le-pow (size n 0) m level;
                exact = omega (arith, class_below m n level f 0 (pow_pos n) 0);
                cover = covers_same m n level f 0 1 (λ _. 0) _ entry (empty_cover m n level f);
              });
          many = λ h. absurd (omega arith);
          base = λ h. absurd (omega arith);
          lower = λ h. absurd (omega arith);
        };
      }
    where
      entry : (k : ℕ) → k < 1 → 0 ≡ get_or (set kept 0 0) (0 * m + k) 0
      entry k k< =
          let here : 0 * m + k ≡ 0 = omega (arith, zero-mul m) in
          sym (ap (λ (j : ℕ). get_or (set kept 0 0) j 0) here ∙ get_or-set_same kept 0 0 0 (omega (arith, own_places, work.levels)))

  -- a member is removed
  module _ {bit : ℕ} (one : OneOf n g bit) where
    pub step_off_lower : (bit ≤ g) × (g - bit < g)
    step_off_lower = omega (arith, one.alone, alone_le n g one.input next.group one.below one.is, pow_pos one.input)

    pub step_off_inside : inside n (g - bit) g ≡ true
    step_off_inside = subst⁻¹ (λ (k : ℕ). inside n (g - k) g ≡ true) one.alone (off_inside n g one.input next.group one.below one.is)

    -- .. and has no idle member
    pub step_off_apart : Apart n (g - bit) idle
    step_off_apart = part_apart n (g - bit) g idle step_off_inside next.apart

    -- a part of the rest is a part of the group
    pub step_inner : (b : ℕ) → PartOf b (g - bit) → (b < g) × PartOf b g
    step_inner b part = (
      omega (arith, step_off_lower, and_le_r b (g - bit), part),
      inside_part n b g (omega (arith, step_off_lower, and_le_r b (g - bit), part, next.group))
          (inside_trans n b (g - bit) g (part_inside n b (g - bit) part) step_off_inside),
    )

    -- too many classes pass on
    pub step_passed : {after : List ℕ} → PassesOn m counts kept (g - bit) bit true
        → after ≡ set (set kept (g * m) (get_or kept ((g - bit) * m) 0)) (g * m + 1) (get_or kept ((g - bit) * m + 1) 0) → RepStepped m n f counts kept g 0 after
    step_passed {after} passes written =
        step_judged work next (step_inner b base.inside).0 (step_inner b base.inside).1 base.few
        (judged_many work.levels next.group (omega (arith, step_off_lower)) own_places told written)
      where
        h : ℕ
        h = g - bit

        b : ℕ
        b = get_or kept (h * m + 1) 0

        known : Known m n f counts kept h
        known = next.known h step_off_lower.1 step_off_apart

        base : Base m counts kept h
        base = known.base (passes.over refl)

        whole : h + 2 ^ one.input ≡ g
        whole = omega (arith, one.alone, step_off_lower)

        apart : Apart n h (2 ^ one.input)
        apart = subst⁻¹ (λ (k : ℕ). Apart n (g - k) (2 ^ one.input)) one.alone (off_apart n g one.input next.group one.below one.is)

        holds : (j : ℕ) → j < n → member j (2 ^ one.input) ≡ true → member j (get_or kept (h * m) 0) ≡ true
        holds j j< is =
            subst⁻¹ (λ (k : ℕ). member k (get_or kept (h * m) 0) ≡ true) (eqb-true j one.input (sym (member_single j one.input) ∙ is))
            (has_member n (get_or kept (h * m) 0) one.input one.below (λ e. passes.holds refl (ap (bit_and (get_or kept (h * m) 0)) one.alone ∙ e)))

        told : Told m n f g (get_or kept (h * m) 0) (m + 1)
        told =
            subst (λ (k : ℕ). Told m n f k (get_or kept (h * m) 0) (m + 1)) whole
            (told_on m n level f h (2 ^ one.input) (get_or kept (h * m) 0) (m + 1) (omega (arith, step_off_lower, next.group))
            (single_below one.input n one.below) apart holds (known.many (passes.over refl)))
