-- Columns whose second half is the first half with a weight added to each: the second level of the first-listed input. The first half is such a list
-- again, unless it has one column.
-- Assumes nothing.
use Rattle.std.specs.Prelude.{◌<◌, ◌≤◌, ◌+◌, ◌/◌, ◌^◌, ◌≡◌}
use Rattle.laws.specs.Prelude.{ℕ, suc, zero, ◌∙◌, sym, ap, refl, subst, subst⁻¹, ap₂, true, false, Bool, List}
use Rattle.laws.specs.Prelude.{arith, length, get_or, take, get_or-take, length-take-le, take-take, take-length, zero-add}
use Rattle.rules.specs.Groups.Groups.{member, points}
use Rattle.rules.specs.Calls.Answers.{ink_in}
use Rattle.radix.specs.Offsets.{widened, widened_length, widened_front, widened_step, tail, tail_member, tail_other, tail_length, points_tail}
use Rattle.classes.specs.Fast.Folds.{Folds, Paired, front_at, two_folds}

-- the first `count` of ys are the columns of the inputs of a group, from one input on
pub record Nested (ys : List ℕ) (count : ℕ) : Type 0 where
  pub group : ℕ
  pub from : ℕ
  pub inputs : ℕ
  pub is : take count ys ≡ tail 2 group from inputs

pub points_nested : (m n g : ℕ) (ys : List ℕ) → ys ≡ points m n g → m ≡ 2 → Nested ys (length ys)
points_nested m n g ys e two =
    record { group = g; from = 0; inputs = n; is = take-length ys ∙ e ∙ ap (λ (m : ℕ). points m n g) two ∙ points_tail 2 n g }

tail_first : (g i k : ℕ) → get_or (tail 2 g i k) 0 0 ≡ 0
unfolding tail
tail_first g i zero = refl
tail_first g i (suc k) = go (member i g) refl (tail_first g (suc i) k)
  where
    go : (t : Bool) → member i g ≡ t → get_or (tail 2 g (suc i) k) 0 0 ≡ 0 → get_or (tail 2 g i (suc k)) 0 0 ≡ 0
    go true e h = rw (tail_member 2 g i k e) (front_at 2 (2 ^ k) (tail 2 g (suc i) k) 0 (omega arith) (tail_length 2 g (suc i) k (omega arith)).0 ∙ h)
    go false e h = rw (tail_other 2 g i k e) h

-- more than one column: both levels of an input, with each of the columns of later ones
record Split (g : ℕ) (ys : List ℕ) : Type 0 where
  w : ℕ
  i : ℕ
  k : ℕ
  is : ys ≡ widened 2 w (tail 2 g i k)

tail_split : (g i k : ℕ) → 1 < length (tail 2 g i k) → Split g (tail 2 g i k)
unfolding tail
tail_split g i zero h = absurd (omega arith)
tail_split g i (suc k) h = go (member i g) refl h (tail_split g (suc i) k)
  where
    go : (t : Bool) → member i g ≡ t → 1 < length (tail 2 g i (suc k)) → (1 < length (tail 2 g (suc i) k) → Split g (tail 2 g (suc i) k))
        → Split g (tail 2 g i (suc k))
    go true e long below = record { w = 2 ^ k; i = suc i; k = k; is = tail_member 2 g i k e }
    go false e long below = subst⁻¹ (Split g) (tail_other 2 g i k e) (below (subst (λ (l : List ℕ). 1 < length l) (tail_other 2 g i k e) long))

-- The first half, and the weight that the code reads in the middle.
module _ (ys : List ℕ) (h : ℕ) (room : h ≤ length ys) (long : 1 < h) (nested : Nested ys h) where
  split : Split nested.group (take h ys)
  split = subst⁻¹ (Split nested.group) nested.is
      (tail_split nested.group nested.from nested.inputs (omega (arith, ap length nested.is, length-take-le h ys room)))

  abbrev zs : List ℕ
  zs = tail 2 nested.group split.i split.k

  middle : h / 2 ≡ length zs
  middle = omega (arith, widened_length 2 split.w zs, ap length split.is, length-take-le h ys room)

  half : take (h / 2) ys ≡ zs
  half = sym (take-take (h / 2) h ys (omega arith)) ∙ ap (take (h / 2)) split.is
      ∙ ap (λ (k : ℕ). take k (widened 2 split.w zs)) middle ∙ widened_front 2 split.w zs (omega arith)

  weight : get_or ys (h / 2) 0 ≡ split.w
  weight =
      let some : 0 < length zs = (tail_length 2 nested.group split.i split.k (omega arith)).0 in
      let at : h / 2 ≡ length zs + 0 = omega (arith, middle) in
      sym (get_or-take h ys (h / 2) 0 (omega arith)) ∙ ap (λ (l : List ℕ). get_or l (h / 2) 0) split.is
      ∙ ap (λ (k : ℕ). get_or (widened 2 split.w zs) k 0) at
      ∙ widened_step 2 split.w zs 0 (omega arith)
      ∙ ap (λ (k : ℕ). k + split.w) (front_at 2 split.w zs 0 (omega arith) some ∙ tail_first nested.group split.i split.k)
      ∙ zero-add split.w

  pub half_nested : Nested ys (h / 2)
  half_nested = record { group = nested.group; from = split.i; inputs = split.k; is = half }

  -- the pairs of inks at that weight are a fold
  pub half_folds : {f : ℕ → ℕ} {len b r : ℕ} {to : List ℕ} → ((k : ℕ) → k < len → f k < b) → Paired f len (get_or ys (h / 2) 0) b r to
      → Folds f len (take h ys) (ink_in to) r (take (h / 2) ys)
  half_folds {f} {len} {r} {to} small paired =
      subst⁻¹ (λ (l : List ℕ). Folds f len l (ink_in to) r (take (h / 2) ys)) (split.is ∙ ap₂ (λ (w : ℕ) (l : List ℕ). widened 2 w l) (sym weight) (sym half))
      (two_folds small paired (take (h / 2) ys))
