-- A list at the front of another, as a call of `offsets` leaves it; and the number of the other inputs' group.
-- Assumes nothing.
use Rattle.std.specs.Prelude.{◌≤◌, ◌-◌, ◌^◌, ◌≡◌}
use Rattle.laws.specs.Prelude.{ℕ, ◌∙◌, ap, List, sub-zero, arith, length, take, length-take}
use Rattle.rules.specs.Groups.Groups.{whole_group, others}

-- xs is the first r elements of out
pub record Front (xs : List ℕ) (r : ℕ) (out : List ℕ) : Type 0 where
  pub count : r ≡ length xs
  pub is : take r out ≡ xs

-- it is not longer than out
pub fits_in : {xs : List ℕ} {r : ℕ} {out : List ℕ} → Front xs r out → r ≤ length out
fits_in {xs} {r} {out} at = omega (arith, length-take r out, ap length at.is, at.count)

-- as a part from 0 on
pub front_from_0 : (r : ℕ) (out xs : List ℕ) → take r out ≡ xs → take (r - 0) out ≡ xs
front_from_0 r out xs e = ap (λ (k : ℕ). take k out) (sub-zero r) ∙ e

pub part_is : {xs : List ℕ} {r : ℕ} {out : List ℕ} → Front xs r out → take (r - 0) out ≡ xs
part_is {xs} {r} {out} at = front_from_0 r out xs at.is

pub rest_others : (n g all : ℕ) → all ≡ 2 ^ n → all - 1 - g ≡ others n g
unfolding others whole_group
rest_others n g all e = ap (λ (k : ℕ). k - 1 - g) e
