-- A member of a group, as a group by itself, and whether too many classes pass on to the larger group.
-- Assumes nothing.
use Rattle.std.specs.Prelude.{◌<◌, ◌≤◌, ◌-◌, ◌^◌, ◌*◌, ◌≡◌, ◌≢◌, ◌&&◌}
use Rattle.laws.specs.Prelude.{ℕ, ◌∙◌, sym, ap, refl, true, false, Bool, and-false, List, arith, eqb, get_or}
use Rattle.laws.specs.Prelude.{eqb-true, pow_pos}
use Rattle.std.specs.Int.Bits.{bit_and}
use Rattle.std.proofs.lemmas.Nat.{and_le_r}
use Rattle.rules.specs.Groups.Groups.{member}
use Rattle.rules.specs.Groups.Marks.{inside}
use Rattle.rules.specs.Nets.Wirings.{first_input}
use Rattle.trees.specs.Groups.Members.{member_zero, member_single, member_ext, single_below, inside_member, first_member}
use Rattle.radix.specs.Parts.{member_and}

-- too many classes of h pass on
pub record PassesOn (m : ℕ) (counts kept : List ℕ) (h bit : ℕ) (r : Bool) : Type 0 where
  pub over : r ≡ true → get_or counts h 0 ≡ 0
  pub holds : r ≡ true → bit_and (get_or kept (h * m) 0) bit ≢ 0

-- r is a member of g, as a group
pub record OneOf (n g r : ℕ) : Type 0 where
  pub input : ℕ
  pub below : input < n
  pub is : member input g ≡ true
  pub alone : r ≡ 2 ^ input

-- a bit in common is a member
pub has_member : (n s i : ℕ) → i < n → bit_and s (2 ^ i) ≢ 0 → member i s ≡ true
has_member n s i i< some = go (member i s) refl
  where
    go : (t : Bool) → member i s ≡ t → member i s ≡ true
    go true e = e
    go false e = absurd (some (member_ext n (bit_and s (2 ^ i)) 0 (omega (arith, and_le_r s (2 ^ i), single_below i n i<)) (pow_pos n) none))
      where
        none : (j : ℕ) → j < n → member j (bit_and s (2 ^ i)) ≡ member j 0
        none j j< = member_and j s (2 ^ i) ∙ ap (λ t. member j s && t) (member_single j i) ∙ at (eqb j i) refl ∙ sym (member_zero j)
          where
            at : (t : Bool) → eqb j i ≡ t → (member j s && t) ≡ false
            at true same = ap (λ t. t && true) (ap (λ (k : ℕ). member k s) (eqb-true j i same) ∙ e)
            at false other = and-false (member j s)

-- the first-listed member of a part
pub first_one : (n g rest without : ℕ) → g < 2 ^ n → rest < 2 ^ n → 0 < rest → inside n rest g ≡ true → without ≡ rest - 2 ^ first_input n rest
    → 2 ^ first_input n rest ≤ rest → OneOf n g (rest - without)
first_one n g rest without g< rest< some part is low =
    let first = first_member n rest rest< some in
    record { input = first_input n rest; below = first.0; is = inside_member (first_input n rest) n rest g part first.0 first.1; alone = omega arith }
