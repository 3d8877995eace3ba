-- The loop of `agree` over plain numbers: the levels from input i on have been compared, and the rest of each number holds the levels before.
-- Assumes nothing.
use Rattle.std.specs.Prelude.{◌<◌, ◌≤◌, ◌+◌, ◌-◌, ◌^◌, ◌%◌, ◌/◌, ◌≡◌, ◌&&◌}
use Rattle.laws.specs.Prelude.{ℕ, suc, ◌∙◌, sym, ap, true, not, true≢false, and-eq-true_iff, pow-suc}
use Rattle.laws.specs.Prelude.{div-div-eq-div-mul, dec_lt, ℕ_discrete, arith, eq-eqb, pow-add}
use lib.Bits.{bit_and, and_le_l}
use Rattle.rules.specs.Sheets.Sheets.{level}
use Rattle.rules.specs.Groups.Groups.{member, whole_group, others}
use Rattle.trees.specs.Groups.Members.{member_single, single_below, member_others}
use Rattle.radix.specs.Parts.{member_and}
use Rattle.radix.specs.Widths.{most_members}
use Rattle.representatives.specs.Witnesses.{Fewer, Agreed}

-- all inputs except one
masked : (i j r : ℕ) → i < most_members → j < most_members → member j (bit_and r (65535 - 2 ^ i)) ≡ (member j r && not (member j (2 ^ i)))
unfolding others whole_group
masked i j r i< j< = member_and j r (65535 - 2 ^ i) ∙ ap (λ t. member j r && t) (member_others j most_members (2 ^ i) j< (single_below i most_members i<))

module _ (m n x y s : ℕ) where
  pub record Agrees (rest u v i : ℕ) : Type 0 where
    pub low : i ≤ n
    pub left : u ≡ x / m ^ (n - i)
    pub right : v ≡ y / m ^ (n - i)
    pub fewer : Fewer n s rest
    pub same : (j : ℕ) → i ≤ j → j < n → member j rest ≡ true → level m n x j ≡ level m n y j

-- one digit fewer
next_digit : (m n p u i : ℕ) → 0 < i → i ≤ n → u ≡ p / m ^ (n - i) → u / m ≡ p / m ^ (n - (i - 1))
next_digit m n p u i some low e =
    let one_more : n - (i - 1) ≡ suc (n - i) = omega arith in
    ap (λ (k : ℕ). k / m) e ∙ div-div-eq-div-mul p (m ^ (n - i)) m ∙ ap (λ (k : ℕ). p / k) (sym (pow-suc m (n - i)) ∙ ap (λ (k : ℕ). m ^ k) (sym one_more))

-- the last digit of the rest is a level
digit_level : (m n p u i : ℕ) → 0 < i → i ≤ n → u ≡ p / m ^ (n - i) → u % m ≡ level m n p (i - 1)
unfolding level
digit_level m n p u i some low e =
    let place : n - i ≡ n - 1 - (i - 1) = omega arith in
    ap (λ (k : ℕ). k % m) (e ∙ ap (λ (k : ℕ). p / m ^ k) place)

-- and the other levels are those of the rest
level_left : (m n p u i j : ℕ) → j < i → i ≤ n → u ≡ p / m ^ (n - i) → level m n p j ≡ u / m ^ (i - 1 - j) % m
unfolding level
level_left m n p u i j h low e =
    let place : n - 1 - j ≡ (n - i) + (i - 1 - j) = omega arith in
    ap (λ (k : ℕ). k % m)
    (ap (λ (k : ℕ). p / m ^ k) place
    ∙ ap (λ (k : ℕ). p / k) (pow-add m (n - i) (i - 1 - j))
    ∙ sym (div-div-eq-div-mul p (m ^ (n - i)) (m ^ (i - 1 - j)))
    ∙ ap (λ (k : ℕ). k / m ^ (i - 1 - j)) (sym e))

module _ {m n x y s rest u v i : ℕ} (so_far : Agrees m n x y s rest u v i) where
  -- the two rests are equal
  pub agrees_all : u ≡ v → Agreed m n x y s rest
  agrees_all e = record { fewer = so_far.fewer; same = λ j j< is. at j j< is (dec_lt j i) }
    where
      at : (j : ℕ) → j < n → member j rest ≡ true → Dec (j < i) → level m n x j ≡ level m n y j
      at j j< is (yes h) =
          level_left m n x u i j h so_far.low so_far.left
          ∙ ap (λ (k : ℕ). k / m ^ (i - 1 - j) % m) e
          ∙ sym (level_left m n y v i j h so_far.low so_far.right)
      at j j< is (no h) = so_far.same j (omega arith) j< is

  module _ (some : 0 < i) where
    -- the last remaining input has the same level, ..
    pub agrees_same : u % m ≡ v % m → Agrees m n x y s rest (u / m) (v / m) (i - 1)
    agrees_same e =
        record {
          low = omega (arith, so_far.low);
          left = next_digit m n x u i some so_far.low so_far.left;
          right = next_digit m n y v i some so_far.low so_far.right;
          fewer = so_far.fewer;
          same = λ j low high is. at j low high is (ℕ_discrete j (i - 1));
        }
      where
        at : (j : ℕ) → i - 1 ≤ j → j < n → member j rest ≡ true → Dec (j ≡ i - 1) → level m n x j ≡ level m n y j
        at j low high is (yes here) =
            ap (level m n x) here
            ∙ sym (digit_level m n x u i some so_far.low so_far.left)
            ∙ e
            ∙ digit_level m n y v i some so_far.low so_far.right
            ∙ sym (ap (level m n y) here)
        at j low high is (no other) = so_far.same j (omega arith) high is

    -- .. or is removed
    pub agrees_other : n ≤ most_members → {mask : ℕ} → mask ≡ 65535 - 2 ^ (i - 1) → Agrees m n x y s (bit_and rest mask) (u / m) (v / m) (i - 1)
    agrees_other inputs {mask} is_mask =
        record {
          low = omega (arith, so_far.low);
          left = next_digit m n x u i some so_far.low so_far.left;
          right = next_digit m n y v i some so_far.low so_far.right;
          fewer = record { low = omega (arith, and_le_l rest mask, so_far.fewer.low); inside = λ j j< is. so_far.fewer.inside j j< (both j j< is).0 };
          same = λ j low high is. at j low high (both j high is) (ℕ_discrete j (i - 1));
        }
      where
        both : (j : ℕ) → j < n → member j (bit_and rest mask) ≡ true → (member j rest ≡ true) × (not (member j (2 ^ (i - 1))) ≡ true)
        both j j< is =
            (and-eq-true_iff _ _).0
            (sym (masked (i - 1) j rest (omega (arith, so_far.low)) (omega arith)) ∙ ap (λ (k : ℕ). member j (bit_and rest k)) (sym is_mask) ∙ is)

        at : (j : ℕ) → i - 1 ≤ j → j < n → (member j rest ≡ true) × (not (member j (2 ^ (i - 1))) ≡ true) → Dec (j ≡ i - 1) → level m n x j ≡ level m n y j
        at j low high (is, out) (yes here) =
            absurd (true≢false (sym out ∙ ap not (member_single j (i - 1) ∙ eq-eqb j (i - 1) here)))
        at j low high (is, out) (no other) = so_far.same j (omega arith) high is
