-- References: what a field of a gate line refers to. Different references are written differently.
-- Assumes nothing.
use Rattle.std.specs.Prelude.{◌<◌, ◌≤◌, ◌+◌, ◌-◌, ◌≡◌, ◌∷◌}
use Rattle.laws.specs.Prelude.{ℕ, ◌∙◌, sym, ap, refl, true, false, Bool, not, false≢true, List, [], arith, eqb, ltb, length}
use Rattle.laws.specs.Prelude.{get_or, not-true, ltb-true, ltb-false, test_cases}
use Rattle.rules.specs.Lists.{any, all}
use Rattle.rules.specs.Sheets.Fields.{good}
use Rattle.rules.specs.Sheets.SheetRules.{GoodNames}
use Rattle.rules.specs.Sheets.Sheets.{is_name, letter_first, reference_text, reference_of, reference_field}
use Rattle.rules.specs.Text.{decimal, is_digit}
use Rattle.laws.specs.Lists.Tests.{all_iff}
use Rattle.readback.specs.Readers.Fields.{is_word, Judges}
use Rattle.laws.specs.Numbers.Digits.{digit_iff, decimal_digits}
use Rattle.readback.specs.Readers.Decimals.{decimal_word, decimal_injective}
use Rattle.readback.specs.Readers.Judges.{name_parts, name_word, letter_high, verdict, looking, looking_passes, looking_only}
use Rattle.readback.specs.Readers.Names.{good_name, good_different}

-- a reference is to an input, by its name, or to a gate, by its number
pub data Refers (names : List (List ℕ)) (r : ℕ) : Type 0 where
  to_input : r < length names → reference_text names r ≡ get_or names r [] → Refers names r
  to_gate : length names ≤ r → reference_text names r ≡ decimal (r + 1 - length names) → Refers names r

-- which of the two it is
pub refers : (names : List (List ℕ)) (r : ℕ) → Refers names r
unfolding reference_text
refers names r = test_cases (ltb r (length names))
    (λ e. to_input (ltb-true r (length names) e) (rw (e, reference_text)))
    (λ e. to_gate (ltb-false r (length names) e) (rw (e, reference_text)))

-- digits do not start with a letter
not_letter : (w : List ℕ) → all (is_digit 10) w ≡ true → letter_first w ≡ true → ⊥
unfolding letter_first
not_letter [] d e = false≢true e
not_letter (b ∷ w) d e =
    let (i, j) = (digit_iff 10 b).0 ((all_iff (is_digit 10) b w).0 d).0 in
    let h = letter_high b e in
    omega arith

-- a name is no number
name_not_decimal : (w : List ℕ) (n : ℕ) → is_name w ≡ true → w ≡ decimal n → ⊥
name_not_decimal w n h e = not_letter (decimal n) (decimal_digits n).0 (ap letter_first (sym e) ∙ (name_parts w h).1)

module _ (names : List (List ℕ)) (good_names : GoodNames names) where
  -- a reference is a word
  pub reference_word : (r : ℕ) → is_word (reference_text names r) ≡ true
  reference_word r = elim (refers names r) [
    | to_input h e ↦ rw e (name_word (get_or names r []) (good_name names good_names r h))
    | to_gate h e ↦ rw e (decimal_word (r + 1 - length names))
  ]

  -- the same for the name of an input
  input_not_gate : (q r : ℕ) → q < length names → get_or names q [] ≡ decimal (r + 1 - length names) → ⊥
  input_not_gate q r h e = name_not_decimal (get_or names q []) (r + 1 - length names) (good_name names good_names q h) e

  -- different references are written differently
  reference_injective : (q r : ℕ) → reference_text names q ≡ reference_text names r → q ≡ r
  reference_injective q r e = go (refers names q) (refers names r)
    where
      go : Refers names q → Refers names r → q ≡ r
      go (to_input h i) (to_input k j) = good_different names good_names q r h k (sym i ∙ e ∙ j)
      go (to_input h i) (to_gate k j) = absurd (input_not_gate q r h (sym i ∙ e ∙ j))
      go (to_gate h i) (to_input k j) = absurd (input_not_gate r q k (sym j ∙ sym e ∙ i))
      go (to_gate h i) (to_gate k j) =
          let d : q + 1 - length names ≡ r + 1 - length names = decimal_injective _ _ (sym i ∙ e ∙ j) in
          omega arith

  -- a reference to an input or to an earlier gate that is not used yet
  abbrev Reference : ℕ → List ℕ → Type 0
  Reference earlier used = (r : ℕ) × (r < length names + earlier) × (any (eqb r) used ≡ false)

  -- a reference field: the prints of those references
  pub judges_reference : (earlier : ℕ) (used : List ℕ)
      → Judges (reference_field names earlier used) (Reference earlier used) (λ x. x.0) (λ x. reference_text names x.0)
  unfolding reference_field reference_of looking verdict
  judges_reference earlier used = record { passes = λ x. passes x.0 x.1 x.2; word = λ x. reference_word x.0; only = only }
    where
      fresh : ℕ → Bool
      fresh r = not (any (eqb r) used)

      passes : (r : ℕ) → r < length names + earlier → any (eqb r) used ≡ false → reference_field names earlier used (reference_text names r) ≡ good r
      passes r h e = looking_passes (reference_text names) 0 (length names + earlier) fresh 7 8 reference_injective
          r (omega arith) (omega arith) (ap not e)

      only : (w : List ℕ) (r : ℕ) → reference_field names earlier used w ≡ good r
          → (x : Reference earlier used) × (r ≡ x.0) × (w ≡ reference_text names x.0)
      only w r e =
          let (_, h, t, q) = looking_only (reference_text names) 0 (length names + earlier) fresh 7 8 w r e in
          ((r, omega arith, not-true (any (eqb r) used) t), refl, q)
