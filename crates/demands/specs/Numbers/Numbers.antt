-- Demand 1: ".. turned back with the one number and place that document 01 fixes, and so is every other call". Each call's equation
-- fixes the number. Here: what it means that a call gives only certain numbers, for all inputs and buffers, and how to prove it case by case.
-- Assumes nothing.
use Rattle.std.specs.Prelude.{◌^◌, ◌≡◌, ◌&&◌}
use Rattle.laws.specs.Prelude.{ℕ, ◌∙◌, sym, refl, subst, true, false, Bool, true≢false, List, eqb, leb, length}
use Rattle.rules.specs.Calls.Answers.{Answer, accepted, refused, onward}
use Rattle.rules.specs.Calls.OpenCells.{is_open_of, full, full_cells}
use Rattle.rules.specs.Limits.{size_fits}
use Rattle.rules.specs.Lists.{all, any}
use Rattle.rules.specs.Calls.BareCells.{bare_cells}
use Rattle.laws.specs.Lists.Distinct.{In, NotIn}
use Rattle.laws.specs.Calls.Answers.{not_refused}
use Rattle.laws.specs.Lists.Tests.{by_test}

-- every number with which it refuses is one of these
abbrev pub Gives : {A : Type 0} → List ℕ → Answer A → Type 0
Gives numbers a = (number place : ℕ) → a ≡ refused number place → In number numbers

-- a number that is not listed is not given
pub not_given_lem : {A : Type 0} (numbers : List ℕ) (a : Answer A) → Gives numbers a → (number place : ℕ) → NotIn number numbers → a ≡ refused number place → ⊥
not_given_lem numbers a gives number place h e = true≢false (sym (gives number place e) ∙ h)

pub accepts : {A : Type 0} (numbers : List ℕ) (a : A) → Gives numbers (accepted a)
accepts numbers a number place e = absurd (not_refused a number place e)

pub refuses : {A : Type 0} (numbers : List ℕ) (k at : ℕ) → In k numbers → Gives {A = A} numbers (refused k at)
refuses numbers k at h number place e = subst (λ (k : ℕ). In k numbers) (let z : k ≡ number = cc in z) h

-- what holds for an accepted input and for a refusal
pub by_answer : {A X : Type 0} (P : X → Type 0) (a : Answer A) (f : A → X) (g : ℕ → ℕ → X) → ((x : A) → a ≡ accepted x → P (f x))
    → ((number place : ℕ) → a ≡ refused number place → P (g number place)) → P (elim a [ accepted x ↦ f x | refused number place ↦ g number place ])
by_answer P (accepted x) f g h k = h x refl
by_answer P (refused number place) f g h k = k number place refl

-- what holds in each branch of a test, given the test's result
pub by_tested : {X : Type 0} (P : X → Type 0) (t : Bool) (a b : X) → (t ≡ true → P a) → (t ≡ false → P b) → P (elim t [ true ↦ a | false ↦ b ])
by_tested P true a b h k = h refl
by_tested P false a b h k = k refl

pub by_onward : {A B : Type 0} (numbers : List ℕ) (a : Answer A) (next : A → Answer B) → Gives numbers a → ((x : A) → Gives numbers (next x))
    → Gives numbers (onward a next)
unfolding onward
by_onward numbers (accepted x) next h k = k x
by_onward numbers (refused number place) next h k = refuses numbers number place (h number place refl)

-- 9 or 10, among any numbers that the rest of the call has
pub bare_numbers_lem : (m n : ℕ) (cells : List ℕ) (numbers : List ℕ) → In 9 numbers → In 10 numbers → Gives numbers (bare_cells m n cells)
unfolding bare_cells
bare_numbers_lem m n cells numbers nine ten =
    by_test (Gives numbers) (size_fits m n && eqb (length cells) (m ^ n)) _ _
    (by_test (Gives numbers) (all (λ c. leb c m) cells) _ _ (accepts numbers tt) (refuses numbers 10 _ ten))
    (refuses numbers 9 0 nine)

-- .. and 27 if the cells must be full
pub full_numbers_lem : (m : ℕ) (cells : List ℕ) (numbers : List ℕ) → In 27 numbers → Gives numbers (full m cells)
unfolding full
full_numbers_lem m cells numbers open27 = by_test (Gives numbers) (any (is_open_of m) cells) _ _ (refuses numbers 27 _ open27) (accepts numbers tt)

pub cells_numbers : (m n : ℕ) (cells : List ℕ) (numbers : List ℕ) → In 9 numbers → In 10 numbers → In 27 numbers → Gives numbers (full_cells m n cells)
unfolding full_cells
cells_numbers m n cells numbers nine ten open27 =
    by_onward numbers (bare_cells m n cells) (λ _. full m cells) (bare_numbers_lem m n cells numbers nine ten) (λ _. full_numbers_lem m cells numbers open27)
