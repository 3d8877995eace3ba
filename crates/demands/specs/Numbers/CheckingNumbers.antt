-- The numbers with which checking may refuse.
-- Assumes nothing.
use Rattle.std.specs.Prelude.{◌≡◌, ◌&&◌, ◌∷◌}
use Rattle.laws.specs.Prelude.{ℕ, refl, subst₂, not, List, [], arith, eqb, ltb, length, get_or}
use Rattle.rules.specs.Calls.Answers.{Named, net_named, table_named, neither}
use Rattle.rules.specs.Calls.Checking.{Verdict, turned_down, same_header, compared, Checked, checked_into, check_call}
use Rattle.rules.specs.Calls.OpenCells.{is_open_of}
use Rattle.rules.specs.Lists.{range, any, first_place}
use Rattle.rules.specs.Sheets.Reading.{read_net, read_table}
use Rattle.laws.specs.Lists.Distinct.{In}
use Rattle.readback.specs.Readers.Numbers.{net_numbers, table_numbers, net_refusal, table_refusal}
use Rattle.demands.specs.Numbers.Numbers.{by_answer}
use Rattle.laws.specs.Lists.Tests.{by_test}

-- checking: "A call that refuses either of two sheets .. names the sheet it refuses; 12 names neither", nor does 13
abbrev pub check_numbers : Named → List ℕ
check_numbers net_named = net_numbers
check_numbers table_named = table_numbers
check_numbers neither = 12 ∷ 13 ∷ []

-- every number with which checking refuses is one of those of the sheet that it names
abbrev pub TurnsDown : Verdict → Type 0
TurnsDown verdict = (named : Named) (number place : ℕ) → verdict ≡ turned_down named number place → In number (check_numbers named)

abbrev CheckedTurns : Checked → Type 0
CheckedTurns made = TurnsDown made.answer

turns : (named : Named) (k at : ℕ) → In k (check_numbers named) → TurnsDown (turned_down named k at)
turns named k at h named' number place e =
    subst₂ (λ (w : Named) (j : ℕ). In j (check_numbers w)) (let z : named ≡ named' = cc in z) (let z : k ≡ number = cc in z) h

compared_fine : (m : ℕ) (xs ys : List ℕ) → TurnsDown (compared m xs ys)
unfolding compared
compared_fine m xs ys =
    by_test TurnsDown (ltb (first_place (λ p. not (is_open_of m (get_or ys p 0)) && not (eqb (get_or xs p 0) (get_or ys p 0))) (range 0 (length xs))) (length xs)) _ _
    (λ named number place e. absurd (let z : ◌≡◌ {A = ℕ} 0 1 = cc in omega arith))
    (λ named number place e. absurd (let z : ◌≡◌ {A = ℕ} 0 1 = cc in omega arith))

pub check_numbers_lem : (s r cells : List ℕ) → TurnsDown (check_call s r cells).answer
unfolding check_call checked_into any
check_numbers_lem s r cells =
    by_answer CheckedTurns (read_net s) _ _
    (λ net _. by_answer CheckedTurns (read_table r) _ _
    (λ t _. by_test CheckedTurns (same_header net.header t.header) _ _
    (by_test CheckedTurns (ltb (length cells) (length t.inks)) _ _ (turns neither 13 _ refl) (compared_fine _ _ t.inks))
    (turns neither 12 0 refl))
    (λ number place e. turns table_named number place (table_refusal r number place e)))
    (λ number place e. turns net_named number place (net_refusal s number place e))
