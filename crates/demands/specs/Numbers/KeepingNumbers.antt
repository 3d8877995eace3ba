-- The numbers with which keeping a wiring may refuse, by the sheet that it names.
-- Assumes nothing.
use Rattle.std.specs.Prelude.{◌≡◌, ◌∷◌}
use Rattle.laws.specs.Prelude.{ℕ, refl, subst₂, List, [], arith, ltb, length}
use Rattle.rules.specs.Calls.Answers.{Named, net_named, table_named, neither}
use Rattle.rules.specs.Calls.Checking.{same_header}
use Rattle.rules.specs.Calls.Keeping.{Keeping, rewritten, turned_away, KeptWiring, kept_net, roomy_before, leaves_out, kept_into, keep_call}
use Rattle.rules.specs.Calls.OpenCells.{full_table}
use Rattle.rules.specs.Lists.{all, any}
use Rattle.rules.specs.Sheets.Printed.{printed_net}
use Rattle.rules.specs.Sheets.Reading.{read_net, read_table}
use Rattle.laws.specs.Lists.Distinct.{In, wider}
use Rattle.laws.specs.Lists.Tests.{by_test}
use Rattle.readback.specs.Readers.Numbers.{net_numbers, table_numbers, net_refusal, table_refusal}
use Rattle.demands.specs.Sheets.FullSheets.{full_numbers}
use Rattle.demands.specs.Numbers.Numbers.{by_answer, full_numbers_lem}

-- "names the sheet it refuses; 12 names neither" (document 01), nor do 13 and 15; 23 "names neither sheet"; 27 names the table sheet
abbrev pub keep_numbers : Named → List ℕ
keep_numbers net_named = net_numbers
keep_numbers table_named = full_numbers
keep_numbers neither = 12 ∷ 13 ∷ 23 ∷ 15 ∷ []

-- every number with which keeping refuses is one of those of the sheet that it names
abbrev pub TurnsAway : Keeping → Type 0
TurnsAway answer = (named : Named) (number place : ℕ) → answer ≡ turned_away named number place → In number (keep_numbers named)

abbrev KeptTurns : KeptWiring → Type 0
KeptTurns made = TurnsAway made.answer

turns : (named : Named) (k at : ℕ) → In k (keep_numbers named) → TurnsAway (turned_away named k at)
turns named k at h named' number place e =
    subst₂ (λ (w : Named) (j : ℕ). In j (keep_numbers w)) (let z : named ≡ named' = cc in z) (let z : k ≡ number = cc in z) h

fine : (count changed : ℕ) → TurnsAway (rewritten count changed)
fine count changed named number place e = absurd (let z : ◌≡◌ {A = ℕ} 0 1 = cc in omega arith)

pub keep_numbers_lem : (s r cells output : List ℕ) → TurnsAway (keep_call s r cells output).answer
unfolding keep_call kept_into full_table any all
keep_numbers_lem s r cells output =
    by_answer KeptTurns (read_net s) _ _
    (λ net _. by_answer KeptTurns (read_table r) _ _
    (λ t _. by_test KeptTurns (same_header net.header t.header) _ _
    (by_answer KeptTurns (full_table t) _ _ (λ _ _. by_test KeptTurns (ltb (length cells) (length t.inks)) _ _ (turns neither 13 _ refl)
    (by_test KeptTurns (leaves_out net t) _ _ (turns neither 23 0 refl)
    (by_test KeptTurns (ltb (roomy_before net t) (length net.gates)) _ _ (turns neither 23 _ refl)
    (by_test KeptTurns (ltb (length output) (length (printed_net (kept_net net t)))) _ _ (turns neither 15 _ refl) (fine _ _)))))
    (λ number place e. turns table_named number place (full_numbers_lem t.header.levels t.inks full_numbers refl number place e)))
    (turns neither 12 0 refl))
    (λ number place e. turns table_named number place (wider table_numbers full_numbers refl number (table_refusal r number place e))))
    (λ number place e. turns net_named number place (net_refusal s number place e))
