-- The numbers with which tidying may refuse.
-- Assumes nothing.
use Rattle.std.specs.Prelude.{◌^◌, ◌∷◌}
use Rattle.laws.specs.Prelude.{ℕ, refl, List, [], ltb, length}
use Rattle.rules.specs.Lists.{all, any}
use Rattle.rules.specs.Sheets.Printed.{printed_table}
use Rattle.rules.specs.Sheets.Sheets.{Table}
use Rattle.rules.specs.Sheets.LooseSheet.{read_loose, table_of_loose}
use Rattle.rules.specs.Calls.Tidying.{Tidied, tidy_call, tidied_into, tidied_sheet}
use Rattle.readback.specs.Readers.Numbers.{loose_numbers, loose_refusal}
use Rattle.demands.specs.Numbers.Numbers.{Gives, accepts, by_answer, refuses}
use Rattle.laws.specs.Lists.Tests.{by_test}
use Rattle.laws.specs.Lists.Distinct.{wider}

abbrev pub tidy_numbers : List ℕ
tidy_numbers = 1 ∷ 2 ∷ 3 ∷ 4 ∷ 5 ∷ 6 ∷ 20 ∷ 13 ∷ 15 ∷ []

into_numbers : (t : Table) (cells output : List ℕ) → Gives tidy_numbers (tidied_into t cells output).answer
unfolding tidied_into tidied_sheet any all
into_numbers t cells output =
    by_test (λ (made : Tidied). Gives tidy_numbers made.answer) (ltb (length cells) (t.header.levels ^ t.header.inputs)) _ _
    (refuses tidy_numbers 13 _ refl)
    (by_test (λ (made : Tidied). Gives tidy_numbers made.answer) (ltb (length output) (length (printed_table t))) _ _
    (refuses tidy_numbers 15 _ refl) (accepts tidy_numbers _))

pub tidy_numbers_lem : (s cells output : List ℕ) → Gives tidy_numbers (tidy_call s cells output).answer
unfolding tidy_call any all
tidy_numbers_lem s cells output =
    by_answer (λ (made : Tidied). Gives tidy_numbers made.answer) (read_loose s) _ _
    (λ t _. into_numbers (table_of_loose t) cells output)
    (λ number place e. refuses tidy_numbers number place (wider loose_numbers tidy_numbers refl number (loose_refusal s number place e)))
