-- The numbers with which the marking call may refuse.
-- Assumes nothing.
use Rattle.std.specs.Prelude.{◌∷◌}
use Rattle.laws.specs.Prelude.{ℕ, refl, List, [], ltb, length}
use Rattle.rules.specs.Calls.OpenCells.{full_cells}
use Rattle.rules.specs.Groups.Marks.{marks_length}
use Rattle.rules.specs.Lists.{any}
use Rattle.rules.specs.Calls.Marking.{Marked, marking_call}
use Rattle.demands.specs.Numbers.Numbers.{Gives, accepts, cells_numbers, by_answer, refuses}
use Rattle.laws.specs.Lists.Tests.{by_test}

abbrev pub marking_numbers : List ℕ
marking_numbers = 9 ∷ 10 ∷ 27 ∷ 14 ∷ []

pub marking_numbers_lem : (m n : ℕ) (cells marks : List ℕ) → Gives marking_numbers (marking_call m n cells marks).answer
unfolding marking_call any
marking_numbers_lem m n cells marks =
    by_answer (λ (made : Marked). Gives marking_numbers made.answer) (full_cells m n cells) _ _
    (λ _ _. by_test (λ (made : Marked). Gives marking_numbers made.answer) (ltb (length marks) (marks_length n)) _ _
    (refuses marking_numbers 14 _ refl) (accepts marking_numbers _))
    (λ number place e. refuses marking_numbers number place (cells_numbers m n cells marking_numbers refl refl refl number place e))
