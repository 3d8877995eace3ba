-- Document 01, section 'Marks': the marking call. Its answer, and what its buffer holds afterwards.
-- Assumes nothing.
use Rattle.std.specs.Prelude.{ℕ, true, false, List, length, ltb}
use Rattle.rules.specs.Groups.Groups.{whole_group}
use Rattle.rules.specs.Groups.Marks.{mark_in, marks_of, marks_length, stored_marks}
use Rattle.rules.specs.Calls.Answers.{Answer, accepted, ink_in, refused, written}
use Rattle.rules.specs.Calls.OpenCells.{full_cells}

-- what marking returns, and what its buffer holds afterwards
pub record Marked : Type 0 where
  pub answer : Answer ℕ
  pub marks : List ℕ

-- "Marking takes bare cells, writes the marks buffer and answers the whole group's mark." 14: marks buffer short; "the place
-- of 13 to 15 is the length needed"
unfoldable pub marking_call : ℕ → ℕ → List ℕ → List ℕ → Marked
marking_call m n cells buffer =
    elim (full_cells m n cells) [
      | refused number place ↦ record { answer = refused number place; marks = buffer }
      | accepted _ ↦ elim (ltb (length buffer) (marks_length n)) [
        | true ↦ record { answer = refused 14 (marks_length n); marks = buffer }
        | false ↦
            let marks = marks_of m n (ink_in cells) in
            record { answer = accepted (mark_in marks (whole_group n)); marks = written buffer (stored_marks marks) }
      ]
    ]

-- all of this file computes
unfoldable pub computing : Unit {0}
unfolding marking_call
computing = tt
