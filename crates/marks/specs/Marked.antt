-- What the marking call's answer and buffer represent, and its outcomes.
-- Assumes nothing.
use Rattle.std.specs.Prelude.{◌<◌, ◌≤◌, ◌≡◌, Result}
use Rattle.laws.specs.Prelude.{ℕ, true, false, List, ltb, length, lt-ltb, le-ltb}
use Rattle.rules.specs.Groups.Groups.{whole_group}
use Rattle.rules.specs.Groups.Marks.{mark_in, marks_of, marks_length, stored_marks}
use Rattle.rules.specs.Calls.Marking.{Marked, marking_call}
use Rattle.rules.specs.Calls.Answers.{accepted, refused, ink_in, written}
use Rattle.rules.specs.Calls.OpenCells.{full_cells}
use Rattle.answers.specs.declared.refusal.Refusal.{Refusal}
use Rattle.answers.specs.AnswerMaps.{answer_of}
use Rattle.marks.specs.Marking.{Stored}

abbrev pub marked_of : Result ℕ Refusal → List ℕ → Marked
marked_of r marks = record { answer = answer_of r; marks = marks }

-- the marking call once the bare cells are accepted and full
unfoldable pub marked_into : ℕ → ℕ → List ℕ → List ℕ → Marked
marked_into m n cells buffer =
    elim (ltb (length buffer) (marks_length n)) [
      | true ↦ record { answer = refused 14 (marks_length n); marks = buffer }
      | false ↦
          let marks = marks_of m n (ink_in cells) in
          record { answer = accepted (mark_in marks (whole_group n)); marks = written buffer (stored_marks marks) }
    ]

module _ (m n : ℕ) (cells buffer : List ℕ) where
  pub marking_refused : (number place : ℕ) → refused number place ≡ full_cells m n cells
      → record { answer = refused number place; marks = buffer } ≡ marking_call m n cells buffer
  unfolding marking_call
  marking_refused number place e = rw (← e, marking_call)

  pub marking_judged : accepted tt ≡ full_cells m n cells → marked_into m n cells buffer ≡ marking_call m n cells buffer
  unfolding marking_call marked_into
  marking_judged e = rw (← e, marking_call)

  module _ (need : ℕ) (is_need : need ≡ marks_length n) where
    pub marks_short : length buffer < need → record { answer = refused 14 need; marks = buffer } ≡ marked_into m n cells buffer
    unfolding marked_into
    marks_short h =
        rw (← is_need, lt-ltb (length buffer) need h, marked_into) (λ i. record { answer = refused 14 (is_need i); marks = buffer })

    pub marks_written : need ≤ length buffer → (mark : ℕ) (after : List ℕ) → Stored m n (ink_in cells) buffer mark after
        → record { answer = accepted mark; marks = after } ≡ marked_into m n cells buffer
    unfolding marked_into
    marks_written h mark after did =
        rw (← is_need, le-ltb (length buffer) need h, marked_into)
        (λ i. record { answer = accepted (did.answer i); marks = did.buffer i })
