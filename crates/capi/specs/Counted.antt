-- What the count of a table's trees answers as two numbers, and its two buffers.
-- Assumes nothing.
use Rattle.std.specs.Prelude.{◌≡◌}
use Rattle.laws.specs.Prelude.{ℕ, ◌∙◌, ap, List}
use Rattle.rules.specs.Calls.Answers.{Answer}
use Rattle.rules.specs.Calls.FamilyCalls.{Counted}
use Rattle.capi.specs.declared.numbers.flat.SitgurpAnswer.{SitgurpAnswer}
use Rattle.capi.specs.Numbers.Flat.{flat_of}

pub record FlatCounted (counted : Counted) (r : SitgurpAnswer) (cells marks : List ℕ) : Type 0 where
  pub answer : r ≡ flat_of counted.answer
  pub cells_then : cells ≡ counted.cells
  pub marks_then : marks ≡ counted.marks

pub flat_counted : {counted : Counted} {answer : Answer ℕ} {r : SitgurpAnswer} {cells marks : List ℕ}
    → record { answer = answer; cells = cells; marks = marks } ≡ counted
    → r ≡ flat_of answer → FlatCounted counted r cells marks
flat_counted did e =
    record {
      answer = e ∙ ap (λ (c : Counted). flat_of c.answer) did;
      cells_then = ap (λ (c : Counted). c.cells) did;
      marks_then = ap (λ (c : Counted). c.marks) did;
    }
