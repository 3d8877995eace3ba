-- What settling or making answers as two numbers, and its three buffers.
-- Assumes nothing.
use Rattle.std.specs.Prelude.{◌≡◌}
use Rattle.laws.specs.Prelude.{ℕ, ◌∙◌, ap, List}
use Rattle.rules.specs.Calls.Answers.{Answer}
use Rattle.rules.specs.Calls.Settling.{Made}
use Rattle.capi.specs.declared.numbers.flat.SitgurpAnswer.{SitgurpAnswer}
use Rattle.capi.specs.Numbers.Flat.{flat_of}

-- what settling or making answers, and its three buffers
pub record FlatMade (made : Made) (r : SitgurpAnswer) (cells marks output : List ℕ) : Type 0 where
  pub answer : r ≡ flat_of made.answer
  pub cells_then : cells ≡ made.cells
  pub marks_then : marks ≡ made.marks
  pub output_then : output ≡ made.output

pub flat_made : {made : Made} {answer : Answer ℕ} {r : SitgurpAnswer} {cells marks output : List ℕ}
    → record { answer = answer; cells = cells; marks = marks; output = output } ≡ made
    → r ≡ flat_of answer → FlatMade made r cells marks output
flat_made did e =
    record {
      answer = e ∙ ap (λ (m : Made). flat_of m.answer) did;
      cells_then = ap (λ (m : Made). m.cells) did;
      marks_then = ap (λ (m : Made). m.marks) did;
      output_then = ap (λ (m : Made). m.output) did;
    }
