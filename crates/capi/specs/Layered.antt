-- What settling or making of the shallow net answers as three numbers, and its three buffers.
-- Assumes nothing.
use Rattle.std.specs.Prelude.{◌≡◌}
use Rattle.laws.specs.Prelude.{ℕ, ◌∙◌, ap, List}
use Rattle.rules.specs.Calls.Answers.{Answer}
use Rattle.rules.specs.Calls.ShallowSettling.{Layered, LayeredMade}
use Rattle.capi.specs.declared.numbers.layered.SitgurpShallow.{SitgurpShallow}
use Rattle.capi.specs.Numbers.Layered.{flat_layered}

-- what the call answers, and its three buffers
pub record FlatLayered (made : LayeredMade) (r : SitgurpShallow) (cells marks output : List ℕ) : Type 0 where
  pub answer : r ≡ flat_layered made.answer
  pub cells_then : cells ≡ made.cells
  pub marks_then : marks ≡ made.marks
  pub output_then : output ≡ made.output

pub flat_layered_lem : {made : LayeredMade} {answer : Answer Layered} {r : SitgurpShallow} {cells marks output : List ℕ}
    → record { answer = answer; cells = cells; marks = marks; output = output } ≡ made
    → r ≡ flat_layered answer → FlatLayered made r cells marks output
flat_layered_lem did e =
    record {
      answer = e ∙ ap (λ (m : LayeredMade). flat_layered m.answer) did;
      cells_then = ap (λ (m : LayeredMade). m.cells) did;
      marks_then = ap (λ (m : LayeredMade). m.marks) did;
      output_then = ap (λ (m : LayeredMade). m.output) did;
    }
