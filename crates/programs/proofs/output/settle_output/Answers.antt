-- `programs::output::settle_output` meets its contract. Assumes nothing.
use Rattle.laws.specs.Prelude.{◌∙◌, ap, subst}
use Rattle.rules.specs.Limits.{most_inputs, most_cells, most_settled}
use Rattle.rules.specs.Groups.Marks.{marks_length}
use Rattle.rules.specs.Calls.Settling.{Made, settle_call}
use Rattle.rules.specs.Calls.Programs.{program_output, zeros, settle_program}
use Rattle.settling.specs.Answered.{plain_by_kind}
use Rattle.programs.specs.Prints.{Prints}
use Rattle.programs.proofs.output.settle_output.Goals as goal

pub returns : goal.returns
unfolding marks_length settle_program
returns c =
    let printed = c.output_of.result in
    subst (λ (made : Made). Prints printed.bytes printed.length (program_output made.answer made.output))
    (c.settle-answer.ensures ∙ ap (λ s. settle_call s (zeros most_cells) (zeros (marks_length most_inputs)) (zeros most_settled)) c.first_read.ensures)
    (rw plain_by_kind at c.output_of.ensures)
