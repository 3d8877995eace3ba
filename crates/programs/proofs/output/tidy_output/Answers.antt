-- `programs::output::tidy_output` meets its contract. Assumes nothing.
use Rattle.laws.specs.Prelude.{◌∙◌, ap, subst}
use Rattle.rules.specs.Limits.{most_cells, most_read}
use Rattle.rules.specs.Calls.Programs.{program_output, zeros}
use Rattle.rules.specs.Calls.Tidying.{Tidied, tidy_call, tidy_program}
use Rattle.settling.specs.Answered.{plain_by_kind}
use Rattle.programs.specs.Prints.{Prints}
use Rattle.programs.proofs.output.tidy_output.Goals as goal

pub returns : goal.returns
unfolding tidy_program
returns c =
    let printed = c.output_of.result in
    subst (λ (tidied : Tidied). Prints printed.bytes printed.length (program_output tidied.answer tidied.output))
    (c.tidy-answer.ensures ∙ ap (λ s. tidy_call s (zeros most_cells) (zeros most_read)) c.first_read.ensures)
    (rw plain_by_kind at c.output_of.ensures)
