-- `programs::output::output_of` meets its contract. Assumes nothing.
use Rattle.laws.specs.Prelude.{◌∙◌, sym, ap}
use Rattle.rules.specs.Limits.{most_read}
use Rattle.rules.specs.Calls.Answers.{refused}
use Rattle.settling.specs.Answered.{plain_by}
use Rattle.programs.specs.Prints.{front_room, sheet_prints, refusal_prints}
use Rattle.programs.proofs.output.output_of.Goals as goal

pub copy-length-requires : goal.copy-length-requires
copy-length-requires g c =
    front_room most_read c.args.out.now _ _ (ap (plain_by g.R.Numbered.number g.R.Numbered.place) c.in-Ok.is) _ c.front.ensures c.requires

pub returns-in-Ok : goal.returns-in-Ok
returns-in-Ok g c =
    sheet_prints most_read c.args.out.now _ _ (ap (plain_by g.R.Numbered.number g.R.Numbered.place) c.in-Ok.is) _ c.front.ensures _ _ c.requires
    c.copy-length.ensures

pub returns-in-Err : goal.returns-in-Err
returns-in-Err g c =
    let told = c.number_and_place-number.ensures in
    refusal_prints most_read c.args.out.now _ _ _
    (ap (plain_by g.R.Numbered.number g.R.Numbered.place) c.in-Err.is ∙ λ i. refused (sym told.number i) (sym told.place i))
    _ _ c.print_refusal-length.ensures
