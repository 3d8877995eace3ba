-- `table_reader::fast::words::words_of` meets its contract.
-- Assumes nothing.
use Rattle.laws.specs.Prelude.{◌∙◌, ap, arith}
use Rattle.table_reader.specs.Fast.Words.{due_word, middle_near}
use Rattle.table_reader.proofs.fast.words.words_of.Goals as goal

pub due_four-middle-requires : goal.due_four-middle-requires
due_four-middle-requires c =
    omega (arith, c.middle_of.ensures, (middle_near c.args.front c.if-front-lt4.false c.requires.1).0, c.requires.0, c.if-front-lt4.false)

pub returns : goal.returns
returns c wide =
    record {
      first = c.due_four-first.ensures;
      middle = c.due_four-middle.ensures ∙ ap (due_word c.args.levels.now) c.middle_of.ensures;
      last = c.due_four-last.ensures;
    }
