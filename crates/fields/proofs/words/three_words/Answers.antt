-- `fields::words::three_words` meets its contract: a word, then the other two.
-- Assumes nothing.
use Rattle.std.proofs.lemmas.Result.{err_from_is_err_and}
use Rattle.rules.specs.Sheets.Fields.{strict}
use Rattle.fields.specs.Words.{two_words_in, three_words, word_back, word_on}
use Rattle.fields.proofs.words.three_words.Goals as goal

pub returns-in_err-next : goal.returns-in_err-next
unfolding three_words
returns-in_err-next c =
    let p = err_from_is_err_and c.from_residual.result c.from_residual.ensures.1 in
    rw (p.1, p.2) (word_back strict _ c.args.at _ (two_words_in strict _ _) _ c.word_field.ensures _ c.in_err-next.was)

pub returns : goal.returns
unfolding three_words
returns c =
    word_on strict _ c.args.at _ (two_words_in strict _ _) _ c.word_field.ensures _ c.two_words_in.result
    c.in_ok-next.was c.two_words_in.ensures
