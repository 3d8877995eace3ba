-- `fields::words::two_words_in` meets its contract: a word, then the other.
-- Assumes nothing.
use Rattle.std.proofs.lemmas.Result.{err_from_is_err_and}
use Rattle.fields.specs.Words.{two_words_in, word_back, word_on}
use Rattle.fields.proofs.words.two_words_in.Goals as goal

pub returns-in_err-next : goal.returns-in_err-next
unfolding two_words_in
returns-in_err-next c =
    let p = err_from_is_err_and c.from_residual.result c.from_residual.ensures.1 in
    rw (p.1, p.2) (word_back _ _ c.args.at _ _ _ c.word_field_in.ensures _ c.in_err-next.was)

pub returns : goal.returns
unfolding two_words_in
returns c = word_on _ _ c.args.at _ _ _ c.word_field_in.ensures _ c.word_field_in-2.result c.in_ok-next.was c.word_field_in-2.ensures
