-- `fields::header::first_lines::header_lines_in` meets its contract: line 1, then the rest.
-- Assumes nothing.
use Rattle.std.proofs.lemmas.Result.{err_from_is_err_and}
use Rattle.rules.specs.Text.{text}
use Rattle.fields.specs.Steps.{nothing}
use Rattle.fields.specs.Words.{two_words_in}
use Rattle.fields.specs.Header.FirstLines.{from_levels, rest_back, rest_on, from_first}
use Rattle.fields.proofs.header.first_lines.header_lines_in.Goals as goal

pub returns-in_err-words : goal.returns-in_err-words
unfolding text
returns-in_err-words c =
    let p = err_from_is_err_and c.from_residual.result c.from_residual.ensures.1 in
    rw (p.1, p.2)
    (from_first _ _ _ _ (rest_back nothing (two_words_in _ _ _) (λ _. from_levels _ _) _ 0 _ c.two_words_in.ensures _ c.in_err-words.was))

pub returns : goal.returns
unfolding text
returns c =
    from_first _ _ _ _
    (rest_on nothing (two_words_in _ _ _) (λ _. from_levels _ _) _ 0 _ c.two_words_in.ensures _ c.from_levels.result
    c.in_ok-words.was c.from_levels.ensures)
