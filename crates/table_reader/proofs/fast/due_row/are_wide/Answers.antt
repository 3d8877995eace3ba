-- `table_reader::fast::due_row::are_wide` meets its contract: every level is in one of the three words.
-- Assumes nothing.
use Rattle.std.specs.Prelude.{◌≤◌, ◌+◌, ◌-◌, ◌*◌, ◌≡◌}
use Rattle.laws.specs.Prelude.{◌∙◌, sym, ap, arith, eqb-true}
use Rattle.table_reader.specs.Fast.Words.{word_at, middle_near}
use Rattle.table_reader.specs.Fast.Stand.{wide_stand}
use Rattle.table_reader.proofs.fast.due_row.are_wide.Goals as goal

pub overflow_mul-place : goal.overflow_mul-place
overflow_mul-place c =
    let before_end : c.middle_of-place.result ≤ c.args.front - 4 =
    omega (arith, c.middle_of-place.ensures, (middle_near c.args.front c.requires.0 c.requires.4).0) in
    omega (arith, before_end, c.requires.4)

pub overflow_add-at : goal.overflow_add-at
overflow_add-at c =
    let before_end : c.middle_of-place.result ≤ c.args.front - 4 =
    omega (arith, c.middle_of-place.ensures, (middle_near c.args.front c.requires.0 c.requires.4).0) in
    omega (arith, before_end, c.requires.0, c.requires.3)

pub eight_bytes-requires-2 : goal.eight_bytes-requires-2
eight_bytes-requires-2 c =
    let before_end : c.middle_of-place.result ≤ c.args.front - 4 =
    omega (arith, c.middle_of-place.ensures, (middle_near c.args.front c.requires.0 c.requires.4).0) in
    omega (arith, before_end, c.requires.0, c.requires.3)

pub returns : goal.returns
returns c e =
    let zero : c.args.at ≡ c.args.at + 2 * 0 = omega arith in
    wide_stand c.args.s.now c.args.levels.now c.args.at c.args.front c.args.words c.requires.0 c.requires.1 c.requires.2 c.requires.3
    c.requires.4
    (c.requires.5 c.requires.0) (λ k. omega (arith, c.type_inv.s k))
    (ap (word_at c.args.s.now) (sym zero) ∙ sym c.eight_bytes.ensures ∙ c.if-eight_bytes-words.false)
    (ap (λ q. word_at c.args.s.now (c.args.at + 2 * q)) (sym c.middle_of-place.ensures) ∙ sym c.eight_bytes-2.ensures ∙ c.if-eight_bytes-words-2.false)
    (sym c.eight_bytes-3.ensures ∙ eqb-true _ _ e)
