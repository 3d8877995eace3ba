-- `table_printer::rows::next_four` meets its contract: which of the four levels p, q, r and s is incremented.
-- Assumes nothing.
use Rattle.laws.specs.Prelude.{refl}
use Rattle.table_printer.specs.Rows.Next.{last_moves, last_top, third_moves, third_top, second_moves, second_top, first_moves, none_moves}
use Rattle.table_printer.proofs.rows.next_four.Goals as goal

pub returns-then-word-top : goal.returns-then-word-top
returns-then-word-top c p q r s p< q< r< s< is = last_moves _ p q r s _ c.requires.1 p< q< r< s< is c.if-word-top.true

pub returns-then-third-top : goal.returns-then-third-top
returns-then-third-top c p q r s p< q< r< s< is =
    let top = last_top _ p q r s _ c.requires.1 p< q< r< s< is c.if-word-top.false in
    third_moves _ p q r s _ c.requires.1 p< q< r< s< is _ top refl c.if-third-top.true

pub returns-then-second-top : goal.returns-then-second-top
returns-then-second-top c p q r s p< q< r< s< is =
    let top = last_top _ p q r s _ c.requires.1 p< q< r< s< is c.if-word-top.false in
    let top_r = third_top _ p q r s _ c.requires.1 p< q< r< s< is _ top refl c.if-third-top.false in
    second_moves _ p q r s _ c.requires.1 p< q< r< s< is _ top refl _ top_r refl c.if-second-top.true

pub returns-then-first-top : goal.returns-then-first-top
returns-then-first-top c p q r s p< q< r< s< is =
    let top = last_top _ p q r s _ c.requires.1 p< q< r< s< is c.if-word-top.false in
    let top_r = third_top _ p q r s _ c.requires.1 p< q< r< s< is _ top refl c.if-third-top.false in
    let top_q = second_top _ p q r s _ c.requires.1 p< q< r< s< is _ top refl _ top_r refl c.if-second-top.false in
    first_moves _ p q r s _ c.requires.1 p< q< r< s< is _ top refl _ top_r refl _ top_q refl c.if-first-top.true

pub returns : goal.returns
returns c p q r s p< q< r< s< is =
    let top = last_top _ p q r s _ c.requires.1 p< q< r< s< is c.if-word-top.false in
    let top_r = third_top _ p q r s _ c.requires.1 p< q< r< s< is _ top refl c.if-third-top.false in
    let top_q = second_top _ p q r s _ c.requires.1 p< q< r< s< is _ top refl _ top_r refl c.if-second-top.false in
    none_moves _ p q r s _ c.requires.1 p< q< r< s< is _ top refl _ top_r refl _ top_q refl c.if-first-top.false
