-- `fields::runs::spaces_end` meets its contract. The loop's invariant: the spaces from `end` on end where those from `at` on do.
-- Assumes nothing.
use Rattle.std.specs.Prelude.{◌≡◌, ◌≤◌, max}
use Rattle.std.proofs.Math.Nat.{max-eq_left, max-eq_right}
use Rattle.laws.specs.Prelude.{◌∙◌, sym, by_cases, dec_le, arith, length}
use Rattle.fields.specs.Runs.{spaces_none, spaces_here, spaces_later}
use Rattle.fields.proofs.runs.spaces_end.Goals as goal

pub returns-then-s-end-ne-SPACE : goal.returns-then-s-end-ne-SPACE
returns-then-s-end-ne-SPACE c = sym (spaces_here _ _ c.loop-end-test.true c.if-s-end-ne-SPACE.true) ∙ c.loop-end.invariant

pub loop-end-preserved : goal.loop-end-preserved
loop-end-preserved c = spaces_later _ _ c.loop-end-test.true c.if-s-end-ne-SPACE.false ∙ c.loop-end.invariant

pub returns : goal.returns
returns c =
    let s = c.args.s.now in
    c.max.ensures
    ∙ by_cases (dec_le (length s) c.args.at)
    (λ (past : length s ≤ c.args.at). max-eq_left past ∙ sym (spaces_none s _ past))
    (λ h.
    let end : max c.args.at (length s) ≡ c.loop-end.end = max-eq_right (omega arith) ∙ omega (arith, c.loop-end.auto.end-end (omega arith)) in
    end ∙ (sym (spaces_none _ _ c.loop-end-test.false) ∙ c.loop-end.invariant))
