-- `line_end` meets its contract. The loop's invariant: the line's end from here is the line's end from the start.
-- Assumes nothing.
use Rattle.std.specs.Prelude.{◌≡◌, ◌≤◌, max}
use Rattle.std.proofs.Math.Nat.{max-eq_left, max-eq_right}
use Rattle.laws.specs.Prelude.{◌∙◌, by_cases, dec_le, arith, length}
use Rattle.lister.proofs.TurnSteps.{end_here, feed_here, byte_here}
use Rattle.lister.proofs.places.line_end.Goals as goal

pub returns-then-s-end-eq-NEWLINE : goal.returns-then-s-end-eq-NEWLINE
returns-then-s-end-eq-NEWLINE c = feed_here _ _ c.loop-end-test.true c.if-s-end-eq-NEWLINE.true ∙ c.loop-end.invariant

pub loop-end-preserved : goal.loop-end-preserved
loop-end-preserved c = byte_here _ _ c.loop-end-test.true c.if-s-end-eq-NEWLINE.false ∙ c.loop-end.invariant

pub returns : goal.returns
returns c =
    let s = c.args.s.now in
    c.max.ensures
    ∙ by_cases (dec_le (length s) c.args.at)
    (λ (past : length s ≤ c.args.at). max-eq_left past ∙ end_here s _ past)
    (λ h.
    let end : max c.args.at (length s) ≡ c.loop-end.end = max-eq_right (omega arith) ∙ omega (arith, c.loop-end.auto.end-end (omega arith)) in
    end ∙ (end_here _ _ c.loop-end-test.false ∙ c.loop-end.invariant))
