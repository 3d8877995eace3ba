-- `fields::runs::field_end` meets its contract. The loop's invariant: the field from `end` on ends where the one from `at` on does.
-- Assumes nothing.
use Rattle.std.specs.Prelude.{◌≡◌, ◌≤◌, max}
use Rattle.std.proofs.Math.Nat.{max-eq_left, max-eq_right}
use Rattle.laws.specs.Prelude.{◌∙◌, sym, by_cases, dec_le, arith, length}
use Rattle.fields.specs.Runs.{ends_here, ends_at, ends_later, is_space, is_newline, is_neither}
use Rattle.fields.proofs.runs.field_end.Goals as goal
use Rattle.fields.proofs.runs.field_end.Goals.{then-b-eq-SPACE-via-then-b-eq-SPACE, then-b-eq-SPACE-via-else-b-eq-SPACE+then-b-eq-NEWLINE}

pub returns-then-b-eq-SPACE : goal.returns-then-b-eq-SPACE
returns-then-b-eq-SPACE c =
    elim c.then-b-eq-SPACE.branch [
      | then-b-eq-SPACE-via-then-b-eq-SPACE w ↦ sym (ends_at _ _ c.loop-end-test.true (is_space _ w.if-b-eq-SPACE.true)) ∙ c.loop-end.invariant
      | then-b-eq-SPACE-via-else-b-eq-SPACE+then-b-eq-NEWLINE w ↦
          sym (ends_at _ _ c.loop-end-test.true (is_newline _ w.if-b-eq-NEWLINE.true)) ∙ c.loop-end.invariant
    ]

pub loop-end-preserved : goal.loop-end-preserved
loop-end-preserved c = ends_later _ _ c.loop-end-test.true (is_neither _ c.if-b-eq-SPACE.false c.if-b-eq-NEWLINE.false)
    ∙ c.loop-end.invariant

pub returns : goal.returns
returns c =
    let s = c.args.s.now in
    c.max.ensures
    ∙ by_cases (dec_le (length s) c.args.at)
    (λ (past : length s ≤ c.args.at). max-eq_left past ∙ sym (ends_here s _ past))
    (λ h.
    let end : max c.args.at (length s) ≡ c.loop-end.end = max-eq_right (omega arith) ∙ omega (arith, c.loop-end.auto.end-end (omega arith)) in
    end ∙ (sym (ends_here _ _ c.loop-end-test.false) ∙ c.loop-end.invariant))
