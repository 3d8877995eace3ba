-- `net_sheets::reader::references::earlier_used` meets its contract. The loop's invariant: all earlier gates are marked exactly when those from `k` on are.
-- Assumes nothing.
use Rattle.laws.specs.Prelude.{◌∙◌, sym, arith}
use Rattle.net_sheets.specs.Reader.References.{unmarked_here, marked_here, marked_all}
use Rattle.net_sheets.proofs.reader.references.earlier_used.Goals as goal

pub returns-then-not-used-inputs : goal.returns-then-not-used-inputs
returns-then-not-used-inputs c =
    sym (c.loop-k.invariant ∙ unmarked_here _ _ _ c.loop-k.k (omega (arith, c.loop-k-test.true)) c.if-not-used-inputs.true)

pub loop-k-preserved : goal.loop-k-preserved
loop-k-preserved c =
    c.loop-k.invariant ∙ marked_here _ _ _ c.loop-k.k (omega (arith, c.loop-k-test.true)) c.if-not-used-inputs.false

pub returns : goal.returns
returns c = sym (c.loop-k.invariant ∙ marked_all _ _ _ c.loop-k.k (omega (arith, c.loop-k-test.false)))
