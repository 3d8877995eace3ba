-- `net_sheets::reader::references::is_used` meets its contract. The loop's invariant: some gate uses r exactly when one from `k` on does.
-- Assumes nothing.
use Rattle.laws.specs.Prelude.{◌∙◌, sym, sub-zero}
use Rattle.nets.specs.Forms.{gates_of}
use Rattle.net_sheets.specs.Reader.References.{used_left, used_right, used_next, used_none}
use Rattle.net_sheets.proofs.reader.references.is_used.Goals as goal
use Rattle.net_sheets.proofs.reader.references.is_used.Goals.{then-net-k-via-then-net-k, then-net-k-via-else-net-k+then-net-k-2}

pub loop-k-init : goal.loop-k-init
unfolding gates_of
loop-k-init c = rw sub-zero

pub returns-then-net-k : goal.returns-then-net-k
returns-then-net-k c =
    elim c.then-net-k.branch [
      | then-net-k-via-then-net-k w ↦ sym (c.loop-k.invariant ∙ used_left _ _ c.loop-k.k c.loop-k-test.true w.if-net-k.true)
      | then-net-k-via-else-net-k+then-net-k-2 w ↦
          sym (c.loop-k.invariant ∙ used_right _ _ c.loop-k.k c.loop-k-test.true w.if-net-k.false w.if-net-k-2.true)
    ]

pub loop-k-preserved : goal.loop-k-preserved
loop-k-preserved c =
    c.loop-k.invariant ∙ used_next _ _ c.loop-k.k c.loop-k-test.true c.if-net-k.false c.if-net-k-2.false

pub returns : goal.returns
returns c = sym (c.loop-k.invariant ∙ used_none _ _ c.loop-k.k c.loop-k-test.false)
