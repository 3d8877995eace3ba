-- `loose_sheets::fast::matching::weigh` meets its contract. The loop's invariant: k bytes fit unless `over`, and the sum is theirs.
-- Assumes nothing.
use Rattle.std.proofs.Common.{below_more}
use Rattle.std.specs.Prelude.{◌+◌, ◌≡◌}
use Rattle.laws.specs.Prelude.{◌∙◌, sym, refl, false≢true, arith}
use Rattle.loose_sheets.specs.Fast.Matching.{counted, counted_adds}
use Rattle.loose_sheets.proofs.fast.matching.weigh.Goals as goal
use Rattle.loose_sheets.proofs.fast.matching.weigh.Goals.{then-wrapping_add_u16-frame, else-wrapping_add_u16-frame}

pub loop-k-init : goal.loop-k-init
unfolding counted
loop-k-init c = record { fit = λ _ k b. absurd (omega (arith, b)); sum = refl }

pub loop-k-preserved : goal.loop-k-preserved
loop-k-preserved c =
    let inv = c.loop-k.invariant in
    record {
      fit = λ none. elim c.if-wrapping_add_u16-frame.branch [
        | then-wrapping_add_u16-frame w ↦ absurd (false≢true (sym none ∙ w.over-is))
        | else-wrapping_add_u16-frame w ↦ below_more _ _ (inv.fit (sym w.over-is ∙ none)) (record {
          byte = omega (arith, c.type_inv.s (c.args.at + c.loop-k.k));
          fits = omega (arith, w.if-wrapping_add_u16-frame.false, c.wrapping_add_u16.ensures);
        })
      ];
      sum = counted_adds _ _ _ _ _ _ inv.sum c.wrapping_add_u16-sum.ensures.value;
    }

pub returns : goal.returns
returns c =
    let all : c.loop-k.k ≡ c.args.count = omega (arith, c.loop-k-test.false) in
    record { fit = rw all at (c.loop-k.invariant.fit c.if-over.false); sum = rw all at c.loop-k.invariant.sum }
