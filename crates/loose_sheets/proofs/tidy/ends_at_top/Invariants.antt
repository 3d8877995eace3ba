-- `loose_sheets::tidy::ends_at_top` terminates and reads no byte outside the sheet. The loop's invariant: the bytes come in pairs.
-- Assumes nothing.
use Rattle.std.specs.Prelude.{◌≡◌}
use Rattle.std.specs.Slice.Exact.{rchunks_exact_size}
use Rattle.loose_sheets.proofs.tidy.ends_at_top.Given as goal

abbrev pub invariant-loop-pair : goal.invariant-loop-pair
invariant-loop-pair l =
    goal.iterator-loop-pair.can_next l.pair-iterator
    × goal.iterator-loop-pair.is_finite l.pair-iterator
    × (rchunks_exact_size l.pair-iterator ≡ 2)
