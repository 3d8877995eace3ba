-- `wirings::leaves::matters::matters` meets its contract: the blocks are all cells, and show whether the input matters. Assumes nothing.
use Rattle.std.specs.Prelude.{◌<◌, ◌≤◌, ◌*◌, ◌^◌, ◌≡◌}
use Rattle.std.proofs.Common.{rules}
use Rattle.std.specs.Slice.Iter.{chunks_exact_size, chunks_exact_rest, chunks_exact_steps}
use Rattle.laws.specs.Prelude.{ℕ, true, ◌∙◌, ap, arith, take, get_or-take, length-take}
use Rattle.rules.specs.Calls.Answers.{ink_in}
use Rattle.rules.specs.Limits.{size_fits}
use Rattle.laws.specs.Numbers.Sizes.{Size, sized}
use Rattle.wirings.specs.Leaves.Blocks.{run_within, cells_blocks, block_some, block_fits, tell}
use Rattle.wirings.proofs.Chunks.{callable, chunks_tell}
use Rattle.wirings.proofs.leaves.matters.matters.Goals as goal

pub power-weight-requires : goal.power-weight-requires
power-weight-requires c = let sizes : Size c.args.m c.args.n = sized c.args.m c.args.n c.requires.0 in omega (arith, sizes)

pub power-requires : goal.power-requires
power-requires c = let sizes : Size c.args.m c.args.n = sized c.args.m c.args.n c.requires.0 in omega (arith, sizes)

-- there are levels
some : (m n : ℕ) → size_fits m n ≡ true → 0 < m
some m n fits = omega (arith, (sized m n fits).levels_least)

pub overflow_mul-m : goal.overflow_mul-m
overflow_mul-m c =
    let a = c.args in
    let fits = block_fits a.m a.n (some a.m a.n c.requires.0) a.i c.requires.2 _ c.power-weight.ensures in
    omega (arith, (sized a.m a.n c.requires.0).cells_most, fits)

pub chunks_exact-requires : goal.chunks_exact-requires
chunks_exact-requires c = let a = c.args in block_some a.m a.n (some a.m a.n c.requires.0) a.i c.requires.2 _ c.power-weight.ensures

pub all-requires-clause-can : goal.all-requires-clause-can
all-requires-clause-can c =
    let a = c.args in
    omega (arith, c.chunks_exact.ensures.size, block_some a.m a.n (some a.m a.n c.requires.0) a.i c.requires.2 _ c.power-weight.ensures)

pub all-requires-clause-callable : goal.all-requires-clause-callable
all-requires-clause-callable c =
    let a = c.args in
    let within : c.power-weight.result ≤ a.m * c.power-weight.result =
    run_within a.m a.n (some a.m a.n c.requires.0) a.i c.requires.2 _ c.power-weight.ensures in
    callable chunks_exact_steps chunks_exact_size _ (λ s x t step. (step.0, step.1.1)) _ _ (λ a r f k. search rules) (λ x long. search rules)

pub returns : goal.returns
returns c =
    let a = c.args in
    let levels = some a.m a.n c.requires.0 in
    let weight = c.power-weight.ensures in
    let table = take c.power.result a.cells.now in
    let chunks = c.chunks_exact.ensures in
    let (p, from, told) = c.all.ensures.runs in
    tell a.m a.n levels a.i c.requires.2 _ weight _ _
    (chunks_tell p table (ink_in a.cells.now) (a.m * c.power-weight.result) c.power-weight.result (a.m ^ a.i)
    _ _ (chunks.runs p p.seen) (ap chunks_exact_size from ∙ chunks.size) (ap chunks_exact_rest from ∙ chunks.rest)
    (block_some a.m a.n levels a.i c.requires.2 _ weight)
    (omega (arith, length-take c.power.result a.cells.now, c.power.ensures, c.requires.1, cells_blocks a.m a.n levels a.i c.requires.2 _ weight))
    (λ q q<. get_or-take c.power.result a.cells.now q 0 (omega (arith, length-take c.power.result a.cells.now)))
    _ _ (λ x r f k. search rules) (λ x b k. search rules) _ told)
