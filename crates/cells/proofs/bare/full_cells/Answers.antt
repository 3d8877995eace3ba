-- `cells::bare::full_cells` meets its contract: each return is one of the definition's cases. Assumes nothing.
use Rattle.std.specs.Prelude.{◌^◌, ◌≡◌}
use Rattle.laws.specs.Prelude.{◌∙◌, sym, true, arith, length}
use Rattle.rules.specs.Limits.{size_fits}
use Rattle.laws.specs.Numbers.Sizes.{Size, sized}
use Rattle.laws.specs.Calls.BareCells.{bare_size, bare_length, bare_cell, bare_good}
use Rattle.laws.specs.Calls.OpenCells.{cells_refused, cells_judged, cells_full}
use Rattle.cells.specs.Bound.{first_over, first_open}
use Rattle.cells.proofs.bare.full_cells.Goals as goal

pub returns-then-not-size_fits : goal.returns-then-not-size_fits
returns-then-not-size_fits c = cells_refused _ _ _ _ _ (bare_size _ _ _ (sym c.size_fits.ensures ∙ c.if-not-size_fits.true))

pub returns-then-cells-power : goal.returns-then-cells-power
returns-then-cells-power c = cells_refused _ _ _ _ _ (bare_length _ _ _ (λ e. c.if-cells-power.true (e ∙ sym c.power.ensures)))

-- every cell is below m
pub returns-then-cells-open : goal.returns-then-cells-open
returns-then-cells-open c =
    let fits : size_fits c.args.m c.args.n ≡ true = sym c.size_fits.ensures ∙ c.if-not-size_fits.false in
    let long : let a = c.args in length a.cells.now ≡ a.m ^ a.n = c.if-cells-power.false ∙ c.power.ensures in
    cells_full _ _ _ fits long (λ p h. c.first_at_least-open.ensures.below p (omega arith))

-- a cell is above m, or none is and one is open
pub returns-then-over-cells : goal.returns-then-over-cells
returns-then-over-cells c =
    let fits : size_fits c.args.m c.args.n ≡ true = sym c.size_fits.ensures ∙ c.if-not-size_fits.false in
    let long : let a = c.args in length a.cells.now ≡ a.m ^ a.n = c.if-cells-power.false ∙ c.power.ensures in
    cells_refused _ _ _ _ _ (bare_cell _ _ _ fits long _ (first_over _ _ _ c.first_at_least-over.ensures)
    c.if-over-cells.true)

pub returns-else-over-cells : goal.returns-else-over-cells
returns-else-over-cells c =
    let fits : size_fits c.args.m c.args.n ≡ true = sym c.size_fits.ensures ∙ c.if-not-size_fits.false in
    let long : let a = c.args in length a.cells.now ≡ a.m ^ a.n = c.if-cells-power.false ∙ c.power.ensures in
    let over = c.first_at_least-over.ensures in
    first_open _ _ _ c.first_at_least-open.ensures (λ p h. omega (arith, over.below p (omega (arith, over.most, c.if-over-cells.false))))
    c.if-cells-open.false
    ∙ cells_judged _ _ _ (bare_good _ _ _ fits long _ (first_over _ _ _ over) c.if-over-cells.false)

pub power-requires : goal.power-requires
power-requires c =
    let fits : size_fits c.args.m c.args.n ≡ true = sym c.size_fits.ensures ∙ c.if-not-size_fits.false in
    let size : Size c.args.m c.args.n = sized _ _ fits in
    omega (arith, size.levels_most, size.inputs_most)

pub first_at_least-open-requires : goal.first_at_least-open-requires
first_at_least-open-requires c =
    let fits : size_fits c.args.m c.args.n ≡ true = sym c.size_fits.ensures ∙ c.if-not-size_fits.false in
    let size : Size c.args.m c.args.n = sized _ _ fits in
    omega (arith, size.levels_most)

pub overflow_add-m : goal.overflow_add-m
overflow_add-m c =
    let fits : size_fits c.args.m c.args.n ≡ true = sym c.size_fits.ensures ∙ c.if-not-size_fits.false in
    let size : Size c.args.m c.args.n = sized _ _ fits in
    omega (arith, size.levels_most)

pub first_at_least-over-requires : goal.first_at_least-over-requires
first_at_least-over-requires c =
    let fits : size_fits c.args.m c.args.n ≡ true = sym c.size_fits.ensures ∙ c.if-not-size_fits.false in
    let size : Size c.args.m c.args.n = sized _ _ fits in
    omega (arith, size.levels_most)
