-- `classes::multiplicity::group_answer` meets its contract: refusal 11, or the count of the group's classes.
-- Assumes nothing.
use Rattle.std.specs.Prelude.{◌<◌, ◌≤◌, ◌-◌, ◌^◌, ◌≡◌}
use Rattle.laws.specs.Prelude.{ℕ, ◌∙◌, sym, ap, arith}
use Rattle.rules.specs.Groups.Groups.{size, others}
use Rattle.laws.specs.Numbers.Sizes.{Size, sized}
use Rattle.laws.specs.Calls.Multiplicity.{group_empty, group_past, group_counted}
use Rattle.trees.specs.Groups.Members.{size_le, size_others}
use Rattle.cells.specs.declared.table.Table.{Table}
use Rattle.classes.specs.Within.{group_fits}
use Rattle.classes.proofs.multiplicity.group_answer.Goals as goal
use Rattle.classes.proofs.multiplicity.group_answer.Goals.{then-group-eq0-via-then-group-eq0, then-group-eq0-via-else-group-eq0+then-power-group}

fits : (t : Table) → Size t.levels t.inputs
fits t = sized t.levels t.inputs t.full.size

-- a group's members, and those of the other inputs
module _ (t : Table) (group members : ℕ) (below : group < 2 ^ t.inputs) (is : members ≡ size t.inputs group) where
  within : members ≤ t.inputs
  within = omega (arith, is, size_le t.inputs group)

  own_size : t.levels ^ size t.inputs group ≡ t.levels ^ members
  own_size = ap (λ (k : ℕ). t.levels ^ k) (sym is)

  other_size : t.levels ^ size t.inputs (others t.inputs group) ≡ t.levels ^ (t.inputs - members)
  other_size = ap (λ (k : ℕ). t.levels ^ k) (size_others t.inputs group below ∙ ap (λ (k : ℕ). t.inputs - k) (sym is))

pub power-requires : goal.power-requires
power-requires c = omega (arith, (fits c.args.table).inputs_most)

pub returns-then-group-eq0 : goal.returns-then-group-eq0
returns-then-group-eq0 c =
    elim c.then-group-eq0.branch [
      | then-group-eq0-via-then-group-eq0 w ↦ group_empty _ _ _ _ w.if-group-eq0.true
      | then-group-eq0-via-else-group-eq0+then-power-group w ↦ group_past _ _ _ _ (omega (arith, w.power.ensures, w.if-power-group.true))
    ]

pub power-own-requires : goal.power-own-requires
power-own-requires c =
    let t = c.args.table in
    let below : c.args.group < 2 ^ t.inputs = omega (arith, c.power.ensures, c.if-power-group.false) in
    omega (arith, (fits t).levels_most, (fits t).inputs_most, within t _ _ below (c.members_of-members.ensures t.inputs below))

pub overflow_sub-table : goal.overflow_sub-table
overflow_sub-table c =
    let t = c.args.table in
    let below : c.args.group < 2 ^ t.inputs = omega (arith, c.power.ensures, c.if-power-group.false) in
    within t _ _ below (c.members_of-members.ensures t.inputs below)

pub power-other-requires : goal.power-other-requires
power-other-requires c = omega (arith, (fits c.args.table).levels_most, (fits c.args.table).inputs_most)

pub counted_in-requires : goal.counted_in-requires
counted_in-requires c =
    let t = c.args.table in
    let below : c.args.group < 2 ^ t.inputs = omega (arith, c.power.ensures, c.if-power-group.false) in
    (below, group_fits t.levels t.inputs t.cells.now t.full _, group_fits t.levels t.inputs t.cells.now t.full _, omega arith)

pub returns-then-own-gt-FEW_CELLS : goal.returns-then-own-gt-FEW_CELLS
returns-then-own-gt-FEW_CELLS c =
    let below : c.args.group < 2 ^ c.args.table.inputs = omega (arith, c.power.ensures, c.if-power-group.false) in
    group_counted _ _ _ _ _ c.if-group-eq0.false below c.counted_in.ensures

pub counted_in-requires-2 : goal.counted_in-requires-2
counted_in-requires-2 c =
    let t = c.args.table in
    let below : c.args.group < 2 ^ t.inputs = omega (arith, c.power.ensures, c.if-power-group.false) in
    let is = c.members_of-members.ensures t.inputs below in (
      below,
      omega (arith, c.if-own-gt-FEW_CELLS.false, c.power-own.ensures, own_size t _ _ below is),
      omega (arith, c.if-other-gt-FEW_CELLS.false, c.power-other.ensures, other_size t _ _ below is),
      omega arith,
    )

pub returns : goal.returns
returns c =
    let below : c.args.group < 2 ^ c.args.table.inputs = omega (arith, c.power.ensures, c.if-power-group.false) in
    group_counted _ _ _ _ _ c.if-group-eq0.false below c.counted_in-2.ensures
