-- `families::tree::tree_marked` meets its contract. Assumes nothing.
use Rattle.std.specs.Prelude.{◌-◌, ◌^◌, ◌≡◌}
use Rattle.laws.specs.Prelude.{ℕ, sym, subst⁻¹, List, le_of_eq, arith, length, take, rules}
use Rattle.rules.specs.Limits.{most_inputs}
use Rattle.rules.specs.Calls.Answers.{ink_in}
use Rattle.settling.specs.Outcomes.{given_size, given_count, given_below, made_inside, settling_made_short}
use Rattle.tree_counts.specs.Counts.{CountsKnown}
use Rattle.families.specs.Marked.{none_known, groups_room, marks_front, leaves_countable}
use Rattle.families.specs.Outcomes.{order_past, order_tree}
use Rattle.families.proofs.tree.tree_marked.Goals as goal

pub count_marked-counted-requires : goal.count_marked-counted-requires
count_marked-counted-requires c =
    let size = given_size _ _ _ c.requires.0 in (
      size,
      given_count _ _ _ c.requires.0,
      c.requires.1,
      groups_room _ _ size,
      c.requires.2,
      groups_room _ _ size,
      none_known (2 ^ most_inputs),
      given_below _ _ _ c.requires.0,
    )

pub returns-then-counted-order : goal.returns-then-counted-order
returns-then-counted-order c =
    let a = c.args in
    order_past a.s.now a.header a.inks.now a.cells.now a.marks.now c.count_marked-counted.result.trees _ _ _ _
    c.count_marked-counted.ensures.0
    a.order a.out.now c.if-counted-order.true

pub slice_bounds-family_net-end : goal.slice_bounds-family_net-end
slice_bounds-family_net-end c =
    omega (arith, c.power-end.ensures, groups_room _ _ (given_size _ _ _ c.requires.0), c.count_marked-counted.auto.own)

pub family_net-net-requires : goal.family_net-net-requires
family_net-net-requires c =
    let h = c.args.header in
    let f = ink_in c.args.inks.now in
    let size = given_size _ _ _ c.requires.0 in
    let did = c.count_marked-counted in
    let own : List ℕ = take (c.power-end.result - 0) did.new.own in
    let is_own = marks_front h.levels h.inputs size f _ did.ensures.0.front c.power-end.result c.power-end.ensures in
    let long : length did.new.counts ≡ 2 ^ most_inputs = search rules in
    let kept = subst⁻¹ (λ (marks : List ℕ). CountsKnown marks did.new.counts) is_own did.ensures.0.kept in (
      size,
      le_of_eq (sym (given_count _ _ _ c.requires.0)),
      given_below _ _ _ c.requires.0,
      is_own,
      leaves_countable h.levels h.inputs size f own did.new.counts is_own (omega (arith, groups_room _ _ size, long)) kept,
      omega (arith, c.if-counted-order.false, did.ensures.0.count),
      did.ensures.1,
    )

pub write_sheet-requires : goal.write_sheet-requires
write_sheet-requires c =
    let g = c.requires.0 in
    (g.names, made_inside _ _ _ g _ c.family_net-net.ensures, settling_made_short _ _ _ g _ c.family_net-net.ensures)

pub returns : goal.returns
returns c =
    let a = c.args in
    order_tree a.s.now a.header a.inks.now a.cells.now a.marks.now c.count_marked-counted.result.trees _ _ _ _
    c.count_marked-counted.ensures.0 a.order a.out.now
    c.requires.0 c.if-counted-order.false c.family_net-net.result c.family_net-net.ensures c.write_sheet.result _ c.write_sheet.ensures
