-- `settling::marked::settle_marked` meets its contract. Assumes nothing.
use Rattle.std.specs.Prelude.{◌≤◌, ◌^◌}
use Rattle.laws.specs.Prelude.{sym, le_of_eq, arith, length, pow_mono}
use Rattle.rules.specs.Limits.{most_inputs}
use Rattle.laws.specs.Numbers.Sizes.{sized}
use Rattle.net_sheets.specs.Text.Put.{put_wrote}
use Rattle.settling.specs.Outcomes.{given_size, given_count, given_below, made_inside, settling_made_short, made_sound, given_two, own_marks}
use Rattle.settling.specs.Outcomes.{given_16, given_tree}
use Rattle.settling.proofs.marked.settle_marked.Goals as goal

pub mark_and_store-marked-requires : goal.mark_and_store-marked-requires
mark_and_store-marked-requires c =
    let room : 2 ^ c.args.header.inputs ≤ 2 ^ most_inputs =
    let h = c.args.header in
    pow_mono {i = h.inputs} {j = most_inputs} (sized h.levels h.inputs (given_size _ _ _ c.requires.0)).inputs_most in
    let g = c.requires.0 in
    (record { size = given_size _ _ _ g; count = le_of_eq (sym (given_count _ _ _ g)); levels = given_below _ _ _ g }, room, c.requires.2)

pub no_tree_place-requires : goal.no_tree_place-requires
no_tree_place-requires c =
    let room : 2 ^ c.args.header.inputs ≤ 2 ^ most_inputs =
    let h = c.args.header in
    pow_mono {i = h.inputs} {j = most_inputs} (sized h.levels h.inputs (given_size _ _ _ c.requires.0)).inputs_most in
    let own_room : 2 ^ c.args.header.inputs ≤ length c.mark_and_store-marked.new.marks = omega (arith, room, c.mark_and_store-marked.auto.marks) in
    let h = c.args.header in
    (omega (arith, (sized h.levels h.inputs (given_size _ _ _ c.requires.0)).inputs_most), own_room)

pub returns-then-marked-ne2 : goal.returns-then-marked-ne2
returns-then-marked-ne2 c =
    let room : 2 ^ c.args.header.inputs ≤ 2 ^ most_inputs =
    let h = c.args.header in
    pow_mono {i = h.inputs} {j = most_inputs} (sized h.levels h.inputs (given_size _ _ _ c.requires.0)).inputs_most in
    let own_room : 2 ^ c.args.header.inputs ≤ length c.mark_and_store-marked.new.marks = omega (arith, room, c.mark_and_store-marked.auto.marks) in
    given_16 _ _ _ c.requires.0 _ _ _ _ c.mark_and_store-marked.ensures.0 own_room c.args.choice _ _ c.args.out.now
    (put_wrote c.requires.1 c.copy.ensures).text c.if-marked-ne2.true _ c.no_tree_place.ensures

pub leaves-leaves-requires : goal.leaves-leaves-requires
leaves-leaves-requires c =
    let fit = sized _ _ (given_size _ _ _ c.requires.0) in
    (fit.inputs_least, fit.inputs_most, c.mark_and_store-marked.ensures.1.below)

pub made_net-net-requires : goal.made_net-net-requires
made_net-net-requires c =
    let room : 2 ^ c.args.header.inputs ≤ 2 ^ most_inputs =
    let h = c.args.header in
    pow_mono {i = h.inputs} {j = most_inputs} (sized h.levels h.inputs (given_size _ _ _ c.requires.0)).inputs_most in
    let own_room : 2 ^ c.args.header.inputs ≤ length c.mark_and_store-marked.new.marks = omega (arith, room, c.mark_and_store-marked.auto.marks) in
    let did = c.mark_and_store-marked in
    let g = c.requires.0 in (
      given_size _ _ _ g,
      le_of_eq (sym (given_count _ _ _ g)),
      given_below _ _ _ g,
      own_marks _ _ _ g _ _ _ _ did.ensures.0 own_room,
      given_two _ _ _ g _ _ _ _ did.ensures.0 c.if-marked-ne2.false,
      c.leaves-leaves.ensures _ _ did.ensures.1,
    )

pub write_layered-requires : goal.write_layered-requires
write_layered-requires c =
    let g = c.requires.0 in
    let is = c.made_net-net.ensures in
    (g.names, made_inside _ _ _ g _ is, settling_made_short _ _ _ g _ is, made_sound _ _ _ g _ is)

pub returns : goal.returns
returns c =
    given_tree _ _ _ c.requires.0 _ _ _ _ c.mark_and_store-marked.ensures.0 c.args.choice _ _ _
    (put_wrote c.requires.1 c.copy.ensures).text c.if-marked-ne2.false _ c.made_net-net.ensures c.write_layered.result _
    (c.write_layered.ensures _ _)
