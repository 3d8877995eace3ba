-- `settling::input::read_input` meets its contract. Assumes nothing.
use Rattle.std.proofs.lemmas.Result.{err_from_is_err_and}
use Rattle.std.specs.Prelude.{◌≤◌}
use Rattle.laws.specs.Prelude.{arith, length}
use Rattle.laws.specs.Numbers.Sizes.{Size}
use Rattle.accepted.specs.Taken.{held_size, full_taken, inks_given}
use Rattle.settling.specs.Outcomes.{given_size, given_count}
use Rattle.settling.specs.Input.{settling_sheet_refused, room_refused, room_judged}
use Rattle.settling.proofs.input.read_input.Goals as goal

pub room-requires : goal.room-requires
room-requires c =
    let given = inks_given _ _ _ _ c.power-count.ensures (full_taken _ _ _ c.read_full.ensures _ c.in_ok-header.was) in
    (given_size _ _ _ given, given_count _ _ _ given)

pub returns-in_err-header : goal.returns-in_err-header
returns-in_err-header c =
    let p = err_from_is_err_and c.from_residual.result c.from_residual.ensures.1 in
    rw (p.1, p.2) (settling_sheet_refused _ _ _ _ _ c.read_full.ensures _ c.in_err-header.was)

pub returns-in_err-room : goal.returns-in_err-room
returns-in_err-room c =
    let p = err_from_is_err_and c.from_residual-in_err-room.result c.from_residual-in_err-room.ensures.1 in
    rw (p.1, p.2)
    (room_refused _ _ _ _ _ c.read_full.ensures _ c.in_ok-header.was _ c.power-count.ensures _ c.room.ensures _ c.in_err-room.was)

pub returns : goal.returns
returns c =
    let size = held_size _ _ (c.read_full.ensures.held _ c.in_ok-header.was).header in
    room_judged _ _ _ _ _ c.read_full.ensures _ c.in_ok-header.was _ c.power-count.ensures _ c.room.ensures
    (omega (arith, c.power-count.ensures, size.cells_most, c.read_full.auto, c.requires)) c.in_ok-room.was

pub power-count-requires : goal.power-count-requires
power-count-requires c =
    let size = held_size _ _ (c.read_full.ensures.held _ c.in_ok-header.was).header in
    (omega (arith, size.levels_most), omega (arith, size.inputs_most))

pub slice_bounds-room-end : goal.slice_bounds-room-end
slice_bounds-room-end c =
    let size = held_size _ _ (c.read_full.ensures.held _ c.in_ok-header.was).header in
    omega (arith, c.power-count.ensures, size.cells_most, c.read_full.auto, c.requires)
