-- `settling::into::settle_into` meets its contract. Assumes nothing.
use Rattle.std.proofs.lemmas.Result.{err_from_is_err_and}
use Rattle.std.specs.Prelude.{◌≡◌}
use Rattle.laws.specs.Prelude.{◌∙◌, sym, ap}
use Rattle.rules.specs.Calls.Answers.{accepted}
use Rattle.rules.specs.Calls.Settling.{room_for}
use Rattle.nets.specs.Forms.{table_in}
use Rattle.answers.specs.AnswerMaps.{outcome_as}
use Rattle.settling.specs.Room.{both_long}
use Rattle.settling.specs.Outcomes.{net_by, given_size, given_count, layered_refused, layered_marked}
use Rattle.settling.proofs.into.settle_into.Goals as goal

pub room-requires : goal.room-requires
room-requires c = (given_size _ _ _ c.requires, given_count _ _ _ c.requires)

pub settle_marked-requires : goal.settle_marked-requires
settle_marked-requires c =
    let fits : let a = c.args in accepted tt ≡ room_for (table_in a.s.now a.header a.inks.now) a.cells.now a.marks.now = sym (ap (outcome_as tt) c.in_ok-room.was) ∙ c.room.ensures c.args.s.now in
    let long = both_long c.args.s.now c.args.header _ (given_count _ _ _ c.requires) _ _ fits in
    (c.requires, long.0, long.1)

pub returns-in_err-room : goal.returns-in_err-room
returns-in_err-room c =
    let a = c.args in
    let p = err_from_is_err_and c.from_residual.result c.from_residual.ensures.1 in
    rw (p.1, p.2)
    (layered_refused (net_by a.choice) (table_in a.s.now a.header a.inks.now) a.cells.now a.marks.now a.out.now _ _
    (sym (c.room.ensures a.s.now) ∙ ap (outcome_as tt) c.in_err-room.was))

pub returns : goal.returns
returns c =
    let fits : let a = c.args in accepted tt ≡ room_for (table_in a.s.now a.header a.inks.now) a.cells.now a.marks.now = sym (ap (outcome_as tt) c.in_ok-room.was) ∙ c.room.ensures c.args.s.now in
    let a = c.args in
    c.settle_marked.ensures
    ∙ layered_marked (net_by a.choice) (table_in a.s.now a.header a.inks.now) a.cells.now a.marks.now a.out.now (sym fits)
