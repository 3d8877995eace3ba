-- `keeping::filled::keep_filled` meets its contract: the inks are copied, then 23 at 0 or at a gate, or the new sheet. Assumes nothing.
use Rattle.laws.specs.Prelude.{◌∙◌, sym, ap, arith}
use Rattle.nets.specs.Sound.{gates_count}
use Rattle.net_sheets.specs.Text.Put.{put_wrote}
use Rattle.accepted.specs.Taken.{sound}
use Rattle.settling.specs.Answered.{plain_by_kind}
use Rattle.settling.specs.Outcomes.{made_inside, settling_made_short}
use Rattle.keeping.specs.Groups.{kept_blank}
use Rattle.keeping.specs.KeepAnswers.{with_changed}
use Rattle.keeping.specs.Rewriting.{table_sized, left_told, first_told, filled_roomy, filled_all, filled_net, filled_told}
use Rattle.keeping.proofs.filled.keep_filled.Goals as goal

pub leaves_out-requires : goal.leaves_out-requires
leaves_out-requires c = (sound _ _ _ c.requires.taken, table_sized _ _ _ _ c.requires.taken c.requires.given)

pub returns-then-leaves_out : goal.returns-then-leaves_out
returns-then-leaves_out c =
    left_told _ _ _ _ c.requires.taken c.requires.given _ _ _ (put_wrote c.requires.long c.copy.ensures).text
    (sym c.leaves_out.ensures ∙ c.if-leaves_out.true)

pub fill_while_few-filled-requires : goal.fill_while_few-filled-requires
fill_while_few-filled-requires c =
    let own = sound _ _ _ c.requires.taken in
    let sized = table_sized _ _ _ _ c.requires.taken c.requires.given in
    let w = c.wiring_of in
    (sized, omega (arith, w.ensures.0, gates_count c.args.net own), kept_blank c.args.net own sized.some w.result w.ensures.1)

pub returns-then-roomy-net : goal.returns-then-roomy-net
returns-then-roomy-net c =
    first_told _ _ _ _ c.requires.taken c.requires.given _ _ _ (put_wrote c.requires.long c.copy.ensures).text
    (sym c.leaves_out.ensures ∙ c.if-leaves_out.false) _
    (filled_roomy _ _ _ _ _ c.requires _ c.wiring_of.ensures _ c.fill_while_few-filled.ensures) c.if-roomy-net.true

pub changed_gates-changed-requires : goal.changed_gates-changed-requires
changed_gates-changed-requires c =
    let done = filled_all _ _ _ _ _ c.requires _ c.wiring_of.ensures _ c.fill_while_few-filled.ensures c.if-roomy-net.false in
    (sound _ _ _ c.requires.taken, done.levels, done.count ∙ c.wiring_of.ensures.0)

pub write_sheet-requires : goal.write_sheet-requires
write_sheet-requires c =
    let given = c.requires.given in
    let new =
    filled_net _ _ _ _ _ c.requires _ c.wiring_of.ensures _ c.fill_while_few-filled.ensures c.if-roomy-net.false
    (sym c.leaves_out.ensures ∙ c.if-leaves_out.false) in
    (given.names, made_inside _ _ _ given _ new, settling_made_short _ _ _ given _ new)

pub returns : goal.returns
returns c =
    filled_told _ _ _ _ _ c.requires _ c.wiring_of.ensures _ c.fill_while_few-filled.ensures c.if-roomy-net.false
    (sym c.leaves_out.ensures ∙ c.if-leaves_out.false) _ _ (put_wrote c.requires.long c.copy.ensures).text
    c.write_sheet.result _ c.write_sheet.ensures _ c.changed_gates-changed.ensures _
    (c.by_sheet.ensures ∙ c.with_changed.ensures _ _ ∙ ap (with_changed _) (plain_by_kind c.write_sheet.result))
