-- `keeping::left_out::leaves_out` meets its contract: `any` over the inputs. Assumes nothing.
use Rattle.std.proofs.Common.{rules, tests}
use Rattle.std.specs.Prelude.{◌≤◌}
use Rattle.nets.specs.Room.{most_gates}
use Rattle.std.proofs.lemmas.Iterator.{YieldsList-from_range, serves_from_Range}
use Rattle.std.proofs.lemmas.Iterator.Search.{any_from_yields_List}
use Rattle.laws.specs.Prelude.{◌∙◌, refl, arith}
use Rattle.rules.specs.Calls.Answers.{ink_in}
use Rattle.nets.specs.Forms.{gates_of}
use Rattle.nets.specs.Sound.{gates_count, sound_size}
use Rattle.keeping.specs.LeftOut.{is_left_out, any_of_range}
use Rattle.keeping.proofs.left_out.leaves_out.Goals as goal

pub any-requires-clause-callable : goal.any-requires-clause-callable
any-requires-clause-callable c =
    let few : c.args.net.gates ≤ most_gates =
    omega (arith, gates_count c.args.net c.requires.0, (sound_size c.args.net c.requires.0).inputs_most) in
    let size = c.requires.0.size in
    let count = c.requires.1.count in
    serves_from_Range (λ x q r. search rules) (λ x low high. search rules)

pub returns : goal.returns
returns c =
    let a = c.args in
    any_from_yields_List (is_left_out a.net.levels a.net.inputs (ink_in a.cells.now) (gates_of a.net)) _ _ c.any.result c.any.ensures.ran
    (YieldsList-from_range 0 a.net.inputs a.net.inputs refl (omega arith)) (λ x b q k. search (rules, tests))
    ∙ any_of_range _ 0 a.net.inputs
