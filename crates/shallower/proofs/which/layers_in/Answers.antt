-- `shallower::which::layers_in` meets its contract: the layers of the net that was read. Assumes nothing.
use Rattle.std.proofs.lemmas.Result.{err_from_is_err_and}
use Rattle.laws.specs.Prelude.{◌∙◌, sym, ap}
use Rattle.rules.specs.Calls.Answers.{accepted}
use Rattle.rules.specs.Nets.Layers.{layers}
use Rattle.rules.specs.Calls.ShallowSettling.{net_layers}
use Rattle.laws.specs.Calls.Shallower.{layers_refused, layers_accepted}
use Rattle.nets.specs.Forms.{gates_of, header_of}
use Rattle.accepted.specs.Taken.{net_taken, net_refused_lem, sound}
use Rattle.shallower.proofs.which.layers_in.Goals as goal

pub returns-in_err-read : goal.returns-in_err-read
returns-in_err-read c =
    let p = err_from_is_err_and c.from_residual.result c.from_residual.ensures.1 in
    rw (p.1, p.2) (sym (layers_refused _ _ _ (net_refused_lem _ _ c.read_net.ensures _ c.in_err-read.was)))

pub layers-requires : goal.layers-requires
layers-requires c = sound _ _ _ (net_taken _ _ c.read_net.ensures _ c.in_ok-read.was)

pub returns : goal.returns
unfolding net_layers header_of
returns c =
    let taken = net_taken _ _ c.read_net.ensures _ c.in_ok-read.was in
    ap accepted (c.layers.ensures ∙ ap (λ n. layers n (gates_of c.in_ok-read.read.net)) taken.inputs)
    ∙ sym (layers_accepted _ _ taken.reads)
