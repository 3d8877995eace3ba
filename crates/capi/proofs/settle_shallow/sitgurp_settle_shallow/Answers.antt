-- `capi::settle_shallow::sitgurp_settle_shallow` meets its contract: it is the call, its answer as three numbers. Assumes nothing.
use Rattle.capi.specs.Layered.{flat_layered_lem}
use Rattle.capi.proofs.settle_shallow.sitgurp_settle_shallow.Goals as goal

pub returns : goal.returns
returns c = flat_layered_lem c.settle_shallow.ensures c.from.ensures
