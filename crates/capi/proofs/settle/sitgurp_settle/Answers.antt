-- `capi::settle::sitgurp_settle` meets its contract: it is the call, its answer as two numbers. Assumes nothing.
use Rattle.capi.specs.Made.{flat_made}
use Rattle.capi.proofs.settle.sitgurp_settle.Goals as goal

pub returns : goal.returns
returns c = flat_made c.settle.ensures c.from.ensures
