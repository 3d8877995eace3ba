-- `capi::make::sitgurp_make` meets its contract: it is the call, its answer as two numbers. Assumes nothing.
use Rattle.capi.specs.Made.{flat_made}
use Rattle.capi.proofs.make.sitgurp_make.Goals as goal

pub returns : goal.returns
returns c = flat_made c.make.ensures c.from.ensures
