-- `capi::family_count::sitgurp_family_count` meets its contract: it is the call, its answer as two numbers. Assumes nothing.
use Rattle.capi.specs.Counted.{flat_counted}
use Rattle.capi.proofs.family_count.sitgurp_family_count.Goals as goal

pub returns : goal.returns
returns c = flat_counted c.family_count.ensures c.from.ensures
