-- `capi::family_tree::sitgurp_family_tree` meets its contract: it is the call, its answer as two numbers. Assumes nothing.
use Rattle.capi.specs.Made.{flat_made}
use Rattle.capi.proofs.family_tree.sitgurp_family_tree.Goals as goal

pub returns : goal.returns
returns c = flat_made c.family_tree.ensures c.from.ensures
