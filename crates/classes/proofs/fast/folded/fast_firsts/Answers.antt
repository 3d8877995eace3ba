-- `classes::fast::folded::fast_firsts` meets its contract: each way has what it requires. Assumes nothing.
use Rattle.laws.specs.Prelude.{lt_of_lt_of_le}
use Rattle.classes.specs.Keys.{key_below}
use Rattle.classes.proofs.fast.folded.fast_firsts.Goals as goal

pub class_firsts-requires : goal.class_firsts-requires
class_firsts-requires c =
    let width = c.key_width-width in
    let ready = c.requires.0 in (
      c.requires.2,
      ready.for_firsts,
      ready.for_links,
      ready.few,
      width.ensures.0,
      ready.no_chains,
      λ p. lt_of_lt_of_le (key_below c.args.m _ _ width.result p) ready.for_keys,
      ready.inside,
    )
