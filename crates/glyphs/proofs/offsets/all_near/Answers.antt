-- `glyphs::offsets::all_near` meets its contract. Assumes nothing.
use Rattle.std.specs.Prelude.{nat_abs}
use Rattle.std.proofs.Common.{◌∙◌, leb, rules, tests}
use Rattle.std.proofs.lemmas.Iterator.{YieldsList-from_slice}
use Rattle.std.proofs.lemmas.Iterator.Search.{all_from_yields_List}
use Rattle.glyphs.specs.Offsets.{near_all}
use Rattle.glyphs.proofs.offsets.all_near.Goals as goal

pub returns : goal.returns
returns c =
    let offsets = c.args.offsets.now in
    all_from_yields_List (λ o. leb (nat_abs o) 2) _ _ _ c.all.ensures.ran (YieldsList-from_slice offsets cc) (λ x b q k. search (rules, tests))
    ∙ near_all offsets
