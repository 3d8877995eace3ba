-- `tree_counts::fast::full::trees_on` meets its contract: each entry of the table is checked against the rule. Assumes nothing.
use Rattle.std.specs.Prelude.{◌∷◌}
use Rattle.laws.specs.Prelude.{ℕ, refl, List, []}
use Rattle.rules.specs.Lists.{range, all}
use Rattle.trees.specs.Families.FamilyBounds.{trees_on}
use Rattle.tree_counts.specs.Fast.Full.{table_entry}
use Rattle.tree_counts.proofs.fast.full.trees_on.Goals as goal

abbrev trees : List ℕ
trees = 0 ∷ 1 ∷ 1 ∷ 3 ∷ 15 ∷ 105 ∷ 945 ∷ 10_395 ∷ 135_135 ∷ 2_027_025 ∷ 34_459_425 ∷ 654_729_075 ∷ 13_749_310_575 ∷ []

pub returns : goal.returns
unfolding all range trees_on
returns c = table_entry trees refl c.args.k c.requires
