-- `fields::header::names::are_name_bytes` meets its contract.
-- Assumes nothing.
use Rattle.std.specs.Prelude.{◌≡◌, ◌&&◌, ◌∷◌}
use Rattle.std.specs.List.{list_all}
use Rattle.std.proofs.lemmas.Iterator.{YieldsList-from_slice}
use Rattle.std.proofs.lemmas.Iterator.Search.{all_from_yields_List}
use Rattle.laws.specs.Prelude.{ℕ, ◌∙◌, refl, Bool, true, false, List, [], rules}
use Rattle.rules.specs.Lists.{all}
use Rattle.fields.specs.Header.Names.{is_name_byte}
use Rattle.fields.proofs.header.names.are_name_bytes.Goals as goal

all_same : (test : ℕ → Bool) (xs : List ℕ) → list_all test xs ≡ all test xs
unfolding all
all_same test [] = refl
all_same test (x ∷ xs) = go (test x) (all_same test xs)
  where
    go : (t : Bool) → list_all test xs ≡ all test xs → (t && list_all test xs) ≡ elim t [ true ↦ all test xs | false ↦ false ]
    go true e = e
    go false e = refl

pub returns : goal.returns
returns c =
    all_from_yields_List is_name_byte _ _ c.all.result c.all.ensures.ran (YieldsList-from_slice c.args.w.now cc) (λ x b q k. search rules)
    ∙ all_same _ _
