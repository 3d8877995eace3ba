-- `net_sheets::reader::digits::is_table` meets its contract: the digits are tested one by one.
-- Assumes nothing.
use Rattle.std.specs.Prelude.{◌≡◌, ◌&&◌, ◌∷◌}
use Rattle.std.specs.List.{list_all}
use Rattle.std.proofs.lemmas.Iterator.{YieldsList-from_slice}
use Rattle.std.proofs.lemmas.Iterator.Search.{all_from_yields_List}
use Rattle.laws.specs.Prelude.{ℕ, ◌∙◌, refl, Bool, true, false, List, [], rules}
use Rattle.rules.specs.Lists.{all}
use Rattle.rules.specs.Text.{is_digit}
use Rattle.net_sheets.specs.Reader.Digits.{table_long, table_digits}
use Rattle.net_sheets.proofs.reader.digits.is_table.Goals as goal

all_same : (test : ℕ → Bool) (xs : List ℕ) → list_all test xs ≡ all test xs
unfolding all
all_same test [] = refl
all_same test (x ∷ xs) = go (test x) (all_same test xs)
  where
    go : (t : Bool) → list_all test xs ≡ all test xs → (t && list_all test xs) ≡ elim t [ true ↦ all test xs | false ↦ false ]
    go true e = e
    go false e = refl

pub returns-then-w-m : goal.returns-then-w-m
returns-then-w-m c = table_long _ _ c.if-w-m.true

pub returns : goal.returns
unfolding is_digit
returns c =
    all_from_yields_List (is_digit c.args.m) _ _ c.all.result c.all.ensures.ran (YieldsList-from_slice c.args.w.now cc) (λ x b q k. search rules)
    ∙ (all_same _ _ ∙ table_digits _ _ c.if-w-m.false)
