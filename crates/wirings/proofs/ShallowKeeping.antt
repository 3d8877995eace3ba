-- What the search for the shallowest split looks for: the A that keeps its group shallowest.
-- Assumes nothing.
use Rattle.std.specs.Prelude.{◌&&◌}
use Rattle.laws.specs.Prelude.{ℕ, ap, Bool, and-eq-true_iff, List, eqb, get_or}
use Rattle.rules.specs.Nets.Shallow.{split_layers}
use Rattle.trees.specs.Trees.MarkTwo.{is_a}
use Rattle.marks.specs.FirstParts.{both_two, Looked, settled_looked}

module _ (marks : List ℕ) (g : ℕ) (layers : List ℕ) where
  abbrev pub keeps : ℕ → Bool
  keeps a = both_two marks g a && eqb (split_layers layers g a) (get_or layers g 0)

  abbrev pub shallow_test : ℕ → ℕ → Bool
  shallow_test n a = is_a n marks g a && eqb (split_layers layers g a) (get_or layers g 0)

  pub shallow_looked : Looked g shallow_test keeps
  shallow_looked =
      record {
        within = λ n a e. (settled_looked marks g).within n a ((and-eq-true_iff (is_a n marks g a) _).0 e).0;
        at_part = λ n a is_inside is_held_lem.
            ap (λ (t : Bool). t && eqb (split_layers layers g a) (get_or layers g 0)) ((settled_looked marks g).at_part n a is_inside is_held_lem);
      }
