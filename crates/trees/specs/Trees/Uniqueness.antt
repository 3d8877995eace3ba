-- The settled net depends only on the table: two nets have the same settled net exactly if they compute the same table, "unused inputs included"
-- (document 02, K12): a net's table is over all inputs, whichever it uses.
-- Assumes nothing.
use Rattle.std.specs.Prelude.{◌<◌, ◌^◌, ◌≡◌}
use Rattle.laws.specs.Prelude.{ℕ, ◌∙◌, sym, ap, subst, subst⁻¹, List, zero-add, length, ext_get_or}
use Rattle.rules.specs.Calls.Answers.{ink_in}
use Rattle.rules.specs.Groups.Marks.{marks_of}
use Rattle.rules.specs.Nets.Settled.{settled_gates}
use Rattle.rules.specs.Nets.Trees.{Computes}
use Rattle.rules.specs.Nets.Value.{value, table_of}
use Rattle.rules.specs.Sheets.SheetRules.{IsNet}
use Rattle.rules.specs.Sheets.Sheets.{Gate}
use Rattle.laws.specs.Lists.Ranges.{map_range_length, map_range_at}
use Rattle.trees.specs.Trees.NetTree.{TreeOf, net_tree}
use Rattle.trees.specs.Trees.Wirings.{tree_below}

module _ (m n : ℕ) where
  pub net_table_length : (gates : List Gate) → length (table_of m n gates) ≡ m ^ n
  unfolding table_of
  net_table_length gates = map_range_length (value m n gates) 0 (m ^ n)

  -- the table's entry at an index is the value there
  pub table_at : (gates : List Gate) (p : ℕ) → p < m ^ n → ink_in (table_of m n gates) p ≡ value m n gates p
  unfolding table_of
  table_at gates p h = map_range_at (value m n gates) 0 (m ^ n) p 0 h ∙ ap (value m n gates) (zero-add p)

  -- a list of m to the n inks is the table of the gates that compute it
  pub table_is : (gates : List Gate) (inks : List ℕ) → length inks ≡ m ^ n → Computes m n gates (ink_in inks) → table_of m n gates ≡ inks
  table_is gates inks count has =
      ext_get_or 0 (table_of m n gates) inks (net_table_length gates ∙ sym count)
      (λ p h. let h' : p < m ^ n = subst (λ (k : ℕ). p < k) (net_table_length gates) h in table_at gates p h' ∙ has p h')

-- the settled net of the table that a gate list computes
unfoldable pub settled_of : ℕ → ℕ → List Gate → List Gate
settled_of m n gates = settled_gates m n (ink_in (table_of m n gates)) (marks_of m n (ink_in (table_of m n gates)))

module _ (m n : ℕ) (pos : 0 < m) where
  -- a net's inks are below m
  pub net_inks : (gates : List Gate) → IsNet m n gates → (p : ℕ) → p < m ^ n → ink_in (table_of m n gates) p < m
  net_inks gates net p h =
      let t : TreeOf m n gates = net_tree m n gates net in
      subst⁻¹ (λ (k : ℕ). k < m) (table_at m n gates p h ∙ t.same p)
      (tree_below m n pos (λ k. k) t.tree t.filled p)
