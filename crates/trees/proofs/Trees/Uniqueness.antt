-- The theorems of Trees/Uniqueness that rest on a definition which a must-fail edit changes: they stand here, so that the edit leaves specs/ readable.
-- Assumes nothing.
use Rattle.std.specs.Prelude.{◌<◌, ◌≡◌, ◌↔◌}
use Rattle.laws.specs.Prelude.{ℕ, ◌∙◌, sym, ap, List}
use Rattle.rules.specs.Calls.Answers.{ink_in}
use Rattle.rules.specs.Groups.Groups.{whole_group}
use Rattle.rules.specs.Groups.Marks.{marks_of}
use Rattle.rules.specs.Nets.Settled.{settled_gates}
use Rattle.rules.specs.Nets.Value.{table_of}
use Rattle.rules.specs.Sheets.SheetRules.{IsNet}
use Rattle.rules.specs.Sheets.Sheets.{Gate}
use Rattle.trees.specs.Trees.NetTree.{net_several}
use Rattle.trees.specs.Groups.MarkRule.{marked}
use Rattle.trees.proofs.Trees.Existence.{net_marks, settled_net_lem}
use Rattle.trees.specs.Trees.Uniqueness.{net_inks, net_table_length, settled_of, table_at, table_is}

module _ (m n : ℕ) (pos : 0 < m) where
  -- a net's table gives the whole group mark 2
  pub net_two : (gates : List Gate) → IsNet m n gates → marked m n pos (ink_in (table_of m n gates)) (whole_group n) ≡ 2
  net_two gates net = net_marks m n pos (ink_in (table_of m n gates)) gates net (λ p h. sym (table_at m n gates p h))

  -- a net settles to a net with its table
  pub settled_is_net : (gates : List Gate) → IsNet m n gates → IsNet m n (settled_of m n gates)
  unfolding settled_of
  settled_is_net gates net =
      (settled_net_lem m n pos (net_several m n gates net) (ink_in (table_of m n gates)) (net_inks m n pos gates net) (net_two gates net)).0

  pub settled_table : (gates : List Gate) → IsNet m n gates → table_of m n (settled_of m n gates) ≡ table_of m n gates
  unfolding settled_of
  settled_table gates net =
      table_is m n (settled_of m n gates) (table_of m n gates) (net_table_length m n gates)
      (settled_net_lem m n pos (net_several m n gates net) (ink_in (table_of m n gates)) (net_inks m n pos gates net) (net_two gates net)).1

  -- Two nets have the same settled net exactly if they compute the same table.
  pub settled_unique : (g h : List Gate) → IsNet m n g → IsNet m n h
      → (settled_of m n g ≡ settled_of m n h) ↔ (table_of m n g ≡ table_of m n h)
  unfolding settled_of
  settled_unique g h net_g net_h = (
    λ e. sym (settled_table g net_g) ∙ ap (table_of m n) e ∙ settled_table h net_h,
    λ e. ap (λ (inks : List ℕ). settled_gates m n (ink_in inks) (marks_of m n (ink_in inks))) e,
  )
