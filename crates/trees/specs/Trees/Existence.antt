-- "A tree exists exactly when the whole group has mark 2." A tree is any net with the same m and n, whatever its leaves, its wiring and its
-- gates' digits. A net with the table has every input that matters among its leaves; and if the whole group has mark 2, the settled net, which
-- is on the table's leaves, has the table.
-- Assumes nothing.
use Rattle.std.specs.Prelude.{◌<◌, ◌^◌, ◌≡◌}
use Rattle.laws.specs.Prelude.{ℕ, ◌∙◌, sym, ap, true≢false, List, arith}
use Rattle.rules.specs.Groups.Groups.{part, size}
use Rattle.rules.specs.Nets.Filling.{filled}
use Rattle.rules.specs.Nets.Trees.{Tree, wiring_in, tree_value, EachOnce, Filled, Computes}
use Rattle.rules.specs.Nets.Wirings.{Wiring, group_of, gates_in}
use Rattle.rules.specs.Sheets.SheetRules.{IsNet}
use Rattle.rules.specs.Sheets.Sheets.{Gate}
use Rattle.laws.specs.Lists.Tests.{not_false_true}
use Rattle.trees.specs.Trees.Trees.{mix, Tells, EachGate, WiringOf}
use Rattle.trees.specs.Groups.Levels.{mix_below, part_mix, part_ext}
use Rattle.trees.specs.Trees.NetTree.{net_tree, net_wiring, net_group}
use Rattle.trees.specs.Groups.Classes.{Few}
use Rattle.trees.specs.Trees.Wirings.{group_below, gates_in_size, tree_part, necessity}
use Rattle.trees.specs.Leaves.Mattering.{Holding, matters_differ}

-- a wiring of a group with two or more members has a gate
pub several_gates : (n g : ℕ) (w : Wiring) → WiringOf n g w → 1 < size n g → 0 < gates_in w
several_gates n g w of several = omega (arith, gates_in_size n w of.0, ap (size n) of.1)

module _ (m n : ℕ) (pos : 0 < m) (f : ℕ → ℕ) where
  -- ---- what is necessary for a tree with the table

  -- a tree that has the table
  module _ (t : Tree) (once : EachOnce n (wiring_in t)) (has : (p : ℕ) → p < m ^ n → tree_value m n t p ≡ f p) where
    abbrev own : ℕ
    own = group_of (wiring_in t)

    -- its value over its own leaves determines the ink
    tells_own : Tells m n f own (tree_value m n t)
    tells_own p q e y = sym (ink p) ∙ e ∙ ink q
      where
        own< : own < 2 ^ n
        own< = group_below n (wiring_in t) once

        ink : (p : ℕ) → tree_value m n t p ≡ f (mix m n own p y)
        ink p =
            sym (tree_part m n pos f t once (mix m n own p y) p (part_mix m n pos own p y own<))
            ∙ has (mix m n own p y) (mix_below m n pos own p y own<)

    -- so each gate's group has at most m classes, ..
    pub tree_few : Filled m t → EachGate (Few m n f) (wiring_in t)
    tree_few filled = necessity m n pos f t once filled tells_own

    -- .. and every input that matters is one of its leaves: an input that is not a leaf changes no value
    pub computes_holds : Holding m n pos f own
    computes_holds i i< is =
        not_false_true _ λ out.
        let two = matters_differ m n pos f i i< is in
        let same : part m n own two.one ≡ part m n own two.other =
        part_ext m n pos own two.one two.other (λ j j< within. two.elsewhere j j< (λ e. true≢false (sym (rw e at within) ∙ out))) in
        two.inks (sym (has _ two.one_below) ∙ tree_part m n pos f t once _ _ same ∙ has _ two.other_below)

  -- the same for a net
  module _ (gates : List Gate) (net : IsNet m n gates) (has : Computes m n gates f) where
    has_tree : (p : ℕ) → p < m ^ n → tree_value m n (net_tree m n gates net).tree p ≡ f p
    has_tree p h = sym ((net_tree m n gates net).same p) ∙ has p h

    pub net_few : EachGate (Few m n f) (net_wiring m n gates net)
    net_few = let t = net_tree m n gates net in tree_few t.tree t.once has_tree t.filled

    pub net_holds : Holding m n pos f (net_group m n gates net)
    net_holds = let t = net_tree m n gates net in computes_holds t.tree t.once has_tree
