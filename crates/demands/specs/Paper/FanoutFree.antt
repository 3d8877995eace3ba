-- Document 003 (Butler), sections I to III: fanout-free functions, and how marks decide them. A function of a group's levels that determines
-- the ink is fanout-free only if the group has mark 2; if it has, the group's classes are fanout-free, and so is the ink.
-- Assumes nothing.
use Rattle.std.specs.Prelude.{◌<◌, ◌≤◌, ◌+◌, ◌^◌, ◌≡◌, ◌≢◌, ◌⊎◌}
use Rattle.laws.specs.Prelude.{ℕ, ◌∙◌, sym, ap, refl, inl, inr, true, false, Bool, arith}
use Rattle.rules.specs.Groups.Groups.{part, size, multiplicity}
use Rattle.rules.specs.Groups.Marks.{marks_of}
use Rattle.rules.specs.Nets.Filling.{class_number, given}
use Rattle.rules.specs.Nets.Settled.{settled_wiring}
use Rattle.rules.specs.Nets.Trees.{Tree, wiring_in, tree_value, Filled, Apart}
use Rattle.rules.specs.Nets.Wirings.{Wiring, input, gate, group_of}
use Rattle.laws.specs.Lists.Tests.{not_both}
use Rattle.trees.specs.Trees.Trees.{fill, WiringOf, EachGate, Tells, mix}
use Rattle.trees.specs.Groups.Members.{member_single, single_below, join_below, size_single}
use Rattle.trees.specs.Groups.Levels.{part_below, part_part, part_mix}
use Rattle.trees.specs.Groups.Classes.{Few, class_part, few_classes}
use Rattle.trees.specs.Trees.Wirings.{tree_part, necessity, gate_sufficiency, fill_filled}
use Rattle.trees.specs.Trees.GateLists.{fill_wiring}
use Rattle.trees.specs.Groups.MarkRule.{to_none, to_two, to_one, way, marked, three_way}
use Rattle.trees.specs.Trees.MarkTwo.{wiring_mark, settled_wiring_of}

-- A network of 2-input gates over the inputs of X, each used once, that has the values of g. "Thus, the structure is a tree whose
-- root node is a gate supplying the (single) network output."
pub record Realization (m n x : ℕ) (g : ℕ → ℕ) : Type 0 where
  pub tree : Tree
  pub wired : WiringOf n x (wiring_in tree)
  pub filled : Filled m tree
  pub has : (p : ℕ) → p < m ^ n → tree_value m n tree p ≡ g (part m n x p)

-- g, a function of the levels of X, is fanout-free: "If |X| = 1 .. g1(X) is fanout-free and no further test of g1 is required."
abbrev pub FanoutFree : ℕ → ℕ → ℕ → (ℕ → ℕ) → Type 0
FanoutFree m n x g = (size n x ≡ 1) ⊎ Realization m n x g

module _ (m n : ℕ) (pos : 0 < m) (f : ℕ → ℕ) (x : ℕ) (x< : x < 2 ^ n) where
  -- if g determines the ink, so does the value of a network for g
  realization_tells : (g : ℕ → ℕ) → Tells m n f x (λ p. g (part m n x p)) → (r : Realization m n x g)
      → Tells m n f x (tree_value m n r.tree)
  realization_tells g tells r p q e = tells p q (sym (value p) ∙ e ∙ value q)
    where
      value : (p : ℕ) → tree_value m n r.tree p ≡ g (part m n x p)
      value p =
          tree_part m n pos f r.tree r.wired.0 p (part m n x p) (rw r.wired.1 (sym (part_part m n pos x p)))
          ∙ r.has (part m n x p) (part_below m n pos x p)
          ∙ ap g (part_part m n pos x p)

  -- a fanout-free function that determines the ink gives its group mark 2
  pub fanout_free_mark : (g : ℕ → ℕ) → Tells m n f x (λ p. g (part m n x p)) → FanoutFree m n x g → marked m n pos f x ≡ 2
  fanout_free_mark g tells (inl one) = (three_way m n pos f x x<).single one
  fanout_free_mark g tells (inr r) =
      let few = necessity m n pos f r.tree r.wired.0 r.filled (rw r.wired.1 (realization_tells g tells r)) in
      rw r.wired.1 at (wiring_mark m n pos f (wiring_in r.tree) r.wired.0 few)

  -- if a table depends only on X's inputs and its ink is fanout-free, X has mark 2
  pub own_ink_mark : ((p : ℕ) → f (part m n x p) ≡ f p) → FanoutFree m n x f → marked m n pos f x ≡ 2
  own_ink_mark own = fanout_free_mark f (λ p q e y. same p y ∙ e ∙ sym (same q y))
    where
      same : (p y : ℕ) → f (mix m n x p y) ≡ f (part m n x p)
      same p y = sym (own (mix m n x p y)) ∙ ap f (part_mix m n pos x p y x<)

  -- if the mark is not 0, there are few classes
  pub marked_few : 0 < marked m n pos f x → multiplicity m n f x ≤ m
  marked_few some = elim (way m n pos f x x<) [
    | to_none _ e ↦ absurd (omega arith)
    | to_two _ few _ e ↦ few
    | to_one _ few _ _ e ↦ few
  ]

module _ (m n : ℕ) (pos : 0 < m) (f : ℕ → ℕ) (inks : (p : ℕ) → p < m ^ n → f p < m) (x : ℕ) (x< : x < 2 ^ n) where
  -- what the last gate of a wiring of X gives: the ink, or the class
  abbrev function : Bool → ℕ → ℕ
  function true p = f p
  function false p = class_number m n f x p

  -- as a function of X's levels
  given_function : (last : Bool) (p : ℕ) → given m n f last x p ≡ function last (part m n x p)
  unfolding given
  given_function true p = refl
  given_function false p = sym (class_part m n pos f x x< p)

  -- a wiring of X with few classes at each gate makes both fanout-free
  wired_free : (last : Bool) (w : Wiring) → WiringOf n x w → EachGate (Few m n f) w → FanoutFree m n x (function last)
  unfolding group_of
  wired_free last (input i) of few = inl (rw (← of.1) (size_single i n of.0))
  wired_free last (gate a b) of few =
      inr (record {
        tree = fill m n f last (gate a b);
        wired = rw (fill_wiring m n f last (gate a b)) of;
        filled = fill_filled m n pos f (gate a b) of.0 few inks last;
        has = λ p h. gate_sufficiency m n pos f a b of.0 few last p ∙ ap (λ (g : ℕ). given m n f last g p) of.1 ∙ given_function last p;
      })

  -- and a group of mark 2 has such a wiring
  marked_free : (last : Bool) → marked m n pos f x ≡ 2 → FanoutFree m n x (function last)
  marked_free last two =
      let w = settled_wiring_of m n pos f x x< two in
      wired_free last (settled_wiring n (marks_of m n f) x) w.0 w.1

  -- the classes of a group of mark 2 are fanout-free, ..
  pub classes_fanout_free : marked m n pos f x ≡ 2 → FanoutFree m n x (class_number m n f x)
  classes_fanout_free = marked_free false

  -- .. and so is the ink, as a function of its levels
  pub ink_fanout_free : marked m n pos f x ≡ 2 → FanoutFree m n x f
  ink_fanout_free = marked_free true

-- ---- "If |X| = 1 or 2, g1(X) is fanout-free": with two inputs one gate has its values

-- two different inputs, as groups, share no input
pair_apart : (n i j : ℕ) → i ≢ j → Apart n (2 ^ i) (2 ^ j)
pair_apart n i j differ k h = rw (member_single k i, member_single k j) (not_both k i j differ)

-- any function of two inputs with m values
pub pair_fanout_free : (m n : ℕ) → 0 < m → (i j : ℕ) → i < n → j < n → i ≢ j → (g : ℕ → ℕ)
    → ((p : ℕ) → g (part m n (2 ^ i + 2 ^ j) p) < m) → FanoutFree m n (2 ^ i + 2 ^ j) g
unfolding group_of
pair_fanout_free m n pos i j i< j< differ g below =
    go (wired_free m n pos table (λ p h. below p) x x< true (gate (input i) (input j)) ((apart, i<, j<), refl) (few, tt, tt))
  where
    x : ℕ
    x = 2 ^ i + 2 ^ j

    apart : Apart n (2 ^ i) (2 ^ j)
    apart = pair_apart n i j differ

    x< : x < 2 ^ n
    x< = join_below n (2 ^ i) (2 ^ j) (single_below i n i<) (single_below j n j<) apart

    table : ℕ → ℕ
    table p = g (part m n x p)

    few : multiplicity m n table x ≤ m
    few = few_classes m n pos table x x< m table below (λ p q e y. rw (part_mix m n pos x p y x<, part_mix m n pos x q y x<) e)

    go : FanoutFree m n x table → FanoutFree m n x g
    go (inl one) = inl one
    go (inr r) =
        inr (record { tree = r.tree; wired = r.wired; filled = r.filled; has = λ p h. r.has p h ∙ ap g (part_part m n pos x p) })

-- ---- tables given by their list of inks
