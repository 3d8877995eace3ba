-- Two tables, one a renaming of the other's inks, have the same wirings, since these are chosen by marks and leaves: the settled one, the
-- shallow one, and each of the family, and equally many of these. A given wiring fits both or neither, at the same gate.
-- Assumes nothing.
use Rattle.std.specs.Prelude.{◌<◌, ◌+◌, ◌-◌, ◌≡◌, ◌&&◌, ◌∷◌, ◌++◌}
use Rattle.laws.specs.Prelude.{ℕ, suc, ◌∙◌, sym, ap, refl, ap₂, Bool, not, List, [], map, eqb, ltb, length, get_or}
use Rattle.laws.specs.Prelude.{length-map}
use Rattle.rules.specs.Calls.Answers.{ink_in}
use Rattle.rules.specs.Calls.Keeping.{link_of, roomy_gates, roomy_before, leaves_out}
use Rattle.rules.specs.Groups.Marks.{marks_of}
use Rattle.rules.specs.Lists.{range, any, with_each}
use Rattle.rules.specs.Nets.Family.{counts_of, tree_count, family_wiring, gate_groups}
use Rattle.rules.specs.Nets.Filling.{input_groups, filled_from, filled}
use Rattle.rules.specs.Nets.Leaves.{leaves_of}
use Rattle.rules.specs.Nets.Settled.{settled_wiring}
use Rattle.rules.specs.Nets.Wirings.{Wiring, Link, links_of}
use Rattle.rules.specs.Sheets.Sheets.{Gate, Net, Table, used_by}
use Rattle.rules.specs.Nets.Layers.{gate_ways, with_ways, ways_of, most, layers}
use Rattle.rules.specs.Nets.Shallow.{shallow_wiring, shallow_gates}
use Rattle.laws.specs.Lists.Tests.{any_same}
use Rattle.trees.specs.Filling.Fillings.{link_group}
use Rattle.trees.specs.Keeping.KeptLinks.{filled_keeps}
use Rattle.trees.specs.Groups.SameTests.{place_same}
use Rattle.trees.specs.Renaming.Renaming.{SameInks, multiplicity_renamed, marks_renamed, matters_renamed, leaves_renamed}

module _ (m n : ℕ) (pos : 0 < m) (f h : ℕ → ℕ) (same : SameInks m n f h) where
  -- what is made of marks and leaves is the same
  by_marks : {A : Type 0} (make : List ℕ → ℕ → A) → make (marks_of m n f) (leaves_of m n f) ≡ make (marks_of m n h) (leaves_of m n h)
  by_marks make = ap₂ make (marks_renamed m n pos f h same) (leaves_renamed m n pos f h same)

  -- ---- chosen wirings

  pub settled_wiring_renamed : settled_wiring n (marks_of m n f) (leaves_of m n f) ≡ settled_wiring n (marks_of m n h) (leaves_of m n h)
  settled_wiring_renamed = by_marks (settled_wiring n)

  -- "Shallow nets keep it too."
  pub shallow_wiring_renamed : shallow_wiring n (marks_of m n f) (leaves_of m n f) ≡ shallow_wiring n (marks_of m n h) (leaves_of m n h)
  shallow_wiring_renamed = by_marks (shallow_wiring n)

  -- equally many trees, ..
  pub count_renamed : tree_count n (marks_of m n f) (leaves_of m n f) ≡ tree_count n (marks_of m n h) (leaves_of m n h)
  count_renamed = by_marks (tree_count n)

  -- .. and the same wiring under each number
  pub family_wiring_renamed : (number : ℕ)
      → family_wiring n (marks_of m n f) (counts_of n (marks_of m n f)) n (leaves_of m n f) number
      ≡ family_wiring n (marks_of m n h) (counts_of n (marks_of m n h)) n (leaves_of m n h) number
  family_wiring_renamed number = by_marks (λ marks leaves. family_wiring n marks (counts_of n marks) n leaves number)

  -- ---- a given wiring

  -- the first gate with too many classes is the same
  pub roomy_renamed : (gates : List Gate) → roomy_gates m n f gates ≡ roomy_gates m n h gates
  unfolding roomy_gates
  roomy_renamed gates = place_same _ _ (gate_groups n gates) (λ g is. ap (ltb m) (multiplicity_renamed m n pos f h same g))

-- ---- layers

-- a wiring has the same ways to its references, whatever table it is filled for
ways_filled : (m n : ℕ) (f h : ℕ → ℕ) (ways : List (List ℕ)) (groups : List ℕ) (links : List Link)
    → with_ways ways (filled_from m n f groups links) ≡ with_ways ways (filled_from m n h groups links)
unfolding with_each gate_ways filled_from
ways_filled m n f h ways groups [] = refl
ways_filled m n f h ways groups (l ∷ links) =
    ways_filled m n f h (ways ++ (map suc (get_or ways l.left [] ++ get_or ways l.right []) ∷ [])) (groups ++ (link_group groups l ∷ [])) links

-- and so the same layers
layers_filled : (m n : ℕ) (f h : ℕ → ℕ) (links : List Link) → layers n (filled m n f links) ≡ layers n (filled m n h links)
unfolding layers ways_of filled
layers_filled m n f h links =
    ap₂ (λ (ways : List (List ℕ)) (count : ℕ). most (get_or ways (n + count - 1) []))
    (ways_filled m n f h (map (λ _. 0 ∷ []) (range 0 n)) (input_groups n) links) (many f ∙ sym (many h))
  where
    many : (f : ℕ → ℕ) → length (filled m n f links) ≡ length links
    many f = sym (length-map (filled m n f links) link_of) ∙ ap length (filled_keeps m n f links)

-- "Shallow nets keep it too."
pub shallow_layers_renamed : (m n : ℕ) → 0 < m → (f h : ℕ → ℕ) → SameInks m n f h
    → layers n (shallow_gates m n f (marks_of m n f)) ≡ layers n (shallow_gates m n h (marks_of m n h))
unfolding shallow_gates
shallow_layers_renamed m n pos f h same =
    layers_filled m n f h (links_of n 0 (shallow_wiring n (marks_of m n f) (leaves_of m n f)))
    ∙ ap (λ (w : Wiring). layers n (filled m n h (links_of n 0 w))) (shallow_wiring_renamed m n pos f h same)

-- ---- for a net sheet and two table sheets

module _ (net : Net) (t u : Table) (pos : 0 < net.header.levels)
    (same : SameInks net.header.levels net.header.inputs (ink_in t.inks) (ink_in u.inks)) where
  abbrev m : ℕ
  m = net.header.levels

  abbrev n : ℕ
  n = net.header.inputs

  pub roomy_before_renamed : roomy_before net t ≡ roomy_before net u
  unfolding roomy_before
  roomy_before_renamed = roomy_renamed m n pos (ink_in t.inks) (ink_in u.inks) same net.gates

  -- it leaves out an input that matters to one exactly if it leaves out one that matters to the other
  pub leaves_out_renamed : leaves_out net t ≡ leaves_out net u
  unfolding leaves_out
  leaves_out_renamed =
      any_same _ _ (range 0 n)
      (λ i is. ap (λ (b : Bool). not (any (eqb i) (used_by net.gates)) && b) (matters_renamed m n pos (ink_in t.inks) (ink_in u.inks) same i))
