-- The links of any wiring added to others: those of its left side, those of its right side, its own.
-- Assumes nothing.
use Rattle.std.specs.Prelude.{◌+◌, ◌≡◌, ◌∷◌, ◌++◌}
use Rattle.laws.specs.Prelude.{ℕ, ◌∙◌, sym, ap, refl, ap₂, List, [], append_assoc, append-nil, arith}
use Rattle.rules.specs.Nets.Wirings.{input, gate, Link, gates_in, reference_to, links_of}
use Rattle.rules.specs.Nets.Wirings as rules
use Rattle.wirings.specs.declared.forms.Wiring.{Wiring}
use Rattle.wirings.specs.Links.{links_in, Linked}

-- the links of w are added, and `reference` refers to the last of them, or to w's only input
pub record AddedWiring (n : ℕ) (w : rules.Wiring) (before after : Wiring) (reference : ℕ) : Type 0 where
  pub count : after.gates ≡ before.gates + gates_in w
  pub links : links_in after ≡ links_in before ++ links_of n before.gates w
  pub refers : reference ≡ reference_to n before.gates w

-- an input has no link
pub wiring_input : (n i : ℕ) (w : Wiring) → AddedWiring n (input i) w w i
unfolding gates_in links_of reference_to
wiring_input n i w = record { count = omega arith; links = sym (append-nil (links_in w)); refers = refl }

-- a gate has those of its two sides, and its own
module _ (n : ℕ) (A B : rules.Wiring) (before mid later after : Wiring) (l r : ℕ) (left : AddedWiring n A before mid l) (right : AddedWiring n B mid later r)
    (own : Linked l r later after) where
  -- how many gates come before the gate itself
  later_count : later.gates ≡ before.gates + gates_in A + gates_in B
  later_count = omega (arith, left.count, right.count)

  all_links : links_in after ≡ links_in before ++ links_of n before.gates (gate A B)
  unfolding links_of
  all_links =
      let of_a : List Link = links_of n before.gates A in
      let of_b_lem : List Link = links_of n (before.gates + gates_in A) B in
      let line : ℕ → ℕ → List Link = λ x y. record { left = x; right = y } ∷ [] in
      own.links
      ∙ ap₂ (λ (xs ys : List Link). xs ++ ys)
      (right.links
      ∙ ap₂ (λ (xs : List Link) (k : ℕ). xs ++ links_of n k B) left.links left.count
      ∙ append_assoc (links_in before) of_a of_b_lem)
      (ap₂ line left.refers (right.refers ∙ ap (λ (k : ℕ). reference_to n k B) left.count))
      ∙ append_assoc (links_in before) (of_a ++ of_b_lem) (line (reference_to n before.gates A) (reference_to n (before.gates + gates_in A) B))

  pub wiring_gate : AddedWiring n (gate A B) before after (n + later.gates)
  unfolding gates_in reference_to
  wiring_gate = record { count = omega (arith, own.count, later_count); links = all_links; refers = omega (arith, later_count) }
