-- What a wiring by value represents: its links, in the order of the gates.
-- Assumes nothing.
use Rattle.std.specs.Prelude.{◌<◌, ◌+◌, ◌-◌, ◌≡◌, ◌∷◌, ◌++◌}
use Rattle.laws.specs.Prelude.{ℕ, ◌∙◌, ap, refl, ap₂, List, [], map, zero-add, add-one, arith, length, get_or, set, replicate}
use Rattle.laws.specs.Prelude.{get_or-set_same, get_or-set_other}
use Rattle.rules.specs.Lists.{range}
use Rattle.rules.specs.Limits.{most_inputs}
use Rattle.rules.specs.Nets.Wirings.{Link}
use Rattle.laws.specs.Lists.Ranges.{map_range_length, map_range_at, map_range_suc, map_range_same}
use Rattle.wirings.specs.declared.forms.Wiring.{Wiring}

-- the gate with k gates before it
unfoldable pub link_at : Wiring → ℕ → Link
link_at w k = record { left = get_or w.left k 0; right = get_or w.right k 0 }

unfoldable pub links_in : Wiring → List Link
links_in w = map (link_at w) (range 0 w.gates)

-- it has as many links as gates
pub links_count : (w : Wiring) → length (links_in w) ≡ w.gates
unfolding links_in
links_count w = map_range_length (link_at w) 0 w.gates

pub link_in : (w : Wiring) (k : ℕ) (d : Link) → k < w.gates → get_or (links_in w) k d ≡ link_at w k
unfolding links_in
link_in w k d h = map_range_at (link_at w) 0 w.gates k d h ∙ ap (link_at w) (zero-add k)

-- a wiring with no gate yet
unfoldable pub no_links : Wiring
no_links = record { gates = 0; left = replicate (most_inputs - 1) 0; right = replicate (most_inputs - 1) 0 }

pub none_in : (w : Wiring) → w.gates ≡ 0 → links_in w ≡ []
unfolding links_in range
none_in w e = ap (λ (k : ℕ). map (link_at w) (range 0 k)) e

-- ---- one more gate

pub record Linked (left right : ℕ) (before after : Wiring) : Type 0 where
  pub count : after.gates ≡ before.gates + 1
  pub links : links_in after ≡ links_in before ++ (record { left = left; right = right } ∷ [])

abbrev more : Wiring → ℕ → ℕ → Wiring
more w left right = record { gates = w.gates + 1; left = set w.left w.gates left; right = set w.right w.gates right }

module _ (w : Wiring) (left right : ℕ) (lefts : w.gates < length w.left) (rights : w.gates < length w.right) where
  earlier : (k : ℕ) → k < w.gates → link_at (more w left right) k ≡ link_at w k
  unfolding link_at
  earlier k h = λ i. record {
    left = get_or-set_other w.left w.gates k left 0 (λ e. omega arith) i;
    right = get_or-set_other w.right w.gates k right 0 (λ e. omega arith) i;
  }

  last : link_at (more w left right) w.gates ≡ record { left = left; right = right }
  unfolding link_at
  last = λ i. record {
    left = get_or-set_same w.left w.gates left 0 lefts i;
    right = get_or-set_same w.right w.gates right 0 rights i;
  }

  pub linked : Linked left right w (more w left right)
  unfolding links_in
  linked =
      let at = link_at (more w left right) in
      record {
        count = refl;
        links = ap (λ (k : ℕ). map at (range 0 k)) (add-one w.gates)
            ∙ map_range_suc at w.gates
            ∙ ap₂ (λ (ls : List Link) (l : Link). ls ++ (l ∷ []))
            (map_range_same at (link_at w) 0 w.gates (λ k _ h. earlier k (omega arith)))
            last;
      }
