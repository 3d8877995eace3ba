-- What depends only on a net's wiring: its references, its gates' groups, and so whether gates with other tables are a net. Filling keeps the wiring.
-- Assumes nothing.
use Rattle.std.specs.Prelude.{◌<◌, ◌+◌, ◌≡◌, ◌∷◌, ◌++◌}
use Rattle.laws.specs.Prelude.{ℕ, suc, ◌∙◌, sym, ap, refl, subst⁻¹, List, [], append_assoc, append-nil, arith, eqb, length, get_or}
use Rattle.laws.specs.Prelude.{length-map, get_or-append-add}
use Rattle.rules.specs.Calls.Keeping.{link_of, gate_links, kept_gates}
use Rattle.rules.specs.Lists.{any, with_each}
use Rattle.rules.specs.Nets.Family.{groups_from, gate_groups}
use Rattle.rules.specs.Nets.Filling.{input_groups, filled_from, filled}
use Rattle.rules.specs.Nets.Wirings.{Link}
use Rattle.rules.specs.Sheets.SheetRules.{RefersBack, Distinct, Tables, IsNet}
use Rattle.rules.specs.Sheets.Sheets.{Gate, used_by}
use Rattle.trees.specs.Filling.Fillings.{link_group, with_groups, inputs_grouped}
use Rattle.trees.specs.Filling.GateGroups.{link_groups}

-- ---- the rules of a net

-- references back, for links; `k` references come before the list
abbrev LinksBack : ℕ → List Link → Type 0
LinksBack k [] = Unit {0}
LinksBack k (l ∷ links) = (l.left < k) × (l.right < k) × LinksBack (suc k) links

-- the references that some links use
abbrev used_links : List Link → List ℕ
used_links [] = []
used_links (l ∷ links) = l.left ∷ l.right ∷ used_links links

back_links : (k : ℕ) (gates : List Gate) → RefersBack k gates → LinksBack k (gate_links gates)
back_links k [] back = tt
back_links k (g ∷ gates) back = (back.0, back.1, back_links (suc k) gates back.2)

links_back : (k : ℕ) (gates : List Gate) → LinksBack k (gate_links gates) → RefersBack k gates
links_back k [] back = tt
links_back k (g ∷ gates) back = (back.0, back.1, links_back (suc k) gates back.2)

used_links_lem : (gates : List Gate) → used_by gates ≡ used_links (gate_links gates)
unfolding used_by
used_links_lem [] = refl
used_links_lem (g ∷ gates) = ap (λ (used : List ℕ). g.left ∷ g.right ∷ used) (used_links_lem gates)

-- gates with the same wiring use the same references, ..
pub same_used : (gates others : List Gate) → gate_links others ≡ gate_links gates → used_by others ≡ used_by gates
same_used gates others same = used_links_lem others ∙ ap used_links same ∙ sym (used_links_lem gates)

-- .. and there are equally many
same_length : (gates others : List Gate) → gate_links others ≡ gate_links gates → length others ≡ length gates
same_length gates others same = sym (length-map others link_of) ∙ ap length same ∙ length-map gates link_of

-- gates with a net's wiring, whatever their tables, are a net
pub same_net : (m n : ℕ) (gates others : List Gate) → gate_links others ≡ gate_links gates → IsNet m n gates → Tables m others → IsNet m n others
same_net m n gates others same net tables =
    let count = same_length gates others same in
    record {
      some = omega (arith, net.some);
      count = omega (arith, net.count);
      rules = record {
        back = links_back n others (subst⁻¹ (LinksBack n) same (back_links n gates net.rules.back));
        once = subst⁻¹ Distinct (same_used gates others same) net.rules.once;
        tables = tables;
      };
      used = λ k h. ap (any (eqb (n + k))) (same_used gates others same) ∙ net.used k (omega arith);
    }

-- ---- the groups of the gates

-- the groups of a gate list are those of its links
from_links : (groups : List ℕ) (gates : List Gate) → groups_from groups gates ≡ link_groups groups (gate_links gates)
unfolding groups_from link_groups
from_links groups [] = refl
from_links groups (g ∷ gates) =
    ap (λ (gs : List ℕ). link_group groups (link_of g) ∷ gs) (from_links (groups ++ (link_group groups (link_of g) ∷ [])) gates)

-- they follow the groups before
behind : (groups : List ℕ) (links : List Link) → with_groups groups links ≡ groups ++ link_groups groups links
unfolding with_each link_groups
behind groups [] = sym (append-nil groups)
behind groups (l ∷ links) =
    behind (groups ++ (link_group groups l ∷ [])) links
    ∙ append_assoc groups (link_group groups l ∷ []) (link_groups (groups ++ (link_group groups l ∷ [])) links)

links_groups_length : (groups : List ℕ) (links : List Link) → length (link_groups groups links) ≡ length links
unfolding link_groups
links_groups_length groups [] = refl
links_groups_length groups (l ∷ links) = ap suc (links_groups_length (groups ++ (link_group groups l ∷ [])) links)

module _ (n : ℕ) (gates : List Gate) where
  -- one for each gate
  pub gate_groups_length : length (gate_groups n gates) ≡ length gates
  unfolding gate_groups
  gate_groups_length = ap length (from_links (input_groups n) gates) ∙ links_groups_length (input_groups n) (gate_links gates) ∙ length-map gates link_of

  -- the group at a gate's reference
  pub gate_group_at : (k : ℕ) → get_or (with_groups (input_groups n) (gate_links gates)) (n + k) 0 ≡ get_or (gate_groups n gates) k 0
  unfolding gate_groups
  gate_group_at k =
      let count : n + k ≡ length (input_groups n) + k = omega (arith, (inputs_grouped n).0) in
      ap (λ (r : ℕ). get_or (with_groups (input_groups n) (gate_links gates)) r 0) count
      ∙ ap (λ (gs : List ℕ). get_or gs (length (input_groups n) + k) 0) (behind (input_groups n) (gate_links gates))
      ∙ get_or-append-add (input_groups n) (link_groups (input_groups n) (gate_links gates)) k 0
      ∙ ap (λ (gs : List ℕ). get_or gs k 0) (sym (from_links (input_groups n) gates))

-- two gate lists with the same wiring have the same groups
pub same_groups : (n : ℕ) (gates others : List Gate) → gate_links others ≡ gate_links gates → gate_groups n others ≡ gate_groups n gates
unfolding gate_groups
same_groups n gates others same =
    from_links (input_groups n) others ∙ ap (link_groups (input_groups n)) same ∙ sym (from_links (input_groups n) gates)

-- ---- filling keeps the wiring

from_kept : (m n : ℕ) (f : ℕ → ℕ) (groups : List ℕ) (links : List Link) → gate_links (filled_from m n f groups links) ≡ links
unfolding filled_from
from_kept m n f groups [] = refl
from_kept m n f groups (l ∷ links) = ap (λ (ls : List Link). l ∷ ls) (from_kept m n f (groups ++ (link_group groups l ∷ [])) links)

pub filled_keeps : (m n : ℕ) (f : ℕ → ℕ) (links : List Link) → gate_links (filled m n f links) ≡ links
unfolding filled
filled_keeps m n f links = from_kept m n f (input_groups n) links

-- "over the given wiring": left and right stay at every gate, in the same line order, ..
pub kept_links : (m n : ℕ) (f : ℕ → ℕ) (gates : List Gate) → gate_links (kept_gates m n f gates) ≡ gate_links gates
unfolding kept_gates
kept_links m n f gates = filled_keeps m n f (gate_links gates)

-- .. the filling depends only on the wiring, ..
pub kept_by_links : (m n : ℕ) (f : ℕ → ℕ) (gates others : List Gate) → gate_links others ≡ gate_links gates → kept_gates m n f others ≡ kept_gates m n f gates
unfolding kept_gates
kept_by_links m n f gates others same = ap (filled m n f) same

-- .. and any wiring's filling stays the same when kept
pub filled_kept : (m n : ℕ) (f : ℕ → ℕ) (links : List Link) → kept_gates m n f (filled m n f links) ≡ filled m n f links
unfolding kept_gates
filled_kept m n f links = ap (filled m n f) (filled_keeps m n f links)

-- so keeping again changes nothing
pub kept_again : (m n : ℕ) (f : ℕ → ℕ) (gates : List Gate) → kept_gates m n f (kept_gates m n f gates) ≡ kept_gates m n f gates
kept_again m n f gates = kept_by_links m n f gates (kept_gates m n f gates) (kept_links m n f gates)

pub kept_length : (m n : ℕ) (f : ℕ → ℕ) (gates : List Gate) → length (kept_gates m n f gates) ≡ length gates
kept_length m n f gates =
    sym (length-map (kept_gates m n f gates) link_of) ∙ ap length (kept_links m n f gates) ∙ length-map gates link_of
