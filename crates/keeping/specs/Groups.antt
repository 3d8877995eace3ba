-- A net's wiring can be filled up to the first gate whose group has too many classes, and the number of gates filled tells which that is.
-- Assumes nothing.
use Rattle.std.specs.Prelude.{◌<◌, ◌≤◌, ◌≡◌}
use Rattle.laws.specs.Prelude.{ℕ, ◌∙◌, ap, subst, subst⁻¹, List, arith, ltb, get_or, lt-ltb, le-ltb}
use Rattle.rules.specs.Groups.Groups.{multiplicity}
use Rattle.rules.specs.Nets.Wirings.{Link}
use Rattle.rules.specs.Nets.Filling.{input_groups}
use Rattle.rules.specs.Nets.Family.{gate_groups}
use Rattle.rules.specs.Calls.Keeping.{gate_links, roomy_gates}
use Rattle.cells.specs.Bound.{first_is}
use Rattle.trees.specs.Filling.Fillings.{Fillable}
use Rattle.trees.specs.Filling.GateLinks.{gates_fillable}
use Rattle.trees.specs.Keeping.KeptLinks.{gate_groups_length, gate_group_at}
use Rattle.trees.specs.Keeping.KeptWirings.{group_small}
use Rattle.nets.specs.declared.forms.Net.{Net}
use Rattle.nets.specs.Forms.{gates_of}
use Rattle.nets.specs.Sound.{Sound, gates_length}
use Rattle.wirings.specs.declared.forms.Wiring.{Wiring}
use Rattle.wirings.specs.Links.{links_in}
use Rattle.gate_tables.specs.Filled.{Filled, FilledTo, few_blank, link_group_at}

module _ (net : Net) (sound : Sound net) (pos : 0 < net.levels) (w : Wiring) (links : links_in w ≡ gate_links (gates_of net)) where
  -- whatever the table, its gates join groups that share no input
  pub kept_blank : Fillable net.levels net.inputs (λ _. 0) (input_groups net.inputs) (links_in w)
  kept_blank =
      subst⁻¹ (Fillable net.levels net.inputs (λ _. 0) (input_groups net.inputs)) links
      (gates_fillable net.levels net.inputs (λ _. 0) pos (gates_of net) sound.gates.rules
      (λ k h. few_blank net.levels net.inputs pos _ (group_small net.levels net.inputs (gates_of net) sound.gates _ (omega arith))))

  module _ (f : ℕ → ℕ) (filled : Net) (count : w.gates ≡ net.gates) (to : FilledTo net.levels net.inputs f w filled) where
    -- its group, as the definitions say it
    group_is : (k : ℕ) → link_group_at net.inputs (links_in w) k ≡ get_or (gate_groups net.inputs (gates_of net)) k 0
    group_is k = ap (λ (ls : List Link). link_group_at net.inputs ls k) links ∙ gate_group_at net.inputs (gates_of net) k

    pub roomy_filled : filled.gates ≡ roomy_gates net.levels net.inputs f (gates_of net)
    unfolding roomy_gates
    roomy_filled =
        let long = gate_groups_length net.inputs (gates_of net) ∙ gates_length net in
        first_is (λ g. ltb net.levels (multiplicity net.levels net.inputs f g)) (gate_groups net.inputs (gates_of net)) filled.gates
        (omega (arith, to.count))
        (λ k h. le-ltb net.levels _ (subst (λ (g : ℕ). multiplicity net.levels net.inputs f g ≤ net.levels) (group_is k) (to.few k h)))
        (λ h. lt-ltb net.levels _ (subst (λ (g : ℕ). net.levels < multiplicity net.levels net.inputs f g) (group_is filled.gates)
        (to.many (omega arith))))

    -- if that is all gates, the wiring is filled
    pub filled_whole : net.gates ≤ filled.gates → Filled net.levels net.inputs f w filled
    filled_whole all =
        let whole : filled.gates ≡ w.gates = omega (arith, to.count) in
        record { levels = to.levels; inputs = to.inputs; count = whole; gates = to.gates whole }
