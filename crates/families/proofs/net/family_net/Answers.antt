-- `families::net::family_net` meets its contract: the wiring of the number can be filled, and filled, it is the number's net. Assumes nothing.
use Rattle.laws.specs.Prelude.{ℕ, subst, subst⁻¹}
use Rattle.rules.specs.Calls.Answers.{ink_in}
use Rattle.gate_tables.specs.Sized.{sized_cells}
use Rattle.tree_counts.specs.Counts.{Countable}
use Rattle.tree_counts.specs.Numbered.{InCount, WiringFound}
use Rattle.families.specs.FamilyNet.{leaves_in, number_count, number_fills, number_net}
use Rattle.families.proofs.net.family_net.Goals as goal

pub wiring_of-wiring-requires : goal.wiring_of-wiring-requires
wiring_of-wiring-requires c =
    let a = c.args in (
      subst⁻¹ (Countable a.marks.now a.counts.now) c.requires.6 c.requires.4,
      subst⁻¹ (λ (g : ℕ). InCount a.n a.marks.now g a.r) c.requires.6
          (leaves_in a.m a.n c.requires.0 (ink_in a.cells.now) a.marks.now c.requires.3 a.r c.requires.5),
    )

pub fill-requires : goal.fill-requires
fill-requires c =
    let a = c.args in
    let f = ink_in a.cells.now in
    let found = subst (λ (g : ℕ). WiringFound a.n a.marks.now g a.r c.wiring_of-wiring.result) c.requires.6 c.wiring_of-wiring.ensures in (
      sized_cells a.m a.n a.cells.now c.requires.0 c.requires.1,
      number_count a.m a.n c.requires.0 f a.marks.now c.requires.3 a.r c.requires.5 c.wiring_of-wiring.result found,
      number_fills a.m a.n c.requires.0 f a.marks.now c.requires.3 a.r c.requires.5 c.wiring_of-wiring.result found,
    )

pub returns : goal.returns
returns c =
    let a = c.args in
    let found = subst (λ (g : ℕ). WiringFound a.n a.marks.now g a.r c.wiring_of-wiring.result) c.requires.6 c.wiring_of-wiring.ensures in
    number_net a.m a.n c.requires.0 (ink_in a.cells.now) a.marks.now c.requires.3 a.r c.requires.5 c.wiring_of-wiring.result found
    c.requires.2 c.fill.result c.fill.ensures
