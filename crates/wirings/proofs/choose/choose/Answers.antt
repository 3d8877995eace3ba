-- `wirings::choose::choose` meets its contract: the leaf group's links, added to a wiring that has none. Assumes nothing.
use Rattle.std.specs.Prelude.{◌≡◌}
use Rattle.laws.specs.Prelude.{ap, arith}
use Rattle.trees.specs.Groups.Members.{size_le}
use Rattle.wirings.specs.Links.{no_links}
use Rattle.wirings.specs.Choice.{split_by}
use Rattle.wirings.specs.Chosen.{chosen}
use Rattle.wirings.proofs.choose.choose.Goals as goal

pub wire_group-built-requires : goal.wire_group-built-requires
unfolding no_links
wire_group-built-requires c =
    let empty : c.no_links-none.result.gates ≡ 0 = ap (λ w. w.gates) c.no_links-none.ensures in
    (c.requires.0, c.requires.1, omega (arith, empty, size_le c.args.n c.args.leaves))

pub returns : goal.returns
unfolding no_links
returns c =
    let empty : c.no_links-none.result.gates ≡ 0 = ap (λ w. w.gates) c.no_links-none.ensures in
    chosen c.args.n (split_by c.args.choice c.args.n c.args.marks.now c.args.fewest.now) c.args.leaves
    c.no_links-none.result c.wire_group-built.result.wiring
    c.wire_group-built.result.reference empty c.wire_group-built.ensures
