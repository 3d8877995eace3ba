-- `tree_counts::numbered::wiring_of` meets its contract: the leaf group's links, added to a wiring that has none. Assumes nothing.
use Rattle.std.specs.Prelude.{◌≡◌}
use Rattle.laws.specs.Prelude.{ap, arith}
use Rattle.trees.specs.Groups.Members.{size_le}
use Rattle.wirings.specs.Links.{no_links}
use Rattle.tree_counts.specs.Numbered.{wiring_found}
use Rattle.tree_counts.proofs.numbered.wiring_of.Goals as goal

pub wire_numbered-built-requires : goal.wire_numbered-built-requires
unfolding no_links
wire_numbered-built-requires c =
    let empty : c.no_links-none.result.gates ≡ 0 = ap (λ w. w.gates) c.no_links-none.ensures in
    (c.requires.0, c.requires.1, omega (arith, empty, size_le c.args.n c.args.leaves))

pub returns : goal.returns
unfolding no_links
returns c =
    let empty : c.no_links-none.result.gates ≡ 0 = ap (λ w. w.gates) c.no_links-none.ensures in
    wiring_found c.args.n c.args.marks.now c.args.leaves c.args.r c.no_links-none.result c.wire_numbered-built.result.wiring
    c.wire_numbered-built.result.reference c.wire_numbered-built.new.counts empty c.wire_numbered-built.ensures
