-- `families::marked::count_marked` meets its contract. Assumes nothing.
use Rattle.std.specs.Prelude.{◌-◌}
use Rattle.laws.specs.Prelude.{ℕ, subst, subst⁻¹, inl, List, arith, take}
use Rattle.rules.specs.Calls.Answers.{ink_in}
use Rattle.laws.specs.Numbers.Sizes.{sized}
use Rattle.net_sheets.specs.Text.Put.{put_wrote}
use Rattle.tree_counts.specs.Counts.{CountsKnown, Countable}
use Rattle.families.specs.Marked.{marks_front, leaves_countable, leaves_counted}
use Rattle.families.proofs.marked.count_marked.Goals as goal

pub power-end-requires : goal.power-end-requires
power-end-requires c =
    omega (arith, (sized c.args.m c.args.n c.requires.0).inputs_most)

pub leaves-leaves-requires : goal.leaves-leaves-requires
leaves-leaves-requires c =
    let fit = sized c.args.m c.args.n c.requires.0 in
    (fit.inputs_least, fit.inputs_most, c.mark_and_store-marked.ensures.1.below)

pub tree_count-trees-requires : goal.tree_count-trees-requires
tree_count-trees-requires c =
    let a = c.args in
    let f = ink_in a.inks.now in
    let is_own = marks_front a.m a.n c.requires.0 f _ c.mark_and_store-marked.ensures.0.own.front c.power-end.result c.power-end.ensures in
    subst⁻¹ (Countable (take (c.power-end.result - 0) c.mark_and_store-marked.new.marks) a.counts.now)
    (c.leaves-leaves.ensures _ _ c.mark_and_store-marked.ensures.1)
    (leaves_countable a.m a.n c.requires.0 f _ a.counts.now is_own c.requires.5 (λ g. inl (c.requires.6 g)))

pub returns : goal.returns
returns c =
    let a = c.args in
    let f = ink_in a.inks.now in
    let did = c.mark_and_store-marked.ensures in
    let is_own = marks_front a.m a.n c.requires.0 f _ did.0.own.front c.power-end.result c.power-end.ensures in
    let leaves_are = c.leaves-leaves.ensures _ _ did.1 in (
      record {
        count = leaves_counted a.m a.n c.requires.0 f _ is_own _ leaves_are c.tree_count-trees.result _ c.tree_count-trees.ensures;
        copied = (put_wrote c.requires.2 c.copy.ensures).text;
        front = did.0.own.front;
        marked = did.0.buffer;
        kept = subst (λ (marks : List ℕ). CountsKnown marks c.tree_count-trees.new.counts) is_own c.tree_count-trees.ensures.kept;
      },
      leaves_are,
    )
