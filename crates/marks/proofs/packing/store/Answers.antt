-- `marks::packing::store` meets its contract: one more byte holds four more marks. Assumes nothing.
use Rattle.std.specs.Prelude.{◌*◌, ◌^◌, ◌≡◌}
use Rattle.laws.specs.Prelude.{ℕ, ◌∙◌, ap, refl, arith, take, set, pow_mono}
use Rattle.rules.specs.Groups.Marks.{stored_marks}
use Rattle.rules.specs.Calls.Answers.{written}
use Rattle.laws.specs.Nets.StoredMarks.{four_groups, stored_set}
use Rattle.marks.proofs.packing.store.Goals as goal

pub loop-i-init : goal.loop-i-init
unfolding written stored_marks
loop-i-init c = refl

pub overflow_mul-i : goal.overflow_mul-i
overflow_mul-i c = omega (arith, four_groups c.args.n c.requires.0, pow_mono c.requires.1)

pub four-requires : goal.four-requires
four-requires c =
    let groups = four_groups c.args.n c.requires.0 in
    (omega (arith, c.requires.2), λ g h. c.requires.3 g (omega (arith, h)))

pub loop-i-preserved : goal.loop-i-preserved
loop-i-preserved c =
    let a = c.args in
    let l = c.loop-i in
    let groups = four_groups a.n c.requires.0 in
    (λ i. set (l.invariant i) l.i (c.four.ensures i)) ∙ stored_set a.buffer.now a.marks.now l.i (omega (arith, c.requires.2)) (omega (arith, c.requires.4))

pub returns : goal.returns
returns c =
    let a = c.args in
    let groups = four_groups a.n c.requires.0 in
    let all : 4 * c.loop-i.i ≡ 2 ^ a.n = omega arith in
    c.loop-i.invariant ∙ ap (λ (k : ℕ). written a.buffer.now (stored_marks (take k a.marks.now))) all
