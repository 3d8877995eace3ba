-- `marks::fast::below::pass_copies` meets its contract: the next group, or copies up to the next one. Assumes nothing.
use Rattle.std.specs.Prelude.{◌<◌, ◌-◌, ◌^◌, ◌≡◌}
use Rattle.laws.specs.Prelude.{ℕ, ◌∙◌, sym, arith, pow_pos}
use Rattle.rules.specs.Nets.Wirings.{first_input}
use Rattle.trees.specs.Groups.Members.{first_member}
use Rattle.radix.specs.Parts.{without_first}
use Rattle.radix.specs.Widths.{most_members, groups_end}
use Rattle.marks.specs.Fast.Below.{some_copied}
use Rattle.marks.proofs.fast.below.pass_copies.Goals as goal

-- a group without its first-listed member is a smaller group
rest_less : (g rest : ℕ) → 0 < g → g < groups_end → ((n : ℕ) → g < 2 ^ n → rest ≡ g - 2 ^ first_input n g) → rest < g
rest_less g rest some g< is = omega (arith, is most_members g<, (without_first most_members g some g<).0, pow_pos (first_input most_members g))

pub member_of-requires : goal.member_of-requires
member_of-requires c =
    let g< : c.args.g < groups_end = omega arith in
    omega (arith, c.first_of.ensures most_members g<, (first_member most_members c.args.g g< (omega arith)).0)

pub overflow_sub-g : goal.overflow_sub-g
overflow_sub-g c = omega (arith, rest_less c.args.g c.without_first-rest.result (omega arith) (omega arith) c.without_first-rest.ensures)

pub copy_marks-requires : goal.copy_marks-requires
copy_marks-requires c = omega (arith, rest_less c.args.g c.without_first-rest.result (omega arith) (omega arith) c.without_first-rest.ensures)

pub returns-then-member_of : goal.returns-then-member_of
returns-then-member_of c =
    let rest = c.without_first-rest in
    let less = rest_less c.args.g rest.result (omega arith) (omega arith) rest.ensures in
    some_copied c.first_of.result rest.result (omega arith) (λ n g<. (c.first_of.ensures n g<, rest.ensures n g<))
    (sym c.member_of.ensures ∙ c.if-member_of.true) (omega arith) (omega arith) (omega arith) c.copy_marks.ensures

pub overflow_add-rest : goal.overflow_add-rest
overflow_add-rest c = omega (arith, rest_less c.args.g c.without_first-rest.result (omega arith) (omega arith) c.without_first-rest.ensures)

pub overflow_sub-next-then-member_of : goal.overflow_sub-next-then-member_of
overflow_sub-next-then-member_of c = omega (arith, rest_less c.args.g c.without_first-rest.result (omega arith) (omega arith) c.without_first-rest.ensures)
