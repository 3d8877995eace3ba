-- `radix::members::first_input` meets its contract. The loop's invariant: the first place from `i` on is the first of all. Assumes
-- nothing.
use Rattle.std.specs.Prelude.{◌+◌, ◌≡◌}
use Rattle.laws.specs.Prelude.{drop}
use Rattle.rules.specs.Lists.{range, first_place}
use Rattle.rules.specs.Groups.Groups.{member}
use Rattle.rules.specs.Nets.Wirings.{first_input}
use Rattle.radix.proofs.members.first_input.Given as goal

abbrev pub invariant-loop-i : goal.invariant-loop-i
invariant-loop-i l = l.i + first_place (λ j. member j l.g) (drop l.i (range 0 l.n)) ≡ first_input l.n l.g
