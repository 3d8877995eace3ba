-- `classes::keys::in_chain` meets its contract. The loop's invariant: if one in the chain is alike to p, it is in the rest. Assumes nothing.
use Rattle.std.specs.Prelude.{◌≤◌}
use Rattle.rules.specs.Calls.Answers.{ink_in}
use Rattle.rules.specs.Groups.Groups.{alike_over}
use Rattle.classes.specs.Chains.{Rest}
use Rattle.classes.proofs.keys.in_chain.Given as goal

abbrev pub invariant-loop-at : goal.invariant-loop-at
invariant-loop-at l = (l.at ≤ l.head) × Rest (alike_over (ink_in l.cells) l.ys l.p) l.firsts l.links l.head l.at

abbrev pub decreases-loop-at : goal.decreases-loop-at
decreases-loop-at l = l.at
