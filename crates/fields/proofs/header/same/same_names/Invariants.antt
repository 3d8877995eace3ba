-- `fields::header::same::same_names` meets its contract. The loop's invariant: all names are the same exactly when those from `i` on are.
-- Assumes nothing.
use Rattle.std.specs.Prelude.{◌-◌, ◌≡◌}
use Rattle.laws.specs.Prelude.{map}
use Rattle.rules.specs.Lists.{range}
use Rattle.rules.specs.Calls.Checking.{same_names_of}
use Rattle.nets.specs.Forms.{name_in}
use Rattle.fields.specs.Header.Same.{same_from}
use Rattle.fields.proofs.header.same.same_names.Given as goal

abbrev pub invariant-loop-i : goal.invariant-loop-i
invariant-loop-i l = same_names_of (map (name_in l.s l.h) (range 0 l.n)) (map (name_in l.t l.k) (range 0 l.n)) ≡ same_from (name_in l.s l.h) (name_in l.t l.k) l.i l.n
