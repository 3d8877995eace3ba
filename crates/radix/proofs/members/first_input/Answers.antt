-- `radix::members::first_input` meets its contract. The loop's invariant: the first place from `i` on is the first of all. Assumes
-- nothing.
use Rattle.std.specs.Prelude.{◌<◌, ◌≡◌}
use Rattle.laws.specs.Prelude.{ℕ, ◌∙◌, sym, ap, Bool, zero-add, arith, get_or}
use Rattle.rules.specs.Lists.{range}
use Rattle.rules.specs.Groups.Groups.{member}
use Rattle.rules.specs.Nets.Wirings.{first_input}
use Rattle.laws.specs.Lists.Ranges.{range_length, range_at}
use Rattle.laws.specs.Lists.Walks.{place_next, place_stop, place_end}
use Rattle.radix.proofs.members.first_input.Goals as goal

-- the test at place i is that of input i
here : (n g i : ℕ) (t : Bool) → i < n → t ≡ member i g → member (get_or (range 0 n) i 0) g ≡ t
here n g i t h e = ap (λ (j : ℕ). member j g) (range_at 0 n i 0 h ∙ zero-add i) ∙ sym e

pub loop-i-init : goal.loop-i-init
unfolding first_input
loop-i-init c = zero-add _

pub returns-then-member_of : goal.returns-then-member_of
returns-then-member_of c =
    let a = c.args in
    let l = c.loop-i in
    let i< = c.loop-i-test.true in
    sym (place_stop (λ j. member j a.g) (range 0 a.n) l.i (rw range_length i<)
    (here a.n a.g l.i _ i< c.member_of.ensures ∙ c.if-member_of.true))
    ∙ l.invariant

pub loop-i-preserved : goal.loop-i-preserved
loop-i-preserved c =
    let a = c.args in
    let l = c.loop-i in
    let i< = c.loop-i-test.true in
    place_next (λ j. member j a.g) (range 0 a.n) l.i (rw range_length i<)
    (here a.n a.g l.i _ i< c.member_of.ensures ∙ c.if-member_of.false)
    ∙ l.invariant

pub returns : goal.returns
returns c =
    let a = c.args in
    let l = c.loop-i in
    let end : a.n ≡ l.i = omega arith in
    end ∙ sym (place_end (λ j. member j a.g) (range 0 a.n) l.i (rw range_length c.loop-i-test.false)) ∙ l.invariant
