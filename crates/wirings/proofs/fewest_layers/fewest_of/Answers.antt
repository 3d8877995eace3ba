-- `wirings::fewest_layers::fewest_of` meets its contract. The loop's invariant: `least` is the least over the parts passed. Assumes nothing.
use Rattle.laws.specs.Prelude.{ℕ, arith}
use Rattle.radix.specs.Widths.{most_members}
use Rattle.marks.specs.FirstParts.{part_at}
use Rattle.wirings.proofs.Scanning.{reached, scanned_none, scanned_next, scanned_floor, scanned_all}
use Rattle.wirings.proofs.fewest_layers.fewest_of.Goals as goal

pub overflow_sub-first : goal.overflow_sub-first
overflow_sub-first c = omega (arith, c.without_first-rest.ensures most_members c.requires.1)

pub loop-part-init : goal.loop-part-init
loop-part-init c = let a = c.args in scanned_none a.marks.now a.fewest.now a.g c.without_first-rest.result

pub returns-then-least-floor : goal.returns-then-least-floor
returns-then-least-floor c n g< =
    let rest : ℕ = c.without_first-rest.result in
    let l = c.loop-part in
    let a = c.args in
    let by = c.fewer_by-least in
    scanned_floor a.marks.now a.fewest.now a.g rest c.requires.0 c.without_first-rest.ensures n g< by.result a.floor
    (reached a.marks.now a.fewest.now a.g rest l.part l.least l.invariant c.loop-part-test.true by.result by.ensures)
    c.requires.4 c.if-least-floor.true

pub next_part-part-requires : goal.next_part-part-requires
next_part-part-requires c =
    (omega (arith, c.without_first-rest.ensures most_members c.requires.1), c.loop-part-test.true, c.loop-part.invariant.is_part)

pub loop-part-preserved : goal.loop-part-preserved
loop-part-preserved c =
    let rest : ℕ = c.without_first-rest.result in
    let l = c.loop-part in
    let a = c.args in
    scanned_next a.marks.now a.fewest.now a.g rest l.part l.least l.invariant c.loop-part-test.true
    c.fewer_by-least.result c.fewer_by-least.ensures c.next_part-part.result c.next_part-part.ensures

pub returns : goal.returns
returns c n g< =
    let l = c.loop-part in
    scanned_all c.args.marks.now c.args.fewest.now c.args.g c.without_first-rest.result c.requires.0 c.without_first-rest.ensures n g<
    l.part l.least l.invariant c.loop-part-test.false

pub fewer_by-least-requires : goal.fewer_by-least-requires
fewer_by-least-requires c =
    let at = part_at c.args.g c.without_first-rest.result c.requires.0 c.without_first-rest.ensures most_members c.requires.1
    c.loop-part.part c.loop-part-test.true c.loop-part.invariant.is_part in
    (at.0, at.1, c.requires.2, c.requires.3)
