-- `fields::header::keys::key_of` meets its contract. The loop's invariant: the key is that of the bytes from `i` on.
-- Assumes nothing.
use Rattle.std.specs.Prelude.{◌<◌, ◌≤◌, ◌-◌, ◌≡◌}
use Rattle.laws.specs.Prelude.{arith, length, drop, length-drop, drop_of_length-le}
use Rattle.rules.specs.Limits.{most_name_bytes}
use Rattle.fields.specs.Header.Keys.{no_key, key_room, key_more}
use Rattle.fields.proofs.header.keys.key_of.Goals as goal

pub loop-i-init : goal.loop-i-init
loop-i-init c =
    let all : length c.args.w.now ≤ length c.args.w.now = omega arith in
    (omega arith, rw (drop_of_length-le c.args.w.now all) no_key)

pub overflow_cast-byte : goal.overflow_cast-byte
overflow_cast-byte c = omega (arith, c.shared_slice_known-1.given (c.loop-i.i - 1))

pub loop-i-preserved : goal.loop-i-preserved
loop-i-preserved c =
    let l = c.loop-i in
    let small = c.shared_slice_known-1.given (l.i - 1) in
    (omega arith, key_more _ l.i l.key c.loop-i-test.true l.invariant.0 (omega arith) l.invariant.1)

pub returns : goal.returns
returns c =
    let first : c.loop-i.i ≡ 0 = omega (arith, c.loop-i-test.false) in
    rw first at c.loop-i.invariant.1

pub overflow_mul-key : goal.overflow_mul-key
overflow_mul-key c =
    let room : c.loop-i.key < 72057594037927936 =
    let l = c.loop-i in
    let short : length (drop l.i c.args.w.now) < most_name_bytes = rw length-drop (omega (arith, c.requires)) in
    omega (arith, key_room _ l.key l.invariant.1 short) in
    omega (arith, room)

pub overflow_add-key : goal.overflow_add-key
overflow_add-key c =
    let room : c.loop-i.key < 72057594037927936 =
    let l = c.loop-i in
    let short : length (drop l.i c.args.w.now) < most_name_bytes = rw length-drop (omega (arith, c.requires)) in
    omega (arith, key_room _ l.key l.invariant.1 short) in
    omega (arith, room, c.shared_slice_known-1.given (c.loop-i.i - 1))
