-- `keeping::changed::same_table` meets its contract: the slices of the digits that it compares are the gates'. Assumes nothing.
use Rattle.std.specs.Prelude.{◌<◌, ◌≤◌, ◌+◌, ◌*◌, ◌≡◌}
use Rattle.laws.specs.Prelude.{ℕ, ◌∙◌, refl, ap₂, add-mul, one-mul, arith, length, rules}
use Rattle.rules.specs.Lists.{same}
use Rattle.nets.specs.Room.{most_digits, gate_room}
use Rattle.nets.specs.Sound.{Sound, gates_count}
use Rattle.nets.specs.declared.forms.Net.{Net}
use Rattle.keeping.specs.Changed.{part}
use Rattle.keeping.proofs.changed.same_table.Goals as goal

-- the digits of a gate end within the array
digits_end : (net : Net) → Sound net → (k : ℕ) → k < net.gates → k * (net.levels * net.levels) + net.levels * net.levels ≤ most_digits
digits_end net sound k low =
    let size : ℕ = net.levels * net.levels in
    omega (arith, gate_room net.levels net.inputs sound.size k (omega (arith, gates_count net sound, low)), add-mul k 1 size, one-mul size)

pub slice_bounds-same_bytes-end : goal.slice_bounds-same_bytes-end
slice_bounds-same_bytes-end c =
    let long : length c.args.old.digits ≡ most_digits = search rules in
    omega (arith, digits_end _ c.requires.0 _ c.requires.2, long)

pub returns : goal.returns
returns c =
    c.same_bytes.ensures
    ∙ ap₂ same (part c.args.old.levels c.args.old refl c.args.k) (part c.args.old.levels c.args.new c.requires.1 c.args.k)

pub overflow_mul-size : goal.overflow_mul-size
overflow_mul-size c = omega (arith, digits_end _ c.requires.0 _ c.requires.2)

pub overflow_mul-from : goal.overflow_mul-from
overflow_mul-from c = omega (arith, digits_end _ c.requires.0 _ c.requires.2)

pub overflow_add-end : goal.overflow_add-end
overflow_add-end c = omega (arith, digits_end _ c.requires.0 _ c.requires.2)
