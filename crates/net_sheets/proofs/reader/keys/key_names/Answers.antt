-- `net_sheets::reader::keys::key_names` meets its contract. The loop's invariant: the first `i` names have their keys.
-- Assumes nothing.
use Rattle.std.specs.Prelude.{◌<◌}
use Rattle.laws.specs.Prelude.{ℕ, List, arith}
use Rattle.rules.specs.Limits.{most_inputs}
use Rattle.laws.specs.Numbers.Sizes.{sized}
use Rattle.fields.specs.Header.FirstLines.{HeaderHeld}
use Rattle.nets.specs.declared.forms.Header.{Header}
use Rattle.net_sheets.specs.Reader.Keys.{name_length, name_keyed}
use Rattle.net_sheets.proofs.reader.keys.key_names.Goals as goal

few : (s : List ℕ) (h : Header) (i : ℕ) → HeaderHeld s h → i < h.inputs → i < most_inputs
few s h i held below = let size = sized h.levels h.inputs held.fits in omega (arith, size.inputs_most)

pub key_of-requires : goal.key_of-requires
key_of-requires c =
    let pre = c.requires.0 in
    rw (c.name_of.ensures, name_length _ _ pre _ c.loop-i-test.true) (pre.short _ c.loop-i-test.true)

pub loop-i-preserved : goal.loop-i-preserved
loop-i-preserved c =
    name_keyed _ _ c.requires.0 c.loop-i.i c.loop-i-test.true _ _ _ (omega (arith, few _ _ _ c.requires.0 c.loop-i-test.true))
    (rw c.name_of.ensures at c.key_of.ensures) c.loop-i.invariant

pub name_of-requires : goal.name_of-requires
name_of-requires c = (few _ _ _ c.requires.0 c.loop-i-test.true, c.requires.0.names _ c.loop-i-test.true)

pub offset_bounds-keys-i : goal.offset_bounds-keys-i
offset_bounds-keys-i c = omega (arith, few _ _ _ c.requires.0 c.loop-i-test.true)

pub bounds-keys-i : goal.bounds-keys-i
bounds-keys-i c = omega (arith, few _ _ _ c.requires.0 c.loop-i-test.true)

pub bounds-header-i : goal.bounds-header-i
bounds-header-i c = few _ _ _ c.requires.0 c.loop-i-test.true

pub bounds-lens-i : goal.bounds-lens-i
bounds-lens-i c = omega (arith, few _ _ _ c.requires.0 c.loop-i-test.true)
