-- `net_sheets::reader::references::reference_of` meets its contract. The loop's invariant: the first match from `r` on is the first of all.
-- Assumes nothing.
use Rattle.laws.specs.Prelude.{◌∙◌, sym, refl}
use Rattle.laws.specs.Lists.Walks.{find_next, find_stop, find_end}
use Rattle.net_sheets.specs.Reader.References.{at_below, nowhere_below, long_refers}
use Rattle.net_sheets.proofs.reader.references.reference_of.Goals as goal

pub returns-then-same_key : goal.returns-then-same_key
returns-then-same_key c =
    let r = c.loop-r.r in
    let below = c.loop-r-test.true in
    record {
      finds = λ names keyed.
          let text = keyed.each r below in
          let told = c.same_key.ensures _ _ c.key_of-key.ensures refl text.is text.long in
          sym (find_stop _ r _ below (sym told ∙ c.if-same_key.true)) ∙ c.loop-r.invariant names keyed;
      below = λ k. at_below _ r k below;
    }

pub loop-r-preserved : goal.loop-r-preserved
loop-r-preserved c names keyed =
    let r = c.loop-r.r in
    let below = c.loop-r-test.true in
    let text = keyed.each r below in
    let told = c.same_key.ensures _ _ c.key_of-key.ensures refl text.is text.long in
    find_next _ r _ below (sym told ∙ c.if-same_key.false) ∙ c.loop-r.invariant names keyed

pub returns : goal.returns
returns c =
    record {
      finds = λ names keyed. sym (find_end _ c.loop-r.r _ c.loop-r-test.false) ∙ c.loop-r.invariant names keyed;
      below = nowhere_below _;
    }

pub returns-then-w-gt-MOST_NAME_BYTES : goal.returns-then-w-gt-MOST_NAME_BYTES
returns-then-w-gt-MOST_NAME_BYTES c = long_refers _ _ _ _ c.if-w-gt-MOST_NAME_BYTES.true
