-- `arrivals::sheet::lines::arrival_lines` meets its contract. The loop's invariant: the lines from here are the lines from the start.
-- Assumes nothing.
use Rattle.std.proofs.lemmas.Result.{err_from_is_err_and}
use Rattle.std.specs.Prelude.{◌<◌, ◌≡◌}
use Rattle.laws.specs.Prelude.{ℕ, ◌∙◌, sym, [], List, arith, length, get_or}
use Rattle.rules.specs.Limits.{most_inputs}
use Rattle.nets.specs.Forms.{name_in, names_in, names_count}
use Rattle.nets.specs.declared.forms.Header.{Header}
use Rattle.laws.specs.Numbers.Sizes.{sized}
use Rattle.fields.specs.Header.FirstLines.{HeaderHeld}
use Rattle.arrivals.specs.Sheet.Lines.{lines_start, lines_done, arrival_lines_back, arrival_lines_next, name_at}
use Rattle.arrivals.proofs.sheet.lines.arrival_lines.Goals as goal

-- input i of a header that was read: there is room for its times, and its name is the next
record Turn (s : List ℕ) (h : Header) (i : ℕ) (name : List ℕ) : Type 0 where
  room : i < most_inputs
  more : i < length (names_in s h)
  name_is : name ≡ get_or (names_in s h) i []

turn : (s : List ℕ) (h : Header) (i : ℕ) (name : List ℕ) → HeaderHeld s h → i < h.inputs → name ≡ name_in s h i → Turn s h i name
turn s h i name held low is =
    record {
      room = let size = sized _ _ held.fits in omega (arith, size.inputs_most, low);
      more = omega (arith, low, names_count s h);
      name_is = is ∙ sym (name_at s h i low);
    }

pub loop-i-init : goal.loop-i-init
loop-i-init c = lines_start _ _ _

pub name_of-requires : goal.name_of-requires
name_of-requires c =
    let size = sized _ _ c.requires.fits in
    (omega (arith, size.inputs_most, c.loop-i-test.true), c.requires.names c.loop-i.i c.loop-i-test.true)

pub returns-in_err-line : goal.returns-in_err-line
returns-in_err-line c =
    let t = turn _ _ _ _ c.requires c.loop-i-test.true c.name_of.ensures in
    let p = err_from_is_err_and c.from_residual.result c.from_residual.ensures.1 in
    rw (p.1, p.2) (arrival_lines_back _ _ _ _ _ _ c.loop-i.invariant t.more _ t.name_is _ c.arrival_line.ensures _ c.in_err-line.was)

pub loop-i-preserved : goal.loop-i-preserved
loop-i-preserved c =
    let t = turn _ _ _ _ c.requires c.loop-i-test.true c.name_of.ensures in
    arrival_lines_next _ _ _ _ _ _ c.loop-i.invariant t.more _ t.name_is _ c.arrival_line.ensures _ t.room c.in_ok-line.was

pub returns : goal.returns
returns c =
    lines_done _ _ _ _ _ _ c.loop-i.invariant (omega (arith, c.loop-i.auto, c.loop-i-test.false, names_count c.args.net.now c.args.header))

pub bounds-times-i : goal.bounds-times-i
bounds-times-i c = let size = sized _ _ c.requires.fits in omega (arith, size.inputs_most, c.loop-i-test.true)

pub offset_bounds-times-i : goal.offset_bounds-times-i
offset_bounds-times-i c = let size = sized _ _ c.requires.fits in omega (arith, size.inputs_most, c.loop-i-test.true)
