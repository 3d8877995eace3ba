-- `net_sheets::printer::net::print_gates` meets its contract. The loop's invariant: the lines from gate k on are left to write at p.
-- Assumes nothing.
use Rattle.std.specs.Prelude.{◌<◌, ◌+◌, ◌-◌, ◌*◌, ◌≡◌, ◌++◌}
use Rattle.laws.specs.Prelude.{ℕ, sym, ap, List, arith, take, drop}
use Rattle.nets.specs.declared.forms.Header.{Header}
use Rattle.nets.specs.declared.forms.Net.{Net}
use Rattle.nets.specs.Forms.{gate_of}
use Rattle.net_sheets.specs.Text.Put.{NetLeft, PutRoom, parts_left, put_left, room_for, none_left}
use Rattle.net_sheets.specs.Printer.Gates.{printed_gate_at, lines_from, lines_all, lines_next, lines_none, table_digit}
use Rattle.net_sheets.proofs.printer.net.print_gates.Goals as goal

-- the form has room for the gate and its digits
pub bounds-net-k : goal.bounds-net-k
bounds-net-k c = omega (arith, c.requires.1.count, c.loop-k-test.true)

-- the part of the form's digits that the code takes is the gate's
part : (net : Net) (k : ℕ) → let size = net.levels * net.levels in take (k * size + size - k * size) (drop (k * size) net.digits) ≡ (gate_of net k).digits
unfolding gate_of
part net k =
    let size : ℕ = net.levels * net.levels in
    let e : k * size + size - k * size ≡ size = omega arith in
    ap (λ (n : ℕ). take n (drop (k * size) net.digits)) e

-- what is left is the gate's line, and the later lines
module _ (s : List ℕ) (h : Header) (net : Net) (k : ℕ) (below : k < net.gates) {out : List ℕ} {p : ℕ} {out₀ : List ℕ} {at₀ : ℕ} {t₀ : List ℕ}
    (left : NetLeft out p (lines_from s h net k) out₀ at₀ t₀) where
  turn : NetLeft out p (printed_gate_at s h net k ++ lines_from s h net (k + 1)) out₀ at₀ t₀
  turn = rw (lines_next s h net k below) at left

  line_room : PutRoom out p (printed_gate_at s h net k)
  line_room = room_for (printed_gate_at s h net k) (lines_from s h net (k + 1)) turn

pub print_gate-p-requires : goal.print_gate-p-requires
unfolding gate_of
print_gate-p-requires c =
    let k = c.loop-k.k in
    rw (c.wide.ensures.0, c.wide-in-loop-k.ensures.0, part c.args.net k) (
      c.requires.0,
      table_digit c.args.net c.requires.1 k c.loop-k-test.true,
      line_room _ c.args.h c.args.net k c.loop-k-test.true c.loop-k.invariant,
    )

pub loop-k-preserved : goal.loop-k-preserved
unfolding gate_of
loop-k-preserved c =
    let k = c.loop-k.k in
    put_left (turn _ c.args.h c.args.net k c.loop-k-test.true c.loop-k.invariant)
    (rw (c.wide.ensures.0, c.wide-in-loop-k.ensures.0, part c.args.net k) at c.print_gate-p.ensures)

pub returns : goal.returns
returns c =
    none_left (rw (lines_none c.args.s.now c.args.h c.args.net c.loop-k.k c.loop-k-test.false) at c.loop-k.invariant)

pub loop-k-init : goal.loop-k-init
loop-k-init c = parts_left (sym (lines_all c.args.s.now c.args.h c.args.net)) c.requires.2
