-- `net_sheets::text::header::print_names` meets its contract. The loop's invariant: the names from i on are left to write at p.
-- Assumes nothing.
use Rattle.std.specs.Prelude.{◌<◌, ◌+◌, ◌∷◌, ◌++◌}
use Rattle.laws.specs.Prelude.{ℕ, List, [], append_assoc, arith}
use Rattle.rules.specs.Text.{space}
use Rattle.nets.specs.Forms.{name_in}
use Rattle.net_sheets.specs.Text.Put.{NetLeft, put_left, room_for, none_left}
use Rattle.net_sheets.specs.Text.Lines.{spaced_from, spaced_next, spaced_none}
use Rattle.net_sheets.proofs.text.header.print_names.Goals as goal

-- what is left is one name and a space, and the later names
turn : (name : ℕ → List ℕ) (i count : ℕ) → i < count → {out : List ℕ} {p : ℕ} {out₀ : List ℕ} {at₀ : ℕ} {t₀ : List ℕ}
    → NetLeft out p (spaced_from name i count) out₀ at₀ t₀ → NetLeft out p ((name i ++ (space ∷ [])) ++ spaced_from name (i + 1) count) out₀ at₀ t₀
turn name i count below left = rw append_assoc (rw (spaced_next name i count below) at left)

pub print_name-p-requires : goal.print_name-p-requires
unfolding space
print_name-p-requires c =
    let name = name_in c.args.s.now c.args.h in
    let i = c.loop-i.i in (
      c.requires.0,
      omega arith,
      room_for (name i ++ (space ∷ [])) (spaced_from name (i + 1) c.args.count) (turn name i _ c.loop-i-test.true c.loop-i.invariant),
    )

pub loop-i-preserved : goal.loop-i-preserved
unfolding space
loop-i-preserved c = put_left (turn (name_in c.args.s.now c.args.h) c.loop-i.i _ c.loop-i-test.true c.loop-i.invariant) c.print_name-p.ensures

pub returns : goal.returns
returns c =
    none_left (rw (spaced_none (name_in c.args.s.now c.args.h) c.loop-i.i c.args.count c.loop-i-test.false) at c.loop-i.invariant)
