-- `net_sheets::text::decimals::print_decimal` meets its contract. From 10 on the decimal value of k / 10 is written first, with the
-- last digit after it.
-- Assumes nothing.
use Rattle.std.specs.Prelude.{◌<◌, ◌≤◌, ◌+◌, ◌%◌, ◌/◌, ◌≡◌, ◌∷◌, ◌++◌}
use Rattle.laws.specs.Prelude.{ℕ, ap, List, [], arith}
use Rattle.rules.specs.Text.{digit_byte, zero_byte, decimal}
use Rattle.net_sheets.specs.Text.Put.{PutRoom, NetLeft, parts_left, put_left, room_for, room_byte, last_put}
use Rattle.laws.specs.Numbers.Decimals.{decimal_one, decimal_more}
use Rattle.net_sheets.proofs.text.decimals.+print_decimal.Goals as goal

module _ (out : List ℕ) (at k after : ℕ) (room : PutRoom out at (decimal k ++ (after ∷ []))) where
  one_left : k < 10 → NetLeft out at ((zero_byte + k % 10) ∷ after ∷ []) out at (decimal k ++ (after ∷ []))
  unfolding digit_byte
  one_left h =
      let e : k % 10 ≡ k = omega arith in
      parts_left (rw (decimal_one k h, e)) room

  more_left : 10 ≤ k → NetLeft out at ((decimal (k / 10) ++ ((zero_byte + k % 10) ∷ [])) ++ (after ∷ [])) out at (decimal k ++ (after ∷ []))
  unfolding digit_byte
  more_left h = parts_left (ap (λ (w : List ℕ). w ++ (after ∷ [])) (decimal_more k h)) room

pub put-requires : goal.put-requires
put-requires t c = let a = c.args in
    room_byte (put_left (one_left a.out.now a.at a.k a.after c.requires c.if-k-lt10.true) c.put-p.ensures)

pub returns-then-k-lt10 : goal.returns-then-k-lt10
returns-then-k-lt10 t c = let a = c.args in
    last_put (put_left (one_left a.out.now a.at a.k a.after c.requires c.if-k-lt10.true) c.put-p.ensures) c.put.ensures

pub print_decimal-p-requires : goal.print_decimal-p-requires
print_decimal-p-requires t c = let a = c.args in (
  omega arith,
  room_for (decimal (a.k / 10) ++ ((zero_byte + a.k % 10) ∷ [])) (a.after ∷ [])
      (more_left a.out.now a.at a.k a.after c.requires c.if-k-lt10.false),
)

pub put-requires-2 : goal.put-requires-2
put-requires-2 t c = let a = c.args in
    room_byte (put_left (more_left a.out.now a.at a.k a.after c.requires c.if-k-lt10.false) c.print_decimal-p.ensures)

pub returns : goal.returns
returns t c = let a = c.args in
    last_put (put_left (more_left a.out.now a.at a.k a.after c.requires c.if-k-lt10.false) c.print_decimal-p.ensures) c.put-2.ensures
