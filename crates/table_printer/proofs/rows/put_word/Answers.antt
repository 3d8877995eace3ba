-- `table_printer::rows::put_word` meets its contract: the word's eight bytes are in their place.
-- Assumes nothing.
use Rattle.std.specs.Prelude.{◌≡◌, ◌≤◌, ◌+◌, ◌-◌, ◌++◌}
use Rattle.std.specs.Int.{w64, to_le_bytes}
use Rattle.laws.specs.Prelude.{ℕ, List, ◌∙◌, sym, refl, append_assoc, div-div-eq-div-mul, drop-drop, sets, sets-eq, length, take, drop, arith}
use Rattle.table_printer.specs.Rows.Words.{word_bytes}
use Rattle.table_printer.proofs.rows.put_word.Goals as goal

le_word : (w : ℕ) → to_le_bytes w64 w ≡ word_bytes w
le_word w = simp div-div-eq-div-mul

eight_set : (l : List ℕ) (at : ℕ) (bytes : List ℕ) → length bytes ≡ 8 → at + 8 ≤ length l → take at l ++ (bytes ++ drop 8 (drop at l)) ≡ sets l at bytes
eight_set l at bytes eight fits =
    rw drop-drop (sym (sets-eq bytes l at (omega (arith, eight)) ∙ append_assoc (take at l) bytes (drop (at + length bytes) l) ∙ rw eight))

pub returns : goal.returns
returns c =
    let a = c.args in
    let bytes : c.copy_from_slice.new.self ≡ word_bytes a.word = c.copy_from_slice.ensures.after ∙ c.to_le_bytes.ensures ∙ le_word a.word in
    let eight : a.at + 8 - a.at ≡ 8 = omega arith in
    rw (bytes, eight) (eight_set a.out.now a.at (word_bytes a.word) refl c.requires)
