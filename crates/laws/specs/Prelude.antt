-- The kit's names that most files use, passed on unchanged: numbers, equality, lists, tests, and facts for the tactics; and proofs by cases. One line of
-- imports from here replaces ten. The definitions in `rules` and the contracts name the kit's own modules instead.
-- Assumes nothing.
pub use Rattle.std.specs.Prelude.{ℕ, ◌<◌, ◌≤◌, ◌+◌, ◌-◌, ◌^◌, suc, ◌*◌, zero, ◌%◌, ◌/◌, max, min, ◌≡◌, refl, ◌↔◌, ◌≢◌, ◌⊎◌, true, false, Bool, ◌&&◌, not, cond, ◌||◌, eqb, ltb, leb, length, get_or, take, drop, set, replicate}
pub use Rattle.std.proofs.Common.{suc-le-suc, zero-le, ◌∙◌, sym, ap, subst, ap₂, subst₂, ⊎_elim, inl, inr, true≢false, map-id, zero-add, add-zero, zero-mul, mul-le-mul_right, pow-suc, suc-mul, le_trans, mul-le-mul, mod-lt, lt_of_lt_of_le, div-lt_iff_lt-mul, div-add-mod', lt_of_not-le, mul_comm, mul-one, add_assoc, le_refl, mul_assoc, add-mul, mul-zero, one-mul, add_comm, suc-add, add-suc, le_of_suc-le-suc, lt_of_le_of_lt, mul-le-mul_left, not-suc-le-zero, le_of_eq, mod-eq_of_lt, eq-or-lt_of_le, le_of_lt, mul-pos, div-one, le_antisymm, mul-suc, mul-add, mul-div_cancel, le-mul_of_pos_right, mul_right_comm, add-lt-add_of_le_of_lt, div-mul-le_self, le-add_right, le_of_mul-le-mul_right, lt_of_mul-lt-mul_right, lt_trans, mul-lt-mul_of_pos_right, zero-lt-suc, add-one, lit<, lit≤, length-set, length-append, length-drop, drop_of_length-le, length-take, take-append-drop, get_or-set_same, get_or-set_other, length-take-le, get_or-take, drop-cons, ext_get_or, take_at, get_or-drop, take-suc-set, take_all, drop_at, drop-drop, get_or-append-add, take-add, drop-set-lt, take-suc, take-take, lt-length-set, set-set, eq-eqb, eqb-true, ne_eqb, lt-ltb, le-ltb, le-leb, leb-true, ltb-true, leb-false, ltb-false, rules, pow_mono, pow_pos, pow-add, shl_lt}
pub use Rattle.std.proofs.Math.Path.{subst⁻¹, fun_ext, ◌∎, ◌≡⟨◌⟩◌}
pub use Rattle.std.proofs.Math.Logic.{by_cases, ⊎_map}
pub use Rattle.std.proofs.Math.Logic.Iff.{trans as iff_trans}
pub use Rattle.std.proofs.Math.Logic.Iff.{not as iff_not}
pub use Rattle.std.proofs.Math.Logic.Iff.{symm as iff_symm}
pub use Rattle.std.proofs.Math.Bool.{and-eq-true_iff, and-false, and-true, or-true, or-false, and_comm, and-or_distrib_right, or_assoc}
pub use Rattle.std.proofs.lemmas.Bool.{false≢true, eqb-false, not-true, not-false, lt-leb}
pub use mathlib.Core.List.Memᴰ.{head as mem_head}
pub use mathlib.Core.List.Memᴰ.{not-nil as mem_not_nil}
pub use mathlib.Core.List.Memᴰ.{tail as mem_tail}
pub use mathlib.Core.List.{List, [], ◌∷◌, ◌++◌, map, Memᴰ, append_assoc, append-nil}
pub use mathlib.Core.List.Memᴰ.{append_cases as mem_append_cases}
pub use mathlib.Core.List.Memᴰ.{append_left as mem_append_left}
pub use mathlib.Core.List.Memᴰ.{append_right as mem_append_right}
pub use mathlib.Core.List.Memᴰ.{cases_cons as mem_cases_cons}
pub use mathlib.Core.List.Memᴰ.{eq_of_singleton as mem_eq_of_singleton}
pub use Rattle.std.proofs.lemmas.Simd.{map-map}
pub use mathlib.Core.List.Memᴰ.{cast as mem_cast}
pub use mathlib.Core.List.Memᴰ.{map as mem_map}
pub use mathlib.Core.List.Memᴰ.{of_map as mem_of_map}
pub use Rattle.std.proofs.lemmas.List.{map-append, length-map, length-replicate, get_or-replicate, replicate-append-replicate, get_or_at, take-set-le, drop-append-le, set_at, set_comm, set-get_or, set_split, take-append-le}
pub use Rattle.std.proofs.Math.Nat.{sub-zero, pow-zero, pow-le-pow_right, one-le-pow, le_step, pow-succ', zero-div, add-sub_cancel_left, div-div-eq-div-mul, div-eq_of_lt, zero-mod, max-eq_left, max-eq_right, max-zero, mul-add-div_right, one-le-mul, pow-le-pow_left, sub_self, add-div_right, eq_of_mul-eq-mul_right, le-max_left, le-max_right, lt-div-mul-add, min-le_right, mod-mod, mod-one, suc-sub-suc, zero-sub}
pub use Rattle.std.proofs.Math.Decide.{dec_lt, ℕ_discrete, dec_le}
pub use native.Mathlib.Omega.{arith, max_cases, min_cases, ne_cases}
pub use Rattle.std.proofs.Math.Dec.{eqb-suc-zero, leb-suc-suc, eqb-suc-suc, eqb-zero-suc}
pub use Rattle.std.proofs.Math.ListN.{get_or-append, get_or-eq_default, get_or-map}
pub use Rattle.std.proofs.Math.Seq.{append_snoc, get_or-append_seam, paste, length-sets, drop-append_seam, paste-suc, paste-zero, drop-append-add, drop-length, length_front, split_at, take-append-add, take-append_seam, take-length}
pub use Rattle.std.proofs.lemmas.List.Edits.{sets, sets-eq, length-paste}
pub use Rattle.std.proofs.Math.Arith.{digits_lt, digits_mod, digits_div, lt-one, lt_of_le-ne, mod-mul, sub-sub_self}
pub use Rattle.std.proofs.Math.Pow.{pow-lt}
pub use Rattle.laws.specs.Cases.{test_cases, answer_cases, read_cases, judged_cases}
