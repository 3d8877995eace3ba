-- `wirings::leaves::matters::same_block` meets its contract: two slices are equal if their cells are. Assumes nothing.
use Rattle.std.specs.Prelude.{◌<◌, ◌≤◌, ◌+◌, ◌-◌, ◌≡◌}
use Rattle.std.specs.Bool.{Decides}
use Rattle.std.specs.Str.{bytes_eq}
use Rattle.std.proofs.lemmas.Slice.Eq.{bytes_eq-Decides}
use Rattle.laws.specs.Prelude.{ℕ, ◌∙◌, sym, ap, Bool, List, arith, length, get_or, take, drop, length-take, length-drop, get_or-take, get_or-drop, ext_get_or}
use Rattle.wirings.specs.Leaves.Blocks.{SameCells}
use Rattle.wirings.proofs.leaves.matters.same_block.Goals as goal

same_cells : (xs : List ℕ) (w : ℕ) (r : Bool) → w ≤ length xs → r ≡ bytes_eq (take (length xs - w) xs) (take (length xs - w) (drop w xs))
    → Decides r (SameCells xs w)
same_cells xs w r low is =
    let n = length xs - w in
    let equal = bytes_eq-Decides (take n xs) (take n (drop w xs)) in
    let at : (j : ℕ) → j < n → get_or (take n (drop w xs)) j 0 ≡ get_or xs (w + j) 0 = λ j j<. get_or-take n (drop w xs) j 0 j< ∙ get_or-drop w xs j 0 in (
      λ e j j<. sym (get_or-take n xs j 0 j<) ∙ ap (λ (l : List ℕ). get_or l j 0) (equal.0 (sym is ∙ e)) ∙ at j j<,
      λ same. is ∙ equal.1 (ext_get_or 0 _ _ (omega (arith, length-take n xs, length-take n (drop w xs), length-drop w xs))
          (λ j j<. let j<n : j < n = omega (arith, length-take n xs) in get_or-take n xs j 0 j<n ∙ same j j<n ∙ sym (at j j<n))),
    )

pub returns : goal.returns
returns c = same_cells c.args.block.now c.args.weight c.eq.result c.requires c.eq.ensures
