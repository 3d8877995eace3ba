-- `checking::same::all_same` meets its contract: where ys begins with xs, the two are the same on the length of xs. Assumes nothing.
use Rattle.std.specs.Prelude.{ℕ, ◌≡◌, ◌++◌, get_or}
use Rattle.laws.specs.Prelude.{◌∙◌, sym, ap, List, drop, length}
use Rattle.std.proofs.lemmas.List.{get_or_append_left}
use Rattle.std.proofs.lemmas.Bool.Decides.{Decides-eqb}
use Rattle.std.proofs.lemmas.Slice.Eq.{starts_is}
use Rattle.checking.proofs.same.all_same.Goals as goal

pub returns : goal.returns
returns c e p h =
    let xs = c.args.xs.now in
    let ys = c.args.ys.now in
    let is : ys ≡ xs ++ drop (length xs) ys = (starts_is Decides-eqb ys xs _ c.starts_with.ensures.value).0 e in
    sym (ap (λ (l : List ℕ). get_or l p 0) is ∙ get_or_append_left xs _ 0 p h)
