-- `representatives::rows::column_apart` meets its contract: with a run of one the columns are the heads. Assumes nothing.
use Rattle.std.specs.Prelude.{◌≡◌}
use Rattle.laws.specs.Prelude.{ℕ, ◌∙◌, ap, List}
use Rattle.representatives.specs.Columns.{columns_of, columns_one}
use Rattle.representatives.proofs.rows.column_apart.Goals as goal

heads_alone : (run : ℕ) (hs : List ℕ) → run ≡ 1 → columns_of run hs ≡ hs
heads_alone run hs e = ap (λ (r : ℕ). columns_of r hs) e ∙ columns_one hs

pub heads_apart-requires : goal.heads_apart-requires
heads_apart-requires c =
    let alone = heads_alone c.args.run c.args.heads.now c.if-run-eq1.true in
    (rw alone at c.requires.1, rw alone at c.requires.2)

pub returns-then-run-eq1 : goal.returns-then-run-eq1
returns-then-run-eq1 c = rw (heads_alone c.args.run c.args.heads.now c.if-run-eq1.true) c.heads_apart.ensures
