-- `evaluation::fast::by_table::table_values` meets its contract. The loop's invariant: the first i inputs are in the indices. Assumes nothing.
use Rattle.std.specs.Prelude.{◌<◌, ◌≤◌, ◌≡◌}
use Rattle.laws.specs.Prelude.{ℕ, ◌∙◌, List, arith, length, take, length-take, length-take-le, get_or-take, length-replicate, get_or-replicate, rules}
use Rattle.rules.specs.Lists.{range}
use Rattle.laws.specs.Numbers.Assignments.{index_from, index_of}
use Rattle.nets.specs.Sound.{sound_size}
use Rattle.evaluation.specs.Fast.ByTable.{step_ready, indexed_more, look_ready, table_values_done}
use Rattle.evaluation.proofs.fast.by_table.table_values.Goals as goal

pub table-requires : goal.table-requires
table-requires c = let sound = c.requires.0.sound in let small = (sound_size _ sound).cells_most in (sound, search rules)

pub loop-start-init : goal.loop-start-init
unfolding index_of index_from range
loop-start-init c = (length-replicate {A = ℕ} 4352 0, λ p h. get_or-replicate {A = ℕ} 4352 p 0 0 (omega arith))

pub step_indices-requires : goal.step_indices-requires
step_indices-requires c =
    let l = c.loop-start in
    let n : ℕ = c.args.net.inputs in
    let turn : l.start-index < n = omega (arith, length-take n c.args.starts, c.loop-start-test.true) in
    rw (get_or-take n c.args.starts l.start-index 0 turn)
    (step_ready _ _ _ _ _ c.requires.0 l.start-index l.indices l.invariant.1 turn (omega (arith, l.invariant.0, c.requires.1)))

pub loop-start-preserved : goal.loop-start-preserved
loop-start-preserved c =
    let l = c.loop-start in
    let n : ℕ = c.args.net.inputs in
    let turn : l.start-index < n = omega (arith, length-take n c.args.starts, c.loop-start-test.true) in
    let did = rw (get_or-take n c.args.starts l.start-index 0 turn) at c.step_indices.ensures in
    (did.same ∙ l.invariant.0, indexed_more _ _ _ _ _ c.requires.0 l.start-index l.indices l.invariant.1 _ did)

-- all inputs are taken in
all_taken : (starts : List ℕ) (n i : ℕ) → n ≤ length starts → i ≤ length (take n starts) → length (take n starts) ≤ i → i ≡ n
all_taken starts n i long low high = omega (arith, length-take-le n starts long)

pub look_up-requires : goal.look_up-requires
look_up-requires c =
    let l = c.loop-start in
    let all : l.start-index ≡ c.args.net.inputs =
    all_taken c.args.starts _ _ (omega (arith, (sound_size _ c.requires.0.sound).inputs_most)) (omega arith) c.loop-start-test.false in
    look_ready _ _ _ _ _ c.requires.0 l.start-index l.indices l.invariant.1 _ _ _ c.table.ensures all
    (omega (arith, l.invariant.0, c.requires.1)) (search rules)

pub returns : goal.returns
returns c =
    let l = c.loop-start in
    let all : l.start-index ≡ c.args.net.inputs =
    all_taken c.args.starts _ _ (omega (arith, (sound_size _ c.requires.0.sound).inputs_most)) (omega arith) c.loop-start-test.false in
    table_values_done _ _ _ _ _ c.requires.0 l.start-index l.indices l.invariant.1 _ _ _ c.table.ensures all _ c.look_up.ensures

pub overflow_cast-m : goal.overflow_cast-m
overflow_cast-m c = omega (arith, (sound_size _ c.requires.0.sound).levels_most)

pub slice_bounds-starts-end : goal.slice_bounds-starts-end
slice_bounds-starts-end c = omega (arith, (sound_size _ c.requires.0.sound).inputs_most)

pub slice_bounds-start-items-end : goal.slice_bounds-start-items-end
slice_bounds-start-items-end c =
    omega (arith, length-take c.args.net.inputs c.args.starts, (sound_size _ c.requires.0.sound).inputs_most)
