-- With the buffers that include/sitgurp.h says always suffice, keeping a wiring refuses only with the numbers of its two sheets, 27, 12 and 23.
-- Assumes nothing.
use Rattle.std.specs.Prelude.{◌≤◌, ◌^◌, ◌≡◌, ◌∷◌}
use Rattle.laws.specs.Prelude.{ℕ, ◌∙◌, sym, ap, refl, subst₂, true, false, Bool, List, [], le_trans, arith, length}
use Rattle.rules.specs.Calls.Answers.{Answer, accepted, refused, Named, net_named, table_named, neither}
use Rattle.rules.specs.Calls.Checking.{same_header}
use Rattle.rules.specs.Calls.Keeping.{Keeping, turned_away, KeptWiring, keep_call}
use Rattle.rules.specs.Calls.OpenCells.{full_table}
use Rattle.rules.specs.Limits.{most_cells, most_settled}
use Rattle.rules.specs.Lists.{all, any}
use Rattle.rules.specs.Sheets.Reading.{read_net, read_table}
use Rattle.rules.specs.Sheets.Sheets.{Net, Table}
use Rattle.laws.specs.Lists.Distinct.{In, wider}
use Rattle.laws.specs.Calls.OpenCells.{read_full_lem}
use Rattle.laws.specs.Calls.Keeping.{keep_net_refused, keep_table_refused, keep_accepted, keep_12, keep_27}
use Rattle.readback.specs.Readers.Numbers.{net_numbers, table_numbers, net_refusal, table_refusal}
use Rattle.readback.specs.Sheets.ReadBack.{table_accepted}
use Rattle.demands.specs.Sheets.FullSheets.{full_numbers}
use Rattle.demands.specs.Numbers.Numbers.{full_numbers_lem}
use Rattle.laws.specs.Calls.Checking.{header_same}
use Rattle.demands.specs.Sheets.Lengths.{kept_cells}
use Rattle.demands.specs.Keeping.Keeping.{Past, PastEnds, ends_23_0, ends_23, ends_15, ends_written, past_ends, kept_short}

-- keeping's numbers without 13 and 15
abbrev pub keep_ample_numbers : Named → List ℕ
keep_ample_numbers net_named = net_numbers
keep_ample_numbers table_named = full_numbers
keep_ample_numbers neither = 12 ∷ 23 ∷ []

module _ (s r cells output : List ℕ) (ample_cells : most_cells ≤ length cells) (ample_output : most_settled ≤ length output) where
  pub keep_ample_numbers_lem : (named : Named) (number place : ℕ) → (keep_call s r cells output).answer ≡ turned_away named number place
      → In number (keep_ample_numbers named)
  unfolding any all full_table
  keep_ample_numbers_lem named number place e = go (read_net s) refl (read_table r) refl
    where
      answer : (made : KeptWiring) → keep_call s r cells output ≡ made → made.answer ≡ turned_away named number place
      answer made d = sym (ap (λ (k : KeptWiring). k.answer) d) ∙ e

      turned : (named' : Named) (k at : ℕ) → In k (keep_ample_numbers named')
          → ◌≡◌ {A = Keeping} (turned_away named' k at) (turned_away named number place) → In number (keep_ample_numbers named)
      turned named' k at h d =
          subst₂ (λ (w : Named) (j : ℕ). In j (keep_ample_numbers w)) (let z : named' ≡ named = cc in z) (let z : k ≡ number = cc in z) h

      ended : (past : Past s r cells) → PastEnds s r cells past output → In number (keep_ample_numbers named)
      ended past (ends_23_0 out d) = turned neither 23 0 refl (answer _ d)
      ended past (ends_23 takes crowded d) = turned neither 23 _ refl (answer _ d)
      ended past (ends_15 roomy short d) = absurd (omega (arith, kept_short s r cells past roomy))
      ended past (ends_written roomy fits d) = absurd (let a = answer _ d in let z : ◌≡◌ {A = ℕ} 0 1 = cc in omega arith)

      go : (a : Answer Net) → read_net s ≡ a → (b : Answer Table) → read_table r ≡ b → In number (keep_ample_numbers named)
      go (refused k at) d b f = turned net_named k at (net_refusal s k at d) (answer _ (keep_net_refused s r cells output k at d))
      go (accepted net) d (refused k at) f =
          turned table_named k at (wider table_numbers full_numbers refl k (table_refusal r k at f)) (answer _ (keep_table_refused s r cells output net d k at f))
      go (accepted net) d (accepted t) f = headers (same_header net.header t.header) refl (full_table t) refl
        where
          fits : t.header.levels ^ t.header.inputs ≤ length cells
          fits = le_trans (kept_cells t.header (table_accepted r t f).1.header) ample_cells

          headers : (same : Bool) → same_header net.header t.header ≡ same → (a : Answer (Unit {0})) → full_table t ≡ a → In number (keep_ample_numbers named)
          headers false h a o = turned neither 12 0 refl (answer _ (keep_accepted s r cells output net d t f ∙ keep_12 net t cells output h))
          headers true h (refused k at) o =
              turned table_named k at (full_numbers_lem t.header.levels t.inks full_numbers refl k at o)
              (answer _ (keep_accepted s r cells output net d t f ∙ keep_27 net t cells output h k at o))
          headers true h (accepted _) o =
              let past : Past s r cells =
              record { net = net; table = t; reads_net = d; reads_table = read_full_lem r t f o; header = header_same net.header t.header h; long = fits } in
              ended past (past_ends s r cells past output)
