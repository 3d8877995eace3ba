-- Document 02, K10, stated for the call. "Past 12 and 13 it is refused with 23 exactly when no filling of that wiring computes the table": no
-- digits at all. "A kept wiring that leaves out an input that matters is refused with 23 at place 0, before its gates are judged." (K12) Otherwise
-- the sheet written is an accepted net with the given wiring and exactly the table, and the set is exactly the gates that changed. Keeping again
-- changes nothing; keeping the wiring of the settled net gives making's sheet; keeping leaves every sheet of a family as it is.
-- Assumes nothing.
use Rattle.std.specs.Prelude.{◌<◌, ◌≤◌, ◌-◌, ◌^◌, ◌≡◌, ◌↔◌, ◌≢◌, ◌⊎◌}
use Rattle.laws.specs.Prelude.{ℕ, suc, ◌∙◌, sym, ap, refl, subst, ap₂, subst⁻¹, ⊎_elim, inl, inr, true, false, Bool}
use Rattle.laws.specs.Prelude.{true≢false, List, lt_of_not-le, dec_le, arith, length, get_or, take, answer_cases, by_cases, test_cases}
use Rattle.rules.specs.Calls.Answers.{accepted, Named, net_named, table_named, neither, ink_in, written}
use Rattle.rules.specs.Calls.Checking.{same_header}
use Rattle.rules.specs.Calls.FamilyCalls.{family_net, family_tree_call}
use Rattle.rules.specs.Calls.Keeping.{gate_links, kept_gates, kept_net, roomy_before, leaves_out, table_at, changed_gates, Keeping, rewritten, turned_away}
use Rattle.rules.specs.Calls.Keeping.{KeptWiring, kept_into, keep_call}
use Rattle.rules.specs.Calls.OpenCells.{full_table, read_full}
use Rattle.rules.specs.Calls.Settling.{settled_net, make_call}
use Rattle.rules.specs.Groups.Groups.{member, multiplicity}
use Rattle.rules.specs.Limits.{most_settled}
use Rattle.rules.specs.Nets.Family.{gate_groups}
use Rattle.rules.specs.Nets.Filling.{filled}
use Rattle.rules.specs.Sheets.Printed.{printed_net}
use Rattle.rules.specs.Sheets.Reading.{read_net, read_table, table_of_net}
use Rattle.rules.specs.Sheets.SheetRules.{NetRules}
use Rattle.rules.specs.Sheets.Sheets.{Gate, Net, Table}
use Rattle.laws.specs.Calls.Answers.{written_front}
use Rattle.laws.specs.Calls.Keeping.{keep_net_refused, keep_table_refused, keep_accepted, keep_12, keep_27, keep_13, keep_23_0, keep_23, keep_15, keep_written}
use Rattle.laws.specs.Calls.OpenCells.{read_full_lem, read_accepted}
use Rattle.readback.specs.Sheets.ReadBack.{net_accepted, net_read_back, table_accepted}
use Rattle.demands.specs.Sheets.FullSheets.{FullTableRules, full_accepted}
use Rattle.readback.specs.Sheets.Length.{net_length}
use Rattle.trees.specs.Trees.EquallyLong.{equally_long}
use Rattle.trees.specs.Keeping.KeptWirings.{UsesMattering, leaves_out_none, roomy_before_lem, crowded_at}
use Rattle.trees.specs.Keeping.ChangedGates.{changed_below, changed_exactly, none_changed}
use Rattle.trees.specs.Trees.NetTables.{levels_pos}
use Rattle.demands.specs.Settling.Settles.{sheet_of}
use Rattle.demands.specs.Settling.Makes.{made_sheet}
use Rattle.demands.specs.Families.FamilySheets.{tree_sheet}
use Rattle.laws.specs.Calls.Checking.{same_header_lem, header_same}
use Rattle.demands.specs.Keeping.KeptNets.{FillingFor, Roomy, LeftOut, left_out, kept_inputs, crowded_exactly, kept_filling, kept_keeps}
use Rattle.demands.specs.Keeping.KeptNets.{kept_has_table, kept_wiring, own_roomy, filling_roomy, kept_header, kept_twice, settled_header}
use Rattle.demands.specs.Keeping.KeptNets.{settled_refilled, family_header, family_kept_own, refilled, kept_by_wiring}

-- two different answers
rewritten_not : (count changed : ℕ) (named : Named) (number place : ℕ) → ◌≡◌ {A = Keeping} (rewritten count changed) (turned_away named number place) → ⊥
rewritten_not count changed named number place e = let z : ◌≡◌ {A = ℕ} 0 1 = cc in omega arith

turned_number : (named named' : Named) (number number' place place' : ℕ)
    → ◌≡◌ {A = Keeping} (turned_away named number place) (turned_away named' number' place') → number ≡ number'
turned_number named named' number number' place place' e = cc

turned_place : (named named' : Named) (number number' place place' : ℕ)
    → ◌≡◌ {A = Keeping} (turned_away named number place) (turned_away named' number' place') → place ≡ place'
turned_place named named' number number' place place' e = cc

same_answer : {a b c d : ℕ} → ◌≡◌ {A = Keeping} (rewritten a b) (rewritten c d) → (a ≡ c) × (b ≡ d)
same_answer e = (cc, cc)

-- equal results have equal answers
answered : {made kept : KeptWiring} → made ≡ kept → made.answer ≡ kept.answer
answered e = ap (λ (k : KeptWiring). k.answer) e

-- ---- past 12, 27 and 13

-- both sheets accepted, with the same levels, inputs and names, a full table, and room for the cells
pub record Past (s r cells : List ℕ) : Type 0 where
  pub net : Net
  pub table : Table
  pub reads_net : read_net s ≡ accepted net
  pub reads_table : read_full r ≡ accepted table
  pub header : net.header ≡ table.header
  pub long : table.header.levels ^ table.header.inputs ≤ length cells

module _ (s r cells : List ℕ) (past : Past s r cells) where
  open past use {net, table as t}

  kept_net_lem : NetRules net
  kept_net_lem = (net_accepted s net past.reads_net).1

  kept_t : FullTableRules t
  kept_t = (full_accepted r t past.reads_table).1

  -- it is read, and judged full
  full_t : (read_table r ≡ accepted t) × (full_table t ≡ accepted tt)
  full_t = read_accepted r t past.reads_table

  cells_long : length t.inks ≤ length cells
  cells_long = subst⁻¹ (λ (k : ℕ). k ≤ length cells) kept_t.count past.long

  same : same_header net.header t.header ≡ true
  same = same_header_lem net.header t.header past.header

  judged : (output : List ℕ) → keep_call s r cells output ≡ kept_into net t cells output
  judged output = keep_accepted s r cells output net past.reads_net t full_t.0

  -- the sheet to be written
  abbrev pub sheet_for : List ℕ
  sheet_for = printed_net (kept_net net t)

  -- the call then ends in one of four ways
  pub data PastEnds (output : List ℕ) : Type 0 where
    ends_23_0 : leaves_out net t ≡ true
        → keep_call s r cells output ≡ record { answer = turned_away neither 23 0; cells = written cells t.inks; output = output }
        → PastEnds output
    ends_23 : leaves_out net t ≡ false → roomy_before net t < length net.gates
        → keep_call s r cells output ≡ record { answer = turned_away neither 23 (suc (roomy_before net t)); cells = written cells t.inks; output = output }
        → PastEnds output
    ends_15 : Roomy net t → length output < length sheet_for
        → keep_call s r cells output ≡ record { answer = turned_away neither 15 (length sheet_for); cells = written cells t.inks; output = output }
        → PastEnds output
    ends_written : Roomy net t → length sheet_for ≤ length output
        → keep_call s r cells output
        ≡ record {
          answer = rewritten (length sheet_for) (changed_gates net.gates (kept_net net t).gates);
          cells = written cells t.inks;
          output = written output sheet_for;
        }
        → PastEnds output

  pub past_ends : (output : List ℕ) → PastEnds output
  past_ends output = go (leaves_out net t) refl (dec_le (length net.gates) (roomy_before net t)) (dec_le (length sheet_for) (length output))
    where
      go : (out : Bool) → leaves_out net t ≡ out → Dec (length net.gates ≤ roomy_before net t) → Dec (length sheet_for ≤ length output) → PastEnds output
      go true out _ _ = ends_23_0 out (judged output ∙ keep_23_0 net t cells output same full_t.1 cells_long out)
      go false takes (no crowded) _ =
          ends_23 takes (lt_of_not-le crowded) (judged output ∙ keep_23 net t cells output same full_t.1 cells_long takes (lt_of_not-le crowded))
      go false takes (yes roomy) (no short) =
          ends_15 (takes, roomy) (lt_of_not-le short) (judged output ∙ keep_15 net t cells output same full_t.1 cells_long takes roomy (lt_of_not-le short))
      go false takes (yes roomy) (yes fits) =
          ends_written (takes, roomy) fits (judged output ∙ keep_written net t cells output same full_t.1 cells_long takes roomy fits)

  -- "Past 12 and 13 it is refused with 23 exactly when no filling of that wiring computes the table.": no gate lines with the same left and right,
  -- whatever their tables, and whatever the output
  pub refuses_23 : (output : List ℕ)
      → ((place : ℕ) × ((keep_call s r cells output).answer ≡ turned_away neither 23 place)) ↔ ((filling : List Gate) → FillingFor net t filling → ⊥)
  refuses_23 output = elim (past_ends output) [
    | ends_23_0 out e ↦ (λ _. exactly.0 (inl out), λ none. (0, answered e))
    | ends_23 takes crowded e ↦ (λ _. exactly.0 (inr crowded), λ none. (suc (roomy_before net t), answered e))
    | ends_15 roomy short e ↦ (
      λ is. absurd (omega (arith, turned_number neither neither 15 23 _ is.0 (sym (answered e) ∙ is.1))),
      λ none. absurd (not_roomy roomy none),
    )
    | ends_written roomy fits e ↦ (
      λ is. absurd (rewritten_not _ _ neither 23 is.0 (sym (answered e) ∙ is.1)),
      λ none. absurd (not_roomy roomy none),
    )
  ]
    where
      exactly : ((leaves_out net t ≡ true) ⊎ (roomy_before net t < length net.gates)) ↔ ((filling : List Gate) → FillingFor net t filling → ⊥)
      exactly = crowded_exactly net t kept_net_lem kept_t past.header

      not_roomy : Roomy net t → ((filling : List Gate) → FillingFor net t filling → ⊥) → ⊥
      not_roomy roomy none = ⊎_elim (λ out. true≢false (sym out ∙ roomy.0)) (λ crowded. omega (arith, roomy.1)) (exactly.1 none)

  -- "A kept wiring that leaves out an input that matters is refused with 23 at place 0, before its gates are judged.": whatever the output, and
  -- "leaves the cells written", the output untouched, ..
  pub refuses_23_0 : LeftOut net t → (output : List ℕ)
      → keep_call s r cells output ≡ record { answer = turned_away neither 23 0; cells = written cells t.inks; output = output }
  refuses_23_0 is output = judged output ∙ keep_23_0 net t cells output same full_t.1 cells_long ((left_out net t).1 is)

  -- .. and nothing else is refused with 23 at place 0
  pub place_0 : (output : List ℕ) → ((keep_call s r cells output).answer ≡ turned_away neither 23 0) ↔ LeftOut net t
  place_0 output = (λ d. (left_out net t).0 (go d (past_ends output)), λ is. answered (refuses_23_0 is output))
    where
      go : (keep_call s r cells output).answer ≡ turned_away neither 23 0 → PastEnds output → leaves_out net t ≡ true
      go d (ends_23_0 out e) = out
      go d (ends_23 takes crowded e) = absurd (omega (arith, turned_place neither neither 23 23 _ 0 (sym (answered e) ∙ d)))
      go d (ends_15 roomy short e) = absurd (omega (arith, turned_number neither neither 15 23 _ 0 (sym (answered e) ∙ d)))
      go d (ends_written roomy fits e) = absurd (rewritten_not _ _ neither 23 0 (sym (answered e) ∙ d))

  -- how many classes the group of gate k has
  abbrev pub classes_at : ℕ → ℕ
  classes_at k = multiplicity net.header.levels net.header.inputs (ink_in t.inks) (get_or (gate_groups net.header.inputs net.gates) (k - 1) 0)

  -- "place the number of the first gate whose group has more than m classes", if not at place 0: every input that matters is used; that gate's group
  -- has more, no earlier gate's has; and what 23 leaves
  pub record FirstCrowded (output : List ℕ) (place : ℕ) : Type 0 where
    pub uses : UsesMattering net.header.levels net.header.inputs (ink_in t.inks) net.gates
    pub gate : place ≤ length net.gates
    pub crowded : net.header.levels < classes_at place
    pub before : (k : ℕ) → 0 < k → k < place → classes_at k ≤ net.header.levels
    -- "leaves the cells written", the output untouched
    pub leaves : keep_call s r cells output ≡ record { answer = turned_away neither 23 place; cells = written cells t.inks; output = output }

  pub place_23 : (output : List ℕ) (place : ℕ) → 0 < place → (keep_call s r cells output).answer ≡ turned_away neither 23 place → FirstCrowded output place
  unfolding roomy_before
  place_23 output place some d = elim (past_ends output) [
    | ends_23_0 out e ↦ absurd (omega (arith, turned_place neither neither 23 23 0 place (sym (answered e) ∙ d)))
    | ends_23 takes crowded e ↦ subst (FirstCrowded output) (turned_place neither neither 23 23 _ place (sym (answered e) ∙ d)) (first takes crowded e)
    | ends_15 roomy short e ↦ absurd (omega (arith, turned_number neither neither 15 23 _ place (sym (answered e) ∙ d)))
    | ends_written roomy fits e ↦ absurd (rewritten_not _ _ neither 23 place (sym (answered e) ∙ d))
  ]
    where
      pos : 0 < net.header.levels
      pos = levels_pos net.header.levels kept_net_lem.header.levels

      first : leaves_out net t ≡ false → roomy_before net t < length net.gates
          → keep_call s r cells output ≡ record { answer = turned_away neither 23 (suc (roomy_before net t)); cells = written cells t.inks; output = output }
          → FirstCrowded output (suc (roomy_before net t))
      first takes crowded e = record {
        uses = (leaves_out_none net t).0 takes;
        gate = crowded;
        crowded = subst (λ (k : ℕ). net.header.levels < multiplicity net.header.levels net.header.inputs (ink_in t.inks)
            (get_or (gate_groups net.header.inputs net.gates) k 0))
            (let z : roomy_before net t ≡ suc (roomy_before net t) - 1 = omega arith in z)
            (crowded_at net.header.levels net.header.inputs pos (ink_in t.inks) net.gates kept_net_lem.gates crowded);
        before = λ k some h.
            roomy_before_lem net.header.levels net.header.inputs pos (ink_in t.inks) net.gates kept_net_lem.gates (k - 1) (omega arith);
        leaves = e;
      }

  -- ---- if some filling computes the table

  module _ (roomy : Roomy net t) where
    -- the sheet is accepted, as the net with the given header and wiring, filled by the class rule, ..
    pub kept_accepted : read_net sheet_for ≡ accepted (kept_net net t)
    kept_accepted = net_read_back (kept_net net t) (kept_keeps net t kept_net_lem kept_t past.header roomy)

    -- .. with exactly the table, ..
    pub written_table : table_of_net (kept_net net t) ≡ t
    written_table = kept_has_table net t kept_net_lem kept_t past.header roomy

    -- .. as long as the given sheet, ..
    pub kept_as_long : length sheet_for ≡ length s
    unfolding kept_net
    kept_as_long =
        equally_long (kept_net net t) net (kept_keeps net t kept_net_lem kept_t past.header roomy) kept_net_lem (kept_header net t)
        (kept_inputs net t kept_net_lem kept_t past.header)
        ∙ ap length (sym (net_accepted s net past.reads_net).0)

    -- .. and so never over 512 bytes
    pub kept_short : length sheet_for ≤ most_settled
    kept_short = net_length (kept_net net t) (kept_keeps net t kept_net_lem kept_t past.header roomy)

  -- so if some filling computes the table, and the output has room for the sheet, it is written
  pub keeps : (filling : List Gate) → FillingFor net t filling → (output : List ℕ) → length sheet_for ≤ length output
      → keep_call s r cells output
      ≡ record {
        answer = rewritten (length sheet_for) (changed_gates net.gates (kept_net net t).gates);
        cells = written cells t.inks;
        output = written output sheet_for;
      }
  keeps filling fills output fits =
      let (takes, roomy) = filling_roomy net t kept_net_lem kept_t past.header filling fills in
      judged output ∙ keep_written net t cells output same full_t.1 cells_long takes roomy fits

-- ---- a net that is its own filling

-- its sheet comes back unchanged, with the empty set
own_comes_back : (net : Net) (t : Table) → NetRules net → FullTableRules t → net.header ≡ t.header → table_of_net net ≡ t → kept_net net t ≡ net
    → (r : List ℕ) → read_full r ≡ accepted t → (cells output : List ℕ) → t.header.levels ^ t.header.inputs ≤ length cells
    → length (printed_net net) ≤ length output
    → keep_call (printed_net net) r cells output
    ≡ record { answer = rewritten (length (printed_net net)) 0; cells = written cells t.inks; output = written output (printed_net net) }
own_comes_back net t kept kept_t header has own r reads cells output long fits =
    let (takes, roomy) = own_roomy net t kept kept_t header has in
    keep_accepted (printed_net net) r cells output net (net_read_back net kept) t (read_accepted r t reads).0
    ∙ keep_written net t cells output (same_header_lem net.header t.header header) (read_accepted r t reads).1
    (subst⁻¹ (λ (k : ℕ). k ≤ length cells) kept_t.count long)
    takes roomy (subst⁻¹ (λ (k : Net). length (printed_net k) ≤ length output) own fits)
    ∙ ap (λ (k : Net). record {
      answer = rewritten (length (printed_net k)) (changed_gates net.gates k.gates);
      cells = written cells t.inks;
      output = written output (printed_net k);
    }) own
    ∙ ap (λ (changed : ℕ).
    record { answer = rewritten (length (printed_net net)) changed; cells = written cells t.inks; output = written output (printed_net net) })
    (none_changed net.gates)

-- the result for a sheet that is its own filling, in any buffers that are long enough
pub record ComesBack (sheet r : List ℕ) (t : Table) : Type 0 where
  pub unchanged : (cells output : List ℕ) → t.header.levels ^ t.header.inputs ≤ length cells → length sheet ≤ length output
      → keep_call sheet r cells output ≡ record { answer = rewritten (length sheet) 0; cells = written cells t.inks; output = written output sheet }

comes_back : (sheet r : List ℕ) (net : Net) (t : Table) → read_net sheet ≡ accepted net → read_full r ≡ accepted t → net.header ≡ t.header → table_of_net net ≡ t
    → kept_net net t ≡ net → ComesBack sheet r t
comes_back sheet r net t reads_net reads header has own =
    let (printed, kept) = net_accepted sheet net reads_net in
    subst⁻¹ (λ (b : List ℕ). ComesBack b r t) printed
    (record { unchanged = own_comes_back net t kept (full_accepted r t reads).1 header has own r reads })

-- ---- whatever the sheets and the buffers

-- either the call ends before the filling, and then leaves both buffers unchanged, or it gets past 13
pub data KeepEnds (s r cells output : List ℕ) : Type 0 where
  ends_before : (named : Named) (number place : ℕ)
      → keep_call s r cells output ≡ record { answer = turned_away named number place; cells = cells; output = output } → KeepEnds s r cells output
  goes_past : Past s r cells → KeepEnds s r cells output

pub keep_ends : (s r cells output : List ℕ) → KeepEnds s r cells output
keep_ends s r cells output = answer_cases (read_net s)
    (λ number place d. ends_before net_named number place (keep_net_refused s r cells output number place d))
    (λ net d. answer_cases (read_table r)
    (λ number place e. ends_before table_named number place (keep_table_refused s r cells output net d number place e))
    (λ t e. both net d t e (keep_accepted s r cells output net d t e) (dec_le (length t.inks) (length cells))))
  where
    both : (net : Net) → read_net s ≡ accepted net → (t : Table) → read_table r ≡ accepted t → keep_call s r cells output ≡ kept_into net t cells output
        → Dec (length t.inks ≤ length cells) → KeepEnds s r cells output
    both net d t e on fits = test_cases (same_header net.header t.header)
        (λ h. answer_cases (full_table t)
        (λ number place f. ends_before table_named number place (on ∙ keep_27 net t cells output h number place f))
        (λ _ f. by_cases fits
        (λ long. goes_past (record {
          net = net;
          table = t;
          reads_net = d;
          reads_table = read_full_lem r t e f;
          header = header_same net.header t.header h;
          long = subst (λ (k : ℕ). k ≤ length cells) (table_accepted r t e).1.count long;
        }))
        (λ short. ends_before neither 13 (length t.inks) (on ∙ keep_13 net t cells output h f (lt_of_not-le short)))))
        (λ h. ends_before neither 12 0 (on ∙ keep_12 net t cells output h))

-- What an accepted answer means.
pub record Rewrites (s r cells output : List ℕ) (count changed : ℕ) : Type 0 where
  pub past : Past s r cells
  -- the sheet written: "that many bytes from the front of the output"
  pub sheet : List ℕ
  pub front : take count (keep_call s r cells output).output ≡ sheet
  -- it is accepted as a net with the given header, the given wiring, ..
  pub net : Net
  pub reads : read_net sheet ≡ accepted net
  pub header : net.header ≡ past.net.header
  pub wiring : gate_links net.gates ≡ gate_links past.net.gates
  -- .. filled "by the settled net's class rule over the given wiring" (`digit_rule` states the rule, and `digit_rule_only` that no other digits
  -- follow it), ..
  pub by_rule_lem : net.gates ≡ filled past.net.header.levels past.net.header.inputs (ink_in past.table.inks) (gate_links past.net.gates)
  -- .. and exactly the table
  pub table : table_of_net net ≡ past.table
  -- the set is exactly the gates that changed: bit k is gate k's, and there is no other
  pub below : changed < 2 ^ suc (length past.net.gates)
  pub exactly : (k : ℕ) → (member k changed ≡ true) ↔ ((0 < k) × (k ≤ length past.net.gates) × (table_at past.net.gates k ≢ table_at net.gates k))
  -- keeping again changes nothing, and returns the empty set
  pub again : ComesBack sheet r past.table

-- the kept net's gates are filled by the class rule
kept_by_rule : (net : Net) (t : Table) → (kept_net net t).gates ≡ filled net.header.levels net.header.inputs (ink_in t.inks) (gate_links net.gates)
unfolding kept_net kept_gates
kept_by_rule net t = refl

pub rewrites : (s r cells output : List ℕ) (count changed : ℕ) → (keep_call s r cells output).answer ≡ rewritten count changed
    → Rewrites s r cells output count changed
rewrites s r cells output count changed d = elim (keep_ends s r cells output) [
  | ends_before named number place e ↦ absurd (rewritten_not count changed named number place (sym d ∙ answered e))
  | goes_past past ↦ ended past (past_ends s r cells past output)
]
  where
    ended : (past : Past s r cells) → PastEnds s r cells past output → Rewrites s r cells output count changed
    ended past (ends_23_0 out e) = absurd (rewritten_not count changed neither 23 _ (sym d ∙ answered e))
    ended past (ends_23 takes crowded e) = absurd (rewritten_not count changed neither 23 _ (sym d ∙ answered e))
    ended past (ends_15 roomy short e) = absurd (rewritten_not count changed neither 15 _ (sym d ∙ answered e))
    ended past (ends_written roomy fits e) =
        let own : Net = kept_net past.net past.table in
        let (is_count, is_changed) = same_answer (sym (answered e) ∙ d) in
        let reads = kept_accepted s r cells past roomy in
        let table = written_table s r cells past roomy in
        record {
          past = past;
          sheet = printed_net own;
          front = ap₂ take (sym is_count) (ap (λ (k : KeptWiring). k.output) e) ∙ written_front output (printed_net own);
          net = own;
          reads = reads;
          header = kept_header past.net past.table;
          wiring = kept_wiring past.net past.table (kept_net_lem s r cells past) (kept_t s r cells past) past.header;
          by_rule_lem = kept_by_rule past.net past.table;
          table = table;
          below = subst (λ (c : ℕ). c < 2 ^ suc (length past.net.gates)) is_changed (changed_below past.net.gates own.gates);
          exactly = λ k. subst (λ (c : ℕ). (member k c ≡ true)
              ↔ ((0 < k) × (k ≤ length past.net.gates) × (table_at past.net.gates k ≢ table_at own.gates k))) is_changed
              (changed_exactly past.net.gates own.gates k);
          again = comes_back (printed_net own) r own past.table reads past.reads_table (kept_header past.net past.table ∙ past.header) table
              (kept_twice past.net past.table);
        }

-- ---- the settled net and the family

module _ (r : List ℕ) (t : Table) (reads : read_full r ≡ accepted t) where
  -- keeping the settled net's own wiring gives the settled sheet, as making writes it, ..
  pub settled_comes_back : (cells marks output sheet : List ℕ) → sheet_of (make_call r cells marks output) ≡ accepted sheet → ComesBack sheet r t
  settled_comes_back cells marks output sheet e =
      let (reads_net, has) = made_sheet r t reads cells marks output sheet e in
      comes_back sheet r (settled_net t) t reads_net reads (settled_header t) has (settled_refilled t)

  -- .. and the same holds for the sheet of each number of the family
  pub family_comes_back : (number : ℕ) (cells marks output sheet : List ℕ) → sheet_of (family_tree_call r number cells marks output) ≡ accepted sheet
      → ComesBack sheet r t
  family_comes_back number cells marks output sheet e =
      let (reads_net, has) = tree_sheet r t reads number cells marks output sheet e in
      comes_back sheet r (family_net number t) t reads_net reads (family_header number t) has (family_kept_own number t)

  -- Keeping the settled net's wiring, whatever the gate tables, gives making's sheet: if making writes a sheet, and an accepted net sheet with the
  -- table's header has the same left and right at each gate line.
  pub keep_as_making : (cells marks output made : List ℕ) → sheet_of (make_call r cells marks output) ≡ accepted made
      → (s : List ℕ) (net : Net) → read_net s ≡ accepted net → net.header ≡ t.header → gate_links net.gates ≡ gate_links (settled_net t).gates
      → (cells' output' : List ℕ) → t.header.levels ^ t.header.inputs ≤ length cells' → length made ≤ length output'
      → keep_call s r cells' output'
      ≡ record {
        answer = rewritten (length made) (changed_gates net.gates (settled_net t).gates);
        cells = written cells' t.inks;
        output = written output' made;
      }
  keep_as_making cells marks output made e s net reads_net header wiring cells' output' long fits =
      let (reads_made, has) = made_sheet r t reads cells marks output made e in
      let (printed, kept_made) = net_accepted made (settled_net t) reads_made in
      let kept_t = (full_accepted r t reads).1 in
      let kept_net_lem = (net_accepted s net reads_net).1 in
      let is : kept_net net t ≡ settled_net t = kept_by_wiring (settled_net t) net t (header ∙ sym (settled_header t)) wiring ∙ settled_refilled t in
      let own = kept_filling (settled_net t) t kept_made kept_t (settled_header t) (own_roomy (settled_net t) t kept_made kept_t (settled_header t) has) in
      let past : Past s r cells' = record { net = net; table = t; reads_net = reads_net; reads_table = reads; header = header; long = long } in
      let fills : FillingFor net t (kept_net (settled_net t) t).gates = refilled net (settled_net t) t (header ∙ sym (settled_header t)) wiring own in
      keeps s r cells' past (kept_net (settled_net t) t).gates fills output'
      (subst⁻¹ (λ (k : Net). length (printed_net k) ≤ length output') is (subst (λ (b : List ℕ). length b ≤ length output') printed fits))
      ∙ ap (λ (k : Net). record {
        answer = rewritten (length (printed_net k)) (changed_gates net.gates k.gates);
        cells = written cells' t.inks;
        output = written output' (printed_net k);
      }) is
      ∙ ap (λ (b : List ℕ).
      record {
        answer = rewritten (length b) (changed_gates net.gates (settled_net t).gates);
        cells = written cells' t.inks;
        output = written output' b;
      }) (sym printed)
