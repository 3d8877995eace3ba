-- Demand 2, checking and table writing: "the check of a net against a table says yes exactly when they agree on every
-- assignment", now for "the assignments that aren't open" (document 02, K13). The table sheet written from a net sheet is accepted, and agrees.
-- Assumes nothing.
use Rattle.std.specs.Prelude.{◌<◌, ◌≤◌, ◌^◌, ◌≡◌, ◌↔◌}
use Rattle.laws.specs.Prelude.{ℕ, ◌∙◌, sym, ap, refl, subst, subst⁻¹, true, false, Bool, List, lt_of_not-le, dec_le, arith, length}
use Rattle.laws.specs.Prelude.{get_or, by_cases}
use Rattle.rules.specs.Calls.Answers.{Answer, accepted, refused, Named, net_named, table_named, neither, ink_in, written}
use Rattle.rules.specs.Calls.Checking.{Verdict, agree, differ, turned_down, Checked, same_header, compared, checked_into, check_call}
use Rattle.rules.specs.Nets.Value.{value}
use Rattle.rules.specs.Sheets.Printed.{printed_table}
use Rattle.rules.specs.Sheets.Reading.{read_net, read_table, table_of_net}
use Rattle.rules.specs.Sheets.Sheets.{Header, Net, Table}
use Rattle.rules.specs.Calls.TableWriting.{Written, write_table_call}
use Rattle.laws.specs.Calls.Checking.{same_header_lem, header_same, check_net_refused, check_table_refused, check_accepted, check_12, check_13, check_compared}
use Rattle.laws.specs.Calls.TableWriting.{table_15, table_written}
use Rattle.readback.specs.Sheets.ReadBack.{net_accepted, table_accepted, table_read_back}
use Rattle.trees.specs.Trees.Uniqueness.{table_at, net_table_length}
use Rattle.demands.specs.Settling.Settles.{sheet_in}
use Rattle.laws.specs.Calls.Answers.{accepted_inj, not_refused, written_front}
use Rattle.trees.specs.Trees.NetTables.{kept_table}
use Rattle.laws.specs.Calls.Checking.{all_agree, first_differs, comparison}

-- ---- checking

agree_differ : (k : ℕ) → ◌≡◌ {A = Verdict} agree (differ k) → ⊥
agree_differ k e = let z : ◌≡◌ {A = ℕ} 0 1 = cc in omega arith

differ_same : (j k : ℕ) → ◌≡◌ {A = Verdict} (differ j) (differ k) → j ≡ k
differ_same j k e = cc

module _ (s r : List ℕ) (net : Net) (t : Table) (reads_net : read_net s ≡ accepted net) (reads_table : read_table r ≡ accepted t)
    (header : net.header ≡ t.header)
    (cells : List ℕ) (long : t.header.levels ^ t.header.inputs ≤ length cells) where
  -- the inks are compared, and are in the cells buffer whether they agree or not
  pub checked : check_call s r cells ≡ record { answer = compared t.header.levels (table_of_net net).inks t.inks; cells = written cells t.inks }
  checked =
      check_accepted s r cells net reads_net t reads_table
      ∙ (check_compared net t cells (same_header_lem net.header t.header header)
      (subst⁻¹ (λ (k : ℕ). k ≤ length cells) (table_accepted r t reads_table).1.count long))

  inks_length : length (table_of_net net).inks ≡ t.header.levels ^ t.header.inputs
  unfolding table_of_net
  inks_length = net_table_length net.header.levels net.header.inputs net.gates ∙ ap (λ (h : Header). h.levels ^ h.inputs) header

  -- the net's value at an index is its table's entry
  value_at_lem : (p : ℕ) → p < length (table_of_net net).inks → value net.header.levels net.header.inputs net.gates p ≡ get_or (table_of_net net).inks p 0
  unfolding table_of_net
  value_at_lem p h =
      sym (table_at net.header.levels net.header.inputs net.gates p
      (subst (λ (k : ℕ). p < k) (net_table_length net.header.levels net.header.inputs net.gates) h))

  answer_is : (check_call s r cells).answer ≡ compared t.header.levels (table_of_net net).inks t.inks
  answer_is = ap (λ (c : Checked). c.answer) checked

  -- the net's value is the table's ink at an index, or its cell there is open
  abbrev AgreeThere : ℕ → Type 0
  AgreeThere p = (ink_in t.inks p ≡ t.header.levels → ⊥) → value net.header.levels net.header.inputs net.gates p ≡ ink_in t.inks p

  -- the check says yes exactly if the net's value is the table's ink at every assignment that is not open
  pub check_agrees : ((check_call s r cells).answer ≡ agree) ↔ ((p : ℕ) → p < t.header.levels ^ t.header.inputs → AgreeThere p)
  check_agrees = elim (comparison t.header.levels (table_of_net net).inks t.inks) [
    | all_agree e h ↦ (
      λ _ p l shut. let l' : p < length (table_of_net net).inks = omega (arith, inks_length) in value_at_lem p l' ∙ h p l' shut,
      λ _. answer_is ∙ e,
    )
    | first_differs k e l shut unlike earlier ↦ (
      λ a. absurd (agree_differ k (sym a ∙ answer_is ∙ e)),
      λ h. absurd (unlike (sym (value_at_lem k l) ∙ h k (omega (arith, inks_length)) shut)),
    )
  ]

  -- and otherwise it reports the lowest index, not open, at which they differ
  pub check_differs : (k : ℕ) → (check_call s r cells).answer ≡ differ k
      → (k < t.header.levels ^ t.header.inputs)
      × (ink_in t.inks k ≡ t.header.levels → ⊥)
      × (value net.header.levels net.header.inputs net.gates k ≡ ink_in t.inks k → ⊥)
      × ((p : ℕ) → p < k → AgreeThere p)
  check_differs k d = elim (comparison t.header.levels (table_of_net net).inks t.inks) [
    | all_agree e h ↦ absurd (agree_differ k (sym e ∙ sym answer_is ∙ d))
    | first_differs j e l shut unlike earlier ↦
        let same : j ≡ k = differ_same j k (sym e ∙ sym answer_is ∙ d) in (
          omega (arith, inks_length),
          subst (λ (i : ℕ). ink_in t.inks i ≡ t.header.levels → ⊥) same shut,
          subst (λ (i : ℕ). value net.header.levels net.header.inputs net.gates i ≡ ink_in t.inks i → ⊥) same
              (λ q. unlike (sym (value_at_lem j l) ∙ q)),
          λ p b shut. let c : p < j = omega arith in value_at_lem p (omega arith) ∙ earlier p c shut,
        )
  ]

-- What a yes of the check means: two accepted sheets with the same levels, inputs and names, a cells buffer of sufficient length, and
-- agreement on every assignment that is not open.
pub record Agreeing (s r cells : List ℕ) : Type 0 where
  pub net : Net
  pub table : Table
  pub reads_net : read_net s ≡ accepted net
  pub reads_table : read_table r ≡ accepted table
  pub header : net.header ≡ table.header
  pub long : table.header.levels ^ table.header.inputs ≤ length cells
  pub agrees : (p : ℕ) → p < table.header.levels ^ table.header.inputs → (ink_in table.inks p ≡ table.header.levels → ⊥)
      → value net.header.levels net.header.inputs net.gates p ≡ ink_in table.inks p

-- The check says yes exactly then, whatever the bytes of the two sheets and of the buffer.
module _ (s r cells : List ℕ) where
  not_agree : (named : Named) (number place : ℕ) (made : Checked) → check_call s r cells ≡ made → made.answer ≡ turned_down named number place
      → (check_call s r cells).answer ≡ agree → ⊥
  not_agree named number place made e d answer =
      let a : ◌≡◌ {A = Verdict} agree (turned_down named number place) = sym answer ∙ ap (λ (c : Checked). c.answer) e ∙ d in
      let z : ◌≡◌ {A = ℕ} 0 1 = cc in
      omega arith

  pub check_yes : ((check_call s r cells).answer ≡ agree) ↔ Agreeing s r cells
  check_yes = (
    λ answer. go answer (read_net s) refl (read_table r) refl,
    λ a. (check_agrees s r a.net a.table a.reads_net a.reads_table a.header cells a.long).1 a.agrees,
  )
    where
      go : (check_call s r cells).answer ≡ agree → (a : Answer Net) → read_net s ≡ a → (b : Answer Table) → read_table r ≡ b → Agreeing s r cells
      go answer (refused number place) d b e = absurd (not_agree net_named number place _ (check_net_refused s r cells number place d) refl answer)
      go answer (accepted net) d (refused number place) e =
          absurd (not_agree table_named number place _ (check_table_refused s r cells net d number place e) refl answer)
      go answer (accepted net) d (accepted t) e = judged (same_header net.header t.header) refl (dec_le (length t.inks) (length cells))
        where
          both : check_call s r cells ≡ checked_into net t cells
          both = check_accepted s r cells net d t e

          judged : (same : Bool) → same_header net.header t.header ≡ same → Dec (length t.inks ≤ length cells) → Agreeing s r cells
          judged false h fits = absurd (not_agree neither 12 0 _ (both ∙ check_12 net t cells h) refl answer)
          judged true h (no short) = absurd (not_agree neither 13 _ _ (both ∙ check_13 net t cells h (lt_of_not-le short)) refl answer)
          judged true h (yes fits) =
              let header = header_same net.header t.header h in
              let long = subst (λ (k : ℕ). k ≤ length cells) (table_accepted r t e).1.count fits in
              record {
                net = net;
                table = t;
                reads_net = d;
                reads_table = e;
                header = header;
                long = long;
                agrees = (check_agrees s r net t d e header cells long).0 answer;
              }

-- ---- table writing

-- the table sheet that table writing wrote
abbrev pub table_sheet_of : Written → Answer (List ℕ)
table_sheet_of made = sheet_in made.answer made.output

module _ (s : List ℕ) (net : Net) (reads : read_net s ≡ accepted net) where
  -- the table sheet of an accepted net sheet is accepted, with the net's table, ..
  printed_accepted : read_table (printed_table (table_of_net net)) ≡ accepted (table_of_net net)
  printed_accepted = table_read_back (table_of_net net) (kept_table net (net_accepted s net reads).1)

  -- .. and the check of the net against it says yes
  printed_checks : (cells : List ℕ) → net.header.levels ^ net.header.inputs ≤ length cells
      → (check_call s (printed_table (table_of_net net)) cells).answer ≡ agree
  unfolding table_of_net
  printed_checks cells long =
      (check_agrees s (printed_table (table_of_net net)) net (table_of_net net) reads printed_accepted refl cells long).1
      (λ p h _. sym (table_at net.header.levels net.header.inputs net.gates p h))

  -- it is what table writing writes, if the output is long enough, ..
  pub writes_table : (output : List ℕ) → length (printed_table (table_of_net net)) ≤ length output
      → table_sheet_of (write_table_call s output) ≡ accepted (printed_table (table_of_net net))
  unfolding sheet_in
  writes_table output long = ap table_sheet_of (table_written s output net reads long) ∙ ap accepted (written_front output (printed_table (table_of_net net)))

  -- .. and it writes nothing else
  writes_only : (output sheet : List ℕ) → table_sheet_of (write_table_call s output) ≡ accepted sheet → printed_table (table_of_net net) ≡ sheet
  unfolding sheet_in
  writes_only output sheet e = by_cases (dec_le (length (printed_table (table_of_net net))) (length output))
      (λ long. accepted_inj _ sheet (sym (writes_table output long) ∙ e))
      (λ short. absurd (not_refused sheet 15 _ (sym e ∙ ap table_sheet_of (table_15 s output net reads (lt_of_not-le short)))))

  -- Whatever the output's length, a sheet that table writing leaves is accepted, with the net's table, ..
  pub written_accepted : (output sheet : List ℕ) → table_sheet_of (write_table_call s output) ≡ accepted sheet → read_table sheet ≡ accepted (table_of_net net)
  written_accepted output sheet e = subst (λ (r : List ℕ). read_table r ≡ accepted (table_of_net net)) (writes_only output sheet e) printed_accepted

  -- .. and the check of the net sheet against it says yes.
  pub written_checks : (output sheet : List ℕ) → table_sheet_of (write_table_call s output) ≡ accepted sheet
      → (cells : List ℕ) → net.header.levels ^ net.header.inputs ≤ length cells → (check_call s sheet cells).answer ≡ agree
  written_checks output sheet e cells long =
      subst (λ (r : List ℕ). (check_call s r cells).answer ≡ agree) (writes_only output sheet e) (printed_checks cells long)
