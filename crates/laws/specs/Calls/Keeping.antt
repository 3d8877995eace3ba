-- The result of keeping a wiring, one law for each outcome.
-- Assumes nothing.
use Rattle.std.specs.Prelude.{◌<◌, ◌≤◌, ◌≡◌}
use Rattle.laws.specs.Prelude.{ℕ, suc, true, false, List, length, lt-ltb, le-ltb}
use Rattle.rules.specs.Calls.Answers.{accepted, refused, written, net_named, table_named, neither}
use Rattle.rules.specs.Calls.Checking.{same_header}
use Rattle.rules.specs.Calls.Keeping.{kept_net, roomy_before, leaves_out, changed_gates, rewritten, turned_away, kept_into, keep_call}
use Rattle.rules.specs.Calls.OpenCells.{full_table}
use Rattle.rules.specs.Sheets.Printed.{printed_net}
use Rattle.rules.specs.Sheets.Reading.{read_net, read_table}
use Rattle.rules.specs.Sheets.Sheets.{Net, Table}

module _ (s r cells output : List ℕ) where
  pub keep_net_refused : (number place : ℕ) → read_net s ≡ refused number place
      → keep_call s r cells output ≡ record { answer = turned_away net_named number place; cells = cells; output = output }
  unfolding keep_call
  keep_net_refused number place e = rw (e, keep_call)

  pub keep_table_refused : (net : Net) → read_net s ≡ accepted net → (number place : ℕ) → read_table r ≡ refused number place
      → keep_call s r cells output ≡ record { answer = turned_away table_named number place; cells = cells; output = output }
  unfolding keep_call
  keep_table_refused net d number place e = rw (d, e, keep_call)

  pub keep_accepted : (net : Net) → read_net s ≡ accepted net → (t : Table) → read_table r ≡ accepted t → keep_call s r cells output ≡ kept_into net t cells output
  unfolding keep_call
  keep_accepted net d t e = rw (d, e, keep_call)

module _ (net : Net) (t : Table) (cells output : List ℕ) where
  pub keep_12 : same_header net.header t.header ≡ false
      → kept_into net t cells output ≡ record { answer = turned_away neither 12 0; cells = cells; output = output }
  unfolding kept_into
  keep_12 e = rw (e, kept_into)

  module _ (same : same_header net.header t.header ≡ true) where
    pub keep_27 : (number place : ℕ) → full_table t ≡ refused number place
        → kept_into net t cells output ≡ record { answer = turned_away table_named number place; cells = cells; output = output }
    unfolding kept_into
    keep_27 number place e = rw (same, e, kept_into)

    module _ (whole : full_table t ≡ accepted tt) where
      pub keep_13 : length cells < length t.inks
          → kept_into net t cells output ≡ record { answer = turned_away neither 13 (length t.inks); cells = cells; output = output }
      unfolding kept_into
      keep_13 h = rw (same, whole, lt-ltb _ _ h, kept_into)

      module _ (long : length t.inks ≤ length cells) where
        pub keep_23_0 : leaves_out net t ≡ true
            → kept_into net t cells output ≡ record { answer = turned_away neither 23 0; cells = written cells t.inks; output = output }
        unfolding kept_into
        keep_23_0 e = rw (same, whole, le-ltb _ _ long, e, kept_into)

        module _ (takes : leaves_out net t ≡ false) where
          pub keep_23 : roomy_before net t < length net.gates
              → kept_into net t cells output
              ≡ record { answer = turned_away neither 23 (suc (roomy_before net t)); cells = written cells t.inks; output = output }
          unfolding kept_into
          keep_23 h = rw (same, whole, le-ltb _ _ long, takes, lt-ltb _ _ h, kept_into)

          module _ (roomy : length net.gates ≤ roomy_before net t) where
            pub keep_15 : length output < length (printed_net (kept_net net t))
                → kept_into net t cells output
                ≡ record { answer = turned_away neither 15 (length (printed_net (kept_net net t))); cells = written cells t.inks; output = output }
            unfolding kept_into
            keep_15 h = rw (same, whole, le-ltb _ _ long, takes, le-ltb _ _ roomy, lt-ltb _ _ h, kept_into)

            pub keep_written : length (printed_net (kept_net net t)) ≤ length output
                → kept_into net t cells output
                ≡ record {
                  answer = rewritten (length (printed_net (kept_net net t))) (changed_gates net.gates (kept_net net t).gates);
                  cells = written cells t.inks;
                  output = written output (printed_net (kept_net net t));
                }
            unfolding kept_into
            keep_written h = rw (same, whole, le-ltb _ _ long, takes, le-ltb _ _ roomy, le-ltb _ _ h, kept_into)
