-- Document 02: the call that "takes two net sheets and hands back the shallower sheet itself, the first when level. An unreadable sheet loses
-- to a readable one, and two unreadable ones give an empty part of the first".
-- Assumes nothing.
use Rattle.std.specs.Prelude.{◌<◌, ◌≤◌, ◌≡◌}
use Rattle.laws.specs.Prelude.{ℕ, ◌∙◌, ap, List, [], dec_lt, arith, lt-ltb, le-ltb, by_cases}
use Rattle.rules.specs.Calls.Answers.{accepted, refused}
use Rattle.rules.specs.Calls.ShallowSettling.{net_layers}
use Rattle.rules.specs.Sheets.Reading.{read_net}
use Rattle.rules.specs.Sheets.Sheets.{Net}
use Rattle.laws.specs.Calls.Shallower.{layers_accepted, layers_refused}
use Rattle.rules.specs.Calls.Shallower.{Which, first_sheet, second_sheet, no_sheet, which_by, which_of, shallower_call}

module _ (first second : List ℕ) where
  -- what is returned is one sheet or the other, or nothing
  pub handed_back : (which : Which) → which_of first second ≡ which
      → shallower_call first second ≡ elim which [ first_sheet ↦ first | second_sheet ↦ second | no_sheet ↦ [] ]
  unfolding shallower_call
  handed_back which e = rw (e, shallower_call)

  -- ---- two readable sheets

  module _ (net other : Net) (reads : read_net first ≡ accepted net) (reads_other : read_net second ≡ accepted other) where
    both : which_of first second ≡ which_by (accepted (net_layers net)) (accepted (net_layers other))
    unfolding which_of
    both = rw (layers_accepted first net reads, layers_accepted second other reads_other)

    -- "the first when level": the first, unless the second has fewer layers, ..
    pub first_shallower : net_layers net ≤ net_layers other → which_of first second ≡ first_sheet
    unfolding which_by
    first_shallower h = both ∙ rw (le-ltb (net_layers other) (net_layers net) h, which_by)

    -- .. and then the second
    pub second_shallower : net_layers other < net_layers net → which_of first second ≡ second_sheet
    unfolding which_by
    second_shallower h = both ∙ rw (lt-ltb (net_layers other) (net_layers net) h, which_by)

    -- what is returned is a sheet with no more layers than either
    pub handed_shallower : (chosen : Net) × (read_net (shallower_call first second) ≡ accepted chosen) × (net_layers chosen ≤ net_layers net)
        × (net_layers chosen ≤ net_layers other)
    handed_shallower = by_cases (dec_lt (net_layers other) (net_layers net))
        (λ less. (other, ap read_net (handed_back second_sheet (second_shallower less)) ∙ reads_other, omega arith, omega arith))
        (λ more. (net, ap read_net (handed_back first_sheet (first_shallower (omega arith))) ∙ reads, omega arith, omega arith))

  -- ---- "An unreadable sheet loses to a readable one"

  pub first_readable : (net : Net) → read_net first ≡ accepted net → (number place : ℕ) → read_net second ≡ refused number place
      → which_of first second ≡ first_sheet
  unfolding which_of which_by
  first_readable net e number place d = rw (layers_accepted first net e, layers_refused second number place d)

  pub second_readable : (number place : ℕ) → read_net first ≡ refused number place → (net : Net) → read_net second ≡ accepted net
      → which_of first second ≡ second_sheet
  unfolding which_of which_by
  second_readable number place e net d = rw (layers_refused first number place e, layers_accepted second net d)

  -- "two unreadable ones give an empty part of the first"
  pub none_readable : (k at number place : ℕ) → read_net first ≡ refused k at → read_net second ≡ refused number place → which_of first second ≡ no_sheet
  unfolding which_of which_by
  none_readable k at number place e d = rw (layers_refused first k at e, layers_refused second number place d)
