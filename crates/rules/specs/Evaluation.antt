-- One name that unfolds every definition here: a theorem that is proved by computing says `unfolding computing`. Each file
-- has such a name of its own; this file collects them.
-- Assumes nothing.
use Rattle.rules.specs.Lists as lists
use Rattle.rules.specs.Text as text
use Rattle.rules.specs.Limits as limits
use Rattle.rules.specs.Sheets.Fields as fields
use Rattle.rules.specs.Sheets.Sheets as sheets
use Rattle.rules.specs.Sheets.Printed as printed
use Rattle.rules.specs.Nets.Value as value
use Rattle.rules.specs.Groups.Groups as groups
use Rattle.rules.specs.Groups.Differences as differences
use Rattle.rules.specs.Groups.Marks as marks
use Rattle.rules.specs.Nets.Wirings as wirings
use Rattle.rules.specs.Nets.Trees as trees
use Rattle.rules.specs.Nets.Filling as filling
use Rattle.rules.specs.Nets.Leaves as leaves
use Rattle.rules.specs.Nets.Settled as settled
use Rattle.rules.specs.Nets.Layers as layers
use Rattle.rules.specs.Nets.Shallow as shallow
use Rattle.rules.specs.Nets.Family as family
use Rattle.rules.specs.Calls.Answers as answers
use Rattle.rules.specs.Sheets.Reading as reading
use Rattle.rules.specs.Calls.BareCells as bare_cells
use Rattle.rules.specs.Calls.OpenCells as open_cells
use Rattle.rules.specs.Calls.Multiplicity as multiplicity
use Rattle.rules.specs.Calls.Marking as marking
use Rattle.rules.specs.Calls.Settling as settling
use Rattle.rules.specs.Calls.ShallowSettling as shallow_settling
use Rattle.rules.specs.Calls.FamilyCalls as family_calls
use Rattle.rules.specs.Calls.Shallower as shallower
use Rattle.rules.specs.Calls.Checking as checking
use Rattle.rules.specs.Calls.Keeping as keeping
use Rattle.rules.specs.Calls.TableWriting as table_writing
use Rattle.rules.specs.Calls.Programs as programs
use Rattle.rules.specs.Calls.Lister as lister
use Rattle.rules.specs.Sheets.ArrivalSheet as arrival_sheet
use Rattle.rules.specs.Nets.Arrivals as arrivals
use Rattle.rules.specs.Sheets.LooseSheet as loose_sheet
use Rattle.rules.specs.Calls.Tidying as tidying
use Rattle.rules.specs.Calls.Jobs as jobs
use Rattle.rules.specs.Calls.Glyphs as glyphs

unfoldable pub computing : Unit {0}
unfolding lists.computing text.computing limits.computing fields.computing sheets.computing printed.computing value.computing groups.computing
    differences.computing marks.computing wirings.computing trees.computing filling.computing leaves.computing settled.computing layers.computing
    shallow.computing family.computing answers.computing reading.computing bare_cells.computing open_cells.computing multiplicity.computing marking.computing
    settling.computing shallow_settling.computing family_calls.computing shallower.computing checking.computing table_writing.computing programs.computing
    lister.computing arrival_sheet.computing arrivals.computing loose_sheet.computing tidying.computing jobs.computing keeping.computing glyphs.computing
computing = tt
