-- The number of each kind of refusal.
-- Assumes nothing.
use Rattle.laws.specs.Prelude.{ℕ}
use Rattle.answers.specs.declared.refusal.Kind.{Kind}
use Rattle.answers.specs.declared.refusal.Kind.TheVariants as kinds

abbrev pub number_of : Kind → ℕ
number_of kinds.Layout = 1
number_of kinds.Levels = 2
number_of kinds.Inputs = 3
number_of kinds.Name = 4
number_of kinds.Row = 5
number_of kinds.Digits = 6
number_of kinds.UnknownReference = 7
number_of kinds.UsedReference = 8
number_of kinds.BareSize = 9
number_of kinds.BareCell = 10
number_of kinds.Group = 11
number_of kinds.HeadersDiffer = 12
number_of kinds.CellsShort = 13
number_of kinds.MarksShort = 14
number_of kinds.OutputShort = 15
number_of kinds.NoTree = 16
number_of kinds.NoSuchTree = 17
number_of kinds.ArrivalName = 18
number_of kinds.ArrivalTime = 19
number_of kinds.RepeatedRow = 20
number_of kinds.JobDone = 21
number_of kinds.JobUnfinished = 22
number_of kinds.Wiring = 23
number_of kinds.Picture = 24
number_of kinds.Offsets = 25
number_of kinds.UnusedGate = 26
number_of kinds.OpenCell = 27
