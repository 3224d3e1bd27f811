-- Causes: the number of each, in document 01's table.
use Rattle.std.specs.Prelude.{ℕ}
use Rattle.words.specs.declared.Cause.{Cause}
use Rattle.words.specs.declared.Cause.TheVariants.{Header, RowCount, Foreign, Mislinked, NotLinkedOnce, NumberOutside, Misplaced, RepeatedMark, TooDeep, NoRoom, StoreSize, NotKernelForm, LabelFault, MalformedText, ScratchSize, HeadersDiffer, TooManyRows, NamesItself, DeclaredTwice, TooManyDeclared, MalformedDay, DayVariable, FunctionOrder, WrongCall, DefinesFunctions}

abbrev pub cause_number : Cause → ℕ
cause_number Header = 1
cause_number RowCount = 2
cause_number Foreign = 3
cause_number Mislinked = 4
cause_number NotLinkedOnce = 5
cause_number NumberOutside = 6
cause_number Misplaced = 7
cause_number RepeatedMark = 8
cause_number TooDeep = 9
cause_number NoRoom = 10
cause_number StoreSize = 11
cause_number NotKernelForm = 12
cause_number LabelFault = 13
cause_number MalformedText = 14
cause_number ScratchSize = 15
cause_number HeadersDiffer = 16
cause_number TooManyRows = 17
cause_number NamesItself = 18
cause_number DeclaredTwice = 19
cause_number TooManyDeclared = 20
cause_number MalformedDay = 21
cause_number DayVariable = 22
cause_number FunctionOrder = 23
cause_number WrongCall = 24
cause_number DefinesFunctions = 25
