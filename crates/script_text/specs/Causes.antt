-- The printed text of causes: the name, then each field with its name and its value.
use Rattle.std.specs.Prelude.{ℕ, ℤ, List, [], ◌++◌, Option, Some, None, codes, decimal}
use Rattle.cal_schema.specs.declared.refusal.Refusal.{Refusal}
use Rattle.cal_schema.specs.declared.refusal.Refusal.TheVariants as refused
use Rattle.cal_schema.specs.declared.refusal.WrittenName.{WrittenName}
use Rattle.csv_tables.specs.declared.fault.CsvCause.{CsvCause}
use Rattle.csv_tables.specs.declared.fault.CsvCause.TheVariants as csv
use Rattle.csv_tables.specs.declared.fault.CsvFault.{CsvFault}
use Rattle.csv_tables.specs.declared.fault.CsvFault.TheVariants.{CsvBad, TableFull, NoMemory}
use Rattle.script_text.specs.Values.{name_text, number_text}

-- with a point behind it, where it is written
abbrev pub qualifier_text : Option (List ℕ) → List ℕ
qualifier_text None = []
qualifier_text (Some name) = name_text name ++ codes "."

abbrev pub written_text : WrittenName → List ℕ
written_text w = qualifier_text w.qualifier ++ name_text w.name

abbrev pub misfit_text : ℕ → ℤ → ℤ → List ℕ
misfit_text place lo hi = (codes "MayNotFit place " ++ decimal place) ++ ((codes " lo " ++ number_text lo) ++ (codes " hi " ++ number_text hi))

abbrev pub bad_row_text : ℕ → ℕ → List ℕ
bad_row_text row column = (codes "BadRow row " ++ decimal row) ++ (codes " column " ++ decimal column)

abbrev pub refusal_text : Refusal → List ℕ
refusal_text (refused.NotToken at) = codes "NotToken at " ++ decimal at
refusal_text (refused.TooDeep limit) = codes "TooDeep limit " ++ decimal limit
refusal_text (refused.TooManyOperators limit) = codes "TooManyOperators limit " ++ decimal limit
refusal_text refused.NotSql = codes "NotSql"
refusal_text refused.NotAQuery = codes "NotAQuery"
refusal_text refused.NotYet = codes "NotYet"
refusal_text (refused.UnknownTable name) = codes "UnknownTable name " ++ written_text name
refusal_text (refused.UnknownLattice name) = codes "UnknownLattice name " ++ written_text name
refusal_text (refused.TooManyTables limit) = codes "TooManyTables limit " ++ decimal limit
refusal_text (refused.UnknownColumn name) = codes "UnknownColumn name " ++ written_text name
refusal_text (refused.Ambiguous name) = codes "Ambiguous name " ++ written_text name
refusal_text (refused.TypeClash place) = codes "TypeClash place " ++ decimal place
refusal_text (refused.AggregateMisplaced place) = codes "AggregateMisplaced place " ++ decimal place
refusal_text (refused.NotGrouped place) = codes "NotGrouped place " ++ decimal place
refusal_text (refused.OrderKey place) = codes "OrderKey place " ++ decimal place
refusal_text (refused.MayNotFit place lo hi) = misfit_text place lo hi
refusal_text (refused.BadRow row column) = bad_row_text row column
refusal_text refused.NotRefreshable = codes "NotRefreshable"
refusal_text refused.NoMemory = codes "NoMemory"

abbrev pub csv_cause_text : CsvCause → List ℕ
csv_cause_text csv.NoHeader = codes "NoHeader"
csv_cause_text csv.TooManyColumns = codes "TooManyColumns"
csv_cause_text csv.NotUtf8 = codes "NotUtf8"
csv_cause_text csv.BadHeader = codes "BadHeader"
csv_cause_text csv.Repeated = codes "Repeated"
csv_cause_text csv.HeaderChanged = codes "HeaderChanged"
csv_cause_text csv.WrongCount = codes "WrongCount"
csv_cause_text csv.BadBoolean = codes "BadBoolean"
csv_cause_text csv.BadInteger = codes "BadInteger"
csv_cause_text csv.TextTooLong = codes "TextTooLong"
csv_cause_text csv.NullValue = codes "NullValue"
csv_cause_text csv.KeyTaken = codes "KeyTaken"

-- the field at_record prints as record
abbrev pub csv_bad_text : ℕ → ℕ → CsvCause → List ℕ
csv_bad_text at_record column cause = (codes "CsvBad record " ++ decimal at_record) ++ ((codes " column " ++ decimal column) ++ (codes " cause " ++ csv_cause_text cause))

abbrev pub csv_fault_text : CsvFault → List ℕ
csv_fault_text (CsvBad at_record column cause) = csv_bad_text at_record column cause
csv_fault_text (TableFull limit) = codes "TableFull limit " ++ decimal limit
csv_fault_text NoMemory = codes "NoMemory"
