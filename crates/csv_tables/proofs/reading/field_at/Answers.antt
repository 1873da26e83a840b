use Rattle.std.proofs.Common.{sym}
use Rattle.csv.specs.Records.{fields_of}
use Rattle.csv_tables.proofs.FieldLemmas.{field_at-some, field_at-none}
use Rattle.csv_tables.proofs.reading.field_at.Goals as goal

pub unreachable-requires : goal.unreachable-requires
unreachable-requires c = field_at-none (fields_of c.args.raw.now) c.args.at c.requires (sym c.in-None.ensures.value)

pub returns : goal.returns
returns c = field_at-some (fields_of c.args.raw.now) c.args.at c.in-Some.field.now (sym c.in-Some.ensures.value)
