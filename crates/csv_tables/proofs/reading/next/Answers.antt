use Rattle.csv.specs.Records.{fields_of}
use Rattle.csv_tables.proofs.LeftLemmas.{left-next}
use Rattle.csv_tables.proofs.reading.next.Goals as goal

pub returns-clause-next : goal.returns-clause-next
returns-clause-next c = left-next c.args.reader.now c.read_byte_record.new.self c.in-Ok.found (fields_of c.read_byte_record.new.row) c.requires (c.in-Ok.ensures.reads c.requires.untrimmed c.requires.ready)
