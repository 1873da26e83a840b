use Rattle.std.proofs.Common.{◌≡◌, drop}
use Rattle.cal_outside.specs.Memory.{file_of}
use Rattle.cal_outside.proofs.memory_store.find.Given as goal

abbrev pub invariant-loop-file : goal.invariant-loop-file
invariant-loop-file l = file_of l.files l.name ≡ file_of (drop l.file-index l.files) l.name
