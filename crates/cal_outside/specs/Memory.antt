-- What contracts see of a store and a sink in memory.
use Rattle.std.specs.Prelude.{ℕ, List, [], ◌∷◌, if◌then◌else◌, Option, Some, None, encode_utf8_all}
use Rattle.std.specs.Str.{bytes_eq}
use Rattle.cal_outside.specs.declared.memory_store.MemFile.{MemFile}

-- the first file of this name
abbrev pub file_of : List MemFile → List ℕ → Option (List ℕ)
file_of [] name = None
file_of (file ∷ files) name = if bytes_eq (encode_utf8_all file.name) name then Some file.bytes else file_of files name
