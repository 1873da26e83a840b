-- What contracts see of a store and a sink in memory: how often they were asked, and which of the asked times fail.
use Rattle.std.specs.Prelude.{◌≡◌, ◌⊎◌, ℕ, List, Contains, None}
use Rattle.cal_outside.specs.Faults.{one_more}
use Rattle.cal_outside.specs.Memory.{file_of}
use Rattle.cal_outside.specs.declared.memory_store.MemStore.{MemStore}
use Rattle.cal_outside.specs.declared.memory_sink.MemSink.{MemSink}

abbrev pub reads_of : MemStore → ℕ
reads_of store = store.reads

abbrev pub failing_reads : MemStore → List ℕ
failing_reads store = store.failing

-- the next read of this name fails
abbrev pub ReadFails : MemStore → List ℕ → Type 0
ReadFails store name =
    (file_of store.files name ≡ None) ⊎ Contains store.failing (one_more store.reads)

abbrev pub writes_of : MemSink → ℕ
writes_of sink = sink.writes

abbrev pub failing_writes : MemSink → List ℕ
failing_writes sink = sink.failing

abbrev pub most_of : MemSink → ℕ
most_of sink = sink.most
