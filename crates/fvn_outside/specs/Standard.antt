-- What the adapters of the standard library's readers and writers stand on.
use Rattle.std.specs.Prelude.{ℕ}
use Rattle.fvn_outside.specs.declared.standard.StdSource.{StdSource}
use Rattle.fvn_outside.specs.declared.standard.StdSink.{StdSink}

-- the reader that a source stands on
abbrev pub reader_of : {R : Type 0} → StdSource R → R
reader_of source = source.reader

-- how often that reader has failed
abbrev pub read_faults : {R : Type 0} → StdSource R → ℕ
read_faults source = source.faults

-- the writer that a sink stands on
abbrev pub writer_of : {W : Type 0} → StdSink W → W
writer_of sink = sink.writer

-- how often that writer has failed
abbrev pub write_faults : {W : Type 0} → StdSink W → ℕ
write_faults sink = sink.faults
