-- What a source and a sink in memory are, as contracts see them.
use Rattle.std.specs.Prelude.{◌-◌, ◌==◌, if◌then◌else◌, ℕ, List, length}
use Rattle.fvn_outside.specs.Calls.{CallLog, after_call, after_fault}

-- the bytes that are left, how many of them one call gives at most, and the calls
pub record MemorySource : Type 0 where
  pub left : List ℕ
  pub piece : ℕ
  pub calls : CallLog

-- the bytes that were written, how many it holds in all and takes in one call at most, and the calls
pub record MemorySink : Type 0 where
  pub written : List ℕ
  pub room : ℕ
  pub piece : ℕ
  pub calls : CallLog

-- how many bytes it can still take
abbrev pub free_room : MemorySink → ℕ
free_room sink = sink.room - length sink.written

-- the calls after a write that did not fail; a write into a full sink is a fault
abbrev pub calls_after_write : MemorySink → CallLog
calls_after_write sink =
    if free_room sink == 0 then after_fault (after_call sink.calls) else after_call sink.calls
