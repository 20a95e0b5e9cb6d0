-- The calls of an object in memory, of which some are to fail.
use Rattle.std.specs.Prelude.{◌+◌, ℕ, List, Contains}
use Rattle.fvn_outside.specs.Faults.{next_count}

-- the numbers, from 1, of the calls that fail; how many calls were made; how many faults there were
pub record CallLog : Type 0 where
  pub failing : List ℕ
  pub made : ℕ
  pub faults : ℕ

-- no call was made yet
abbrev pub no_calls : List ℕ → CallLog
no_calls failing = record { failing = failing; made = 0; faults = 0 }

-- the next call is one of those that fail
abbrev pub NextFails : CallLog → Type 0
NextFails calls = Contains calls.failing (calls.made + 1)

-- after one more call
abbrev pub after_call : CallLog → CallLog
after_call calls = record calls { made = next_count calls.made }

-- after one more fault
abbrev pub after_fault : CallLog → CallLog
after_fault calls = record calls { faults = next_count calls.faults }
