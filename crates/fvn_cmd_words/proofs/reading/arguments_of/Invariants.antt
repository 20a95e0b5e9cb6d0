-- What is kept and the words behind decide.
use Rattle.std.proofs.Common.{map}
use Rattle.std.specs.Prelude.{string_bytes}
use Rattle.fvn_cmd_words.proofs.Steps.{IsReading}
use Rattle.fvn_cmd_words.proofs.reading.arguments_of.Given as goal

abbrev pub invariant-loop-i : goal.invariant-loop-i
invariant-loop-i l = IsReading (map string_bytes l.words) l.i l.state
