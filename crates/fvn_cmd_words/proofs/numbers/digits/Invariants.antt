-- What is left decides, and the number has as many digits.
use Rattle.std.proofs.Common.{◌≡◌, ◌<◌, drop}
use Rattle.fvn_cmd_words.specs.inner.Reading.{read_on}
use Rattle.fvn_cmd_words.proofs.Spelling.{ten_to}
use Rattle.fvn_cmd_words.proofs.numbers.digits.Given as goal

abbrev pub invariant-loop-byte : goal.invariant-loop-byte
invariant-loop-byte l = (read_on 0 l.word ≡ read_on l.n (drop l.byte-index l.word)) × (l.n < ten_to l.byte-index)
