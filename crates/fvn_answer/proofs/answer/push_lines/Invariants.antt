-- the lines that are left
use Rattle.std.proofs.Common.{◌≡◌, ◌++◌, drop}
use Rattle.fvn_answer.specs.Answers.{ended}
use Rattle.fvn_answer.specs.Writing.{bytes_of}
use Rattle.fvn_answer.proofs.answer.push_lines.Given as goal

abbrev pub invariant-loop-line : goal.invariant-loop-line
invariant-loop-line l = l.fn.text.items ++ ended (bytes_of l.fn.lines) ≡ l.text.items ++ ended (bytes_of (drop l.line-index l.lines))
