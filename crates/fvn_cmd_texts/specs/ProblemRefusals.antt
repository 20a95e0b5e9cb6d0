-- The text of each refusal of a problem, a term text or a binding text.
use Rattle.std.specs.Prelude.{ℕ, List, ◌++◌, Option, Some, None, option_map, codes, decimal}
use Rattle.fvn_problems.specs.declared.fault.ProblemFault.{ProblemFault}
use Rattle.fvn_problems.specs.declared.fault.ProblemFault.TheVariants.{Lex, Text, UnknownName, Arity, WrongKind, TooLarge, ReservedName, WrongSort, NoMemory}
use Rattle.fvn_cmd_texts.specs.Refusals.{offset}

-- the number of a fault
abbrev pub problem_number : ProblemFault → Option ℕ
problem_number (Lex fault) = option_map (λ n. 1) (offset fault)
problem_number Text = Some 2
problem_number UnknownName = Some 3
problem_number Arity = Some 4
problem_number WrongKind = Some 5
problem_number TooLarge = Some 6
problem_number ReservedName = Some 7
problem_number WrongSort = Some 8
problem_number NoMemory = None

-- The text of a refusal, without a line end. Want of memory refuses nothing, and has none.
abbrev pub problem_text : ProblemFault → Option (List ℕ)
problem_text fault = option_map (λ k. codes "problem " ++ decimal k) (problem_number fault)
