-- The statuses of a run, and the numbers that the program exits with.
use Rattle.std.specs.Prelude.{ℕ}
use Rattle.fvn_cmd.specs.declared.status.Status.{Status}
use Rattle.fvn_cmd.specs.declared.status.Status.TheVariants.{Solved, Nothing, Usage, ModuleRefused, ProblemRefused, Ended, ReadFault, WriteFault, NoMemory}

-- the number that the program exits with
abbrev pub exit_number : Status → ℕ
exit_number Solved = 0
exit_number Nothing = 1
exit_number Usage = 2
exit_number ModuleRefused = 3
exit_number ProblemRefused = 4
exit_number Ended = 5
exit_number ReadFault = 6
exit_number WriteFault = 7
exit_number NoMemory = 8

-- the status is that of a run that wrote nothing
abbrev pub IsSilent : Status → Type 0
IsSilent ReadFault = Unit {0}
IsSilent NoMemory = Unit {0}
IsSilent Solved = ⊥
IsSilent Nothing = ⊥
IsSilent Usage = ⊥
IsSilent ModuleRefused = ⊥
IsSilent ProblemRefused = ⊥
IsSilent Ended = ⊥
IsSilent WriteFault = ⊥

-- the status is that of a run that wrote its text whole
abbrev pub IsSpoken : Status → Type 0
IsSpoken Solved = Unit {0}
IsSpoken Nothing = Unit {0}
IsSpoken Usage = Unit {0}
IsSpoken ModuleRefused = Unit {0}
IsSpoken ProblemRefused = Unit {0}
IsSpoken Ended = Unit {0}
IsSpoken ReadFault = ⊥
IsSpoken WriteFault = ⊥
IsSpoken NoMemory = ⊥

-- the status is that of an answer: something was found, nothing, or a limit was met
abbrev pub IsAnswering : Status → Type 0
IsAnswering Solved = Unit {0}
IsAnswering Nothing = Unit {0}
IsAnswering Ended = Unit {0}
IsAnswering Usage = ⊥
IsAnswering ModuleRefused = ⊥
IsAnswering ProblemRefused = ⊥
IsAnswering ReadFault = ⊥
IsAnswering WriteFault = ⊥
IsAnswering NoMemory = ⊥

-- the status is that of a refusal of a module, or of words in it
abbrev pub IsRefusing : Status → Type 0
IsRefusing ModuleRefused = Unit {0}
IsRefusing ProblemRefused = Unit {0}
IsRefusing Solved = ⊥
IsRefusing Nothing = ⊥
IsRefusing Usage = ⊥
IsRefusing Ended = ⊥
IsRefusing ReadFault = ⊥
IsRefusing WriteFault = ⊥
IsRefusing NoMemory = ⊥
