-- What a value of the program says of the words.
use Rattle.std.specs.Prelude.{◌≤◌, ℕ, List, Option, None, Some}
use Rattle.fvn_cmd_words.specs.declared.limits.TheConstants.{MOST_WORKERS}
use Rattle.fvn_cmd_words.specs.declared.command.Command.{Command as Told}
use Rattle.fvn_cmd_words.specs.declared.command.Command.TheVariants.{Check, Unify, Verify, Terminates, Variants, Vunify, Work}
use Rattle.fvn_cmd_words.specs.declared.reach.Reach.{Reach}
use Rattle.fvn_cmd_words.specs.Words.{Word, Command, check, unify, verify, terminates, variants, vunify, work, IsCommand, AreNoCommand}

-- the command that a value of the program stands for
abbrev pub meant : Told → Command
meant Check = check
meant (Unify problem) = unify problem.now
meant (Verify problem bindings steps) = verify problem.now bindings.now steps
meant (Terminates weights) = terminates weights.now
meant (Variants term reach workers) = variants term.now reach workers
meant (Vunify problem reach workers) = vunify problem.now reach workers
meant (Work n) = work n

-- a search keeps at least one variant, and has a number of workers that the option takes
abbrev pub IsSearchWithin : Reach → ℕ → Type 0
IsSearchWithin reach workers = (1 ≤ reach.variants) × (1 ≤ workers) × (workers ≤ MOST_WORKERS)

-- the same of the search that the value stands for, if it is one: it follows from what the words say, and callers ask it
abbrev pub IsWithin : Told → Type 0
IsWithin Check = Unit {0}
IsWithin (Unify problem) = Unit {0}
IsWithin (Verify problem bindings steps) = Unit {0}
IsWithin (Terminates weights) = Unit {0}
IsWithin (Variants term reach workers) = IsSearchWithin reach workers
IsWithin (Vunify problem reach workers) = IsSearchWithin reach workers
IsWithin (Work n) = Unit {0}

-- the words are the command that the value stands for; nothing is told exactly where they are none
abbrev pub IsRead : List Word → Option Told → Type 0
IsRead words None = AreNoCommand words
IsRead words (Some told) = IsCommand words (meant told) × IsWithin told
