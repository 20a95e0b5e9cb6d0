-- The texts that say how much a module declares, and whether its equations keep sorts.
use Rattle.std.specs.Prelude.{ℕ, ◌-◌, List, ◌++◌, length, Option, Some, None, codes, decimal}
use Rattle.fvn_terms.specs.declared.declarations.Declarations.{Declarations}
use Rattle.fvn_module.specs.Contents.{Contents}

-- how many kinds there are: `kinds` names the kind of each declared sort, and then of each kind itself
abbrev pub kind_count : Declarations → ℕ
kind_count d = length d.kinds - d.sorts

-- A module's name, and how many sorts, kinds, operators and equations it declares. Names that are declared several
-- times are counted once.
abbrev pub summary_text : Contents → List ℕ
summary_text m =
    codes "module " ++ m.names.module_name
    ++ codes " sorts " ++ decimal (length m.names.sorts)
    ++ codes " kinds " ++ decimal (kind_count m.signature)
    ++ codes " operators " ++ decimal (length m.names.ops)
    ++ codes " equations " ++ decimal (length m.equations)

-- What is told of sorts: that each equation keeps them, or which is the first that loses one.
abbrev pub sorts_text : Option ℕ → List ℕ
sorts_text None = codes "sorts kept"
sorts_text (Some n) = codes "cause sorts " ++ decimal n
