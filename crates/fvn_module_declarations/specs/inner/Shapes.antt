-- What a statement declares of each of its operators.
use Rattle.std.specs.Prelude.{◌≡◌, Bool, false, if◌then◌else◌, List, length, Option, Some, None, nat_lt, not, ◌&&◌, nat_eq}
use Rattle.std.specs.List.{list_any}
use Rattle.fvn_base.specs.declared.limits.TheConstants.{ARGUMENTS}
use Rattle.fvn_terms.specs.declared.declarations.Axioms.{Axioms}
use Rattle.fvn_module_syntax.specs.declared.statement.RawRank.{RawRank}
use Rattle.fvn_module_syntax.specs.declared.statement.Attribute.{Attribute}
use Rattle.fvn_module_syntax.specs.declared.statement.Statement.{Statement}
use Rattle.fvn_module_syntax.specs.declared.statement.Statement.TheVariants.{Sorts, Subsorts, Operator, Operators, Variables, Equation}
use Rattle.fvn_module_syntax.specs.LeftOut.{is_ditto}
use Rattle.fvn_module_declarations.specs.Operators.{rank_of, axioms_of}
use Rattle.fvn_module_names.specs.Faults.{has_unknown_sort}
use Rattle.fvn_module_declarations.specs.declared.shapes.Shape.{Shape}
use Rattle.fvn_module_names.specs.Vocabulary.{Vocabulary}

-- the axioms that attributes give, unless `ditto` is among them
abbrev pub own_axioms : Vocabulary → List Attribute → Option Axioms
own_axioms v xs = if list_any is_ditto xs then None else Some (axioms_of v.sorts v.ops xs)

-- the shape of a written rank with attributes
abbrev pub shape_of : Vocabulary → RawRank → List Attribute → Shape
shape_of v r xs = record { rank = rank_of v.sorts v.ops r; partial = r.partial; axioms = own_axioms v xs }

-- more arguments than an operator may have, of an operator that is declared
abbrev pub has_long_rank : Statement → Bool
has_long_rank (Sorts plural names) = false
has_long_rank (Subsorts plural groups) = false
has_long_rank (Operator name rank xs) = nat_lt ARGUMENTS (length rank.args)
has_long_rank (Operators names rank xs) = not (nat_eq (length names) 0) && nat_lt ARGUMENTS (length rank.args)
has_long_rank (Variables plural names sort) = false
has_long_rank (Equation label left right marks) = false

-- the sorts of a statement's rank are declared
abbrev pub HasRank : Vocabulary → Statement → Type 0
HasRank v (Sorts plural names) = Unit {0}
HasRank v (Subsorts plural groups) = Unit {0}
HasRank v (Operator name rank xs) = has_unknown_sort v.sorts v.ops v.kinds rank ≡ false
HasRank v (Operators names rank xs) = has_unknown_sort v.sorts v.ops v.kinds rank ≡ false
HasRank v (Variables plural names sort) = Unit {0}
HasRank v (Equation label left right marks) = Unit {0}
