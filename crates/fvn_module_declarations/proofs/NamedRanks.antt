-- The sorts in the ranks of statements that name nothing unknown are declared.
use Rattle.std.proofs.Common.{◌≡◌, false, List, [], ◌∷◌, ◌++◌}
use Rattle.std.specs.List.{All, list_any}
use Rattle.std.proofs.lemmas.Bool.{or_parts}
use Rattle.std.proofs.lemmas.List.Elements.{All-nil, All-cons}
use Rattle.fvn_syntax.specs.Pieces.{Text}
use Rattle.fvn_module_syntax.specs.declared.statement.RawRank.{RawRank}
use Rattle.fvn_module_syntax.specs.declared.statement.Attribute.{Attribute}
use Rattle.fvn_module_syntax.specs.declared.statement.Statement.{Statement}
use Rattle.fvn_module_syntax.specs.declared.statement.Statement.TheVariants.{Sorts, Subsorts, Operator, Operators, Variables, Equation}
use Rattle.fvn_module_names.specs.Names.{operators_in, operators_of}
use Rattle.fvn_module_names.specs.Faults.{has_unknown_sort, is_unknown_identity, lacks_earlier, has_unknown, names_unknown, AreNamed, HasNames}
use Rattle.fvn_module_names.specs.Vocabulary.{Vocabulary, vocabulary_of}
use Rattle.fvn_module_declarations.specs.inner.Shapes.{HasRank}

module _ (v : Vocabulary) where
  known-rank : (earlier ws : List Text) (rank : RawRank) (xs : List Attribute) → has_unknown v.sorts v.ops v.kinds earlier ws rank xs ≡ false → has_unknown_sort v.sorts v.ops v.kinds rank ≡ false
  known-rank earlier ws rank xs h =
      (or_parts (has_unknown_sort v.sorts v.ops v.kinds rank) (list_any (is_unknown_identity v.sorts v.ops v.kinds) xs)
      (or_parts _ (lacks_earlier v.sorts v.ops v.kinds earlier ws xs) h).0).0

  statement-rank : (before : List Statement) (st : Statement) → names_unknown v.sorts v.ops v.kinds before st ≡ false → HasRank v st
  statement-rank before (Sorts plural ws) h = tt
  statement-rank before (Subsorts plural groups) h = tt
  statement-rank before (Operator name rank xs) h = known-rank (operators_of before) (operators_in (Operator name rank xs)) rank xs h
  statement-rank before (Operators ws rank xs) h = known-rank (operators_of before) (operators_in (Operators ws rank xs)) rank xs h
  statement-rank before (Variables plural ws sort) h = tt
  statement-rank before (Equation label left right marks) h = tt

  all-ranks : (before sts : List Statement) → AreNamed v.sorts v.ops v.kinds before sts → All (HasRank v) sts
  all-ranks before [] h = All-nil (HasRank v)
  all-ranks before (st ∷ sts) h = All-cons (HasRank v) st sts (statement-rank before st h.0) (all-ranks (before ++ st ∷ []) sts h.2)

-- the sorts in all ranks are declared
pub named-ranks : (sts : List Statement) → HasNames sts → All (HasRank (vocabulary_of sts)) sts
named-ranks sts h = all-ranks (vocabulary_of sts) [] sts h
