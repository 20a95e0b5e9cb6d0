-- What a class is bound to a sum of: a sum operator, with a column of the class.
use Rattle.std.proofs.Common.{ℕ, Option}
use Rattle.fvn_terms.specs.declared.plain.OpId.{OpId}
use Rattle.fvn_terms.specs.declared.declarations.Declarations.{Declarations}
use Rattle.fvn_combine_nodes.specs.Table.{NodeTable}
use Rattle.fvn_combine_systems.specs.NodeSystems.{IsNodeColumn}
use Rattle.fvn_combine_systems.proofs.Members.{listed_sum}
use Rattle.fvn_combine_leaves.specs.Leaves.{IsSumOperator}
use Rattle.fvn_combine_choices.specs.Binding.{IsBound, solid, alone, tagged}
use Rattle.fvn_combine_choices.specs.Tables.{HasSums}
use Rattle.fvn_combine_choices.proofs.Solids.{solid_column}

module _ {d : Declarations} {t : NodeTable} (has : HasSums d t) (class : ℕ → ℕ) where
  module _ {tag : ℕ → Option OpId} where
    pub bound_column : (f : OpId) (k : ℕ) → IsBound d t class tag f k → IsNodeColumn t class f k
    bound_column f k (solid assoc h) = solid_column has class f k assoc h
    bound_column f k (alone u soft only) = u.column
    bound_column f k (tagged u shared e) = u.column

    pub bound_operator : (f : OpId) (k : ℕ) → IsBound d t class tag f k → IsSumOperator d t f
    bound_operator f k (solid assoc h) = record {
      associative = assoc;
      sum = h.member;
      listed = listed_sum t f h.member h.arguments (has.pairs h.member f h.arguments h.over assoc).1 h.over;
    }
    bound_operator f k (alone u soft only) = record { associative = u.associative; sum = u.row; listed = u.listed }
    bound_operator f k (tagged u shared e) = record { associative = u.associative; sum = u.row; listed = u.listed }
