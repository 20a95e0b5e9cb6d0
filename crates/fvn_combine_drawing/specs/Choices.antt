-- A choice at a leaf, as it is listed.
use Rattle.std.specs.Prelude.{ℕ, Bool, List, Option}
use Rattle.std.specs.List.{AllZip}
use Rattle.fvn_terms.specs.declared.plain.OpId.{OpId}
use Rattle.fvn_terms.specs.declared.declarations.Declarations.{Declarations}
use Rattle.fvn_lindio.specs.declared.system.Solution.{Solution}
use Rattle.fvn_combine_nodes.specs.Table.{NodeTable}
use Rattle.fvn_combine_leaves.specs.declared.reading.Reading.{Reading}
use Rattle.fvn_acunify_product.specs.Wheels.{Wheel, IsChoice}
use Rattle.fvn_combine_triangular.specs.CombineAdmissibleListed.{tag_in}
use Rattle.fvn_combine_candidates.specs.Sharing.{AreSharedClasses}
use Rattle.fvn_combine_candidates.specs.Tags.{AreTags}
use Rattle.fvn_combine_candidates.specs.Turning.{AreWheels}
use Rattle.fvn_combine_candidates.specs.declared.sharing.SharedClass.{SharedClass}

-- tags of the shared classes by some options, and for each sum operator a choice of its operator's wheel
pub record IsListedChoice (d : Declarations) (t : NodeTable) (class : ℕ → ℕ) (r : Reading) (bases : List (List Solution)) (tags : List (Option OpId)) (numbers : List ℕ) : Type 0 where
  pub sorted : Bool
  pub shared : List SharedClass
  pub are_shared : AreSharedClasses d t class sorted shared
  pub options : List ℕ
  pub are_tags : AreTags shared options tags
  pub wheels : List Wheel
  pub are_wheels : AreWheels d t class (tag_in tags) r.sums bases wheels
  pub valid : AllZip IsChoice wheels numbers
