-- What is known of rewriting in a setting.
use Rattle.fvn_terms.specs.declared.declarations.Declarations.{Declarations}
use Rattle.fvn_terms.specs.Theory.{Equations}
use Rattle.fvn_terms.specs.Laws.{RewritingLaws, RewritingIsLawful}
use Rattle.fvn_rewrite_laws.specs.Laws.{SequenceLaws, ListLaws, KindedLaws, RuleLaws}
use Rattle.fvn_rewrite_laws.specs.Laws.{SequencesAreLawful, ListsAreLawful, KindedTheoriesAreLawful, RulesAreLawful}
use Rattle.fvn_forms.specs.Flat.{FlatTerm}
use Rattle.fvn_exploring.specs.Setting.{Setting}
use Rattle.fvn_closure.specs.Closing.{IsExplorable}
use Rattle.std.proofs.Common.{List}

-- the laws of rewriting, of sequences, of lists, of kinds and of rules
pub record IsKnown (d : Declarations) (equations : Equations) : Type 0 where
  pub rewriting : RewritingLaws d equations
  pub sequences : SequenceLaws d equations
  pub lists : ListLaws d equations
  pub kinded : KindedLaws d equations
  pub rules : RuleLaws d equations

-- all are known of a setting in which a start can be explored
pub known_of : RewritingIsLawful → SequencesAreLawful → ListsAreLawful → KindedTheoriesAreLawful → RulesAreLawful →
    (g : Setting) (start : List FlatTerm) → IsExplorable g start → IsKnown g.declarations g.equations
known_of rewriting sequences lists kinded rules g start h = record {
  rewriting = rewriting g.declarations g.equations;
  sequences = sequences g.declarations g.equations;
  lists = lists g.declarations g.equations;
  kinded = kinded g.declarations h.good.fits g.equations h.lawful.one_kind;
  rules = rules g.declarations h.good h.completed g.equations h.lawful.one_kind;
}
