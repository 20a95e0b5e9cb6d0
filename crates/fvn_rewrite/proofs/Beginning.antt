-- What a first pass needs of the rules, and where turns from the root begin.
use Rattle.std.proofs.Common.{◌≡◌, ◌+◌, ℕ, sym, subst, arith}
use Rattle.fvn_terms.specs.declared.declarations.Declarations.{Declarations}
use Rattle.fvn_terms.specs.Theory.{Equations}
use Rattle.fvn_terms.specs.Laws.{RewritingIsLawful}
use Rattle.fvn_forms.specs.Flat.{FlatTerm}
use Rattle.fvn_forms.specs.Good.{IsGood}
use Rattle.fvn_signature.specs.Queries.{IsCompleted}
use Rattle.fvn_flat.specs.Fits.{Fits}
use Rattle.fvn_rewrite_laws.specs.Laws.{SequencesAreLawful, KindedTheoriesAreLawful, RulesAreLawful}
use Rattle.fvn_theory.specs.Equations.{equations_of}
use Rattle.fvn_rewrite_rules.specs.Given.{RuleLists}
use Rattle.fvn_rewrite_laws.specs.Normalised.{IsReached}
use Rattle.fvn_rewrite.specs.Usable.{AreUsable}
use Rattle.fvn_rewrite.specs.inner.Making.{AreStepRules, IsReachedFrom}
use Rattle.fvn_rewrite.specs.declared.quick.Begun.{Begun}
use Rattle.fvn_rewrite.specs.inner.Walking.{IsNext}
use Rattle.fvn_rewrite.proofs.Reaching.{reached_itself, reached_more}
use Rattle.fvn_rewrite.proofs.Roots.{have_one_kind, is_rule, sides_fit}

-- usable rules have what the pass needs
pub lawful : (d : Declarations) (lists : RuleLists) → AreUsable d lists → IsGood d → IsCompleted d → RulesAreLawful → RewritingIsLawful → SequencesAreLawful → KindedTheoriesAreLawful → AreStepRules d lists
lawful d lists usable good completed rules rewriting sequences kinds = record {
  good = good;
  fit = sides_fit d lists usable good completed rules;
  steps = λ f rule listed s sorted. (rules d good completed (equations_of lists.equations) (have_one_kind d lists usable)).steps rule.left rule.right (is_rule d lists usable f rule listed) s sorted;
  rewriting = rewriting d (equations_of lists.equations);
  sequences = sequences d (equations_of lists.equations);
  kinds = kinds d good.fits (equations_of lists.equations) (have_one_kind d lists usable);
}

-- what one step leads to, with one step less
pub begun_next : (d : Declarations) (equations : Equations) → RewritingIsLawful → (t next : FlatTerm) (steps : ℕ) (begun : Begun) → Fits d t → IsNext d equations t next → begun.form ≡ next → begun.left + 1 ≡ steps → IsReachedFrom d equations t steps begun.form begun.left
begun_next d equations laws t next steps begun fits step is left = record {
  count = 0 + 1;
  spent = omega (arith, left);
  reached = subst (IsReached d equations (0 + 1) t) (sym is) (reached_more d equations laws 0 t t next (reached_itself d equations t fits) step);
}
