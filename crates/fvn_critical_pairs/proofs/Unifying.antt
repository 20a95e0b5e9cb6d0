-- Where both results join under each unifier, they join wherever the overlap is met.
use Rattle.std.proofs.Common.{◌≡◌, ◌⊎◌, ℕ, false, List, inl, subst, arith}
use Rattle.std.specs.Prelude.{All}
use Rattle.std.proofs.lemmas.List.Elements.{All-contains}
use Rattle.fvn_terms.specs.declared.plain.Var.{Var}
use Rattle.fvn_terms.specs.declared.declarations.Declarations.{Declarations}
use Rattle.fvn_terms.specs.Term.{Term}
use Rattle.fvn_terms.specs.Substitution.{Substitution, apply, followed_by, Occurs}
use Rattle.fvn_terms.specs.Sorts.{IsWellSorted}
use Rattle.fvn_terms.specs.Theory.{Equations}
use Rattle.fvn_terms.specs.Rewriting.{AreJoinable}
use Rattle.fvn_terms.specs.Laws.{RewritingLaws}
use Rattle.fvn_terms.proofs.Substitutions.{apply-apply}
use Rattle.fvn_terms.proofs.Equal.{BEqual-apply, BEqual-sym}
use Rattle.fvn_forms.specs.Flat.{plain}
use Rattle.fvn_flat.specs.OneAnswer.{IsCompleteFor}
use Rattle.fvn_theory.specs.Equations.{equations_of}
use Rattle.fvn_rewrite_laws.specs.Laws.{RuleLaws}
use Rattle.fvn_rewrite_rules.specs.Given.{RuleLists}
use Rattle.fvn_places.proofs.PathFacts.{stands_at}
use Rattle.fvn_lifting.specs.Meetings.{IsNew, ShareNone, IsOverNew, ComeFrom}
use Rattle.fvn_lifting.specs.Laws.{AreUsed, MeetingsComeFromUnifiers}
use Rattle.fvn_critical_pairs.specs.Overlaps.{Overlap, inner_result, overlap_problem, IsNumberedUpTo, IsOverlap, JoinsUnder, JoinsWhere, Joins}
use Rattle.fvn_critical_pairs.proofs.GivenRules.{occurs_in_part, old}
use Rattle.fvn_critical_pairs.proofs.RenewedRules.{old_is_not_new}

-- instances of what is joinable are joinable
instance_joins : (d : Declarations) (equations : Equations) → RewritingLaws d equations → (s : Substitution) → IsWellSorted d s → (t u : Term) → AreJoinable d equations t u → AreJoinable d equations (apply s t) (apply s u)
instance_joins d equations rewriting s sorted t u j = record {
  left = apply s j.left;
  right = apply s j.right;
  left_steps = j.left_steps;
  right_steps = j.right_steps;
  left_reached = rewriting.sequences s sorted j.left_steps t j.left j.left_reached;
  right_reached = rewriting.sequences s sorted j.right_steps u j.right j.right_reached;
  equal = BEqual-apply d s sorted.0 j.equal;
}

module _ (d : Declarations) (lists : RuleLists) (used : AreUsed d (equations_of lists.equations) lists) (rewriting : RewritingLaws d (equations_of lists.equations))
    (rules : RuleLaws d (equations_of lists.equations)) (next : ℕ) (o : Overlap) (is : IsOverlap d lists next o) where
  abbrev equations : Equations
  equations = equations_of lists.equations

  new_there : (x : Var) → Occurs x (plain o.outer.left) → IsNumberedUpTo next x
  new_there x i = is.renewed.numbers x (inl i)

  old_there : (x : Var) → Occurs x (plain o.inner.left) → (x.fresh ≡ false) ⊎ (x.name ≡ 0)
  old_there x i = old d lists used rules o.inner is.overlaps.given x (inl i)

  pub new_at_part : (x : Var) → Occurs x (plain o.at) → IsNumberedUpTo next x
  new_at_part x i = new_there x (occurs_in_part x (stands_at o.path o.outer.left o.at is.overlaps.leads) i)

  pub share_none : ShareNone (plain o.at) (plain o.inner.left)
  share_none x i j = old_is_not_new x next (old_there x j) (new_at_part x i)

  module _ (s c : Substitution) (unifier : Substitution) (from : ComeFrom d next (plain o.inner.left) s c unifier) (j : JoinsUnder d equations o unifier) where
    abbrev by : Substitution
    by = followed_by unifier from.by

    joins_there : JoinsUnder d equations o by
    joins_there =
        subst (λ t. AreJoinable d equations t (apply by (plain (inner_result o)))) (apply-apply unifier from.by (plain o.outer.right))
        (subst (AreJoinable d equations (apply from.by (apply unifier (plain o.outer.right)))) (apply-apply unifier from.by (plain (inner_result o)))
        (instance_joins d equations rewriting from.by from.well_sorted (apply unifier (plain o.outer.right)) (apply unifier (plain (inner_result o))) j))

    pub joins_from : JoinsWhere d equations o s c
    joins_from = record {
      by = by;
      outer = λ x i. BEqual-sym d (from.outside x (λ k. old_is_not_new x next (old_there x k) (new_there x i)) (not_new x (new_there x i)));
      inner = λ x i. BEqual-sym d (from.within x i);
      joins = joins_there;
    }
      where
        not_new : (x : Var) → IsNumberedUpTo next x → IsNew next x → ⊥
        not_new x n w = let high = n.high in let low = w.1 in absurd (omega (arith, high, low))

  pub decided : MeetingsComeFromUnifiers → (unifiers : List Substitution) → IsCompleteFor d (overlap_problem o) unifiers → All (IsOverNew next (overlap_problem o)) unifiers →
      All (JoinsUnder d equations o) unifiers → Joins d equations o
  decided meetings unifiers complete new all s c meet =
      let w = meetings d next (plain o.at) (plain o.inner.left) share_none unifiers complete new s c meet in
      joins_from s c w.1 w.4 (All-contains (JoinsUnder d equations o) unifiers w.1 all (w.0, w.2, w.3))
