-- What a line denotes is a unifier in the theory with irreducible values.
use Rattle.std.proofs.Common.{sym, subst}
use Rattle.std.specs.Prelude.{Contains}
use Rattle.fvn_terms.specs.declared.plain.Var.{Var}
use Rattle.fvn_terms.specs.Substitution.{Substitution, followed_by, apply}
use Rattle.fvn_terms.specs.Equality.{BEqual}
use Rattle.fvn_terms.specs.Theory.{TEqual}
use Rattle.fvn_terms.specs.Laws.{TheoryLaws, InstancesChain}
use Rattle.fvn_terms.proofs.Equal.{BEqual-sym}
use Rattle.fvn_forms.specs.FitsKinds.{FitsKinds}
use Rattle.fvn_rewrite_laws.specs.Laws.{SequenceLaws}
use Rattle.fvn_syntax.specs.Pieces.{Text}
use Rattle.fvn_problems.specs.declared.problem.Problem.{Problem}
use Rattle.fvn_problems.specs.Problems.{HasVariables}
use Rattle.fvn_module.specs.Contents.{Contents}
use Rattle.fvn_theory.specs.Equations.{equations_of}
use Rattle.fvn_answer.specs.Denoting.{Denotes}
use Rattle.fvn_answer.specs.Laws.{EqualLinesAreInstances, LinesDenoteOneSubstitution}
use Rattle.fvn_cmd_unify.specs.Asked.{pairs_of, on_variables}
use Rattle.fvn_cmd_unify.specs.Solutions.{IsLineOf}
use Rattle.fvn_cmd_unify.proofs.Asking.{asked}
use Rattle.fvn_cmd_unify.proofs.Denoted.{on_others, sorted, made, denoted_below, denoted_above}
use Rattle.fvn_cmd_unify.proofs.Shown.{IsTwin, HasTwins, line_denotes}
use Rattle.fvn_cmd_vunify.specs.Asked.{IsIrreducibleUnifier, theory_unifiers_of}

module _ (m : Contents) (p : Problem) (fits : FitsKinds m.signature) (vars : HasVariables m.signature p) (theory : TheoryLaws m.signature (equations_of m.equations)) (sequences : SequenceLaws m.signature (equations_of m.equations))
    (chain : InstancesChain m.signature (equations_of m.equations) p.vars) (instances : EqualLinesAreInstances) (one : LinesDenoteOneSubstitution) where
  -- the twin of a unifier
  twin : (s : Substitution) → IsIrreducibleUnifier m p s → (line : Text) → IsLineOf m p s line → (r : Substitution) → Denotes m.signature m.names p.names.texts p.vars line r → IsTwin (theory_unifiers_of m p) s (on_variables p.vars r)
  twin s is line of r denotes =
      let d = m.signature in
      let t = on_variables p.vars r in
      let below = denoted_below instances one m p s line of.reads r denotes in
      let above = denoted_above instances one m p s line of.reads r denotes in
      let c = followed_by s below.after in
      let whole = theory.follows (pairs_of p.pairs) s below.after is.unifies below.well_sorted in
      let near : (x : Var) → Contains p.vars x → BEqual d (c x) (t x) = λ x i. BEqual-sym d (below.equal x i) in
      record {
        one = record {
          unifies = (
            sorted d fits p.vars c t near (on_others p.vars r) whole.0,
            made d fits p.vars c t near (on_others p.vars r) (TEqual d (equations_of m.equations)) theory.modulo theory.equivalence.transitive (pairs_of p.pairs) (asked d p vars) whole.1,
          );
          values = λ x i. sequences.instances above.after above.well_sorted (t x) (sequences.irreducible (s x) (apply above.after (t x)) (above.equal x i) (is.values x i));
        };
        below = below;
        above = above;
      }

  pub unifier_lines : HasTwins (theory_unifiers_of m p) (IsLineOf m p)
  unifier_lines = record {
    transitive = chain.modulo;
    denotes = line_denotes m p;
    twins = λ s is line of a d. subst (IsTwin (theory_unifiers_of m p) s) (sym d.1.1) (twin s is line of d.0 d.1.0);
  }
