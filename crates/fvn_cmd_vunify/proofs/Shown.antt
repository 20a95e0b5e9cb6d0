-- What is promised of unifiers in a theory holds of what the lines that are shown denote.
use Rattle.std.proofs.Common.{ℕ, ◌⊎◌, inl, inr}
use Rattle.std.specs.Prelude.{All, Any}
use Rattle.std.proofs.lemmas.List.Elements.{All-nil}
use Rattle.fvn_terms.specs.Substitution.{Substitution}
use Rattle.fvn_terms.specs.Rewriting.{IsTerminating, IsConfluent}
use Rattle.fvn_terms.specs.Laws.{RewritingLaws, TheoryEqualityIsLawful, InstancesAreTransitive, RewritingIsLawful}
use Rattle.fvn_forms.specs.Good.{IsGood}
use Rattle.fvn_signature.specs.Queries.{IsCompleted}
use Rattle.fvn_flat.specs.Drawn.{IsDrawn}
use Rattle.fvn_flat.specs.Problems.{plain_pairs}
use Rattle.fvn_rewrite_laws.specs.Admissible.{AreAdmissible}
use Rattle.fvn_rewrite_laws.specs.Losses.{AreSortDecreasing}
use Rattle.fvn_rewrite_laws.specs.Laws.{SequencesAreLawful}
use Rattle.fvn_problems.specs.declared.problem.Problem.{Problem}
use Rattle.fvn_problems.specs.Problems.{AreOfOneKind, HasVariables}
use Rattle.fvn_problems.specs.Laws.{ProblemsAreKinded}
use Rattle.fvn_module.specs.Contents.{Contents}
use Rattle.fvn_module_loading.specs.Laws.{LoadedModulesAreGood}
use Rattle.fvn_theory.specs.Equations.{equations_of}
use Rattle.fvn_exploring.specs.declared.ends.ExploreEnd.TheVariants.{Levels}
use Rattle.fvn_exploring.specs.Explorations.{ReachesPast}
use Rattle.fvn_vunify.specs.Sides.{sides_in_turn}
use Rattle.fvn_vunify.specs.Solutions.{IsKeptUnifier, IsIrreducibleUnifier as IsIrreducibleFor, IsInstanceOfSome}
use Rattle.fvn_answer.specs.Laws.{EqualLinesAreInstances, LinesDenoteOneSubstitution}
use Rattle.fvn_cmd_unify.specs.Asked.{pairs_of, IsInstanceOf}
use Rattle.fvn_cmd_unify.specs.Solutions.{IsLineOf}
use Rattle.fvn_cmd_unify.proofs.Asking.{module-names, instance-on_vars}
use Rattle.fvn_cmd_unify.proofs.Shown.{HasTwins, headline_of_lines, shown_by_line}
use Rattle.fvn_cmd_words.specs.declared.reach.Reach.{Reach}
use Rattle.fvn_cmd_exploring.specs.Searches.{AreTrusted, setting_of, limits_of}
use Rattle.fvn_cmd_exploring.proofs.Ending.{levels_told}
use Rattle.fvn_cmd_vunify.specs.Asked.{sides_of, flattened_pairs, UnifiesInTheory, IsIrreducibleUnifier, IsTheoryInstanceOf, IsWithinSteps, theory_unifiers_of}
use Rattle.fvn_cmd_vunify.specs.Solutions.{Found, values, IsSolvedWhole, IsWhole, IsOfExploration, IsOfEqualSides, IsSolution}
use Rattle.fvn_cmd_vunify.specs.Laws.{IsPast, SolvesAllPairs, ShownTheoryUnifiersKeepThePromise}
use Rattle.fvn_cmd_vunify.proofs.Headline.{IsLawful, one, kinds, from_command, theory-instance}
use Rattle.fvn_cmd_vunify.proofs.InTurn.{sides_flat, within_along}
use Rattle.fvn_cmd_vunify.proofs.Ended.{told_first, no_levels}
use Rattle.fvn_cmd_vunify.proofs.Denoted.{unifier_lines}

module _ (m : Contents) (p : Problem) (reach : Reach) (kinded : All (AreOfOneKind m.signature) p.pairs) (vars : HasVariables m.signature p) (lawful : IsLawful) (good : IsGood m.signature) (rewriting : RewritingLaws m.signature (equations_of m.equations))
    (found : Found) (solution : IsSolution m p reach found) where
  past : IsOfExploration m p reach found → (k : ℕ) → IsPast reach found k → ReachesPast (setting_of m reach) (IsDrawn m.signature) (sides_in_turn (flattened_pairs m p)) (limits_of m reach 1) found.explored k
  past own k (inl e) = let told = levels_told reach found.solved.end found.loss _ k e in inr (told.0, told_first m reach (flattened_pairs m p) found.explored found.solved own.solved (Levels told.0) (no_levels told.0) told.1, told.2)
  past own k (inr d) = inl d

  -- what is found of the flat pairs is found of the problem
  to_pairs : (s : Substitution) → IsInstanceOfSome (setting_of m reach) (plain_pairs (flattened_pairs m p)) (values found) s → IsInstanceOfSome (setting_of m reach) (pairs_of p.pairs) (values found) s
  to_pairs s a = (a.0, a.1, a.2, a.3, ((one m p reach kinded vars lawful good).instances s a.1).1 a.4)

  to_vars : (s : Substitution) → IsInstanceOfSome (setting_of m reach) (plain_pairs (flattened_pairs m p)) (values found) s → Any (IsInstanceOf m p s) (values found)
  to_vars s a = let b = to_pairs s a in (b.0, b.1, b.2, b.3, instance-on_vars m.signature p vars s b.1 b.4)

  to_flat : (s : Substitution) → IsIrreducibleFor (setting_of m reach) (pairs_of p.pairs) s → IsIrreducibleFor (setting_of m reach) (plain_pairs (flattened_pairs m p)) s
  to_flat s is = ((one m p reach kinded vars lawful good).irreducible s).0 is

  pub irreducible_values : IsSolvedWhole found → AreTrusted m → (s : Substitution) → IsIrreducibleUnifier m p s → Any (IsInstanceOf m p s) (values found)
  irreducible_values whole trusted s is = to_vars s (go solution.source (to_flat s (from_command m p reach kinded vars lawful good s is))) where
    go : IsOfExploration m p reach found ⊎ IsOfEqualSides m p reach found → IsIrreducibleFor (setting_of m reach) (plain_pairs (flattened_pairs m p)) s → IsInstanceOfSome (setting_of m reach) (plain_pairs (flattened_pairs m p)) (values found) s
    go (inl own) h = (own.solved.complete whole trusted.0 trusted.1).complete s h
    go (inr own) h = own.solved.complete.complete s h

  module _ (confluent : IsConfluent m.signature (equations_of m.equations)) (solves : SolvesAllPairs m reach found) (k : ℕ) (is_past : IsPast reach found k) where
    near : (s : Substitution) → IsIrreducibleFor (setting_of m reach) (pairs_of p.pairs) s → IsWithinSteps m p k s → IsInstanceOfSome (setting_of m reach) (plain_pairs (flattened_pairs m p)) (values found) s
    near s is within = go solution.source where
      go : IsOfExploration m p reach found ⊎ IsOfEqualSides m p reach found → IsInstanceOfSome (setting_of m reach) (plain_pairs (flattened_pairs m p)) (values found) s
      go (inr own) = own.solved.complete.complete s (to_flat s is)
      go (inl own) =
          own.solved.within confluent solves s (to_flat s is)
          (record {
            most = k;
            reaches = past own k is_past;
            within =
                within_along m.signature (equations_of m.equations) rewriting (sides_of (pairs_of p.pairs)) _ (sides_flat m.signature good.fits p.pairs kinded) k s
                is.kept.unifier.0 within;
          })

    pub within_values : (s : Substitution) → IsIrreducibleUnifier m p s → IsWithinSteps m p k s → Any (IsInstanceOf m p s) (values found)
    within_values s is within = to_vars s (near s (from_command m p reach kinded vars lawful good s is) within)

    pub within_theory_values : IsCompleted m.signature → AreAdmissible m.signature (equations_of m.equations) → IsTerminating m.signature (equations_of m.equations) → AreSortDecreasing m.signature (equations_of m.equations) →
        (s : Substitution) → UnifiesInTheory m p s → IsWithinSteps m p k s → Any (IsTheoryInstanceOf m p s) (values found)
    within_theory_values completed admissible terminating decreasing s is within =
        let laws = lawful.irreducible (setting_of m reach) good completed admissible decreasing terminating (pairs_of p.pairs) (kinds m p reach kinded vars lawful good) in
        let kept : IsKeptUnifier (setting_of m reach) (pairs_of p.pairs) s = record { unifier = is; stay = All-nil _ } in
        let a = laws.within (values found) k (sides_of (pairs_of p.pairs)) (λ c irreducible w. to_pairs c (near c irreducible w)) s kept within in
        (a.0, a.1, a.2, a.3, theory-instance m p reach kinded vars lawful good s a.1 a.4)

-- the laws that lines stand on
pub record AreKnown : Type 0 where
  pub modules : LoadedModulesAreGood
  pub problems : ProblemsAreKinded
  pub theory : TheoryEqualityIsLawful
  pub chain : InstancesAreTransitive
  pub rewriting : RewritingIsLawful
  pub sequences : SequencesAreLawful
  pub instances : EqualLinesAreInstances
  pub denoted : LinesDenoteOneSubstitution
  pub unifiers : IsLawful

pub shown_unifiers_keep : AreKnown → ShownTheoryUnifiersKeepThePromise
shown_unifiers_keep known bytes word m p reach asked found solution text shown =
    let d = m.signature in
    let e = equations_of m.equations in
    let g = known.modules bytes m asked.module_text in
    let k = known.problems d m.names (module-names m g.0) word p asked.problem_text in
    let chain = known.chain d e p.vars in
    let theory = known.theory d e in
    let rewriting = known.rewriting d e in
    let has : HasTwins (theory_unifiers_of m p) (IsLineOf m p) = unifier_lines m p g.1.fits k.1 theory (known.sequences d e) chain known.instances known.denoted in
    let carries : (s a b : Substitution) → IsTheoryInstanceOf m p s a → IsInstanceOf m p a b → IsTheoryInstanceOf m p s b = λ s a b h j. chain.theory s a b h (theory.instances p.vars a b j) in
    record {
      headline = headline_of_lines (theory_unifiers_of m p) (IsLineOf m p) has (IsWhole found) (values found) solution.headline shown.lines shown.answer.lines shown.lines_of shown.answer.in_order carries;
      irreducible = λ whole trusted s is.
          shown_by_line (theory_unifiers_of m p) (IsLineOf m p) has (IsWhole found) (values found) solution.headline shown.lines shown.answer.lines shown.lines_of shown.answer.in_order (IsInstanceOf m p s) (chain.modulo s)
          (irreducible_values m p reach k.0 k.1 known.unifiers g.1 rewriting found solution whole trusted s is);
      within = λ confluent solves n past s is w.
          shown_by_line (theory_unifiers_of m p) (IsLineOf m p) has (IsWhole found) (values found) solution.headline shown.lines shown.answer.lines shown.lines_of shown.answer.in_order (IsInstanceOf m p s) (chain.modulo s)
          (within_values m p reach k.0 k.1 known.unifiers g.1 rewriting found solution confluent solves n past s is w);
      within_theory = λ terminating confluent decreasing solves n past s is w.
          shown_by_line (theory_unifiers_of m p) (IsLineOf m p) has (IsWhole found) (values found) solution.headline shown.lines shown.answer.lines shown.lines_of shown.answer.in_order (IsTheoryInstanceOf m p s) (carries s)
          (within_theory_values m p reach k.0 k.1 known.unifiers g.1 rewriting found solution confluent solves n past g.2 g.3 terminating decreasing s is w);
    }
