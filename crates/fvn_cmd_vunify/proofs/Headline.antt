-- What was solved keeps what is promised of unifiers in a theory.
use Rattle.std.proofs.Common.{◌≡◌, List, map, get_or, None, sym, subst}
use Rattle.std.specs.Prelude.{All, Any}
use Rattle.std.specs.List.{AllZip}
use Rattle.std.proofs.lemmas.List.Elements.{All-nil, All-map, All-weaker}
use Rattle.fvn_terms.specs.Term.{Term}
use Rattle.fvn_terms.specs.Substitution.{Substitution}
use Rattle.fvn_terms.specs.Equality.{BEqual}
use Rattle.fvn_terms.specs.Rewriting.{IsConfluent}
use Rattle.fvn_terms.specs.Laws.{RewritingLaws}
use Rattle.fvn_terms.specs.Unifiers.{Problem as TermPairs, IsInstance}
use Rattle.fvn_terms.specs.Theory.{IsTheoryInstance}
use Rattle.fvn_terms.specs.CompleteSets.{IsApart, IsShortest}
use Rattle.fvn_forms.specs.Flat.{FlatTerm, plain}
use Rattle.fvn_forms.specs.Good.{IsGood}
use Rattle.fvn_signature.specs.Queries.{IsCompleted}
use Rattle.fvn_flat.specs.Drawn.{IsDrawn}
use Rattle.fvn_flat.specs.Fits.{AllFit}
use Rattle.fvn_flat.specs.Problems.{IsProblem as AreOfKinds, plain_pairs, variables_of}
use Rattle.fvn_flat.specs.Solving.{substitution}
use Rattle.fvn_rewrite_laws.specs.Admissible.{AreAdmissible}
use Rattle.fvn_rewrite_laws.specs.Losses.{AreSortDecreasing}
use Rattle.fvn_problems.specs.declared.problem.Problem.{Problem}
use Rattle.fvn_problems.specs.Problems.{AreOfOneKind, HasVariables}
use Rattle.fvn_module.specs.Contents.{Contents}
use Rattle.fvn_module_loading.specs.Losses.{IsLossOf}
use Rattle.fvn_theory.specs.Equations.{equations_of}
use Rattle.fvn_cover.specs.declared.variant.Variant.{Variant}
use Rattle.fvn_exploring.specs.declared.ends.Explored.{Explored}
use Rattle.fvn_exploring.specs.declared.ends.ExploreEnd.TheVariants.{Complete, Levels}
use Rattle.fvn_exploring.specs.Setting.{Setting}
use Rattle.fvn_exploring.specs.LevelRuns.{AreVariablesOf}
use Rattle.fvn_closure.specs.Closing.{IsExplorable, Reached, IsReachedVariant, IsVariantWithin}
use Rattle.fvn_closure.specs.Laws.{ExplorationsAreLawful}
use Rattle.fvn_vunify.specs.declared.solved.SolvedModulo.{SolvedModulo}
use Rattle.fvn_vunify.specs.Solutions.{IsKeptUnifier, IsIrreducibleUnifier as IsIrreducibleFor, IsInstanceOfSome, AreAllIrreducibleUnifiers}
use Rattle.fvn_vunify.specs.Sides.{sides_in_turn}
use Rattle.fvn_vunify.specs.Laws.{TheoryUnifiersHaveIrreducibleValues, CompleteIrreducibleUnifiersAreShortest, FlattenedPairsHaveOneTheoryAnswer, HaveOneTheoryAnswer}
use Rattle.fvn_cmd.specs.Headline.{IsHeadline}
use Rattle.fvn_cmd_unify.specs.Asked.{pairs_of, IsInstanceOf}
use Rattle.fvn_cmd_unify.proofs.Asking.{listed, asked, instance-on_pairs}
use Rattle.fvn_cmd_unify.proofs.Flattening.{pairs_of-problem}
use Rattle.fvn_cmd_words.specs.declared.reach.Reach.{Reach}
use Rattle.fvn_cmd_exploring.specs.Searches.{AreTrusted, setting_of, limits_of, AreExplored}
use Rattle.fvn_cmd_vunify.specs.Asked.{sides_of, flattened_pairs, UnifiesInTheory, IsIrreducibleUnifier, IsTheoryInstanceOf, IsVariantOfSides, HasFewLevels, theory_unifiers_of}
use Rattle.fvn_cmd_vunify.specs.Solutions.{Found, values, IsWhole}
use Rattle.fvn_cmd_vunify.proofs.Answering.{AreAnswers}
use Rattle.fvn_cmd_vunify.proofs.InTurn.{sides_flat, each_back, each_occurs, sides_occur, occur_sides, variant_along, within_along}

-- the laws of unifiers in a theory
pub record IsLawful : Type 0 where
  pub irreducible : TheoryUnifiersHaveIrreducibleValues
  pub shortest : CompleteIrreducibleUnifiersAreShortest
  pub flat : FlattenedPairsHaveOneTheoryAnswer

module _ (m : Contents) (p : Problem) (reach : Reach) (kinded : All (AreOfOneKind m.signature) p.pairs) (vars : HasVariables m.signature p) (lawful : IsLawful) (good : IsGood m.signature) where
  abbrev g : Setting
  g = setting_of m reach

  abbrev problem : TermPairs
  problem = pairs_of p.pairs

  abbrev flat : TermPairs
  flat = plain_pairs (flattened_pairs m p)

  pub kinds : AreOfKinds m.signature problem
  kinds = pairs_of-problem m.signature p.pairs kinded

  pub one : HaveOneTheoryAnswer g problem flat
  one = lawful.flat g good.fits problem kinds

  to_command : (s : Substitution) → IsIrreducibleFor g problem s → IsIrreducibleUnifier m p s
  to_command s h = record { unifies = h.kept.unifier; values = λ x c. h.values x (listed m.signature p vars x c) }

  pub from_command : (s : Substitution) → IsIrreducibleUnifier m p s → IsIrreducibleFor g problem s
  from_command s h = record { kept = record { unifier = h.unifies; stay = All-nil _ }; values = λ x c. h.values x (asked m.signature p vars x c) }

  pub theory-instance : (a b : Substitution) → IsTheoryInstance m.signature (equations_of m.equations) (variables_of problem) a b → IsTheoryInstanceOf m p a b
  theory-instance a b h = record { after = h.after; well_sorted = h.well_sorted; equal = λ x c. h.equal x (listed m.signature p vars x c) }

  -- instances on the variables of the flat pairs are instances on those of the problem
  to_flat_instance : (a b : Substitution) → IsInstanceOf m p a b → IsInstance m.signature (variables_of flat) a b
  to_flat_instance a b h = (one.instances a b).0 (instance-on_pairs m.signature p vars a b h)

  module _ (completed : IsCompleted m.signature) (admissible : AreAdmissible m.signature (equations_of m.equations)) (r : SolvedModulo) (s : AreAnswers m reach (flattened_pairs m p) r) where
    abbrev list : List Substitution
    list = map substitution r.unifiers

    sound : All (IsIrreducibleUnifier m p) list
    sound =
        All-map (IsIrreducibleUnifier m p) substitution r.unifiers
        (All-weaker (λ b. IsIrreducibleFor g flat (substitution b)) (λ b. IsIrreducibleUnifier m p (substitution b)) (λ b h. to_command (substitution b) ((one.irreducible (substitution b)).1 h)) r.unifiers s.sound)

    apart : IsApart (IsInstanceOf m p) list
    apart i j d l w = let a = s.apart i j d l w in (λ k. a.0 (to_flat_instance _ _ k), λ k. a.1 (to_flat_instance _ _ k))

    apart_on_pairs : IsApart (IsInstance m.signature (variables_of problem)) list
    apart_on_pairs i j d l w = let a = s.apart i j d l w in (λ k. a.0 ((one.instances _ _).0 k), λ k. a.1 ((one.instances _ _).0 k))

    module _ (whole : r.end ≡ Complete) (trusted : AreTrusted m) where
      all_flat : AreAllIrreducibleUnifiers g flat list
      all_flat = s.complete whole trusted.0 trusted.1

      some_of : (c : Substitution) → IsIrreducibleFor g problem c → IsInstanceOfSome g problem list c
      some_of c h = let a = all_flat.complete c ((one.irreducible c).0 h) in (a.0, a.1, a.2, a.3, (one.instances c a.1).1 a.4)

      all_of : AreAllIrreducibleUnifiers g problem list
      all_of = record {
        sound =
            All-map (IsIrreducibleFor g problem) substitution r.unifiers
            (All-weaker (λ b. IsIrreducibleFor g flat (substitution b)) (λ b. IsIrreducibleFor g problem (substitution b)) (λ b h. (one.irreducible (substitution b)).1 h) r.unifiers s.sound);
        complete = some_of;
      }

      complete : AreSortDecreasing m.signature (equations_of m.equations) → (u : Substitution) → UnifiesInTheory m p u → Any (IsTheoryInstanceOf m p u) list
      complete decreasing u is =
          let laws = lawful.irreducible g good completed admissible decreasing trusted.0 problem kinds in
          let kept : IsKeptUnifier g problem u = record { unifier = is; stay = All-nil _ } in
          let a = laws.complete list some_of u kept in
          (a.0, a.1, a.2, a.3, theory-instance u a.1 a.4)

      shortest : IsShortest (IsIrreducibleUnifier m p) (IsInstanceOf m p) list
      shortest others given =
          lawful.shortest g problem list all_of apart_on_pairs others
          (record {
            sound = All-weaker (IsIrreducibleUnifier m p) (IsIrreducibleFor g problem) from_command others given.sound;
            complete = λ u is. let a = given.complete u (to_command u is) in (a.0, a.1, a.2, a.3, instance-on_pairs m.signature p vars u a.1 a.4);
          })

    -- the headline
    pub headline : (found : Found) → found.solved ≡ r → (r.end ≡ Complete → IsLossOf m found.loss) → IsHeadline (theory_unifiers_of m p) (IsWhole found) (values found)
    headline found is loss_is =
        subst (λ y. IsHeadline (theory_unifiers_of m p) ((y.end ≡ Complete) × (found.loss ≡ None)) (map substitution y.unifiers)) (sym is) (record {
          sound = sound;
          apart = apart;
          all = λ e trusted. record {
            complete = complete e.0 trusted (subst (IsLossOf m) e.1 (loss_is e.0));
            shortest = shortest e.0 trusted;
          };
        })

  -- where finitely many variants of the sides within as many steps as levels cover all, the last level is not met
  module _ (rewriting : RewritingLaws m.signature (equations_of m.equations)) (completed : IsCompleted m.signature) (fits : AllFit m.signature (sides_in_turn (flattened_pairs m p))) (x : Explored) (explored : AreExplored m reach (sides_in_turn (flattened_pairs m p)) x)
      (laws : ExplorationsAreLawful g (IsDrawn m.signature)) where
    abbrev start : List FlatTerm
    start = sides_in_turn (flattened_pairs m p)

    abbrev sides : List Term
    sides = sides_of problem

    equal : AllZip (BEqual m.signature) sides (map plain start)
    equal = sides_flat m.signature good.fits p.pairs kinded

    back : AllZip (BEqual m.signature) (map plain start) sides
    back = each_back m.signature sides (map plain start) equal

    variables : AreVariablesOf start p.vars
    variables = record {
      all = λ x. (
        λ c. each_occurs m.signature x (map plain start) sides back (occur_sides p.pairs x ((vars.exact x).0 c)),
        λ o. (vars.exact x).1 (sides_occur p.pairs x (each_occurs m.signature x sides (map plain start) equal o)),
      );
      once = vars.distinct;
    }

    explorable : IsExplorable g start
    explorable = record { good = good; completed = completed; lawful = explored.lawful; fits = fits; fixed = All-nil _ }

    to_flat : (q : Reached) → IsVariantOfSides m p q → IsReachedVariant g start q
    to_flat q h = variant_along m.signature (equations_of m.equations) rewriting sides (map plain start) equal q.0 q.1 h

    from_flat : (q : Reached) → IsReachedVariant g start q → IsVariantOfSides m p q
    from_flat q h = variant_along m.signature (equations_of m.equations) rewriting (map plain start) sides back q.0 q.1 h

    pub finite : IsConfluent m.signature (equations_of m.equations) → HasFewLevels m p reach.levels → (v : Variant) → x.end ≡ Levels v → ⊥
    finite confluent few v e =
        (laws start explorable confluent (limits_of m reach 1) x explored p.vars variables).finite few.variants near (λ q h. few.all.complete q (from_flat q h)) v e
      where
        near : All (IsVariantWithin g start reach.levels) few.variants
        near i b l =
            let q = get_or few.variants i b in
            let is = few.all.sound i b l in
            (to_flat q is, within_along m.signature (equations_of m.equations) rewriting sides (map plain start) equal reach.levels q.1 is.well_sorted (few.within i b l))
