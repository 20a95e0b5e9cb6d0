-- How the steps of `vunify` make its reply.
use Rattle.std.proofs.Common.{◌≡◌, ◌≤◌, ◌⊎◌, ℕ, Option, List, [], ◌∷◌, map, length, refl, sym, ap, ◌∙◌, subst, inl, inr, arith}
use Rattle.std.specs.Prelude.{All}
use Rattle.std.specs.List.{AllZip}
use Rattle.std.proofs.lemmas.List.{length-map}
use Rattle.std.proofs.lemmas.List.Elements.{All-weaker}
use Rattle.std.proofs.lemmas.Slice.Zip.{AllZip-long}
use Rattle.fvn_terms.specs.declared.plain.Plain.{Plain}
use Rattle.fvn_terms.specs.declared.declarations.Declarations.{Declarations}
use Rattle.fvn_terms.specs.CompleteSets.{IsApart}
use Rattle.fvn_terms.specs.Rewriting.{IsConfluent}
use Rattle.fvn_terms.specs.Laws.{RewritingLaws, RewritingIsLawful}
use Rattle.fvn_theory.specs.Equations.{equations_of}
use Rattle.fvn_forms.specs.Good.{IsGood}
use Rattle.fvn_signature.specs.Queries.{IsCompleted}
use Rattle.fvn_flat.specs.Bindings.{Bindings, BindingsFit}
use Rattle.fvn_flat.specs.Fits.{AllFit}
use Rattle.fvn_flat.specs.Laws.{FlattenedPairsAreGiven}
use Rattle.fvn_flat.specs.Problems.{plain_pairs, flat_pairs}
use Rattle.fvn_flat.specs.Solving.{FlatPairs, IsGiven, substitution}
use Rattle.fvn_flat.specs.declared.solver.Pairs.{Pairs}
use Rattle.fvn_rewrite_laws.specs.Admissible.{AreAdmissible}
use Rattle.fvn_syntax.specs.declared.names.Names.{Names}
use Rattle.fvn_syntax.specs.Pieces.{Text}
use Rattle.fvn_syntax.specs.Scope.{Scope}
use Rattle.fvn_problems.specs.declared.fault.ProblemFault.{ProblemFault}
use Rattle.fvn_problems.specs.declared.problem.Problem.{Problem}
use Rattle.fvn_problems.specs.Problems.{IsProblem, RefusesProblem, AreOfOneKind, HasVariables, ArePairsOf}
use Rattle.fvn_problems.specs.Laws.{ProblemNamesAreWords, ProblemNamesDiffer}
use Rattle.fvn_problems.specs.Scopes.{guarded}
use Rattle.fvn_problems.specs.Spelling.{RawPair, pairs_in}
use Rattle.fvn_module.specs.Contents.{Contents}
use Rattle.fvn_cover.specs.declared.variant.Variant.{Variant}
use Rattle.fvn_exploring.specs.declared.ends.Explored.{Explored}
use Rattle.fvn_exploring.specs.declared.ends.ExploreEnd.TheVariants.{Levels}
use Rattle.fvn_vunify.specs.Sides.{sides_in_turn}
use Rattle.fvn_vunify.specs.declared.solved.SolvedModulo.{SolvedModulo}
use Rattle.fvn_vunify.specs.Solutions.{IsIrreducibleUnifier}
use Rattle.fvn_answer.specs.Asked.{HaveSorts}
use Rattle.fvn_answer.specs.Answers.{IsAnswerText}
use Rattle.fvn_answer.specs.Laws.{EqualLinesAreInstances}
use Rattle.fvn_cmd.specs.declared.status.Status.{Status}
use Rattle.fvn_cmd.specs.declared.status.Status.TheVariants.{ProblemRefused}
use Rattle.fvn_cmd.specs.Refusing.{IsProblemRefusalLine}
use Rattle.fvn_cmd.proofs.Replying.{in_module, refused_words}
use Rattle.fvn_cmd_unify.specs.Asked.{pairs_of, IsInstanceOf}
use Rattle.fvn_cmd.specs.Ends.{status_of_end}
use Rattle.fvn_cmd_unify.specs.Replies.{unify_words}
use Rattle.fvn_cmd_unify.specs.Solutions.{IsLineOf}
use Rattle.fvn_cmd_unify.proofs.Asking.{problem-asked, problem-room}
use Rattle.fvn_cmd_unify.proofs.Counting.{as-many}
use Rattle.fvn_cmd_unify.proofs.Flattening.{pairs_of-problem}
use Rattle.fvn_cmd_words.specs.declared.reach.Reach.{Reach}
use Rattle.fvn_cmd_exploring.specs.Searches.{setting_of}
use Rattle.fvn_cmd_exploring.specs.Ends.{end_told}
use Rattle.fvn_cmd_exploring.specs.Answers.{IsAnswerAfter}
use Rattle.fvn_cmd_vunify.specs.Asked.{flattened_pairs, HasFewLevels}
use Rattle.fvn_cmd_vunify.specs.Solutions.{Found, unexplored, values, end_of, IsOfExploration, IsOfEqualSides, Shows}
use Rattle.fvn_cmd_vunify.specs.Replies.{IsAnswer, IsVunifyAnswer}
use Rattle.fvn_cmd_vunify.specs.inner.Steps.{AreSides, IsSolvedIn, IsProblemIn, RepliesIn}
use Rattle.fvn_cmd_vunify.proofs.InTurn.{turn_fits}
use Rattle.fvn_cmd_vunify.proofs.Headline.{IsLawful, headline, finite}
use Rattle.fvn_cmd_vunify.proofs.Answering.{answers_of}

-- The pairs that are given.

module _ (m : Contents) (p : Problem) (is : IsProblemIn m p) where
  given-sides : FlattenedPairsAreGiven → IsGood m.signature → (given : Pairs) → given.pairs ≡ flattened_pairs m p → IsGiven m.signature given 0
  given-sides law good given flat = law m.signature good.fits (pairs_of p.pairs) (pairs_of-problem m.signature p.pairs is.kinded) given flat 0 (problem-room m.signature p is.vars)

  flat-length : (pairs : List (Plain × Plain)) → 1 ≤ length pairs → 1 ≤ length (flat_pairs m.signature (pairs_of pairs))
  flat-length [] some = absurd (omega (arith, some))
  flat-length (q ∷ pairs) some = omega arith

  pub sides : FlattenedPairsAreGiven → IsGood m.signature → (given : Pairs) → given.pairs ≡ flattened_pairs m p → AreSides m.signature given.pairs
  sides law good given flat =
      let h = given-sides law good given flat in
      record {
        some = subst (λ l. 1 ≤ length l) (sym flat) (flat-length p.pairs is.some);
        fit = h.fit;
        kinds = h.kinds;
      }

-- what is flattened is the problem's pairs
pub flat_from : (m : Contents) (p : Problem) (d : Declarations) → d ≡ m.signature → (pairs : List (Plain × Plain)) → pairs ≡ p.pairs → (given : FlatPairs) → given ≡ flat_pairs d (pairs_of pairs) → given ≡ flattened_pairs m p
flat_from m p d signature_is pairs are given is =
    is ∙ ap (λ (x : Declarations). flat_pairs x (pairs_of pairs)) signature_is ∙ ap (λ l. flat_pairs m.signature (pairs_of l)) are

-- Lines.

-- a line for each of the substitutions
abbrev pub AreLinesFor : Contents → Problem → List Bindings → List Text → Type 0
AreLinesFor m p unifiers lines = AllZip (λ s line. IsLineOf m p (substitution s) line) unifiers lines

module _ (m : Contents) (p : Problem) where
  values-lines : (unifiers : List Bindings) (lines : List Text) → AreLinesFor m p unifiers lines → AllZip (IsLineOf m p) (map substitution unifiers) lines
  values-lines [] [] h = tt
  values-lines [] (l ∷ ls) h = absurd h
  values-lines (s ∷ ss) [] h = absurd h
  values-lines (s ∷ ss) (l ∷ ls) h = (h.0, values-lines ss ls h.1)

  shown-lines : EqualLinesAreInstances → (reach : Reach) (found : Found) (lines : List Text) → AreLinesFor m p found.solved.unifiers lines → IsApart (IsInstanceOf m p) (values found) → (text : Text) →
      IsAnswerText m.signature m.names lines (end_of reach found) text → Shows m p reach found text
  shown-lines law reach found lines h a text answer =
      let z = values-lines found.solved.unifiers lines h in
      record {
        lines = lines;
        lines_of = z;
        answer = answer;
        count =
            as-many (IsLineOf m p) (IsInstanceOf m p) (λ s c line i j. law m.signature m.names p.names.texts p.vars line s c i.reads j.reads) (values found) lines answer.lines z a answer.in_order
            ∙ length-map found.solved.unifiers substitution;
      }

  module _ (reach : Reach) (is : IsProblemIn m p) (pairs : FlatPairs) (flat : pairs ≡ flattened_pairs m p) (r : SolvedModulo) (s : IsSolvedIn m reach pairs r) where
    solved_flat : IsSolvedIn m reach (flattened_pairs m p) r
    solved_flat = subst (λ l. IsSolvedIn m reach l r) flat s

    pub all_fit : All (BindingsFit m.signature) r.unifiers
    all_fit = (answers_of m reach pairs r s).fits

    pub all_sorted : All (HaveSorts m.signature p.vars) r.unifiers
    all_sorted =
        All-weaker (λ (b : Bindings). IsIrreducibleUnifier (setting_of m reach) (plain_pairs pairs) (substitution b)) (HaveSorts m.signature p.vars) (λ b h x c. h.kept.unifier.0.1 x)
        r.unifiers (answers_of m reach pairs r s).sound

    -- what was explored, if anything was
    abbrev explored_of : IsSolvedIn m reach (flattened_pairs m p) r → Explored
    explored_of (inl h) = h.explored
    explored_of (inr h) = unexplored

    abbrev found_of : IsSolvedIn m reach (flattened_pairs m p) r → Option ℕ → Found
    found_of h loss = record { explored = explored_of h; solved = r; loss = loss }

    source_of : (h : IsSolvedIn m reach (flattened_pairs m p) r) (loss : Option ℕ) → IsOfExploration m p reach (found_of h loss) ⊎ IsOfEqualSides m p reach (found_of h loss)
    source_of (inl h) loss = inl (record { explored = h.exploration; solved = h.solved })
    source_of (inr h) loss = inr (record { explored = refl; solved = h })

    -- the last level is not met where finitely many variants within as many steps cover all
    finite_of : IsLawful → IsGood m.signature → RewritingLaws m.signature (equations_of m.equations) → IsCompleted m.signature → AllFit m.signature (sides_in_turn (flattened_pairs m p)) → (h : IsSolvedIn m reach (flattened_pairs m p) r) →
        IsConfluent m.signature (equations_of m.equations) → HasFewLevels m p reach.levels → (v : Variant) → (explored_of h).end ≡ Levels v → ⊥
    finite_of lawful good rewriting completed fit (inl h) = finite m p reach is.kinded is.vars lawful good rewriting completed fit h.explored h.exploration h.laws
    finite_of lawful good rewriting completed fit (inr h) = λ confluent few v e. cc

    pub answer-told : RewritingIsLawful → FlattenedPairsAreGiven → IsLawful → EqualLinesAreInstances → IsGood m.signature → IsCompleted m.signature → AreAdmissible m.signature (equations_of m.equations) →
        (unifiers : List Bindings) → unifiers ≡ r.unifiers → (lines : List Text) → AreLinesFor m p unifiers lines → (status : Status) (text : List ℕ) → IsAnswerAfter m reach r.end lines status text → IsAnswer m p reach status text
    answer-told rewriting given_law lawful law good completed admissible unifiers are lines h status text a =
        let here = solved_flat in
        let given : Pairs = record { pairs = flattened_pairs m p } in
        let f : Found = found_of here a.loss in
        let promised = headline m p reach is.kinded is.vars lawful good completed admissible r (answers_of m reach (flattened_pairs m p) r here) f refl a.loss_is in
        let listed : AreLinesFor m p r.unifiers lines = subst (λ l. AreLinesFor m p l lines) are h in
        let end_is : end_told reach r.end a.loss (length lines) ≡ end_of reach f = ap (λ n. end_told reach r.end a.loss n) (AllZip-long (λ s line. IsLineOf m p (substitution s) line) r.unifiers lines listed) in
        record {
          found = f;
          solution = record {
            source = source_of here a.loss;
            headline = promised;
            finite = finite_of lawful good (rewriting m.signature (equations_of m.equations)) completed (turn_fits m.signature (flattened_pairs m p) (sides m p is given_law good given refl).fit) here;
            loss_is = a.loss_is;
          };
          shown = shown-lines law reach f lines listed promised.apart text (subst (λ e. IsAnswerText m.signature m.names lines e text) end_is a.shown);
          status_is = a.status_is ∙ ap status_of_end end_is;
        }

module _ (m : Contents) (d : Declarations) (names : Names) (signature_is : d ≡ m.signature) (names_are : names ≡ m.names) (reach : Reach) where
  some-pairs : (c : Scope) (before : List Text) (rs : List RawPair) (ps : List (Plain × Plain)) (after : List Text) → ArePairsOf c before rs ps after → 1 ≤ length rs → 1 ≤ length ps
  some-pairs c before [] ps after q some = absurd (omega (arith, some))
  some-pairs c before (r ∷ rs) [] after q some = absurd q
  some-pairs c before (r ∷ rs) (p ∷ ps) after q some = omega arith

  pub problem_in : (word : Text) (p : Problem) → ProblemNamesAreWords → ProblemNamesDiffer → IsProblem d names word p → All (AreOfOneKind d) p.pairs → HasVariables d p → IsProblemIn m p
  problem_in word p words differ is kinded vars = record {
    some = some-pairs (guarded d names) [] (pairs_in is.raw) p.pairs p.names.texts is.asked.pairs (omega arith);
    kinded = subst (λ x. All (AreOfOneKind x) p.pairs) signature_is kinded;
    vars = subst (λ x. HasVariables x p) signature_is vars;
    asked = problem-asked m d names signature_is names_are word p words differ is vars;
  }

  pub problem_refused : (word : List ℕ) (fault : ProblemFault) → RefusesProblem d names word fault → (s : Status) (t : List ℕ) → s ≡ ProblemRefused → IsProblemRefusalLine fault t → RepliesIn m word reach s t
  problem_refused word fault h s t e is bytes loaded =
      refused_words bytes (unify_words word) (IsVunifyAnswer bytes word reach) m loaded fault
      (inl (in_module m d names signature_is names_are (λ x y. RefusesProblem x y word fault) h)) s t e is

  pub problem_answered : (word : List ℕ) (p : Problem) → IsProblem d names word p → (s : Status) (t : List ℕ) → IsAnswer m p reach s t → RepliesIn m word reach s t
  problem_answered word p h s t a bytes loaded =
      inr (m, p, (record { module_text = loaded; problem_text = in_module m d names signature_is names_are (λ x y. IsProblem x y word p) h }, a))
