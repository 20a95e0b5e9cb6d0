-- What is found for one choice of pieces for a group of patterns.
use Rattle.std.proofs.Common.{◌≡◌, ℕ, ◌≤◌, true, List, [], length, drop, Option, Some, None, refl, sym, ap, ◌∙◌, subst, arith}
use Rattle.std.specs.Prelude.{◌↔◌, Result, IfOk, sum as std_sum}
use Rattle.std.specs.List.{AllByRecursion}
use denote.Ref.{Bor}
use Rattle.std.proofs.lemmas.List.{nil_from_length}
use Rattle.fvn_terms.specs.declared.plain.Var.{Var}
use Rattle.fvn_terms.specs.declared.plain.OpId.{OpId}
use Rattle.fvn_terms.specs.declared.declarations.Declarations.{Declarations}
use Rattle.fvn_terms.specs.Signature.{kind, axioms, HasKind}
use Rattle.fvn_forms.specs.Flat.{FlatTerm, fapp, fnone, plain}
use Rattle.fvn_forms.specs.InOrder.{count}
use Rattle.fvn_forms.specs.Canon.{sum, inst, empty_sum}
use Rattle.fvn_terms.specs.Equality.{identity}
use Rattle.fvn_forms.specs.Settled.{IsPiece, Settled}
use Rattle.fvn_forms.specs.FitsKinds.{FitsKinds}
use Rattle.fvn_forms.proofs.Build.{HasIdentity}
use Rattle.fvn_forms.proofs.Instances.{inst_settled}
use Rattle.fvn_flat.specs.Bindings.{Bindings}
use Rattle.fvn_match.specs.inner.Choices.{reduced}
use Rattle.fvn_match.specs.inner.Tallies.{repeated, AddsUp}
use Rattle.fvn_match.specs.inner.Summands.{references}
use Rattle.fvn_match.specs.inner.Candidates.{Values, IsSolution, Finds}
use Rattle.fvn_match.specs.inner.Goals.{patterns_of, pieces_of, SumHolds, SumsHold, ChoiceAsked, IsPair, IsFlatOf, SumFits}
use Rattle.fvn_match.specs.inner.Searching.{IsWhole}
use Rattle.fvn_match.specs.inner.Refusing.{NeverMakes}
use Rattle.fvn_match.specs.declared.goals.SumGoal.{SumGoal}
use Rattle.fvn_match.proofs.Tallies.{each_repeated, length_repeated}
use Rattle.fvn_match.proofs.Runs.{references-drop, length_references}
use Rattle.fvn_match.proofs.Finding.{if_found_same}
use Rattle.fvn_match.proofs.SumSteps.{length_reduced, reduced_fewer}
use Rattle.fvn_match.proofs.SumFitting.{smaller_fits, count_drop_le, whole_settled, whole_of_kind}

module _ (d : Declarations) (goal : SumGoal) (fit : SumFits d goal) (chosen : List ℕ) (sized : length chosen ≡ length goal.left.now) where
  long : length chosen ≡ length (pieces_of goal)
  long = sized ∙ fit.long ∙ sym (length_references goal.pieces.now)

  none_chosen : std_sum chosen ≡ 0 → repeated (pieces_of goal) chosen ≡ []
  none_chosen e = nil_from_length (repeated (pieces_of goal) chosen) (length_repeated (pieces_of goal) chosen long ∙ e)

  -- without pieces there is no sum, where there is no identity
  no_sum : std_sum chosen ≡ 0 → identity (axioms d goal.op) ≡ None → sum d goal.op (repeated (pieces_of goal) chosen) ≡ fapp goal.op true fnone
  no_sum e i = ap (sum d goal.op) (none_chosen e) ∙ ap (empty_sum d goal.op) i

  never_settled : Settled d (fapp goal.op true fnone) → ⊥
  never_settled s = let two : 2 ≤ 0 = s.0.two_or_more in omega arith

  module _ (b : Bindings) (vars : List Var) (p : FlatTerm) (k : ℕ) (sums : List SumGoal) where
    pub refused_whole : IsWhole d goal chosen None → Finds vars (IsSolution d b (ChoiceAsked d goal p k chosen sums)) None
    refused_whole w c s = never_settled (subst (Settled d) (s.holds.0 ∙ no_sum w.0 w.1) (inst_settled d c s.candidate.flat.settled p))

    -- a choice that has a sum
    module _ (t : FlatTerm) (w : IsWhole d goal chosen (Some t)) where
      has_identity : repeated (pieces_of goal) chosen ≡ [] → HasIdentity d goal.op
      has_identity none = go (identity (axioms d goal.op)) refl
        where
          go : (o : Option OpId) → identity (axioms d goal.op) ≡ o → HasIdentity d goal.op
          go None e = absurd (let x = w.1 e in let y = ap length none in let z = length_repeated (pieces_of goal) chosen long in omega arith)
          go (Some e) q = (e, q)

      flat : AllByRecursion (IsFlatOf d (kind d fit.rank.result)) (repeated (pieces_of goal) chosen)
      flat = each_repeated (IsFlatOf d (kind d fit.rank.result)) (pieces_of goal) chosen fit.pieces

      pieces : AllByRecursion (IsPiece d goal.op) (repeated (pieces_of goal) chosen)
      pieces = each_repeated (IsPiece d goal.op) (pieces_of goal) chosen fit.each_is_one

      pub whole_pair : FitsKinds d → IsFlatOf d (kind d fit.rank.result) p → IsPair d p t
      whole_pair fits flat_p = record {
        pattern = flat_p.flat;
        target = subst (Settled d) (sym w.0) (whole_settled d fits goal.op fit.associative fit.rank fit.listed (repeated (pieces_of goal) chosen) flat pieces has_identity);
        of_kind = kind d fit.rank.result;
        pattern_kind = flat_p.has_kind;
        target_kind = subst (λ u. HasKind d (plain u) (kind d fit.rank.result)) (sym w.0) (whole_of_kind d fits goal.op fit.associative fit.rank fit.listed (repeated (pieces_of goal) chosen) flat pieces has_identity);
      }

      pub refused_made : NeverMakes d b p t → Finds vars (IsSolution d b (ChoiceAsked d goal p k chosen sums)) None
      refused_made never c s = never c s.candidate s.agrees (s.holds.0 ∙ sym w.0)

      -- and what is left
      module _ (patterns : Bor (List (Bor FlatTerm))) (are : patterns.now ≡ drop k goal.patterns.now) (left : Bor (List ℕ)) (left_is : left.now ≡ reduced k goal.left.now chosen) (seen : ℕ) where
        named : references patterns.now ≡ drop k (patterns_of goal)
        named = ap references are ∙ references-drop k goal.patterns.now

        pub left_fits : SumFits d (record { op = goal.op; patterns = patterns; pieces = goal.pieces; left = left; seen = seen })
        left_fits =
            smaller_fits d goal fit patterns (λ q some. let x = ap (count q) named in let y = count_drop_le q k (patterns_of goal) in omega arith) left
            (ap length left_is ∙ length_reduced k goal.left.now chosen sized) (let x = ap std_sum left_is in let y = reduced_fewer k goal.left.now chosen in omega arith) seen

        left_asked : (c : Values) → SumHolds d (record { op = goal.op; patterns = patterns; pieces = goal.pieces; left = left; seen = seen }) c ↔ AddsUp d goal.op (drop k (patterns_of goal)) (pieces_of goal) (reduced k goal.left.now chosen) c
        left_asked c =
            subst (λ l. AddsUp d goal.op (references patterns.now) (pieces_of goal) left.now c ↔ AddsUp d goal.op l (pieces_of goal) (reduced k goal.left.now chosen) c) named
            (subst (λ l. AddsUp d goal.op (references patterns.now) (pieces_of goal) left.now c ↔ AddsUp d goal.op (references patterns.now) (pieces_of goal) l c) left_is (λ h. h, λ h. h))

        pub found_whole : {E : Type 0} (r : Result (Option Bindings) E) →
            IfOk r (Finds vars (IsSolution d b (λ c. (inst d c p ≡ t) × (SumHolds d (record { op = goal.op; patterns = patterns; pieces = goal.pieces; left = left; seen = seen }) c × SumsHold d sums c)))) →
            IfOk r (Finds vars (IsSolution d b (ChoiceAsked d goal p k chosen sums)))
        found_whole r f =
            if_found_same vars d b (λ c. (inst d c p ≡ t) × (SumHolds d (record { op = goal.op; patterns = patterns; pieces = goal.pieces; left = left; seen = seen }) c × SumsHold d sums c)) (ChoiceAsked d goal p k chosen sums)
            (λ c h a. (λ x. (x.0 ∙ w.0, ((left_asked c).0 x.1.0, x.1.1)), λ x. (x.0 ∙ sym w.0, ((left_asked c).1 x.1.0, x.1.1)))) r f
