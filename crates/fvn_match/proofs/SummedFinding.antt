-- What is found for a pair whose pattern is a sum, by what is found for its summands.
use Rattle.std.proofs.Common.{◌≡◌, List, map, Option, Some, sym, ap, ◌∙◌}
use Rattle.std.specs.Prelude.{◌↔◌, Result, IfOk}
use Rattle.fvn_terms.specs.declared.plain.Var.{Var}
use Rattle.fvn_terms.specs.declared.plain.OpId.{OpId}
use Rattle.fvn_terms.specs.declared.declarations.Declarations.{Declarations}
use Rattle.fvn_terms.specs.Signature.{axioms}
use Rattle.fvn_terms.specs.Equality.{IsAssociative}
use Rattle.fvn_forms.specs.Flat.{FlatTerm}
use Rattle.fvn_forms.specs.InOrder.{count, SameCounts}
use Rattle.fvn_forms.specs.Canon.{parts, all_parts, inst}
use Rattle.fvn_forms.specs.FitsKinds.{FitsKinds}
use Rattle.fvn_forms.proofs.Instances.{inst_parts_iff}
use Rattle.fvn_flat.specs.Forms.{head_of, args_of}
use Rattle.fvn_flat.specs.Bindings.{Bindings}
use Rattle.fvn_match.specs.inner.Tallies.{tally}
use Rattle.fvn_match.specs.inner.Summands.{references, IsCounted}
use Rattle.fvn_match.specs.inner.Candidates.{Values, IsCandidate, IsSolution, Finds}
use Rattle.fvn_match.specs.inner.Goals.{SumHolds, SumsHold, Asked, IsPair}
use Rattle.fvn_match.specs.declared.goals.Goals.{Goals}
use Rattle.fvn_match.specs.declared.goals.SumGoal.{SumGoal}
use Rattle.fvn_match.specs.declared.summands.Counted.{Counted}
use Rattle.fvn_match.proofs.Finding.{if_found_same}
use Rattle.fvn_match.proofs.SumSteps.{asked_more, summands_of, count_summands-same}
use Rattle.fvn_match.proofs.SumFitting.{parts_are_args}

module _ (d : Declarations) (fits : FitsKinds d) (f : OpId) (assoc : IsAssociative (axioms d f)) (p t : FlatTerm) (pair : IsPair d p t) (head : head_of p ≡ Some f)
    (goal : SumGoal) (op_is : goal.op ≡ f) (same : SameCounts (references goal.patterns.now) (args_of p)) (r : Counted) (counted : IsCounted (parts d f t) r) (pieces_are : goal.pieces.now ≡ r.pieces.items) (left_is : goal.left.now ≡ r.left.items) where
  pattern_counts : (c : Values) (q : FlatTerm) → count q (summands_of d f c (references goal.patterns.now)) ≡ count q (all_parts d f (map (inst d c) (parts d f p)))
  pattern_counts c q =
      count_summands-same d f c q (references goal.patterns.now) (args_of p) same
      ∙ ap (λ l. count q (summands_of d f c l)) (sym (parts_are_args d fits f assoc p pair.pattern pair.of_kind pair.pattern_kind head))

  target_counts : (q : FlatTerm) → tally q (references goal.pieces.now) goal.left.now ≡ count q (parts d f t)
  target_counts q = ap (λ l. tally q (references l) goal.left.now) pieces_are ∙ ap (λ ns. tally q (references r.pieces.items) ns) left_is ∙ counted.counts q

  sum_asks : (c : Values) → IsCandidate d c → SumHolds d goal c ↔ (inst d c p ≡ t)
  sum_asks c k =
      let iff = inst_parts_iff d c k.flat.settled f assoc p t pair.pattern pair.target in (
        λ h. iff.1 (λ q. sym (pattern_counts c q) ∙ ap (λ o. count q (summands_of d o c (references goal.patterns.now))) (sym op_is) ∙ h q ∙ target_counts q),
        λ e q. ap (λ o. count q (summands_of d o c (references goal.patterns.now))) op_is ∙ pattern_counts c q ∙ iff.0 e q ∙ sym (target_counts q),
      )

  pub found_summed : (b : Bindings) (vars : List Var) (rest : Goals) (more sums : List SumGoal) → {E : Type 0} (found : Result (Option Bindings) E) →
      IfOk found (Finds vars (IsSolution d b (Asked d rest more))) → ((c : Values) → SumsHold d more c ↔ (SumHolds d goal c × SumsHold d sums c)) → IfOk found (Finds vars (IsSolution d b (λ c. (inst d c p ≡ t) × Asked d rest sums c)))
  found_summed b vars rest more sums found h split =
      if_found_same vars d b (Asked d rest more) (λ c. (inst d c p ≡ t) × Asked d rest sums c)
      (λ c k a. asked_more d rest more sums (inst d c p ≡ t) c (λ w. let x = (split c).0 w in ((sum_asks c k).0 x.0, x.1), λ w. (split c).1 ((sum_asks c k).1 w.0, w.1))) found h
