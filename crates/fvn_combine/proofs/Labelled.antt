-- What is noted of classes is obeyed by all values that go with a state.
use Rattle.std.proofs.Common.{◌≡◌, ◌<◌, List, ◌∷◌, [], ◌++◌, length, sym, ◌∙◌, subst, inl, inr, arith, Option, Some, None}
use Rattle.std.specs.Prelude.{◌⊎◌, IfSome}
use Rattle.std.proofs.lemmas.Bool.{cases_order}
use Rattle.std.proofs.lemmas.List.{get_or_past, get_or_push, get_or_append_left, length_push}
use Rattle.fvn_terms.specs.declared.plain.OpId.{OpId}
use Rattle.fvn_combine_nodes.specs.States.{class_of}
use Rattle.fvn_combine_nodes.specs.declared.state.State.{State}
use Rattle.fvn_combine_leaves.specs.Leaves.{AreLabels}
use Rattle.fvn_combine_drawing.specs.CombineCompleteObeying.{IsOfNoOther}
use Rattle.fvn_combine_inferring.specs.Inferred.{TellHeads, TellLabels}
use Rattle.fvn_combine.specs.Tasks.{Combining}
use Rattle.fvn_combine.specs.inner.Labels.{IsHeadOrCandidate, AreCandidates}

module _ (k : Combining) (s : State) (heads : List (Option OpId)) where
  -- labels that are noted in heads, or candidates for which the classes have room, are obeyed
  pub labels_told : TellHeads k.declarations k.table s k.sorted heads → (candidates labels : List (Option OpId)) → AreCandidates k s heads candidates → AreLabels k.declarations k.table s heads candidates labels → TellLabels k.declarations k.table s k.sorted labels
  labels_told tell candidates labels known are values go x f within noted =
      elim (are x f noted.noted) [
        | inl head ↦ inl (tell.joined x f within head noted.some values go)
        | inr new ↦ elim (known x f new.0) [
          | inl head ↦ inl (tell.joined x f within head noted.some values go)
          | inr candidate ↦ inr (record {
            neutral = candidate.neutral;
            room = new.1;
            other = subst (λ y. IsOfNoOther k.declarations k.table (class_of s) f y (values y)) candidate.named (candidate.other values go);
          })
        ]
      ]

  -- one more node
  pub candidates_pushed : (xs : List (Option OpId)) (o : Option OpId) → AreCandidates k s heads xs → IfSome o (IsHeadOrCandidate k s heads (length xs)) → AreCandidates k s heads (xs ++ o ∷ [])
  candidates_pushed xs o known here x f e = go (cases_order x (length xs))
    where
      go : (x ≡ length xs) ⊎ ((x < length xs) ⊎ (length xs < x)) → IsHeadOrCandidate k s heads x f
      go (inl at) =
          let is : o ≡ Some f = sym (get_or_push xs o None x (sym at)) ∙ e in
          subst (λ y. IsHeadOrCandidate k s heads y f) (sym at) (subst (λ q. IfSome q (IsHeadOrCandidate k s heads (length xs))) is here)
      go (inr (inl below)) = known x f (sym (get_or_append_left xs (o ∷ []) None x below) ∙ e)
      go (inr (inr above)) =
          let m = length_push xs o in
          let none : None ≡ Some f = sym (get_or_past (xs ++ o ∷ []) x None (omega (arith, m, above))) ∙ e in
          cc
