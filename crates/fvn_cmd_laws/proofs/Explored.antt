-- What is promised of answers over an exploration follows from how they ended.
use Rattle.std.proofs.Common.{◌≡◌, ◌⊎◌, ℕ, zero, suc, List, [], ◌∷◌, map, length, Option, Some, None, refl, sym, ap, ◌∙◌, subst, inl, inr, arith}
use Rattle.std.specs.Prelude.{Any, Contains}
use Rattle.std.proofs.lemmas.List.Elements.{All-contains}
use Rattle.fvn_base.proofs.Membership.{contains_none}
use Rattle.fvn_flat.specs.Drawn.{IsDrawn}
use Rattle.fvn_flat.specs.Solving.{substitution}
use Rattle.fvn_problems.specs.declared.problem.Problem.{Problem}
use Rattle.fvn_problems.specs.declared.query.Query.{Query}
use Rattle.fvn_module.specs.Contents.{Contents}
use Rattle.fvn_exploring.specs.declared.ends.ExploreEnd.{ExploreEnd}
use Rattle.fvn_exploring.specs.declared.ends.ExploreEnd.TheVariants.{Complete, Levels, Variants, Steps, Size, Basis, Unifiers}
use Rattle.fvn_exploring.specs.Ends.{explore_end}
use Rattle.fvn_closure.specs.Closing.{reached_of}
use Rattle.fvn_vunify.specs.Causes.{IsPairsCause, MeetsBound}
use Rattle.fvn_vunify.specs.Solved.{StopsAtPairs}
use Rattle.fvn_cmd.specs.declared.status.Status.{Status}
use Rattle.fvn_cmd.specs.declared.status.Status.TheVariants.{Nothing, Ended}
use Rattle.fvn_answer.specs.declared.end.End.TheVariants.{Complete as Told}
use Rattle.fvn_cmd.specs.Ends.{status_of_end}
use Rattle.fvn_cmd_words.specs.declared.reach.Reach.{Reach}
use Rattle.fvn_cmd_exploring.specs.Searches.{setting_of}
use Rattle.fvn_cmd_exploring.specs.Ends.{end_told}
use Rattle.fvn_cmd_variants.specs.Solutions as of_terms
use Rattle.fvn_cmd_variants.specs.Replies as of_terms_reply
use Rattle.fvn_cmd_vunify.specs.Asked.{IsTheoryInstanceOf}
use Rattle.fvn_cmd_vunify.specs.Solutions as modulo
use Rattle.fvn_cmd_vunify.specs.Replies as modulo_reply
use Rattle.fvn_cmd_laws.specs.Explored.{IsEndExact, IsVariantsExact, IsTheoryExact}
use Rattle.fvn_cmd_laws.specs.Laws.{ExploredAnswersAreExact}

complete_or_not : (e : ExploreEnd) → (e ≡ Complete) ⊎ (e ≡ Complete → ⊥)
complete_or_not Complete = inl refl
complete_or_not (Levels v) = inr (λ e. cc)
complete_or_not (Variants v) = inr (λ e. cc)
complete_or_not (Steps from to) = inr (λ e. cc)
complete_or_not (Size cause) = inr (λ e. cc)
complete_or_not (Basis f system) = inr (λ e. cc)
complete_or_not (Unifiers given list) = inr (λ e. cc)

-- a status that is not Ended comes of the complete end alone, where no equation loses a sort
not_ended : (reach : Reach) (e : ExploreEnd) (loss : Option ℕ) (count : ℕ) → (status_of_end (end_told reach e loss count) ≡ Ended → ⊥) → (e ≡ Complete) × (loss ≡ None)
not_ended reach Complete None count h = (refl, refl)
not_ended reach Complete (Some n) count h = absurd (h refl)
not_ended reach (Levels v) loss count h = absurd (h refl)
not_ended reach (Variants v) loss count h = absurd (h refl)
not_ended reach (Steps from to) loss count h = absurd (h refl)
not_ended reach (Size cause) loss count h = absurd (h refl)
not_ended reach (Basis f system) loss count h = absurd (h refl)
not_ended reach (Unifiers given list) loss count h = absurd (h refl)

whole_not_ended : (reach : Reach) (e : ExploreEnd) (loss : Option ℕ) (count : ℕ) → e ≡ Complete → loss ≡ None → status_of_end (end_told reach e loss count) ≡ Ended → ⊥
whole_not_ended reach e loss count is none h =
    complete_not_ended count (ap (λ x. status_of_end (end_told reach x None count)) (sym is) ∙ ap (λ x. status_of_end (end_told reach e x count)) (sym none) ∙ h)
  where
    complete_not_ended : (n : ℕ) → status_of_end (Told n) ≡ Ended → ⊥
    complete_not_ended zero h = cc
    complete_not_ended (suc n) h = cc

-- a status that is Nothing comes of the complete end alone, where no equation loses a sort and no line was found
nothing_ended : (reach : Reach) (e : ExploreEnd) (loss : Option ℕ) (count : ℕ) → status_of_end (end_told reach e loss count) ≡ Nothing → (e ≡ Complete) × (loss ≡ None) × (count ≡ 0)
nothing_ended reach Complete None zero h = (refl, refl, refl)
nothing_ended reach Complete None (suc n) h = cc
nothing_ended reach Complete (Some n) count h = cc
nothing_ended reach (Levels v) loss count h = cc
nothing_ended reach (Variants v) loss count h = cc
nothing_ended reach (Steps from to) loss count h = cc
nothing_ended reach (Size cause) loss count h = cc
nothing_ended reach (Basis f system) loss count h = cc
nothing_ended reach (Unifiers given list) loss count h = cc

-- a list of no elements
none_of : {A : Type 0} (list : List A) → length list ≡ 0 → list ≡ []
none_of [] e = refl
none_of (x ∷ list) e = absurd (omega (arith, e))

mapped_none : {A B : Type 0} (f : A → B) (list : List A) → map f list ≡ [] → length list ≡ 0
mapped_none f [] e = refl
mapped_none f (x ∷ list) e = cc

module _ (reach : Reach) (e : ExploreEnd) (loss : Option ℕ) {A B : Type 0} (f : A → B) (list : List A) (s : Status) (is : s ≡ status_of_end (end_told reach e loss (length list))) where
  nothing_of : e ≡ Complete → loss ≡ None → map f list ≡ [] → s ≡ Nothing
  nothing_of whole none empty =
      is
      ∙ ap (λ x. status_of_end (end_told reach x loss (length list))) whole
      ∙ ap (λ x. status_of_end (end_told reach Complete x (length list))) none
      ∙ ap (λ n. status_of_end (Told n)) (mapped_none f list empty)

  nothing_found : s ≡ Nothing → (e ≡ Complete) × (loss ≡ None) × (map f list ≡ [])
  nothing_found h =
      let n = nothing_ended reach e loss (length list) (sym is ∙ h) in
      (n.0, n.1, ap (map f) (none_of list n.2))

  exact : IsEndExact s ((e ≡ Complete) × (loss ≡ None)) (map f list)
  exact = record {
    whole = (λ h. not_ended reach e loss (length list) (λ k. h (is ∙ k)), λ w h. whole_not_ended reach e loss (length list) w.0 w.1 (sym is ∙ h));
    nothing = (λ h. let n = nothing_found h in ((n.0, n.1), n.2), λ w. nothing_of w.0.0 w.0.1 w.1);
  }

variants_exact : (m : Contents) (t : Query) (reach : Reach) (s : Status) (u : List ℕ) (a : of_terms_reply.IsAnswer m t reach s u) → IsVariantsExact s a.found
variants_exact m t reach s u a = exact reach a.found.explored.end a.found.loss reached_of a.found.explored.variants s a.status_is

theory_exact : (m : Contents) (p : Problem) (reach : Reach) (s : Status) (u : List ℕ) (a : modulo_reply.IsAnswer m p reach s u) → IsTheoryExact m p s a.found
theory_exact m p reach s u a =
    let end : IsEndExact s (modulo.IsWhole a.found) (modulo.values a.found) = exact reach a.found.solved.end a.found.loss substitution a.found.solved.unifiers s a.status_is in
    record {
      end = end;
      none = λ e trusted c is.
          let n = end.nothing.0 e in
          let some : Any (IsTheoryInstanceOf m p c) (modulo.values a.found) = (a.solution.headline.all n.0 trusted).complete c is in
          contains_none some.1 (subst (λ l. Contains l some.1) n.1 (some.0, some.2, some.3));
    }

-- where no bound is met, the search came to its end
module _ (m : Contents) (p : Problem) (reach : Reach) (found : modulo.Found) (own : modulo.IsOfExploration m p reach found) (stays : modulo.StaysWithinBounds m p reach found) where
  explored_whole : found.explored.end ≡ Complete
  explored_whole = stays.explored found.explored.end own.explored.cause

  no_stop : StopsAtPairs (setting_of m reach) (IsDrawn m.signature) found.explored found.solved.end → (found.solved.end ≡ Complete → ⊥) → ⊥
  no_stop stop not_complete =
      let a : Any (λ v. IsPairsCause (setting_of m reach) (IsDrawn m.signature) v stop.stop) found.explored.variants = stop.cause in
      All-contains (λ v. MeetsBound (setting_of m reach) (IsDrawn m.signature) v → ⊥) found.explored.variants a.1 stays.pairs (a.0, a.2, a.3)
      (record { end = stop.stop; not_whole = λ e. not_complete (stop.is ∙ ap explore_end e); cause = a.4 })

whole_within : (m : Contents) (p : Problem) (reach : Reach) (found : modulo.Found) → modulo.IsSolution m p reach found → modulo.StaysWithinBounds m p reach found → modulo.IsSolvedWhole found
whole_within m p reach found solution stays = go solution.source (complete_or_not found.solved.end) where
  go : modulo.IsOfExploration m p reach found ⊎ modulo.IsOfEqualSides m p reach found → (found.solved.end ≡ Complete) ⊎ (found.solved.end ≡ Complete → ⊥) → modulo.IsSolvedWhole found
  go (inr own) d = own.solved.end
  go (inl own) (inl e) = e
  go (inl own) (inr n) = absurd (no_stop m p reach found own stays (own.solved.cause (explored_whole m p reach found own stays) n) n)

pub explored_exact : ExploredAnswersAreExact
explored_exact = record { variants = variants_exact; unifiers = theory_exact; within = whole_within }
