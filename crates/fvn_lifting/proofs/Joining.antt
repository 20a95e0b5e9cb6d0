-- Where two instances meet, one substitution has both, and it follows a unifier.
use Rattle.std.proofs.Common.{◌≡◌, ◌⊎◌, ℕ, List, [], ◌∷◌, ◌++◌, sym, subst, inl, inr}
use Rattle.std.specs.List.{All, Any, Contains}
use Rattle.std.proofs.lemmas.List.Elements.{All-nil, All-cons, Contains-append_left, Contains-append_right, Contains-append_cases}
use Rattle.fvn_base.specs.Decided.{Decided}
use Rattle.fvn_base.proofs.Membership.{contains_none}
use Rattle.fvn_terms.specs.declared.plain.Var.{Var}
use Rattle.fvn_terms.specs.declared.declarations.Declarations.{Declarations}
use Rattle.fvn_terms.specs.Term.{Term}
use Rattle.fvn_terms.specs.Substitution.{Substitution, apply, Occurs}
use Rattle.fvn_terms.specs.Places.{stop}
use Rattle.fvn_terms.specs.Equality.{BEqual}
use Rattle.fvn_terms.specs.Sorts.{IsWellSorted}
use Rattle.fvn_terms.specs.Unifiers.{Problem, IsUnifier, IsInstance}
use Rattle.fvn_terms.proofs.Substitutions.{apply-agree}
use Rattle.fvn_flat.specs.Problems.{variables, variables_of}
use Rattle.fvn_flat.specs.OneAnswer.{IsCompleteFor}
use Rattle.fvn_flat.proofs.VariableLists.{variables_list, variables_occur}
use Rattle.fvn_lifting.specs.Meetings.{IsNew, ShareNone, IsOverNew, Meet, ComeFrom}
use Rattle.fvn_lifting.proofs.Chosen.{chosen, chosen_if, chosen_unless, occurs_or_not, new_or_not, any_with, stands_at, sorted_each, chosen_stands}

module _ (d : Declarations) (first : ℕ) (t u : Term) (apart : ShareNone t u) (s c : Substitution) (meet : Meet d t u s c) where
  abbrev problem : Problem
  problem = (t, u) ∷ []

  left_variable : (x : Var) → Occurs x t → Contains (variables_of problem) x
  left_variable x o = Contains-append_left (variables t ++ variables u) [] x (Contains-append_left (variables t) (variables u) x (variables_list x t o))

  right_variable : (x : Var) → Occurs x u → Contains (variables_of problem) x
  right_variable x o = Contains-append_left (variables t ++ variables u) [] x (Contains-append_right (variables t) (variables u) x (variables_list x u o))

  sides_only : (x : Var) → Contains (variables_of problem) x → Occurs x t ⊎ Occurs x u
  sides_only x h = whole (Contains-append_cases (variables t ++ variables u) [] x h) where
    side : Contains (variables t) x ⊎ Contains (variables u) x → Occurs x t ⊎ Occurs x u
    side (inl a) = inl (variables_occur x t a)
    side (inr b) = inr (variables_occur x u b)

    whole : Contains (variables t ++ variables u) x ⊎ Contains [] x → Occurs x t ⊎ Occurs x u
    whole (inl l) = side (Contains-append_cases (variables t) (variables u) x l)
    whole (inr r) = absurd (contains_none x r)

  -- the values of c on the second term, and those of s elsewhere
  abbrev both : Substitution
  both x = chosen (occurs_or_not x u) (c x) (s x)

  both_sorted : IsWellSorted d both
  both_sorted = sorted_each d both (λ x. chosen_stands d (occurs_or_not x u) x.sort (c x) (s x) (λ o. stands_at d c meet.right x) (λ n. stands_at d s meet.left x))

  both_outside : (x : Var) → (Occurs x u → ⊥) → both x ≡ s x
  both_outside x n = chosen_unless (occurs_or_not x u) (c x) (s x) n

  both_within : (x : Var) → Occurs x u → both x ≡ c x
  both_within x o = chosen_if (occurs_or_not x u) (c x) (s x) o

  left_is : apply both t ≡ apply s t
  left_is = apply-agree both s t (λ x o. both_outside x (apart x o))

  right_is : apply both u ≡ apply c u
  right_is = apply-agree both c u both_within

  abbrev IsMade : Term × Term → Type 0
  IsMade p = BEqual d (apply both p.0) (apply both p.1)

  both_unify : IsUnifier d problem both
  both_unify = (
    both_sorted,
    All-cons IsMade (t, u) [] (subst (λ a. BEqual d a (apply both u)) (sym left_is) (subst (BEqual d (apply s t)) (sym right_is) meet.equal)) (All-nil IsMade),
  )

  module _ (unifier : Substitution) (instance_of : IsInstance d (variables_of problem) both unifier) (over : IsOverNew first problem unifier) where
    -- what follows the unifier on new variables, and s elsewhere
    abbrev after : Substitution
    after x = chosen (new_or_not first x) (instance_of.after x) (s x)

    after_sorted : IsWellSorted d after
    after_sorted = sorted_each d after (λ x. chosen_stands d (new_or_not first x) x.sort (instance_of.after x) (s x) (λ o. stands_at d instance_of.after instance_of.well_sorted x) (λ n. stands_at d s meet.left x))

    at_variable : (x : Var) → Contains (variables_of problem) x → BEqual d (both x) (apply after (unifier x))
    at_variable x h =
        subst (BEqual d (both x))
        (sym (apply-agree after instance_of.after (unifier x) (λ y o. chosen_if (new_or_not first y) (instance_of.after y) (s y) (over.new y (x, h, o)))))
        (instance_of.equal x h)

    outside : (x : Var) → (Occurs x u → ⊥) → (IsNew first x → ⊥) → BEqual d (s x) (apply after (unifier x))
    outside x n old = go (occurs_or_not x t) where
      neither : (Occurs x t → ⊥) → Contains (variables_of problem) x → ⊥
      neither m h = elim (sides_only x h) as (λ _. ⊥) [ inl a ↦ m a | inr b ↦ n b ]

      go : Decided (Occurs x t) → BEqual d (s x) (apply after (unifier x))
      go (inl o) = subst (λ a. BEqual d a (apply after (unifier x))) (both_outside x n) (at_variable x (left_variable x o))
      go (inr m) =
          subst (λ a. BEqual d (s x) (apply after a)) (sym (over.others_stay x (neither m)))
          (subst (BEqual d (s x)) (sym (chosen_unless (new_or_not first x) (instance_of.after x) (s x) old)) stop)

    pub come_from : ComeFrom d first u s c unifier
    come_from = record {
      by = after;
      well_sorted = after_sorted;
      outside = outside;
      within = λ x o. subst (λ a. BEqual d a (apply after (unifier x))) (both_within x o) (at_variable x (right_variable x o));
    }

  pub comes_from_some : (unifiers : List Substitution) → IsCompleteFor d problem unifiers → All (IsOverNew first problem) unifiers → Any (ComeFrom d first u s c) unifiers
  comes_from_some unifiers complete over =
      any_with (IsInstance d (variables_of problem) both) (IsOverNew first problem) (ComeFrom d first u s c) come_from unifiers over (complete.complete both both_unify)
