-- Lists that have just the members with a property, each once.
use Rattle.std.proofs.Common.{◌≡◌, ◌≢◌, ◌⊎◌, List, [], ◌∷◌, ◌++◌, subst, inl, inr, Contains}
use Rattle.std.proofs.lemmas.List.Quantifiers.{all_pairs_push}
use Rattle.std.proofs.lemmas.List.Elements.{Contains-append_cases, Contains-push, All-contains_itself}
use Rattle.fvn_base.proofs.Membership.{contains_cases, contains_none}
use Rattle.fvn_purify.specs.Parts.{IsEach}
use Rattle.fvn_purify.proofs.Elements.{contains_left, all_pairs_none}

module _ {A : Type 0} where
  -- none has it
  pub each_none : (Has : A → Type 0) → ((x : A) → Has x → ⊥) → IsEach Has []
  each_none Has none = record { all = λ x. (λ h. absurd (contains_none x h), λ h. absurd (none x h)); once = all_pairs_none ◌≢◌ }

  -- another word for the same property
  pub each_same : (Has Other : A → Type 0) (list : List A) → ((x : A) → Has x → Other x) → ((x : A) → Other x → Has x) → IsEach Has list → IsEach Other list
  each_same Has Other list f g each = record { all = λ x. (λ h. f x ((each.all x).0 h), λ h. (each.all x).1 (g x h)); once = each.once }

  -- one more has it
  pub each_more : (Has Other : A → Type 0) (list : List A) (y : A) → IsEach Has list → (Has y → ⊥) → ((x : A) → Has x → Other x) → Other y → ((x : A) → Other x → Has x ⊎ (y ≡ x)) → IsEach Other (list ++ y ∷ [])
  each_more Has Other list y each new f own back = record {
    all = λ x. (
      λ h. elim (Contains-append_cases list (y ∷ []) x h) [
        | inl l ↦ f x ((each.all x).0 l)
        | inr r ↦ elim (contains_cases y [] x r) [ inl e ↦ subst Other e own | inr z ↦ absurd (contains_none x z) ]
      ],
      λ h. elim (back x h) [
        | inl old ↦ contains_left list (y ∷ []) x ((each.all x).1 old)
        | inr e ↦ subst (Contains (list ++ y ∷ [])) e (Contains-push list y)
      ],
    );
    once = all_pairs_push ◌≢◌ list y each.once (λ k d l e. new ((each.all y).0 (subst (Contains list) e (All-contains_itself list k d l))));
  }
