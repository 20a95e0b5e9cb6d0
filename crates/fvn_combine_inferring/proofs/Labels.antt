-- Labels: no other operator that uses the class makes its value a sum.
use Rattle.std.proofs.Common.{◌≡◌, ℕ, sym, ap, ◌∙◌, subst, inl, inr, All, Some}
use Rattle.std.specs.Prelude.{Bool}
use Rattle.std.proofs.lemmas.List.Elements.{All-contains}
use Rattle.fvn_terms.specs.declared.plain.OpId.{OpId}
use Rattle.fvn_terms.specs.declared.declarations.Declarations.{Declarations}
use Rattle.fvn_forms.specs.Flat.{FlatTerm}
use Rattle.fvn_flat.specs.Forms.{head_of}
use Rattle.fvn_combine_nodes.specs.Table.{NodeTable, IsWellMade}
use Rattle.fvn_combine_nodes.specs.States.{IsClosed, class_of}
use Rattle.fvn_combine_nodes.specs.declared.state.State.{State}
use Rattle.fvn_combine_leaves.specs.Leaves.{Uses}
use Rattle.fvn_combine_leaves.specs.Readings.{IsReading}
use Rattle.fvn_combine_leaves.specs.declared.reading.Reading.{Reading}
use Rattle.fvn_combine_leaves.proofs.ReadOfState.{entry_of, marked_to}
use Rattle.fvn_combine_bounds.specs.CombineCompleteObeying.{IsSumOrIdentityOf}
use Rattle.fvn_combine_inferring.specs.Inferred.{IsSumOfNoOther}
use Rattle.fvn_combine_inferring.specs.inner.Bounds.{IsOtherHead, HasEitherHead}
use Rattle.fvn_combine_inferring.specs.inner.Labels.{IsAside}

-- a form with another head is no sum, and not the identity
no_sum : (d : Declarations) (g o : OpId) (v : FlatTerm) → IsOtherHead d g o → head_of v ≡ Some o → IsSumOrIdentityOf d g v → ⊥
no_sum d g o v other head (inl (ts, is)) = other.0 (let z : Some o ≡ Some g = sym head ∙ ap head_of is in cc)
no_sum d g o v other head (inr (e, unit, is)) = other.1 (unit ∙ sym (ap head_of is) ∙ head)

-- a value that one of two operators heads is a sum of no operator that is aside
pub of_no_other : (d : Declarations) (t : NodeTable) → IsWellMade t → (s : State) → IsClosed d t s → (r : Reading) → IsReading d t (class_of s) r → (sorted : Bool) (k : ℕ) (p : OpId × OpId) → HasEitherHead d t s sorted k p → All (IsAside d (class_of s k) p) r.sums → IsSumOfNoOther d t s sorted p.0 k
of_no_other d t made s closed r reading sorted k p either aside values go g other uses is =
    let c = class_of s k in
    let a = entry_of d t made s closed r reading g c uses in
    let m = marked_to d t made s closed r reading a.entry a.listed c (subst (λ o. Uses d t (class_of s) o c) (sym a.operator) uses) in
    let h = All-contains (IsAside d c p) r.sums a.entry aside a.listed (λ e. other (sym a.operator ∙ e)) m in
    let first = subst (λ o. IsOtherHead d o p.0) a.operator h.0 in
    let second = subst (λ o. IsOtherHead d o p.1) a.operator h.1 in
    elim (either values go) [
      | inl x ↦ no_sum d g p.0 (values c) first x is
      | inr x ↦ no_sum d g p.1 (values c) second x is
    ]
