-- Laws of the order of sorts.
use Rattle.std.proofs.Common.{◌≡◌, refl, sym, ap, subst, ◌∙◌}
use Rattle.std.specs.List.{Contains}
use Rattle.fvn_terms.specs.declared.plain.SortId.{SortId}
use Rattle.fvn_terms.specs.declared.declarations.Declarations.{Declarations}
use Rattle.fvn_terms.specs.Signature.{kind, AtOrBelow, same, up, to_kind}
use Rattle.fvn_forms.specs.Good.{IsKinded}

module _ (d : Declarations) where
  pub AtOrBelow-trans : {s q r : SortId} → AtOrBelow d s q → AtOrBelow d q r → AtOrBelow d s r
  AtOrBelow-trans same k = k
  AtOrBelow-trans (up e h) k = up e (AtOrBelow-trans h k)
  AtOrBelow-trans (to_kind h) k = to_kind (AtOrBelow-trans h k)

  pub AtOrBelow-one : {s q : SortId} → Contains d.below (s, q) → AtOrBelow d s q
  AtOrBelow-one h = up h same

  pub AtOrBelow-kind : (s : SortId) → AtOrBelow d s (kind d s)
  AtOrBelow-kind s = to_kind same

  pub AtOrBelow-from_same : {s q : SortId} → s ≡ q → AtOrBelow d s q
  AtOrBelow-from_same {s} e = subst (AtOrBelow d s) e same

  module _ (kinded : IsKinded d) where
    -- sorts in order have one kind
    pub AtOrBelow-one_kind : {s q : SortId} → AtOrBelow d s q → kind d s ≡ kind d q
    AtOrBelow-one_kind same = refl
    AtOrBelow-one_kind (up {s} {q} e h) = kinded.ordered s q e ∙ AtOrBelow-one_kind h
    AtOrBelow-one_kind (to_kind {s} h) = sym (kinded.own s) ∙ AtOrBelow-one_kind h

    -- what is above a kind is the kind
    above_kind : {t r : SortId} → AtOrBelow d t r → (s : SortId) → kind d s ≡ t → t ≡ r
    above_kind same s e = refl
    above_kind (up {s = t} {q} c h) s e = absurd (kinded.top s q (subst (λ z. Contains d.below (z, q)) (sym e) c))
    above_kind (to_kind {s = t} h) s e =
        let same_kind : kind d t ≡ t = ap (kind d) (sym e) ∙ kinded.own s ∙ e in
        sym same_kind ∙ above_kind h t refl

    pub kind_is_greatest : (s r : SortId) → AtOrBelow d (kind d s) r → kind d s ≡ r
    kind_is_greatest s r h = above_kind h s refl

    pub AtOrBelow-antisym : ((s q : SortId) → Contains d.below (s, q) → AtOrBelow d q s → ⊥) → {s q : SortId} → AtOrBelow d s q → AtOrBelow d q s → s ≡ q
    AtOrBelow-antisym acyclic same k = refl
    AtOrBelow-antisym acyclic (up {s} {q = t} c h) k = absurd (acyclic s t c (AtOrBelow-trans h k))
    AtOrBelow-antisym acyclic (to_kind {s} {r = q} h) k =
        let e : kind d s ≡ q = kind_is_greatest s q h in
        let up_again : AtOrBelow d (kind d s) s = AtOrBelow-trans h k in
        sym (kind_is_greatest s s up_again) ∙ e
