-- Over sorts that give the same results as first arguments, sums depend on their brackets alike.
use Rattle.std.proofs.Common.{◌≡◌, ℕ, ◌<◌, [], ◌∷◌, length, sym, ap, subst, ◌∙◌, arith}
use Rattle.fvn_terms.specs.declared.plain.OpId.{OpId}
use Rattle.fvn_terms.specs.declared.plain.SortId.{SortId}
use Rattle.fvn_terms.specs.declared.declarations.Declarations.{Declarations}
use Rattle.fvn_forms.specs.Good.{IsKinded, Associates}
use Rattle.fvn_forms.specs.Ranks.{result}
use Rattle.fvn_sorts.specs.declared.conditions.brackets.Triple.{Triple}
use Rattle.fvn_sorts.specs.inner.Searches.{AreListed, AreTwins, HasTwin, AreBad}
use Rattle.fvn_sorts.proofs.LowestResults.{of_kind_listed}

module _ (d : Declarations) (f : OpId) (n : ℕ) (listed : AreListed d f n) where
  twin_associates : (w s q r : SortId) → q.0 < n → r.0 < n → AreTwins d f n w s → Associates d f w q r → Associates d f s q r
  twin_associates w s q r l m twins h =
      let x : SortId = result d f (q ∷ r ∷ []) in
      ap (λ z. result d f (z ∷ r ∷ [])) (sym (twins q l)) ∙ h ∙ twins x (listed q l r m)

  pub twin_bad : IsKinded d → n ≡ length d.kinds → (k : SortId) → k.0 < n → (s : SortId) (w : HasTwin d f n k s) (t : Triple) → t.first ≡ s → AreBad d f k t → AreBad d f k record { first = w.0; second = t.second; third = t.third }
  twin_bad kinded e k l s w t is h =
      let within : k.0 < length d.kinds = omega arith in
      let second : t.second.0 < length d.kinds = of_kind_listed d kinded k t.second within h.1.0 in
      let third : t.third.0 < length d.kinds = of_kind_listed d kinded k t.third within h.1.1.0 in
      (w.1.1.0, (h.1.0, (h.1.1.0, λ a. h.1.1.1 (subst (λ z. Associates d f z t.second t.third) (sym is) (twin_associates w.0 s t.second t.third (omega arith) (omega arith) w.1.1.1 a)))))
