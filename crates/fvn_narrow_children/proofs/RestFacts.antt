-- What is told of a form whose normal form was sought.
use Rattle.std.proofs.Common.{◌≡◌, ◌≤◌, ◌<◌, ◌+◌, ℕ, List, [], ◌∷◌, ◌++◌, map, take, length, get_or, sym, ap, ◌∙◌, subst, arith}
use Rattle.std.specs.Prelude.{Contains}
use Rattle.std.specs.List.{AllZip}
use Rattle.std.proofs.lemmas.List.{take_all, map_more}
use Rattle.std.proofs.lemmas.List.Elements.{AllZip-push, Contains-get_or}
use Rattle.fvn_base.proofs.Membership.{contains_map}
use Rattle.fvn_forms.specs.Flat.{FlatTerm}
use Rattle.fvn_rewrite_laws.specs.Normalised.{IsReached, IsForm, IsUnfinished, IsTooLarge}
use Rattle.fvn_rewrite.specs.Usable.{Rewriting, equations_by}
use Rattle.fvn_narrow_children.specs.Growing.{IsFormOf, IsUnrested, IsOverlarge}

module _ (r : Rewriting) where
  pub form_of : (t u : FlatTerm) → IsForm r.signature (equations_by r) t r.bounds u → IsFormOf r t u
  form_of t u f = record { count = f.reached.count; reached = f.reached.reached; irreducible = f.irreducible; small = f.small }

  pub unrested : (Told : FlatTerm → Type 0) (t start end : FlatTerm) → Told t → IsUnfinished r.signature (equations_by r) t r.bounds start end → IsUnrested r Told start end
  unrested Told t start end told f = record {
    told = subst Told (sym f.is) told;
    reached = subst (λ s. IsReached r.signature (equations_by r) r.bounds.steps s end) (sym f.is) f.reached;
    reducible = f.reducible;
  }

  pub overlarge : (Told : FlatTerm → Type 0) (t end : FlatTerm) → Told t → IsTooLarge r.signature (equations_by r) t r.bounds end → IsOverlarge r Told end
  overlarge Told t end told f = record { start = t; told = told; count = f.reached.count; reached = f.reached.reached; large = let l = f.large in omega arith }

  -- the normal form of one more
  pub one_more_form : (g : FlatTerm → FlatTerm) (ts us : List FlatTerm) (i : ℕ) (t u : FlatTerm) → i < length ts → t ≡ get_or ts i t → AllZip (IsFormOf r) (map g (take i ts)) us → IsFormOf r (g t) u → AllZip (IsFormOf r) (map g (take (i + 1) ts)) (us ++ u ∷ [])
  one_more_form g ts us i t u within is h f =
      let more : map g (take (i + 1) ts) ≡ map g (take i ts) ++ g t ∷ [] = map_more g ts i t within ∙ ap (λ w. map g (take i ts) ++ g w ∷ []) (sym is) in
      subst (λ l. AllZip (IsFormOf r) l (us ++ u ∷ [])) (sym more) (AllZip-push (IsFormOf r) (map g (take i ts)) us (g t) u h f)

  pub all_forms : (g : FlatTerm → FlatTerm) (ts us : List FlatTerm) (i : ℕ) → length ts ≤ i → AllZip (IsFormOf r) (map g (take i ts)) us → AllZip (IsFormOf r) (map g ts) us
  all_forms g ts us i end h = subst (λ l. AllZip (IsFormOf r) (map g l) us) (take_all i ts end) h

-- what is told of a member is told of one of the list
pub told_at : (g : FlatTerm → FlatTerm) (ts : List FlatTerm) (i : ℕ) (t u : FlatTerm) → i < length ts → t ≡ get_or ts i t → u ≡ g t → Contains (map g ts) u
told_at g ts i t u within is e = subst (Contains (map g ts)) (sym e) (contains_map g ts t (subst (Contains ts) (sym is) (Contains-get_or ts i t within)))
