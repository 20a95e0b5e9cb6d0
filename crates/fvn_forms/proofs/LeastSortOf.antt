-- The least sort of a term from the least sorts and the flat forms of its arguments.
use Rattle.std.proofs.Common.{◌≡◌, List, [], ◌∷◌, map, Some, None, ap, ◌∙◌}
use Rattle.std.specs.List.{AllByRecursion}
use Rattle.fvn_terms.specs.declared.plain.OpId.{OpId}
use Rattle.fvn_terms.specs.declared.plain.SortId.{SortId}
use Rattle.fvn_terms.specs.declared.declarations.Declarations.{Declarations}
use Rattle.fvn_terms.specs.Term.{Term, Terms, app}
use Rattle.fvn_terms.specs.Signature.{axioms, HasKind}
use Rattle.fvn_terms.specs.Equality.{two, IsAssociative, identity}
use Rattle.fvn_forms.specs.Flat.{FlatTerm, fvar}
use Rattle.fvn_forms.specs.Canon.{as_constant, parts, build, eval_all, canon}
use Rattle.fvn_forms.specs.Settled.{Settled}
use Rattle.fvn_forms.specs.Ranks.{result}
use Rattle.fvn_forms.specs.Good.{IsGood}
use Rattle.fvn_forms.specs.LeastSort.{least_sort}
use Rattle.fvn_forms.proofs.Build.{is_constant, parts_none_iff, build_right_identity, build_left_identity, build_joined}
use Rattle.fvn_forms.proofs.Eval.{fvar_settled, eval_all_settled, canon_settled}
use Rattle.fvn_forms.proofs.RawSorts.{own_sort, own_sort_keeps}
use Rattle.fvn_forms.proofs.LeastSort.{fvar_flat, evals_of_kinds, sort_of_build}

module _ (d : Declarations) where
  -- the form is f's identity
  abbrev pub IsIdentityOf : OpId → FlatTerm → Type 0
  IsIdentityOf f t = (e : OpId) × (identity (axioms d f) ≡ Some e) × (as_constant t ≡ Some e)

  -- beside its identity an operator has the flat form of its other argument
  pub canon_left_identity : (f : OpId) (t u : Term) → IsIdentityOf f (canon d t) → canon d (two f t u) ≡ canon d u
  canon_left_identity f t u h =
      ap (λ a. build d f (a ∷ canon d u ∷ [])) (is_constant (canon d t) h.0 h.2) ∙ build_left_identity d f h.0 h.1 (canon d u) (canon_settled d u)

  pub canon_right_identity : (f : OpId) (t u : Term) → IsIdentityOf f (canon d u) → canon d (two f t u) ≡ canon d t
  canon_right_identity f t u h =
      ap (λ a. build d f (canon d t ∷ a ∷ [])) (is_constant (canon d u) h.0 h.2) ∙ build_right_identity d f h.0 h.1 (canon d t) (canon_settled d t)

  some_parts : (f : OpId) (l : List FlatTerm) → AllByRecursion (λ t. Settled d t) l → AllByRecursion (λ t. IsIdentityOf f t → ⊥) l → AllByRecursion (λ t. parts d f t ≡ [] → ⊥) l
  some_parts f [] h n = tt
  some_parts f (t ∷ l) h n = (λ e. n.0 ((parts_none_iff d f t h.0).0 e), some_parts f l h.1 n.1)

  -- over arguments none of which is its identity an operator has its result over their least sorts
  pub least_sort_of_app : IsGood d → (f : OpId) (ts : Terms) (k : SortId) → HasKind d (app f ts) k → AllByRecursion (λ t. IsIdentityOf f t → ⊥) (eval_all d fvar ts) → least_sort d (canon d (app f ts)) ≡ result d f (map (least_sort d) (eval_all d fvar ts))
  least_sort_of_app good f ts k h n =
      let settled = eval_all_settled d fvar (fvar_settled d) ts in
      sort_of_build d good own_sort (own_sort_keeps d) f (eval_all d fvar ts) settled (some_parts f (eval_all d fvar ts) settled n) k
      record { rank = h.rank; listed = h.listed; args = evals_of_kinds d good fvar (fvar_flat d good) ts _ h.args; result = h.result }

  -- over two arguments neither of which is its identity an associative operator is no constant
  pub canon_joined : (f : OpId) → IsAssociative (axioms d f) → (t u : Term) → (IsIdentityOf f (canon d t) → ⊥) → (IsIdentityOf f (canon d u) → ⊥) → as_constant (canon d (two f t u)) ≡ None
  canon_joined f assoc t u nt nu =
      build_joined d f assoc (canon d t) (canon d u) (λ e. nt ((parts_none_iff d f (canon d t) (canon_settled d t)).0 e)) (λ e. nu ((parts_none_iff d f (canon d u) (canon_settled d u)).0 e))
