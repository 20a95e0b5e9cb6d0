-- Terms that are equal modulo the axioms have one kind.
use Rattle.std.proofs.Common.{◌≡◌, List, [], ◌∷◌, sym, ◌∙◌, subst, inl, inr}
use Rattle.fvn_terms.specs.declared.plain.OpId.{OpId}
use Rattle.fvn_terms.specs.declared.plain.SortId.{SortId}
use Rattle.fvn_terms.specs.declared.declarations.Declarations.{Declarations}
use Rattle.fvn_terms.specs.Term.{Term, Terms, var, app, none, more}
use Rattle.fvn_terms.specs.Signature.{axioms, HasKind, HaveKinds}
use Rattle.fvn_terms.specs.Places.{AtOnePlace, AmongOnePlace, here, inside, first, later, stop, step}
use Rattle.fvn_terms.specs.Equality.{two, constant, IsCommutative, IsAssociative, IsAxiom, IsAxiomEitherWay, BEqual, swap, shift, right_identity, left_identity}
use Rattle.fvn_terms.proofs.AxiomWords.{identity_associates}
use Rattle.fvn_forms.specs.FitsKinds.{FitsKinds}

module _ (d : Declarations) (fits : FitsKinds d) where
  pub kind_unique : (t : Term) (k q : SortId) → HasKind d t k → HasKind d t q → k ≡ q
  kind_unique (var x) k q h j = sym h.1 ∙ j.1
  kind_unique (app f ts) k q h j = sym h.result ∙ (fits.agree f h.rank j.rank h.listed j.listed).1 ∙ j.result

  -- both arguments of a sum have its kind
  pub both_of_kind : (f : OpId) → IsAssociative (axioms d f) → (t u : Term) (k : SortId) → HasKind d (two f t u) k → HasKind d t k × HasKind d u k
  both_of_kind f a t u k h =
      let args = subst (HaveKinds d (more t (more u none))) (fits.associative f h.rank a h.listed) h.args in
      (subst (HasKind d t) h.result args.0, subst (HasKind d u) h.result args.1.0)

  -- other arguments of the kind in place of both
  pub sum_of_kind : (f : OpId) → IsAssociative (axioms d f) → (t u v w : Term) (k : SortId) → HasKind d (two f t u) k → HasKind d v k → HasKind d w k → HasKind d (two f v w) k
  sum_of_kind f a t u v w k h p q = record {
    rank = h.rank;
    listed = h.listed;
    args = subst (HaveKinds d (more v (more w none))) (sym (fits.associative f h.rank a h.listed)) (subst (HasKind d v) (sym h.result) p, (subst (HasKind d w) (sym h.result) q, tt));
    result = h.result;
  }

  pub swapped_of_kind : (f : OpId) → IsCommutative (axioms d f) → (t u : Term) (k : SortId) → HasKind d (two f t u) k → HasKind d (two f u t) k
  swapped_of_kind f c t u k h =
      let one = fits.commutative f h.rank c h.listed in
      let args = subst (HaveKinds d (more t (more u none))) one.1 h.args in
      record { rank = h.rank; listed = h.listed; args = subst (HaveKinds d (more u (more t none))) (sym one.1) (args.1.0, (args.0, tt)); result = h.result }

  axiom_keeps_kind : (t u : Term) → IsAxiom d t u → (k : SortId) → HasKind d t k → HasKind d u k
  axiom_keeps_kind _ _ (swap {f} {t} {u} c) k h = swapped_of_kind f c t u k h
  axiom_keeps_kind _ _ (shift {f} {t} {u} {v} a) k h =
      let outer = both_of_kind f a (two f t u) v k h in
      let inner = both_of_kind f a t u k outer.0 in
      sum_of_kind f a (two f t u) v t (two f u v) k h inner.0 (sum_of_kind f a (two f t u) v u v k h inner.1 outer.1)
  axiom_keeps_kind _ _ (right_identity {f} {e = o} {t} e p q) k h = (both_of_kind f (identity_associates (axioms d f) o e) t (constant o) k h).0
  axiom_keeps_kind _ _ (left_identity {f} {e = o} {t} e p q) k h = (both_of_kind f (identity_associates (axioms d f) o e) (constant o) t k h).1

  axiom_keeps_kind_back : (t u : Term) → IsAxiom d t u → (k : SortId) → HasKind d u k → HasKind d t k
  axiom_keeps_kind_back _ _ (swap {f} {t} {u} c) k h = swapped_of_kind f c u t k h
  axiom_keeps_kind_back _ _ (shift {f} {t} {u} {v} a) k h =
      let outer = both_of_kind f a t (two f u v) k h in
      let inner = both_of_kind f a u v k outer.1 in
      sum_of_kind f a t (two f u v) (two f t u) v k h (sum_of_kind f a t (two f u v) t u k h outer.0 inner.0) inner.1
  axiom_keeps_kind_back _ _ (right_identity {f} {e = o} {t} {k = q} e p r) k h = subst (HasKind d (two f t (constant o))) (kind_unique t q k p h) r
  axiom_keeps_kind_back _ _ (left_identity {f} {e = o} {t} {k = q} e p r) k h = subst (HasKind d (two f (constant o) t)) (kind_unique t q k p h) r

  either_way_keeps_kind : (t u : Term) → IsAxiomEitherWay d t u → (k : SortId) → HasKind d t k → HasKind d u k
  either_way_keeps_kind t u (inl a) = axiom_keeps_kind t u a
  either_way_keeps_kind t u (inr a) = axiom_keeps_kind_back u t a

  mutual
    step_keeps_kind : {t u : Term} → AtOnePlace (IsAxiomEitherWay d) t u → (k : SortId) → HasKind d t k → HasKind d u k
    step_keeps_kind (here {t} {u} a) k h = either_way_keeps_kind t u a k h
    step_keeps_kind (inside {f} p) k h = record { rank = h.rank; listed = h.listed; args = steps_keep_kinds p _ h.args; result = h.result }

    steps_keep_kinds : {ts us : Terms} → AmongOnePlace (IsAxiomEitherWay d) ts us → (ks : List SortId) → HaveKinds d ts ks → HaveKinds d us ks
    steps_keep_kinds (first p) [] h = absurd h
    steps_keep_kinds (first p) (k ∷ ks) h = (step_keeps_kind p k h.0, h.1)
    steps_keep_kinds (later p) [] h = absurd h
    steps_keep_kinds (later p) (k ∷ ks) h = (h.0, steps_keep_kinds p ks h.1)

  pub b_equal_keeps_kind : {t u : Term} → BEqual d t u → (k : SortId) → HasKind d t k → HasKind d u k
  b_equal_keeps_kind stop k h = h
  b_equal_keeps_kind (step p q) k h = b_equal_keeps_kind q k (step_keeps_kind p k h)
