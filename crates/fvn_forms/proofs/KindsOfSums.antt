-- The kinds of sums and of their summands.
use Rattle.std.proofs.Common.{◌≡◌, Bool, true, false, List, [], ◌∷◌, refl, sym, subst}
use Rattle.std.specs.Prelude.{if◌then◌else◌, Contains}
use Rattle.std.specs.List.{AllByRecursion}
use Rattle.fvn_terms.specs.declared.plain.OpId.{OpId}
use Rattle.fvn_terms.specs.declared.plain.SortId.{SortId}
use Rattle.fvn_terms.specs.declared.declarations.Rank.{Rank}
use Rattle.fvn_terms.specs.declared.declarations.Declarations.{Declarations}
use Rattle.fvn_terms.specs.Term.{Term, app, none, more}
use Rattle.fvn_terms.specs.Signature.{kind, declared, axioms, HasKind, HaveKinds}
use Rattle.fvn_terms.specs.Equality.{two, IsAssociative, identity}
use Rattle.fvn_forms.specs.Flat.{FlatTerm, FlatTerms, fvar, fapp, fnone, fmore, funpack, fconstant, nest, plain, plain_all}
use Rattle.fvn_forms.specs.InOrder.{sort}
use Rattle.fvn_forms.specs.Canon.{same_op, is_identity, parts, joined, sum, build}
use Rattle.fvn_forms.specs.Settled.{Settled}
use Rattle.fvn_forms.specs.FitsKinds.{FitsKinds}
use Rattle.fvn_forms.proofs.InOrder.{each_sort}
use Rattle.fvn_forms.proofs.Sums.{same_op_is}
use Rattle.fvn_forms.proofs.KindsKept.{both_of_kind, b_equal_keeps_kind}
use Rattle.fvn_forms.proofs.Nests.{plain_list, nested, insert_some, plain_joined}
use Rattle.fvn_forms.proofs.ToCanon.{build_plain}

module _ (d : Declarations) (fits : FitsKinds d) (f : OpId) where
  -- what an operator builds has the kind of the operator over the same forms
  pub build_of_kind : (l : List FlatTerm) → AllByRecursion (Settled d) l → (k : SortId) → HasKind d (app f (plain_list l)) k → HasKind d (plain (build d f l)) k
  build_of_kind l h k j = b_equal_keeps_kind d fits (build_plain d fits f l h k j) k j

module _ (d : Declarations) (fits : FitsKinds d) (f : OpId) (assoc : IsAssociative (axioms d f)) where
  -- the summands of a form of the kind are of the kind
  pub nest_parts_of_kind : (k : SortId) (t : FlatTerm) (ts : FlatTerms) → HasKind d (nest f (plain t) (plain_all ts)) k → AllByRecursion (λ p. HasKind d (plain p) k) (t ∷ funpack ts)
  nest_parts_of_kind k t fnone h = (h, tt)
  nest_parts_of_kind k t (fmore u us) h = let both = both_of_kind d fits f assoc (plain t) (nest f (plain u) (plain_all us)) k h in (both.0, nest_parts_of_kind k u us both.1)

  pub parts_of_kind : (k : SortId) (t : FlatTerm) → HasKind d (plain t) k → AllByRecursion (λ p. HasKind d (plain p) k) (parts d f t)
  parts_of_kind k (fvar y) h = (h, tt)
  parts_of_kind k (fapp g true fnone) h = go (same_op f g)
    where
      go : (b : Bool) → AllByRecursion (λ p. HasKind d (plain p) k) (if b then [] else fapp g true fnone ∷ [])
      go true = tt
      go false = (h, tt)
  parts_of_kind k (fapp g true (fmore t ts)) h = go (same_op f g) refl
    where
      go : (b : Bool) → same_op f g ≡ b → AllByRecursion (λ p. HasKind d (plain p) k) (if b then t ∷ funpack ts else fapp g true (fmore t ts) ∷ [])
      go true e = nest_parts_of_kind k t ts (subst (λ o. HasKind d (nest o (plain t) (plain_all ts)) k) (sym (same_op_is f g e)) h)
      go false e = (h, tt)
  parts_of_kind k (fapp g false fnone) h = go (is_identity (identity (axioms d f)) g)
    where
      go : (b : Bool) → AllByRecursion (λ p. HasKind d (plain p) k) (if b then [] else fconstant g ∷ [])
      go true = tt
      go false = (h, tt)
  parts_of_kind k (fapp g false (fmore t ts)) h = (h, tt)

  module _ (k : SortId) (r : Rank) (listed : Contains (declared d f).ranks r) (gives : kind d r.result ≡ k) where
    -- f over two terms of its kind
    pub two_of_kind : (t u : Term) → HasKind d t k → HasKind d u k → HasKind d (two f t u) k
    two_of_kind t u h j = record {
      rank = r;
      listed = listed;
      args = subst (HaveKinds d (more t (more u none))) (sym (fits.associative f r assoc listed)) (subst (HasKind d t) (sym gives) h, (subst (HasKind d u) (sym gives) j, tt));
      result = gives;
    }

    nested_of_kind : (x : FlatTerm) (xs : List FlatTerm) → AllByRecursion (λ p. HasKind d (plain p) k) (x ∷ xs) → HasKind d (nested f (x ∷ xs)) k
    nested_of_kind x [] h = h.0
    nested_of_kind x (y ∷ ys) h = two_of_kind (plain x) (nested f (y ∷ ys)) h.0 (nested_of_kind y ys h.1)

    -- a sum of some forms of the kind of f is of the kind
    pub sum_of_forms_of_kind : (x : FlatTerm) (xs : List FlatTerm) → AllByRecursion (λ p. HasKind d (plain p) k) (x ∷ xs) → HasKind d (plain (sum d f (x ∷ xs))) k
    sum_of_forms_of_kind x xs h = go (sort (x ∷ xs)) refl (each_sort (λ p. HasKind d (plain p) k) (x ∷ xs) h)
      where
        go : (m : List FlatTerm) → sort (x ∷ xs) ≡ m → AllByRecursion (λ p. HasKind d (plain p) k) (sort (x ∷ xs)) → HasKind d (plain (joined d f (sort (x ∷ xs)))) k
        go [] e j = absurd (insert_some x (sort xs) e)
        go (y ∷ ys) e j =
            let kinded = nested_of_kind y ys (subst (AllByRecursion (λ p. HasKind d (plain p) k)) e j) in
            subst (λ m. HasKind d (plain (joined d f m)) k) (sym e) (subst (λ t. HasKind d t k) (sym (plain_joined d f assoc y ys)) kinded)
