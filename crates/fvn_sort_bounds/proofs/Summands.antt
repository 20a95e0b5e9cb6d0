-- How many summands a flat form has, by its sort.
use Rattle.std.proofs.Common.{◌≡◌, ◌≢◌, ◌≤◌, Bool, true, false, List, [], ◌∷◌, length, refl, sym, ap, ◌∙◌, subst, arith, Option, Some, None}
use Rattle.std.specs.Prelude.{if◌then◌else◌, Contains}
use Rattle.std.specs.List.{AllByRecursion, fold}
use Rattle.std.proofs.lemmas.Bool.{false≢true}
use Rattle.fvn_terms.specs.declared.plain.OpId.{OpId}
use Rattle.fvn_terms.specs.declared.plain.SortId.{SortId}
use Rattle.fvn_terms.specs.declared.declarations.Rank.{Rank}
use Rattle.fvn_terms.specs.declared.declarations.Declarations.{Declarations}
use Rattle.fvn_terms.specs.Signature.{kind, declared, axioms, AtOrBelow, HasKind, IsTerm}
use Rattle.fvn_terms.specs.Equality.{IsAssociative, identity}
use Rattle.fvn_forms.specs.Flat.{FlatTerm, FlatTerms, fvar, fapp, fnone, fmore, funpack, fconstant, plain}
use Rattle.fvn_forms.specs.Canon.{same_op, is_identity, parts, canon}
use Rattle.fvn_forms.specs.Settled.{Settled, SettledAll}
use Rattle.fvn_forms.specs.Good.{IsGood, IsOfKind}
use Rattle.fvn_forms.specs.LeastSort.{result_of_two, sorts_in, least_sort}
use Rattle.fvn_forms.proofs.Results.{result-pair}
use Rattle.fvn_forms.proofs.Sums.{same_op_is}
use Rattle.fvn_forms.proofs.KindsOfSums.{nest_parts_of_kind}
use Rattle.fvn_forms.proofs.Eval.{canon_settled}
use Rattle.fvn_forms.proofs.ToCanon.{canon_of_kind}
use Rattle.fvn_forms.proofs.LeastSort.{sort_in-kind, least_sort_below}
use Rattle.fvn_sort_bounds.specs.Admitting.{AdmitsSum, AdmitsIdentity}
use Rattle.fvn_sort_bounds.specs.Laws.{NarrowSortsHaveOneSummand, NarrowSortsHaveNoSum, OtherSortsHaveSomeSummand}

is_unit : (o : Option OpId) (g : OpId) → is_identity o g ≡ true → o ≡ Some g
is_unit None g e = absurd (false≢true e)
is_unit (Some u) g e = ap Some (same_op_is u g e)

module _ (d : Declarations) (good : IsGood d) (f : OpId) where
  module _ (assoc : IsAssociative (axioms d f)) (s : SortId) where
    -- the last of the sorts is added to a sum of the others
    last_sum : (a b : SortId) (l : List SortId) → IsOfKind d f a → IsOfKind d f b → AllByRecursion (IsOfKind d f) l → AtOrBelow d (fold (result_of_two d f) (result_of_two d f a b) l) s → AdmitsSum d f s
    last_sum a b [] ha hb hl below = record { left = a; right = b; left_fits = ha; right_fits = hb; below = below }
    last_sum a b (c ∷ l) ha hb hl below = last_sum (result_of_two d f a b) c l (result-pair d good f a b assoc ha hb) hl.0 hl.1 below

  -- summands have sorts of the kind
  sorts_fit : (k : SortId) (r : Rank) → Contains (declared d f).ranks r → kind d r.result ≡ k → (ts : FlatTerms) → SettledAll d ts → AllByRecursion (λ p. HasKind d (plain p) k) (funpack ts) → AllByRecursion (IsOfKind d f) (sorts_in d (λ x. x.sort) ts)
  sorts_fit k r listed gives fnone h j = tt
  sorts_fit k r listed gives (fmore t ts) h j = (
    record { rank = r; listed = listed; kind_is = sort_in-kind d good (λ x. x.sort) (λ x i. refl) t h.0 k j.0 ∙ sym gives },
    sorts_fit k r listed gives ts h.1 j.1,
  )

  module _ (s : SortId) (none : AdmitsSum d f s → ⊥) where
    -- no sum has the sort
    no_sum : (ts : FlatTerms) → Settled d (fapp f true ts) → IsTerm d (plain (fapp f true ts)) → AtOrBelow d (least_sort d (fapp f true ts)) s → ⊥
    no_sum fnone h j below = let n : 2 ≤ 0 = h.0.two_or_more in omega arith
    no_sum (fmore t fnone) h j below = let n : 2 ≤ 1 = h.0.two_or_more in omega arith
    no_sum (fmore t (fmore u us)) h j below =
        let of_kind = nest_parts_of_kind d good.fits f h.0.associative j.0 t (fmore u us) j.1 in
        let fit = sorts_fit j.0 j.1.rank j.1.listed j.1.result (fmore t (fmore u us)) h.1 of_kind in
        none (last_sum h.0.associative s (least_sort d t) (least_sort d u) (sorts_in d (λ x. x.sort) us) fit.0 fit.1.0 fit.1.1 below)

    at_most_one : (v : FlatTerm) → Settled d v → IsTerm d (plain v) → AtOrBelow d (least_sort d v) s → length (parts d f v) ≤ 1
    at_most_one (fvar x) h j below = omega arith
    at_most_one (fapp g true ts) h j below = go (same_op f g) refl
      where
        go : (b : Bool) → same_op f g ≡ b → length (if b then funpack ts else fapp g true ts ∷ []) ≤ 1
        go true p =
            let is : f ≡ g = same_op_is f g p in
            absurd (no_sum ts (subst (λ o. Settled d (fapp o true ts)) (sym is) h) (subst (λ o. IsTerm d (plain (fapp o true ts))) (sym is) j) (subst (λ o. AtOrBelow d (least_sort d (fapp o true ts)) s) (sym is) below))
        go false p = omega arith
    at_most_one (fapp g false fnone) h j below = go (is_identity (identity (axioms d f)) g)
      where
        go : (b : Bool) → length (if b then [] else fconstant g ∷ []) ≤ 1
        go true = omega arith
        go false = omega arith
    at_most_one (fapp g false (fmore t ts)) h j below = omega arith

  some_summand : (s : SortId) → (AdmitsIdentity d f s → ⊥) → (v : FlatTerm) → Settled d v → AtOrBelow d (least_sort d v) s → parts d f v ≢ []
  some_summand s none (fvar x) h below e = cc
  some_summand s none (fapp g true ts) h below e = go (same_op f g) refl
    where
      go : (b : Bool) → same_op f g ≡ b → ⊥
      go true p = let q : funpack ts ≡ [] = rw p at e in let n = h.0.two_or_more in let l = ap length q in omega (arith, n, l)
      go false p = let q : fapp g true ts ∷ [] ≡ [] = rw p at e in cc
  some_summand s none (fapp g false fnone) h below e = go (is_identity (identity (axioms d f)) g) refl
    where
      go : (b : Bool) → is_identity (identity (axioms d f)) g ≡ b → ⊥
      go true p = none (record { unit = g; is_identity = is_unit (identity (axioms d f)) g p; below = below })
      go false p = let q : fconstant g ∷ [] ≡ [] = rw p at e in cc
  some_summand s none (fapp g false (fmore t ts)) h below e = cc

pub narrow_have_one : NarrowSortsHaveOneSummand
narrow_have_one d good f assoc s none t is has =
    at_most_one d good f s none (canon d t) (canon_settled d t) (is.0, canon_of_kind d good.fits t is.0 is.1) (least_sort_below d good t is s has)

pub narrow_have_no_sum : NarrowSortsHaveNoSum
narrow_have_no_sum d good f s none t is has ts e =
    no_sum d good f s none ts
    (subst (Settled d) e (canon_settled d t)) (subst (λ v. IsTerm d (plain v)) e (is.0, canon_of_kind d good.fits t is.0 is.1)) (subst (λ v. AtOrBelow d (least_sort d v) s) e (least_sort_below d good t is s has))

pub others_have_some : OtherSortsHaveSomeSummand
others_have_some d good f s none t is has =
    some_summand d good f s none (canon d t) (canon_settled d t) (least_sort_below d good t is s has)
