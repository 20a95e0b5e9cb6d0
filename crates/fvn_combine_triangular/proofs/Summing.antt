-- Sums over variables.
use Rattle.std.proofs.Common.{◌≡◌, ◌<◌, ◌≤◌, true, false, List, [], ◌∷◌, length, get_or, map, refl, sym, ap, ◌∙◌, subst, arith, All, Option, Some, None, is_some}
use Rattle.std.specs.List.{AllByRecursion}
use Rattle.std.specs.Prelude.{◌==◌}
use Rattle.std.specs.Option.{unwrap_or}
use Rattle.std.proofs.lemmas.Bool.{eqb-true}
use Rattle.std.proofs.lemmas.List.{length-map}
use Rattle.std.proofs.lemmas.List.Elements.{All-head, All-tail}
use Rattle.fvn_terms.specs.declared.plain.Var.{Var as Variable}
use Rattle.fvn_terms.specs.declared.plain.OpId.{OpId}
use Rattle.fvn_terms.specs.declared.declarations.Axioms.{Axioms}
use Rattle.fvn_terms.specs.declared.declarations.Axioms.TheVariants.{Free, Comm, AssocComm, AssocCommId}
use Rattle.fvn_terms.specs.declared.declarations.Declarations.{Declarations}
use Rattle.fvn_terms.specs.Term.{none}
use Rattle.fvn_terms.specs.Signature.{kind, axioms, IsSort, HasKind}
use Rattle.fvn_terms.specs.Equality.{constant, IsAssociative, identity}
use Rattle.fvn_forms.specs.Flat.{FlatTerm, fvar, plain}
use Rattle.fvn_forms.specs.FitsKinds.{FitsKinds}
use Rattle.fvn_forms.specs.Canon.{all_parts, empty_sum, sum, build}
use Rattle.fvn_forms.specs.Settled.{IsPiece, Settled}
use Rattle.fvn_forms.proofs.Build.{build_sum, sum_settled}
use Rattle.fvn_forms.proofs.KindsOfSums.{sum_of_forms_of_kind}
use Rattle.fvn_flat.specs.Fits.{AllFit, AllOfKind, Takes, TakesAsDeclared}
use Rattle.fvn_flat.proofs.Fitting.{takes_arguments}
use Rattle.fvn_combine_nodes.proofs.AxiomTests.{no_identity}
use Rattle.fvn_combine_triangular.specs.inner.Planning.{IsSummable}

-- the sum of one term is the term
pub sum_of_one : (d : Declarations) (f : OpId) (ts : List FlatTerm) (t : FlatTerm) → length ts ≡ 1 → t ≡ get_or ts 0 t → t ≡ sum d f ts
sum_of_one d f [] t n e = absurd (omega (arith, n))
sum_of_one d f (u ∷ []) t n e = e
sum_of_one d f (u ∷ v ∷ ts) t n e = absurd (omega (arith, n))

-- variables are their own summands
all_parts_of_variables : (d : Declarations) (f : OpId) (xs : List Variable) → all_parts d f (map fvar xs) ≡ map fvar xs
all_parts_of_variables d f [] = refl
all_parts_of_variables d f (x ∷ xs) = ap (λ l. fvar x ∷ l) (all_parts_of_variables d f xs)

-- a list of no length
pub none_of_length : {X : Type 0} (xs : List X) → true ≡ (length xs == 0) → xs ≡ []
none_of_length [] e = refl
none_of_length (x ∷ xs) e = absurd (let n = eqb-true (length (x ∷ xs)) 0 (sym e) in omega (arith, n))

-- a list of some length
pub some_of_length : {X : Type 0} (xs : List X) → false ≡ (length xs == 0) → 0 < length xs
some_of_length [] e = absurd (let p : false ≡ true = e in cc)
some_of_length (x ∷ xs) e = omega arith

-- and one of two at least
pub two_of_length : {X : Type 0} (xs : List X) → false ≡ (length xs == 0) → (length xs ≡ 1 → ⊥) → 2 ≤ length xs
two_of_length [] e n = absurd (let p : false ≡ true = e in cc)
two_of_length (x ∷ []) e n = absurd (n refl)
two_of_length (x ∷ y ∷ xs) e n = omega arith

module _ {d : Declarations} (fits : FitsKinds d) {f : OpId} {ts : List FlatTerm} (h : IsSummable d f ts) where
  variables_fit : (xs : List Variable) → All (λ x. IsSort d x.sort × (kind d x.sort ≡ kind d h.rank.result)) xs → AllFit d (map fvar xs)
  variables_fit [] a = tt
  variables_fit (x ∷ xs) a =
      let P = λ (x : Variable). IsSort d x.sort × (kind d x.sort ≡ kind d h.rank.result) in
      let one = All-head P x xs a in
      (record { flat = tt; kinded = (kind d h.rank.result, one) }, variables_fit xs (All-tail P x xs a))

  variables_of_kind : (xs : List Variable) → All (λ x. IsSort d x.sort × (kind d x.sort ≡ kind d h.rank.result)) xs → AllOfKind d (kind d h.rank.result) (map fvar xs)
  variables_of_kind [] a = tt
  variables_of_kind (x ∷ xs) a =
      let P = λ (x : Variable). IsSort d x.sort × (kind d x.sort ≡ kind d h.rank.result) in
      (All-head P x xs a, variables_of_kind xs (All-tail P x xs a))

  -- the summands fit, and have one kind
  pub summands_fit : AllFit d ts
  summands_fit = subst (AllFit d) (sym h.are) (variables_fit h.variables h.kinds)

  pub summands_of_kind : AllOfKind d (kind d h.rank.result) ts
  summands_of_kind = subst (AllOfKind d (kind d h.rank.result)) (sym h.are) (variables_of_kind h.variables h.kinds)

  -- the operator takes two or more
  pub takes_summands : 2 ≤ length ts → Takes d f ts
  takes_summands two = record { rank = h.rank; listed = h.listed; args = go (axioms d f) h.associative }
    where
      go : (a : Axioms) → IsAssociative a → TakesAsDeclared d a h.rank ts
      go Free s = absurd s
      go Comm s = absurd s
      go AssocComm s = (two, summands_of_kind)
      go (AssocCommId e) s = (two, summands_of_kind)

  -- what the operator builds over some of them is their sum
  pub build_is_sum : 2 ≤ length ts → build d f ts ≡ sum d f ts
  build_is_sum two = subst (λ l. build d f l ≡ sum d f l) (sym h.are) (go h.variables (let n = ap length h.are in omega (arith, two, n, length-map h.variables fvar)))
    where
      go : (xs : List Variable) → 2 ≤ length xs → build d f (map fvar xs) ≡ sum d f (map fvar xs)
      go [] n = absurd (omega (arith, n))
      go (x ∷ xs) n = build_sum d f h.associative (fvar x) (map fvar xs) ∙ ap (sum d f) (all_parts_of_variables d f (x ∷ xs))

  -- the identity of the operator of a sum without summands
  pub record HasUnit (e : OpId) : Type 0 where
    pub is : identity (axioms d f) ≡ Some e
    pub kinded : HasKind d (constant e) (kind d h.rank.result)

  unit_of : ts ≡ [] → (o : Option OpId) → o ≡ identity (axioms d f) → HasUnit (unwrap_or o f)
  unit_of empty None m = absurd (h.some (no_identity (axioms d f) (ap is_some (sym m))) empty)
  unit_of empty (Some e) m = record { is = sym m; kinded = fits.identity f e h.rank (sym m) h.listed }

  -- it is a constant, which is the sum
  pub unit_takes : ts ≡ [] → (o : Option OpId) → o ≡ identity (axioms d f) → Takes d (unwrap_or o f) ts
  unit_takes empty o m = subst (Takes d (unwrap_or o f)) (sym empty) (takes_arguments d fits (unwrap_or o f) none (kind d h.rank.result, (unit_of empty o m).kinded))

  pub unit_is_sum : ts ≡ [] → (o : Option OpId) → o ≡ identity (axioms d f) → build d (unwrap_or o f) ts ≡ sum d f ts
  unit_is_sum empty o m = subst (λ l. build d (unwrap_or o f) l ≡ sum d f l) (sym empty) (sym (ap (empty_sum d f) (unit_of empty o m).is))

  -- a sum is flat, and of the kind of what the operator gives
  pub sum_kind : HasKind d (plain (sum d f ts)) (kind d h.rank.result)
  sum_kind = go ts refl summands_of_kind
    where
      empty_kind : ts ≡ [] → (o : Option OpId) → identity (axioms d f) ≡ o → HasKind d (plain (empty_sum d f o)) (kind d h.rank.result)
      empty_kind empty None e = absurd (h.some (no_identity (axioms d f) (ap is_some e)) empty)
      empty_kind empty (Some o) e = fits.identity f o h.rank e h.listed

      go : (l : List FlatTerm) → ts ≡ l → AllOfKind d (kind d h.rank.result) l → HasKind d (plain (sum d f l)) (kind d h.rank.result)
      go [] e k = empty_kind e (identity (axioms d f)) refl
      go (u ∷ us) e k = sum_of_forms_of_kind d fits f h.associative (kind d h.rank.result) h.rank h.listed refl u us k

  pub sum_flat : Settled d (sum d f ts)
  sum_flat =
      subst (λ l. Settled d (sum d f l)) (sym h.are)
      (sum_settled d f h.associative (map fvar h.variables) (pieces h.variables) (settled h.variables) (λ e. some_identity (identity (axioms d f)) refl (h.are ∙ e)))
    where
      pieces : (xs : List Variable) → AllByRecursion (IsPiece d f) (map fvar xs)
      pieces [] = tt
      pieces (x ∷ xs) = (refl, pieces xs)

      settled : (xs : List Variable) → AllByRecursion (Settled d) (map fvar xs)
      settled [] = tt
      settled (x ∷ xs) = (tt, settled xs)

      some_identity : (o : Option OpId) → identity (axioms d f) ≡ o → ts ≡ [] → (e : OpId) × (o ≡ Some e)
      some_identity None e empty = absurd (h.some (no_identity (axioms d f) (ap is_some e)) empty)
      some_identity (Some o) e empty = (o, refl)
