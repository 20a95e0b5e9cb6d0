-- A form with a sum of two new variables in place of one, and what is made of it.
use Rattle.std.proofs.Common.{◌≡◌, ◌≢◌, ◌≤◌, ◌++◌, Bool, true, false, List, [], ◌∷◌, length, None, Some, refl, sym, ap, ◌∙◌, subst, arith}
use Rattle.std.specs.Prelude.{◌↔◌, if◌then◌else◌, IsTrue, Contains}
use Rattle.fvn_terms.specs.declared.plain.Var.{Var}
use Rattle.fvn_terms.specs.declared.plain.OpId.{OpId}
use Rattle.fvn_terms.specs.declared.plain.SortId.{SortId}
use Rattle.fvn_terms.specs.declared.declarations.Axioms.{Axioms}
use Rattle.fvn_terms.specs.declared.declarations.Axioms.TheVariants.{Free, Comm, AssocComm, AssocCommId}
use Rattle.fvn_terms.specs.declared.declarations.Rank.{Rank}
use Rattle.fvn_terms.specs.declared.declarations.Declarations.{Declarations}
use Rattle.fvn_terms.specs.Term.{var}
use Rattle.fvn_terms.specs.Theory.{Equations}
use Rattle.fvn_terms.specs.Rewriting.{IsReducible}
use Rattle.fvn_terms.specs.Substitution.{same_var, Occurs}
use Rattle.fvn_terms.specs.Signature.{kind, axioms, IsSort, HasKind}
use Rattle.fvn_terms.specs.Equality.{IsAssociative, identity}
use Rattle.fvn_terms.proofs.Variables.{same_var_is}
use Rattle.fvn_forms.specs.Flat.{FlatTerm, fvar, fapp, plain}
use Rattle.fvn_forms.specs.Canon.{build, inst}
use Rattle.fvn_forms.specs.Settled.{Settled}
use Rattle.fvn_forms.specs.Good.{IsGood}
use Rattle.fvn_forms.proofs.KindsOfSums.{build_of_kind, two_of_kind}
use Rattle.fvn_forms.proofs.LeastSort.{inst_of_kind}
use Rattle.fvn_flat.specs.Bindings.{Bindings, form_or, value, BindingsFit}
use Rattle.fvn_flat.specs.Fits.{Fits, AllFit, AllOfKind, TakesAsDeclared, Takes}
use Rattle.fvn_flat.specs.Forms.{variable_of, head_of, args_of}
use Rattle.fvn_rewrite_rules.specs.declared.rule.Rule.{Rule}
use Rattle.fvn_rewrite_rules.specs.Given.{headed}
use Rattle.fvn_rewrite.specs.Usable.{Rewriting, equations_by}
use Rattle.fvn_lifting.specs.Pairs.{parted_sum, IsParted, IsMetBySome, IsMetInPairs}
use Rattle.fvn_lifting.proofs.Parting.{two_fit, joined_kinded, two_kinded}
use Rattle.fvn_narrow.specs.inner.Pairing.{HasSumOf, IsOneBeside, HasInner}

takes_as : (d : Declarations) (a : Axioms) → IsAssociative a → (r : Rank) (ts : List FlatTerm) → 2 ≤ length ts → AllOfKind d (kind d r.result) ts → TakesAsDeclared d a r ts
takes_as d Free i r ts two h = absurd i
takes_as d Comm i r ts two h = absurd i
takes_as d AssocComm i r ts two h = (two, h)
takes_as d (AssocCommId e) i r ts two h = (two, h)

-- a list of two that were pushed
pub pushed_two : (l first second : List FlatTerm) (t u : FlatTerm) → l ≡ [] → first ≡ l ++ t ∷ [] → second ≡ first ++ u ∷ [] → second ≡ t ∷ u ∷ []
pushed_two l first second t u e1 e2 e3 = e3 ∙ ap (λ m. m ++ u ∷ []) (e2 ∙ ap (λ m. m ++ t ∷ []) e1)

-- the one form that a substitution of one pair gives
pub one_pair : (s r : Bindings) (x : Var) (t : FlatTerm) → s ≡ [] → r ≡ s ++ (x, t) ∷ [] → r ≡ (x, t) ∷ []
one_pair s r x t e h = h ∙ ap (λ m. m ++ (x, t) ∷ []) e

-- a sum that fits adds up a variable and a form
pub adds_up : (d : Declarations) → IsGood d → (f : OpId) → IsAssociative (axioms d f) → identity (axioms d f) ≡ None → (t : FlatTerm) (x : Var) (form : FlatTerm) → Fits d t → head_of t ≡ Some f → args_of t ≡ fvar x ∷ form ∷ [] → HasSumOf d f x form
adds_up d good f assoc no_identity t x form fits heads are_two =
    let joined = joined_kinded d good f assoc no_identity t (fvar x) form fits heads are_two in
    let kinded = two_kinded d good f assoc no_identity t (fvar x) form fits heads are_two in
    let fit = two_fit d good f assoc no_identity t (fvar x) form fits heads are_two in record {
      associative = assoc;
      rank = joined.rank;
      listed = joined.listed;
      variable = subst (HasKind d (var x)) (sym joined.result) kinded.0;
      fits = fit.1.0;
      of_kind = subst (HasKind d (plain form)) (sym joined.result) kinded.1.0;
    }

-- substitutions of one pair
module _ (d : Declarations) (x : Var) (both : FlatTerm) (fits : Fits d both) (of_kind : HasKind d (plain both) (kind d x.sort)) where
  pub pair_fits : BindingsFit d ((x, both) ∷ [])
  pair_fits = record {
    settled = λ z. settled z (same_var x z);
    keeps_kinds = λ z i. kinds z i (same_var x z) refl;
  } where
    settled : (z : Var) (b : Bool) → Settled d (form_or z (if b then Some both else None))
    settled z true = fits.flat
    settled z false = tt

    kinds : (z : Var) → IsSort d z.sort → (b : Bool) → same_var x z ≡ b → HasKind d (plain (form_or z (if b then Some both else None))) (kind d z.sort)
    kinds z i true e = subst (λ (w : Var). HasKind d (plain both) (kind d w.sort)) (same_var_is x z e) of_kind
    kinds z i false e = (i, refl)

module _ (d : Declarations) (good : IsGood d) (f : OpId) (x : Var) (form : FlatTerm) (sum : HasSumOf d f x form) where
  abbrev k : SortId
  k = kind d sum.rank.result

  -- a variable of the sort stands in a sum
  variable_kind : (y : Var) → y.sort ≡ x.sort → HasKind d (var y) k
  variable_kind y e = subst (λ (s : SortId). IsSort d s × (kind d s ≡ k)) (sym e) sum.variable

  pub variable_fits : (y : Var) → y.sort ≡ x.sort → Fits d (fvar y)
  variable_fits y e = record { flat = tt; kinded = (k, variable_kind y e) }

  takes_two : (t u : FlatTerm) → HasKind d (plain t) k → HasKind d (plain u) k → Takes d f (t ∷ u ∷ [])
  takes_two t u h j = record { rank = sum.rank; listed = sum.listed; args = takes_as d (axioms d f) sum.associative sum.rank (t ∷ u ∷ []) (omega arith) (h, (j, tt)) }

  module _ (one rest : Var) (one_sort : one.sort ≡ x.sort) (rest_sort : rest.sort ≡ x.sort) where
    pub variables_fit : AllFit d (fvar one ∷ fvar rest ∷ [])
    variables_fit = (variable_fits one one_sort, (variable_fits rest rest_sort, tt))

    pub variables_taken : Takes d f (fvar one ∷ fvar rest ∷ [])
    variables_taken = takes_two (fvar one) (fvar rest) (variable_kind one one_sort) (variable_kind rest rest_sort)

    -- their sum is of the variable's kind
    pub both_kind : HasKind d (plain (build d f (fvar one ∷ fvar rest ∷ []))) (kind d x.sort)
    both_kind =
        subst (HasKind d (plain (build d f (fvar one ∷ fvar rest ∷ [])))) (sym sum.variable.1)
        (build_of_kind d good.fits f (fvar one ∷ fvar rest ∷ []) (tt, (tt, tt)) k
        (two_of_kind d good.fits f sum.associative k sum.rank sum.listed refl (var one) (var rest) (variable_kind one one_sort) (variable_kind rest rest_sort)))

  -- what has a form in the variable's place is added to a variable of the sort
  module _ (both opened : FlatTerm) (fits : Fits d both) (of_kind : HasKind d (plain both) (kind d x.sort)) (is : opened ≡ inst d (value ((x, both) ∷ [])) form) (one : Var) (one_sort : one.sort ≡ x.sort) where
    opened_kind : HasKind d (plain opened) k
    opened_kind = subst (λ w. HasKind d (plain w) k) (sym is) (inst_of_kind d good (value ((x, both) ∷ [])) (pair_fits d x both fits of_kind) form k sum.of_kind)

    pub opened_fit : Fits d opened → AllFit d (opened ∷ fvar one ∷ [])
    opened_fit h = (h, (variable_fits one one_sort, tt))

    pub opened_taken : Takes d f (opened ∷ fvar one ∷ [])
    opened_taken = takes_two opened (fvar one) opened_kind (variable_kind one one_sort)

-- two equal forms under the same operator
pub built_of : (d : Declarations) (f : OpId) (t u a b w : FlatTerm) → w ≡ build d f (t ∷ u ∷ []) → t ≡ a → u ≡ b → w ≡ build d f (a ∷ b ∷ [])
built_of d f t u a b w e p q = e ∙ ap (λ z. build d f (z ∷ u ∷ [])) p ∙ ap (λ z. build d f (a ∷ z ∷ [])) q

pub for_two : (P : List FlatTerm → Type 0) (t u a b : FlatTerm) → t ≡ a → u ≡ b → P (a ∷ b ∷ []) → P (t ∷ u ∷ [])
for_two P t u a b p q h = subst (λ z. P (z ∷ u ∷ [])) (sym p) (subst (λ z. P (a ∷ z ∷ [])) (sym q) h)

two_numbers : (one rest : Var) → one.name ≡ 1 → rest.name ≡ 2 → one ≢ rest
two_numbers one rest a b e = let q : 1 ≡ 2 = sym a ∙ ap (λ (x : Var). x.name) e ∙ b in absurd (omega (arith, q))

pub not_there : (b : Bool) (P : Type 0) → IsTrue b ↔ P → b ≡ false → P → ⊥
not_there b P h e p = let z : true ≡ false = sym (h.1 p) ∙ e in cc

-- what was tested is the sum of which the definition speaks
pub parted_by : (d e : Declarations) (equations : Equations) (f : OpId) (x : Var) (form : FlatTerm) (one rest : Var) (target : FlatTerm) →
    (one.sort ≡ x.sort) × (one.name ≡ 1) → (rest.sort ≡ x.sort) × (rest.name ≡ 2) → (Occurs one (plain form) → ⊥) → (Occurs rest (plain form) → ⊥) →
    e ≡ d → target ≡ parted_sum e f form x one rest → IsReducible d equations (plain target) → IsParted d equations f form x
parted_by d e equations f x form one rest target is_one is_rest one_new rest_new same is reducible = record {
  one = one;
  rest = rest;
  one_sort = is_one.0;
  rest_sort = is_rest.0;
  differ = two_numbers one rest is_one.1 is_rest.1;
  one_new = one_new;
  rest_new = rest_new;
  reducible = subst (λ w. IsReducible d equations (plain w)) (is ∙ ap (λ (c : Declarations). parted_sum c f form x one rest) same) reducible;
}

pub as_variable : (t : FlatTerm) (x : Var) → variable_of t ≡ Some x → t ≡ fvar x
as_variable (fvar y) x e = cc
as_variable (fapp g joined ts) x e = cc

-- a sum of a variable and of what stands beside it
module _ (d e : Declarations) (good : IsGood d) (f : OpId) (t first form : FlatTerm) (x : Var) (fits : Fits d t) (heads : head_of t ≡ Some f) (same : e ≡ d) (two : args_of t ≡ first ∷ form ∷ []) (is : variable_of first ≡ Some x) (b : IsOneBeside e f x form) where
  beside : IsOneBeside d f x form
  beside = subst (λ (c : Declarations). IsOneBeside c f x form) same b

  are_two : args_of t ≡ fvar x ∷ form ∷ []
  are_two = two ∙ ap (λ w. w ∷ form ∷ []) (as_variable first x is)

  pub beside_adds_up : HasSumOf d f x form
  beside_adds_up = adds_up d good f beside.associative beside.no_identity t x form fits heads are_two

  pub met_by_some : (equations : Equations) → IsParted d equations f form x → IsMetBySome d equations f t
  met_by_some equations p = record {
    variable = x;
    form = form;
    heads = heads;
    are_two = are_two;
    associative = beside.associative;
    no_identity = beside.no_identity;
    keep = beside.keep;
    alone = beside.alone;
    parted = p;
  }

-- the inner rule is among those that are needed
pub met_in_pairs : (r : Rewriting) (f : OpId) (rule inner : Rule) → head_of rule.left ≡ Some f → Contains (headed r.rules f) inner → HasInner r.signature (equations_by r) f inner rule → IsMetInPairs r.signature r.rules rule
met_in_pairs r f rule inner heads needed h = record { operator = f; heads = heads; inner = inner; needed = needed; met = h.met; others = h.among.0; among = h.among.1 }
