-- A partition and a solved list of the problem x0 =? one.
use Rattle.std.proofs.Common.{◌≡◌, ℕ, zero, suc, ◌<◌, Bool, true, false, if◌then◌else◌, [], ◌∷◌, Some, None, refl, sym, ap, ◌∙◌, subst, inl, inr, arith, lit<}
use Rattle.std.specs.Prelude.{Contains, slice_index_or}
use Rattle.std.proofs.lemmas.List.Elements.{All-nil, All-cons}
use Rattle.fvn_terms.specs.declared.plain.Var.{Var}
use Rattle.fvn_terms.specs.declared.plain.OpId.{OpId}
use Rattle.fvn_terms.specs.declared.plain.SortId.{SortId}
use Rattle.fvn_terms.specs.declared.declarations.Axioms.TheVariants.{Free, Comm}
use Rattle.fvn_terms.specs.Term.{Term, Terms, var, app, none, more}
use Rattle.fvn_terms.specs.Substitution.{apply, Occurs, same_var}
use Rattle.fvn_terms.specs.Signature.{axioms, kind, IsSort, HasKind, KeepsKinds}
use Rattle.fvn_terms.specs.Places.{stop}
use Rattle.fvn_terms.specs.Equality.{IsAssociative, BEqual, identity}
use Rattle.fvn_terms.specs.Unifiers.{Problem}
use Rattle.fvn_terms.proofs.Substitutions.{apply-var}
use Rattle.fvn_forms.specs.Flat.{FlatTerm, fconstant, plain}
use Rattle.fvn_flat.specs.Bindings.{Bindings}
use Rattle.fvn_flat.specs.Problems.{subterms_of, variables_of}
use Rattle.fvn_flat.specs.Partitions.{PlaceByPlace, Heads, IsUnit, IsNode, IsPartition}
use Rattle.fvn_flat.specs.SolvedLists.{Plan, as_member, only, unfolded, IsBinding, IsSolvedList, IsKindUnifier}
use Rattle.fvn_flat.proofs.Examples.{op, s, numbers, variable, x, one_}

abbrev assigned : Problem
assigned = (x 0, one_) ∷ []

-- x0 and one are in one class
abbrev together : Term → ℕ
together t = 0

-- one is the only subterm with an operator
headed : (f : OpId) (ts : Terms) → Contains (subterms_of assigned) (app f ts) → one_ ≡ app f ts
headed f ts (zero, l, e) = cc
headed f ts (suc zero, l, e) = e
headed f ts (suc (suc k), l, e) = absurd (omega (arith, l))

operator_of : Term → OpId
operator_of (var y) = op 0
operator_of (app f ts) = f

arguments_of : Term → Terms
arguments_of (var y) = none
arguments_of (app f ts) = ts

heads_one : (f : OpId) → Heads numbers assigned f → op 4 ≡ f
unfolding operator_of
heads_one f h = ap operator_of (headed f h.arguments h.listed)

no_unit : (t : Term) → IsUnit numbers assigned t → ⊥
no_unit t u = let e : None ≡ Some u.constant_of = ap (λ f. identity (axioms numbers f)) (heads_one u.operator u.heads) ∙ u.identity in cc

node_is : (f : OpId) (ts : Terms) → IsNode numbers assigned (app f ts) → one_ ≡ app f ts
node_is f ts (inl c) = headed f ts c
node_is f ts (inr u) = absurd (no_unit (app f ts) u)

both_none : (f : OpId) (ts us : Terms) → IsNode numbers assigned (app f ts) → IsNode numbers assigned (app f us) → PlaceByPlace together ts us
unfolding arguments_of
both_none f ts us h j =
    let l : none ≡ ts = ap arguments_of (node_is f ts h) in
    let r : none ≡ us = ap arguments_of (node_is f us j) in
    subst (λ v. PlaceByPlace together v us) l (subst (λ v. PlaceByPlace together none v) r tt)

pub is_partition : IsPartition numbers assigned together
unfolding operator_of
is_partition = record {
  sides = All-cons (λ p. together p.0 ≡ together p.1) (x 0, one_) [] refl (All-nil (λ p. together p.0 ≡ together p.1));
  equal = λ t u h j e. refl;
  congruent = λ f ts us h j e. refl;
  one_head = λ f g ts us n o h j e. sym (ap operator_of (node_is f ts h)) ∙ ap operator_of (node_is g us j);
  free = λ f ts us a h j e. both_none f ts us h j;
  commutative = λ f t u v w a h j e. let no : Free ≡ Comm = ap (λ r. axioms numbers (operator_of r)) (node_is f (more t (more u none)) h) ∙ a in cc;
}

-- the class has the name x0 and is bound to one
abbrev plan : Plan
plan = record { name = λ k. variable 0; form = λ k. as_member one_; columns = λ f. []; parts = λ f. [] }

abbrev bindings : Bindings
bindings = (variable 0, fconstant (op 4)) ∷ []

x0_alone : (y : Var) → Contains (variables_of assigned) y → variable 0 ≡ y
x0_alone y (zero, l, e) = e
x0_alone y (suc k, l, e) = absurd (omega (arith, l))

one_node : IsNode numbers assigned one_
one_node = inl (1, lit< tt, refl)

kind_of : (q : SortId) → IsSort numbers q → record { 0 = 1 } ≡ kind numbers q
kind_of q h = go q.0 h
  where
    go : (n : ℕ) → n < 2 → record { 0 = 1 } ≡ slice_index_or numbers.kinds n q
    go zero h = refl
    go (suc zero) h = refl
    go (suc (suc n)) h = absurd (omega (arith, h))

keeps : KeepsKinds numbers (unfolded bindings)
keeps y i = subst (λ t. HasKind numbers t (kind numbers y.sort)) (sym (apply-var (only (variable 0) one_ y))) (go (same_var (variable 0) y))
  where
    go : (b : Bool) → HasKind numbers (if b then one_ else var y) (kind numbers y.sort)
    go true = record { rank = record { args = []; result = s }; listed = (0, lit< tt, refl); args = tt; result = kind_of y.sort i }
    go false = (i, refl)

unifies : IsKindUnifier numbers assigned (unfolded bindings)
unifies = (keeps, All-cons (λ p. BEqual numbers (apply (unfolded bindings) p.0) (apply (unfolded bindings) p.1)) (x 0, one_) [] stop (All-nil (λ p. BEqual numbers (apply (unfolded bindings) p.0) (apply (unfolded bindings) p.1))))

pub is_solved_list : IsSolvedList numbers assigned together bindings
is_solved_list = (
  plan,
  record {
    names = λ k j h i e. sym h.2 ∙ i.2;
    own = λ k h c. h.2;
    forms = λ k h. record { node = one_node; of = h.2; operator = op 4; arguments = none; is = refl; simple = tt };
    sums = λ f h a. absurd (subst (λ g. IsAssociative (axioms numbers g)) (sym (heads_one f h)) a);
    apart = λ f g p q n c d new e. omega (arith, c.1);
    classes = λ k t h e. let q : fconstant (op 4) ≡ t = cc in let pair : FlatTerm → Var × FlatTerm = λ u. (variable 0, u) in (0, lit< tt, ap pair q);
    variables = λ y c n. absurd (n (x0_alone y c));
    no_other = All-cons (IsBinding numbers assigned together plan) (variable 0, fconstant (op 4)) [] (inl (0, (one_, one_node, refl), refl, refl)) (All-nil (IsBinding numbers assigned together plan));
    triangular = record { not_itself = All-cons (λ b. Occurs b.0 (plain b.1) → ⊥) (variable 0, fconstant (op 4)) [] (λ h. h) (All-nil (λ b. Occurs b.0 (plain b.1) → ⊥)); not_later = λ i j e l m. absurd (omega (arith, l, m)) };
    unifies = unifies;
  },
)
