-- A variable that stands in no value of the problem's variables, of the least sort of the loose class's value.
use Rattle.std.proofs.Common.{◌≡◌, ℕ, suc, ◌+◌, ◌<◌, true, List, [], ◌∷◌, length, refl, ap, subst, sym, inl, inr, arith, Contains}
use Rattle.std.specs.List.{flat_map}
use Rattle.std.proofs.lemmas.Bool.{cases_lt}
use Rattle.std.proofs.lemmas.List.{get_or_past}
use Rattle.fvn_base.proofs.Membership.{contains_cases, contains_none}
use Rattle.fvn_terms.specs.declared.plain.Var.{Var as Variable}
use Rattle.fvn_terms.specs.declared.plain.SortId.{SortId}
use Rattle.fvn_terms.specs.declared.declarations.Declarations.{Declarations}
use Rattle.fvn_terms.specs.Term.{Term, var, app}
use Rattle.fvn_terms.specs.Substitution.{Substitution, apply, Occurs}
use Rattle.fvn_terms.specs.Signature.{kind, IsSort, HasKind, IsTerm}
use Rattle.fvn_terms.specs.Sorts.{HasSort}
use Rattle.fvn_terms.specs.Unifiers.{Problem}
use Rattle.fvn_terms.proofs.Equal.{HasKind-apply}
use Rattle.fvn_terms.proofs.Occurrences.{occurs_value}
use Rattle.fvn_forms.specs.Canon.{canon}
use Rattle.fvn_forms.specs.Good.{IsGood, IsKinded}
use Rattle.fvn_forms.specs.LeastSort.{least_sort}
use Rattle.fvn_forms.proofs.Eval.{canon_settled}
use Rattle.fvn_forms.proofs.ToCanon.{canon_of_kind}
use Rattle.fvn_forms.proofs.LeastSort.{sort_in-kind, has_least_sort}
use Rattle.fvn_flat.specs.Problems.{variables, variables_of}
use Rattle.fvn_flat.proofs.VariableLists.{variables_list}
use Rattle.fvn_combine_nodes.specs.Table.{NodeTable, term_at}
use Rattle.fvn_combine_nodes.specs.declared.state.State.{State}
use Rattle.fvn_combine_nodes.proofs.Lists.{contains_flat_map}
use Rattle.fvn_combine_nodes.proofs.Subterms.{node_kinded}
use Rattle.fvn_combine_loose.proofs.Setting.{Setting}
use Rattle.fvn_combine_loose.proofs.Deep.{node_variables}

-- a number above those of the variables
abbrev above : List Variable → ℕ
above [] = 0
above (x ∷ xs) = suc (x.name + above xs)

name_below : (xs : List Variable) (x : Variable) → Contains xs x → x.name < above xs
name_below [] x c = absurd (contains_none x c)
name_below (y ∷ xs) x c = elim (contains_cases y xs x c) as (λ _. x.name < above (y ∷ xs)) [
  | inl e ↦ let n = ap (λ (v : Variable). v.name) e in omega (arith, n)
  | inr r ↦ let n = name_below xs x r in omega (arith, n)
]

not_listed : (xs : List Variable) (x : Variable) → x.name ≡ above xs → Contains xs x → ⊥
not_listed xs x e c = let l = name_below xs x c in omega (arith, e, l)

-- the kind of a term is a sort
kind_listed : (d : Declarations) → IsKinded d → (t : Term) (k : SortId) → HasKind d t k → IsSort d k
kind_listed d kinded (var x) k h = subst (IsSort d) h.1 (kinded.listed x.sort h.0)
kind_listed d kinded (app f ts) k h = subst (IsSort d) h.result (kinded.listed h.rank.result (kinded.ranks f h.rank h.listed).1)

-- what has a sort for its kind is a sort
sort_by_kind : (d : Declarations) (q : SortId) → IsSort d (kind d q) → IsSort d q
sort_by_kind d q h = elim (cases_lt q.0 (length d.kinds)) as (λ _. IsSort d q) [
  | inl l ↦ l
  | inr m ↦ subst (IsSort d) (get_or_past d.kinds q.0 q m) h
]

-- a variable of the least sort of a term has its kind
pub least_kind : (d : Declarations) → IsGood d → (t : Term) (k : SortId) → HasKind d t k → IsSort d (least_sort d (canon d t)) × (kind d (least_sort d (canon d t)) ≡ k)
least_kind d good t k h =
    let e : kind d (least_sort d (canon d t)) ≡ k = sort_in-kind d good (λ x. x.sort) (λ x i. refl) (canon d t) (canon_settled d t) k (canon_of_kind d good.fits t k h) in
    (sort_by_kind d (least_sort d (canon d t)) (subst (IsSort d) (sym e) (kind_listed d good.kinded t k h)), e)

module _ {d : Declarations} {problem : Problem} {t : NodeTable} {s : State} {z : ℕ} {heights : List ℕ} {u : Substitution} (g : Setting d problem t s z heights u) where
  -- the value of the loose class
  abbrev pub bottom : Term
  bottom = apply u (term_at t.nodes z)

  names : List Variable
  names = flat_map (λ x. variables (u x)) (variables_of problem)

  pub new : Variable
  new = record { name = above names; sort = least_sort d (canon d bottom); fresh = true }

  new_name : new.name ≡ above names
  unfolding new
  new_name = refl

  pub new_sort : new.sort ≡ least_sort d (canon d bottom)
  unfolding new
  new_sort = refl

  not_in_values : (x : Variable) → Contains (variables_of problem) x → Occurs new (u x) → ⊥
  unfolding names
  not_in_values x c o = not_listed names new new_name (contains_flat_map (λ x. variables (u x)) (variables_of problem) x new c (variables_list new (u x) o))

  -- it does not stand in the unifier's values of nodes
  pub not_in_old : (i : ℕ) → i < length t.nodes → Occurs new (apply u (term_at t.nodes i)) → ⊥
  not_in_old i l o = let r = occurs_value new u (term_at t.nodes i) o in not_in_values r.0 (node_variables g i l r.0 r.1.0) r.1.1

  pub bottom_kinded : IsTerm d bottom
  bottom_kinded =
      let h = node_kinded d g.good.fits problem g.kinded t g.table z g.loose.within in
      (h.0, HasKind-apply d u g.unifier.0 (term_at t.nodes z) h.0 h.1)

  -- it has the kind of the loose class's value
  pub new_kind : (k : SortId) → HasKind d bottom k → HasKind d (var new) k
  new_kind k h = subst (λ q. IsSort d q × (kind d q ≡ k)) (sym new_sort) (least_kind d g.good bottom k h)

  -- and the value has its sort
  pub bottom_sort : HasSort d bottom new.sort
  bottom_sort = subst (HasSort d bottom) (sym new_sort) (has_least_sort d g.good bottom bottom_kinded)
