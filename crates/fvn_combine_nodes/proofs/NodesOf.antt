-- The nodes of a problem's terms and variables in its table, and their classes.
use Rattle.std.proofs.Common.{◌≡◌, ℕ, ◌<◌, [], ◌∷◌, ◌++◌, length, sym, ap, ◌∙◌, subst, inl, inr, arith, Contains, Some, slice_get}
use Rattle.std.proofs.lemmas.List.Elements.{All-contains, Contains-append_left, Contains-append_right, Contains-append_cases}
use Rattle.std.proofs.lemmas.Option.{slice_get_within}
use Rattle.fvn_base.proofs.Membership.{contains_later, contains_cases, map_contains}
use Rattle.fvn_base.proofs.Options.{Some-injective}
use Rattle.fvn_terms.specs.declared.plain.Var.{Var as Variable}
use Rattle.fvn_terms.specs.declared.plain.OpId.{OpId}
use Rattle.fvn_terms.specs.declared.declarations.Declarations.{Declarations}
use Rattle.fvn_terms.specs.Term.{Term, Terms, var, app, none, more}
use Rattle.fvn_terms.specs.Signature.{axioms}
use Rattle.fvn_terms.specs.Equality.{constant, identity}
use Rattle.fvn_terms.specs.Unifiers.{Problem}
use Rattle.fvn_flat.specs.Problems.{subterms, subterms_among, subterms_of, variables, variables_among, variables_of}
use Rattle.fvn_flat.specs.Partitions.{IsNode}
use Rattle.fvn_combine_nodes.specs.Table.{NodeTable, IsWellMade, IsTableOf, IsUnitOf, nothing, terms_of, term_at}
use Rattle.fvn_combine_nodes.specs.Laws.{class_at}
use Rattle.fvn_combine_nodes.specs.declared.table.Node.TheVariants.{Var}
use Rattle.fvn_combine_nodes.proofs.Nodes.{length-terms_of, term_at-variable, variable_at}
use Rattle.fvn_combine_nodes.proofs.Terms.{once_contains, own_place}
use Rattle.fvn_combine_nodes.proofs.Subterms.{listed_subterm}
use Rattle.fvn_combine_nodes.proofs.Lists.{only_one}

-- a variable of a problem is a subterm
mutual
  variable_subterm : (t : Term) (x : Variable) → Contains (variables t) x → Contains (subterms t) (var x)
  variable_subterm (var y) x c = (0, omega arith, ap var (only_one x y c))
  variable_subterm (app f ts) x c = contains_later (app f ts) (subterms_among ts) (var x) (variable_among ts x c)

  variable_among : (ts : Terms) (x : Variable) → Contains (variables_among ts) x → Contains (subterms_among ts) (var x)
  variable_among none x (k, l, e) = absurd (omega (arith, l))
  variable_among (more t ts) x c = elim (Contains-append_cases (variables t) (variables_among ts) x c) [
    | inl l ↦ Contains-append_left (subterms t) (subterms_among ts) (var x) (variable_subterm t x l)
    | inr r ↦ Contains-append_right (subterms t) (subterms_among ts) (var x) (variable_among ts x r)
  ]

pub variable_of_problem : (problem : Problem) (x : Variable) → Contains (variables_of problem) x → Contains (subterms_of problem) (var x)
variable_of_problem [] x (k, l, e) = absurd (omega (arith, l))
variable_of_problem (p ∷ problem) x c = elim (Contains-append_cases (variables p.0 ++ variables p.1) (variables_of problem) x c) [
  | inl l ↦
      Contains-append_left (subterms p.0 ++ subterms p.1) (subterms_of problem) (var x)
      (elim (Contains-append_cases (variables p.0) (variables p.1) x l) [
        | inl a ↦ Contains-append_left (subterms p.0) (subterms p.1) (var x) (variable_subterm p.0 x a)
        | inr b ↦ Contains-append_right (subterms p.0) (subterms p.1) (var x) (variable_subterm p.1 x b)
      ])
  | inr r ↦ Contains-append_right (subterms p.0 ++ subterms p.1) (subterms_of problem) (var x) (variable_of_problem problem x r)
]

-- and a subterm that is a variable is one of the problem
mutual
  subterm_variable : (t : Term) (x : Variable) → Contains (subterms t) (var x) → Contains (variables t) x
  subterm_variable (var y) x c = let same : var y ≡ var x = only_one (var x) (var y) c in (0, omega arith, cc)
  subterm_variable (app f ts) x c = elim (contains_cases (app f ts) (subterms_among ts) (var x) c) [
    | inl e ↦ absurd (let p : app f ts ≡ var x = e in cc)
    | inr r ↦ among_variable ts x r
  ]

  among_variable : (ts : Terms) (x : Variable) → Contains (subterms_among ts) (var x) → Contains (variables_among ts) x
  among_variable none x (k, l, e) = absurd (omega (arith, l))
  among_variable (more t ts) x c = elim (Contains-append_cases (subterms t) (subterms_among ts) (var x) c) [
    | inl l ↦ Contains-append_left (variables t) (variables_among ts) x (subterm_variable t x l)
    | inr r ↦ Contains-append_right (variables t) (variables_among ts) x (among_variable ts x r)
  ]

pub problem_variable : (problem : Problem) (x : Variable) → Contains (subterms_of problem) (var x) → Contains (variables_of problem) x
problem_variable [] x (k, l, e) = absurd (omega (arith, l))
problem_variable (p ∷ problem) x c = elim (Contains-append_cases (subterms p.0 ++ subterms p.1) (subterms_of problem) (var x) c) [
  | inl l ↦
      Contains-append_left (variables p.0 ++ variables p.1) (variables_of problem) x
      (elim (Contains-append_cases (subterms p.0) (subterms p.1) (var x) l) [
        | inl a ↦ Contains-append_left (variables p.0) (variables p.1) x (subterm_variable p.0 x a)
        | inr b ↦ Contains-append_right (variables p.0) (variables p.1) x (subterm_variable p.1 x b)
      ])
  | inr r ↦ Contains-append_right (variables p.0 ++ variables p.1) (variables_of problem) x (problem_variable problem x r)
]

-- the node of a term
pub record NodeOf (t : NodeTable) (u : Term) : Type 0 where
  pub number : ℕ
  pub within : number < length t.nodes
  pub is : term_at t.nodes number ≡ u

module _ {d : Declarations} {problem : Problem} {t : NodeTable} (made : IsWellMade t) (table : IsTableOf d problem t) where
  -- a subterm stands at a node that is listed
  pub listed_node : (u : Term) → Contains (subterms_of problem) u → (i : ℕ) × (Contains t.subterms i × (term_at t.nodes i ≡ u))
  listed_node u c = map_contains (term_at t.nodes) t.subterms u (subst (λ l. Contains l u) (sym table.subterms) (once_contains (subterms_of problem) u c))

  pub subterm_within : (i : ℕ) → Contains t.subterms i → i < length t.nodes
  subterm_within i c = All-contains (λ i. i < length t.nodes) t.subterms i made.subterms c

  unit_at : (p : OpId × ℕ) → Contains t.units p → IsUnitOf d problem p.0 (term_at t.nodes p.1)
  unit_at p c = All-contains (λ p. IsUnitOf d problem p.0 (term_at t.nodes p.1)) t.units p table.units c

  unit_within : (p : OpId × ℕ) → Contains t.units p → p.1 < length t.nodes
  unit_within p c = All-contains (λ p. p.1 < length t.nodes) t.units p made.units c

  -- each term of the problem has a node
  pub node_of : (u : Term) → IsNode d problem u → NodeOf t u
  node_of u (inl c) = let r = listed_node u c in record { number = r.0; within = subterm_within r.0 r.1.0; is = r.1.1 }
  node_of u (inr unit) =
      let found = table.all_units unit.operator unit.constant_of unit.heads unit.identity in
      let p = found.1 in
      let c : Contains t.units p = (found.0, found.2, found.3) in
      let entry = unit_at p c in
      let same = Some-injective (sym entry.identity ∙ ap (λ f. identity (axioms d f)) found.4 ∙ unit.identity) in
      record { number = p.1; within = unit_within p c; is = entry.is ∙ ap constant same ∙ sym unit.is }

  -- the term of a node
  pub is_node : (i : ℕ) → i < length t.nodes → IsNode d problem (term_at t.nodes i)
  is_node i h = elim (table.only i h) [
    | inl c ↦ inl (listed_subterm d problem t table i c)
    | inr a ↦
        let p = a.1 in
        let entry = unit_at p (a.0, a.2, a.3) in
        inr record {
          operator = p.0;
          heads = entry.heads;
          constant_of = entry.constant_of;
          identity = entry.identity;
          is = ap (term_at t.nodes) (sym a.4) ∙ entry.is;
        }
  ]

  -- a node's class is that of its term
  pub own_class : (class : ℕ → ℕ) (i : ℕ) → i < length t.nodes → class_at t class (term_at t.nodes i) ≡ class i
  own_class class i h = ap class (own_place (terms_of t.nodes) made.distinct i nothing (let l = length-terms_of t.nodes in omega (arith, l, h)))

  -- a variable of the problem has a node
  pub variable_node : (x : Variable) → Contains (variables_of problem) x → NodeOf t (var x)
  variable_node x c = node_of (var x) (inl (variable_of_problem problem x c))

  pub variable_place : (x : Variable) → Contains (variables_of problem) x → (i : ℕ) × (i < length t.nodes) × (slice_get t.nodes i ≡ Some (Var x)) × (term_at t.nodes i ≡ var x)
  variable_place x c = let n = variable_node x c in (n.number, n.within, variable_at t.nodes made.ordered n.number x n.within n.is, n.is)

  -- a node that is a variable is one of the problem
  pub node_variable : (i : ℕ) (x : Variable) → slice_get t.nodes i ≡ Some (Var x) → Contains (variables_of problem) x
  node_variable i x e =
      let is = term_at-variable t.nodes i x e in
      elim (is_node i (slice_get_within t.nodes i (Var x) e)) [
        | inl c ↦ problem_variable problem x (subst (Contains (subterms_of problem)) is c)
        | inr u ↦ absurd (let p : var x ≡ constant u.constant_of = sym is ∙ u.is in cc)
      ]
