-- A loose class of a state that admits the partition of a unifier.
use Rattle.std.proofs.Common.{◌≡◌, ◌⊎◌, ℕ, ◌+◌, Bool, Option, Some, None, ◌<◌, ◌≤◌, List, [], ◌∷◌, length, map, ap, ◌∙◌, sym, subst, refl, inl, inr, arith, Contains, slice_index_or}
use Rattle.std.specs.Prelude.{Any}
use Rattle.std.proofs.lemmas.Bool.{cases_lt}
use Rattle.std.proofs.lemmas.List.Elements.{All-contains}
use Rattle.fvn_base.proofs.Membership.{contains_cases, contains_none, contains_map}
use Rattle.fvn_terms.specs.declared.plain.OpId.{OpId}
use Rattle.fvn_terms.specs.declared.declarations.Declarations.{Declarations}
use Rattle.fvn_terms.specs.Term.{Term, none, pack}
use Rattle.fvn_terms.specs.Substitution.{Substitution, apply}
use Rattle.fvn_terms.specs.Equality.{BEqual}
use Rattle.fvn_terms.specs.Unifiers.{Problem}
use Rattle.fvn_forms.specs.Good.{IsGood}
use Rattle.fvn_flat.specs.Problems.{IsProblem}
use Rattle.fvn_flat.specs.SolvedLists.{IsKindUnifier}
use Rattle.fvn_combine_nodes.specs.Table.{NodeTable, IsOver, IsWellMade, IsTableOf, IsUnitOf, term_at}
use Rattle.fvn_combine_nodes.specs.States.{Admits, IsClosed, class_of}
use Rattle.fvn_combine_nodes.specs.Unifiers.{value_at, kernel, Partitions}
use Rattle.fvn_combine_nodes.specs.declared.state.State.{State}
use Rattle.fvn_combine_nodes.proofs.Admitting.{named_within, admits_same}
use Rattle.fvn_combine_nodes.proofs.Kernels.{unifier_partitions}
use Rattle.fvn_combine_nodes.proofs.Nodes.{application_at, arguments_within}
use Rattle.fvn_combine_inferring.specs.Sorted.{GoWithSorts}
use Rattle.fvn_combine_loose.specs.Loose.{height_of, StandsIn, IsRaised, IsIdle, IsHeaded, IsLoose}

-- one of two numbers
of_two : (a b c : ℕ) → Contains (a ∷ b ∷ []) c → (a ≡ c) ⊎ (b ≡ c)
of_two a b c h = elim (contains_cases a (b ∷ []) c h) as (λ _. (a ≡ c) ⊎ (b ≡ c)) [
  | inl e ↦ inl e
  | inr r ↦ elim (contains_cases b [] c r) as (λ _. (a ≡ c) ⊎ (b ≡ c)) [
    | inl e ↦ inr e
    | inr n ↦ absurd (contains_none c n)
  ]
]

-- nothing is in an empty list
none_of_none : (P : ℕ → Type 0) → Any P [] → ⊥
none_of_none P a = let l = a.2 in omega (arith, l)

-- it is noted for a class that it is a sum, or nothing is
pub noted : (o : Option (OpId × ℕ)) → (o ≡ None) ⊎ ((f : OpId) × (p : ℕ) × (o ≡ Some (f, p)))
noted None = inl refl
noted (Some (f, p)) = inr (f, p, refl)

no_arguments : (T : ℕ → Term) (ks : List ℕ) → pack (map T ks) ≡ none → ks ≡ []
no_arguments T [] e = refl
no_arguments T (k ∷ ks) e = cc

-- the class of z is loose in a state that admits the partition of u
pub record Setting (d : Declarations) (problem : Problem) (t : NodeTable) (s : State) (z : ℕ) (heights : List ℕ) (u : Substitution) : Type 0 where
  pub good : IsGood d
  pub kinded : IsProblem d problem
  pub made : IsWellMade t
  pub table : IsTableOf d problem t
  pub closed : IsClosed d t s
  pub sums : List (Option (OpId × ℕ))
  pub sorted : Bool
  pub loose : IsLoose d t s sorted z heights sums
  pub unifier : IsKindUnifier d problem u
  pub admits : Admits s (kernel d u t.nodes)
  pub values_go : GoWithSorts d t s sorted (value_at d u t.nodes)

module _ {d : Declarations} {problem : Problem} {t : NodeTable} {s : State} {z : ℕ} {heights : List ℕ} {u : Substitution} (g : Setting d problem t s z heights u) where
  abbrev height : ℕ → ℕ
  height = height_of s heights

  pub named : (i : ℕ) → i < length t.nodes → i < length s.names
  named i l = let w = g.closed.whole in omega (arith, l, w)

  pub class_within : (i : ℕ) → i < length t.nodes → class_of s i < length t.nodes
  class_within i l = let w = g.closed.whole in let n = named_within s g.closed.naming i (named i l) in omega (arith, n, w)

  -- what names a class lies in it
  pub class_again : (i : ℕ) → i < length t.nodes → class_of s (class_of s i) ≡ class_of s i
  class_again i l = (g.closed.naming.named i (named i l)).1

  pub old_partitions : Partitions d t u
  old_partitions = unifier_partitions d g.good.fits problem g.kinded t g.made g.table u g.unifier

  -- nodes of one class have equal instances
  pub one_value : (i j : ℕ) → i < length t.nodes → j < length t.nodes → class_of s i ≡ class_of s j → BEqual d (apply u (term_at t.nodes i)) (apply u (term_at t.nodes j))
  one_value i j l m e = (old_partitions.exact i j l m).0 (admits_same s (kernel d u t.nodes) g.admits i j (named i l) (named j m) e)

  -- a class has one height
  pub same_height : (i j : ℕ) → class_of s i ≡ class_of s j → height i ≡ height j
  same_height i j e = ap (λ c. slice_index_or heights c 0) e

  -- what is noted of the class of a node
  abbrev pub entry : ℕ → Option (OpId × ℕ)
  entry i = slice_index_or g.sums (class_of s i) None

  pub same_entry : (i j : ℕ) → class_of s i ≡ class_of s j → entry i ≡ entry j
  same_entry i j e = ap (λ c. slice_index_or g.sums c None) e

  pub argument_within : (i : ℕ) (f : OpId) (ks : List ℕ) → IsOver t.nodes i f ks → (k : ℕ) → Contains ks k → k < length t.nodes
  argument_within i f ks over k c = All-contains (λ k. k < length t.nodes) ks k (arguments_within t.nodes g.made.ordered i f ks over) c

  -- what heads a class and is not idle is above its arguments
  pub head_raised : (i : ℕ) (m : IsHeaded d t s g.sorted i) → IsRaised s heights m.member m.arguments
  head_raised i m = elim (g.loose.raised m.member m.operator m.arguments m.over) as (λ _. IsRaised s heights m.member m.arguments) [
    | inl idle ↦ absurd (m.busy idle)
    | inr r ↦ r
  ]

  -- its argument is no higher than n where it is no higher than n + 1
  pub argument_at : (i : ℕ) (m : IsHeaded d t s g.sorted i) (k : ℕ) → Contains m.arguments k → (n : ℕ) → height m.member ≤ n + 1 → height k ≤ n
  argument_at i m k c n h = elim (cases_lt 0 (height k)) as (λ _. height k ≤ n) [
    | inl st ↦
        let l = All-contains (λ k. StandsIn s heights k → height k < height m.member) m.arguments k (head_raised i m).lower c st in
        omega (arith, l, h)
    | inr le ↦ omega (arith, le)
  ]

  -- an identity is listed with its operator
  pub unit_is : (f : OpId) (n : ℕ) → Contains t.units (f, n) → IsUnitOf d problem f (term_at t.nodes n)
  unit_is f n c = All-contains (λ (p : OpId × ℕ). IsUnitOf d problem p.0 (term_at t.nodes p.1)) t.units (f, n) g.table.units c

  pub unit_within : (f : OpId) (n : ℕ) → Contains t.units (f, n) → n < length t.nodes
  unit_within f n c = All-contains (λ (p : OpId × ℕ). p.1 < length t.nodes) t.units (f, n) g.made.units c

  -- its node is an operator over nothing
  unit_over : (f : OpId) (n : ℕ) → Contains t.units (f, n) → (e : OpId) × IsOver t.nodes n e []
  unit_over f n c =
      let unit = unit_is f n c in
      let r = application_at t.nodes g.made.ordered n unit.constant_of none (unit_within f n c) unit.is in
      (unit.constant_of, subst (λ ks. IsOver t.nodes n unit.constant_of ks) (no_arguments (term_at t.nodes) r.arguments r.terms) r.is)

  -- so the loose class does not stand in it
  pub unit_low : (f : OpId) (n : ℕ) → Contains t.units (f, n) → height n ≡ 0
  unit_low f n c = elim (cases_lt 0 (height n)) as (λ _. height n ≡ 0) [
    | inl st ↦ let r = unit_over f n c in elim (g.loose.raised n r.0 [] r.1) as (λ _. height n ≡ 0) [
      | inl idle ↦ elim idle.classes as (λ _. height n ≡ 0) [
        | inl e ↦ cc
        | inr e ↦ cc
      ]
      | inr w ↦ absurd (none_of_none (StandsIn s heights) (w.over st))
    ]
    | inr le ↦ omega (arith, le)
  ]

  -- an argument of an idle node is in its class, or the loose class does not stand in it
  idle_argument : (i : ℕ) (f : OpId) (ks : List ℕ) → IsIdle t s i f ks → (k : ℕ) → Contains ks k → (class_of s k ≡ class_of s i) ⊎ (height k ≡ 0)
  idle_argument i f ks idle k c = elim idle.classes as (λ _. (class_of s k ≡ class_of s i) ⊎ (height k ≡ 0)) [
    | inl e ↦ elim (of_two (class_of s i) (class_of s idle.identity) (class_of s k) (subst (λ l. Contains l (class_of s k)) e there)) as (λ _. (class_of s k ≡ class_of s i) ⊎ (height k ≡ 0)) [
      | inl a ↦ inl (sym a)
      | inr b ↦ inr (low b)
    ]
    | inr e ↦ elim (of_two (class_of s idle.identity) (class_of s i) (class_of s k) (subst (λ l. Contains l (class_of s k)) e there)) as (λ _. (class_of s k ≡ class_of s i) ⊎ (height k ≡ 0)) [
      | inl b ↦ inr (low b)
      | inr a ↦ inl (sym a)
    ]
  ]
    where
      there : Contains (map (class_of s) ks) (class_of s k)
      there = contains_map (class_of s) ks k c

      low : class_of s idle.identity ≡ class_of s k → height k ≡ 0
      low b = same_height k idle.identity (sym b) ∙ unit_low f idle.identity idle.listed

  -- no argument is higher than the whole
  pub argument_up_to : (i : ℕ) (f : OpId) (ks : List ℕ) → IsOver t.nodes i f ks → (k : ℕ) → Contains ks k → height k ≤ height i
  argument_up_to i f ks over k c = elim (g.loose.raised i f ks over) as (λ _. height k ≤ height i) [
    | inl idle ↦ elim (idle_argument i f ks idle k c) as (λ _. height k ≤ height i) [
      | inl e ↦ let h = same_height k i e in omega (arith, h)
      | inr low ↦ omega (arith, low)
    ]
    | inr r ↦ elim (cases_lt 0 (height k)) as (λ _. height k ≤ height i) [
      | inl st ↦ let l = All-contains (λ k. StandsIn s heights k → height k < height i) ks k r.lower c st in omega (arith, l)
      | inr le ↦ omega (arith, le)
    ]
  ]
