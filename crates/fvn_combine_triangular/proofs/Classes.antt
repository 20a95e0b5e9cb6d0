-- The names of classes: their numbers and their kinds.
use Rattle.std.proofs.Common.{◌≡◌, ℕ, ◌<◌, List, [], ◌∷◌, length, sym, ap, ◌∙◌, subst, inl, inr, arith, Contains}
use Rattle.std.proofs.lemmas.List.{get_or_default}
use Rattle.std.proofs.lemmas.Option.{slice_get_within}
use Rattle.fvn_base.proofs.Membership.{contains_cases, contains_none}
use Rattle.fvn_terms.specs.declared.plain.Var.{Var as Variable}
use Rattle.fvn_terms.specs.declared.plain.OpId.{OpId}
use Rattle.fvn_terms.specs.declared.plain.SortId.{SortId}
use Rattle.fvn_terms.specs.declared.declarations.Rank.{Rank}
use Rattle.fvn_terms.specs.declared.declarations.Declarations.{Declarations}
use Rattle.fvn_terms.specs.Term.{var}
use Rattle.fvn_terms.specs.Signature.{kind, declared, axioms, IsSort, HasKind, IsTerm}
use Rattle.fvn_terms.specs.Equality.{IsAssociative}
use Rattle.fvn_forms.specs.Good.{IsGood}
use Rattle.fvn_forms.proofs.KindsKept.{both_of_kind}
use Rattle.fvn_combine_nodes.specs.Table.{NodeTable, IsWellMade, term_at}
use Rattle.fvn_combine_nodes.specs.States.{IsClosed, class_of}
use Rattle.fvn_combine_nodes.specs.declared.state.State.{State}
use Rattle.fvn_combine_nodes.specs.declared.table.Node.TheVariants.{App}
use Rattle.fvn_combine_nodes.proofs.Nodes.{term_at-over, arguments_within}
use Rattle.fvn_combine_nodes.proofs.Admitting.{named_within}
use Rattle.fvn_combine_systems.specs.NodeSystems.{IsNodeColumn}
use Rattle.fvn_combine_systems.proofs.Members.{column_of_node}
use Rattle.fvn_combine_choices.specs.Plans.{AreOfOneKind, IsNameOf}
use Rattle.fvn_combine_choices.proofs.KindsOf.{kind_itself, IsKindOf}
use Rattle.fvn_combine_triangular.specs.inner.Planning.{name_in, no_name, AreNames, AreKinded, AreApart}

module _ {d : Declarations} (good : IsGood d) where
  -- a variable whose sort is the kind of what f gives
  pub kind_of_new : (f : OpId) (r : Rank) → Contains (declared d f).ranks r → (x : Variable) → x.sort ≡ kind d r.result → HasKind d (var x) (kind d r.result)
  kind_of_new f r m x e = (
    subst (IsSort d) (sym e) (good.kinded.listed r.result (good.kinded.ranks f r m).1),
    ap (kind d) e ∙ good.kinded.own r.result,
  )

module _ {d : Declarations} {t : NodeTable} (made : IsWellMade t) {s : State} (closed : IsClosed d t s) where
  pub class_within : (i : ℕ) → i < length t.nodes → class_of s i < length t.nodes
  class_within i l =
      let w = closed.whole in
      let n = named_within s closed.naming i (omega (arith, l, w)) in
      omega (arith, n, w)

  -- the name of a class is a node in it
  pub class_itself : (i : ℕ) → i < length t.nodes → class_of s (class_of s i) ≡ class_of s i
  class_itself i l = let w = closed.whole in (closed.naming.named i (omega (arith, l, w))).1

  -- the class of a column is that of a node
  pub column_within : (f : OpId) (k : ℕ) → IsNodeColumn t (class_of s) f k → k < length t.nodes
  column_within f k m = let n = column_of_node made.ordered f k m in subst (λ k. k < length t.nodes) n.1.1 (class_within n.0 n.1.0)

  module _ (good : IsGood d) (kinded : (i : ℕ) → i < length t.nodes → IsTerm d (term_at t.nodes i)) (kinds : AreOfOneKind d t (class_of s)) {first : ℕ} {names : List Variable} (are : AreNames d t first names) where
    name_sort : (k : ℕ) → k < length t.nodes → (q : SortId) → HasKind d (term_at t.nodes k) q → HasKind d (var (name_in names k)) q
    name_sort k l q r =
        let e = (are.each k l).sort q r in
        let own = kind_itself good (term_at t.nodes k) q r in
        (subst (IsSort d) (sym e) own.0, ap (kind d) e ∙ own.1)

    -- the name of a class has the kind of each node in it
    pub name_kind : (i : ℕ) (q : SortId) → i < length t.nodes → HasKind d (term_at t.nodes i) q → HasKind d (var (name_in names (class_of s i))) q
    name_kind i q l r = name_sort (class_of s i) (class_within i l) q (kinds i (class_of s i) q l (class_within i l) (sym (class_itself i l)) r)

    pub names_kinded : AreKinded d t (class_of s) names
    names_kinded = record { as_many = are.as_many; terms = kinded; named = name_kind }

    pub name_is : (k : ℕ) → k < length t.nodes → IsNameOf d t first k (name_in names k)
    name_is k l =
        let n = are.each k l in
        let r = kinded k l in
        record { number = record { fresh = n.fresh; is = n.number }; sort = subst (HasKind d (term_at t.nodes k)) (sym (n.sort r.0 r.1)) r.1 }

    -- names of classes differ
    pub names_differ : (k j : ℕ) → k < length t.nodes → j < length t.nodes → name_in names k ≡ name_in names j → k ≡ j
    names_differ k j lk lj e =
        let a = (are.each k lk).number in
        let b = (are.each j lj).number in
        let n : (name_in names k).name ≡ (name_in names j).name = ap (λ (x : Variable). x.name) e in
        omega (arith, a, b, n)

    pub names_apart : AreApart names
    names_apart i j x l m e =
        let w = are.as_many in
        let a = get_or_default names i x no_name (omega (arith, l, m)) in
        let b = get_or_default names j x no_name m in
        let same = names_differ i j (omega (arith, l, m, w)) (omega (arith, m, w)) (sym a ∙ e ∙ b) in
        omega (arith, l, same)

    -- the name of a column of f's sum system has the kind of f
    pub column_kind : (f : OpId) → IsAssociative (axioms d f) → (k : ℕ) → IsNodeColumn t (class_of s) f k → (q : SortId) × (HasKind d (var (name_in names k)) q × IsKindOf good f q)
    column_kind f assoc k m =
        let within = slice_get_within t.nodes m.sum (App f (m.left ∷ m.right ∷ [])) m.over in
        let args = arguments_within t.nodes made.ordered m.sum f (m.left ∷ m.right ∷ []) m.over in
        let r = kinded m.sum within in
        let over = subst (λ u. HasKind d u r.0) (term_at-over t.nodes made.ordered m.sum f (m.left ∷ m.right ∷ []) m.over) r.1 in
        let both = both_of_kind d good.fits f assoc (term_at t.nodes m.left) (term_at t.nodes m.right) r.0 over in
        let named : HasKind d (var (name_in names k)) r.0 =
        elim (contains_cases (class_of s m.sum) (class_of s m.left ∷ class_of s m.right ∷ []) k m.among) [
          | inl e ↦ subst (λ k. HasKind d (var (name_in names k)) r.0) e (name_kind m.sum r.0 within r.1)
          | inr o ↦ elim (contains_cases (class_of s m.left) (class_of s m.right ∷ []) k o) [
            | inl e ↦ subst (λ k. HasKind d (var (name_in names k)) r.0) e (name_kind m.left r.0 (args 0 0 (omega arith)) both.0)
            | inr p ↦ elim (contains_cases (class_of s m.right) [] k p) [
              | inl e ↦ subst (λ k. HasKind d (var (name_in names k)) r.0) e (name_kind m.right r.0 (args 1 0 (omega arith)) both.1)
              | inr z ↦ absurd (contains_none k z)
            ]
          ]
        ]
        in
        (r.0, (named, record { rank = over.rank; listed = over.listed; gives = over.result }))
