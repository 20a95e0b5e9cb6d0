-- A leaf that admits a unifier's partition, with a choice that the unifier's values obey, and the kinds of the values.
use Rattle.std.proofs.Common.{◌≡◌, ℕ, ◌<◌, List, [], ◌∷◌, length, sym, ap, ◌∙◌, subst, inl, inr, arith, Contains, Option}
use Rattle.std.proofs.lemmas.Option.{slice_get_within}
use Rattle.fvn_base.proofs.Membership.{contains_cases, contains_none}
use Rattle.fvn_terms.specs.declared.plain.OpId.{OpId}
use Rattle.fvn_terms.specs.declared.plain.SortId.{SortId}
use Rattle.fvn_terms.specs.declared.declarations.Rank.{Rank}
use Rattle.fvn_terms.specs.declared.declarations.Declarations.{Declarations}
use Rattle.fvn_terms.specs.Term.{Term, var, app}
use Rattle.fvn_terms.specs.Substitution.{Substitution, apply}
use Rattle.fvn_terms.specs.Signature.{kind, declared, IsSort, HasKind}
use Rattle.fvn_terms.specs.Equality.{two}
use Rattle.fvn_terms.specs.Unifiers.{Problem}
use Rattle.fvn_terms.proofs.Equal.{HasKind-apply}
use Rattle.fvn_forms.specs.Flat.{FlatTerm, plain}
use Rattle.fvn_forms.specs.Good.{IsGood, IsKinded}
use Rattle.fvn_forms.proofs.Eval.{canon_respects}
use Rattle.fvn_forms.proofs.KindsKept.{both_of_kind, kind_unique}
use Rattle.fvn_forms.proofs.ToCanon.{canon_of_kind}
use Rattle.fvn_flat.specs.Problems.{IsProblem}
use Rattle.fvn_flat.specs.SolvedLists.{Plan, IsKindUnifier}
use Rattle.fvn_combine_nodes.specs.Table.{NodeTable, IsWellMade, IsTableOf, term_at}
use Rattle.fvn_combine_nodes.specs.States.{Admits, class_of}
use Rattle.fvn_combine_nodes.specs.Unifiers.{value_at, kernel, Partitions}
use Rattle.fvn_combine_nodes.specs.declared.state.State.{State}
use Rattle.fvn_combine_nodes.specs.declared.table.Node.TheVariants.{App}
use Rattle.fvn_combine_nodes.proofs.Admitting.{named_within}
use Rattle.fvn_combine_nodes.proofs.Nodes.{term_at-over, arguments_within}
use Rattle.fvn_combine_leaves.specs.Leaves.{IsLeaf, Uses}
use Rattle.fvn_combine_choices.specs.Choosing.{Systems, Choice, AreSystems}
use Rattle.fvn_combine_choices.specs.Plans.{IsPlanBy}
use Rattle.fvn_combine_complete.specs.CoveringChoices.{IsAfterNumbersOf}
use Rattle.fvn_combine_complete.specs.Obeyed.{AreObeying}
use Rattle.fvn_combine_choices.specs.Tables.{HasSums}
use Rattle.fvn_combine_complete.specs.Obeying.{IsTold, GoWith}
use Rattle.fvn_combine_nodes.proofs.Subterms.{node_kinded}
use Rattle.fvn_combine_complete.proofs.Identities.{own_name}

-- a leaf that admits a unifier's partition, a choice that the unifier's values obey, and a plan of the choice
pub record Setting (d : Declarations) (problem : Problem) (t : NodeTable) (s : State) (y : Systems) (u : Substitution) (c : Choice) (first next : ℕ) (plan : Plan) : Type 0 where
  pub good : IsGood d
  pub kinded : IsProblem d problem
  pub made : IsWellMade t
  pub table : IsTableOf d problem t
  pub has : HasSums d t
  pub heads : List (Option OpId)
  pub leaf : IsLeaf d t heads s
  pub told : IsTold d t (class_of s)
  pub systems : AreSystems d t (class_of s) y
  pub unifier : IsKindUnifier d problem u
  pub partitions : Partitions d t u
  pub admits : Admits s (kernel d u t.nodes)
  pub go_with : GoWith d t s (value_at d u t.nodes)
  pub obeying : AreObeying d t (class_of s) y c (value_at d u t.nodes)
  pub after : IsAfterNumbersOf problem first
  pub plan_by : IsPlanBy d t (class_of s) y c first next plan

-- the kind of a term is a sort, and its own kind
pub own_kind : (d : Declarations) → IsKinded d → (t : Term) (k : SortId) → HasKind d t k → IsSort d k × (kind d k ≡ k)
own_kind d kinded (var x) k h = (subst (IsSort d) h.1 (kinded.listed x.sort h.0), ap (kind d) (sym h.1) ∙ kinded.own x.sort ∙ h.1)
own_kind d kinded (app f ts) k h = (
  subst (IsSort d) h.result (kinded.listed h.rank.result (kinded.ranks f h.rank h.listed).1),
  ap (kind d) (sym h.result) ∙ kinded.own h.rank.result ∙ h.result,
)

module _ {d : Declarations} {problem : Problem} {t : NodeTable} {s : State} {y : Systems} {u : Substitution} {c : Choice} {first next : ℕ} {plan : Plan} (g : Setting d problem t s y u c first next plan) where
  abbrev class : ℕ → ℕ
  class = class_of s

  abbrev values : ℕ → FlatTerm
  values = value_at d u t.nodes

  pub value_kinded : (i : ℕ) (k : SortId) → HasKind d (term_at t.nodes i) k → HasKind d (plain (values i)) k
  value_kinded i k h = canon_of_kind d g.good.fits (apply u (term_at t.nodes i)) k (HasKind-apply d u g.unifier.0 (term_at t.nodes i) k h)

  pub class_within : (i : ℕ) → i < length t.nodes → class i < length t.nodes
  class_within i l = let w = g.leaf.closed.whole in let n = named_within s g.leaf.closed.naming i (omega (arith, l, w)) in omega (arith, n, w)

  -- the value of a node is that of its class
  pub same_value : (i : ℕ) → i < length t.nodes → values (class i) ≡ values i
  same_value i l =
      let w = g.leaf.closed.whole in
      sym (canon_respects d ((g.partitions.exact i (class i) l (class_within i l)).0 (g.admits.together i (omega (arith, l, w)))))

  -- what f gives, where it uses a class
  pub column_rank : (f : OpId) (k : ℕ) → Uses d t class f k → (r : Rank) × Contains (declared d f).ranks r
  column_rank f k uses =
      let i = uses.column.sum in
      let over = uses.column.over in
      let h = node_kinded d g.good.fits problem g.kinded t g.table i (slice_get_within t.nodes i (App f (uses.column.left ∷ uses.column.right ∷ [])) over) in
      let kinded : HasKind d (two f (term_at t.nodes uses.column.left) (term_at t.nodes uses.column.right)) h.0 =
      subst (λ v. HasKind d v h.0) (term_at-over t.nodes g.made.ordered i f (uses.column.left ∷ uses.column.right ∷ []) over) h.1
      in
      (kinded.rank, kinded.listed)

  -- the values of the classes that f uses are of the kind that it gives
  pub column_kinded : (f : OpId) (k : ℕ) → Uses d t class f k → (r : Rank) → Contains (declared d f).ranks r → HasKind d (plain (values k)) (kind d r.result)
  column_kinded f k uses r listed =
      let i = uses.column.sum in
      let a = uses.column.left in
      let b = uses.column.right in
      let over = uses.column.over in
      let within = slice_get_within t.nodes i (App f (a ∷ b ∷ [])) over in
      let args = arguments_within t.nodes g.made.ordered i f (a ∷ b ∷ []) over in
      let h = node_kinded d g.good.fits problem g.kinded t g.table i within in
      let is = term_at-over t.nodes g.made.ordered i f (a ∷ b ∷ []) over in
      let whole : HasKind d (two f (term_at t.nodes a) (term_at t.nodes b)) h.0 = subst (λ v. HasKind d v h.0) is h.1 in
      let gives : h.0 ≡ kind d r.result = sym whole.result ∙ (g.good.fits.agree f whole.rank r whole.listed listed).1 in
      let both = both_of_kind d g.good.fits f uses.associative (term_at t.nodes a) (term_at t.nodes b) h.0 whole in
      elim (contains_cases (class i) (class a ∷ class b ∷ []) k uses.column.among) [
        | inl e ↦ at i h.0 gives within h.1 e
        | inr m ↦ elim (contains_cases (class a) (class b ∷ []) k m) [
          | inl e ↦ at a h.0 gives (args 0 0 (omega arith)) both.0 e
          | inr n ↦ elim (contains_cases (class b) [] k n) [
            | inl e ↦ at b h.0 gives (args 1 0 (omega arith)) both.1 e
            | inr z ↦ absurd (contains_none k z)
          ]
        ]
      ]
    where
      at : (i : ℕ) (q : SortId) → q ≡ kind d r.result → i < length t.nodes → HasKind d (term_at t.nodes i) q → class i ≡ k → HasKind d (plain (values k)) (kind d r.result)
      at i q gives l h e = subst (λ n. HasKind d (plain (values n)) (kind d r.result)) e (subst (λ v. HasKind d (plain v) (kind d r.result)) (sym (same_value i l)) (value_kinded i (kind d r.result) (subst (HasKind d (term_at t.nodes i)) gives h)))

  -- a class that is used is a node's name
  pub column_within : (f : OpId) (k : ℕ) → Uses d t class f k → k < length t.nodes
  column_within f k uses = (own_name d t g.made s g.leaf.closed f k uses.column).within

  -- names of classes
  pub name_kinded : (k : ℕ) → k < length t.nodes → IsSort d (plan.name k).sort × (kind d (plan.name k).sort ≡ (plan.name k).sort)
  name_kinded k l = own_kind d g.good.kinded (term_at t.nodes k) (plan.name k).sort (g.plan_by.names k l).sort

  pub name_of_kind : (k : ℕ) → k < length t.nodes → HasKind d (plain (values k)) (plan.name k).sort
  name_of_kind k l = value_kinded k (plan.name k).sort (g.plan_by.names k l).sort

  pub names_apart : (k j : ℕ) → k < length t.nodes → j < length t.nodes → plan.name k ≡ plan.name j → k ≡ j
  names_apart k j l m e =
      let a = (g.plan_by.names k l).number.is in
      let b = (g.plan_by.names j m).number.is in
      let n = ap (λ x. x.name) e in
      omega (arith, a, b, n)

  -- the sort of a used class's name is the kind that f gives
  pub column_name : (f : OpId) (k : ℕ) → Uses d t class f k → (r : Rank) → Contains (declared d f).ranks r → (plan.name k).sort ≡ kind d r.result
  column_name f k uses r listed = kind_unique d g.good.fits (plain (values k)) (plan.name k).sort (kind d r.result) (name_of_kind k (column_within f k uses)) (column_kinded f k uses r listed)
