-- Classes that are noted as sums over a class: their values hold its summands, and are sums of its value and a rest.
use Rattle.std.proofs.Common.{◌≡◌, ◌⊎◌, ℕ, zero, suc, ◌+◌, ◌<◌, ◌≤◌, Bool, List, [], ◌∷◌, length, map, refl, ap, ◌∙◌, sym, subst, inl, inr, arith, Contains, Option, Some, slice_get}
use Rattle.std.proofs.lemmas.Option.{slice_get_within}
use Rattle.std.proofs.lemmas.List.Elements.{All-contains}
use Rattle.fvn_base.proofs.Membership.{contains_here, contains_later, map_contains}
use Rattle.fvn_terms.specs.declared.plain.Var.{Var as Variable}
use Rattle.fvn_terms.specs.declared.plain.OpId.{OpId}
use Rattle.fvn_terms.specs.declared.plain.SortId.{SortId}
use Rattle.fvn_terms.specs.declared.declarations.Declarations.{Declarations}
use Rattle.fvn_terms.specs.Term.{Term, app, pack}
use Rattle.fvn_terms.specs.Substitution.{Substitution, apply}
use Rattle.fvn_terms.specs.Signature.{kind, axioms, HasKind, IsTerm}
use Rattle.fvn_terms.specs.Sorts.{HasSort}
use Rattle.fvn_terms.specs.Equality.{IsAssociative}
use Rattle.fvn_terms.specs.Unifiers.{Problem}
use Rattle.fvn_terms.proofs.Equal.{HasKind-apply}
use Rattle.fvn_forms.specs.Flat.{FlatTerm}
use Rattle.fvn_forms.specs.InOrder.{count}
use Rattle.fvn_forms.specs.Canon.{parts}
use Rattle.fvn_forms.specs.Good.{IsGood}
use Rattle.fvn_forms.proofs.Eval.{canon_respects}
use Rattle.fvn_forms.proofs.KindsKept.{kind_unique, both_of_kind, b_equal_keeps_kind}
use Rattle.fvn_forms.proofs.LeastSort.{least_sort_below}
use Rattle.fvn_forms.proofs.SortOrder.{AtOrBelow-one_kind}
use Rattle.fvn_combine_nodes.specs.Table.{NodeTable, IsOver, term_at}
use Rattle.fvn_combine_nodes.specs.States.{class_of}
use Rattle.fvn_combine_nodes.specs.Unifiers.{value_at}
use Rattle.fvn_combine_nodes.specs.declared.state.State.{State}
use Rattle.fvn_combine_nodes.specs.declared.table.Node.{Node}
use Rattle.fvn_combine_nodes.specs.declared.table.Node.TheVariants.{Var, App}
use Rattle.fvn_combine_nodes.proofs.Nodes.{node_at, term_at-variable, term_at-over}
use Rattle.fvn_combine_nodes.proofs.Subterms.{node_kinded}
use Rattle.fvn_combine_loose.specs.Loose.{height_of, StandsIn, IsRaised, IsIdle, IsSumOver, Bears, IsBearing, IsSumSort, IsHeaded, HaveSort}
use Rattle.fvn_combine_loose.proofs.Mapped.{apply_mapped}
use Rattle.fvn_combine_loose.proofs.NewVariable.{least_kind}
use Rattle.fvn_combine_loose.proofs.Rests.{Gives, Splits, often, often_two, splits}
use Rattle.fvn_combine_loose.proofs.Setting.{Setting, class_within, class_again, one_value, same_height, same_entry, argument_within, head_raised}

-- of two nodes, the one that bears p, and the other, in which the loose class does not stand
pub record Borne (s : State) (heights : List ℕ) (sums : List (Option (OpId × ℕ))) (f : OpId) (p : ℕ) (ks : List ℕ) : Type 0 where
  pub bearer : ℕ
  pub other : ℕ
  pub are : (ks ≡ bearer ∷ other ∷ []) ⊎ (ks ≡ other ∷ bearer ∷ [])
  pub bears : Bears s heights sums f p bearer
  pub low : height_of s heights other ≡ 0

pub borne : (s : State) (heights : List ℕ) (sums : List (Option (OpId × ℕ))) (f : OpId) (p : ℕ) (ks : List ℕ) → IsBearing s heights sums f p ks → Borne s heights sums f p ks
borne s heights sums f p ks b = elim b.one as (λ _. Borne s heights sums f p ks) [
  | inl w ↦ record { bearer = b.first; other = b.second; are = inl b.are; bears = w.0; low = w.1 }
  | inr w ↦ record { bearer = b.second; other = b.first; are = inr b.are; bears = w.1; low = w.0 }
]

-- both are listed
pub bearer_listed : (ks : List ℕ) (a b : ℕ) → (ks ≡ a ∷ b ∷ []) ⊎ (ks ≡ b ∷ a ∷ []) → Contains ks a
bearer_listed ks a b (inl e) = subst (λ l. Contains l a) (sym e) (contains_here a (b ∷ []))
bearer_listed ks a b (inr e) = subst (λ l. Contains l a) (sym e) (contains_later b (a ∷ []) a (contains_here a []))

pub other_listed : (ks : List ℕ) (a b : ℕ) → (ks ≡ a ∷ b ∷ []) ⊎ (ks ≡ b ∷ a ∷ []) → Contains ks b
other_listed ks a b (inl e) = subst (λ l. Contains l b) (sym e) (contains_later a (b ∷ []) b (contains_here b []))
other_listed ks a b (inr e) = subst (λ l. Contains l b) (sym e) (contains_here b (a ∷ []))

module _ (d : Declarations) (good : IsGood d) (f : OpId) (assoc : IsAssociative (axioms d f)) (T : ℕ → Term) (ks : List ℕ) (a b : ℕ) where
  -- the summands of f over two
  pub often_over : (q : FlatTerm) → (ks ≡ a ∷ b ∷ []) ⊎ (ks ≡ b ∷ a ∷ []) → often d f q (app f (pack (map T ks))) ≡ often d f q (T a) + often d f q (T b)
  often_over q (inl e) = subst (λ l. often d f q (app f (pack (map T l))) ≡ often d f q (T a) + often d f q (T b)) (sym e) (often_two d f good.fits assoc q (T a) (T b))
  often_over q (inr e) =
      subst (λ l. often d f q (app f (pack (map T l))) ≡ often d f q (T a) + often d f q (T b)) (sym e)
      (let m = often_two d f good.fits assoc q (T b) (T a) in omega (arith, m))

  -- the first has the kind of the whole
  pub kind_over : (k : SortId) → HasKind d (app f (pack (map T ks))) k → (ks ≡ a ∷ b ∷ []) ⊎ (ks ≡ b ∷ a ∷ []) → HasKind d (T a) k
  kind_over k h (inl e) = (both_of_kind d good.fits f assoc (T a) (T b) k (subst (λ l. HasKind d (app f (pack (map T l))) k) e h)).0
  kind_over k h (inr e) = (both_of_kind d good.fits f assoc (T b) (T a) k (subst (λ l. HasKind d (app f (pack (map T l))) k) e h)).1

-- a term has a sort of its kind
pub kind_of_sort : (d : Declarations) → IsGood d → (v : Term) (k q : SortId) → HasKind d v k → HasSort d v q → kind d q ≡ k
kind_of_sort d good v k q h has = sym (AtOrBelow-one_kind d good.kinded (least_sort_below d good v (k, h) q has)) ∙ (least_kind d good v k h).1

-- a member of class k that adds one that bears p to one in which the loose class does not stand
pub record Adds (t : NodeTable) (s : State) (heights : List ℕ) (sums : List (Option (OpId × ℕ))) (f : OpId) (p k : ℕ) : Type 0 where
  pub member : ℕ
  pub arguments : List ℕ
  pub over : IsOver t.nodes member f arguments
  pub of : class_of s member ≡ class_of s k
  pub raised : IsRaised s heights member arguments
  pub bearing : IsBearing s heights sums f p arguments

-- a variable of class k whose sort sums of f have, and what heads the class of p
pub record Taken (d : Declarations) (t : NodeTable) (s : State) (sorted : Bool) (f : OpId) (p k : ℕ) : Type 0 where
  pub node : ℕ
  pub variable : Variable
  pub is : slice_get t.nodes node ≡ Some (Var variable)
  pub of : class_of s node ≡ class_of s k
  pub sum_sort : IsSumSort d f variable.sort
  pub head : IsHeaded d t s sorted p
  pub has : HaveSort d t s sorted p variable.sort

module _ {d : Declarations} {problem : Problem} {t : NodeTable} {s : State} {z : ℕ} {heights : List ℕ} {u : Substitution} (g : Setting d problem t s z heights u) where
  abbrev height : ℕ → ℕ
  height = height_of s heights

  -- the class of node k is noted as a sum of f over p
  abbrev pub Sum : OpId → ℕ → ℕ → Type 0
  Sum = IsSumOver s heights g.sums

  -- the old value of node i
  abbrev pub old : ℕ → Term
  old i = apply u (term_at t.nodes i)

  pub old_over : (i : ℕ) (f : OpId) (ks : List ℕ) → IsOver t.nodes i f ks → old i ≡ app f (pack (map old ks))
  old_over i f ks over = ap (apply u) (term_at-over t.nodes g.made.ordered i f ks over) ∙ ap (app f) (apply_mapped (term_at t.nodes) u ks)

  pub old_kinded : (i : ℕ) → i < length t.nodes → IsTerm d (old i)
  old_kinded i l = let h = node_kinded d g.good.fits problem g.kinded t g.table i l in (h.0, HasKind-apply d u g.unifier.0 (term_at t.nodes i) h.0 h.1)

  pub one_kind : (i j : ℕ) → i < length t.nodes → j < length t.nodes → class_of s i ≡ class_of s j → (q : SortId) → HasKind d (old i) q → HasKind d (old j) q
  one_kind i j l m e q h = b_equal_keeps_kind d g.good.fits (one_value g i j l m e) q h

  pub one_often : (f : OpId) (q : FlatTerm) (i j : ℕ) → i < length t.nodes → j < length t.nodes → class_of s i ≡ class_of s j → often d f q (old i) ≡ often d f q (old j)
  one_often f q i j l m e = ap (λ v. count q (parts d f v)) (canon_respects d (one_value g i j l m e))

  pub same_sum : (f : OpId) (p i j : ℕ) → class_of s i ≡ class_of s j → Sum f p j → Sum f p i
  same_sum f p i j e is = same_entry g i j e ∙ is

  pub sum_stands : (f : OpId) (p k : ℕ) → k < length t.nodes → Sum f p k → 0 < height k
  sum_stands f p k l is = let m = g.loose.sum k f p l is in let a = m.stands in let b = m.lower in omega (arith, a, b)

  -- what bears p has the loose class in it
  pub bears_stands : (f : OpId) (p k i : ℕ) → k < length t.nodes → i < length t.nodes → Sum f p k → Bears s heights g.sums f p i → 0 < height i
  bears_stands f p k i l m is (inl e) = let a = (g.loose.sum k f p l is).stands in let h = same_height g i p e in omega (arith, a, h)
  bears_stands f p k i l m is (inr e) = sum_stands f p i m e

  abbrev AddsTo : OpId → ℕ → ℕ → Type 0
  AddsTo = Adds t s heights g.sums

  abbrev TakenBy : OpId → ℕ → ℕ → Type 0
  TakenBy = Taken d t s g.sorted

  -- what heads a sum adds
  pub adds_of_head : (f : OpId) (p k : ℕ) → Sum f p k → IsHeaded d t s g.sorted k → Adds t s heights g.sums f p k
  adds_of_head f p k is m = elim (g.loose.bearing m.member m.operator m.arguments f p m.over (same_sum f p m.member k m.of is)) as (λ _. AddsTo f p k) [
    | inl idle ↦ absurd (m.busy idle)
    | inr b ↦ record {
      member = m.member;
      arguments = m.arguments;
      over = subst (λ o. IsOver t.nodes m.member o m.arguments) b.0 m.over;
      of = m.of;
      raised = head_raised g k m;
      bearing = b.1;
    }
  ]

  -- an idle node has an argument in its class
  idle_in : (i : ℕ) (f : OpId) (ks : List ℕ) → IsIdle t s i f ks → Contains (map (class_of s) ks) (class_of s i)
  idle_in i f ks idle = bearer_listed (map (class_of s) ks) (class_of s i) (class_of s idle.identity) idle.classes

  -- a sum has a member that adds, or a variable
  pub ways : (n k : ℕ) → k < n → k < length t.nodes → (f : OpId) (p : ℕ) → Sum f p k → Adds t s heights g.sums f p k ⊎ Taken d t s g.sorted f p k
  ways zero k h l f p is = absurd (omega (arith, h))
  ways (suc n) k h l f p is = let r = node_at t.nodes k l in go r.node r.is (λ a below within same. ways n a (omega (arith, below, h)) within f p same)
    where
      moved : (a : ℕ) → class_of s a ≡ class_of s k → AddsTo f p a ⊎ TakenBy f p a → AddsTo f p k ⊎ TakenBy f p k
      moved a e (inl m) = inl record { member = m.member; arguments = m.arguments; over = m.over; of = m.of ∙ e; raised = m.raised; bearing = m.bearing }
      moved a e (inr m) = inr record { node = m.node; variable = m.variable; is = m.is; of = m.of ∙ e; sum_sort = m.sum_sort; head = m.head; has = m.has }

      go : (node : Node) → slice_get t.nodes k ≡ Some node → ((a : ℕ) → a < k → a < length t.nodes → Sum f p a → AddsTo f p a ⊎ TakenBy f p a) → AddsTo f p k ⊎ TakenBy f p k
      go (Var x) at before = elim ((g.loose.sum k f p l is).taken k x at refl) as (λ _. AddsTo f p k ⊎ TakenBy f p k) [
        | inl head ↦ inl (adds_of_head f p k is head)
        | inr w ↦ inr record { node = k; variable = x; is = at; of = refl; sum_sort = w.0; head = w.1; has = w.2 }
      ]
      go (App h ks) at before = elim (g.loose.raised k h ks at) as (λ _. AddsTo f p k ⊎ TakenBy f p k) [
        | inl idle ↦ by_idle idle
        | inr raised ↦ elim (g.loose.bearing k h ks f p at is) as (λ _. AddsTo f p k ⊎ TakenBy f p k) [
          | inl idle ↦ by_idle idle
          | inr b ↦ inl record { member = k; arguments = ks; over = subst (λ o. IsOver t.nodes k o ks) b.0 at; of = refl; raised = raised; bearing = b.1 }
        ]
      ]
        where
          by_idle : IsIdle t s k h ks → AddsTo f p k ⊎ TakenBy f p k
          by_idle idle =
              let r = map_contains (class_of s) ks (class_of s k) (idle_in k h ks idle) in
              let below = All-contains (λ a. a < k) ks r.0 (g.made.ordered k h ks at) r.1.0 in
              moved r.0 r.1.1 (before r.0 below (argument_within g k h ks at r.0 r.1.0) (same_sum f p r.0 k r.1.1 is))

  -- the nodes of a member that adds
  module _ (f : OpId) (p k : ℕ) (l : k < length t.nodes) (is : Sum f p k) (a : Adds t s heights g.sums f p k) where
    abbrev adding : Borne s heights g.sums f p a.arguments
    adding = borne s heights g.sums f p a.arguments a.bearing

    member_within : a.member < length t.nodes
    member_within = slice_get_within t.nodes a.member (App f a.arguments) a.over

    bearer_within : adding.bearer < length t.nodes
    bearer_within = argument_within g a.member f a.arguments a.over adding.bearer (bearer_listed a.arguments adding.bearer adding.other adding.are)

    bearer_lower : height adding.bearer < height k
    bearer_lower =
        let st = bears_stands f p k adding.bearer l bearer_within is adding.bears in
        let low = All-contains (λ i. StandsIn s heights i → height i < height a.member) a.arguments adding.bearer a.raised.lower (bearer_listed a.arguments adding.bearer adding.other adding.are) st in
        let e = same_height g a.member k a.of in
        omega (arith, low, e)

    adding_kind : (q : SortId) → HasKind d (old k) q → Gives d f q × HasKind d (old adding.bearer) q
    adding_kind q h =
        let whole : HasKind d (app f (pack (map old a.arguments))) q = subst (λ v. HasKind d v q) (old_over a.member f a.arguments a.over) (one_kind k a.member l member_within (sym a.of) q h) in (
          record { rank = whole.rank; listed = whole.listed; gives = whole.result },
          kind_over d g.good f (g.loose.sum k f p l is).associative old a.arguments adding.bearer adding.other q whole adding.are,
        )

    adding_often : (q : FlatTerm) → often d f q (old k) ≡ often d f q (old adding.bearer) + often d f q (old adding.other)
    adding_often q =
        one_often f q k a.member l member_within (sym a.of)
        ∙ ap (often d f q) (old_over a.member f a.arguments a.over)
        ∙ often_over d g.good f (g.loose.sum k f p l is).associative old a.arguments adding.bearer adding.other q adding.are

  -- what a variable of the class tells of kinds
  taken_kind : (f : OpId) (p k : ℕ) → k < length t.nodes → Sum f p k → Taken d t s g.sorted f p k → (q : SortId) → HasKind d (old k) q → Gives d f q × HasKind d (old p) q
  taken_kind f p k l is w q h =
      let within = slice_get_within t.nodes w.node (Var w.variable) w.is in
      let own = node_kinded d g.good.fits problem g.kinded t g.table w.node within in
      let as_variable : kind d w.variable.sort ≡ own.0 = (subst (λ v. HasKind d v own.0) (term_at-variable t.nodes w.node w.variable w.is) own.1).1 in
      let same : own.0 ≡ q = kind_unique d g.good.fits (old k) own.0 q (one_kind w.node k within l w.of own.0 (HasKind-apply d u g.unifier.0 (term_at t.nodes w.node) own.0 own.1)) h in
      let of_f = w.sum_sort.of_kind in
      let m = w.head in
      let at = slice_get_within t.nodes m.member (App m.operator m.arguments) m.over in
      let head = node_kinded d g.good.fits problem g.kinded t g.table m.member at in
      let sort : HasSort d (term_at t.nodes m.member) w.variable.sort =
      elim (w.has m.member m.operator m.arguments m.over (sym m.of)) as (λ _. HasSort d (term_at t.nodes m.member) w.variable.sort) [
        | inl idle ↦ absurd (m.busy idle)
        | inr has ↦ has
      ]
      in
      let e : head.0 ≡ q = sym (kind_of_sort d g.good (term_at t.nodes m.member) head.0 w.variable.sort head.1 sort) ∙ as_variable ∙ same in (
        record { rank = of_f.rank; listed = of_f.listed; gives = sym of_f.kind_is ∙ as_variable ∙ same },
        one_kind m.member p at (g.loose.sum k f p l is).part m.of q (HasKind-apply d u g.unifier.0 (term_at t.nodes m.member) q (subst (HasKind d (term_at t.nodes m.member)) e head.1)),
      )

  -- a sum has the kind of its operator, and of the class over which it is
  pub sum_kind : (n k : ℕ) → height k ≤ n → k < length t.nodes → (f : OpId) (p : ℕ) → Sum f p k → (q : SortId) → HasKind d (old k) q → Gives d f q × HasKind d (old p) q
  sum_kind zero k h l f p is q j = absurd (let st = sum_stands f p k l is in omega (arith, h, st))
  sum_kind (suc n) k h l f p is q j = go (ways (k + 1) k (omega arith) l f p is) (λ i low within over kinded. sum_kind n i low within f p over q kinded)
    where
      go : AddsTo f p k ⊎ TakenBy f p k → ((i : ℕ) → height i ≤ n → i < length t.nodes → Sum f p i → HasKind d (old i) q → Gives d f q × HasKind d (old p) q) → Gives d f q × HasKind d (old p) q
      go (inr w) before = taken_kind f p k l is w q j
      go (inl a) before =
          let r = adding_kind f p k l is a q j in
          let b = adding f p k l is a in
          elim b.bears as (λ _. Gives d f q × HasKind d (old p) q) [
            | inl e ↦ (r.0, one_kind b.bearer p (bearer_within f p k l is a) (g.loose.sum k f p l is).part e q r.1)
            | inr over ↦ let low = bearer_lower f p k l is a in before b.bearer (omega (arith, low, h)) (bearer_within f p k l is a) over r.1
          ]

  -- its value holds the summands of that class's value
  pub sum_holds : (n k : ℕ) → height k ≤ n → k < length t.nodes → (f : OpId) (p : ℕ) → Sum f p k → (q : FlatTerm) → often d f q (old p) ≤ often d f q (old k)
  sum_holds zero k h l f p is q = absurd (let st = sum_stands f p k l is in omega (arith, h, st))
  sum_holds (suc n) k h l f p is q = elim (g.loose.sum k f p l is).held as (λ _. often d f q (old p) ≤ often d f q (old k)) [
    | inl head ↦ go (adds_of_head f p k is head) (λ i low within over. sum_holds n i low within f p over q)
    | inr holds ↦
        let w = (g.loose.sum k f p l is).part in
        let r = holds (value_at d u t.nodes) g.values_go q in
        let e = one_often f q (class_of s p) p (class_within g p w) w (class_again g p w) in
        let m = one_often f q (class_of s k) k (class_within g k l) l (class_again g k l) in
        omega (arith, r, e, m)
  ]
    where
      go : AddsTo f p k → ((i : ℕ) → height i ≤ n → i < length t.nodes → Sum f p i → often d f q (old p) ≤ often d f q (old i)) → often d f q (old p) ≤ often d f q (old k)
      go a before =
          let c = adding_often f p k l is a q in
          let b = adding f p k l is a in
          let some : often d f q (old p) ≤ often d f q (old b.bearer) =
          elim b.bears as (λ _. often d f q (old p) ≤ often d f q (old b.bearer)) [
            | inl e ↦ let m = one_often f q b.bearer p (bearer_within f p k l is a) (g.loose.sum k f p l is).part e in omega (arith, m)
            | inr over ↦ let low = bearer_lower f p k l is a in before b.bearer (omega (arith, low, h)) (bearer_within f p k l is a) over
          ]
          in
          omega (arith, c, some)

  -- so it is that value, or a sum of it and a rest
  pub sum_splits : (k : ℕ) → k < length t.nodes → (f : OpId) (p : ℕ) → Sum f p k → Splits d f (old k) (old p)
  sum_splits k l f p is =
      let h = old_kinded k l in
      let r = sum_kind (height k) k (omega arith) l f p is h.0 h.1 in
      splits d f g.good.fits (g.loose.sum k f p l is).associative (old k) (old p) h.0 h.1 r.1 r.0 (sum_holds (height k) k (omega arith) l f p is)
