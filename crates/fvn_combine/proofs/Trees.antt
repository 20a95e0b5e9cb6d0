-- What the states of a tree admit when a question is asked, and when the last state is taken out.
use Rattle.std.proofs.Common.{◌≡◌, ℕ, ◌<◌, List, [], ◌∷◌, ◌++◌, length, refl, sym, ap, ◌∙◌, subst, inl, inr, arith, Contains, Option, Some, None}
use Rattle.std.specs.Prelude.{◌⊎◌, ◌↔◌, MatchOption, IfSome}
use Rattle.std.proofs.lemmas.List.{length_push, get_or_append_left}
use Rattle.std.proofs.lemmas.List.Elements.{All-contains, Contains-push, Contains-append_cases, Contains-append_left, Contains-append_right}
use Rattle.fvn_base.proofs.Membership.{contains_here, contains_cases, contains_none}
use Rattle.fvn_terms.specs.Substitution.{Substitution}
use Rattle.fvn_flat.specs.Solving.{problem_of}
use Rattle.fvn_combine_nodes.specs.Laws.{UnifiersPartition}
use Rattle.fvn_combine_nodes.specs.States.{Admits, IsClosed}
use Rattle.fvn_combine_tree.specs.Trees.{AreClosed, IsAsked, IsTakenOn, weight}
use Rattle.fvn_combine_nodes.specs.Unifiers.{kernel}
use Rattle.fvn_combine_nodes.specs.declared.state.State.{State}
use Rattle.fvn_combine_loose.specs.Laws.{MoreGeneralIsAPreorder}
use Rattle.fvn_combine.specs.Tasks.{Combining, IsCombining, IsWanted, HoldsFor}
use Rattle.fvn_combine.specs.Leaves.{IsOpened, IsCoveredToCome}
use Rattle.fvn_combine.specs.Search.{IsAdmitted, IsOpenedAt, IsLeft}
use Rattle.fvn_combine.specs.declared.opened.Opened.{Opened}
use Rattle.fvn_combine.specs.declared.looking.Looked.{Looked}
use Rattle.fvn_combine.specs.declared.looking.Looked.TheVariants.{Passed, Leaf}
use Rattle.fvn_combine.specs.inner.Found.{IsLookedAtLast, IsAdmittedBy}
use Rattle.fvn_combine.proofs.Standing.{stands_after}

-- lists with a last one are equal in both parts
pub last_injective : (xs ys : List State) (x y : State) → xs ++ x ∷ [] ≡ ys ++ y ∷ [] → (xs ≡ ys) × (x ≡ y)
last_injective [] [] x y e = (refl, let f : x ≡ y = cc in f)
last_injective [] (z ∷ ys) x y e = absurd (let n = ap length e in let m = length_push ys y in omega (arith, n, m))
last_injective (z ∷ xs) [] x y e = absurd (let n = ap length e in let m = length_push xs x in omega (arith, n, m))
last_injective (z ∷ xs) (w ∷ ys) x y e =
    let t : xs ++ x ∷ [] ≡ ys ++ y ∷ [] = cc in
    let h : z ≡ w = cc in
    let r = last_injective xs ys x y t in
    let s = r.0 in
    (cc, r.1)

module _ (k : Combining) (u : Substitution) where
  abbrev IsIn : State → Type 0
  IsIn s = Admits s (kernel k.declarations u k.table.nodes)

  pub admitted_by : (states : List State) (s : State) → Contains states s → IsIn s → IsAdmitted k states u
  admitted_by states s c p = (c.0, s, c.1, c.2, p)

  pub admitted_cases : (below above : List State) → IsAdmitted k (below ++ above) u → IsAdmitted k below u ⊎ IsAdmitted k above u
  admitted_cases below above h = elim (Contains-append_cases below above h.1 (h.0, h.2, h.3)) [
    | inl l ↦ inl (admitted_by below h.1 l h.4)
    | inr r ↦ inr (admitted_by above h.1 r h.4)
  ]

  pub admitted_left : (below above : List State) → IsAdmitted k below u → IsAdmitted k (below ++ above) u
  admitted_left below above h = admitted_by (below ++ above) h.1 (Contains-append_left below above h.1 (h.0, h.2, h.3)) h.4

  pub admitted_right : (below above : List State) → IsAdmitted k above u → IsAdmitted k (below ++ above) u
  admitted_right below above h = admitted_by (below ++ above) h.1 (Contains-append_right below above h.1 (h.0, h.2, h.3)) h.4

  pub admitted_one : (s : State) → IsAdmitted k (s ∷ []) u → IsIn s
  admitted_one s h = elim (contains_cases s [] h.1 (h.0, h.2, h.3)) [
    | inl e ↦ subst IsIn (sym e) h.4
    | inr n ↦ absurd (contains_none h.1 n)
  ]

  pub admitted_last : (below : List State) (s : State) → IsIn s → IsAdmitted k (below ++ s ∷ []) u
  admitted_last below s p = admitted_right below (s ∷ []) (admitted_by (s ∷ []) s (contains_here s []) p)

module _ (k : Combining) (is : IsCombining k) (partitions : UnifiersPartition) where
  pub after_asking : (before after : List State) → IsAsked k.declarations k.table before after → (u : Substitution) → IsWanted k u → IsAdmitted k before u ↔ IsLeft k after None u
  after_asking before after a u wanted = (
    λ h. inl (subst (λ l. IsAdmitted k l u) (sym a.is) (forth (admitted_cases k u a.below (a.top ∷ []) (subst (λ l. IsAdmitted k l u) a.was h)))),
    λ h. elim h [
      | inl m ↦ subst (λ l. IsAdmitted k l u) (sym a.was) (back (admitted_cases k u a.below a.answers (subst (λ l. IsAdmitted k l u) a.is m)))
      | inr n ↦ absurd n
    ],
  )
    where
      forth : IsAdmitted k a.below u ⊎ IsAdmitted k (a.top ∷ []) u → IsAdmitted k (a.below ++ a.answers) u
      forth (inl b) = admitted_left k u a.below a.answers b
      forth (inr t) =
          let p = (partitions k.declarations is.good.fits (problem_of k.given) is.is_given.kinds k.table is.well_made is.table_of u wanted.unifies).partition in
          admitted_right k u a.below a.answers (a.all (kernel k.declarations u k.table.nodes) p (admitted_one k u a.top t))

      back : IsAdmitted k a.below u ⊎ IsAdmitted k a.answers u → IsAdmitted k (a.below ++ a.top ∷ []) u
      back (inl b) = admitted_left k u a.below (a.top ∷ []) b
      back (inr w) = admitted_last k u a.below a.top (a.kept (kernel k.declarations u k.table.nodes) w)

  module _ (before after : List State) (Holds : (ℕ → ℕ) → Type 0) (m : IsTakenOn k.declarations k.table Holds before after) (below : List State) (last : State) (is_last : before ≡ below ++ last ∷ []) where
    top_is : m.top ≡ last
    top_is = (last_injective m.below below m.top last (sym m.was ∙ is_last)).1

    was_admitted : (u : Substitution) → IsAdmitted k before u → IsAdmitted k m.below u ⊎ Admits last (kernel k.declarations u k.table.nodes)
    was_admitted u h = elim (admitted_cases k u m.below (m.top ∷ []) (subst (λ l. IsAdmitted k l u) m.was h)) [
      | inl b ↦ inl b
      | inr t ↦ inr (subst (λ x. Admits x (kernel k.declarations u k.table.nodes)) top_is (admitted_one k u m.top t))
    ]

    stays : (u : Substitution) → IsAdmitted k m.below u → IsAdmitted k after u
    stays u b = subst (λ l. IsAdmitted k l u) (sym m.is) (admitted_left k u m.below m.left b)

    taken_on : (u : Substitution) → IsWanted k u → Admits last (kernel k.declarations u k.table.nodes) → Holds (kernel k.declarations u k.table.nodes) → IsAdmitted k after u
    taken_on u wanted a fact =
        let p = (partitions k.declarations is.good.fits (problem_of k.given) is.is_given.kinds k.table is.well_made is.table_of u wanted.unifies).partition in
        let t = subst (λ x. Admits x (kernel k.declarations u k.table.nodes)) (sym top_is) a in
        subst (λ l. IsAdmitted k l u) (sym m.is) (admitted_right k u m.below m.left (m.all (kernel k.declarations u k.table.nodes) p t fact))

    -- no more is admitted than before
    no_more : (u : Substitution) → IsLeft k after None u → IsAdmitted k before u
    no_more u (inr n) = absurd n
    no_more u (inl h) = subst (λ l. IsAdmitted k l u) (sym m.was) (elim (admitted_cases k u m.below m.left (subst (λ l. IsAdmitted k l u) m.is h)) [
      | inl b ↦ admitted_left k u m.below (m.top ∷ []) b
      | inr w ↦ admitted_last k u m.below m.top (m.kept (kernel k.declarations u k.table.nodes) w)
    ])

    -- what holds of the classes of each unifier is taken on
    pub after_taking_on : ((u : Substitution) → IsAdmittedBy k last u → Holds (kernel k.declarations u k.table.nodes)) → (u : Substitution) → IsWanted k u → IsAdmitted k before u ↔ IsLeft k after None u
    after_taking_on holds u wanted = (
      λ h. elim (was_admitted u h) [
        | inl b ↦ inl (stays u b)
        | inr a ↦ inl (taken_on u wanted a (holds u (wanted, a)))
      ],
      no_more u,
    )

    -- so is what holds of the classes of one that stands for each
    pub after_parting : MoreGeneralIsAPreorder → ((u : Substitution) → IsAdmittedBy k last u → HoldsFor k (λ v. Admits last (kernel k.declarations v k.table.nodes) × Holds (kernel k.declarations v k.table.nodes)) u)
        → (u : Substitution) → IsWanted k u → HoldsFor k (IsAdmitted k before) u ↔ HoldsFor k (IsLeft k after None) u
    after_parting preorder holds u wanted = (
      λ h. let v = h.0 in
          let stands = h.1 in
          elim (was_admitted v h.2) [
            | inl b ↦ (v, stands, inl (stays v b))
            | inr a ↦ let other = holds v (stands.wanted, a) in
                let w = other.0 in
                (w, stands_after k is preorder u v w stands other.1, inl (taken_on w other.1.wanted other.2.0 other.2.1))
          ],
      λ h. (h.0, h.1, no_more h.0 h.2),
    )

-- states before the last are closed
pub closed_before : (k : Combining) (before after : List State) (s : State) → before ≡ after ++ s ∷ [] → AreClosed k.declarations k.table before → AreClosed k.declarations k.table after
closed_before k before after s e closed i d l =
    let all = subst (AreClosed k.declarations k.table) e closed in
    let n = length_push after s in
    subst (λ x. IsClosed k.declarations k.table x) (get_or_append_left after (s ∷ []) d i l) (all i d (omega (arith, l, n)))

-- so is the last one
pub closed_last : (k : Combining) (states below : List State) (s : State) → states ≡ below ++ s ∷ [] → AreClosed k.declarations k.table states → IsClosed k.declarations k.table s
closed_last k states below s e closed = All-contains (IsClosed k.declarations k.table) (below ++ s ∷ []) s (subst (AreClosed k.declarations k.table) e closed) (Contains-push below s)

module _ (k : Combining) (before after : List State) (looked : Looked) (l : IsLookedAtLast k before looked) where
  -- what is taken out is what was looked at
  pub is_last : (s : State) → before ≡ after ++ s ∷ [] → s ≡ l.last
  is_last s e = (last_injective after l.below s l.last (sym e ∙ l.is)).1

  pub taken_out : (r : Option State) → MatchOption r ((before ≡ []) × (after ≡ [])) (λ s. before ≡ after ++ s ∷ []) → before ≡ after ++ l.last ∷ []
  taken_out None h = absurd (let n = ap length (sym h.0 ∙ l.is) in let m = length_push l.below l.last in omega (arith, n, m))
  taken_out (Some s) h = h ∙ ap (λ x. after ++ x ∷ []) (is_last s h)

  pub taken_falls : (r : Option State) → MatchOption r ((before ≡ []) × (after ≡ [])) (λ s. before ≡ after ++ s ∷ []) → IfSome r (λ s. weight after < weight before) → weight after < weight before
  taken_falls None h f = absurd (let n = ap length (sym h.0 ∙ l.is) in let m = length_push l.below l.last in omega (arith, n, m))
  taken_falls (Some s) h f = f

-- the last state admits no unifier, and is passed over
pub after_passing : (k : Combining) (before after : List State) (l : IsLookedAtLast k before Passed) → before ≡ after ++ l.last ∷ [] → (u : Substitution) → IsWanted k u → IsAdmitted k before u ↔ IsLeft k after None u
after_passing k before after l e u wanted = (
  λ h. elim (admitted_cases k u after (l.last ∷ []) (subst (λ x. IsAdmitted k x u) e h)) [
    | inl b ↦ inl b
    | inr t ↦ absurd (l.looked u (wanted, admitted_one k u l.last t))
  ],
  λ h. elim h [
    | inl b ↦ subst (λ x. IsAdmitted k x u) (sym e) (admitted_left k u after (l.last ∷ []) b)
    | inr n ↦ absurd n
  ],
)

module _ (k : Combining) (before after : List State) (o : Opened) (l : IsLookedAtLast k before (Leaf o)) (s : State) (e : before ≡ after ++ s ∷ []) where
  same : l.last ≡ s
  same = sym (is_last k before after (Leaf o) l s e)

  pub leaf_opened : IsOpenedAt k (Some (record { state = s; opened = o }))
  leaf_opened = subst (λ x. IsOpened k x o) same l.looked.0

  -- of each unifier that the leaf's state admits one that stands for it is to come at the leaf
  at_leaf : (v : Substitution) → IsWanted k v → Admits s (kernel k.declarations v k.table.nodes) → HoldsFor k (λ w. Admits s (kernel k.declarations w k.table.nodes) × IsCoveredToCome k s o w) v
  at_leaf v wanted a = subst (λ x. IsAdmittedBy k x v → HoldsFor k (λ w. Admits x (kernel k.declarations w k.table.nodes) × IsCoveredToCome k x o w) v) same (l.looked.1 v) (wanted, a)

  -- no more is left than the states admitted
  was_left : (v : Substitution) → IsLeft k after (Some (record { state = s; opened = o })) v → IsAdmitted k before v
  was_left v h = subst (λ x. IsAdmitted k x v) (sym e) (elim h [
    | inl b ↦ admitted_left k v after (s ∷ []) b
    | inr c ↦ admitted_last k v after s c.0
  ])

  -- the last state is a leaf, which is opened
  pub after_opening : IsCombining k → MoreGeneralIsAPreorder → (u : Substitution) → IsWanted k u → HoldsFor k (IsAdmitted k before) u ↔ HoldsFor k (IsLeft k after (Some (record { state = s; opened = o }))) u
  after_opening is preorder u wanted = (
    λ h. let v = h.0 in
        let stands = h.1 in
        elim (admitted_cases k v after (s ∷ []) (subst (λ x. IsAdmitted k x v) e h.2)) [
          | inl b ↦ (v, stands, inl b)
          | inr t ↦ let other = at_leaf v stands.wanted (admitted_one k v s t) in
              (other.0, stands_after k is preorder u v other.0 stands other.1, inr other.2)
        ],
    λ h. (h.0, h.1, was_left h.0 h.2),
  )
