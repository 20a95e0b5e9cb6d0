-- What is checked of each node makes a class loose.
use Rattle.std.proofs.Common.{◌≡◌, ◌≢◌, ◌⊎◌, ℕ, zero, suc, ◌<◌, ◌≤◌, Bool, List, [], ◌∷◌, ◌+◌, length, map, get_or, refl, sym, ap, ◌∙◌, subst, inl, inr, arith, Option, Some, None, Contains, slice_get}
use Rattle.std.specs.Prelude.{All, Any, max}
use Rattle.std.proofs.lemmas.List.{get_or-map, length-map, same_lists, get_or_default}
use Rattle.std.proofs.lemmas.Bool.{cases_eq}
use Rattle.std.proofs.lemmas.Option.{slice_get_within}
use Rattle.std.proofs.lemmas.List.Elements.{All-contains}
use Rattle.fvn_base.proofs.Membership.{contains_here, contains_later, map_contains}
use Rattle.fvn_terms.specs.declared.plain.Var.{Var as Variable}
use Rattle.fvn_terms.specs.declared.plain.OpId.{OpId}
use Rattle.fvn_terms.specs.declared.declarations.Declarations.{Declarations}
use Rattle.fvn_terms.specs.Sorts.{HasSort}
use Rattle.fvn_combine_nodes.specs.Table.{NodeTable, IsOver, term_at}
use Rattle.fvn_combine_nodes.specs.Classes.{AreTogether}
use Rattle.fvn_combine_nodes.specs.States.{class_of}
use Rattle.fvn_combine_nodes.specs.declared.state.State.{State}
use Rattle.fvn_combine_nodes.specs.declared.table.Node.TheVariants.{Var, App}
use Rattle.fvn_combine_nodes.proofs.Nodes.{over_unique}
use Rattle.fvn_combine_loose.specs.Loose.{height_of, IsRaised, IsIdle, AreMadeAlike, IsLoose}
use Rattle.fvn_combine_loose.specs.inner.Checks.{IsHighest, IsLike, IsNoted, IsBuilt, AreFine}

-- what is not zero
pub positive : (n : ℕ) → n ≢ 0 → 0 < n
positive zero e = absurd (e refl)
positive (suc n) e = omega arith

-- lists of nodes in one class, place by place
pub together_from : (class : ℕ → ℕ) (ks ls : List ℕ) → length ks ≡ length ls → ((i : ℕ) → i < length ks → class (get_or ks i 0) ≡ class (get_or ls i 0)) → AreTogether class ks ls
together_from class ks ls n same =
    same_lists (map class ks) (map class ls) (length-map ks class ∙ n ∙ sym (length-map ls class))
    (
    λ i d h.
    let l : i < length ks = let m = length-map ks class in omega arith in
    let r : i < length ls = omega arith in
    get_or-map class ks i 0 d l ∙ same i l ∙ sym (get_or-map class ls i 0 d r)
    )

-- nodes of which none is in a class
pub absent_from : (class : ℕ → ℕ) (ks : List ℕ) (c : ℕ) → ((p : ℕ) → p < length ks → class (get_or ks p 0) ≢ c) → All (λ k. class k ≢ c) ks
absent_from class ks c each = λ p k l. subst (λ a. class a ≢ c) (sym (get_or_default ks p k 0 l)) (each p l)

-- what is made alike a third one
alike_joined : (d : Declarations) (class : ℕ → ℕ) (f : OpId) (ks ls ms : List ℕ) → AreMadeAlike d class f ks ms → AreMadeAlike d class f ls ms → AreMadeAlike d class f ks ls
alike_joined d class f ks ls ms (inl a) (inl b) = inl (a ∙ sym b)
alike_joined d class f ks ls ms (inl a) (inr w) = inr (w.0, record { first = w.1.second; second = w.1.first; left = a ∙ w.1.right; right = w.1.left })
alike_joined d class f ks ls ms (inr w) (inl b) = inr (w.0, record { first = w.1.first; second = w.1.second; left = w.1.left; right = b ∙ w.1.right })
alike_joined d class f ks ls ms (inr w) (inr v) = inl (w.1.left ∙ turned (sym w.1.right ∙ v.1.right) ∙ sym v.1.left)
  where
    turned : {m n p q : ℕ} → m ∷ n ∷ [] ≡ p ∷ q ∷ [] → n ∷ m ∷ [] ≡ q ∷ p ∷ []
    turned e = cc

-- where nothing is noted no sum is
pub none_noted : (q : OpId × ℕ) → None ≡ Some q → ⊥
none_noted q e = cc

-- what holds of the numbers below one, and of it
pub one_more : (P : ℕ → Type 0) (i : ℕ) → ((k : ℕ) → k < i → P k) → P i → (k : ℕ) → k < i + 1 → P k
one_more P i h here k l = elim (cases_eq k i) [
  | inl same ↦ subst P (sym same) here
  | inr other ↦ h k (omega (arith, l, other))
]

module _ (s : State) (heights : List ℕ) where
  -- the greatest height of the first of these nodes
  pub record IsHighestSoFar (ks : List ℕ) (n high : ℕ) : Type 0 where
    pub above : (p k : ℕ) → p < n → height_of s heights (get_or ks p k) ≤ high
    pub reached : 0 < high → Any (λ k. 0 < height_of s heights k) ks

  pub highest_none : (ks : List ℕ) → IsHighestSoFar ks 0 0
  highest_none ks = record { above = λ p k l. absurd (omega (arith, l)); reached = λ l. absurd (omega (arith, l)) }

  -- one node more
  pub highest_more : (ks : List ℕ) (n high own : ℕ) → n < length ks → own ≡ height_of s heights (get_or ks n 0) → IsHighestSoFar ks n high → IsHighestSoFar ks (n + 1) (max high own)
  highest_more ks n high own l is h = record {
    above = λ p k m. elim (cases_eq p n) [
      | inl same ↦
          let e : height_of s heights (get_or ks p k) ≡ own = ap (λ q. height_of s heights (get_or ks q k)) same ∙ ap (height_of s heights) (get_or_default ks n k 0 l) ∙ sym is in
          omega (arith, e)
      | inr other ↦ let u = h.above p k (omega (arith, m, other)) in omega (arith, u)
    ];
    reached = λ some. elim (cases_eq own 0) [
      | inl none ↦ h.reached (omega (arith, some, none))
      | inr other ↦ (n, (get_or ks n 0), l, get_or_default ks n (get_or ks n 0) 0 l, subst (λ a. 0 < a) is (omega (arith, other)))
    ];
  }

  -- all of them
  pub highest_all : (ks : List ℕ) (n high : ℕ) → length ks ≤ n → IsHighestSoFar ks n high → IsHighest s heights ks high
  highest_all ks n high l h = record { above = λ p k m. h.above p k (omega (arith, m, l)); reached = h.reached }

  -- where the greatest height is none, no class has one
  pub raised_none : (i : ℕ) (ks : List ℕ) (high : ℕ) → IsHighest s heights ks high → high ≡ 0 → height_of s heights i ≡ 0 → IsRaised s heights i ks
  raised_none i ks high h none own = record {
    upward = λ a. absurd (none_there a);
    lower = λ k d l stands. absurd (let u = h.above k d l in omega (arith, u, stands, none));
    over = λ stands. absurd (omega (arith, stands, own));
  }
    where
      none_there : Any (λ k. 0 < height_of s heights k) ks → ⊥
      none_there a =
          let u = h.above a.0 a.1 a.2 in
          let stands : 0 < height_of s heights (get_or ks a.0 a.1) = subst (λ k. 0 < height_of s heights k) (sym a.3) a.4 in
          omega (arith, u, stands, none)

  -- above the greatest height is above all
  pub raised_above : (i : ℕ) (ks : List ℕ) (high : ℕ) → IsHighest s heights ks high → high ≢ 0 → high < height_of s heights i → IsRaised s heights i ks
  raised_above i ks high h some own = record {
    upward = λ a. omega (arith, own);
    lower = λ k d l stands. let u = h.above k d l in omega (arith, u, own);
    over = λ stands. h.reached (positive high some);
  }

-- an argument of an idle node is in its class
idle_own : (t : NodeTable) (s : State) (i : ℕ) (f : OpId) (ks : List ℕ) → IsIdle t s i f ks → (k : ℕ) × (Contains ks k × (class_of s k ≡ class_of s i))
idle_own t s i f ks idle =
    let own = class_of s i in
    let unit = class_of s idle.identity in
    map_contains (class_of s) ks own
    (elim idle.classes as (λ _. Contains (map (class_of s) ks) own) [
      | inl e ↦ subst (λ l. Contains l own) (sym e) (contains_here own (unit ∷ []))
      | inr e ↦ subst (λ l. Contains l own) (sym e) (contains_later unit (own ∷ []) own (contains_here own []))
    ])

-- so what stands over nodes of other classes alone is not idle
pub absent_busy : (t : NodeTable) (s : State) (m i : ℕ) (f : OpId) (ks : List ℕ) → class_of s m ≡ class_of s i → All (λ k. class_of s k ≢ class_of s i) ks → IsIdle t s m f ks → ⊥
absent_busy t s m i f ks of others idle =
    let r = idle_own t s m f ks idle in
    All-contains (λ k. class_of s k ≢ class_of s i) ks r.0 others r.1.0 (r.1.1 ∙ of)

module _ (d : Declarations) (t : NodeTable) (s : State) where
  -- nodes i and j are one operator over the same classes, or one of them is idle
  abbrev pub AreOneWay : (i j : ℕ) (f g : OpId) (ks ls : List ℕ) → Type 0
  AreOneWay i j f g ks ls = (IsIdle t s i f ks ⊎ IsIdle t s j g ls) ⊎ ((f ≡ g) × AreMadeAlike d (class_of s) f ks ls)

  module _ (heads : List (Option ℕ)) where
    -- what is like one node is alike
    both_alike : (i j : ℕ) (f g : OpId) (ks ls : List ℕ) (e : class_of s i ≡ class_of s j) (p : IsNoted d t s heads i) (q : IsNoted d t s heads j)
        → (f ≡ p.like.operator) × AreMadeAlike d (class_of s) f ks p.like.arguments → (g ≡ q.like.operator) × AreMadeAlike d (class_of s) g ls q.like.arguments
        → (f ≡ g) × AreMadeAlike d (class_of s) f ks ls
    both_alike i j f g ks ls e p q l r =
        let one : p.member ≡ q.member = some_same (sym p.noted ∙ ap (λ c. get_or heads c None) e ∙ q.noted) in
        let u = over_unique t.nodes p.member p.like.operator q.like.operator p.like.arguments q.like.arguments p.like.over (subst (λ m. IsOver t.nodes m q.like.operator q.like.arguments) (sym one) q.like.over) in
        let one_operator : f ≡ g = l.0 ∙ u.0 ∙ sym r.0 in
        let of_f : AreMadeAlike d (class_of s) f ls q.like.arguments = subst (λ o. AreMadeAlike d (class_of s) o ls q.like.arguments) (sym one_operator) r.1 in
        let both = subst (AreMadeAlike d (class_of s) f ls) (sym u.1) of_f in
        (one_operator, alike_joined d (class_of s) f ks ls p.like.arguments l.1 both)
      where
        some_same : {m n : ℕ} → Some m ≡ Some n → m ≡ n
        some_same e = cc

    pub same_way : (i j : ℕ) (f g : OpId) (ks ls : List ℕ) → IsOver t.nodes i f ks → IsOver t.nodes j g ls → class_of s i ≡ class_of s j → IsNoted d t s heads i → IsNoted d t s heads j → AreOneWay i j f g ks ls
    same_way i j f g ks ls a b e p q = elim (p.like.alike f ks a) as (λ _. AreOneWay i j f g ks ls) [
      | inl idle ↦ inl (inl idle)
      | inr l ↦ elim (q.like.alike g ls b) as (λ _. AreOneWay i j f g ks ls) [
        | inl idle ↦ inl (inr idle)
        | inr r ↦ inr (both_alike i j f g ks ls e p q l r)
      ]
    ]

  module _ (marks : List Bool) (heights : List ℕ) (z : ℕ) (fine : AreFine d t s marks) (built : (i : ℕ) → i < length t.nodes → IsBuilt t s marks heights z i) where
    at_over : (i : ℕ) (f : OpId) (ks : List ℕ) → IsOver t.nodes i f ks → IsBuilt t s marks heights z i
    at_over i f ks is = built i (slice_get_within t.nodes i (App f ks) is)

    -- what an operator heads in z's class is idle
    open_over : (i : ℕ) (f : OpId) (ks : List ℕ) → IsOver t.nodes i f ks → class_of s i ≡ class_of s z → IsIdle t s i f ks
    open_over i f ks is e = (at_over i f ks is).bottom e f ks is

    noted_over : (i : ℕ) (f : OpId) (ks : List ℕ) → IsOver t.nodes i f ks → class_of s i ≢ class_of s z → 0 < height_of s heights i → IsNoted d t s fine.heads i
    noted_over i f ks is other stands = (fine.each i ((at_over i f ks is).marked other stands)).noted

    made_alike : (i j : ℕ) (f g : OpId) (ks ls : List ℕ) → IsOver t.nodes i f ks → IsOver t.nodes j g ls → class_of s i ≡ class_of s j → 0 < height_of s heights i → AreOneWay i j f g ks ls
    made_alike i j f g ks ls a b e stands = elim (cases_eq (class_of s i) (class_of s z)) as (λ _. AreOneWay i j f g ks ls) [
      | inl same ↦ inl (inl (open_over i f ks a same))
      | inr other ↦
          same_way fine.heads i j f g ks ls a b e (noted_over i f ks a other stands)
          (noted_over j g ls b (λ q. other (e ∙ q)) (subst (λ c. 0 < get_or heights c 0) e stands))
    ]

    sorted_alike : (i : ℕ) (x : Variable) → slice_get t.nodes i ≡ Some (Var x) → 0 < height_of s heights i → (j : ℕ) (f : OpId) (ks : List ℕ) → IsOver t.nodes j f ks → class_of s i ≡ class_of s j
        → IsIdle t s j f ks ⊎ HasSort d (term_at t.nodes j) x.sort
    sorted_alike i x is stands j f ks over e = elim (cases_eq (class_of s i) (class_of s z)) as (λ _. IsIdle t s j f ks ⊎ HasSort d (term_at t.nodes j) x.sort) [
      | inl same ↦ inl (open_over j f ks over (sym e ∙ same))
      | inr other ↦
          let mark = (built i (slice_get_within t.nodes i (Var x) is)).marked other stands in
          (fine.each i mark).sorted x is j (slice_get_within t.nodes j (App f ks) over) f ks over e
    ]

    -- so z's class is loose, without sums
    pub loose_from : z < length t.nodes → 0 < height_of s heights z → (sorted : Bool) → IsLoose d t s sorted z heights []
    loose_from within stands sorted = record {
      within = within;
      stands = stands;
      open_class = open_over;
      no_sum = refl;
      raised = λ i f ks is. (at_over i f ks is).raised f ks is;
      made = λ i l stands other none.
          let n = (fine.each i ((built i l).marked other stands)).noted in
          record { member = n.member; operator = n.like.operator; arguments = n.like.arguments; over = n.like.over; of = n.like.of; busy = absent_busy t s n.member i n.like.operator n.like.arguments n.like.of n.like.others };
      alike = λ i j f g ks ls a b e stands none. made_alike i j f g ks ls a b e stands;
      sum = λ k f p l noted. absurd (none_noted (f, p) noted);
      bearing = λ i g ks f p over noted. absurd (none_noted (f, p) noted);
      sorts = sorted_alike;
    }
