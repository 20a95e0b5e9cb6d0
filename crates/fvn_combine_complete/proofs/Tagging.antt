-- Tags that values obey, and the values of unifiers.
use Rattle.std.proofs.Common.{◌≡◌, ◌≢◌, ◌⊎◌, ℕ, ◌<◌, true, false, List, length, get_or, refl, sym, ap, ◌∙◌, subst, inl, inr, arith, Contains, Option, Some, None}
use Rattle.std.specs.Prelude.{◌↔◌}
use Rattle.std.proofs.lemmas.Bool.{cases_eq}
use Rattle.fvn_base.specs.Decided.{Decided}
use Rattle.fvn_base.proofs.Decided.{some_or_none}
use Rattle.fvn_base.proofs.Options.{Some-injective}
use Rattle.fvn_terms.specs.declared.plain.OpId.{OpId}
use Rattle.fvn_terms.specs.declared.declarations.Declarations.{Declarations}
use Rattle.fvn_terms.specs.Signature.{axioms}
use Rattle.fvn_terms.specs.Equality.{identity}
use Rattle.fvn_terms.specs.Substitution.{Substitution, apply}
use Rattle.fvn_terms.specs.Unifiers.{Problem}
use Rattle.fvn_forms.specs.Flat.{FlatTerm, fvar, fapp, fnone, fmore, fconstant}
use Rattle.fvn_forms.specs.FitsKinds.{FitsKinds}
use Rattle.fvn_forms.proofs.ToCanon.{b_equal_iff_canon}
use Rattle.fvn_flat.specs.Forms.{head_of}
use Rattle.fvn_flat.specs.Problems.{IsProblem}
use Rattle.fvn_flat.specs.SolvedLists.{IsKindUnifier, component}
use Rattle.fvn_flat.specs.Partitions.{HasNoIdentity}
use Rattle.fvn_combine_nodes.specs.Table.{NodeTable, IsWellMade, IsTableOf, term_at}
use Rattle.fvn_combine_nodes.specs.States.{Admits, IsClosed, class_of}
use Rattle.fvn_combine_nodes.specs.Unifiers.{value_at, kernel}
use Rattle.fvn_combine_nodes.specs.declared.state.State.{State}
use Rattle.fvn_terms.proofs.Equal.{HasKind-apply}
use Rattle.fvn_combine_nodes.specs.Laws.{UnifiersPartition}
use Rattle.fvn_combine_nodes.proofs.Heading.{identity_of}
use Rattle.fvn_combine_nodes.proofs.Admitting.{admits_apart, named_within}
use Rattle.fvn_combine_nodes.proofs.Subterms.{node_kinded}
use Rattle.fvn_combine_systems.specs.Laws.{UnifiersHaveValues}
use Rattle.fvn_combine_leaves.specs.Leaves.{IsSolid, Uses, IsShared, IsSingle, IsNotedSum, HasSpace, IsLeaf}
use Rattle.fvn_combine_choices.specs.Binding.{IsBound, solid, alone, tagged, IsConstant}
use Rattle.fvn_combine_choices.specs.Choosing.{Systems, AreSystems}
use Rattle.fvn_combine_choices.specs.Tables.{HasSums}
use Rattle.fvn_combine_complete.specs.Obeying.{IsTold, GoWith, IsSumOf, IsSumOrIdentityOf, IsLabel, ObeyHeads, IsBare, IsTakenAsSum, ObeysTag, ObeyTags, TagsFollow}
use Rattle.fvn_combine_complete.specs.Laws.{TagsExist}
use Rattle.fvn_combine_complete.specs.Neutral.{IsNeutral}
use Rattle.fvn_combine_complete.proofs.Asked.{tag_told, bare_told, user_told, shared_told, IsUserWith, user_with_told}
use Rattle.fvn_combine_complete.proofs.Heads.{sum_is_constant, one_head, one_constant}
use Rattle.fvn_combine_complete.proofs.Identities.{operator_told, unit_at, own_name, same_class, one_identity}
use Rattle.fvn_combine_complete.proofs.Singles.{one_value_alive}
use Rattle.fvn_combine_complete.proofs.Values.{may_be}

-- tags of shared classes and operators that use them, which values obey, and which follow what is noted
pub record RightTags (d : Declarations) (t : NodeTable) (s : State) (heads : List (Option OpId)) (values : ℕ → FlatTerm) : Type 0 where
  pub tag : ℕ → Option OpId
  pub right : (k : ℕ) (f : OpId) → tag k ≡ Some f → IsShared d t (class_of s) k × Uses d t (class_of s) f k
  pub obey : ObeyTags d t (class_of s) tag values
  pub follow : TagsFollow d t (class_of s) tag values heads

module _ (d : Declarations) (t : NodeTable) (made : IsWellMade t) (has : HasSums d t) (s : State) (heads : List (Option OpId)) (leaf : IsLeaf d t heads s) (told : IsTold d t (class_of s)) (y : Systems) (systems : AreSystems d t (class_of s) y) (values : ℕ → FlatTerm) (go_with : GoWith d t s values) (obey_heads : ObeyHeads d t s heads values) where
  abbrev class : ℕ → ℕ
  class = class_of s

  -- the tag of a class, where its value is to be a sum of it or its identity
  abbrev IsTag : ℕ → Option OpId → Type 0
  IsTag k o = (f : OpId) → IsShared d t class k → Uses d t class f k → (o ≡ Some f) ↔ IsSumOrIdentityOf d f (values k)

  no_tag : (k : ℕ) → ((f : OpId) → Uses d t class f k → IsSumOrIdentityOf d f (values k) → ⊥) → IsTag k None
  no_tag k n = λ f shared used. (λ e. cc, λ h. absurd (n f used h))

  -- of a sum its operator
  sum_tag : (g : OpId) (k : ℕ) → IsSumOf g (values k) → IsTag k (Some g)
  sum_tag g k sum f shared used = (
    λ e. inl (subst (λ o. IsSumOf o (values k)) (Some-injective e) sum),
    λ h. elim h [
      | inl own ↦ ap Some (one_head g f (values k) sum own)
      | inr unit ↦ absurd (sum_is_constant g unit.0 (values k) sum unit.2)
    ],
  )

  -- of a constant an operator that uses the class, and whose identity it is
  identity_tag : (g e : OpId) (k : ℕ) → values k ≡ fconstant e → IsUserWith d t has class y systems e k g → IsTag k (Some g)
  identity_tag g e k is user f shared used = (
    λ m. inr (e, ap (λ o. identity (axioms d o)) (sym (Some-injective m)) ∙ user.unit, is),
    λ h. elim h [
      | inl own ↦ absurd (sum_is_constant f e (values k) own is)
      | inr unit ↦ ap Some (one_identity d t made has s leaf values go_with f g k shared used user.used e (unit.1 ∙ ap Some (one_constant unit.0 e (values k) unit.2 is)) user.unit is)
    ],
  )

  constant_tag : (e : OpId) (k : ℕ) → values k ≡ fconstant e → (o : Option OpId) × IsTag k o
  constant_tag e k is = elim (some_or_none (λ p. IsUserWith d t has class y systems e k p.0) (λ p. user_with_told d t has class y systems e k p.0) t.units) [
    | inl h ↦ (Some h.0.0, identity_tag h.0.0 e k is h.1.1)
    | inr none ↦ (None, no_tag k (λ f used h. no_user none f used h))
  ]
    where
      no_user : ((p : OpId × ℕ) → Contains t.units p → IsUserWith d t has class y systems e k p.0 → ⊥) → (f : OpId) → Uses d t class f k → IsSumOrIdentityOf d f (values k) → ⊥
      no_user none f used (inl own) = sum_is_constant f e (values k) own is
      no_user none f used (inr unit) =
          let i : identity (axioms d f) ≡ Some e = unit.1 ∙ ap Some (one_constant unit.0 e (values k) unit.2 is) in
          let n = unit_at d t has class f k used e i in
          none n.pair n.listed (subst (IsUserWith d t has class y systems e k) (sym n.of) (record { used = used; unit = i }))

  tag_of : (k : ℕ) (v : FlatTerm) → values k ≡ v → (o : Option OpId) × IsTag k o
  tag_of k (fvar x) is = (None, no_tag k (λ f used h. neither f h))
    where
      neither : (f : OpId) → IsSumOrIdentityOf d f (values k) → ⊥
      neither f (inl sum) = let e : None ≡ Some f = ap head_of (sym is ∙ sum.1) in cc
      neither f (inr unit) = let e : None ≡ Some unit.0 = ap head_of (sym is ∙ unit.2) in cc
  tag_of k (fapp g true ts) is = (Some g, sum_tag g k (ts, is))
  tag_of k (fapp e false fnone) is = constant_tag e k is
  tag_of k (fapp g false (fmore v vs)) is = (None, no_tag k (λ f used h. neither f h))
    where
      -- 0 of a variable, 1 of a sum, 2 of a constant, and else 3
      shape : FlatTerm → ℕ
      shape (fvar x) = 0
      shape (fapp o true ts) = 1
      shape (fapp o false fnone) = 2
      shape (fapp o false (fmore t ts)) = 3

      neither : (f : OpId) → IsSumOrIdentityOf d f (values k) → ⊥
      neither f (inl sum) = let e = ap shape (sym is ∙ sum.1) in omega (arith, e)
      neither f (inr unit) = let e = ap shape (sym is ∙ unit.2) in omega (arith, e)

  found : (k : ℕ) → (o : Option OpId) × IsTag k o
  found k = tag_of k (values k) refl

  -- the same, of a shared class and an operator that uses it alone
  record Tag (k : ℕ) (o : Option OpId) : Type 0 where
    right : (f : OpId) → o ≡ Some f → IsShared d t class k × Uses d t class f k
    is_tag : IsTag k o

  tag_at : (k : ℕ) → (o : Option OpId) × Tag k o
  tag_at k = go (found k).0 refl
    where
      none_at : ((f : OpId) → IsShared d t class k → Uses d t class f k → IsSumOrIdentityOf d f (values k) → ⊥) → (o : Option OpId) × Tag k o
      none_at n = (None, record { right = λ f e. cc; is_tag = λ f shared u. (λ e. cc, λ h. absurd (n f shared u h)) })

      go : (o : Option OpId) → (found k).0 ≡ o → (o : Option OpId) × Tag k o
      go None e = none_at (λ f shared u h. let m : None ≡ Some f = sym e ∙ ((found k).1 f shared u).1 h in cc)
      go (Some g) e = elim (user_told d t class y systems g k) [
        | inl u ↦ elim (shared_told d t class told g k u) [
          | inl shared ↦ (
            Some g,
            record {
              right = λ f m. (shared, subst (λ o. Uses d t class o k) (Some-injective m) u);
              is_tag = λ f also w. (
                λ m. ((found k).1 f also w).0 (e ∙ m),
                λ h. sym e ∙ ((found k).1 f also w).1 h,
              );
            },
          )
          | inr n ↦ none_at (λ f shared w h. n shared)
        ]
        | inr n ↦ none_at (λ f shared w h. n (subst (λ o. Uses d t class o k) (Some-injective (sym (((found k).1 f shared w).1 h) ∙ e)) w))
      ]

  -- the shared class k is used by f, which is noted of it
  record IsNoted (k : ℕ) (f : OpId) : Type 0 where
    shared : IsShared d t class k
    used : Uses d t class f k
    noted : IsNotedSum d t heads f k

  abbrev NotedOrNone : ℕ → Type 0
  NotedOrNone k = ((f : OpId) × IsNoted k f) ⊎ ((f : OpId) → IsNoted k f → ⊥)

  noted_or_none : (k : ℕ) → NotedOrNone k
  noted_or_none k = go (get_or heads k None) refl
    where
      go : (o : Option OpId) → get_or heads k None ≡ o → NotedOrNone k
      go None e = inr (λ f h. let m : None ≡ Some f = sym e ∙ h.noted.noted in cc)
      go (Some g) e = elim (user_told d t class y systems g k) [
        | inr n ↦ inr (λ f h. n (subst (λ o. Uses d t class o k) (Some-injective (sym h.noted.noted ∙ e)) h.used))
        | inl u ↦ elim (shared_told d t class told g k u) [
          | inr n ↦ inr (λ f h. n h.shared)
          | inl shared ↦ elim (bare_told (axioms d g)) [
            | inl bare ↦ inr (λ f h. h.noted.some (subst (λ o. HasNoIdentity (axioms d o)) (Some-injective (sym e ∙ h.noted.noted)) bare))
            | inr unit ↦ inl (g, record { shared = shared; used = u; noted = record { noted = e; some = λ bare. identity_of (axioms d g) unit.0 bare unit.1 } })
          ]
        ]
      ]

  -- what is noted of a shared class is its tag; where nothing is, it is the one by its value
  abbrev tag_in : (k : ℕ) → NotedOrNone k → Option OpId
  tag_in k (inl n) = Some n.0
  tag_in k (inr none) = (tag_at k).0

  tag : ℕ → Option OpId
  tag k = tag_in k (noted_or_none k)

  tag_noted : (k : ℕ) (f : OpId) → IsNoted k f → tag k ≡ Some f
  unfolding tag
  tag_noted k f h = go (noted_or_none k)
    where
      go : (o : NotedOrNone k) → tag_in k o ≡ Some f
      go (inl n) = sym n.1.noted.noted ∙ h.noted.noted
      go (inr none) = absurd (none f h)

  tag_else : (k : ℕ) → ((f : OpId) → IsNoted k f → ⊥) → tag k ≡ (tag_at k).0
  unfolding tag
  tag_else k none = go (noted_or_none k)
    where
      go : (o : NotedOrNone k) → tag_in k o ≡ (tag_at k).0
      go (inl n) = absurd (none n.0 n.1)
      go (inr also) = refl

  tag_right : (k : ℕ) (f : OpId) → tag k ≡ Some f → IsShared d t class k × Uses d t class f k
  tag_right k f e = elim (noted_or_none k) [
    | inl n ↦ (n.1.shared, subst (λ o. Uses d t class o k) (Some-injective (sym (tag_noted k n.0 n.1) ∙ e)) n.1.used)
    | inr none ↦ (tag_at k).1.right f (sym (tag_else k none) ∙ e)
  ]

  follow : TagsFollow d t class tag values heads
  follow k f shared used = record {
    noted = λ n. tag_noted k f (record { shared = shared; used = used; noted = n });
    meant = λ m. elim (noted_or_none k) [
      | inl n ↦ inr (subst (λ o. IsNotedSum d t heads o k) (Some-injective (sym (tag_noted k n.0 n.1) ∙ m)) n.1.noted)
      | inr none ↦ inl (((tag_at k).1.is_tag f shared used).0 (sym (tag_else k none) ∙ m))
    ];
  }

  -- which classes are constants of an operator that has an identity is told by the tags
  module _ (f : OpId) (neutral : IsNeutral d f) where
    headed : (z : ℕ) (g : OpId) → IsSolid d t class g z → IsBound d t class tag f z → ⊥
    headed z g h (solid associative own) = identity_of (axioms d f) neutral.unit own.no_identity neutral.is_identity
    headed z g h (alone used soft only) = soft g h
    headed z g h (tagged used shared e) = shared.soft g h

    untagged : (z : ℕ) (g : OpId) → g ≢ f → Uses d t class g z → (tag z ≡ Some f → ⊥) → IsBound d t class tag f z → ⊥
    untagged z g n u fails (solid associative own) = identity_of (axioms d f) neutral.unit own.no_identity neutral.is_identity
    untagged z g n u fails (alone used soft only) = n (only g u)
    untagged z g n u fails (tagged used shared e) = fails e

    constant_by_tag : (z : ℕ) → Decided (IsConstant d t class tag f z)
    constant_by_tag z = elim (user_told d t class y systems f z) [
      | inr n ↦ inr (λ c. n c.used)
      | inl u ↦ elim (told.heads z) [
        | inl p ↦ inl (record { used = u; not_bound = headed z p.0 p.1 })
        | inr soft ↦ elim (told.users f z) [
          | inr only ↦ inr (λ c. c.not_bound (alone u soft only))
          | inl g ↦ elim (tag_told (tag z) f) [
            | inl e ↦ inr (λ c. c.not_bound (tagged u (record { soft = soft; first = g.0; second = f; different = g.1; uses_first = g.2; uses_second = u }) e))
            | inr fails ↦ inl (record { used = u; not_bound = untagged z g.0 g.1 g.2 fails })
          ]
        ]
      ]
    ]

    -- a shared class of which f is noted is no constant
    no_noted : (l : ℕ) → IsConstant d t class tag f l → IsShared d t class l → IsNotedSum d t heads f l → ⊥
    no_noted l c shared noted = c.not_bound (tagged c.used shared (tag_noted l f (record { shared = shared; used = c.used; noted = noted })))

    -- what is a single summand for sure, or has space, is a constant, or a minimal solution without one has it
    space_taken : (z : ℕ) → IsSingle d t class f z ⊎ HasSpace d t heads s f z → IsConstant d t class tag f z ⊎ IsBare d t class tag values f z
    space_taken z (inl single) = inl (record { used = single.used; not_bound = headed z single.head single.solid })
    space_taken z (inr space) = elim (constant_by_tag z) [
      | inl c ↦ inl c
      | inr n ↦ inr (record {
        columns = space.columns;
        system = space.system;
        is = space.is;
        solution = space.solution;
        minimal = space.minimal;
        has = space.has;
        free = λ l c. elim (cases_eq (component space.columns space.solution l) 0) [
          | inl none ↦ none
          | inr some ↦ absurd (
              let noted = space.free l (λ e. n (subst (IsConstant d t class tag f) e c)) (omega (arith, some)) (may_be d t class told tag f l c) in
              no_noted l c noted.0 noted.1)
        ];
      })
    ]

  -- a class of which an operator is noted is taken as a sum of it, where its value is none
  module _ (k : ℕ) (f : OpId) (h : IsNoted k f) where
    within : k < length t.nodes
    within = (own_name d t made s leaf.closed f k h.used.column).within

    no_other : (g : OpId) → g ≢ f → Uses d t class g k → IsSumOrIdentityOf d g (values k) → ⊥
    no_other g n u is = elim (obey_heads k f within h.noted) [
      | inl sum ↦ elim is [
        | inl own ↦ n (one_head g f (values k) own sum)
        | inr unit ↦ sum_is_constant f unit.0 (values k) sum unit.2
      ]
      | inr label ↦ label.other g n u is
    ]

    taken : IsLabel d t s heads f k (values k) → (IsSumOrIdentityOf d f (values k) → ⊥) → IsTakenAsSum d t class tag values f k
    taken label no_sum = record {
      neutral = label.neutral;
      one = λ g u is. elim (operator_told g f) [
        | inl same ↦ no_sum (subst (λ o. IsSumOrIdentityOf d o (values k)) same is)
        | inr n ↦ label.other g n u is
      ];
      member = label.room.member;
      left = label.room.left;
      right = label.room.right;
      over = label.room.over;
      of = label.room.of;
      left_taken = space_taken f label.neutral (class label.room.left) label.room.left_space;
      right_taken = space_taken f label.neutral (class label.room.right) label.room.right_space;
      differ = λ l g c shared e no_sum both one_value same.
          let n : l ≢ k = λ e. c.not_bound (subst (IsBound d t class tag f) (sym e) (tagged h.used h.shared (tag_noted k f h))) in
          let other : g ≢ f = λ same. c.not_bound (tagged c.used shared (e ∙ ap Some same)) in
          let noted : IsNotedSum d t heads g l = elim ((follow l g shared (tag_right l g e).1).meant e) [ inl is ↦ absurd (no_sum is) | inr m ↦ m ] in
          elim (label.room.told l g n other shared noted both (one_value_alive d t made has s leaf.closed values go_with f both.columns both.solution one_value)) [
            | inl two ↦ h.shared.soft two.first two.heads_first
            | inr closed ↦ elim (same_class d t s values go_with k l (own_name d t made s leaf.closed f k h.used.column) (own_name d t made s leaf.closed f l c.used.column).within) [
              | inl o ↦ closed o
              | inr r ↦ elim r [
                | inl q ↦ n (sym (q ∙ (own_name d t made s leaf.closed f l c.used.column).own))
                | inr m ↦ m (sym same ∙ sym (ap values (own_name d t made s leaf.closed f l c.used.column).own))
              ]
            ]
          ];
    }

    noted_obeys : ObeysTag d t class tag values k f
    noted_obeys = record {
      found = λ is. tag_noted k f h;
      meant = λ e. elim (sum_told f h.shared h.used) [
        | inl is ↦ inl is
        | inr n ↦ elim (obey_heads k f within h.noted) [
          | inl sum ↦ inl (inl sum)
          | inr label ↦ inr (taken label n)
        ]
      ];
    }
      where
        sum_told : (f : OpId) → IsShared d t class k → Uses d t class f k → Decided (IsSumOrIdentityOf d f (values k))
        sum_told f shared used = elim (tag_told (tag_at k).0 f) [
          | inl e ↦ inl (((tag_at k).1.is_tag f shared used).0 e)
          | inr n ↦ inr (λ is. n (((tag_at k).1.is_tag f shared used).1 is))
        ]

  obey : ObeyTags d t class tag values
  obey k f shared used = elim (noted_or_none k) [
    | inr none ↦
        let by = (tag_at k).1.is_tag f shared used in
        let e = tag_else k none in
        record { found = λ is. e ∙ by.1 is; meant = λ m. inl (by.0 (sym e ∙ m)) }
    | inl n ↦ elim (operator_told f n.0) [
      | inl same ↦ noted_obeys k f (record { shared = shared; used = used; noted = subst (λ o. IsNotedSum d t heads o k) (sym same) n.1.noted })
      | inr other ↦ record {
        found = λ is. absurd (no_other k n.0 n.1 f other used is);
        meant = λ m. absurd (other (Some-injective (sym m ∙ tag_noted k n.0 n.1)));
      }
    ]
  ]

  pub right_tags : RightTags d t s heads values
  right_tags = record { tag = tag; right = tag_right; obey = obey; follow = follow }

pub tags_exist : TagsExist
tags_exist d t made has s heads leaf told y systems values go_with obey_heads =
    let r = right_tags d t made has s heads leaf told y systems values go_with obey_heads in
    (r.tag, r.obey, r.follow)

-- a unifier's values go with each state that admits its partition
pub unifiers_go_with : UnifiersHaveValues → UnifiersPartition → (d : Declarations) → FitsKinds d → (problem : Problem) → IsProblem d problem → (t : NodeTable) → IsWellMade t → IsTableOf d problem t → (u : Substitution) → IsKindUnifier d problem u → (s : State) → IsClosed d t s →
    Admits s (kernel d u t.nodes) → GoWith d t s (value_at d u t.nodes)
unifiers_go_with have law d fits problem is_problem t made table u unifier s closed admits = record {
  are = have d fits problem is_problem t made table u unifier s closed.whole closed.naming admits;
  differ = λ i j l m apart same.
      let w = closed.whole in
      let li : i < length s.names = omega (arith, l, w) in
      let lj : j < length s.names = omega (arith, m, w) in
      let ni = named_within s closed.naming i li in
      let nj = named_within s closed.naming j lj in
      let ci : class_of s i < length t.nodes = omega (arith, ni, w) in
      let cj : class_of s j < length t.nodes = omega (arith, nj, w) in
      let p = law d fits problem is_problem t made table u unifier in
      let a = node_kinded d fits problem is_problem t table (class_of s i) ci in
      let b = node_kinded d fits problem is_problem t table (class_of s j) cj in
      let left = HasKind-apply d u unifier.0 (term_at t.nodes (class_of s i)) a.0 a.1 in
      let right = HasKind-apply d u unifier.0 (term_at t.nodes (class_of s j)) b.0 b.1 in
      let equal = (b_equal_iff_canon d fits (apply u (term_at t.nodes (class_of s i))) (apply u (term_at t.nodes (class_of s j))) (a.0, left) (b.0, right)).1 same in
      let one = (p.exact (class_of s i) (class_of s j) ci cj).1 equal in
      admits_apart s closed.naming (kernel d u t.nodes) admits i j li lj apart (admits.together i li ∙ one ∙ sym (admits.together j lj));
}
