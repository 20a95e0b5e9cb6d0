-- The heads that are chosen among fit, and none that fits is left out.
use Rattle.std.proofs.Common.{◌≡◌, ◌≢◌, ◌⊎◌, ℕ, ◌+◌, ◌<◌, List, [], ◌∷◌, ◌++◌, map, length, refl, sym, ap, ◌∙◌, subst, inl, inr, arith, Some, slice_get, AllPairs, Contains}
use Rattle.std.proofs.lemmas.Option.{slice_get_within}
use Rattle.std.proofs.lemmas.List.{length-map}
use Rattle.std.proofs.lemmas.List.Kept.{AllPairs-cons}
use Rattle.std.proofs.lemmas.List.Elements.{All-contains}
use Rattle.fvn_base.proofs.Pigeonhole.{AllPairs-tail, AllPairs-first}
use Rattle.fvn_base.proofs.Membership.{contains_here, contains_later, contains_cases, contains_none, contains_map, map_contains}
use Rattle.fvn_terms.specs.declared.plain.OpId.{OpId}
use Rattle.fvn_terms.specs.declared.declarations.Axioms.{Axioms}
use Rattle.fvn_terms.specs.declared.declarations.Axioms.TheVariants.{Free as NoAxioms, Comm, AssocComm, AssocCommId}
use Rattle.fvn_terms.specs.declared.declarations.Declarations.{Declarations}
use Rattle.fvn_terms.specs.Signature.{axioms}
use Rattle.fvn_flat.specs.Partitions.{HasNoIdentity}
use Rattle.fvn_combine_nodes.specs.Table.{IsOver}
use Rattle.fvn_combine_nodes.specs.Classes.{IsNodePartition, IsPartitionBut}
use Rattle.fvn_combine_nodes.specs.States.{Admits, IsClosed, class_of}
use Rattle.fvn_combine_nodes.specs.declared.state.State.{State}
use Rattle.fvn_combine_nodes.specs.declared.table.Node.TheVariants.{App}
use Rattle.fvn_combine_nodes.proofs.Lists.{all_from}
use Rattle.fvn_purify.specs.Parts.{Outline}
use Rattle.fvn_purify.specs.Heads.{head_by, operator_head, IsTheory}
use Rattle.fvn_purify.specs.Splits.{IsInUnit, HasTheory, CanHead, AreHeadsOfParts}
use Rattle.fvn_purify.specs.inner.Options.{IsEarlier, IsUnitIn, Forces, by_earlier, by_unit, by_solid, IsUnforced, IsHeadOptions}
use Rattle.fvn_purify.specs.inner.Choices.{AreStepped, AreOptions, IsDecided}
use Rattle.fvn_purify.specs.declared.classes.Head.{Head}
use Rattle.fvn_purify.specs.declared.classes.Head.TheVariants.{Free, Pair, Sum, Identity}
use Rattle.fvn_purify.proofs.Elements.{contains_at, slice_get-left, slice_get-middle, slice_get-push, all_pairs_one}
use Rattle.fvn_purify.proofs.Decided.{one_unit, admitted_same, decided_same, nodes}

module _ (d : Declarations) (c : Outline) (class : ℕ → ℕ) where
  -- a head of a theory
  pub theory_can : (i : ℕ) (f : OpId) → HasTheory d c class i (operator_head d f) → CanHead d c class i (operator_head d f)
  theory_can i f h = go (axioms d f) h
    where
      go : (a : Axioms) → HasTheory d c class i (head_by a f) → CanHead d c class i (head_by a f)
      go NoAxioms h = h
      go Comm h = h
      go AssocComm h = h
      go (AssocCommId e) h = h

  -- the head of a theory or an identity
  pub head_cases : (i : ℕ) (h : Head) → CanHead d c class i h → HasTheory d c class i h ⊎ ((e : OpId) × ((h ≡ Identity e) × IsInUnit d c class i e))
  head_cases i Free k = inl k
  head_cases i (Pair f) k = inl k
  head_cases i (Sum f) k = inl k
  head_cases i (Identity e) k = inr (e, (refl, k))

  -- nodes of one class can have the same heads
  pub can_same : (i j : ℕ) (h : Head) → class i ≡ class j → CanHead d c class i h → CanHead d c class j h
  can_same i j h e k = go h k
    where
      theory_same : (h : Head) → HasTheory d c class i h → HasTheory d c class j h
      theory_same h k = record {
        no_unit = λ f u. k.no_unit f (u.0, u.1, e ∙ u.2);
        theory = k.theory;
        solid = λ n f m. k.solid n f (record { arguments = m.arguments; is = m.is; solid = m.solid; same = m.same ∙ sym e });
      }

      go : (h : Head) → CanHead d c class i h → CanHead d c class j h
      go Free k = theory_same Free k
      go (Pair f) k = theory_same (Pair f) k
      go (Sum f) k = theory_same (Sum f) k
      go (Identity f) k = (k.0, k.1, sym e ∙ k.2)

  -- one more head that fits, and that is the one of earlier nodes in its class
  pub more_heads : (list : List ℕ) (heads : List Head) (i : ℕ) (h : Head) → AreHeadsOfParts d c class list heads → slice_get list (length heads) ≡ Some i → CanHead d c class i h → ((g : Head) → IsEarlier class list heads i g → h ≡ g) → AreHeadsOfParts d c class list (heads ++ h ∷ [])
  more_heads list heads i h are at can same = record {
    can = λ k j g a. elim (slice_get-push heads h g k a.1) [
      | inl l ↦ are.can k j g (a.0, l)
      | inr r ↦ let e : Some i ≡ Some j = sym at ∙ ap (slice_get list) (sym r.0) ∙ a.0 in let s : i ≡ j = cc in subst (CanHead d c class j) r.1 (subst (λ n. CanHead d c class n h) s can)
    ];
    one = λ k l j n g o a b e. elim (slice_get-push heads h g k a.1) [
      | inl x ↦ elim (slice_get-push heads h o l b.1) [
        | inl y ↦ are.one k l j n g o (a.0, x) (b.0, y) e
        | inr r ↦
            let t : Some i ≡ Some n = sym at ∙ ap (slice_get list) (sym r.0) ∙ b.0 in
            let s : i ≡ n = cc in
            sym (same g (k, j, a.0, x, e ∙ ap class (sym s))) ∙ r.1
      ]
      | inr u ↦ elim (slice_get-push heads h o l b.1) [
        | inl y ↦
            let t : Some i ≡ Some j = sym at ∙ ap (slice_get list) (sym u.0) ∙ a.0 in
            let s : i ≡ j = cc in
            sym u.1 ∙ same o (l, n, b.0, y, sym e ∙ ap class (sym s))
        | inr r ↦ sym u.1 ∙ r.1
      ]
    ];
  }

  -- the last of these heads
  pub last_head : (list : List ℕ) (heads : List Head) (i : ℕ) (h : Head) → AreHeadsOfParts d c class list (heads ++ h ∷ []) → slice_get list (length heads) ≡ Some i → CanHead d c class i h × ((g : Head) → IsEarlier class list heads i g → h ≡ g)
  last_head list heads i h are at = (
    are.can (length heads) i h (at, slice_get-middle heads [] h),
    λ g k. are.one (length heads) k.0 i k.1 h g (at, slice_get-middle heads [] h) (k.2, slice_get-left heads (h ∷ []) k.0 g k.3) (sym k.4),
  )

  -- no heads
  pub no_heads : (list : List ℕ) → AreHeadsOfParts d c class list []
  no_heads list = record {
    can = λ k i h a. absurd (none k h a.1);
    one = λ k l i j h g a b e. absurd (none k h a.1);
  }
    where
      none : (k : ℕ) (h : Head) → slice_get [] k ≡ Some h → ⊥
      none k h e = let l = slice_get_within [] k h e in omega arith

module _ (d : Declarations) (f g : OpId) where
  -- operators with axioms have heads of their own
  pub heads_apart : f ≢ g → axioms d f ≢ NoAxioms → axioms d g ≢ NoAxioms → operator_head d f ≢ operator_head d g
  heads_apart apart own other e = apart (go (axioms d f) (axioms d g) refl refl e)
    where
      go : (a b : Axioms) → axioms d f ≡ a → axioms d g ≡ b → head_by a f ≡ head_by b g → f ≡ g
      go NoAxioms b p q e = absurd (own p)
      go Comm NoAxioms p q e = absurd (other q)
      go Comm Comm p q e = cc
      go Comm AssocComm p q e = cc
      go Comm (AssocCommId o) p q e = cc
      go AssocComm NoAxioms p q e = absurd (other q)
      go AssocComm Comm p q e = cc
      go AssocComm AssocComm p q e = cc
      go AssocComm (AssocCommId o) p q e = cc
      go (AssocCommId n) NoAxioms p q e = absurd (other q)
      go (AssocCommId n) Comm p q e = cc
      go (AssocCommId n) AssocComm p q e = cc
      go (AssocCommId n) (AssocCommId o) p q e = cc

  pub head_not_free : axioms d f ≢ NoAxioms → Free ≢ operator_head d f
  head_not_free own e = go (axioms d f) refl e
    where
      go : (a : Axioms) → axioms d f ≡ a → Free ≡ head_by a f → ⊥
      go NoAxioms p e = own p
      go Comm p e = cc
      go AssocComm p e = cc
      go (AssocCommId o) p e = cc

module _ (d : Declarations) (c : Outline) (fit : AreStepped d c) where
  -- an operator of a node heads a theory
  pub node_theory : (j : ℕ) (f : OpId) (ks : List ℕ) → IsOver c.table.nodes j f ks → IsTheory d c.ops (operator_head d f)
  node_theory j f ks is = go (axioms d f) refl
    where
      listed : axioms d f ≢ NoAxioms → Contains c.ops f
      listed own = (fit.are.ops.all f).1 (own, (j, ks, is))

      go : (a : Axioms) → axioms d f ≡ a → IsTheory d c.ops (operator_head d f)
      go NoAxioms e = inl (ap (λ a. head_by a f) e)
      go Comm e = inr (f, listed (λ z. let q : NoAxioms ≡ Comm = sym z ∙ e in cc), refl)
      go AssocComm e = inr (f, listed (λ z. let q : NoAxioms ≡ AssocComm = sym z ∙ e in cc), refl)
      go (AssocCommId o) e = inr (f, listed (λ z. let q : NoAxioms ≡ AssocCommId o = sym z ∙ e in cc), refl)

  -- the heads of all theories, each once
  pub theories_once : AllPairs ◌≢◌ (Free ∷ map (operator_head d) c.ops)
  theories_once =
      AllPairs-cons ◌≢◌ Free (map (operator_head d) c.ops)
      (all_from (λ h. Free ≢ h) (map (operator_head d) c.ops) (λ h k. let m = map_contains (operator_head d) c.ops h k in subst (λ g. Free ≢ g) m.1.1 (head_not_free d m.0 m.0 (own m.0 m.1.0))))
      (pairs c.ops (λ f k. k) fit.are.ops.once)
    where
      own : (f : OpId) → Contains c.ops f → axioms d f ≢ NoAxioms
      own f k = ((fit.are.ops.all f).0 k).0

      pairs : (ops : List OpId) → ((f : OpId) → Contains ops f → Contains c.ops f) → AllPairs ◌≢◌ ops → AllPairs ◌≢◌ (map (operator_head d) ops)
      pairs [] within once = λ i j e a b. absurd (omega (arith, b))
      pairs (f ∷ ops) within once =
          AllPairs-cons ◌≢◌ (operator_head d f) (map (operator_head d) ops)
          (all_from (λ h. operator_head d f ≢ h) (map (operator_head d) ops) (λ h k. let m = map_contains (operator_head d) ops h k in subst (λ g. operator_head d f ≢ g) m.1.1 (heads_apart d f m.0 (AllPairs-first ◌≢◌ f ops m.0 once m.1.0) (own f (within f (contains_here f ops))) (own m.0 (within m.0 (contains_later f ops m.0 m.1.0))))))
          (pairs ops (λ g k. within g (contains_later f ops g k)) (AllPairs-tail ◌≢◌ f ops once))

  module _ (s : State) (closed : IsClosed d c.table s) (none : IsDecided c s) (heads : List Head) (are : AreHeadsOfParts d c (class_of s) c.places.headed heads) (i : ℕ) (at : slice_get c.places.headed (length heads) ≡ Some i) where
    here : Contains c.places.headed i
    here = contains_at c.places.headed (length heads) i at

    within : i < nodes d c fit
    within = All-contains (λ k. k < nodes d c fit) c.places.headed i fit.within.headed here

    unit_within : (e : OpId) → IsInUnit d c (class_of s) i e → IsUnitIn c.table (class_of s) i e
    unit_within e u =
        let p = u.1.0 in
        (p, u.1.1, u.2 ∙ ap (class_of s) (sym u.1.2), subst (λ k. IsOver c.table.nodes k e []) (sym u.1.2) u.1.3)

    unit_in : (e : OpId) → IsUnitIn c.table (class_of s) i e → IsInUnit d c (class_of s) i e
    unit_in e u = (u.0.1, (u.0, u.1, refl, u.3), u.2)

    -- an identity in the class of the node in a partition is so in the state
    unit_before : (class : ℕ → ℕ) → Admits s class → (e : OpId) → IsInUnit d c class i e → IsUnitIn c.table (class_of s) i e
    unit_before class admits e u =
        let p = u.1.0 in
        (p, u.1.1, decided_same d c fit s closed none class admits i p.1 (inr (inl (here, (p, u.1.1, refl)))) (u.2 ∙ ap class (sym u.1.2)), subst (λ k. IsOver c.table.nodes k e []) (sym u.1.2) u.1.3)

    -- two members without an identity have one operator
    one_solid : (Undecided : ℕ → ℕ → Type 0) (class : ℕ → ℕ) → IsPartitionBut d Undecided class c.table → (j n : ℕ) (f g : OpId) (ks ls : List ℕ) → IsOver c.table.nodes j f ks → IsOver c.table.nodes n g ls → HasNoIdentity (axioms d f) → HasNoIdentity (axioms d g) → class j ≡ class n → f ≡ g
    one_solid Undecided class partition j n f g ks ls a b bare other same = let alike = (partition.nodes j n f g ks ls a b).alike same in alike.one_head bare other

    node_within : (j : ℕ) (f : OpId) (ks : List ℕ) → IsOver c.table.nodes j f ks → j < nodes d c fit
    node_within j f ks is = slice_get_within c.table.nodes j (App f ks) is

    -- what is forced fits
    forced_can : (h : Head) → Forces d c (class_of s) heads i h → CanHead d c (class_of s) i h × ((g : Head) → IsEarlier (class_of s) c.places.headed heads i g → h ≡ g)
    forced_can h (by_earlier k) = (
      can_same d c (class_of s) k.1 i h k.4 (are.can k.0 k.1 h (k.2, k.3)),
      λ g l. are.one k.0 l.0 k.1 l.1 h g (k.2, k.3) (l.2, l.3) (k.4 ∙ sym l.4),
    )
    forced_can h (by_unit e is earlier u) = (subst (CanHead d c (class_of s) i) (sym is) (unit_in e u), λ g l. absurd (earlier g l))
    forced_can h (by_solid j earlier unit k) =
        let f = k.0 in (
          subst (CanHead d c (class_of s) i) (sym k.5) (theory_can d c (class_of s) i f (record {
            no_unit = λ e u. unit e (unit_within e u);
            theory = node_theory j f k.1 k.2;
            solid = λ n g m. ap (operator_head d) (one_solid _ (class_of s) closed.partition j n f g k.1 m.arguments k.2 m.is k.3 m.solid (k.4 ∙ sym m.same));
          })),
          λ g l. absurd (earlier g l),
        )

    unforced_can : IsUnforced d c (class_of s) heads i → (h : Head) → IsTheory d c.ops h → HasTheory d c (class_of s) i h
    unforced_can free h theory = record {
      no_unit = λ e u. free.unit e (unit_within e u);
      theory = theory;
      solid = λ n g m. absurd (free.solid n (operator_head d g) (g, m.arguments, m.is, m.solid, m.same, refl));
    }

    theory_fits : (h : Head) → IsTheory d c.ops h → HasTheory d c (class_of s) i h → CanHead d c (class_of s) i h
    theory_fits h (inl e) k = subst (CanHead d c (class_of s) i) (sym e) (subst (HasTheory d c (class_of s) i) e k)
    theory_fits h (inr t) k = subst (CanHead d c (class_of s) i) (sym t.2) (theory_can d c (class_of s) i t.0 (subst (HasTheory d c (class_of s) i) t.2 k))

    theory_listed : (h : Head) → Contains (Free ∷ map (operator_head d) c.ops) h → IsTheory d c.ops h
    theory_listed h k = elim (contains_cases Free (map (operator_head d) c.ops) h k) [
      | inl e ↦ inl (sym e)
      | inr r ↦ let m = map_contains (operator_head d) c.ops h r in inr (m.0, m.1.0, sym m.1.1)
    ]

    listed_theory : (h : Head) → IsTheory d c.ops h → Contains (Free ∷ map (operator_head d) c.ops) h
    listed_theory h (inl e) = subst (Contains (Free ∷ map (operator_head d) c.ops)) (sym e) (contains_here Free (map (operator_head d) c.ops))
    listed_theory h (inr t) = subst (Contains (Free ∷ map (operator_head d) c.ops)) (sym t.2) (contains_later Free (map (operator_head d) c.ops) (operator_head d t.0) (contains_map (operator_head d) c.ops t.0 t.1))

    -- what fits classes that the state admits is what is forced
    forced_only : (h : Head) → Forces d c (class_of s) heads i h → (class : ℕ → ℕ) → IsNodePartition d c.table class → Admits s class → (x : Head) → AreHeadsOfParts d c class c.places.headed (heads ++ x ∷ []) → h ≡ x
    forced_only h (by_earlier k) class partition admits x fits =
        let j_here = contains_at c.places.headed k.0 k.1 k.2 in
        let j_within = All-contains (λ n. n < nodes d c fit) c.places.headed k.1 fit.within.headed j_here in
        let last = last_head d c class c.places.headed heads i x fits at in
        sym (last.1 h (k.0, k.1, k.2, k.3, admitted_same d c fit s closed class admits k.1 i j_within within k.4))
    forced_only h (by_unit e is earlier u) class partition admits x fits =
        let last = last_head d c class c.places.headed heads i x fits at in
        let same : class i ≡ class u.0.1 = admitted_same d c fit s closed class admits i u.0.1 within (node_within u.0.1 e [] u.3) u.2 in
        elim (head_cases d c class i x last.0) [
          | inl theory ↦ absurd (theory.no_unit e (u.0.1, (u.0, u.1, refl, u.3), same))
          | inr w ↦ is ∙ ap Identity (one_unit d c fit (λ a v. ⊥) class partition u.0.1 w.1.1.0 e w.0 (u.0, u.1, refl, u.3) w.1.1.1 (sym same ∙ w.1.1.2)) ∙ sym w.1.0
        ]
    forced_only h (by_solid j earlier unit k) class partition admits x fits =
        let last = last_head d c class c.places.headed heads i x fits at in
        elim (head_cases d c class i x last.0) [
          | inl theory ↦ k.5 ∙ sym (theory.solid j k.0 (record { arguments = k.1; is = k.2; solid = k.3; same = admitted_same d c fit s closed class admits j i (node_within j k.0 k.1 k.2) within k.4 }))
          | inr w ↦ absurd (unit w.0 (unit_before class admits w.0 w.1.1))
        ]

    unforced_only : IsUnforced d c (class_of s) heads i → (class : ℕ → ℕ) → Admits s class → (x : Head) → AreHeadsOfParts d c class c.places.headed (heads ++ x ∷ []) → IsTheory d c.ops x
    unforced_only free class admits x fits =
        let last = last_head d c class c.places.headed heads i x fits at in
        elim (head_cases d c class i x last.0) [
          | inl theory ↦ theory.theory
          | inr w ↦ absurd (free.unit w.0 (unit_before class admits w.0 w.1.1))
        ]

    -- the options for one more head
    pub head_options : (options : List Head) → IsHeadOptions d c (class_of s) heads i options → AreOptions d c (λ class h. AreHeadsOfParts d c class c.places.headed (heads ++ h ∷ [])) s options
    head_options options (inl o) =
        let h = o.0 in
        let can = forced_can h o.1 in
        let Fits = λ (g : Head). AreHeadsOfParts d c (class_of s) c.places.headed (heads ++ g ∷ []) in
        subst (AreOptions d c (λ class h. AreHeadsOfParts d c class c.places.headed (heads ++ h ∷ [])) s) (sym o.2) (record {
          fit = all_from Fits (h ∷ []) (λ g k. elim (contains_cases h [] g k) [ inl e ↦ subst Fits e (more_heads d c (class_of s) c.places.headed heads i h are at can.0 can.1) | inr r ↦ absurd (contains_none g r) ]);
          once = all_pairs_one ◌≢◌ h;
          all = λ class partition admits x fits. subst (Contains (h ∷ [])) (forced_only h o.1 class partition admits x fits) (contains_here h []);
        })
    head_options options (inr o) =
        let Fits = λ (g : Head). AreHeadsOfParts d c (class_of s) c.places.headed (heads ++ g ∷ []) in
        subst (AreOptions d c (λ class h. AreHeadsOfParts d c class c.places.headed (heads ++ h ∷ [])) s) (sym o.1) (record {
          fit = all_from Fits (Free ∷ map (operator_head d) c.ops) (λ g k. let t = theory_listed g k in more_heads d c (class_of s) c.places.headed heads i g are at (theory_fits g t (unforced_can o.0 g t)) (λ f l. absurd (o.0.earlier f l)));
          once = theories_once;
          all = λ class partition admits x fits. listed_theory x (unforced_only o.0 class admits x fits);
        })

    -- there are no more than the weight allows
    pub few_options : (options : List Head) → IsHeadOptions d c (class_of s) heads i options → length options < 3 + length c.ops
    few_options options (inl o) = let n = ap length o.2 in omega arith
    few_options options (inr o) = let n = ap length o.1 in let m = length-map c.ops (operator_head d) in omega arith
