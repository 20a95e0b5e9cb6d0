-- Every unifier on kinds obeys a split of its partition.
use Rattle.std.proofs.Common.{◌≡◌, ◌≢◌, ℕ, ◌<◌, Bool, true, false, not, List, [], ◌∷◌, map, refl, sym, ap, ◌∙◌, subst, inl, inr, Option, Some, None, slice_get, All, Contains}
use Rattle.std.specs.Prelude.{nat_eq, ◌↔◌}
use Rattle.std.specs.Option.{option_map}
use Rattle.std.proofs.lemmas.Bool.{eqb-true, true≢false}
use Rattle.std.proofs.lemmas.Option.{slice_get_within, slice_get-map}
use Rattle.std.proofs.lemmas.List.{length-map}
use Rattle.std.proofs.lemmas.List.Elements.{All-contains}
use Rattle.fvn_base.proofs.Membership.{contains_here, contains_later, contains_cases, contains_none}
use Rattle.fvn_terms.specs.declared.plain.OpId.{OpId}
use Rattle.fvn_terms.specs.declared.declarations.Axioms.{Axioms}
use Rattle.fvn_terms.specs.declared.declarations.Axioms.TheVariants.{Free as NoAxioms, Comm, AssocComm, AssocCommId}
use Rattle.fvn_terms.specs.declared.declarations.Declarations.{Declarations}
use Rattle.fvn_terms.specs.Substitution.{Substitution, apply}
use Rattle.fvn_terms.specs.Signature.{axioms, IsTerm}
use Rattle.fvn_terms.specs.Unifiers.{Problem}
use Rattle.fvn_terms.proofs.Equal.{HasKind-apply}
use Rattle.fvn_forms.specs.Flat.{FlatTerm}
use Rattle.fvn_forms.specs.FitsKinds.{FitsKinds}
use Rattle.fvn_forms.proofs.Eval.{canon_respects}
use Rattle.fvn_forms.proofs.ToCanon.{b_equal_iff_canon}
use Rattle.fvn_flat.specs.Problems.{IsProblem}
use Rattle.fvn_flat.specs.Partitions.{HasNoIdentity}
use Rattle.fvn_flat.specs.SolvedLists.{IsKindUnifier}
use Rattle.fvn_combine_nodes.specs.Table.{IsOver, IsTableOf, term_at}
use Rattle.fvn_combine_tree.specs.Questions.{IsStart}
use Rattle.fvn_combine_nodes.specs.Unifiers.{value_at, kernel, Partitions}
use Rattle.fvn_combine_nodes.specs.declared.state.State.{State}
use Rattle.fvn_combine_nodes.specs.declared.table.Node.{Node}
use Rattle.fvn_combine_nodes.specs.declared.table.Node.TheVariants.{Var, App}
use Rattle.fvn_combine_nodes.proofs.Nodes.{arguments_within}
use Rattle.fvn_purify.specs.Parts.{Outline}
use Rattle.fvn_purify.specs.Heads.{head_by, operator_head}
use Rattle.fvn_purify.specs.Splits.{number_in, HasTheory, CanHead, IsSplitBy, IsSplit, HasOneFree}
use Rattle.fvn_flat.specs.Forms.{head_of}
use Rattle.fvn_purify.specs.Obeying.{AsksTheory, AsksFor, MakesEqual, MeetsWay, ObeysSplit}
use Rattle.fvn_purify.specs.Cursor.{IsAhead, IsAheadOf, Pending}
use Rattle.fvn_purify.specs.inner.Choices.{asking, AreStepped, IsSound, ShareNoSplit, IsKept}
use Rattle.fvn_purify.specs.inner.Founds.{cursor}
use Rattle.fvn_purify.specs.declared.classes.Head.{Head}
use Rattle.fvn_purify.specs.declared.classes.Head.TheVariants.{Free, Pair, Sum, Identity}
use Rattle.fvn_purify.specs.declared.split.Split.{Split}
use Rattle.fvn_purify.specs.declared.choosing.Partial.{Partial}
use Rattle.fvn_purify.specs.declared.choosing.Partial.TheVariants.{Asking, Choosing}
use Rattle.fvn_purify.proofs.Elements.{contains_at, any_here, any_none, any_one, any_contains, all_pairs_none, all_pairs_one}
use Rattle.fvn_purify.proofs.Numbers.{number_same, number_tells, nat_eq-same}
use Rattle.fvn_purify.proofs.Decided.{one_operator, nodes}
use Rattle.fvn_combine_nodes.proofs.Subterms.{node_kinded}
use Rattle.fvn_combine_nodes.proofs.Lists.{all_from}
use Rattle.fvn_purify.proofs.Solid.{value_headed, value_constant}
use Rattle.fvn_purify.proofs.Asked.{choice}

module _ (d : Declarations) (c : Outline) where
  -- what is still to come is a split
  pub ahead_split : (partials : List Partial) (split : Split) → Pending (cursor d c partials) split → IsSplit d c split
  ahead_split partials split h = let r = any_contains (λ p. IsAheadOf d c p split) partials h in go r.0 r.2
    where
      go : (p : Partial) → IsAheadOf d c p split → IsSplit d c split
      go (Asking s) a = (a.class, a.partition, a.split_by)
      go (Choosing l) a = (a.class, a.partition, a.split_by)

  -- the number of a part
  number_at : (class : ℕ → ℕ) (split : Split) → IsSplitBy d c class split → (k i n : ℕ) → slice_get c.places.parts k ≡ Some i → slice_get split.class_of k ≡ Some n → n ≡ number_in class c.places.parts i
  number_at class split by k i n at number =
      let e : Some n ≡ Some (number_in class c.places.parts i) =
      sym number ∙ ap (λ l. slice_get l k) by.numbers ∙ slice_get-map (number_in class c.places.parts) c.places.parts k ∙ ap (option_map (number_in class c.places.parts)) at
      in
      cc

  bare_free : (f : OpId) → axioms d f ≡ NoAxioms → HasNoIdentity (axioms d f)
  bare_free f e = subst HasNoIdentity (sym e) tt

  -- a class has one free operator
  pub one_free : (split : Split) → IsSplit d c split → HasOneFree d c split
  one_free split s k l i j n f g at there left right =
      let class = s.0 in
      let a = number_at class split s.2 k i n at.0 at.1 in
      let b = number_at class split s.2 l j n there.0 there.1 in
      let e = number_tells class c.places.parts i j (contains_at c.places.parts k i at.0) (sym a ∙ b) in
      let alike = (s.1.nodes i j f g left.1.0 right.1.0 left.1.1 right.1.1).alike e in
      alike.one_head (bare_free f left.0) (bare_free g right.0)

module _ (d : Declarations) (c : Outline) (fit : AreStepped d c) where
  -- how a cursor begins
  pub begun_kept : (r : Option State) → IsStart d c.table r → IsKept (cursor d c (asking r))
  begun_kept None h = record { fit = fit; sound = all_from (IsSound d c) [] (λ p k. absurd (contains_none p k)); apart = all_pairs_none (ShareNoSplit d c) }
  begun_kept (Some s) h = record {
    fit = fit;
    sound = all_from (IsSound d c) (Asking s ∷ []) (λ p k. elim (contains_cases (Asking s) [] p k) [ inl e ↦ subst (IsSound d c) e h.0 | inr z ↦ absurd (contains_none p z) ]);
    apart = all_pairs_one (ShareNoSplit d c) (Asking s);
  }

  pub begun_exact : (r : Option State) → IsStart d c.table r → (split : Split) → Pending (cursor d c (asking r)) split ↔ IsSplit d c split
  begun_exact None h split = (λ k. absurd (any_none _ k), λ k. absurd (h k.0 k.1))
  begun_exact (Some s) h split = (
    λ k. let a : IsAhead d c s [] [] split = any_one (λ p. IsAheadOf d c p split) (Asking s) k in (a.class, a.partition, a.split_by),
    λ k. any_here (λ p. IsAheadOf d c p split) (Asking s) [] (record { class = k.0; partition = k.1; admits = h.1 k.0 k.1; split_by = k.2; heads_begin = (split.heads, refl); swaps_begin = (split.swaps, refl) }),
  )

  module _ (fits : FitsKinds d) (problem : Problem) (is_problem : IsProblem d problem) (table : IsTableOf d problem c.table) (u : Substitution) (unifier : IsKindUnifier d problem u) (parts : Partitions d c.table u) where
    abbrev class : ℕ → ℕ
    class = kernel d u c.table.nodes

    abbrev value : ℕ → FlatTerm
    value = value_at d u c.table.nodes

    kinded : (i : ℕ) → i < nodes d c fit → IsTerm d (term_at c.table.nodes i)
    kinded = node_kinded d fits problem is_problem c.table table

    -- nodes of one class have one value
    same_value : (i j : ℕ) → i < nodes d c fit → j < nodes d c fit → class i ≡ class j → value i ≡ value j
    same_value i j l m e = canon_respects d ((parts.exact i j l m).0 e)

    same_class : (i j : ℕ) → i < nodes d c fit → j < nodes d c fit → value i ≡ value j → class i ≡ class j
    same_class i j l m e =
        let a = kinded i l in
        let b = kinded j m in
        (parts.exact i j l m).1 ((b_equal_iff_canon d fits (apply u (term_at c.table.nodes i)) (apply u (term_at c.table.nodes j)) (a.0, HasKind-apply d u unifier.0 (term_at c.table.nodes i) a.0 a.1) (b.0, HasKind-apply d u unifier.0 (term_at c.table.nodes j) b.0 b.1)).1 e)

    over_within : (i : ℕ) (f : OpId) (ks : List ℕ) → IsOver c.table.nodes i f ks → i < nodes d c fit
    over_within i f ks is = slice_get_within c.table.nodes i (App f ks) is

    -- what a value asks for can be the head of its class
    theory_can : (i : ℕ) (h : Head) → i < nodes d c fit → AsksTheory d c (value i) h → HasTheory d c class i h
    theory_can i h l asks = record {
      no_unit = λ e k. asks.no_unit e (k.0, k.1) (same_value i k.0 l (over_within k.0 e [] k.1.3) k.2 ∙ value_constant d u c.table fit.made k.0 e k.1.3);
      theory = asks.theory;
      solid = λ j f m. solid j f m.arguments m.is m.solid (ap head_of (sym (same_value j i (over_within j f m.arguments m.is) l m.same)) ∙ value_headed d fits problem is_problem c.table fit.made table u j f m.arguments m.is m.solid);
    }
      where
        solid : (j : ℕ) (f : OpId) (ks : List ℕ) → IsOver c.table.nodes j f ks → HasNoIdentity (axioms d f) → head_of (value i) ≡ Some f → h ≡ operator_head d f
        solid j f ks is bare at = go (axioms d f) refl
          where
            own : (a : Axioms) → axioms d f ≡ a → NoAxioms ≢ a → h ≡ operator_head d f
            own a e n = asks.listed f at ((fit.are.ops.all f).1 ((λ z. n (sym z ∙ e)), (j, ks, is)))

            go : (a : Axioms) → axioms d f ≡ a → h ≡ operator_head d f
            go NoAxioms e = asks.free f at (λ k. ((fit.are.ops.all f).0 k).0 e) ∙ sym (ap (λ a. head_by a f) e)
            go Comm e = own Comm e (λ z. cc)
            go AssocComm e = own AssocComm e (λ z. cc)
            go (AssocCommId o) e = own (AssocCommId o) e (λ z. cc)

    asks_can : (i : ℕ) (h : Head) → i < nodes d c fit → AsksFor d c (value i) h → CanHead d c class i h
    asks_can i Free l asks = theory_can i Free l asks
    asks_can i (Pair f) l asks = theory_can i (Pair f) l asks
    asks_can i (Sum f) l asks = theory_can i (Sum f) l asks
    asks_can i (Identity e) l asks =
        let j = asks.0.0 in
        (j, asks.0.1, same_class i j l (over_within j e [] asks.0.1.3) (asks.1 ∙ sym (value_constant d u c.table fit.made j e asks.0.1.3)))

    -- the split of the unifier's partition
    head_at : ℕ → Head
    head_at i = (choice d c (value i)).head

    first_of : Option Node → ℕ
    first_of None = 0
    first_of (Some (Var x)) = 0
    first_of (Some (App f [])) = 0
    first_of (Some (App f (k ∷ ks))) = k

    way_at : ℕ × ℕ → Bool
    way_at p = not (nat_eq (class (first_of (slice_get c.table.nodes p.0))) (class (first_of (slice_get c.table.nodes p.1))))

    pub its_split : Split
    its_split = record { class_of = map (number_in class c.places.parts) c.places.parts; heads = map head_at c.places.headed; swaps = map way_at c.places.pairs }

    head_is : (k i : ℕ) (h : Head) → slice_get c.places.headed k ≡ Some i → slice_get (map head_at c.places.headed) k ≡ Some h → head_at i ≡ h
    head_is k i h at there = let e : Some (head_at i) ≡ Some h = sym (ap (option_map head_at) at) ∙ sym (slice_get-map head_at c.places.headed k) ∙ there in cc

    way_is : (k : ℕ) (p : ℕ × ℕ) (w : Bool) → slice_get c.places.pairs k ≡ Some p → slice_get (map way_at c.places.pairs) k ≡ Some w → w ≡ way_at p
    way_is k p w at there = let e : Some (way_at p) ≡ Some w = sym (ap (option_map way_at) at) ∙ sym (slice_get-map way_at c.places.pairs k) ∙ there in cc

    headed_within : (k i : ℕ) → slice_get c.places.headed k ≡ Some i → i < nodes d c fit
    headed_within k i at = All-contains (λ n. n < nodes d c fit) c.places.headed i fit.within.headed (contains_at c.places.headed k i at)

    parts_within : (k i : ℕ) → slice_get c.places.parts k ≡ Some i → i < nodes d c fit
    parts_within k i at = All-contains (λ n. n < nodes d c fit) c.places.parts i fit.within.parts (contains_at c.places.parts k i at)

    first_is : (i a : ℕ) (f : OpId) (ks : List ℕ) → IsOver c.table.nodes i f (a ∷ ks) → first_of (slice_get c.table.nodes i) ≡ a
    unfolding first_of
    first_is i a f ks is = ap first_of is

    way_over : (p : ℕ × ℕ) (f g : OpId) (a v : ℕ) (ks ls : List ℕ) → IsOver c.table.nodes p.0 f (a ∷ ks) → IsOver c.table.nodes p.1 g (v ∷ ls) → way_at p ≡ not (nat_eq (class a) (class v))
    unfolding way_at
    way_over p f g a v ks ls l m =
        ap (λ n. not (nat_eq (class n) (class (first_of (slice_get c.table.nodes p.1))))) (first_is p.0 a f ks l) ∙ ap (λ n. not (nat_eq (class a) (class n))) (first_is p.1 v g ls m)

    asked : (i : ℕ) → AsksFor d c (value i) (head_at i)
    unfolding head_at
    asked i = (choice d c (value i)).asks

    same_head : (i j : ℕ) → value i ≡ value j → head_at i ≡ head_at j
    unfolding head_at
    same_head i j e = ap (λ v. (choice d c v).head) e

    pub its_split_by : IsSplitBy d c class its_split
    unfolding its_split
    its_split_by = record {
      numbers = refl;
      heads = record {
        can = λ k i h at. subst (CanHead d c class i) (head_is k i h at.0 at.1) (asks_can i (head_at i) (headed_within k i at.0) (asked i));
        one = λ k l i j h g at there e. sym (head_is k i h at.0 at.1) ∙ same_head i j (same_value i j (headed_within k i at.0) (headed_within l j there.0) e) ∙ head_is l j g there.0 there.1;
      };
      all_heads = length-map c.places.headed head_at;
      swaps = λ k p w at f g a v ks ls l m same. way_is k p w at.0 at.1 ∙ way_over p f g a v ks ls l m;
      all_swaps = length-map c.places.pairs way_at;
    }

    made_equal : (i j : ℕ) → i < nodes d c fit → j < nodes d c fit → class i ≡ class j → MakesEqual d c u i j
    made_equal i j l m e = (parts.exact i j l m).0 e

    -- a pair whose instances are equal meets as the split says
    meets : (p : ℕ × ℕ) (f : OpId) (a b v w : ℕ) → Contains c.places.pairs p → IsOver c.table.nodes p.0 f (a ∷ b ∷ []) → IsOver c.table.nodes p.1 f (v ∷ w ∷ []) → MakesEqual d c u p.0 p.1 → (t : Bool) → t ≡ not (nat_eq (class a) (class v)) → MeetsWay d c u t a b v w
    meets p f a b v w listed l m equal t is =
        let pair = (fit.are.places.pairs.all p).0 listed in
        let same = (one_operator d c fit p.0 pair.operator f pair.left (a ∷ b ∷ []) pair.left_is l).0 in
        let comm : axioms d f ≡ Comm = subst (λ o. axioms d o ≡ Comm) same pair.commutative in
        let e : class p.0 ≡ class p.1 = (parts.exact p.0 p.1 (over_within p.0 f (a ∷ b ∷ []) l) (over_within p.1 f (v ∷ w ∷ []) m)).1 equal in
        let alike = (parts.partition.nodes p.0 p.1 f f (a ∷ b ∷ []) (v ∷ w ∷ []) l m).alike e in
        elim (alike.commutative comm refl a b v w refl refl) [
          | inl h ↦ elim h [
            | inl straight ↦ both t straight.0 straight.1 is
            | inr cross ↦ crossed t cross.0 cross.1 is
          ]
          | inr z ↦ absurd z
        ]
      where
        left_within : All (λ (k : ℕ). k < nodes d c fit) (a ∷ b ∷ [])
        left_within = arguments_within c.table.nodes fit.made.ordered p.0 f (a ∷ b ∷ []) l

        right_within : All (λ (k : ℕ). k < nodes d c fit) (v ∷ w ∷ [])
        right_within = arguments_within c.table.nodes fit.made.ordered p.1 f (v ∷ w ∷ []) m

        one : (x y : ℕ) → Contains (a ∷ b ∷ []) x → Contains (v ∷ w ∷ []) y → class x ≡ class y → MakesEqual d c u x y
        one x y h k e = made_equal x y (All-contains (λ (k : ℕ). k < nodes d c fit) (a ∷ b ∷ []) x left_within h) (All-contains (λ (k : ℕ). k < nodes d c fit) (v ∷ w ∷ []) y right_within k) e

        second : (x y : ℕ) → Contains (x ∷ y ∷ []) y
        second x y = contains_later x (y ∷ []) y (contains_here y [])

        both : (t : Bool) → class a ≡ class v → class b ≡ class w → t ≡ not (nat_eq (class a) (class v)) → MeetsWay d c u t a b v w
        both false x y is = (one a v (contains_here a (b ∷ [])) (contains_here v (w ∷ [])) x, one b w (second a b) (second v w) y)
        both true x y is = absurd (let z : true ≡ false = is ∙ ap not (nat_eq-same (class a) (class v) x) in true≢false z)

        crossed : (t : Bool) → class a ≡ class w → class b ≡ class v → t ≡ not (nat_eq (class a) (class v)) → MeetsWay d c u t a b v w
        crossed true x y is = (one a w (contains_here a (b ∷ [])) (second v w) x, one b v (second a b) (contains_here v (w ∷ [])) y)
        crossed false x y is =
            let e : class a ≡ class v = eqb-true (class a) (class v) (from_not (nat_eq (class a) (class v)) (sym is)) in
            (one a v (contains_here a (b ∷ [])) (contains_here v (w ∷ [])) e, one b w (second a b) (second v w) (y ∙ sym e ∙ x))
          where
            from_not : (b : Bool) → not b ≡ false → b ≡ true
            from_not true e = refl
            from_not false e = cc

    -- the unifier obeys it
    pub its_obeyed : ObeysSplit d c u its_split
    unfolding its_split
    its_obeyed = record {
      numbers = λ k l i j n m at there.
          let a = number_at d c class its_split its_split_by k i n at.0 at.1 in
          let b = number_at d c class its_split its_split_by l j m there.0 there.1 in
          let p = parts_within k i at.0 in
          let q = parts_within l j there.0 in (
            λ e. made_equal i j p q (number_tells class c.places.parts i j (contains_at c.places.parts k i at.0) (sym a ∙ e ∙ b)),
            λ e. a ∙ number_same class c.places.parts i j ((parts.exact i j p q).1 e) ∙ sym b,
          );
      all_numbers = length-map c.places.parts (number_in class c.places.parts);
      heads = λ k i h at. subst (AsksFor d c (value i)) (head_is k i h at.0 at.1) (asked i);
      all_heads = length-map c.places.headed head_at;
      swaps = λ k p t at f a b v w l m equal. meets p f a b v w (contains_at c.places.pairs k p at.0) l m equal t (way_is k p t at.0 at.1 ∙ way_over p f f a v (b ∷ []) (w ∷ []) l m);
      all_swaps = length-map c.places.pairs way_at;
    }

    pub obeyed_split : (split : Split) × (ObeysSplit d c u split × IsSplit d c split)
    obeyed_split = (its_split, (its_obeyed, (class, parts.partition, its_split_by)))
