-- What a pair asks, taken apart.
use Rattle.std.proofs.Common.{◌≡◌, ◌-◌, ◌≤◌, Bool, true, false, List, [], ◌∷◌, length, map, take, drop, get_or, Some, None, refl, sym, ap, ◌∙◌, subst, inl, inr, arith}
use Rattle.std.specs.Prelude.{◌↔◌, ◌⊎◌}
use Rattle.std.specs.List.{AllZip}
use Rattle.std.specs.Ordering.{is_gt}
use Rattle.std.proofs.lemmas.List.{take_rest}
use Rattle.fvn_terms.specs.declared.plain.Var.{Var}
use Rattle.fvn_terms.specs.declared.plain.OpId.{OpId}
use Rattle.fvn_terms.specs.declared.plain.SortId.{SortId}
use Rattle.fvn_terms.specs.declared.declarations.Axioms.{Axioms}
use Rattle.fvn_terms.specs.declared.declarations.Axioms.TheVariants.{Free, Comm}
use Rattle.fvn_terms.specs.declared.declarations.Declarations.{Declarations}
use Rattle.fvn_terms.specs.Signature.{kind, axioms, HasKind, HaveKinds}
use Rattle.fvn_terms.specs.Equality.{IsAssociative}
use Rattle.fvn_forms.specs.Flat.{FlatTerm, FlatTerms, fvar, fapp, fnone, fmore, fpack, funpack, plain, plain_all}
use Rattle.fvn_forms.specs.Order.{flat_cmp}
use Rattle.fvn_forms.specs.InOrder.{InOrder, sort}
use Rattle.fvn_forms.specs.Canon.{inst}
use Rattle.fvn_forms.specs.Settled.{FitsUnjoined, Settled, SettledAll, SettledValues}
use Rattle.fvn_forms.specs.FitsKinds.{FitsKinds}
use Rattle.fvn_forms.proofs.InOrder.{insert-insert, sort_in_order}
use Rattle.fvn_forms.proofs.Sums.{funpack-fpack, fpack-funpack}
use Rattle.fvn_forms.proofs.Instances.{inst_free, inst_commutative}
use Rattle.fvn_flat.specs.Forms.{variable_of, head_of, args_of}
use Rattle.fvn_match.specs.inner.Candidates.{Values}
use Rattle.fvn_match.specs.inner.Goals.{AllMake, IsPair}
use Rattle.fvn_match.specs.inner.Searching.{crossed, IsCrossing}

-- lists, by their first members and the others
pub zip_parted : {A B : Type 0} (R : A → B → Type 0) (xs : List A) (ys : List B) (x : A) (y : B) → 1 ≤ length xs → length ys ≡ length xs → x ≡ get_or xs 0 x → y ≡ get_or ys 0 y → AllZip R xs ys ↔ (R x y × AllZip R (drop 1 xs) (drop 1 ys))
zip_parted R [] ys x y some long p q = absurd (omega arith)
zip_parted R (u ∷ us) [] x y some long p q = absurd (omega arith)
zip_parted R (u ∷ us) (v ∷ vs) x y some long p q = (λ h. (subst (λ w. R w y) (sym p) (subst (R u) (sym q) h.0), h.1), λ h. (subst (R u) q (subst (λ w. R w y) p h.0), h.1))

pub rest_of : {A : Type 0} (xs : List A) → take (length xs - 1) (drop 1 xs) ≡ drop 1 xs
rest_of xs = take_rest xs 1

-- a form is a variable or has a head
pub variable_is : (p : FlatTerm) (x : Var) → variable_of p ≡ Some x → p ≡ fvar x
variable_is (fvar y) x e = let q : y ≡ x = cc in ap fvar q
variable_is (fapp f joined ts) x e = cc

pub variable_or_head : (p : FlatTerm) → variable_of p ≡ None → head_of p ≡ None → ⊥
variable_or_head (fvar y) e h = cc
variable_or_head (fapp f joined ts) e h = cc

module _ (d : Declarations) where
  -- instances of a list, one by one
  pub map_makes : (c : Values) (ps us : List FlatTerm) → map (inst d c) ps ≡ us → AllMake d ps us c
  map_makes c [] [] e = tt
  map_makes c [] (u ∷ us) e = cc
  map_makes c (p ∷ ps) [] e = cc
  map_makes c (p ∷ ps) (u ∷ us) e = ((let q : inst d c p ≡ u = cc in q), map_makes c ps us (let q : map (inst d c) ps ≡ us = cc in q))

  pub makes_map : (c : Values) (ps us : List FlatTerm) → AllMake d ps us c → map (inst d c) ps ≡ us
  makes_map c [] [] h = refl
  makes_map c [] (u ∷ us) h = absurd h
  makes_map c (p ∷ ps) [] h = absurd h
  makes_map c (p ∷ ps) (u ∷ us) h = ap (λ v. v ∷ map (inst d c) ps) h.0 ∙ ap (λ l. u ∷ l) (makes_map c ps us h.1)

  -- a form headed by an operator that is not associative is that operator over its arguments
  pub not_joined : (a : Axioms) → (IsAssociative a → ⊥) → (f : OpId) → axioms d f ≡ a → (p : FlatTerm) → Settled d p → head_of p ≡ Some f → (ts : FlatTerms) × (p ≡ fapp f false ts)
  not_joined a n f e (fvar x) s h = cc
  not_joined a n f e (fapp g true ts) s h = let q : g ≡ f = cc in absurd (n (subst IsAssociative (ap (axioms d) q ∙ e) s.0.associative))
  not_joined a n f e (fapp g false ts) s h = let q : g ≡ f = cc in (ts, ap (λ o. fapp o false ts) q)

  pairs_of_kinds : (ts us : FlatTerms) (ks : List SortId) → SettledAll d ts → SettledAll d us → HaveKinds d (plain_all ts) ks → HaveKinds d (plain_all us) ks → AllZip (IsPair d) (funpack ts) (funpack us)
  pairs_of_kinds fnone fnone ks s z h j = tt
  pairs_of_kinds fnone (fmore u us) [] s z h j = absurd j
  pairs_of_kinds fnone (fmore u us) (k ∷ ks) s z h j = absurd h
  pairs_of_kinds (fmore t ts) fnone [] s z h j = absurd h
  pairs_of_kinds (fmore t ts) fnone (k ∷ ks) s z h j = absurd j
  pairs_of_kinds (fmore t ts) (fmore u us) [] s z h j = absurd h
  pairs_of_kinds (fmore t ts) (fmore u us) (k ∷ ks) s z h j =
      (record { pattern = s.0; target = z.0; of_kind = k; pattern_kind = h.0; target_kind = j.0 }, pairs_of_kinds ts us ks s.1 z.1 h.1 j.1)

  module _ (fits : FitsKinds d) (f : OpId) (p t : FlatTerm) (pair : IsPair d p t) (head : head_of p ≡ Some f) where
    -- an instance keeps the head of a form that is no sum
    module _ (c : Values) (settled : SettledValues d c) where
      pub free_head : axioms d f ≡ Free → inst d c p ≡ t → head_of t ≡ Some f
      free_head e is = let n = not_joined Free (λ a. a) f e p pair.pattern head in ap head_of (sym is ∙ ap (inst d c) n.1 ∙ inst_free d c settled f e n.0)

      pub commutative_head : axioms d f ≡ Comm → inst d c p ≡ t → head_of t ≡ Some f
      commutative_head e is = let n = not_joined Comm (λ a. a) f e p pair.pattern head in ap head_of (sym is ∙ ap (inst d c) n.1 ∙ inst_commutative d c settled f e n.0)

    -- free operators, argument by argument
    module _ (e : axioms d f ≡ Free) (same : head_of t ≡ Some f) where
      left : (ts : FlatTerms) × (p ≡ fapp f false ts)
      left = not_joined Free (λ a. a) f e p pair.pattern head

      right : (ts : FlatTerms) × (t ≡ fapp f false ts)
      right = not_joined Free (λ a. a) f e t pair.target same

      pub free_pairs : AllZip (IsPair d) (args_of p) (args_of t)
      free_pairs = subst (λ u. AllZip (IsPair d) (args_of u) (args_of t)) (sym left.1) (subst (λ u. AllZip (IsPair d) (funpack left.0) (args_of u)) (sym right.1) both)
        where
          hp : HasKind d (plain (fapp f false left.0)) pair.of_kind
          hp = subst (λ u. HasKind d (plain u) pair.of_kind) left.1 pair.pattern_kind

          ht : HasKind d (plain (fapp f false right.0)) pair.of_kind
          ht = subst (λ u. HasKind d (plain u) pair.of_kind) right.1 pair.target_kind

          sp : Settled d (fapp f false left.0)
          sp = subst (Settled d) left.1 pair.pattern

          st : Settled d (fapp f false right.0)
          st = subst (Settled d) right.1 pair.target

          both : AllZip (IsPair d) (funpack left.0) (funpack right.0)
          both = pairs_of_kinds left.0 right.0 (map (kind d) hp.rank.args) sp.1 st.1 hp.args (subst (HaveKinds d (plain_all right.0)) (fits.agree f ht.rank hp.rank ht.listed hp.listed).0 ht.args)

      pub free_step : (c : Values) → SettledValues d c → (inst d c p ≡ t) ↔ AllMake d (args_of p) (args_of t) c
      free_step c settled =
          subst (λ u. (inst d c p ≡ t) ↔ AllMake d (args_of u) (args_of t) c) (sym left.1)
          (subst (λ u. (inst d c p ≡ t) ↔ AllMake d (funpack left.0) (args_of u) c) (sym right.1) (
            λ is. map_makes c (funpack left.0) (funpack right.0) (sym (funpack-fpack (map (inst d c) (funpack left.0))) ∙ ap args_of (sym value ∙ is ∙ right.1)),
            λ h. value ∙ ap (λ l. fapp f false (fpack l)) (makes_map c (funpack left.0) (funpack right.0) h) ∙ ap (fapp f false) (fpack-funpack right.0) ∙ sym right.1,
          ))
        where
          value : inst d c p ≡ fapp f false (fpack (map (inst d c) (funpack left.0)))
          value = ap (inst d c) left.1 ∙ inst_free d c settled f e left.0

  -- the arguments of a commutative operator
  pub record TwoOf (f : OpId) (p t : FlatTerm) : Type 0 where
    pub a : FlatTerm
    pub b : FlatTerm
    pub u : FlatTerm
    pub v : FlatTerm
    pub pattern_is : p ≡ fapp f false (fmore a (fmore b fnone))
    pub target_is : t ≡ fapp f false (fmore u (fmore v fnone))
    pub straight_first : IsPair d a u
    pub straight_second : IsPair d b v
    pub across_first : IsPair d a v
    pub across_second : IsPair d b u
    pub in_order : InOrder (u ∷ v ∷ [])

  two_args : (ts : FlatTerms) (k : SortId) → HaveKinds d (plain_all ts) (k ∷ k ∷ []) → (a : FlatTerm) × (b : FlatTerm) × (ts ≡ fmore a (fmore b fnone))
  two_args fnone k h = absurd h
  two_args (fmore a fnone) k h = absurd h.1
  two_args (fmore a (fmore b fnone)) k h = (a, b, refl)
  two_args (fmore a (fmore b (fmore e ts))) k h = absurd h.1.1

  module _ (fits : FitsKinds d) (f : OpId) (p t : FlatTerm) (pair : IsPair d p t) (head : head_of p ≡ Some f) (e : axioms d f ≡ Comm) (same : head_of t ≡ Some f) where
    two_of : TwoOf f p t
    two_of =
        record {
          a = ps.0;
          b = ps.1;
          u = us.0;
          v = us.1;
          pattern_is = left.1 ∙ ap (fapp f false) ps.2;
          target_is = right.1 ∙ ap (fapp f false) us.2;
          straight_first = record { pattern = sp.0; target = st.0; of_kind = one.0; pattern_kind = kp.0; target_kind = kt.0 };
          straight_second = record { pattern = sp.1.0; target = st.1.0; of_kind = one.0; pattern_kind = kp.1.0; target_kind = kt.1.0 };
          across_first = record { pattern = sp.0; target = st.1.0; of_kind = one.0; pattern_kind = kp.0; target_kind = kt.1.0 };
          across_second = record { pattern = sp.1.0; target = st.0; of_kind = one.0; pattern_kind = kp.1.0; target_kind = kt.0 };
          in_order = order;
        }
      where
        left : (ts : FlatTerms) × (p ≡ fapp f false ts)
        left = not_joined Comm (λ x. x) f e p pair.pattern head

        right : (ts : FlatTerms) × (t ≡ fapp f false ts)
        right = not_joined Comm (λ x. x) f e t pair.target same

        hp : HasKind d (plain (fapp f false left.0)) pair.of_kind
        hp = subst (λ u. HasKind d (plain u) pair.of_kind) left.1 pair.pattern_kind

        ht : HasKind d (plain (fapp f false right.0)) pair.of_kind
        ht = subst (λ u. HasKind d (plain u) pair.of_kind) right.1 pair.target_kind

        one : (k : SortId) × (map (kind d) hp.rank.args ≡ k ∷ k ∷ [])
        one = fits.commutative f hp.rank (rw e tt) hp.listed

        ap_kinds : HaveKinds d (plain_all left.0) (one.0 ∷ one.0 ∷ [])
        ap_kinds = subst (HaveKinds d (plain_all left.0)) one.1 hp.args

        at_kinds : HaveKinds d (plain_all right.0) (one.0 ∷ one.0 ∷ [])
        at_kinds = subst (HaveKinds d (plain_all right.0)) ((fits.agree f ht.rank hp.rank ht.listed hp.listed).0 ∙ one.1) ht.args

        ps : (a : FlatTerm) × (b : FlatTerm) × (left.0 ≡ fmore a (fmore b fnone))
        ps = two_args left.0 one.0 ap_kinds

        us : (a : FlatTerm) × (b : FlatTerm) × (right.0 ≡ fmore a (fmore b fnone))
        us = two_args right.0 one.0 at_kinds

        kp : HaveKinds d (plain_all (fmore ps.0 (fmore ps.1 fnone))) (one.0 ∷ one.0 ∷ [])
        kp = subst (λ ts. HaveKinds d (plain_all ts) (one.0 ∷ one.0 ∷ [])) ps.2 ap_kinds

        kt : HaveKinds d (plain_all (fmore us.0 (fmore us.1 fnone))) (one.0 ∷ one.0 ∷ [])
        kt = subst (λ ts. HaveKinds d (plain_all ts) (one.0 ∷ one.0 ∷ [])) us.2 at_kinds

        sp : SettledAll d (fmore ps.0 (fmore ps.1 fnone))
        sp = (subst (Settled d) (left.1 ∙ ap (fapp f false) ps.2) pair.pattern).1

        settled : Settled d (fapp f false (fmore us.0 (fmore us.1 fnone)))
        settled = subst (Settled d) (right.1 ∙ ap (fapp f false) us.2) pair.target

        st : SettledAll d (fmore us.0 (fmore us.1 fnone))
        st = settled.1

        order : InOrder (us.0 ∷ us.1 ∷ [])
        order = subst (λ a. FitsUnjoined d a (us.0 ∷ us.1 ∷ [])) e settled.0

    pub two_patterns : length (args_of p) ≡ 2
    two_patterns = ap (λ x. length (args_of x)) two_of.pattern_is

    pub two_targets : length (args_of t) ≡ 2
    two_targets = ap (λ x. length (args_of x)) two_of.target_is

    pub crossing : IsCrossing d (args_of p) (args_of t)
    crossing =
        let w = two_of in
        subst (λ x. IsCrossing d (args_of x) (args_of t)) (sym w.pattern_is)
        (subst (λ x. IsCrossing d (w.a ∷ w.b ∷ []) (args_of x)) (sym w.target_is)
        record { straight = (w.straight_first, (w.straight_second, tt)); across = (w.across_first, (w.across_second, tt)) })

    module _ (c : Values) (settled : SettledValues d c) where
      in_turn : (a b u v : FlatTerm) (x : Bool) → is_gt (flat_cmp a b) ≡ x → sort (a ∷ b ∷ []) ≡ u ∷ v ∷ [] → ((a ≡ u) × (b ≡ v)) ⊎ ((a ≡ v) × (b ≡ u))
      in_turn a b u v true g q = let r : b ∷ a ∷ [] ≡ u ∷ v ∷ [] = rw g at q in inr ((let z : a ≡ v = cc in z), (let z : b ≡ u = cc in z))
      in_turn a b u v false g q = let r : a ∷ b ∷ [] ≡ u ∷ v ∷ [] = rw g at q in inl ((let z : a ≡ u = cc in z), (let z : b ≡ v = cc in z))

      pub commutative_step : (inst d c p ≡ t) ↔ (AllMake d (args_of p) (args_of t) c ⊎ AllMake d (args_of p) (crossed (args_of t)) c)
      commutative_step =
          subst (λ x. (inst d c p ≡ t) ↔ (AllMake d (args_of x) (args_of t) c ⊎ AllMake d (args_of x) (crossed (args_of t)) c)) (sym w.pattern_is)
          (subst (λ x. (inst d c p ≡ t) ↔ (AllMake d (w.a ∷ w.b ∷ []) (args_of x) c ⊎ AllMake d (w.a ∷ w.b ∷ []) (crossed (args_of x)) c)) (sym w.target_is) (to, from))
        where
          w : TwoOf f p t
          w = two_of

          value : inst d c p ≡ fapp f false (fpack (sort (inst d c w.a ∷ inst d c w.b ∷ [])))
          value = ap (inst d c) w.pattern_is ∙ inst_commutative d c settled f e (fmore w.a (fmore w.b fnone))

          to : inst d c p ≡ t → AllMake d (w.a ∷ w.b ∷ []) (w.u ∷ w.v ∷ []) c ⊎ AllMake d (w.a ∷ w.b ∷ []) (w.v ∷ w.u ∷ []) c
          to is = go (in_turn (inst d c w.a) (inst d c w.b) w.u w.v (is_gt (flat_cmp (inst d c w.a) (inst d c w.b))) refl (sym (funpack-fpack (sort (inst d c w.a ∷ inst d c w.b ∷ []))) ∙ ap args_of (sym value ∙ is ∙ w.target_is)))
            where
              go : ((inst d c w.a ≡ w.u) × (inst d c w.b ≡ w.v)) ⊎ ((inst d c w.a ≡ w.v) × (inst d c w.b ≡ w.u)) → AllMake d (w.a ∷ w.b ∷ []) (w.u ∷ w.v ∷ []) c ⊎ AllMake d (w.a ∷ w.b ∷ []) (w.v ∷ w.u ∷ []) c
              go (inl h) = inl (h.0, (h.1, tt))
              go (inr h) = inr (h.0, (h.1, tt))

          sorted : sort (inst d c w.a ∷ inst d c w.b ∷ []) ≡ w.u ∷ w.v ∷ [] → inst d c p ≡ t
          sorted q = value ∙ ap (λ l. fapp f false (fpack l)) q ∙ sym w.target_is

          from : AllMake d (w.a ∷ w.b ∷ []) (w.u ∷ w.v ∷ []) c ⊎ AllMake d (w.a ∷ w.b ∷ []) (w.v ∷ w.u ∷ []) c → inst d c p ≡ t
          from (inl h) = sorted ((λ i. sort (h.0 i ∷ h.1.0 i ∷ [])) ∙ sort_in_order (w.u ∷ w.v ∷ []) w.in_order)
          from (inr h) = sorted ((λ i. sort (h.0 i ∷ h.1.0 i ∷ [])) ∙ insert-insert w.v w.u [] ∙ sort_in_order (w.u ∷ w.v ∷ []) w.in_order)
