-- Well-kinded terms are equal modulo the axioms exactly where their flat forms are equal.
use Rattle.std.proofs.Common.{◌≡◌, Bool, true, false, List, [], ◌∷◌, ◌++◌, refl, sym, ap, ◌∙◌, subst, inl, inr}
use Rattle.std.specs.Prelude.{◌↔◌}
use Rattle.std.specs.Ordering.{is_gt}
use Rattle.std.specs.List.{AllByRecursion}
use Rattle.std.proofs.lemmas.List.{append-nil}
use Rattle.fvn_base.specs.Decided.{Decided}
use Rattle.fvn_terms.specs.declared.plain.OpId.{OpId}
use Rattle.fvn_terms.specs.declared.plain.SortId.{SortId}
use Rattle.fvn_terms.specs.declared.declarations.Axioms.{Axioms}
use Rattle.fvn_terms.specs.declared.declarations.Axioms.TheVariants.{Free, Comm, AssocComm, AssocCommId}
use Rattle.fvn_terms.specs.declared.declarations.Declarations.{Declarations}
use Rattle.fvn_terms.specs.Term.{Term, Terms, var, app, none, more}
use Rattle.fvn_terms.specs.Signature.{axioms, HasKind, HaveKinds, IsTerm}
use Rattle.fvn_terms.specs.Places.{here, stop, step}
use Rattle.fvn_terms.specs.Equality.{two, constant, IsCommutative, IsAssociative, IsAxiomEitherWay, BEqual, swap, left_identity, right_identity, identity}
use Rattle.fvn_terms.proofs.Steps.{Leads-append, EachLeads, each_none, each_more, Leads_inside}
use Rattle.fvn_terms.proofs.Equal.{BEqual-sym}
use Rattle.fvn_forms.specs.Flat.{FlatTerm, fvar, fapp, fnone, fmore, fpack, funpack, fconstant, nest_all, plain, plain_all}
use Rattle.fvn_forms.specs.Order.{flat_cmp}
use Rattle.fvn_forms.specs.InOrder.{sort}
use Rattle.fvn_forms.specs.Canon.{same_op, is_identity, parts, all_parts, joined, sum, built, build, eval_all, canon}
use Rattle.fvn_forms.specs.Settled.{Settled}
use Rattle.fvn_forms.specs.FitsKinds.{FitsKinds}
use Rattle.fvn_forms.proofs.Sums.{fpack-funpack, same_op_is, sum_parts}
use Rattle.fvn_forms.proofs.Build.{parts_none}
use Rattle.fvn_forms.proofs.Eval.{fvar_settled, eval_all_settled, canon_respects}
use Rattle.fvn_forms.proofs.Order.{flat_equal_decided}
use Rattle.fvn_forms.proofs.KindsKept.{b_equal_keeps_kind, both_of_kind}
use Rattle.fvn_forms.proofs.Nests.{plain_list, nested, insert_some, nested_append, nested_sort}

module _ (d : Declarations) where
  -- a form with summands stands for their nested sum
  plain_parts : (f : OpId) (t x : FlatTerm) (xs : List FlatTerm) → parts d f t ≡ x ∷ xs → plain t ≡ nested f (x ∷ xs)
  plain_parts f (fvar y) x xs e = ap (nested f) e
  plain_parts f (fapp g true ts) x xs e = go (same_op f g) refl
    where
      go : (b : Bool) → same_op f g ≡ b → plain (fapp g true ts) ≡ nested f (x ∷ xs)
      go true p =
          let q : funpack ts ≡ x ∷ xs = rw p at e in
          (λ i. nest_all (sym (same_op_is f g p) i) (plain_all (sym (fpack-funpack ts) i))) ∙ ap (nested f) q
      go false p = let q : fapp g true ts ∷ [] ≡ x ∷ xs = rw p at e in ap (nested f) q
  plain_parts f (fapp g false fnone) x xs e = go (is_identity (identity (axioms d f)) g) refl
    where
      go : (b : Bool) → is_identity (identity (axioms d f)) g ≡ b → plain (fconstant g) ≡ nested f (x ∷ xs)
      go true p = let q : [] ≡ x ∷ xs = rw p at e in cc
      go false p = let q : fconstant g ∷ [] ≡ x ∷ xs = rw p at e in ap (nested f) q
  plain_parts f (fapp g false (fmore t ts)) x xs e = ap (nested f) e

  plain_sum : (f : OpId) (l : List FlatTerm) → (sort l ≡ [] → ⊥) → plain (sum d f l) ≡ nested f (sort l)
  plain_sum f l h = go (sort l) h
    where
      go : (m : List FlatTerm) → (m ≡ [] → ⊥) → plain (joined d f m) ≡ nested f m
      go [] n = absurd (n refl)
      go (x ∷ []) n = refl
      go (x ∷ y ∷ m) n = refl

  module _ (f : OpId) (assoc : IsAssociative (axioms d f)) (a b : FlatTerm) (ha : Settled d a) (hb : Settled d b) (k : SortId) (h : HasKind d (two f (plain a) (plain b)) k) (ka : HasKind d (plain a) k) (kb : HasKind d (plain b) k) where
    sum_plain_empty_left : parts d f a ≡ [] → BEqual d (two f (plain a) (plain b)) (plain (sum d f (all_parts d f (a ∷ b ∷ []))))
    sum_plain_empty_left e =
        let n = parts_none d f a ha e in
        let same : all_parts d f (a ∷ b ∷ []) ≡ parts d f b = ap (λ l. l ++ (parts d f b ++ [])) e ∙ append-nil (parts d f b) in
        let goal : plain (sum d f (all_parts d f (a ∷ b ∷ []))) ≡ plain b = ap plain (ap (sum d f) same ∙ sum_parts d f b hb) in
        let at : plain a ≡ constant n.0 = ap plain n.2 in
        let j : HasKind d (two f (constant n.0) (plain b)) k = subst (λ t. HasKind d (two f t (plain b)) k) at h in
        subst (BEqual d (two f (plain a) (plain b))) (sym goal)
        (subst (λ t. BEqual d (two f t (plain b)) (plain b)) (sym at) (step (here (inl (left_identity {t = plain b} {k = k} n.1 kb j))) stop))

    sum_plain_empty_right : parts d f b ≡ [] → BEqual d (two f (plain a) (plain b)) (plain (sum d f (all_parts d f (a ∷ b ∷ []))))
    sum_plain_empty_right e =
        let n = parts_none d f b hb e in
        let same : all_parts d f (a ∷ b ∷ []) ≡ parts d f a = ap (λ l. parts d f a ++ (l ++ [])) e ∙ append-nil (parts d f a) in
        let goal : plain (sum d f (all_parts d f (a ∷ b ∷ []))) ≡ plain a = ap plain (ap (sum d f) same ∙ sum_parts d f a ha) in
        let at : plain b ≡ constant n.0 = ap plain n.2 in
        let j : HasKind d (two f (plain a) (constant n.0)) k = subst (λ t. HasKind d (two f (plain a) t) k) at h in
        subst (BEqual d (two f (plain a) (plain b))) (sym goal)
        (subst (λ t. BEqual d (two f (plain a) t) (plain a)) (sym at) (step (here (inl (right_identity {t = plain a} {k = k} n.1 ka j))) stop))

    sum_plain_some : (x : FlatTerm) (xs : List FlatTerm) (y : FlatTerm) (ys : List FlatTerm) → parts d f a ≡ x ∷ xs → parts d f b ≡ y ∷ ys → BEqual d (two f (plain a) (plain b)) (plain (sum d f (all_parts d f (a ∷ b ∷ []))))
    sum_plain_some x xs y ys p q =
        let same : all_parts d f (a ∷ b ∷ []) ≡ (x ∷ xs) ++ (y ∷ ys) = ap (λ l. l ++ (parts d f b ++ [])) p ∙ ap (λ l. (x ∷ xs) ++ l) (append-nil (parts d f b) ∙ q) in
        let goal : plain (sum d f (all_parts d f (a ∷ b ∷ []))) ≡ nested f (sort ((x ∷ xs) ++ (y ∷ ys))) = ap (λ l. plain (sum d f l)) same ∙ plain_sum f ((x ∷ xs) ++ (y ∷ ys)) (insert_some x (sort (xs ++ (y ∷ ys)))) in
        subst (BEqual d (two f (plain a) (plain b))) (sym goal)
        (Leads-append
        (subst (λ t. BEqual d (two f t (plain b)) (nested f ((x ∷ xs) ++ (y ∷ ys)))) (sym (plain_parts f a x xs p))
        (subst (λ t. BEqual d (two f (nested f (x ∷ xs)) t) (nested f ((x ∷ xs) ++ (y ∷ ys)))) (sym (plain_parts f b y ys q)) (nested_append d f assoc x xs y ys)))
        (nested_sort d f assoc ((x ∷ xs) ++ (y ∷ ys))))

    sum_plain : BEqual d (two f (plain a) (plain b)) (plain (sum d f (all_parts d f (a ∷ b ∷ []))))
    sum_plain = go (parts d f a) refl (parts d f b) refl
      where
        go : (l : List FlatTerm) → parts d f a ≡ l → (m : List FlatTerm) → parts d f b ≡ m → BEqual d (two f (plain a) (plain b)) (plain (sum d f (all_parts d f (a ∷ b ∷ []))))
        go [] p m q = sum_plain_empty_left p
        go (x ∷ xs) p [] q = sum_plain_empty_right q
        go (x ∷ xs) p (y ∷ ys) q = sum_plain_some x xs y ys p q

  module _ (fits : FitsKinds d) where
    -- an operator over two
    pub two_only : (f : OpId) (l : List FlatTerm) (k : SortId) → IsCommutative (axioms d f) → HasKind d (app f (plain_list l)) k → (a : FlatTerm) × (b : FlatTerm) × (l ≡ a ∷ b ∷ [])
    two_only f l k c h = let one = fits.commutative f h.rank c h.listed in go l one.0 (subst (HaveKinds d (plain_list l)) one.1 h.args)
      where
        go : (m : List FlatTerm) (q : SortId) → HaveKinds d (plain_list m) (q ∷ q ∷ []) → (a : FlatTerm) × (b : FlatTerm) × (m ≡ a ∷ b ∷ [])
        go [] q j = absurd j
        go (a ∷ []) q j = absurd j.1
        go (a ∷ b ∷ []) q j = (a, b, refl)
        go (a ∷ b ∷ e ∷ m) q j = absurd j.1.1

    build_plain_two : (f : OpId) → IsCommutative (axioms d f) → (a b : FlatTerm) → Settled d a → Settled d b → (k : SortId) → HasKind d (two f (plain a) (plain b)) k → BEqual d (two f (plain a) (plain b)) (plain (build d f (a ∷ b ∷ [])))
    build_plain_two f c a b ha hb k h = go (axioms d f) refl c
      where
        summed : IsAssociative (axioms d f) → BEqual d (two f (plain a) (plain b)) (plain (sum d f (all_parts d f (a ∷ b ∷ []))))
        summed s = let each = both_of_kind d fits f s (plain a) (plain b) k h in sum_plain f s a b ha hb k h each.0 each.1

        turned : (x : Bool) → is_gt (flat_cmp a b) ≡ x → BEqual d (two f (plain a) (plain b)) (plain (fapp f false (fpack (sort (a ∷ b ∷ [])))))
        turned true p = rw p (step (here (inl (swap c))) stop)
        turned false p = rw p stop

        go : (x : Axioms) → axioms d f ≡ x → IsCommutative x → BEqual d (two f (plain a) (plain b)) (plain (built d x f (a ∷ b ∷ [])))
        go Free e i = absurd i
        go Comm e i = turned (is_gt (flat_cmp a b)) refl
        go AssocComm e i = summed (rw e tt)
        go (AssocCommId o) e i = summed (rw e tt)

    -- a term over flat forms, and the form that is built of them
    pub build_plain : (f : OpId) (l : List FlatTerm) → AllByRecursion (Settled d) l → (k : SortId) → HasKind d (app f (plain_list l)) k → BEqual d (app f (plain_list l)) (plain (build d f l))
    build_plain f [] h k j = stop
    build_plain f (t ∷ ts) h k j = go (axioms d f) refl
      where
        paired : IsCommutative (axioms d f) → BEqual d (app f (plain_list (t ∷ ts))) (plain (build d f (t ∷ ts)))
        paired c =
            let two_ = two_only f (t ∷ ts) k c j in
            let settled : AllByRecursion (Settled d) (two_.0 ∷ two_.1 ∷ []) = subst (AllByRecursion (Settled d)) two_.2 h in
            let kinded : HasKind d (two f (plain two_.0) (plain two_.1)) k = subst (λ l. HasKind d (app f (plain_list l)) k) two_.2 j in
            subst (λ l. BEqual d (app f (plain_list l)) (plain (build d f l))) (sym two_.2) (build_plain_two f c two_.0 two_.1 settled.0 settled.1.0 k kinded)

        go : (a : Axioms) → axioms d f ≡ a → BEqual d (app f (plain_list (t ∷ ts))) (plain (build d f (t ∷ ts)))
        go Free e = rw e stop
        go Comm e = paired (rw e tt)
        go AssocComm e = paired (rw e tt)
        go (AssocCommId o) e = paired (rw e tt)

    mutual
      pub to_canon : (t : Term) (k : SortId) → HasKind d t k → BEqual d t (plain (canon d t))
      to_canon (var x) k h = stop
      to_canon (app f ts) k h =
          let inner = Leads_inside f (to_canon_all ts _ h.args) in
          Leads-append inner (build_plain f (eval_all d fvar ts) (eval_all_settled d fvar (fvar_settled d) ts) k (b_equal_keeps_kind d fits inner k h))

      to_canon_all : (ts : Terms) (ks : List SortId) → HaveKinds d ts ks → EachLeads (IsAxiomEitherWay d) ts (plain_list (eval_all d fvar ts))
      to_canon_all none ks h = each_none
      to_canon_all (more t ts) [] h = absurd h
      to_canon_all (more t ts) (k ∷ ks) h = each_more (to_canon t k h.0) (to_canon_all ts ks h.1)

    pub canon_of_kind : (t : Term) (k : SortId) → HasKind d t k → HasKind d (plain (canon d t)) k
    canon_of_kind t k h = b_equal_keeps_kind d fits (to_canon t k h) k h

    from_canon : (t u : Term) → IsTerm d t → IsTerm d u → canon d t ≡ canon d u → BEqual d t u
    from_canon t u ht hu e = Leads-append (to_canon t ht.0 ht.1) (subst (λ v. BEqual d (plain v) u) (sym e) (BEqual-sym d (to_canon u hu.0 hu.1)))

    pub b_equal_iff_canon : (t u : Term) → IsTerm d t → IsTerm d u → BEqual d t u ↔ (canon d t ≡ canon d u)
    b_equal_iff_canon t u ht hu = (canon_respects d, from_canon t u ht hu)

    -- whether well-kinded terms are equal modulo the axioms
    pub b_equal_decided : (t u : Term) → IsTerm d t → IsTerm d u → Decided (BEqual d t u)
    b_equal_decided t u ht hu = go (flat_equal_decided (canon d t) (canon d u))
      where
        go : Decided (canon d t ≡ canon d u) → Decided (BEqual d t u)
        go (inl e) = inl (from_canon t u ht hu e)
        go (inr n) = inr (λ p. n (canon_respects d p))
