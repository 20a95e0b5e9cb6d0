-- The least sort of a term is read off its flat form.
use Rattle.std.proofs.Common.{◌≡◌, ◌≤◌, Bool, true, false, List, [], ◌∷◌, ◌++◌, map, refl, sym, ap, ◌∙◌, subst, arith}
use Rattle.std.specs.Prelude.{◌↔◌}
use Rattle.std.specs.List.{AllByRecursion, AllZip}
use Rattle.std.specs.Ordering.{is_gt}
use Rattle.std.proofs.lemmas.List.{append-nil}
use Rattle.fvn_terms.specs.declared.plain.Var.{Var}
use Rattle.fvn_terms.specs.declared.plain.OpId.{OpId}
use Rattle.fvn_terms.specs.declared.plain.SortId.{SortId}
use Rattle.fvn_terms.specs.declared.declarations.Axioms.{Axioms}
use Rattle.fvn_terms.specs.declared.declarations.Axioms.TheVariants.{Free, Comm, AssocComm, AssocCommId}
use Rattle.fvn_terms.specs.declared.declarations.Declarations.{Declarations}
use Rattle.fvn_terms.specs.Term.{Term, Terms, var, app, none, more}
use Rattle.fvn_terms.specs.Signature.{kind, axioms, AtOrBelow, same, HasKind, HaveKinds, IsTerm, IsSort}
use Rattle.fvn_terms.specs.Substitution.{apply}
use Rattle.fvn_terms.specs.Equality.{two, IsCommutative, IsAssociative}
use Rattle.fvn_terms.specs.Sorts.{HasSort, IsLeastSort}
use Rattle.fvn_terms.proofs.Equal.{HasKind-apply}
use Rattle.fvn_forms.specs.Flat.{FlatTerm, FlatTerms, fvar, fapp, fnone, fmore, fpack, funpack, plain, plain_all}
use Rattle.fvn_forms.specs.Order.{flat_cmp}
use Rattle.fvn_forms.specs.InOrder.{sort}
use Rattle.fvn_forms.specs.Canon.{parts, all_parts, sum, built, build, eval, eval_all, canon, inst}
use Rattle.fvn_forms.specs.Settled.{Settled, SettledAll}
use Rattle.fvn_forms.specs.Ranks.{result}
use Rattle.fvn_forms.specs.Good.{TakesKinds, IsOfKind, IsGood}
use Rattle.fvn_forms.specs.LeastSort.{sum_sort, sort_in, sorts_in, least_sort, KeepsKindsOfVariables, IsFlatSubstitution}
use Rattle.fvn_forms.proofs.SortOrder.{AtOrBelow-trans, AtOrBelow-from_same}
use Rattle.fvn_forms.proofs.Results.{result_monotone, result_swap}
use Rattle.fvn_forms.proofs.InOrder.{each_append}
use Rattle.fvn_forms.proofs.Sums.{sum_parts, parts_are_settled}
use Rattle.fvn_forms.proofs.Build.{parts_none}
use Rattle.fvn_forms.proofs.Eval.{eval_all_settled, canon_settled, canon_respects, canon_plain, eval_apply, eval_settled}
use Rattle.fvn_forms.proofs.KindsKept.{b_equal_keeps_kind, both_of_kind}
use Rattle.fvn_forms.proofs.Nests.{plain_list}
use Rattle.fvn_forms.proofs.ToCanon.{two_only, to_canon, canon_of_kind}
use Rattle.fvn_forms.proofs.RawSorts.{own_sort, own_sort_keeps, raw_sort, raw_sorts, raw_sort-kind, raw_takes, gets_raw, gets_least}
use Rattle.fvn_forms.proofs.KindsOfSums.{nest_parts_of_kind, parts_of_kind}
use Rattle.fvn_forms.proofs.SortsOfSums.{each_weaker, each_both, sorts_in-fpack, sort_of_sum, sort_of_two, of_kind, raw_nest}

module _ (d : Declarations) where
  each_is_term : (ts : FlatTerms) (ks : List SortId) → HaveKinds d (plain_all ts) ks → AllByRecursion (λ p. IsTerm d (plain p)) (funpack ts)
  each_is_term fnone ks h = tt
  each_is_term (fmore t ts) [] h = absurd h
  each_is_term (fmore t ts) (k ∷ ks) h = ((k, h.0), each_is_term ts ks h.1)

  module _ (good : IsGood d) where
    module _ (env : Var → SortId) (keeps : KeepsKindsOfVariables d env) where
      -- the raw sort of the plain term of a settled form is the sort of the form
      mutual
        pub raw_is_sort_in : (t : FlatTerm) → Settled d t → (k : SortId) → HasKind d (plain t) k → raw_sort d env (plain t) ≡ sort_in d env t
        raw_is_sort_in (fvar x) h k j = refl
        raw_is_sort_in (fapp f true fnone) h k j = let n : 2 ≤ 0 = h.0.two_or_more in absurd (omega arith)
        raw_is_sort_in (fapp f true (fmore t fnone)) h k j = let n : 2 ≤ 1 = h.0.two_or_more in absurd (omega arith)
        raw_is_sort_in (fapp f true (fmore t (fmore u us))) h k j =
            let each : AllByRecursion (λ p. IsTerm d (plain p)) (t ∷ u ∷ funpack us) = each_weaker (λ p. HasKind d (plain p) k) (λ p. IsTerm d (plain p)) (λ p i. (k, i)) (t ∷ u ∷ funpack us) (nest_parts_of_kind d good.fits f h.0.associative k t (fmore u us) j) in
            raw_nest d good f h.0.associative env keeps k j.rank j.listed j.result t (fmore u us) j
            ∙ ap (sum_sort d f) (raw_are_sorts_in (fmore t (fmore u us)) h.1 each)
        raw_is_sort_in (fapp f false ts) h k j = ap (result d f) (raw_are_sorts_in ts h.1 (each_is_term ts _ j.args))

        pub raw_are_sorts_in : (ts : FlatTerms) → SettledAll d ts → AllByRecursion (λ p. IsTerm d (plain p)) (funpack ts) → raw_sorts d env (plain_all ts) ≡ sorts_in d env ts
        raw_are_sorts_in fnone h j = refl
        raw_are_sorts_in (fmore t ts) h j = ap (λ s. s ∷ raw_sorts d env (plain_all ts)) (raw_is_sort_in t h.0 j.0.0 j.0.1) ∙ ap (λ ss. sort_in d env t ∷ ss) (raw_are_sorts_in ts h.1 j.1)

      pub sort_in-kind : (t : FlatTerm) → Settled d t → (k : SortId) → HasKind d (plain t) k → kind d (sort_in d env t) ≡ k
      sort_in-kind t h k j = ap (kind d) (sym (raw_is_sort_in t h k j)) ∙ raw_sort-kind d good env keeps (plain t) k j

      sorts-kinds : (l : List FlatTerm) (ks : List SortId) → AllByRecursion (Settled d) l → HaveKinds d (plain_list l) ks → map (kind d) (map (sort_in d env) l) ≡ ks
      sorts-kinds [] [] h j = refl
      sorts-kinds [] (k ∷ ks) h j = absurd j
      sorts-kinds (t ∷ l) [] h j = absurd j
      sorts-kinds (t ∷ l) (k ∷ ks) h j = ap (λ q. q ∷ map (kind d) (map (sort_in d env) l)) (sort_in-kind t h.0 k j.0) ∙ ap (λ qs. k ∷ qs) (sorts-kinds l ks h.1 j.1)

      sorts_take : (f : OpId) (l : List FlatTerm) → AllByRecursion (Settled d) l → (k : SortId) → HasKind d (app f (plain_list l)) k → TakesKinds d f (map (sort_in d env) l)
      sorts_take f l h k j = record { rank = j.rank; listed = j.listed; kinds = sorts-kinds l _ h j.args }

      module _ (f : OpId) (assoc : IsAssociative (axioms d f)) (commutes : IsCommutative (axioms d f)) (a b : FlatTerm) (ha : Settled d a) (hb : Settled d b) (k : SortId) (j : HasKind d (two f (plain a) (plain b)) k) where
        turned_sorts : result d f (sort_in d env a ∷ sort_in d env b ∷ []) ≡ result d f (sort_in d env b ∷ sort_in d env a ∷ [])
        turned_sorts = result_swap d good f (sort_in d env a) (sort_in d env b) commutes (sorts_take f (a ∷ b ∷ []) (ha, (hb, tt)) k j)

        summands_fit : (t : FlatTerm) → Settled d t → HasKind d (plain t) k → AllByRecursion (λ p. IsOfKind d f (sort_in d env p)) (parts d f t)
        summands_fit t h i =
            each_weaker (λ p. Settled d p × HasKind d (plain p) k) (λ p. IsOfKind d f (sort_in d env p)) (λ p q. of_kind d good f assoc env keeps k j.rank j.listed j.result (sort_in d env p) (sort_in-kind p q.0 k q.1)) (parts d f t)
            (each_both (Settled d) (λ p. HasKind d (plain p) k) (parts d f t) (parts_are_settled d f t h) (parts_of_kind d good.fits f assoc k t i))

        ka : HasKind d (plain a) k
        ka = (both_of_kind d good.fits f assoc (plain a) (plain b) k j).0

        kb : HasKind d (plain b) k
        kb = (both_of_kind d good.fits f assoc (plain a) (plain b) k j).1

        -- over two forms that have summands the sort is that of the operator over their sorts
        pub sort_of_sum_of_two : (x : FlatTerm) (xs : List FlatTerm) (y : FlatTerm) (ys : List FlatTerm) → parts d f a ≡ x ∷ xs → parts d f b ≡ y ∷ ys →
            sort_in d env (sum d f (all_parts d f (a ∷ b ∷ []))) ≡ result d f (sort_in d env a ∷ sort_in d env b ∷ [])
        sort_of_sum_of_two x xs y ys p q =
            let all : all_parts d f (a ∷ b ∷ []) ≡ (x ∷ xs) ++ (y ∷ ys) = ap (λ l. l ++ (parts d f b ++ [])) p ∙ ap (λ l. (x ∷ xs) ++ l) (append-nil (parts d f b) ∙ q) in
            let fa : AllByRecursion (λ p. IsOfKind d f (sort_in d env p)) (x ∷ xs) = subst (AllByRecursion (λ p. IsOfKind d f (sort_in d env p))) p (summands_fit a ha ka) in
            let fb : AllByRecursion (λ p. IsOfKind d f (sort_in d env p)) (y ∷ ys) = subst (AllByRecursion (λ p. IsOfKind d f (sort_in d env p))) q (summands_fit b hb kb) in
            ap (λ l. sort_in d env (sum d f l)) all
            ∙ sort_of_sum d good f assoc env x (xs ++ (y ∷ ys)) (each_append (λ p. IsOfKind d f (sort_in d env p)) (x ∷ xs) (y ∷ ys) fa fb)
            ∙ sort_of_two d good f assoc env a b x xs y ys p q fa fb

        lowers_empty_right : parts d f b ≡ [] → AtOrBelow d (sort_in d env (sum d f (all_parts d f (a ∷ b ∷ [])))) (result d f (sort_in d env a ∷ sort_in d env b ∷ []))
        lowers_empty_right e =
            let n = parts_none d f b hb e in
            let same_sum : sum d f (all_parts d f (a ∷ b ∷ [])) ≡ a = ap (λ l. sum d f (parts d f a ++ (l ++ []))) e ∙ ap (sum d f) (append-nil (parts d f a)) ∙ sum_parts d f a ha in
            let at : sort_in d env b ≡ result d n.0 [] = ap (sort_in d env) n.2 in
            let fits : IsOfKind d f (sort_in d env a) = of_kind d good f assoc env keeps k j.rank j.listed j.result (sort_in d env a) (sort_in-kind a ha k ka) in
            let c : AtOrBelow d (sort_in d env a) (result d f (sort_in d env a ∷ result d n.0 [] ∷ [])) = good.collapse f n.0 (sort_in d env a) n.1 fits in
            subst (λ t. AtOrBelow d (sort_in d env t) (result d f (sort_in d env a ∷ sort_in d env b ∷ []))) (sym same_sum)
            (subst (λ s. AtOrBelow d (sort_in d env a) (result d f (sort_in d env a ∷ s ∷ []))) (sym at) c)

        lowers_empty_left : parts d f a ≡ [] → AtOrBelow d (sort_in d env (sum d f (all_parts d f (a ∷ b ∷ [])))) (result d f (sort_in d env a ∷ sort_in d env b ∷ []))
        lowers_empty_left e =
            let n = parts_none d f a ha e in
            let same_sum : sum d f (all_parts d f (a ∷ b ∷ [])) ≡ b = ap (λ l. sum d f (l ++ (parts d f b ++ []))) e ∙ ap (sum d f) (append-nil (parts d f b)) ∙ sum_parts d f b hb in
            let at : sort_in d env a ≡ result d n.0 [] = ap (sort_in d env) n.2 in
            let fits : IsOfKind d f (sort_in d env b) = of_kind d good f assoc env keeps k j.rank j.listed j.result (sort_in d env b) (sort_in-kind b hb k kb) in
            let c : AtOrBelow d (sort_in d env b) (result d f (sort_in d env b ∷ result d n.0 [] ∷ [])) = good.collapse f n.0 (sort_in d env b) n.1 fits in
            let c2 : AtOrBelow d (sort_in d env b) (result d f (sort_in d env b ∷ sort_in d env a ∷ [])) = subst (λ s. AtOrBelow d (sort_in d env b) (result d f (sort_in d env b ∷ s ∷ []))) (sym at) c in
            subst (λ t. AtOrBelow d (sort_in d env t) (result d f (sort_in d env a ∷ sort_in d env b ∷ []))) (sym same_sum)
            (subst (AtOrBelow d (sort_in d env b)) (sym turned_sorts) c2)

        sum_lowers : AtOrBelow d (sort_in d env (sum d f (all_parts d f (a ∷ b ∷ [])))) (result d f (sort_in d env a ∷ sort_in d env b ∷ []))
        sum_lowers = go (parts d f a) refl (parts d f b) refl
          where
            go : (l : List FlatTerm) → parts d f a ≡ l → (m : List FlatTerm) → parts d f b ≡ m → AtOrBelow d (sort_in d env (sum d f (all_parts d f (a ∷ b ∷ [])))) (result d f (sort_in d env a ∷ sort_in d env b ∷ []))
            go [] p m q = lowers_empty_left p
            go (x ∷ xs) p [] q = lowers_empty_right q
            go (x ∷ xs) p (y ∷ ys) q = AtOrBelow-from_same d (sort_of_sum_of_two x xs y ys p q)

      lowers_two : (f : OpId) → IsCommutative (axioms d f) → (a b : FlatTerm) → Settled d a → Settled d b → (k : SortId) → HasKind d (two f (plain a) (plain b)) k → AtOrBelow d (sort_in d env (build d f (a ∷ b ∷ []))) (result d f (sort_in d env a ∷ sort_in d env b ∷ []))
      lowers_two f c a b ha hb k j = go (axioms d f) refl c
        where
          summed : IsAssociative (axioms d f) → AtOrBelow d (sort_in d env (sum d f (all_parts d f (a ∷ b ∷ [])))) (result d f (sort_in d env a ∷ sort_in d env b ∷ []))
          summed s = sum_lowers f s c a b ha hb k j

          turned : (x : Bool) → is_gt (flat_cmp a b) ≡ x → AtOrBelow d (sort_in d env (fapp f false (fpack (sort (a ∷ b ∷ []))))) (result d f (sort_in d env a ∷ sort_in d env b ∷ []))
          turned true p = rw p (AtOrBelow-from_same d (sym (result_swap d good f (sort_in d env a) (sort_in d env b) c (sorts_take f (a ∷ b ∷ []) (ha, (hb, tt)) k j))))
          turned false p = rw p same

          go : (x : Axioms) → axioms d f ≡ x → IsCommutative x → AtOrBelow d (sort_in d env (built d x f (a ∷ b ∷ []))) (result d f (sort_in d env a ∷ sort_in d env b ∷ []))
          go Free e i = absurd i
          go Comm e i = turned (is_gt (flat_cmp a b)) refl
          go AssocComm e i = summed (rw e tt)
          go (AssocCommId o) e i = summed (rw e tt)

      -- over forms that each have summands, what an operator builds has the sort that it gives over their sorts
      pub sort_of_build : (f : OpId) (l : List FlatTerm) → AllByRecursion (Settled d) l → AllByRecursion (λ t. parts d f t ≡ [] → ⊥) l → (k : SortId) → HasKind d (app f (plain_list l)) k → sort_in d env (build d f l) ≡ result d f (map (sort_in d env) l)
      sort_of_build f [] h n k j = refl
      sort_of_build f (t ∷ ts) h n k j = go (axioms d f) refl
        where
          of_two : (a b : FlatTerm) → Settled d a → Settled d b → (parts d f a ≡ [] → ⊥) → (parts d f b ≡ [] → ⊥) → HasKind d (two f (plain a) (plain b)) k → IsCommutative (axioms d f) → sort_in d env (build d f (a ∷ b ∷ [])) ≡ result d f (sort_in d env a ∷ sort_in d env b ∷ [])
          of_two a b ha hb na nb i c = at (axioms d f) refl c
            where
              turned : (x : Bool) → is_gt (flat_cmp a b) ≡ x → sort_in d env (fapp f false (fpack (sort (a ∷ b ∷ [])))) ≡ result d f (sort_in d env a ∷ sort_in d env b ∷ [])
              turned true p = rw p (sym (result_swap d good f (sort_in d env a) (sort_in d env b) c (sorts_take f (a ∷ b ∷ []) (ha, (hb, tt)) k i)))
              turned false p = rw p refl

              summed : IsAssociative (axioms d f) → (l : List FlatTerm) → parts d f a ≡ l → (m : List FlatTerm) → parts d f b ≡ m → sort_in d env (sum d f (all_parts d f (a ∷ b ∷ []))) ≡ result d f (sort_in d env a ∷ sort_in d env b ∷ [])
              summed s [] p m q = absurd (na p)
              summed s (x ∷ xs) p [] q = absurd (nb q)
              summed s (x ∷ xs) p (y ∷ ys) q = sort_of_sum_of_two f s c a b ha hb k i x xs y ys p q

              at : (x : Axioms) → axioms d f ≡ x → IsCommutative x → sort_in d env (built d x f (a ∷ b ∷ [])) ≡ result d f (sort_in d env a ∷ sort_in d env b ∷ [])
              at Free e y = absurd y
              at Comm e y = turned (is_gt (flat_cmp a b)) refl
              at AssocComm e y = summed (rw e tt) (parts d f a) refl (parts d f b) refl
              at (AssocCommId o) e y = summed (rw e tt) (parts d f a) refl (parts d f b) refl

          paired : IsCommutative (axioms d f) → sort_in d env (build d f (t ∷ ts)) ≡ result d f (map (sort_in d env) (t ∷ ts))
          paired c =
              let both = two_only d good.fits f (t ∷ ts) k c j in
              let settled : AllByRecursion (Settled d) (both.0 ∷ both.1 ∷ []) = subst (AllByRecursion (Settled d)) both.2 h in
              let some : AllByRecursion (λ t. parts d f t ≡ [] → ⊥) (both.0 ∷ both.1 ∷ []) = subst (AllByRecursion (λ t. parts d f t ≡ [] → ⊥)) both.2 n in
              let kinded : HasKind d (two f (plain both.0) (plain both.1)) k = subst (λ l. HasKind d (app f (plain_list l)) k) both.2 j in
              subst (λ l. sort_in d env (build d f l) ≡ result d f (map (sort_in d env) l)) (sym both.2) (of_two both.0 both.1 settled.0 settled.1.0 some.0 some.1.0 kinded c)

          go : (a : Axioms) → axioms d f ≡ a → sort_in d env (build d f (t ∷ ts)) ≡ result d f (map (sort_in d env) (t ∷ ts))
          go Free e = rw e (ap (result d f) (sorts_in-fpack d env (t ∷ ts)))
          go Comm e = paired (rw e tt)
          go AssocComm e = paired (rw e tt)
          go (AssocCommId o) e = paired (rw e tt)

      -- what an operator builds has the sort that it gives over the arguments' sorts, or one below it
      pub sort_lowers : (f : OpId) (l : List FlatTerm) → AllByRecursion (Settled d) l → (k : SortId) → HasKind d (app f (plain_list l)) k → AtOrBelow d (sort_in d env (build d f l)) (result d f (map (sort_in d env) l))
      sort_lowers f [] h k j = same
      sort_lowers f (t ∷ ts) h k j = go (axioms d f) refl
        where
          paired : IsCommutative (axioms d f) → AtOrBelow d (sort_in d env (build d f (t ∷ ts))) (result d f (map (sort_in d env) (t ∷ ts)))
          paired c =
              let both = two_only d good.fits f (t ∷ ts) k c j in
              let settled : AllByRecursion (Settled d) (both.0 ∷ both.1 ∷ []) = subst (AllByRecursion (Settled d)) both.2 h in
              let kinded : HasKind d (two f (plain both.0) (plain both.1)) k = subst (λ l. HasKind d (app f (plain_list l)) k) both.2 j in
              subst (λ l. AtOrBelow d (sort_in d env (build d f l)) (result d f (map (sort_in d env) l))) (sym both.2) (lowers_two f c both.0 both.1 settled.0 settled.1.0 k kinded)

          go : (a : Axioms) → axioms d f ≡ a → AtOrBelow d (sort_in d env (build d f (t ∷ ts))) (result d f (map (sort_in d env) (t ∷ ts)))
          go Free e = rw e (AtOrBelow-from_same d (ap (result d f) (sorts_in-fpack d env (t ∷ ts))))
          go Comm e = paired (rw e tt)
          go AssocComm e = paired (rw e tt)
          go (AssocCommId o) e = paired (rw e tt)

    module _ (s : Var → FlatTerm) (flat : IsFlatSubstitution d s) where
      -- the value of a term is the flat form of an instance
      pub eval_is_canon : (t : Term) → canon d (apply (λ x. plain (s x)) t) ≡ eval d s t
      eval_is_canon t = eval_apply d fvar (λ x. plain (s x)) t ∙ (λ i. eval d (λ x. canon_plain d (s x) (flat.settled x) i) t)

      pub eval_of_kind : (t : Term) (k : SortId) → HasKind d t k → HasKind d (plain (eval d s t)) k
      eval_of_kind t k h =
          subst (λ u. HasKind d (plain u) k) (eval_is_canon t)
          (canon_of_kind d good.fits (apply (λ x. plain (s x)) t) k (HasKind-apply d (λ x. plain (s x)) flat.keeps_kinds t k h))

      pub evals_of_kinds : (ts : Terms) (ks : List SortId) → HaveKinds d ts ks → HaveKinds d (plain_list (eval_all d s ts)) ks
      evals_of_kinds none [] h = tt
      evals_of_kinds none (k ∷ ks) h = absurd h
      evals_of_kinds (more t ts) [] h = absurd h
      evals_of_kinds (more t ts) (k ∷ ks) h = (eval_of_kind t k h.0, evals_of_kinds ts ks h.1)

      module _ (env : Var → SortId) (keeps : KeepsKindsOfVariables d env) where
        abbrev value_sort : Var → SortId
        value_sort x = sort_in d env (s x)

        pub value_sort_keeps : KeepsKindsOfVariables d value_sort
        value_sort_keeps x i = sort_in-kind env keeps (s x) (flat.settled x) (kind d x.sort) (flat.keeps_kinds x i)

        -- the value of a term has its raw sort over the values' sorts, or one below it
        mutual
          pub eval_lowers : (t : Term) (k : SortId) → HasKind d t k → AtOrBelow d (sort_in d env (eval d s t)) (raw_sort d value_sort t)
          eval_lowers (var x) k h = same
          eval_lowers (app f ts) k h =
              let built_kind : HasKind d (app f (plain_list (eval_all d s ts))) k = record { rank = h.rank; listed = h.listed; args = evals_of_kinds ts _ h.args; result = h.result } in
              AtOrBelow-trans d
              (sort_lowers env keeps f (eval_all d s ts) (eval_all_settled d s flat.settled ts) k built_kind)
              (result_monotone d good f (map (sort_in d env) (eval_all d s ts)) (raw_sorts d value_sort ts) (evals_lower ts _ h.args) (raw_takes d good value_sort value_sort_keeps f ts k h))

          evals_lower : (ts : Terms) (ks : List SortId) → HaveKinds d ts ks → AllZip (AtOrBelow d) (map (sort_in d env) (eval_all d s ts)) (raw_sorts d value_sort ts)
          evals_lower none ks h = tt
          evals_lower (more t ts) [] h = absurd h
          evals_lower (more t ts) (k ∷ ks) h = (eval_lowers t k h.0, evals_lower ts ks h.1)

        pub inst_lowers : (t : FlatTerm) → Settled d t → IsTerm d (plain t) → AtOrBelow d (sort_in d env (inst d s t)) (sort_in d value_sort t)
        inst_lowers t h j = subst (AtOrBelow d (sort_in d env (inst d s t))) (raw_is_sort_in value_sort value_sort_keeps t h j.0 j.1) (eval_lowers (plain t) j.0 j.1)

    pub fvar_flat : IsFlatSubstitution d fvar
    fvar_flat = record { settled = λ x. tt; keeps_kinds = λ x i. (i, refl) }

    -- the least sort of the flat form is at or below each sort
    pub least_sort_below : (t : Term) → IsTerm d t → (s : SortId) → HasSort d t s → AtOrBelow d (least_sort d (canon d t)) s
    least_sort_below t h s g =
        let k = b_equal_keeps_kind d good.fits g.equal h.0 h.1 in
        let lowered : AtOrBelow d (sort_in d own_sort (canon d g.form)) (raw_sort d own_sort g.form) = eval_lowers fvar fvar_flat own_sort (own_sort_keeps d) g.form h.0 k in
        let least : AtOrBelow d (raw_sort d own_sort g.form) g.gets.sort = gets_least d good g.form h.0 g.gets.sort k g.gets.gets in
        subst (λ u. AtOrBelow d (least_sort d u) s) (sym (canon_respects d g.equal)) (AtOrBelow-trans d lowered (AtOrBelow-trans d least g.gets.below))

    -- and it is one
    pub has_least_sort : (t : Term) → IsTerm d t → HasSort d t (least_sort d (canon d t))
    has_least_sort t h =
        let k = canon_of_kind d good.fits t h.0 h.1 in
        record {
          form = plain (canon d t);
          equal = to_canon d good.fits t h.0 h.1;
          gets = record {
            sort = raw_sort d own_sort (plain (canon d t));
            gets = gets_raw d good (plain (canon d t)) h.0 k;
            below = AtOrBelow-from_same d (raw_is_sort_in own_sort (own_sort_keeps d) (canon d t) (canon_settled d t) h.0 k);
          };
        }

    has_above : (t : Term) (q s : SortId) → HasSort d t q → AtOrBelow d q s → HasSort d t s
    has_above t q s h b = record { form = h.form; equal = h.equal; gets = record { sort = h.gets.sort; gets = h.gets.gets; below = AtOrBelow-trans d h.gets.below b } }

    pub least_sort_exact : (t : Term) → IsTerm d t → (s : SortId) → HasSort d t s ↔ AtOrBelow d (least_sort d (canon d t)) s
    least_sort_exact t h s = (least_sort_below t h s, has_above t (least_sort d (canon d t)) s (has_least_sort t h))

    pub least_sort_is_least : (t : Term) → IsTerm d t → IsLeastSort d t (least_sort d (canon d t))
    least_sort_is_least t h = record { has = has_least_sort t h; least = least_sort_below t h }

    -- the sorts of the plain term of a settled form
    pub least_sort_of_settled : (t : FlatTerm) → Settled d t → IsTerm d (plain t) → (s : SortId) → HasSort d (plain t) s ↔ AtOrBelow d (least_sort d t) s
    least_sort_of_settled t h j s = subst (λ u. HasSort d (plain t) s ↔ AtOrBelow d (least_sort d u) s) (canon_plain d t h) (least_sort_exact (plain t) j s)

    module _ (env wide : Var → SortId) (keeps : KeepsKindsOfVariables d env) (keeps_wide : KeepsKindsOfVariables d wide) (below : (x : Var) → IsSort d x.sort → AtOrBelow d (env x) (wide x)) where
      -- lower sorts for the variables give lower sorts
      mutual
        pub raw_sort_monotone : (t : Term) (k : SortId) → HasKind d t k → AtOrBelow d (raw_sort d env t) (raw_sort d wide t)
        raw_sort_monotone (var x) k h = below x h.0
        raw_sort_monotone (app f ts) k h = result_monotone d good f (raw_sorts d env ts) (raw_sorts d wide ts) (raw_sorts_monotone ts _ h.args) (raw_takes d good wide keeps_wide f ts k h)

        raw_sorts_monotone : (ts : Terms) (ks : List SortId) → HaveKinds d ts ks → AllZip (AtOrBelow d) (raw_sorts d env ts) (raw_sorts d wide ts)
        raw_sorts_monotone none ks h = tt
        raw_sorts_monotone (more t ts) [] h = absurd h
        raw_sorts_monotone (more t ts) (k ∷ ks) h = (raw_sort_monotone t k h.0, raw_sorts_monotone ts ks h.1)

      pub sort_in_monotone : (t : FlatTerm) → Settled d t → IsTerm d (plain t) → AtOrBelow d (sort_in d env t) (sort_in d wide t)
      sort_in_monotone t h j =
          subst (λ s. AtOrBelow d s (sort_in d wide t)) (raw_is_sort_in env keeps t h j.0 j.1)
          (subst (AtOrBelow d (raw_sort d env (plain t))) (raw_is_sort_in wide keeps_wide t h j.0 j.1) (raw_sort_monotone (plain t) j.0 j.1))

    -- values at or below the sorts of their variables never raise a sort
    pub inst_keeps_sorts : (s : Var → FlatTerm) → IsFlatSubstitution d s → ((x : Var) → IsSort d x.sort → AtOrBelow d (least_sort d (s x)) x.sort) → (t : FlatTerm) → Settled d t → IsTerm d (plain t) → AtOrBelow d (least_sort d (inst d s t)) (least_sort d t)
    inst_keeps_sorts s flat below t h j =
        AtOrBelow-trans d (inst_lowers s flat own_sort (own_sort_keeps d) t h j)
        (sort_in_monotone (λ x. least_sort d (s x)) own_sort (value_sort_keeps s flat own_sort (own_sort_keeps d)) (own_sort_keeps d) below t h j)

    -- an instance of a well-kinded form has its kind
    pub inst_of_kind : (s : Var → FlatTerm) → IsFlatSubstitution d s → (t : FlatTerm) (k : SortId) → HasKind d (plain t) k → HasKind d (plain (inst d s t)) k
    inst_of_kind s flat t k h = eval_of_kind s flat (plain t) k h

    -- one well-sorted substitution after another is one
    pub well_sorted_compose : (s c : Var → FlatTerm) → IsFlatSubstitution d s → IsFlatSubstitution d c → ((x : Var) → IsSort d x.sort → AtOrBelow d (least_sort d (s x)) x.sort) → ((x : Var) → IsSort d x.sort → AtOrBelow d (least_sort d (c x)) x.sort) →
        IsFlatSubstitution d (λ x. inst d c (s x)) × ((x : Var) → IsSort d x.sort → AtOrBelow d (least_sort d (inst d c (s x))) x.sort)
    well_sorted_compose s c fs fc bs bc = (
      record { settled = λ x. eval_settled d c fc.settled (plain (s x)); keeps_kinds = λ x i. inst_of_kind c fc (s x) (kind d x.sort) (fs.keeps_kinds x i) },
      λ x i. AtOrBelow-trans d (inst_keeps_sorts c fc bc (s x) (fs.settled x) (kind d x.sort, fs.keeps_kinds x i)) (bs x i),
    )
