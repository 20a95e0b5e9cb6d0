-- The sorts of forms at the sorts of rows: which argument lists of ranks they go through.
use Rattle.std.proofs.Common.{◌≡◌, ◌≤◌, true, false, List, [], ◌∷◌, ◌++◌, map, length, refl, sym, ap, subst, ◌∙◌, inl, inr, arith, Some, None}
use Rattle.std.specs.List.{Contains, AllZip, AllByRecursion, fold}
use Rattle.std.proofs.lemmas.List.{map-append}
use Rattle.fvn_terms.specs.declared.plain.Var.{Var}
use Rattle.fvn_terms.specs.declared.plain.OpId.{OpId}
use Rattle.fvn_terms.specs.declared.plain.SortId.{SortId}
use Rattle.fvn_terms.specs.declared.declarations.Axioms.{Axioms}
use Rattle.fvn_terms.specs.declared.declarations.Axioms.TheVariants.{Free, Comm, AssocComm, AssocCommId}
use Rattle.fvn_terms.specs.declared.declarations.Rank.{Rank}
use Rattle.fvn_terms.specs.declared.declarations.Declarations.{Declarations}
use Rattle.fvn_terms.specs.Signature.{kind, declared, axioms, AtOrBelow, HasKind, HaveKinds}
use Rattle.fvn_terms.specs.Substitution.{Occurs, OccursAmong}
use Rattle.fvn_terms.specs.Equality.{IsAssociative}
use Rattle.fvn_forms.specs.Flat.{FlatTerm, FlatTerms, fvar, fapp, fnone, fmore, fpack, funpack, plain, plain_all}
use Rattle.fvn_forms.specs.Settled.{Settled, SettledAll, FitsUnjoined}
use Rattle.fvn_forms.specs.Good.{TakesKinds, IsOfKind, IsGood}
use Rattle.fvn_forms.specs.Ranks.{ranks_of, result}
use Rattle.fvn_forms.specs.LeastSort.{result_of_two, sum_sort, sort_over, sort_in, sorts_in}
use Rattle.fvn_forms.proofs.SortOrder.{AtOrBelow-trans}
use Rattle.fvn_forms.proofs.Results.{AllBelow-trans, result-is, result-pair, TakesKinds-pair}
use Rattle.fvn_forms.proofs.LeastSort.{sort_in-kind, sort_in_monotone}
use Rattle.fvn_forms.proofs.KindsOfSums.{nest_parts_of_kind}
use Rattle.fvn_forms.proofs.Sums.{funpack-fpack, fpack-funpack}
use Rattle.fvn_flat.specs.Forms.{variable_of, head_of, args_of}
use Rattle.fvn_flat.specs.Fits.{Fits, AllFit, AllOfKind}
use Rattle.fvn_flat.proofs.Occurrences.{occurs_in_app}
use Rattle.fvn_refine.specs.inner.Rows.{Row, way_of, IsRow, IsRowBelow, HasAbove}
use Rattle.fvn_refine.specs.inner.Found.{AreArguments, AreSummands, IsUnder, AreUnder, IsResultUnder, IsSumUnder, IsPairUnder}
use Rattle.fvn_refine.proofs.Ways.{way_keeps, beside_below}

-- a form is a variable or has a head
pub variable_is : (t : FlatTerm) (x : Var) → variable_of t ≡ Some x → t ≡ fvar x
variable_is (fvar y) x e = let q : y ≡ x = cc in ap fvar q
variable_is (fapp f joined ts) x e = cc

pub variable_or_head : (t : FlatTerm) → variable_of t ≡ None → head_of t ≡ None → ⊥
variable_or_head (fvar y) e h = cc
variable_or_head (fapp f joined ts) e h = cc

fold_push : {A : Type 0} (g : A → A → A) (a : A) (l : List A) (b : A) → fold g a (l ++ b ∷ []) ≡ g (fold g a l) b
fold_push g a [] b = refl
fold_push g a (c ∷ l) b = fold_push g (g a c) l b

module _ (d : Declarations) where
  sorts_in-fpack : (env : Var → SortId) (l : List FlatTerm) → sorts_in d env (fpack l) ≡ map (sort_in d env) l
  sorts_in-fpack env [] = refl
  sorts_in-fpack env (t ∷ l) = ap (λ ss. sort_in d env t ∷ ss) (sorts_in-fpack env l)

  -- the sort of a form depends on the variables that occur in it
  mutual
    pub sort_agrees : (env wide : Var → SortId) (t : FlatTerm) → ((y : Var) → Occurs y (plain t) → env y ≡ wide y) → sort_in d env t ≡ sort_in d wide t
    sort_agrees env wide (fvar x) h = h x refl
    sort_agrees env wide (fapp f joined ts) h = ap (sort_over d f joined) (sorts_agree env wide ts (λ y o. h y ((occurs_in_app y f joined ts).1 o)))

    sorts_agree : (env wide : Var → SortId) (ts : FlatTerms) → ((y : Var) → OccursAmong y (plain_all ts) → env y ≡ wide y) → sorts_in d env ts ≡ sorts_in d wide ts
    sorts_agree env wide fnone h = refl
    sorts_agree env wide (fmore t ts) h =
        ap (λ s. s ∷ sorts_in d env ts) (sort_agrees env wide t (λ y o. h y (inl o))) ∙ ap (λ ss. sort_in d wide t ∷ ss) (sorts_agree env wide ts (λ y o. h y (inr o)))

  -- the shape of a form that is headed
  unjoined_form : (a : Axioms) → (f : OpId) → axioms d f ≡ a → (t : FlatTerm) → Settled d t → head_of t ≡ Some f → (IsAssociative a → args_of t ≡ []) → t ≡ fapp f false (fpack (args_of t))
  unjoined_form a f e (fvar x) h k n = cc
  unjoined_form a f e (fapp g true ts) h k n =
      let q : g ≡ f = cc in
      let assoc : IsAssociative a = subst IsAssociative (ap (axioms d) q ∙ e) h.0.associative in
      let two = h.0.two_or_more in
      let none = ap length (n assoc) in
      absurd (omega arith)
  unjoined_form a f e (fapp g false ts) h k n = let q : g ≡ f = cc in ap (λ o. fapp o false ts) q ∙ ap (fapp f false) (sym (fpack-funpack ts))

  pub is_unjoined : (f : OpId) (t : FlatTerm) → Settled d t → head_of t ≡ Some f → (IsAssociative (axioms d f) → args_of t ≡ []) → t ≡ fapp f false (fpack (args_of t))
  is_unjoined f t h k n = unjoined_form (axioms d f) f refl t h k n

  no_arguments : (a : Axioms) → IsAssociative a → (ts : List FlatTerm) → FitsUnjoined d a ts → ts ≡ []
  no_arguments Free assoc ts h = absurd assoc
  no_arguments Comm assoc ts h = absurd assoc
  no_arguments AssocComm assoc ts h = h
  no_arguments (AssocCommId e) assoc ts h = h

  pub is_joined : (f : OpId) (t : FlatTerm) → Settled d t → head_of t ≡ Some f → IsAssociative (axioms d f) → 1 ≤ length (args_of t) → t ≡ fapp f true (fpack (args_of t))
  is_joined f (fvar x) h k assoc some = cc
  is_joined f (fapp g true ts) h k assoc some = let q : g ≡ f = cc in ap (λ o. fapp o true ts) q ∙ ap (fapp f true) (sym (fpack-funpack ts))
  is_joined f (fapp g false ts) h k assoc some =
      let q : g ≡ f = cc in
      let none = ap length (no_arguments (axioms d g) (subst (λ o. IsAssociative (axioms d o)) (sym q) assoc) (funpack ts) h.0) in
      absurd (omega arith)

  module _ (good : IsGood d) where
    -- the summands of a sum
    pub summands_of : (f : OpId) (l : List FlatTerm) → Fits d (fapp f true (fpack l)) → AreSummands d f l
    summands_of f l h = go l refl
      where
        two : 2 ≤ length l
        two = subst (λ m. 2 ≤ length m) (funpack-fpack l) h.flat.0.two_or_more

        settled_all : (ts : FlatTerms) → SettledAll d ts → AllByRecursion (Settled d) (funpack ts)
        settled_all fnone s = tt
        settled_all (fmore t ts) s = (s.0, settled_all ts s.1)

        fit_all : (k : SortId) (m : List FlatTerm) → AllByRecursion (Settled d) m → AllOfKind d k m → AllFit d m
        fit_all k [] s o = tt
        fit_all k (t ∷ m) s o = (record { flat = s.0; kinded = (k, o.0) }, fit_all k m s.1 o.1)

        go : (m : List FlatTerm) → l ≡ m → AreSummands d f l
        go [] e = let n = ap length e in absurd (omega (arith, two))
        go (t ∷ []) e = let n = ap length e in absurd (omega (arith, two))
        go (t ∷ u ∷ us) e =
            let w : Fits d (fapp f true (fpack (t ∷ u ∷ us))) = subst (λ m. Fits d (fapp f true (fpack m))) e h in
            let k = w.kinded.1 in
            let parts : AllOfKind d w.kinded.0 (t ∷ funpack (fpack (u ∷ us))) = nest_parts_of_kind d good.fits f w.flat.0.associative w.kinded.0 t (fpack (u ∷ us)) k in
            let kinds : AllOfKind d w.kinded.0 (t ∷ u ∷ us) = subst (λ m. AllOfKind d w.kinded.0 (t ∷ m)) (funpack-fpack (u ∷ us)) parts in
            let settled : AllByRecursion (Settled d) (t ∷ u ∷ us) = subst (AllByRecursion (Settled d)) (funpack-fpack (t ∷ u ∷ us)) (settled_all (fpack (t ∷ u ∷ us)) w.flat.1) in
            subst (AreSummands d f) (sym e)
            (record {
              associative = w.flat.0.associative;
              some = omega arith;
              fit = fit_all w.kinded.0 (t ∷ u ∷ us) settled kinds;
              rank = k.rank;
              listed = k.listed;
              kinds = subst (λ q. AllOfKind d q (t ∷ u ∷ us)) (sym k.result) kinds;
            })

    module _ (xs : List Var) where
      -- rows below have sorts below
      pub under_lower : (t : FlatTerm) → Fits d t → (s : SortId) (m r : Row) → IsRow d xs m → IsRow d xs r → IsRowBelow d m r → IsUnder d xs t s r → IsUnder d xs t s m
      under_lower t fits s m r hm hr below u =
          AtOrBelow-trans d
          (sort_in_monotone d good (way_of d xs m) (way_of d xs r) (way_keeps d good.kinded xs m hm) (way_keeps d good.kinded xs r hr) (λ y i. beside_below d xs m r y (kind d y.sort) below) t fits.flat fits.kinded) u

      pub all_under_lower : (ts : List FlatTerm) → AllFit d ts → (ss : List SortId) (m r : Row) → IsRow d xs m → IsRow d xs r → IsRowBelow d m r → AreUnder d xs ts ss r → AreUnder d xs ts ss m
      all_under_lower [] fit [] m r hm hr below u = tt
      all_under_lower [] fit (s ∷ ss) m r hm hr below u = absurd u
      all_under_lower (t ∷ ts) fit [] m r hm hr below u = absurd u
      all_under_lower (t ∷ ts) fit (s ∷ ss) m r hm hr below u = (under_lower t fit.0 s m r hm hr below u.0, all_under_lower ts fit.1 ss m r hm hr below u.1)

      module _ (m : Row) (row : IsRow d xs m) where
        abbrev sort_at : FlatTerm → SortId
        sort_at = sort_in d (way_of d xs m)

        kinds_of_sorts : (ts : FlatTerms) → SettledAll d ts → (ks : List SortId) → HaveKinds d (plain_all ts) ks → map (kind d) (map sort_at (funpack ts)) ≡ ks
        kinds_of_sorts fnone h [] k = refl
        kinds_of_sorts fnone h (k ∷ ks) j = absurd j
        kinds_of_sorts (fmore t ts) h [] j = absurd j
        kinds_of_sorts (fmore t ts) h (k ∷ ks) j =
            ap (λ q. q ∷ map (kind d) (map sort_at (funpack ts))) (sort_in-kind d good (way_of d xs m) (way_keeps d good.kinded xs m row) t h.0 k j.0)
            ∙ ap (λ l. k ∷ l) (kinds_of_sorts ts h.1 ks j.1)

        -- the operator takes forms at these sorts
        takes_sorts : (f : OpId) (l : List FlatTerm) → Fits d (fapp f false (fpack l)) → TakesKinds d f (map sort_at l)
        takes_sorts f l h = record {
          rank = h.kinded.1.rank;
          listed = h.kinded.1.listed;
          kinds = ap (λ n. map (kind d) (map sort_at n)) (sym (funpack-fpack l)) ∙ kinds_of_sorts (fpack l) h.flat.1 (map (kind d) h.kinded.1.rank.args) h.kinded.1.args;
        }

        to_zip : (l : List FlatTerm) (ss : List SortId) → AllZip (AtOrBelow d) (map sort_at l) ss → AreUnder d xs l ss m
        to_zip [] [] h = tt
        to_zip [] (s ∷ ss) h = absurd h
        to_zip (t ∷ l) [] h = absurd h
        to_zip (t ∷ l) (s ∷ ss) h = (h.0, to_zip l ss h.1)

        from_zip : (l : List FlatTerm) (ss : List SortId) → AreUnder d xs l ss m → AllZip (AtOrBelow d) (map sort_at l) ss
        from_zip [] [] h = tt
        from_zip [] (s ∷ ss) h = absurd h
        from_zip (t ∷ l) [] h = absurd h
        from_zip (t ∷ l) (s ∷ ss) h = (h.0, from_zip l ss h.1)

        module _ (f : OpId) (s : SortId) (lists : List Row) (arguments : AreArguments d s (ranks_of d f) lists) where
          -- a least result at or below the sort goes through one of the argument lists, and these lead there
          through : (sorts : Row) → TakesKinds d f sorts → AtOrBelow d (result d f sorts) s → HasAbove d lists sorts
          through sorts takes under =
              let r = result-is d good f sorts takes in
              let o = arguments.over r.serves.rank r.serves.listed (subst (λ q. AtOrBelow d q s) (sym r.serves.gives) under) in
              (o.0, (o.1.0, AllBelow-trans d sorts r.serves.rank.args o.0 r.serves.fits o.1.1))

          leads : (sorts args : Row) → TakesKinds d f sorts → Contains lists args → AllZip (AtOrBelow d) sorts args → AtOrBelow d (result d f sorts) s
          leads sorts args takes c fits =
              let w = arguments.from args c in
              let r = result-is d good f sorts takes in
              AtOrBelow-trans d
              (r.least w.0.result (record { rank = w.0; listed = w.1.0; fits = subst (AllZip (AtOrBelow d) sorts) (sym w.1.1.1) fits; gives = refl })) w.1.1.0

          pub over_through : (l : List FlatTerm) → Fits d (fapp f false (fpack l)) → IsResultUnder d xs f l s m → (args : Row) × (Contains lists args × AreUnder d xs l args m)
          over_through l h u = let a = through (map sort_at l) (takes_sorts f l h) u in (a.0, (a.1.0, to_zip l a.0 a.1.1))

          pub over_leads : (l : List FlatTerm) → Fits d (fapp f false (fpack l)) → (args : Row) → Contains lists args → AreUnder d xs l args m → IsResultUnder d xs f l s m
          over_leads l h args c u = leads (map sort_at l) args (takes_sorts f l h) c (from_zip l args u)

          of_kind : (r : Rank) → Contains (declared d f).ranks r → (t : FlatTerm) → Fits d t → HasKind d (plain t) (kind d r.result) → IsOfKind d f (sort_at t)
          of_kind r listed t fits k = record { rank = r; listed = listed; kind_is = sort_in-kind d good (way_of d xs m) (way_keeps d good.kinded xs m row) t fits.flat (kind d r.result) k }

          module _ (assoc : IsAssociative (axioms d f)) (r : Rank) (listed : Contains (declared d f).ranks r) where
            fold_of_kind : (a : SortId) → IsOfKind d f a → (l : List FlatTerm) → AllFit d l → AllOfKind d (kind d r.result) l → IsOfKind d f (fold (result_of_two d f) a (map sort_at l))
            fold_of_kind a h [] fit kinds = h
            fold_of_kind a h (t ∷ l) fit kinds = fold_of_kind (result_of_two d f a (sort_at t)) (result-pair d good f a (sort_at t) assoc h (of_kind r listed t fit.0 kinds.0)) l fit.1 kinds.1

            sum_of_kind : (l : List FlatTerm) → 1 ≤ length l → AllFit d l → AllOfKind d (kind d r.result) l → IsOfKind d f (sum_sort d f (map sort_at l))
            sum_of_kind [] some fit kinds = absurd (omega arith)
            sum_of_kind (t ∷ l) some fit kinds = fold_of_kind (sort_at t) (of_kind r listed t fit.0 kinds.0) l fit.1 kinds.1

            sum_push : (l : List FlatTerm) → 1 ≤ length l → (t : FlatTerm) → sum_sort d f (map sort_at (l ++ t ∷ [])) ≡ result_of_two d f (sum_sort d f (map sort_at l)) (sort_at t)
            sum_push [] some t = absurd (omega arith)
            sum_push (u ∷ l) some t = ap (fold (result_of_two d f) (sort_at u)) (map-append sort_at l (t ∷ [])) ∙ fold_push (result_of_two d f) (sort_at u) (map sort_at l) (sort_at t)

          to_pair : (front : List FlatTerm) (last : FlatTerm) (args : Row) → AllZip (AtOrBelow d) (sum_sort d f (map sort_at front) ∷ sort_at last ∷ []) args → IsPairUnder d xs f front last args m
          to_pair front last [] h = absurd h
          to_pair front last (a ∷ []) h = absurd h.1
          to_pair front last (a ∷ b ∷ []) h = (h.0, h.1.0)
          to_pair front last (a ∷ b ∷ c ∷ ss) h = absurd h.1.1

          from_pair : (front : List FlatTerm) (last : FlatTerm) (args : Row) → IsPairUnder d xs f front last args m → AllZip (AtOrBelow d) (sum_sort d f (map sort_at front) ∷ sort_at last ∷ []) args
          from_pair front last [] h = absurd h
          from_pair front last (a ∷ []) h = absurd h
          from_pair front last (a ∷ b ∷ []) h = (h.0, (h.1, tt))
          from_pair front last (a ∷ b ∷ c ∷ ss) h = absurd h

          module _ (front : List FlatTerm) (last : FlatTerm) (h : AreSummands d f front) (fits : Fits d last) (of : HasKind d (plain last) (kind d h.rank.result)) where
            takes_pair : TakesKinds d f (sum_sort d f (map sort_at front) ∷ sort_at last ∷ [])
            takes_pair =
                TakesKinds-pair d good f (sum_sort d f (map sort_at front)) (sort_at last) h.associative
                (sum_of_kind h.associative h.rank h.listed front h.some h.fit h.kinds) (of_kind h.rank h.listed last fits of)

            pub sum_through : IsSumUnder d xs f (front ++ last ∷ []) s m → (args : Row) × (Contains lists args × IsPairUnder d xs f front last args m)
            sum_through u =
                let e = sum_push h.associative h.rank h.listed front h.some last in
                let a = through (sum_sort d f (map sort_at front) ∷ sort_at last ∷ []) takes_pair (subst (λ q. AtOrBelow d q s) e u) in
                (a.0, (a.1.0, to_pair front last a.0 a.1.1))

            pub sum_leads : (args : Row) → Contains lists args → IsPairUnder d xs f front last args m → IsSumUnder d xs f (front ++ last ∷ []) s m
            sum_leads args c u =
                let e = sum_push h.associative h.rank h.listed front h.some last in
                subst (λ q. AtOrBelow d q s) (sym e) (leads (sum_sort d f (map sort_at front) ∷ sort_at last ∷ []) args takes_pair c (from_pair front last args u))

      -- a headed form, by its arguments
      module _ (f : OpId) (t : FlatTerm) (l : List FlatTerm) (s : SortId) (m : Row) where
        sort_unjoined : t ≡ fapp f false (fpack l) → sort_in d (way_of d xs m) t ≡ result d f (map (sort_in d (way_of d xs m)) l)
        sort_unjoined e = ap (sort_in d (way_of d xs m)) e ∙ ap (result d f) (sorts_in-fpack (way_of d xs m) l)

        sort_joined : t ≡ fapp f true (fpack l) → sort_in d (way_of d xs m) t ≡ sum_sort d f (map (sort_in d (way_of d xs m)) l)
        sort_joined e = ap (sort_in d (way_of d xs m)) e ∙ ap (sum_sort d f) (sorts_in-fpack (way_of d xs m) l)

        pub to_unjoined : t ≡ fapp f false (fpack l) → IsUnder d xs t s m → IsResultUnder d xs f l s m
        to_unjoined e u = subst (λ q. AtOrBelow d q s) (sort_unjoined e) u

        pub from_unjoined : t ≡ fapp f false (fpack l) → IsResultUnder d xs f l s m → IsUnder d xs t s m
        from_unjoined e u = subst (λ q. AtOrBelow d q s) (sym (sort_unjoined e)) u

        pub to_joined : t ≡ fapp f true (fpack l) → IsUnder d xs t s m → IsSumUnder d xs f l s m
        to_joined e u = subst (λ q. AtOrBelow d q s) (sort_joined e) u

        pub from_joined : t ≡ fapp f true (fpack l) → IsSumUnder d xs f l s m → IsUnder d xs t s m
        from_joined e u = subst (λ q. AtOrBelow d q s) (sym (sort_joined e)) u
