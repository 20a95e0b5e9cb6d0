-- Steps with sort-decreasing equations keep sorts, where no left side collapses.
use Rattle.std.proofs.Common.{◌≡◌, ℕ, zero, suc, List, [], ◌∷◌, ◌++◌, map, Some, None, refl, sym, ap, ◌∙◌, subst}
use Rattle.std.specs.List.{AllByRecursion, AllZip}
use Rattle.fvn_terms.specs.declared.plain.OpId.{OpId}
use Rattle.fvn_terms.specs.declared.plain.SortId.{SortId}
use Rattle.fvn_terms.specs.declared.declarations.Axioms.{Axioms}
use Rattle.fvn_terms.specs.declared.declarations.Axioms.TheVariants.{Free, Comm, AssocComm, AssocCommId}
use Rattle.fvn_terms.specs.declared.declarations.Declarations.{Declarations}
use Rattle.fvn_terms.specs.Term.{Term}
use Rattle.fvn_terms.specs.Signature.{kind, axioms, AtOrBelow, same, IsTerm, HasKind, HaveKinds}
use Rattle.fvn_terms.specs.Places.{AtOnePlace, here}
use Rattle.fvn_terms.specs.Equality.{two, IsAssociative, BEqual, identity}
use Rattle.fvn_terms.specs.Sorts.{HasSort}
use Rattle.fvn_terms.specs.Theory.{Equations, IsRule}
use Rattle.fvn_terms.specs.Rewriting.{Rewrites, TermSequence}
use Rattle.fvn_terms.specs.Laws.{RewritingLaws}
use Rattle.fvn_terms.proofs.Equal.{BEqual-trans, BEqual-sym}
use Rattle.fvn_forms.specs.Flat.{FlatTerm, fpack, plain, plain_all}
use Rattle.fvn_forms.specs.Canon.{parts, build, canon}
use Rattle.fvn_forms.specs.Settled.{Settled}
use Rattle.fvn_forms.specs.Ranks.{result}
use Rattle.fvn_forms.specs.Good.{TakesKinds, IsOfKind, IsGood}
use Rattle.fvn_forms.specs.LeastSort.{least_sort}
use Rattle.fvn_forms.proofs.SortOrder.{AtOrBelow-trans, AtOrBelow-from_same}
use Rattle.fvn_forms.proofs.Results.{AllBelow-self, result_monotone, result_swap}
use Rattle.fvn_forms.proofs.Build.{parts_none, parts_none_iff, build_left_identity}
use Rattle.fvn_forms.proofs.KindsKept.{both_of_kind, swapped_of_kind, b_equal_keeps_kind}
use Rattle.fvn_forms.proofs.LeastSort.{sort_in-kind, sort_of_build, least_sort_below, least_sort_exact, has_least_sort}
use Rattle.fvn_signature.specs.Queries.{IsCompleted}
use Rattle.fvn_rewrite_laws.specs.Losses.{AreSortDecreasing}
use Rattle.fvn_rewrite_laws.specs.Laws.{KindedLaws}
use Rattle.fvn_rewrite_laws.specs.Admissible.{AreAdmissible}
use Rattle.fvn_rewrite_coherence.proofs.SumSteps.{sum_with_nothing}
use Rattle.fvn_rewrite_coherence.proofs.ArgumentSteps.{StepsInside}
use Rattle.fvn_rewrite_coherence.proofs.PlaceInduction.{commutes, app_of, KeptUnjoined, KeptBeside, at_one_place}
use Rattle.fvn_rewrite_coherence.proofs.InsideSteps.{step_unjoined, step_beside, step_at_root, rule_keeps}

without_identity : (a : Axioms) (e : OpId) → (IsAssociative a → ⊥) → identity a ≡ Some e → ⊥
without_identity Free e n h = let q : None ≡ Some e = h in cc
without_identity Comm e n h = let q : None ≡ Some e = h in cc
without_identity AssocComm e n h = n tt
without_identity (AssocCommId g) e n h = n tt

module _ (d : Declarations) where
  -- a term that is equal modulo the axioms has the sort
  equal_has_sort : (t u : Term) → BEqual d t u → (s : SortId) → HasSort d t s → HasSort d u s
  equal_has_sort t u e s h = record { form = h.form; equal = BEqual-trans d (BEqual-sym d e) h.equal; gets = h.gets }

  lowered_sorts : (before : List FlatTerm) (a b : FlatTerm) (after : List FlatTerm) → AtOrBelow d (least_sort d b) (least_sort d a) → AllZip (AtOrBelow d) (map (least_sort d) (before ++ b ∷ after)) (map (least_sort d) (before ++ a ∷ after))
  lowered_sorts [] a b after h = (h, AllBelow-self d (map (least_sort d) after))
  lowered_sorts (t ∷ before) a b after h = (same, lowered_sorts before a b after h)

  each_has_parts : (f : OpId) → (IsAssociative (axioms d f) → ⊥) → (l : List FlatTerm) → AllByRecursion (Settled d) l → AllByRecursion (λ t. parts d f t ≡ [] → ⊥) l
  each_has_parts f n [] h = tt
  each_has_parts f n (t ∷ l) h = (λ e. let w = parts_none d f t h.0 e in without_identity (axioms d f) w.0 n w.1, each_has_parts f n l h.1)

  module _ (good : IsGood d) where
    least_of_kind : (t : FlatTerm) → Settled d t → (k : SortId) → HasKind d (plain t) k → kind d (least_sort d t) ≡ k
    least_of_kind t h k j = sort_in-kind d good (λ x. x.sort) (λ x i. refl) t h k j

    kinds_of_sorts : (l : List FlatTerm) → AllByRecursion (Settled d) l → (ks : List SortId) → HaveKinds d (plain_all (fpack l)) ks → map (kind d) (map (least_sort d) l) ≡ ks
    kinds_of_sorts [] h [] j = refl
    kinds_of_sorts [] h (k ∷ ks) j = absurd j
    kinds_of_sorts (t ∷ l) h [] j = absurd j
    kinds_of_sorts (t ∷ l) h (k ∷ ks) j = ap (λ q. q ∷ map (kind d) (map (least_sort d) l)) (least_of_kind t h.0 k j.0) ∙ ap (λ qs. k ∷ qs) (kinds_of_sorts l h.1 ks j.1)

    takes : (f : OpId) (l : List FlatTerm) → AllByRecursion (Settled d) l → (k : SortId) → HasKind d (app_of f l) k → TakesKinds d f (map (least_sort d) l)
    takes f l h k j = record { rank = j.rank; listed = j.listed; kinds = kinds_of_sorts l h (map (kind d) j.rank.args) j.args }

    sort_of_some : (f : OpId) (l : List FlatTerm) → AllByRecursion (Settled d) l → AllByRecursion (λ t. parts d f t ≡ [] → ⊥) l → (k : SortId) → HasKind d (app_of f l) k → least_sort d (build d f l) ≡ result d f (map (least_sort d) l)
    sort_of_some f l h n k j = sort_of_build d good (λ x. x.sort) (λ x i. refl) f l h n k j

    -- lower arguments, of which none is the identity, make a lower form
    lower_some : (f : OpId) (before : List FlatTerm) (a b : FlatTerm) (after : List FlatTerm) → AllByRecursion (Settled d) (before ++ a ∷ after) → AllByRecursion (Settled d) (before ++ b ∷ after) →
        AllByRecursion (λ t. parts d f t ≡ [] → ⊥) (before ++ a ∷ after) → AllByRecursion (λ t. parts d f t ≡ [] → ⊥) (before ++ b ∷ after) →
        (k : SortId) → HasKind d (app_of f (before ++ a ∷ after)) k → HasKind d (app_of f (before ++ b ∷ after)) k →
        AtOrBelow d (least_sort d b) (least_sort d a) → AtOrBelow d (least_sort d (build d f (before ++ b ∷ after))) (least_sort d (build d f (before ++ a ∷ after)))
    lower_some f before a b after ha hb na nb k i j low =
        AtOrBelow-trans d (AtOrBelow-from_same d (sort_of_some f (before ++ b ∷ after) hb nb k j))
        (AtOrBelow-trans d
        (result_monotone d good f (map (least_sort d) (before ++ b ∷ after)) (map (least_sort d) (before ++ a ∷ after)) (lowered_sorts before a b after low) (takes f (before ++ a ∷ after) ha k i))
        (AtOrBelow-from_same d (sym (sort_of_some f (before ++ a ∷ after) ha na k i))))

    module _ (f : OpId) (assoc : IsAssociative (axioms d f)) (a b o : FlatTerm) (ha : Settled d a) (hb : Settled d b) (ho : Settled d o) (k : SortId) (i : HasKind d (two f (plain a) (plain o)) k) (some : parts d f a ≡ [] → ⊥) (some_other : parts d f o ≡ [] → ⊥) (low : AtOrBelow d (least_sort d b) (least_sort d a)) where
      -- a summand becomes the identity: the sum becomes the other
      lower_gone : parts d f b ≡ [] → AtOrBelow d (least_sort d (build d f (b ∷ o ∷ []))) (least_sort d (build d f (a ∷ o ∷ [])))
      lower_gone e =
          let w = parts_none d f b hb e in
          let left : build d f (b ∷ o ∷ []) ≡ o = ap (λ z. build d f (z ∷ o ∷ [])) w.2 ∙ build_left_identity d f w.0 w.1 o ho in
          let other_kind : IsOfKind d f (least_sort d o) = record { rank = i.rank; listed = i.listed; kind_is = least_of_kind o ho k (both_of_kind d good.fits f assoc (plain a) (plain o) k i).1 ∙ sym i.result } in
          let turned = takes f (o ∷ a ∷ []) (ho, (ha, tt)) k (swapped_of_kind d good.fits f (commutes (axioms d f) assoc) (plain a) (plain o) k i) in
          let beside : AtOrBelow d (least_sort d o) (result d f (least_sort d o ∷ least_sort d b ∷ [])) = subst (λ z. AtOrBelow d (least_sort d o) (result d f (least_sort d o ∷ least_sort d z ∷ []))) (sym w.2) (good.collapse f w.0 (least_sort d o) w.1 other_kind) in
          AtOrBelow-trans d (AtOrBelow-from_same d (ap (least_sort d) left))
          (AtOrBelow-trans d beside
          (AtOrBelow-trans d (result_monotone d good f (least_sort d o ∷ least_sort d b ∷ []) (least_sort d o ∷ least_sort d a ∷ []) (same, (low, tt)) turned)
          (AtOrBelow-from_same d (result_swap d good f (least_sort d o) (least_sort d a) (commutes (axioms d f) assoc) turned ∙ sym (sort_of_some f (a ∷ o ∷ []) (ha, (ho, tt)) (some, (some_other, tt)) k i)))))

    module _ (equations : Equations) (admissible : AreAdmissible d equations) where
      -- a step of no identity to a lower sort
      record StepsLower (t u : FlatTerm) : Type 0 where
        inner : StepsInside d equations t u
        lower : AtOrBelow d (least_sort d u) (least_sort d t)

      lower_unjoined : KeptUnjoined d StepsLower
      lower_unjoined f n before a b after h g k i j s = record {
        inner = step_unjoined d good equations admissible f n before a b after h g k i j s.inner;
        lower = lower_some f before a b after h g (each_has_parts f n (before ++ a ∷ after) h) (each_has_parts f n (before ++ b ∷ after) g) k i j s.lower;
      }

      lower_beside : KeptBeside d StepsLower
      lower_beside f assoc a b o ha hb ho k i j s = record { inner = step_beside d good equations admissible f assoc a b o ha hb ho k i j s.inner; lower = go (parts d f o) refl (parts d f b) refl } where
        some : parts d f a ≡ [] → ⊥
        some e = s.inner.no_identity (f, (parts_none_iff d f a ha).0 e)

        go : (l : List FlatTerm) → parts d f o ≡ l → (m : List FlatTerm) → parts d f b ≡ m → AtOrBelow d (least_sort d (build d f (b ∷ o ∷ []))) (least_sort d (build d f (a ∷ o ∷ [])))
        go [] p m q =
            subst (λ z. AtOrBelow d (least_sort d (build d f (b ∷ o ∷ []))) (least_sort d z)) (sym (sum_with_nothing d f o ho p a ha))
            (subst (λ z. AtOrBelow d (least_sort d z) (least_sort d a)) (sym (sum_with_nothing d f o ho p b hb)) s.lower)
        go (x ∷ l) p [] q = lower_gone f assoc a b o ha hb ho k i some (λ n. let e : [] ≡ x ∷ l = sym n ∙ p in cc) s.lower q
        go (x ∷ l) p (y ∷ m) q =
            let other : parts d f o ≡ [] → ⊥ = λ n. let e : [] ≡ x ∷ l = sym n ∙ p in cc in
            lower_some f [] a b (o ∷ []) (ha, (ho, tt)) (hb, (ho, tt)) (some, (other, tt)) (λ n. let e : [] ≡ y ∷ m = sym n ∙ q in cc, (other, tt)) k i j s.lower

      module _ (completed : IsCompleted d) (rewriting : RewritingLaws d equations) (kinded : KindedLaws d equations) (decreasing : AreSortDecreasing d equations) where
        lower_at_root : (t u : Term) → IsRule d equations t u → (k : SortId) → HasKind d t k → StepsLower (canon d t) (canon d u)
        lower_at_root t u r k h =
            let kept = rule_keeps d good equations admissible kinded t u (here r) k h in record {
              inner = step_at_root d good equations admissible completed t u r;
              lower = least_sort_below d good u (k, kept) (least_sort d (canon d t)) (rewriting.sorts (λ l m listed. decreasing (l, m) listed) t u r (least_sort d (canon d t)) (has_least_sort d good t (k, h)));
            }

        rule_lowers : {t u : Term} → AtOnePlace (IsRule d equations) t u → (k : SortId) → HasKind d t k → StepsLower (canon d t) (canon d u)
        rule_lowers = at_one_place d StepsLower good lower_unjoined lower_beside (IsRule d equations) (rule_keeps d good equations admissible kinded) lower_at_root

        step_keeps_sorts : (t u : Term) → IsTerm d t → Rewrites d equations t u → (s : SortId) → HasSort d t s → HasSort d u s
        step_keeps_sorts t u h r s has =
            let from_kind = b_equal_keeps_kind d good.fits r.before h.0 h.1 in
            let to_kind = rule_keeps d good equations admissible kinded r.from r.to r.replaced h.0 from_kind in
            let low = least_sort_below d good r.from (h.0, from_kind) s (equal_has_sort t r.from r.before s has) in
            equal_has_sort r.to u r.after s ((least_sort_exact d good r.to (h.0, to_kind) s).1 (AtOrBelow-trans d (rule_lowers r.replaced h.0 from_kind).lower low))

        -- along a sequence sorts stay
        pub sequence_keeps_sorts : (n : ℕ) (t u : Term) → IsTerm d t → TermSequence d equations n t u → (s : SortId) → HasSort d t s → HasSort d u s
        sequence_keeps_sorts zero t u h q s has = equal_has_sort t u q s has
        sequence_keeps_sorts (suc n) t u h q s has =
            sequence_keeps_sorts n q.0 u (h.0, kinded.steps t q.0 q.1.0 h.0 h.1) q.1.1 s (step_keeps_sorts t q.0 h q.1.0 s has)
