-- Where two forms are met by one summand each, some instance has one summand for each, among those that they had.
use Rattle.std.proofs.Common.{◌≡◌, ◌⊎◌, ◌+◌, ◌≤◌, Bool, true, false, List, [], ◌∷◌, None, Some, refl, sym, ap, ◌∙◌, subst, inl, inr, arith}
use Rattle.std.specs.List.{AllByRecursion, Contains, fold}
use Rattle.fvn_base.specs.Decided.{Decided}
use Rattle.fvn_terms.specs.declared.plain.Var.{Var}
use Rattle.fvn_terms.specs.declared.plain.OpId.{OpId}
use Rattle.fvn_terms.specs.declared.plain.SortId.{SortId}
use Rattle.fvn_terms.specs.declared.declarations.Declarations.{Declarations}
use Rattle.fvn_terms.specs.Term.{Term, var}
use Rattle.fvn_terms.specs.Substitution.{Substitution, apply, Occurs}
use Rattle.fvn_terms.specs.declared.declarations.Rank.{Rank}
use Rattle.fvn_terms.specs.Signature.{kind, declared, axioms, AtOrBelow, HasKind}
use Rattle.fvn_terms.specs.Places.{stop}
use Rattle.fvn_terms.specs.Equality.{IsAssociative, identity, BEqual}
use Rattle.fvn_terms.specs.Sorts.{HasSort, IsWellSorted}
use Rattle.fvn_forms.specs.Flat.{FlatTerm, FlatTerms, fvar, fapp, fnone, fmore, funpack, nest, plain, plain_all}
use Rattle.fvn_forms.specs.Order.{same_flat}
use Rattle.fvn_forms.specs.InOrder.{count}
use Rattle.fvn_forms.specs.Canon.{same_op, parts, canon}
use Rattle.fvn_forms.specs.Settled.{IsPiece, Settled, SettledAll}
use Rattle.fvn_forms.specs.Good.{IsOfKind, IsGood}
use Rattle.fvn_forms.specs.LeastSort.{result_of_two, sorts_in, least_sort, KeepsKindsOfVariables}
use Rattle.fvn_forms.proofs.Order.{same_flat_is}
use Rattle.fvn_forms.proofs.InOrder.{count_itself}
use Rattle.fvn_forms.proofs.Sums.{same_op_is, parts_are_pieces, parts_are_settled}
use Rattle.fvn_forms.proofs.Build.{parts_none}
use Rattle.fvn_forms.proofs.Eval.{canon_settled, canon_respects, canon_plain}
use Rattle.fvn_forms.proofs.Results.{result-pair}
use Rattle.fvn_forms.proofs.KindsOfSums.{nest_parts_of_kind, parts_of_kind}
use Rattle.fvn_forms.proofs.ToCanon.{canon_of_kind}
use Rattle.fvn_forms.proofs.LeastSort.{sort_in-kind, least_sort_exact}
use Rattle.fvn_flat.specs.Forms.{head_of}
use Rattle.fvn_rewrite_laws.proofs.Agreement.{equal_by_agreement}
use Rattle.fvn_places.proofs.ClashFacts.{instance_head}
use Rattle.fvn_lifting.specs.Pairs.{IsOneSummand, SummandsKeep, MeetsOne}
use Rattle.fvn_lifting.proofs.Chosen.{chosen, chosen_if, chosen_unless, occurs_or_not, StandsFor, stands_at, sorted_each, chosen_stands}

-- the substitution with this value for z
abbrev pub with_value : Substitution → Var → Term → Substitution
with_value s z q x = chosen (occurs_or_not x (var z)) q (s x)

pub value_there : (s : Substitution) (z : Var) (q : Term) → with_value s z q z ≡ q
value_there s z q = chosen_if (occurs_or_not z (var z)) q (s z) refl

pub value_elsewhere : (s : Substitution) (z : Var) (q : Term) (x : Var) → (x ≡ z → ⊥) → with_value s z q x ≡ s x
value_elsewhere s z q x n = chosen_unless (occurs_or_not x (var z)) q (s x) n

-- the one form of a list
count_one : (q p : FlatTerm) → 1 ≤ count q (p ∷ []) → q ≡ p
count_one q p h = go (same_flat q p) refl where
  go : (b : Bool) → same_flat q p ≡ b → q ≡ p
  go true e = same_flat_is q p e
  go false e = let low : 1 ≤ 0 + 0 = rw e at h in absurd (omega (arith, low))

module _ (d : Declarations) (good : IsGood d) where
  pub with_value_sorted : (s : Substitution) (z : Var) (q : Term) → IsWellSorted d s → HasKind d q (kind d z.sort) → HasSort d q z.sort → IsWellSorted d (with_value s z q)
  with_value_sorted s z q sorted h j = sorted_each d (with_value s z q) (λ x. chosen_stands d (occurs_or_not x (var z)) x.sort q (s x) (there x) (λ n. stands_at d s sorted x)) where
    there : (x : Var) → x ≡ z → StandsFor d x.sort q
    there x e = (
      λ i. subst (λ (y : Var). HasKind d q (kind d y.sort)) (sym e) h,
      subst (λ (y : Var). HasSort d q y.sort) (sym e) j,
    )

  module _ (f : OpId) (assoc : IsAssociative (axioms d f)) (no_identity : identity (axioms d f) ≡ None) where
    -- the summands of the instance of a form
    abbrev pub summands : Substitution → FlatTerm → List FlatTerm
    summands s t = parts d f (canon d (apply s (plain t)))

    -- the first summand of a form
    record HasFirst (w : FlatTerm) : Type 0 where
      summand : FlatTerm
      rest : List FlatTerm
      is : parts d f w ≡ summand ∷ rest

    has_first : (w : FlatTerm) → Settled d w → HasFirst w
    has_first w h = go (parts d f w) refl where
      go : (l : List FlatTerm) → parts d f w ≡ l → HasFirst w
      go [] e = let n = parts_none d f w h e in let q : Some n.0 ≡ None = sym n.1 ∙ no_identity in cc
      go (a ∷ l) e = record { summand = a; rest = l; is = e }

    -- what another operator heads is one summand
    pub one_part : (w : FlatTerm) (g : OpId) → head_of w ≡ Some g → same_op f g ≡ false → parts d f w ≡ w ∷ []
    one_part (fvar x) g e n = cc
    one_part (fapp h true ts) g e n = let q : h ≡ g = cc in rw (ap (same_op f) q ∙ n) refl
    one_part (fapp h false fnone) g e n = rw no_identity refl
    one_part (fapp h false (fmore t ts)) g e n = refl

    pub others_differ : (g : OpId) → (g ≡ f → ⊥) → same_op f g ≡ false
    others_differ g n = go (same_op f g) refl where
      go : (b : Bool) → same_op f g ≡ b → same_op f g ≡ false
      go true e = absurd (n (sym (same_op_is f g e)))
      go false e = e

    module _ (r : Rank) (listed : Contains (declared d f).ranks r) (k : SortId) (gives : kind d r.result ≡ k) where
      own_keeps : KeepsKindsOfVariables d (λ x. x.sort)
      own_keeps x i = refl

      -- the least sort of a form of the operator's kind is of that kind
      pub of_the_kind : (t : FlatTerm) → Settled d t → HasKind d (plain t) k → IsOfKind d f (least_sort d t)
      of_the_kind t h j = record { rank = r; listed = listed; kind_is = sort_in-kind d good (λ x. x.sort) own_keeps t h k j ∙ sym gives }

      module _ (s : SortId) (keep : SummandsKeep d f s) where
        -- the first of several summands has the sort that their sum has
        first_below : (acc : SortId) → IsOfKind d f acc → (ts : FlatTerms) → SettledAll d ts → AllByRecursion (λ t. HasKind d (plain t) k) (funpack ts) → AtOrBelow d (fold (result_of_two d f) acc (sorts_in d (λ x. x.sort) ts)) s → AtOrBelow d acc s
        first_below acc i fnone h j low = low
        first_below acc i (fmore t ts) h j low =
            let q = of_the_kind t h.0 j.0 in
            (keep acc (least_sort d t) i q (first_below (result_of_two d f acc (least_sort d t)) (result-pair d good f acc (least_sort d t) assoc i q) ts h.1 j.1 low)).0

        alone : (a w : FlatTerm) (rest : List FlatTerm) → w ∷ [] ≡ a ∷ rest → AtOrBelow d (least_sort d w) s → AtOrBelow d (least_sort d a) s
        alone a w rest e low = let q : w ≡ a = cc in subst (λ z. AtOrBelow d (least_sort d z) s) q low

        summand_below : (w : FlatTerm) → Settled d w → HasKind d (plain w) k → (a : FlatTerm) (rest : List FlatTerm) → parts d f w ≡ a ∷ rest → AtOrBelow d (least_sort d w) s → AtOrBelow d (least_sort d a) s
        summand_below (fvar x) h j a rest e low = alone a (fvar x) rest e low
        summand_below (fapp g true fnone) h j a rest e low = let n : 2 ≤ 0 = h.0.two_or_more in absurd (omega arith)
        summand_below (fapp g true (fmore t ts)) h j a rest e low = go (same_op f g) refl where
          go : (b : Bool) → same_op f g ≡ b → AtOrBelow d (least_sort d a) s
          go false q = alone a (fapp g true (fmore t ts)) rest (rw q at e) low
          go true q =
              let same : f ≡ g = same_op_is f g q in
              let first : t ∷ funpack ts ≡ a ∷ rest = rw q at e in
              let is : t ≡ a = cc in
              let kinds = nest_parts_of_kind d good.fits f assoc k t ts (subst (λ o. HasKind d (nest o (plain t) (plain_all ts)) k) (sym same) j) in
              subst (λ z. AtOrBelow d (least_sort d z) s) is
              (first_below (least_sort d t) (of_the_kind t h.1.0 kinds.0) ts h.1.1 kinds.1
              (subst (λ o. AtOrBelow d (fold (result_of_two d o) (least_sort d t) (sorts_in d (λ x. x.sort) ts)) s) (sym same) low))
        summand_below (fapp g false fnone) h j a rest e low = alone a (fapp g false fnone) rest (rw no_identity at e) low
        summand_below (fapp g false (fmore t ts)) h j a rest e low = alone a (fapp g false (fmore t ts)) rest e low

    -- a substitution under which the form has one summand, one of those that it had
    record IsLowered (t other : FlatTerm) (s : Substitution) : Type 0 where
      by : Substitution
      sorted : IsWellSorted d by
      summand : FlatTerm
      one : summands by t ≡ summand ∷ []
      had : 1 ≤ count summand (summands s t)
      other_stays : (summands by other ≡ summands s other) ⊎ (other ≡ t)

    had_where : (a : FlatTerm) (l m : List FlatTerm) → m ≡ a ∷ l → 1 ≤ count a m
    had_where a l m e = subst (λ n. 1 ≤ count a n) (sym e) (let c = count_itself a l in omega arith)

    module _ (s : Substitution) (sorted : IsWellSorted d s) where
      by_head : (t other : FlatTerm) → Settled d t → IsOneSummand d f t → IsLowered t other s
      by_head t other h i =
          let w = canon d (apply s (plain t)) in
          let one : parts d f w ≡ w ∷ [] = one_part w i.operator (instance_head d i.operator i.no_identity t h i.heads s) (others_differ i.operator i.is_other) in
          record { by = s; sorted = sorted; summand = w; one = one; had = had_where w [] (parts d f w) one; other_stays = inl refl }

      module _ (x : Var) (r : Rank) (listed : Contains (declared d f).ranks r) (gives : kind d r.result ≡ kind d x.sort) (keep : SummandsKeep d f x.sort) (known : HasKind d (s x) (kind d x.sort)) where
        abbrev value : FlatTerm
        value = canon d (s x)

        first : HasFirst value
        first = has_first value (canon_settled d (s x))

        abbrev summand : FlatTerm
        summand = first.summand

        piece : IsPiece d f summand
        piece = let p = subst (AllByRecursion (IsPiece d f)) first.is (parts_are_pieces d f value (canon_settled d (s x))) in p.0

        settled : Settled d summand
        settled = let p = subst (AllByRecursion (Settled d)) first.is (parts_are_settled d f value (canon_settled d (s x))) in p.0

        of_kind : HasKind d (plain summand) (kind d x.sort)
        of_kind =
            let p = subst (AllByRecursion (λ t. HasKind d (plain t) (kind d x.sort))) first.is (parts_of_kind d good.fits f assoc (kind d x.sort) value (canon_of_kind d good.fits (s x) (kind d x.sort) known)) in
            p.0

        of_sort : HasSort d (plain summand) x.sort
        of_sort =
            let low = (least_sort_exact d good (s x) (kind d x.sort, known) x.sort).0 (sorted.1 x) in
            let below = summand_below r listed (kind d x.sort) gives x.sort keep value (canon_settled d (s x)) (canon_of_kind d good.fits (s x) (kind d x.sort) known) summand first.rest first.is low in
            (least_sort_exact d good (plain summand) (kind d x.sort, of_kind) x.sort).1 (subst (λ z. AtOrBelow d (least_sort d z) x.sort) (sym (canon_plain d summand settled)) below)

        abbrev by : Substitution
        by = with_value s x (plain summand)

        one : summands by (fvar x) ≡ summand ∷ []
        one = ap (λ q. parts d f (canon d q)) (value_there s x (plain summand)) ∙ ap (parts d f) (canon_plain d summand settled) ∙ piece

        stays : (other : FlatTerm) → (head_of other ≡ None) ⊎ (Occurs x (plain other) → ⊥) → (summands by other ≡ summands s other) ⊎ (other ≡ fvar x)
        stays (fvar z) o = go (occurs_or_not z (var x)) where
          go : Decided (Occurs z (var x)) → (summands by (fvar z) ≡ summands s (fvar z)) ⊎ (fvar z ≡ fvar x)
          go (inl e) = inr (ap fvar e)
          go (inr n) = inl (ap (λ q. parts d f (canon d q)) (value_elsewhere s x (plain summand) z n))
        stays (fapp g joined ts) (inl e) = cc
        stays (fapp g joined ts) (inr n) = inl (ap (parts d f) (canon_respects d (equal_by_agreement d by s (plain (fapp g joined ts)) agree))) where
          agree : (y : Var) → Occurs y (plain (fapp g joined ts)) → BEqual d (by y) (s y)
          agree y o = subst (BEqual d (by y)) (value_elsewhere s x (plain summand) y (λ e. n (subst (λ (z : Var). Occurs z (plain (fapp g joined ts))) e o))) stop

        by_variable : (other : FlatTerm) → (head_of other ≡ None) ⊎ (Occurs x (plain other) → ⊥) → IsLowered (fvar x) other s
        by_variable other o = record {
          by = by;
          sorted = with_value_sorted s x (plain summand) sorted of_kind of_sort;
          summand = summand;
          one = one;
          had = had_where summand first.rest (parts d f value) first.is;
          other_stays = stays other o;
        }

      module _ (r : Rank) (listed : Contains (declared d f).ranks r) (k : SortId) (gives : kind d r.result ≡ k) where
        lowered : (t other : FlatTerm) → Settled d t → HasKind d (plain t) k → MeetsOne d f t other → IsLowered t other s
        lowered t other h j (inl i) = by_head t other h i
        lowered t other h j (inr m) =
            let there : HasKind d (var m.variable) k = subst (λ w. HasKind d (plain w) k) m.is j in
            subst (λ w. IsLowered w other s) (sym m.is)
            (by_variable m.variable r listed (gives ∙ sym there.1) m.keep (sorted.0 m.variable there.0) other m.outside)

    -- a substitution under which both have one summand, one of those that they had
    pub record AreLowered (first second : FlatTerm) (s : Substitution) : Type 0 where
      pub by : Substitution
      pub sorted : IsWellSorted d by
      pub a : FlatTerm
      pub b : FlatTerm
      pub one_first : summands by first ≡ a ∷ []
      pub one_second : summands by second ≡ b ∷ []
      pub had_first : 1 ≤ count a (summands s first)
      pub had_second : 1 ≤ count b (summands s second)

    module _ (first second : FlatTerm) (s : Substitution) (p : IsLowered first second s) (q : IsLowered second first p.by) where
      second_had : (summands p.by second ≡ summands s second) ⊎ (second ≡ first) → 1 ≤ count q.summand (summands s second)
      second_had (inl e) = subst (λ l. 1 ≤ count q.summand l) e q.had
      second_had (inr e) =
          let there : summands p.by second ≡ p.summand ∷ [] = ap (summands p.by) e ∙ p.one in
          let same = count_one q.summand p.summand (subst (λ l. 1 ≤ count q.summand l) there q.had) in
          subst (λ w. 1 ≤ count q.summand (summands s w)) (sym e) (subst (λ w. 1 ≤ count w (summands s first)) (sym same) p.had)

      both : (summands q.by first ≡ summands p.by first) ⊎ (first ≡ second) → AreLowered first second s
      both (inl e) = record { by = q.by; sorted = q.sorted; a = p.summand; b = q.summand; one_first = e ∙ p.one; one_second = q.one; had_first = p.had; had_second = second_had p.other_stays }
      both (inr e) =
          let had = second_had p.other_stays in
          record { by = q.by; sorted = q.sorted; a = q.summand; b = q.summand; one_first = ap (summands q.by) e ∙ q.one; one_second = q.one; had_first = subst (λ w. 1 ≤ count q.summand (summands s w)) (sym e) had; had_second = had }

    pub are_lowered : (r : Rank) → Contains (declared d f).ranks r → (k : SortId) → kind d r.result ≡ k → (first second : FlatTerm) → Settled d first → Settled d second → HasKind d (plain first) k → HasKind d (plain second) k →
        MeetsOne d f first second → MeetsOne d f second first → (s : Substitution) → IsWellSorted d s → AreLowered first second s
    are_lowered r listed k gives first second hf hs kf ks mf ms s sorted =
        let p = lowered s sorted r listed k gives first second hf kf mf in
        let q = lowered p.by p.sorted r listed k gives second first hs ks ms in
        both first second s p q q.other_stays
