-- What is found for terms from what is found for their parts.
use Rattle.std.proofs.Common.{◌≡◌, ℕ, zero, suc, ◌+◌, ◌<◌, ◌≤◌, ◌⊎◌, Bool, true, false, List, [], ◌∷◌, ◌++◌, length, take, drop, get_or, Some, refl, sym, ap, subst, ◌∙◌, inl, inr, arith}
use Rattle.std.specs.List.{Contains, AllByRecursion}
use Rattle.std.proofs.lemmas.List.{take_more, take_all, drop_more, length-take}
use Rattle.fvn_base.proofs.Membership.{contains_here, contains_cases, contains_none}
use Rattle.fvn_terms.specs.declared.plain.Var.{Var}
use Rattle.fvn_terms.specs.declared.plain.OpId.{OpId}
use Rattle.fvn_terms.specs.declared.plain.SortId.{SortId}
use Rattle.fvn_terms.specs.declared.declarations.Declarations.{Declarations}
use Rattle.fvn_terms.specs.Signature.{kind, axioms, HasKind}
use Rattle.fvn_terms.specs.Equality.{IsAssociative}
use Rattle.fvn_forms.specs.Flat.{FlatTerm, fvar, fapp, fpack, plain}
use Rattle.fvn_forms.specs.Good.{IsGood}
use Rattle.fvn_forms.specs.Ranks.{ranks_of}
use Rattle.fvn_forms.proofs.Results.{AllBelow-trans, AllBelow-self}
use Rattle.fvn_forms.proofs.Sums.{funpack-fpack}
use Rattle.fvn_flat.specs.Forms.{head_of, args_of}
use Rattle.fvn_flat.specs.Weight.{places, places_all}
use Rattle.fvn_flat.specs.Fits.{Fits, AllFit}
use Rattle.fvn_flat.proofs.Fitting.{args_fit}
use Rattle.fvn_flat.proofs.Instances.{each_at}
use Rattle.fvn_refine.specs.inner.Rows.{Row, IsRow, IsRowBelow, HasAbove, IsAntichain}
use Rattle.fvn_refine.specs.inner.Found.{AreArguments, AreSummands, Finds, Narrows, IsUnder, AreUnder, IsResultUnder, IsSumUnder, IsPairUnder}
use Rattle.fvn_refine.proofs.RowTests.{one_apart}
use Rattle.fvn_refine.proofs.Sorts.{under_lower, over_through, over_leads, sum_through, sum_leads, is_unjoined, is_joined, summands_of, to_unjoined, from_unjoined, to_joined, from_joined}
use Rattle.fvn_refine.proofs.Finding.{ForOne, finds_same, finds_none}

module _ (d : Declarations) (xs : List Var) where
  -- what is found for the first of some forms: where the others, us, have their sorts, ss, then all have
  pub record FindsFront (way : Row) (ts : List FlatTerm) (args : List SortId) (us : List FlatTerm) (ss : List SortId) (rows : List Row) : Type 0 where
    pub within : (m : Row) → AreUnder d xs ts args m → AreUnder d xs us ss m
    pub found : (r : Row) → Contains rows r → IsRow d xs r × (IsRowBelow d r way × ((m : Row) → IsRow d xs m → IsRowBelow d m r → AreUnder d xs us ss m → AreUnder d xs ts args m))
    pub covers : (m : Row) → IsRow d xs m → IsRowBelow d m way → AreUnder d xs ts args m → HasAbove d rows m
    pub apart : IsAntichain d rows
    pub fit : AllFit d us
    pub as_long : length us ≡ length ss

  -- one of the forms has its sort
  under_at : (us : List FlatTerm) (ss : List SortId) (i : ℕ) (t : FlatTerm) (e : SortId) (m : Row) → AreUnder d xs us ss m → i < length us → IsUnder d xs (get_or us i t) (get_or ss i e) m
  under_at [] ss i t e m h l = absurd (omega arith)
  under_at (u ∷ us) [] i t e m h l = absurd h
  under_at (u ∷ us) (s ∷ ss) zero t e m h l = h.0
  under_at (u ∷ us) (s ∷ ss) (suc i) t e m h l = under_at us ss i t e m h.1 (omega arith)

  module _ (way : Row) where
    -- the way alone
    pub narrow_start : (P : Row → Type 0) → IsRow d xs way → (rows : List Row) → rows ≡ way ∷ [] → Narrows d xs way P rows
    narrow_start P row rows e = subst (Narrows d xs way P) (sym e) (record {
      found = λ r c. elim (contains_cases way [] r c) [
        | inl f ↦ subst (λ q. IsRow d xs q × IsRowBelow d q way) f (row, AllBelow-self d way)
        | inr l ↦ absurd (contains_none r l)
      ];
      covers = λ m i b u. (way, (contains_here way [], b));
      apart = one_apart d way;
    })

    -- what is found
    pub narrow_found : (P : Row → Type 0) (rows : List Row) → Finds d xs (λ m. IsRowBelow d m way × P m) rows → Narrows d xs way P rows
    narrow_found P rows h = record {
      found = λ r c. let f = h.found r c in (f.0, f.1.0);
      covers = λ m i b p. h.covers m i (b, p);
      apart = h.apart;
    }

    -- rows below these at which one of the forms has its sort
    pub narrow_next : (ts : List FlatTerm) (args : List SortId) (i : ℕ) (t : FlatTerm) (e : SortId) → i < length ts → t ≡ get_or ts i t → (rows list all : List Row) → list ≡ rows →
        Narrows d xs way (AreUnder d xs ts args) rows → Finds d xs (λ m. HasAbove d list m × IsUnder d xs t (get_or args i e) m) all → Narrows d xs way (AreUnder d xs ts args) all
    narrow_next ts args i t e within is rows list all same h k = record {
      found = λ r c.
          let f = k.found r c in
          let o = h.found f.1.0.0 (subst (λ l. Contains l f.1.0.0) same f.1.0.1.0) in
          (f.0, AllBelow-trans d r f.1.0.0 way f.1.0.1.1 o.1);
      covers = λ m j b u. k.covers m j (
        subst (λ l. HasAbove d l m) (sym same) (h.covers m j b u),
        subst (λ v. IsUnder d xs v (get_or args i e) m) (sym is) (under_at ts args i t e m u within),
      );
      apart = k.apart;
    }

  module _ (good : IsGood d) (way : Row) (ts : List FlatTerm) (args : List SortId) where
    pub front_none : AllFit d ts → length ts ≡ length args → (rows : List Row) → Narrows d xs way (AreUnder d xs ts args) rows → FindsFront way ts args ts args rows
    front_none fit long rows h = record {
      within = λ m u. u;
      found = λ r c. let f = h.found r c in (f.0, (f.1, λ m i b u. u));
      covers = h.covers;
      apart = h.apart;
      fit = fit;
      as_long = long;
    }

    pub front_more : (t : FlatTerm) (us : List FlatTerm) (s : SortId) (ss : List SortId) (rows all : List Row) → FindsFront way ts args (t ∷ us) (s ∷ ss) rows →
        Finds d xs (λ m. HasAbove d rows m × IsUnder d xs t s m) all → FindsFront way ts args us ss all
    front_more t us s ss rows all h k = record {
      within = λ m u. (h.within m u).1;
      found = λ r c. next r (k.found r c);
      covers = λ m i b u. k.covers m i (h.covers m i b u, (h.within m u).0);
      apart = k.apart;
      fit = h.fit.1;
      as_long = let e = h.as_long in omega arith;
    }
      where
        next : (r : Row) → IsRow d xs r × (HasAbove d rows r × IsUnder d xs t s r) → IsRow d xs r × (IsRowBelow d r way × ((m : Row) → IsRow d xs m → IsRowBelow d m r → AreUnder d xs us ss m → AreUnder d xs ts args m))
        next r f =
            let o = h.found f.1.0.0 f.1.0.1.0 in (
              f.0,
              (
                AllBelow-trans d r f.1.0.0 way f.1.0.1.1 o.1.0,
                λ m i b u. o.1.1 m i (AllBelow-trans d m r f.1.0.0 b f.1.0.1.1) (under_lower d good xs t h.fit.0 s m r i f.0 b f.1.1, u),
              ),
            )

    -- the same at a place of the lists
    pub front_next : (i : ℕ) (t : FlatTerm) (e : SortId) → i < length ts → i < length args → t ≡ get_or ts i t → (rows list all : List Row) → list ≡ rows → FindsFront way ts args (drop i ts) (drop i args) rows →
        Finds d xs (λ m. HasAbove d list m × IsUnder d xs t (get_or args i e) m) all → FindsFront way ts args (drop (i + 1) ts) (drop (i + 1) args) all
    front_next i t e within inside is rows list all same h k =
        let terms : drop i ts ≡ t ∷ drop (i + 1) ts = drop_more ts i t within ∙ ap (λ u. u ∷ drop (i + 1) ts) (sym is) in
        let sorts : drop i args ≡ get_or args i e ∷ drop (i + 1) args = drop_more args i e inside in
        front_more t (drop (i + 1) ts) (get_or args i e) (drop (i + 1) args) rows all
        (subst (λ l. FindsFront way ts args l (get_or args i e ∷ drop (i + 1) args) rows) terms (subst (λ l. FindsFront way ts args (drop i ts) l rows) sorts h))
        (subst (λ l. Finds d xs (λ m. HasAbove d l m × IsUnder d xs t (get_or args i e) m) all) same k)

    pub front_all : (us : List FlatTerm) (ss : List SortId) (rows : List Row) → FindsFront way ts args us ss rows → (length us ≡ 0) ⊎ (length ss ≡ 0) → Finds d xs (λ m. IsRowBelow d m way × AreUnder d xs ts args m) rows
    front_all [] [] rows h e = record {
      found = λ r c. let f = h.found r c in (f.0, (f.1.0, f.1.1 r f.0 (AllBelow-self d r) tt));
      covers = λ m i p. h.covers m i p.0 p.1;
      apart = h.apart;
    }
    front_all [] (s ∷ ss) rows h e = let n = h.as_long in absurd (omega arith)
    front_all (t ∷ us) [] rows h e = let n = h.as_long in absurd (omega arith)
    front_all (t ∷ us) (s ∷ ss) rows h (inl e) = absurd (omega arith)
    front_all (t ∷ us) (s ∷ ss) rows h (inr e) = absurd (omega arith)

    -- lists that are not as long
    pub unequal : (length ts ≡ length args → ⊥) → Finds d xs (λ m. IsRowBelow d m way × AreUnder d xs ts args m) []
    unequal n = finds_none d xs (λ m. IsRowBelow d m way × AreUnder d xs ts args m) (λ m i p. n (long ts args m p.1))
      where
        long : (us : List FlatTerm) (ss : List SortId) (m : Row) → AreUnder d xs us ss m → length us ≡ length ss
        long [] [] m h = refl
        long [] (s ∷ ss) m h = absurd h
        long (t ∷ us) [] m h = absurd h
        long (t ∷ us) (s ∷ ss) m h = let e = long us ss m h.1 in omega arith

  -- a row that is no pair
  pub not_two : (way : Row) (f : OpId) (front : List FlatTerm) (last : FlatTerm) (args : List SortId) → (length args ≡ 2 → ⊥) →
      Finds d xs (λ m. IsRowBelow d m way × IsPairUnder d xs f front last args m) []
  not_two way f front last args n = finds_none d xs (λ m. IsRowBelow d m way × IsPairUnder d xs f front last args m) (λ m i p. n (two args m p.1))
    where
      two : (ss : List SortId) (m : Row) → IsPairUnder d xs f front last ss m → length ss ≡ 2
      two [] m h = absurd h
      two (a ∷ []) m h = absurd h
      two (a ∷ b ∷ []) m h = refl
      two (a ∷ b ∷ c ∷ ss) m h = absurd h

  -- a pair: from rows that have above them all where the sum of the first forms has its sort, the last form, and then that sum
  pub pair_found : IsGood d → (way : Row) (f : OpId) (front : List FlatTerm) (last : FlatTerm) → Fits d last → (a b : SortId) (args : List SortId) → args ≡ a ∷ b ∷ [] → (start rows all : List Row) →
      Narrows d xs way (IsSumUnder d xs f front a) start →
      Finds d xs (λ m. HasAbove d start m × IsUnder d xs last b m) rows → Finds d xs (λ m. HasAbove d rows m × IsSumUnder d xs f front a m) all →
      Finds d xs (λ m. IsRowBelow d m way × IsPairUnder d xs f front last args m) all
  pair_found good way f front last fits a b args e start rows all n h k = subst (λ ss. Finds d xs (λ m. IsRowBelow d m way × IsPairUnder d xs f front last ss m) all) (sym e) both
    where
      there : (r : Row) → IsRow d xs r × (HasAbove d rows r × IsSumUnder d xs f front a r) → IsRow d xs r × (IsRowBelow d r way × (IsSumUnder d xs f front a r × IsUnder d xs last b r))
      there r w =
          let q = h.found w.1.0.0 w.1.0.1.0 in
          let o = n.found q.1.0.0 q.1.0.1.0 in
          let below = AllBelow-trans d r w.1.0.0 q.1.0.0 w.1.0.1.1 q.1.0.1.1 in
          (w.0, (AllBelow-trans d r q.1.0.0 way below o.1, (w.1.1, under_lower d good xs last fits b r w.1.0.0 w.0 q.0 w.1.0.1.1 q.1.1)))

      both : Finds d xs (λ m. IsRowBelow d m way × IsPairUnder d xs f front last (a ∷ b ∷ []) m) all
      both = record {
        found = λ r c. there r (k.found r c);
        covers = λ m i p. k.covers m i (h.covers m i (n.covers m i p.0 p.1.0, p.1.1), p.1.0);
        apart = k.apart;
      }

  module _ (good : IsGood d) (way : Row) (f : OpId) (s : SortId) where
    -- an operator over forms, from its argument lists
    pub over_all : (ts : List FlatTerm) → Fits d (fapp f false (fpack ts)) → (lists : List Row) → AreArguments d s (ranks_of d f) lists → (rows : List Row) →
        Finds d xs (ForOne d xs (λ args m. IsRowBelow d m way × AreUnder d xs ts args m) lists lists) rows → Finds d xs (λ m. IsRowBelow d m way × IsResultUnder d xs f ts s m) rows
    over_all ts fits lists arguments rows h =
        finds_same d xs (ForOne d xs (λ args m. IsRowBelow d m way × AreUnder d xs ts args m) lists lists) (λ m. IsRowBelow d m way × IsResultUnder d xs f ts s m)
        (λ m i p. (p.1.1.0, over_leads d good xs m i f s lists arguments ts fits p.0 p.1.0 p.1.1.1))
        (λ m i p. let a = over_through d good xs m i f s lists arguments ts fits p.1 in (a.0, (a.1.0, (p.0, a.1.1)))) rows h

    -- a sum of several, from the first ones and the last
    pub sum_all : (ts front : List FlatTerm) (last : FlatTerm) → ts ≡ front ++ last ∷ [] → (sum : AreSummands d f front) → Fits d last → HasKind d (plain last) (kind d sum.rank.result) →
        (lists : List Row) → AreArguments d s (ranks_of d f) lists → (rows : List Row) →
        Finds d xs (ForOne d xs (λ args m. IsRowBelow d m way × IsPairUnder d xs f front last args m) lists lists) rows → Finds d xs (λ m. IsRowBelow d m way × IsSumUnder d xs f ts s m) rows
    sum_all ts front last e sum fits of lists arguments rows h =
        finds_same d xs (ForOne d xs (λ args m. IsRowBelow d m way × IsPairUnder d xs f front last args m) lists lists) (λ m. IsRowBelow d m way × IsSumUnder d xs f ts s m)
        (λ m i p. (p.1.1.0, subst (λ l. IsSumUnder d xs f l s m) (sym e) (sum_leads d good xs m i f s lists arguments front last sum fits of p.0 p.1.0 p.1.1.1)))
        (λ m i p. let a = sum_through d good xs m i f s lists arguments front last sum fits of (subst (λ l. IsSumUnder d xs f l s m) e p.1) in (a.0, (a.1.0, (p.0, a.1.1)))) rows h

  -- a sum of one
  pub sum_one : (way : Row) (f : OpId) (s : SortId) (ts : List FlatTerm) (last : FlatTerm) → length ts ≡ 1 → last ≡ get_or ts 0 last → (rows : List Row) →
      Finds d xs (λ m. IsRowBelow d m way × IsUnder d xs last s m) rows → Finds d xs (λ m. IsRowBelow d m way × IsSumUnder d xs f ts s m) rows
  sum_one way f s [] last one is rows h = absurd (omega arith)
  sum_one way f s (t ∷ []) last one is rows h = subst (λ u. Finds d xs (λ m. IsRowBelow d m way × IsUnder d xs u s m) rows) is h
  sum_one way f s (t ∷ u ∷ us) last one is rows h = absurd (omega arith)

-- all but the last
pub all_but_last : {A : Type 0} (l : List A) (n : ℕ) (a : A) → length l ≡ n + 1 → a ≡ get_or l n a → l ≡ take n l ++ a ∷ []
all_but_last l n a long is = let past : length l ≤ n + 1 = omega arith in let within : n < length l = omega arith in sym (take_all (n + 1) l past) ∙ take_more l n a within ∙ ap (λ b. take n l ++ b ∷ []) (sym is)

each_taken : {A : Type 0} (P : A → Type 0) (n : ℕ) (l : List A) → AllByRecursion P l → AllByRecursion P (take n l)
each_taken P zero l h = tt
each_taken P (suc n) [] h = tt
each_taken P (suc n) (x ∷ l) h = (h.0, each_taken P n l h.1)

pub places_push : (l : List FlatTerm) (t : FlatTerm) → places_all (fpack (l ++ t ∷ [])) ≡ places_all (fpack l) + places t
places_push [] t = omega arith
places_push (u ∷ l) t = let e = places_push l t in omega arith

pub places_some : (t : FlatTerm) → 1 ≤ places t
places_some (fvar x) = omega arith
places_some (fapp f joined ts) = omega arith

module _ (d : Declarations) (f : OpId) (ts : List FlatTerm) (h : AreSummands d f ts) (n : ℕ) where
  -- the first of the summands are summands
  pub front_summands : 1 ≤ n → n < length ts → AreSummands d f (take n ts)
  front_summands some within = record {
    associative = h.associative;
    some = let e = length-take n ts in omega arith;
    fit = each_taken (Fits d) n ts h.fit;
    rank = h.rank;
    listed = h.listed;
    kinds = each_taken (λ t. HasKind d (plain t) (kind d h.rank.result)) n ts h.kinds;
  }

  pub summand_fits : (t : FlatTerm) → n < length ts → t ≡ get_or ts n t → Fits d t
  summand_fits t within is = each_at (Fits d) ts h.fit n t within is

  pub summand_kind : (t : FlatTerm) → n < length ts → t ≡ get_or ts n t → HasKind d (plain t) (kind d h.rank.result)
  summand_kind t within is = each_at (λ u. HasKind d (plain u) (kind d h.rank.result)) ts h.kinds n t within is

module _ (d : Declarations) (xs : List Var) (good : IsGood d) (way : Row) (f : OpId) (s : SortId) where
  -- a sum of several
  pub sum_several : (ts : List FlatTerm) (n : ℕ) (last : FlatTerm) → AreSummands d f ts → length ts ≡ n + 1 → 1 ≤ n → last ≡ get_or ts n last → (lists : List Row) → AreArguments d s (ranks_of d f) lists → (rows : List Row) →
      Finds d xs (ForOne d xs (λ args m. IsRowBelow d m way × IsPairUnder d xs f (take n ts) last args m) lists lists) rows → Finds d xs (λ m. IsRowBelow d m way × IsSumUnder d xs f ts s m) rows
  unfolding front_summands
  sum_several ts n last h long some is lists arguments rows k =
      let within : n < length ts = omega arith in
      sum_all d xs good way f s ts (take n ts) last (all_but_last ts n last long is) (front_summands d f ts h n some within) (summand_fits d f ts h n last within is) (summand_kind d f ts h n last within is) lists arguments rows k

-- a headed term, by its arguments
module _ (d : Declarations) (xs : List Var) (good : IsGood d) (way : Row) (f : OpId) (s : SortId) (t : FlatTerm) (fits : Fits d t) (head : head_of t ≡ Some f) (rows : List Row) where
  pub joined_is : IsAssociative (axioms d f) → 1 ≤ length (args_of t) → t ≡ fapp f true (fpack (args_of t))
  joined_is assoc some = is_joined d f t fits.flat head assoc some

  pub joined_summands : IsAssociative (axioms d f) → 1 ≤ length (args_of t) → AreSummands d f (args_of t)
  joined_summands assoc some = summands_of d good f (args_of t) (subst (Fits d) (joined_is assoc some) fits)

  pub from_sum : IsAssociative (axioms d f) → 1 ≤ length (args_of t) → Finds d xs (λ m. IsRowBelow d m way × IsSumUnder d xs f (args_of t) s m) rows → Finds d xs (λ m. IsRowBelow d m way × IsUnder d xs t s m) rows
  from_sum assoc some h =
      finds_same d xs (λ m. IsRowBelow d m way × IsSumUnder d xs f (args_of t) s m) (λ m. IsRowBelow d m way × IsUnder d xs t s m)
      (λ m i p. (p.0, from_joined d good xs f t (args_of t) s m (joined_is assoc some) p.1)) (λ m i p. (p.0, to_joined d good xs f t (args_of t) s m (joined_is assoc some) p.1)) rows h

  pub unjoined_is : (IsAssociative (axioms d f) → args_of t ≡ []) → t ≡ fapp f false (fpack (args_of t))
  unjoined_is none = is_unjoined d f t fits.flat head none

  pub unjoined_fits : (IsAssociative (axioms d f) → args_of t ≡ []) → Fits d (fapp f false (fpack (args_of t)))
  unjoined_fits none = subst (Fits d) (unjoined_is none) fits

  pub from_over : (IsAssociative (axioms d f) → args_of t ≡ []) → Finds d xs (λ m. IsRowBelow d m way × IsResultUnder d xs f (args_of t) s m) rows → Finds d xs (λ m. IsRowBelow d m way × IsUnder d xs t s m) rows
  from_over none h =
      finds_same d xs (λ m. IsRowBelow d m way × IsResultUnder d xs f (args_of t) s m) (λ m. IsRowBelow d m way × IsUnder d xs t s m)
      (λ m i p. (p.0, from_unjoined d good xs f t (args_of t) s m (unjoined_is none) p.1)) (λ m i p. (p.0, to_unjoined d good xs f t (args_of t) s m (unjoined_is none) p.1)) rows h

-- the arguments of an operator fit
pub over_fit : (d : Declarations) → IsGood d → (f : OpId) (l : List FlatTerm) → Fits d (fapp f false (fpack l)) → AllFit d l
over_fit d good f l h = subst (AllFit d) (funpack-fpack l) (args_fit (fapp f false (fpack l)) d good.fits h)

pub args_places : (f : OpId) (joined : Bool) (t : FlatTerm) → t ≡ fapp f joined (fpack (args_of t)) → places t ≡ places_all (fpack (args_of t)) + 1
args_places f joined t e = ap places e
