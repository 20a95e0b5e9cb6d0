-- A step of some summands of a sum is a step of the sum.
use Rattle.std.proofs.Common.{◌≡◌, ◌⊎◌, ◌≤◌, ◌+◌, ◌∙◌, true, false, List, [], ◌∷◌, length, refl, ap, sym, subst, inl, inr, arith}
use Rattle.std.specs.List.{AllByRecursion, Contains}
use Rattle.std.proofs.lemmas.List.{append-nil}
use Rattle.std.proofs.lemmas.Cmp.{upto}
use Rattle.std.specs.Ordering.{is_gt}
use Rattle.fvn_terms.specs.declared.plain.Var.{Var}
use Rattle.fvn_terms.specs.declared.plain.OpId.{OpId}
use Rattle.fvn_terms.specs.declared.plain.SortId.{SortId}
use Rattle.fvn_terms.specs.declared.declarations.Axioms.{Axioms}
use Rattle.fvn_terms.specs.declared.declarations.Axioms.TheVariants.{Free, Comm, AssocComm, AssocCommId}
use Rattle.fvn_terms.specs.declared.declarations.Rank.{Rank}
use Rattle.fvn_terms.specs.declared.declarations.Declarations.{Declarations}
use Rattle.fvn_terms.specs.Term.{Term}
use Rattle.fvn_terms.specs.Substitution.{Substitution, apply, Occurs}
use Rattle.fvn_terms.specs.Signature.{kind, declared, axioms, HasKind}
use Rattle.fvn_terms.specs.Places.{here, inside, first}
use Rattle.fvn_terms.specs.Equality.{two, IsAssociative, BEqual}
use Rattle.fvn_terms.specs.Sorts.{IsWellSorted}
use Rattle.fvn_terms.specs.Theory.{Equations}
use Rattle.fvn_terms.specs.Rewriting.{Rewrites}
use Rattle.fvn_terms.specs.Laws.{RewritingLaws}
use Rattle.fvn_terms.proofs.Equal.{BEqual-apply, BEqual-sym}
use Rattle.fvn_terms.proofs.Occurrences.{BEqual-occurs}
use Rattle.fvn_forms.specs.Flat.{FlatTerm, FlatTerms, fapp, fnone, fmore, fpack, funpack, nest, fvar, plain, plain_all}
use Rattle.fvn_forms.specs.Order.{flat_cmp}
use Rattle.fvn_forms.specs.InOrder.{InOrder, count}
use Rattle.fvn_forms.specs.Canon.{parts, all_parts, sum, build, canon}
use Rattle.fvn_forms.specs.Settled.{IsPiece, IsJoined, Settled, SettledAll}
use Rattle.fvn_forms.specs.Good.{IsGood}
use Rattle.fvn_forms.proofs.Order.{flat_cmp_total}
use Rattle.fvn_forms.proofs.InOrder.{count_append, count_sort}
use Rattle.fvn_forms.proofs.Sums.{fpack-funpack, SettledAll-fpack, SettledAll-funpack, parts_sum, sum_same_counts, sum_in_order, sum_parts, all_parts-pieces}
use Rattle.fvn_forms.proofs.Build.{sum_settled, build_settled, build_sum, count_parts_build}
use Rattle.fvn_forms.proofs.Eval.{fvar_settled, canon_settled, eval_nest, canon_plain, canon_plain_all}
use Rattle.fvn_forms.proofs.KindsOfSums.{nest_parts_of_kind, two_of_kind, sum_of_forms_of_kind}
use Rattle.fvn_forms.proofs.KindsKept.{b_equal_keeps_kind}
use Rattle.fvn_forms.proofs.ToCanon.{to_canon}
use Rattle.fvn_flat.specs.Fits.{Fits, AllFit, TakesAsDeclared, Takes}
use Rattle.fvn_flat.specs.FlatPlaces.{IsReplaced, IsReplacedAmong, here as here_form, inside as inside_form, first as first_form, later as later_form, IsDivided, divided, taking, leaving, IsPartOfSum}
use Rattle.fvn_flat.proofs.Fitting.{args_fit}

-- what stands at a place of a form that fits, fits
module _ (d : Declarations) (good : IsGood d) (u v : FlatTerm) where
  mutual
    pub place_fits : {t w : FlatTerm} → IsReplaced u v t w → Fits d t → Fits d u
    place_fits here_form h = h
    place_fits (inside_form {f} {joined} {ts} r) h = place_fits_among r (args_fit (fapp f joined ts) d good.fits h)

    place_fits_among : {ts us : FlatTerms} → IsReplacedAmong u v ts us → AllFit d (funpack ts) → Fits d u
    place_fits_among (first_form r) h = place_fits r h.0
    place_fits_among (later_form r) h = place_fits_among r h.1

-- what holds of all holds of those that are taken, and of the others
divided_each : (P : FlatTerm → Type 0) {all taken others : List FlatTerm} → IsDivided all taken others → AllByRecursion P all → AllByRecursion P taken × AllByRecursion P others
divided_each P divided h = (tt, tt)
divided_each P (taking p) h = let r = divided_each P p h.1 in ((h.0, r.0), r.1)
divided_each P (leaving p) h = let r = divided_each P p h.1 in (r.0, (h.0, r.1))

-- and they are counted together
divided_counts : (q : FlatTerm) {all taken others : List FlatTerm} → IsDivided all taken others → count q all ≡ count q taken + count q others
divided_counts q divided = refl
divided_counts q (taking p) = let e = divided_counts q p in omega arith
divided_counts q (leaving p) = let e = divided_counts q p in omega arith

-- what is taken from a list in order is in order
first_below : (t : FlatTerm) {all others : List FlatTerm} {u : FlatTerm} {taken : List FlatTerm} → InOrder (t ∷ all) → IsDivided all (u ∷ taken) others → is_gt (flat_cmp t u) ≡ false
first_below t h (taking p) = h.0
first_below t {u} h (leaving {t = x} p) = upto flat_cmp_total t x u h.0 (first_below x h.1 p)

rest_in_order : (t : FlatTerm) (all : List FlatTerm) → InOrder (t ∷ all) → InOrder all
rest_in_order t [] h = tt
rest_in_order t (u ∷ all) h = h.1

pub divided_order : {all taken others : List FlatTerm} → IsDivided all taken others → InOrder all → InOrder taken
divided_order divided h = tt
divided_order (taking {t} {all} {taken} {others} p) h = go taken p (divided_order p (rest_in_order t all h)) where
  go : (l : List FlatTerm) → IsDivided all l others → InOrder l → InOrder (t ∷ l)
  go [] p o = tt
  go (u ∷ l) p o = (first_below t h p, o)
divided_order (leaving {t} {all} p) h = divided_order p (rest_in_order t all h)

nothing_left : {all taken others : List FlatTerm} → IsDivided all taken others → others ≡ [] → all ≡ taken
nothing_left divided e = refl
nothing_left (taking {t} p) e = ap (λ l. t ∷ l) (nothing_left p e)
nothing_left (leaving p) e = cc

module _ (d : Declarations) (good : IsGood d) (f : OpId) (others : List FlatTerm) (whole at : FlatTerm) (p : IsPartOfSum f others whole at) (fits : Fits d whole) where
  abbrev k : SortId
  k = fits.kinded.0

  settled : IsJoined d f (funpack p.all) × SettledAll d p.all
  settled = subst (Settled d) p.is_sum fits.flat

  assoc : IsAssociative (axioms d f)
  assoc = settled.0.associative

  all_settled : AllByRecursion (Settled d) (funpack p.all)
  all_settled = SettledAll-funpack d p.all settled.1

  kinds_of : (ts : FlatTerms) → 2 ≤ length (funpack ts) → HasKind d (plain (fapp f true ts)) k → AllByRecursion (λ t. HasKind d (plain t) k) (funpack ts)
  kinds_of fnone several h = absurd (omega (arith, several))
  kinds_of (fmore t ts) several h = nest_parts_of_kind d good.fits f assoc k t ts h

  abbrev RankOf : Type 0
  RankOf = (r : Rank) × (Contains (declared d f).ranks r × (kind d r.result ≡ k))

  rank_of : (ts : FlatTerms) → 2 ≤ length (funpack ts) → HasKind d (plain (fapp f true ts)) k → RankOf
  rank_of fnone several h = absurd (omega (arith, several))
  rank_of (fmore t fnone) several h = absurd (omega (arith, several))
  rank_of (fmore t (fmore u us)) several h = (h.rank, (h.listed, h.result))

  whole_kind : HasKind d (plain (fapp f true p.all)) k
  whole_kind = subst (λ t. HasKind d (plain t) k) p.is_sum fits.kinded.1

  rank : RankOf
  rank = rank_of p.all settled.0.two_or_more whole_kind

  of_two : (t u : Term) → HasKind d t k → HasKind d u k → HasKind d (two f t u) k
  of_two = two_of_kind d good.fits f assoc k rank.0 rank.1.0 rank.1.1

  kinds : AllByRecursion (λ t. HasKind d (plain t) k) (funpack p.taken) × AllByRecursion (λ t. HasKind d (plain t) k) others
  kinds = divided_each (λ t. HasKind d (plain t) k) p.divided_into (kinds_of p.all settled.0.two_or_more whole_kind)

  pieces : AllByRecursion (IsPiece d f) (funpack p.taken) × AllByRecursion (IsPiece d f) others
  pieces = divided_each (IsPiece d f) p.divided_into settled.0.pieces

  each_settled : AllByRecursion (Settled d) (funpack p.taken) × AllByRecursion (Settled d) others
  each_settled = divided_each (Settled d) p.divided_into all_settled

  nest_kind : (t : FlatTerm) (ts : FlatTerms) → AllByRecursion (λ t. HasKind d (plain t) k) (t ∷ funpack ts) → HasKind d (nest f (plain t) (plain_all ts)) k
  nest_kind t fnone h = h.0
  nest_kind t (fmore u us) h = of_two (plain t) (nest f (plain u) (plain_all us)) h.0 (nest_kind u us h.1)

  sum_kind : (ts : FlatTerms) → 2 ≤ length (funpack ts) → AllByRecursion (λ t. HasKind d (plain t) k) (funpack ts) → HasKind d (plain (fapp f true ts)) k
  sum_kind fnone several h = absurd (omega (arith, several))
  sum_kind (fmore t ts) several h = nest_kind t ts h

  -- the part is of the kind of the whole
  pub part_kind : HasKind d (plain at) k
  part_kind = subst (λ t. HasKind d (plain t) k) (sym p.part_is) (sum_kind p.taken p.several kinds.0)

  settled_again : (ts : FlatTerms) → AllByRecursion (Settled d) (funpack ts) → SettledAll d ts
  settled_again ts h = subst (SettledAll d) (fpack-funpack ts) (SettledAll-fpack d (funpack ts) h)

  -- and settled
  pub part_settled : Settled d at
  part_settled = subst (Settled d) (sym p.part_is) (
    record {
      associative = assoc;
      pieces = pieces.0;
      two_or_more = p.several;
      in_order = divided_order p.divided_into settled.0.in_order;
    },
    settled_again p.taken each_settled.0,
  )

  sum_canon : (ts : FlatTerms) → 2 ≤ length (funpack ts) → SettledAll d ts → AllByRecursion (IsPiece d f) (funpack ts) → canon d (plain (fapp f true ts)) ≡ sum d f (funpack ts)
  sum_canon fnone several s i = absurd (omega (arith, several))
  sum_canon (fmore t ts) several s i =
      eval_nest d fvar (fvar_settled d) f assoc (plain t) (plain_all ts)
      ∙ ap (λ l. sum d f (all_parts d f l)) (canon_plain_all d (fmore t ts) s)
      ∙ ap (sum d f) (all_parts-pieces d f (t ∷ funpack ts) i)

  part_canon : canon d (plain at) ≡ sum d f (funpack p.taken)
  part_canon = ap (λ t. canon d (plain t)) p.part_is ∙ sum_canon p.taken p.several (settled_again p.taken each_settled.0) pieces.0

  whole_is : whole ≡ sum d f (funpack p.all)
  whole_is =
      p.is_sum
      ∙ ap (fapp f true) (sym (fpack-funpack p.all))
      ∙ sym (sum_in_order d f (funpack p.all) settled.0.in_order settled.0.two_or_more)

  -- where some are left, they make a form of the kind
  module _ (o : FlatTerm) (os : List FlatTerm) (is : others ≡ o ∷ os) where
    abbrev rest : FlatTerm
    rest = sum d f others

    rest_settled : Settled d rest
    rest_settled = sum_settled d f assoc others pieces.1 each_settled.1 (λ e. let n : o ∷ os ≡ [] = sym is ∙ e in cc)

    rest_kind : HasKind d (plain rest) k
    rest_kind =
        subst (λ l. HasKind d (plain (sum d f l)) k) (sym is)
        (sum_of_forms_of_kind d good.fits f assoc k rank.0 rank.1.0 rank.1.1 o os (subst (AllByRecursion (λ t. HasKind d (plain t) k)) is kinds.1))

    -- two forms of which one is the rest
    joined_counts : (t : FlatTerm) → Settled d t → (q : FlatTerm) → count q (parts d f (build d f (t ∷ rest ∷ []))) ≡ count q (parts d f t) + count q others
    joined_counts t h q =
        let a = count_parts_build d f assoc q t rest h rest_settled in
        let b = ap (count q) (parts_sum d f others pieces.1) in
        let c = count_sort q others in
        omega arith

    built_settled : (t : FlatTerm) → Settled d t → Settled d (build d f (t ∷ rest ∷ []))
    built_settled t h = build_settled d f (t ∷ rest ∷ []) (h, (rest_settled, tt))

    -- what counts as a form and the others is the form built with the rest
    built_is : (t : FlatTerm) → Settled d t → (l : List FlatTerm) → ((q : FlatTerm) → count q l ≡ count q (parts d f t) + count q others) → build d f (t ∷ rest ∷ []) ≡ sum d f l
    built_is t h l counts =
        sym (sum_parts d f (build d f (t ∷ rest ∷ [])) (built_settled t h))
        ∙ sum_same_counts d f (parts d f (build d f (t ∷ rest ∷ []))) l (λ q. joined_counts t h q ∙ sym (counts q))

    pub whole_equal : BEqual d (two f (plain at) (plain rest)) (plain whole)
    whole_equal = subst (λ t. BEqual d (two f (plain at) (plain rest)) (plain t)) is_whole (to_canon d good.fits (two f (plain at) (plain rest)) k (of_two (plain at) (plain rest) part_kind rest_kind)) where
      counts : (q : FlatTerm) → count q (funpack p.all) ≡ count q (parts d f (sum d f (funpack p.taken))) + count q others
      counts q =
          let a = divided_counts q p.divided_into in
          let b = ap (count q) (parts_sum d f (funpack p.taken) pieces.0) in
          let c = count_sort q (funpack p.taken) in
          omega arith

      taken_settled : Settled d (sum d f (funpack p.taken))
      taken_settled = subst (Settled d) part_canon (canon_settled d (plain at))

      is_whole : canon d (two f (plain at) (plain rest)) ≡ whole
      is_whole =
          ap (λ t. build d f (t ∷ canon d (plain rest) ∷ [])) part_canon
          ∙ ap (λ t. build d f (sum d f (funpack p.taken) ∷ t ∷ [])) (canon_plain d rest rest_settled)
          ∙ built_is (sum d f (funpack p.taken)) taken_settled (funpack p.all) counts
          ∙ sym whole_is

    pub put_equal : (given : FlatTerm) → Fits d given → HasKind d (plain given) k → BEqual d (two f (plain given) (plain rest)) (plain (build d f (given ∷ others)))
    put_equal given h j = subst (λ t. BEqual d (two f (plain given) (plain rest)) (plain t)) is_put (to_canon d good.fits (two f (plain given) (plain rest)) k (of_two (plain given) (plain rest) j rest_kind)) where
      counts : (q : FlatTerm) → count q (all_parts d f (given ∷ others)) ≡ count q (parts d f given) + count q others
      counts q =
          let a = count_append q (parts d f given) (all_parts d f others) in
          let b = ap (count q) (all_parts-pieces d f others pieces.1) in
          omega arith

      is_put : canon d (two f (plain given) (plain rest)) ≡ build d f (given ∷ others)
      is_put =
          ap (λ t. build d f (t ∷ canon d (plain rest) ∷ [])) (canon_plain d given h.flat)
          ∙ ap (λ t. build d f (given ∷ t ∷ [])) (canon_plain d rest rest_settled)
          ∙ built_is given h.flat (all_parts d f (given ∷ others)) counts
          ∙ sym (build_sum d f assoc given others)

  -- where nothing is left, the part is the whole, and what is put in is the form itself
  whole_alone : others ≡ [] → whole ≡ at
  whole_alone e = p.is_sum ∙ ap (fapp f true) (sym (fpack-funpack p.all) ∙ ap fpack (nothing_left p.divided_into e) ∙ fpack-funpack p.taken) ∙ sym p.part_is

  put_alone : (given : FlatTerm) → Settled d given → others ≡ [] → build d f (given ∷ others) ≡ given
  put_alone given h e = ap (λ l. build d f (given ∷ l)) e ∙ build_sum d f assoc given [] ∙ ap (sum d f) (append-nil (parts d f given)) ∙ sum_parts d f given h

  -- what occurs in the part occurs in the whole
  pub part_occurs : (x : Var) → Occurs x (plain at) → Occurs x (plain whole)
  part_occurs x i = go others refl where
    go : (l : List FlatTerm) → others ≡ l → Occurs x (plain whole)
    go [] e = subst (λ t. Occurs x (plain t)) (sym (whole_alone e)) i
    go (o ∷ os) e = BEqual-occurs x d (plain whole) (two f (plain at) (plain (sum d f others))) (BEqual-sym d (whole_equal o os e)) (inl i)

  each_fits : (l : List FlatTerm) → AllByRecursion (Settled d) l → AllByRecursion (λ t. HasKind d (plain t) k) l → AllFit d l
  each_fits [] h j = tt
  each_fits (t ∷ l) h j = (record { flat = h.0; kinded = (k, j.0) }, each_fits l h.1 j.1)

  -- those that are taken fit, and so do the others
  pub taken_fit : AllFit d (funpack p.taken)
  taken_fit = each_fits (funpack p.taken) each_settled.0 kinds.0

  pub others_fit : AllFit d others
  others_fit = each_fits others each_settled.1 kinds.1

  takes_all : (a : Axioms) → IsAssociative a → (l : List FlatTerm) → 2 ≤ length l → AllByRecursion (λ t. HasKind d (plain t) k) l → TakesAsDeclared d a rank.0 l
  takes_all Free i l n h = absurd i
  takes_all Comm i l n h = absurd i
  takes_all AssocComm i l n h = (n, subst (λ q. AllByRecursion (λ t. HasKind d (plain t) q) l) (sym rank.1.1) h)
  takes_all (AssocCommId e) i l n h = (n, subst (λ q. AllByRecursion (λ t. HasKind d (plain t) q) l) (sym rank.1.1) h)

  -- the operator takes those that are taken
  pub taken_takes : Takes d f (funpack p.taken)
  taken_takes = record { rank = rank.0; listed = rank.1.0; args = takes_all (axioms d f) assoc (funpack p.taken) p.several kinds.0 }

  module _ (given : FlatTerm) (given_fits : Fits d given) (given_kind : HasKind d (plain given) k) where
    -- the form beside the others is of the kind of the whole, and fits
    pub put_kind : HasKind d (plain (build d f (given ∷ others))) k
    put_kind = go others refl where
      go : (l : List FlatTerm) → others ≡ l → HasKind d (plain (build d f (given ∷ others))) k
      go [] e = subst (λ t. HasKind d (plain t) k) (sym (put_alone given given_fits.flat e)) given_kind
      go (o ∷ os) e = b_equal_keeps_kind d good.fits (put_equal o os e given given_fits given_kind) k (of_two (plain given) (plain (sum d f others)) given_kind (rest_kind o os e))

    pub put_fits : Fits d (build d f (given ∷ others))
    put_fits = record { flat = build_settled d f (given ∷ others) (given_fits.flat, each_settled.1); kinded = (k, put_kind) }

    -- what occurs in it occurs in the form or in the whole
    pub put_occurs : (x : Var) → Occurs x (plain (build d f (given ∷ others))) → Occurs x (plain given) ⊎ Occurs x (plain whole)
    put_occurs x i = go others refl where
      go : (l : List FlatTerm) → others ≡ l → Occurs x (plain given) ⊎ Occurs x (plain whole)
      go [] e = inl (subst (λ t. Occurs x (plain t)) (put_alone given given_fits.flat e) i)
      go (o ∷ os) e = back (BEqual-occurs x d (two f (plain given) (plain (sum d f others))) (plain (build d f (given ∷ others))) (put_equal o os e given given_fits given_kind) i) where
        back : Occurs x (two f (plain given) (plain (sum d f others))) → Occurs x (plain given) ⊎ Occurs x (plain whole)
        back (inl j) = inl j
        back (inr (inl j)) = inr (BEqual-occurs x d (plain whole) (two f (plain at) (plain (sum d f others))) (BEqual-sym d (whole_equal o os e)) (inr (inl j)))
        back (inr (inr j)) = absurd j

    -- the operator takes the form and the others, where there are some
    pub put_takes : 1 ≤ length others → Takes d f (given ∷ others)
    put_takes n = record { rank = rank.0; listed = rank.1.0; args = takes_all (axioms d f) assoc (given ∷ others) (omega (arith, n)) (given_kind, kinds.1) }

  module _ (equations : Equations) (rewriting : RewritingLaws d equations) (u : Substitution) (sorted : IsWellSorted d u) (given : FlatTerm) (given_fits : Fits d given) (given_kind : HasKind d (plain given) k)
      (step : Rewrites d equations (apply u (plain at)) (apply u (plain given))) where
    -- a step of the part is one of the whole
    pub whole_steps : Rewrites d equations (apply u (plain whole)) (apply u (plain (build d f (given ∷ others))))
    whole_steps = go others refl where
      alone : others ≡ [] → Rewrites d equations (apply u (plain whole)) (apply u (plain (build d f (given ∷ others))))
      alone e =
          let same = whole_alone e in
          let put = put_alone given given_fits.flat e in
          subst (λ t. Rewrites d equations (apply u (plain t)) (apply u (plain (build d f (given ∷ others))))) (sym same)
          (subst (λ t. Rewrites d equations (apply u (plain at)) (apply u (plain t))) (sym put) step)

      beside : (o : FlatTerm) (os : List FlatTerm) → others ≡ o ∷ os → Rewrites d equations (apply u (plain whole)) (apply u (plain (build d f (given ∷ others))))
      beside o os e =
          let r = sum d f others in
          rewriting.modulo (two f (apply u (plain at)) (apply u (plain r))) (apply u (plain whole)) (two f (apply u (plain given)) (apply u (plain r))) (apply u (plain (build d f (given ∷ others))))
          (BEqual-apply d u sorted.0 (whole_equal o os e))
          (rewriting.inside (two f (apply u (plain at)) (apply u (plain r))) (two f (apply u (plain given)) (apply u (plain r))) (inside (first (here step))))
          (BEqual-apply d u sorted.0 (put_equal o os e given given_fits given_kind))

      go : (l : List FlatTerm) → others ≡ l → Rewrites d equations (apply u (plain whole)) (apply u (plain (build d f (given ∷ others))))
      go [] e = alone e
      go (o ∷ os) e = beside o os e
