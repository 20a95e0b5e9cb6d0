-- Where an instance of a sum meets a rule that is met in pairs, that of one summand or of two is reducible.
use Rattle.std.proofs.Common.{◌≡◌, ◌⊎◌, ◌≤◌, true, List, [], ◌∷◌, ◌++◌, None, Some, refl, sym, ap, ◌∙◌, subst, inl, inr, arith}
use Rattle.std.specs.List.{AllByRecursion, Contains}
use Rattle.std.proofs.lemmas.List.{append-nil}
use Rattle.std.proofs.lemmas.List.Elements.{All-contains, All-from_recursion}
use Rattle.fvn_terms.specs.declared.plain.OpId.{OpId}
use Rattle.fvn_terms.specs.declared.plain.SortId.{SortId}
use Rattle.fvn_terms.specs.declared.declarations.Declarations.{Declarations}
use Rattle.fvn_terms.specs.Term.{Term, var}
use Rattle.fvn_terms.specs.Substitution.{Substitution, apply}
use Rattle.fvn_terms.specs.Signature.{axioms, HasKind, same}
use Rattle.fvn_terms.specs.Places.{stop}
use Rattle.fvn_terms.specs.Equality.{IsAssociative, identity, BEqual}
use Rattle.fvn_terms.specs.Sorts.{IsWellSorted}
use Rattle.fvn_terms.specs.Theory.{Equations}
use Rattle.fvn_terms.specs.Rewriting.{Rewrites, IsReducible}
use Rattle.fvn_terms.specs.Laws.{RewritingLaws}
use Rattle.fvn_rewrite_laws.specs.Laws.{KindedLaws}
use Rattle.fvn_terms.proofs.Substitutions.{apply-var}
use Rattle.fvn_terms.proofs.Equal.{HasKind-apply, BEqual-sym}
use Rattle.fvn_forms.specs.Flat.{FlatTerm, fapp, fnone, fmore, fpack, plain}
use Rattle.fvn_forms.specs.InOrder.{sort, count}
use Rattle.fvn_forms.specs.Canon.{parts, build, canon}
use Rattle.fvn_forms.specs.Settled.{Settled}
use Rattle.fvn_forms.specs.Good.{IsGood}
use Rattle.fvn_forms.proofs.InOrder.{count_sort, InOrder-sort}
use Rattle.fvn_forms.proofs.Sums.{funpack-fpack, sum_same_counts, sum-sort, sum_in_order, sum_parts}
use Rattle.fvn_forms.proofs.Eval.{canon_settled, canon_respects}
use Rattle.fvn_forms.proofs.KindsKept.{kind_unique}
use Rattle.fvn_forms.proofs.KindsOfSums.{nest_parts_of_kind}
use Rattle.fvn_forms.proofs.ToCanon.{to_canon, canon_of_kind}
use Rattle.fvn_flat.specs.Forms.{head_of, args_of}
use Rattle.fvn_flat.specs.Fits.{Fits, AllFit}
use Rattle.fvn_flat.specs.FlatPlaces.{IsDivided, IsPartOfSum}
use Rattle.fvn_flat.proofs.Fitting.{args_fit}
use Rattle.fvn_lifting.specs.Pairs.{IsReducibleInPart}
use Rattle.fvn_lifting.proofs.Parts.{divided_order, part_kind, part_settled, whole_steps}
use Rattle.fvn_lifting.proofs.Summands.{gathered, gathered_counts, HasBoth, each_in_one, HasBothInOne, HasBothInTwo, some_have}
use Rattle.fvn_lifting.proofs.Singles.{summands}
use Rattle.fvn_lifting.proofs.Parting.{IsReduciblePair}
use Rattle.fvn_lifting.proofs.PairForms.{divided_length, gathered_self, not_in_one, are_both, joined_form, instance_counts}

variables_sorted : (d : Declarations) → IsWellSorted d var
variables_sorted d = (λ x i. (i, refl), λ x. record { form = var x; equal = stop; gets = record { sort = x.sort; gets = refl; below = same } })

-- both stand where they are counted as often
both_where : (a b : FlatTerm) (l m : List FlatTerm) → ((q : FlatTerm) → count q l ≤ count q m) → HasBoth a b l → HasBoth a b m
both_where a b l m h k =
    let x = h a in
    let y = h b in
    let p = k.0 in
    let q = k.1 in
    (omega (arith, x, p), omega (arith, y, q))

-- what is listed fits
pub one_fits : (d : Declarations) (l : List FlatTerm) (t : FlatTerm) → AllFit d l → Contains l t → Fits d t
one_fits d l t h c = All-contains (Fits d) l t (All-from_recursion (Fits d) l h) c

-- a joined sum of these two, as a part of a joined sum
abbrev pub pair_part : (f : OpId) (l : List FlatTerm) (t u : FlatTerm) (others : List FlatTerm) (whole : FlatTerm) → whole ≡ fapp f true (fpack l) → IsDivided l (t ∷ u ∷ []) others →
    IsPartOfSum f others whole (fapp f true (fpack (t ∷ u ∷ [])))
pair_part f l t u others whole e p = record {
  all = fpack l;
  taken = fpack (t ∷ u ∷ []);
  is_sum = e;
  part_is = refl;
  several = omega arith;
  divided_into = subst (λ m. IsDivided m (t ∷ u ∷ []) others) (sym (funpack-fpack l)) p;
}

module _ (d : Declarations) (good : IsGood d) (equations : Equations) (rewriting : RewritingLaws d equations) (kinded : KindedLaws d equations) (f : OpId) (assoc : IsAssociative (axioms d f)) (no_identity : identity (axioms d f) ≡ None) (k : SortId) (low : IsReduciblePair d equations f k) where
  -- where a form has both summands, it is reducible
  module _ (w : FlatTerm) (fits : Fits d w) (has : HasBoth low.a low.b (parts d f w)) where
    abbrev l : List FlatTerm
    l = sort (parts d f w)

    in_pair : HasBothInTwo low.a low.b (λ t. t ∷ []) l
    in_pair = go (some_have low.a low.b (λ t. t ∷ []) l (subst (HasBoth low.a low.b) (sym (gathered_self l)) (both_where low.a low.b (parts d f w) l (λ q. let e = count_sort q (parts d f w) in omega arith) has))) where
      go : HasBothInOne low.a low.b (λ t. t ∷ []) l ⊎ HasBothInTwo low.a low.b (λ t. t ∷ []) l → HasBothInTwo low.a low.b (λ t. t ∷ []) l
      go (inl o) = absurd (not_in_one low.a low.b o.summand o.has)
      go (inr o) = o

    abbrev t : FlatTerm
    t = in_pair.first

    abbrev u : FlatTerm
    u = in_pair.second

    abbrev pair : FlatTerm
    pair = fapp f true (fpack (t ∷ u ∷ []))

    whole_is : w ≡ fapp f true (fpack l)
    whole_is =
        let n = divided_length in_pair.divided_into in
        sym (sum_parts d f w fits.flat) ∙ sym (sum-sort d f (parts d f w)) ∙ sum_in_order d f l (InOrder-sort (parts d f w)) (omega arith)

    part : IsPartOfSum f in_pair.others w pair
    part = pair_part f l t u in_pair.others w whole_is in_pair.divided_into

    -- the reducible term is the pair
    instance_is : canon d low.term ≡ pair
    instance_is =
        let w2 = canon d low.term in
        sym (sum_parts d f w2 (canon_settled d low.term))
        ∙ sum_same_counts d f (parts d f w2) (t ∷ u ∷ []) (λ q. low.counts q ∙ are_both low.a low.b t u in_pair.has q)
        ∙ sum_in_order d f (t ∷ u ∷ []) (divided_order in_pair.divided_into (InOrder-sort (parts d f w))) (omega arith)

    abbrev to : Term
    to = low.reducible.0

    abbrev given : FlatTerm
    given = canon d to

    to_kind : HasKind d to k
    to_kind = kinded.steps low.term to low.reducible.1 k low.of_kind

    given_kind : HasKind d (plain given) k
    given_kind = canon_of_kind d good.fits to k to_kind

    pair_steps : Rewrites d equations (plain pair) (plain given)
    pair_steps =
        rewriting.modulo low.term (plain pair) to (plain given)
        (subst (λ z. BEqual d low.term (plain z)) instance_is (to_canon d good.fits low.term k low.of_kind))
        low.reducible.1
        (to_canon d good.fits to k to_kind)

    same_kind : k ≡ fits.kinded.0
    same_kind =
        let one = subst (λ z. HasKind d (plain z) k) instance_is (canon_of_kind d good.fits low.term k low.of_kind) in
        kind_unique d good.fits (plain pair) k fits.kinded.0 one (part_kind d good f in_pair.others w pair part fits)

    form_steps : Rewrites d equations (plain w) (plain (build d f (given ∷ in_pair.others)))
    form_steps =
        subst (λ z. Rewrites d equations z (plain (build d f (given ∷ in_pair.others)))) (apply-var (plain w))
        (subst (Rewrites d equations (apply var (plain w))) (apply-var (plain (build d f (given ∷ in_pair.others))))
        (whole_steps d good f in_pair.others w pair part fits equations rewriting var (variables_sorted d) given record { flat = canon_settled d to; kinded = (k, given_kind) } (subst (HasKind d (plain given)) same_kind given_kind)
        (subst (λ z. Rewrites d equations z (apply var (plain given))) (sym (apply-var (plain pair))) (subst (Rewrites d equations (plain pair)) (sym (apply-var (plain given))) pair_steps))))

  -- so is a term whose flat form has them
  term_steps : (c : Substitution) → IsWellSorted d c → (w : FlatTerm) → Fits d w → HasBoth low.a low.b (parts d f (canon d (apply c (plain w)))) → IsReducible d equations (apply c (plain w))
  term_steps c sorted w fits has =
      let z = canon d (apply c (plain w)) in
      let q = HasKind-apply d c sorted.0 (plain w) fits.kinded.0 fits.kinded.1 in
      let of_kind = canon_of_kind d good.fits (apply c (plain w)) fits.kinded.0 q in
      let step = form_steps z record { flat = canon_settled d (apply c (plain w)); kinded = (fits.kinded.0, of_kind) } has in
      (_, rewriting.modulo (plain z) (apply c (plain w)) _ _ (BEqual-sym d (to_canon d good.fits (apply c (plain w)) fits.kinded.0 q)) step stop)

  module _ (c : Substitution) (sorted : IsWellSorted d c) (at a : FlatTerm) (rest : List FlatTerm) (fits : Fits d at) (heads : head_of at ≡ Some f) (args : args_of at ≡ a ∷ rest) where
    abbrev all : List FlatTerm
    all = a ∷ rest

    abbrev v : FlatTerm → List FlatTerm
    v = summands d good f assoc no_identity c

    all_fit : AllFit d all
    all_fit = subst (AllFit d) args (args_fit at d good.fits fits)

    sum_is : at ≡ fapp f true (fpack all)
    sum_is = joined_form d f assoc at a rest fits.flat heads args

    in_one : HasBothInOne low.a low.b v all → IsReducibleInPart d equations f at c
    in_one o =
        let there = one_fits d all o.summand all_fit o.listed in
        record { part = o.summand; is_part = inl (subst (λ m. Contains m o.summand) (sym args) o.listed); fits = there; reducible = term_steps c sorted o.summand there o.has }

    module _ (o : HasBothInTwo low.a low.b v all) where
      abbrev pair_of : FlatTerm
      pair_of = fapp f true (fpack (o.first ∷ o.second ∷ []))

      abbrev part_of : IsPartOfSum f o.others at pair_of
      part_of = pair_part f all o.first o.second o.others at sum_is o.divided_into

      pair_fits : Fits d pair_of
      pair_fits = record { flat = part_settled d good f o.others at pair_of part_of fits; kinded = (fits.kinded.0, part_kind d good f o.others at pair_of part_of fits) }

      pair_has : HasBoth low.a low.b (parts d f (canon d (apply c (plain pair_of))))
      pair_has = both_where low.a low.b (v o.first ++ v o.second) (parts d f (canon d (apply c (plain pair_of)))) counts o.has where
        counts : (q : FlatTerm) → count q (v o.first ++ v o.second) ≤ count q (parts d f (canon d (apply c (plain pair_of))))
        counts q =
            let e = instance_counts d f assoc c pair_of o.first (o.second ∷ []) pair_fits.flat refl refl q in
            let g = ap (λ m. count q (v o.first ++ m)) (append-nil (v o.second)) in
            omega arith

      in_two : IsReducibleInPart d equations f at c
      in_two = record {
        part = pair_of;
        is_part = inr record { others = o.others; part = part_of; are_two = refl };
        fits = pair_fits;
        reducible = term_steps c sorted pair_of pair_fits pair_has;
      }

    some_part : HasBoth low.a low.b (gathered v all) → IsReducibleInPart d equations f at c
    some_part h = go (some_have low.a low.b v all h) where
      go : HasBothInOne low.a low.b v all ⊎ HasBothInTwo low.a low.b v all → IsReducibleInPart d equations f at c
      go (inl o) = in_one o
      go (inr o) = in_two o

    -- where its instance is that of a form that has these two among its arguments
    pub steps_in_part : (first second : FlatTerm) (by : Substitution) → 1 ≤ count low.a (summands d good f assoc no_identity by first) → 1 ≤ count low.b (summands d good f assoc no_identity by second) →
        (outer : FlatTerm) → Settled d outer → head_of outer ≡ Some f → (others : List FlatTerm) → IsDivided (args_of outer) (first ∷ second ∷ []) others → BEqual d (apply c (plain at)) (apply by (plain outer)) → IsReducibleInPart d equations f at c
    steps_in_part first second by had_first had_second outer settled outer_heads others among meets = go (args_of outer) refl where
      there : FlatTerm → List FlatTerm
      there = summands d good f assoc no_identity by

      divided_so : (m : List FlatTerm) → args_of outer ≡ m → IsDivided m (first ∷ second ∷ []) others
      divided_so m e = subst (λ n. IsDivided n (first ∷ second ∷ []) others) e among

      go : (m : List FlatTerm) → args_of outer ≡ m → IsReducibleInPart d equations f at c
      go [] e = let n = divided_length (divided_so [] e) in absurd (omega (arith, n))
      go (b ∷ m) e = some_part (both_where low.a low.b (there first ++ there second) (gathered v all) counts (each_in_one low.a low.b (there first) (there second) had_first had_second)) where
        counts : (q : FlatTerm) → count q (there first ++ there second) ≤ count q (gathered v all)
        counts q =
            let x = instance_counts d f assoc c at a rest fits.flat heads args q in
            let y = ap (λ z. count q (parts d f z)) (canon_respects d meets) in
            let z = instance_counts d f assoc by outer b m settled outer_heads e q in
            let g = gathered_counts there q (divided_so (b ∷ m) e) in
            let i = ap (λ n. count q (there first ++ n)) (append-nil (there second)) in
            omega arith
