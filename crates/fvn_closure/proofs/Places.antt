-- Steps at a place of a form, and of two or more summands of a sum.
use Rattle.std.proofs.Common.{◌≡◌, ◌+◌, Bool, true, false, List, [], ◌∷◌, length, Some, None, inl, refl, sym, ap, ◌∙◌, subst, arith}
use Rattle.std.specs.List.{AllByRecursion}
use Rattle.fvn_terms.specs.declared.plain.OpId.{OpId}
use Rattle.fvn_terms.specs.declared.plain.SortId.{SortId}
use Rattle.fvn_terms.specs.declared.declarations.Declarations.{Declarations}
use Rattle.fvn_terms.specs.Term.{Term, Terms, none, more}
use Rattle.fvn_terms.specs.Substitution.{Substitution, apply}
use Rattle.fvn_terms.specs.Signature.{axioms, HasKind}
use Rattle.fvn_terms.specs.Places.{AtOnePlace, AmongOnePlace, here, inside, first, later, stop, step}
use Rattle.fvn_terms.specs.Equality.{two, IsAssociative, BEqual, swap, shift}
use Rattle.fvn_terms.specs.Sorts.{IsWellSorted}
use Rattle.fvn_terms.specs.Theory.{Equations}
use Rattle.fvn_terms.specs.Rewriting.{Rewrites}
use Rattle.fvn_terms.specs.Laws.{RewritingLaws}
use Rattle.fvn_terms.proofs.AxiomWords.{associative_commutes}
use Rattle.fvn_terms.proofs.Steps.{AtOnePlace-apply, each_none, each_more, Leads_inside}
use Rattle.fvn_terms.proofs.Equal.{BEqual-apply, BEqual-sym, BEqual-trans}
use Rattle.fvn_forms.specs.Flat.{FlatTerm, FlatTerms, fvar, fapp, fpack, funpack, nest, nest_all, over, plain, plain_all}
use Rattle.fvn_forms.specs.Canon.{all_parts, sum, build, eval_all, canon}
use Rattle.fvn_forms.specs.Settled.{Settled}
use Rattle.fvn_forms.specs.Good.{IsGood}
use Rattle.fvn_forms.proofs.Sums.{fpack-funpack, funpack-fpack, SettledAll-funpack, SettledAll-fpack}
use Rattle.fvn_forms.proofs.Build.{build_sum}
use Rattle.fvn_forms.proofs.Eval.{fvar_settled, eval_nest, canon_plain, canon_plain_all}
use Rattle.fvn_forms.proofs.KindsKept.{b_equal_keeps_kind, both_of_kind, sum_of_kind}
use Rattle.fvn_forms.proofs.ToCanon.{to_canon}
use Rattle.fvn_flat.specs.Fits.{Fits, AllFit}
use Rattle.fvn_flat.specs.FlatPlaces.{IsReplaced, IsReplacedAmong, here as here_form, inside as inside_form, first as first_form, later as later_form}
use Rattle.fvn_flat.specs.FlatPlaces.{IsDivided, divided, taking, leaving, Beside, IsPartOfSum, IsPartOf, with_beside}
use Rattle.fvn_flat.proofs.Fitting.{args_fit}

-- one place of a nested sum
module _ {R : Term → Term → Type 0} (f : OpId) where
  pub nest_first : {t u : Term} → AtOnePlace R t u → (ts : Terms) → AtOnePlace R (nest f t ts) (nest f u ts)
  nest_first p none = p
  nest_first p (more v vs) = inside (first p)

  nest_later : (t : Term) (ts us : Terms) → AmongOnePlace R ts us → AtOnePlace R (nest f t ts) (nest f t us)
  nest_later t _ _ (first {ts} p) = inside (later (first (nest_first p ts)))
  nest_later t _ _ (later {t = v} {ts} {us} p) = inside (later (first (nest_later v ts us p)))

  place_over : (joined : Bool) (ts us : Terms) → AmongOnePlace R ts us → AtOnePlace R (over f joined ts) (over f joined us)
  place_over false ts us p = inside p
  place_over true _ _ (first {ts} p) = nest_first p ts
  place_over true _ _ (later {t} {ts} {us} p) = nest_later t ts us p

-- a place of a form is one of its plain term
module _ {R : Term → Term → Type 0} (at given : FlatTerm) (r : R (plain at) (plain given)) where
  mutual
    plain_place : {t u : FlatTerm} → IsReplaced at given t u → AtOnePlace R (plain t) (plain u)
    plain_place here_form = here r
    plain_place (inside_form {f} {joined} {ts} {us} p) = place_over f joined (plain_all ts) (plain_all us) (plain_among p)

    plain_among : {ts us : FlatTerms} → IsReplacedAmong at given ts us → AmongOnePlace R (plain_all ts) (plain_all us)
    plain_among (first_form p) = first (plain_place p)
    plain_among (later_form p) = later (plain_among p)

-- what stands at a place of a form that fits, fits
module _ (d : Declarations) (good : IsGood d) (at given : FlatTerm) where
  mutual
    pub place_fits : {t u : FlatTerm} → IsReplaced at given t u → Fits d t → Fits d at
    place_fits here_form h = h
    place_fits (inside_form {f} {joined} {ts} p) h = among_fits p (args_fit (fapp f joined ts) d good.fits h)

    among_fits : {ts us : FlatTerms} → IsReplacedAmong at given ts us → AllFit d (funpack ts) → Fits d at
    among_fits (first_form p) h = place_fits p h.0
    among_fits (later_form p) h = among_fits p h.1

-- the others of a divided list
divided_length : {all taken others : List FlatTerm} → IsDivided all taken others → length all ≡ length taken + length others
divided_length divided = refl
divided_length (taking {t} h) = let e = divided_length h in omega (arith, e)
divided_length (leaving {t} h) = let e = divided_length h in omega (arith, e)

divided_others : (P : FlatTerm → Type 0) {all taken others : List FlatTerm} → IsDivided all taken others → AllByRecursion P all → AllByRecursion P others
divided_others P divided h = h
divided_others P (taking r) h = divided_others P r h.1
divided_others P (leaving r) h = (h.0, divided_others P r h.1)

-- the nested sum of a list of forms
abbrev nested : OpId → List FlatTerm → Term
nested f l = nest_all f (plain_all (fpack l))

-- the sum of the taken ones, and then the others
abbrev taken_first : OpId → List FlatTerm → List FlatTerm → Term
taken_first f [] others = nested f others
taken_first f (t ∷ ts) others = nest f (nested f (t ∷ ts)) (plain_all (fpack others))

module _ (d : Declarations) (f : OpId) (assoc : IsAssociative (axioms d f)) where
  beside_equal : (t : Term) {u v : Term} → BEqual d u v → BEqual d (two f t u) (two f t v)
  beside_equal t e = Leads_inside f (each_more stop (each_more e each_none))

  before_equal : (t : Term) {u v : Term} → BEqual d u v → BEqual d (two f u t) (two f v t)
  before_equal t e = Leads_inside f (each_more e (each_more stop each_none))

  swapped : (t u : Term) → BEqual d (two f t u) (two f u t)
  swapped t u = step (here (inl (swap (associative_commutes (axioms d f) assoc)))) stop

  shifted : (t u v : Term) → BEqual d (two f (two f t u) v) (two f t (two f u v))
  shifted t u v = step (here (inl (shift assoc))) stop

  shifted_back : (t u v : Term) → BEqual d (two f t (two f u v)) (two f (two f t u) v)
  shifted_back t u v = BEqual-sym d (shifted t u v)

  taking_one : (t : FlatTerm) (all taken others : List FlatTerm) → length all ≡ length taken + length others →
      BEqual d (nested f all) (taken_first f taken others) → BEqual d (nested f (t ∷ all)) (taken_first f (t ∷ taken) others)
  taking_one t [] [] [] l e = stop
  taking_one t [] [] (o ∷ os) l e = absurd (omega (arith, l))
  taking_one t [] (u ∷ us) others l e = absurd (omega (arith, l))
  taking_one t (a ∷ later_ones) [] [] l e = absurd (omega (arith, l))
  taking_one t (a ∷ later_ones) [] (o ∷ os) l e = beside_equal (plain t) e
  taking_one t (a ∷ later_ones) (u ∷ us) [] l e = beside_equal (plain t) e
  taking_one t (a ∷ later_ones) (u ∷ us) (o ∷ os) l e = BEqual-trans d (beside_equal (plain t) e) (shifted_back (plain t) (nested f (u ∷ us)) (nested f (o ∷ os)))

  leaving_one : (t : FlatTerm) (all taken others : List FlatTerm) → length all ≡ length taken + length others →
      BEqual d (nested f all) (taken_first f taken others) → BEqual d (nested f (t ∷ all)) (taken_first f taken (t ∷ others))
  leaving_one t [] [] [] l e = stop
  leaving_one t [] [] (o ∷ os) l e = absurd (omega (arith, l))
  leaving_one t [] (u ∷ us) others l e = absurd (omega (arith, l))
  leaving_one t (a ∷ later_ones) [] [] l e = absurd (omega (arith, l))
  leaving_one t (a ∷ later_ones) [] (o ∷ os) l e = beside_equal (plain t) e
  leaving_one t (a ∷ later_ones) (u ∷ us) [] l e = BEqual-trans d (beside_equal (plain t) e) (swapped (plain t) (nested f (u ∷ us)))
  leaving_one t (a ∷ later_ones) (u ∷ us) (o ∷ os) l e =
      let x = nested f (u ∷ us) in
      let y = nested f (o ∷ os) in
      BEqual-trans d (beside_equal (plain t) e)
      (BEqual-trans d (shifted_back (plain t) x y) (BEqual-trans d (before_equal y (swapped (plain t) x)) (shifted x (plain t) y)))

  -- a sum is equal to that of the taken ones beside the others
  taken_equal : {all taken others : List FlatTerm} → IsDivided all taken others → BEqual d (nested f all) (taken_first f taken others)
  taken_equal divided = stop
  taken_equal (taking {t} {all} {taken} {others} h) = taking_one t all taken others (divided_length h) (taken_equal h)
  taken_equal (leaving {t} {all} {taken} {others} h) = leaving_one t all taken others (divided_length h) (taken_equal h)

  -- another first summand of the same kinds
  first_of_kind : IsGood d → (t u : Term) (rest : Terms) (k : SortId) → ((q : SortId) → HasKind d t q → HasKind d u q) → HasKind d (nest f t rest) k → HasKind d (nest f u rest) k
  first_of_kind good t u none k keeps h = keeps k h
  first_of_kind good t u (more v vs) k keeps h =
      let w = both_of_kind d good.fits f assoc t (nest f v vs) k h in
      sum_of_kind d good.fits f assoc t (nest f v vs) u (nest f v vs) k h (keeps k w.0) w.1

  -- the flat sum of a form beside others
  nest_is_build : (new : FlatTerm) (others : List FlatTerm) → Settled d new → AllByRecursion (Settled d) others →
      canon d (nest f (plain new) (plain_all (fpack others))) ≡ build d f (new ∷ others)
  nest_is_build new others h rest =
      eval_nest d fvar (fvar_settled d) f assoc (plain new) (plain_all (fpack others))
      ∙ ap (λ l. sum d f (all_parts d f l)) same
      ∙ sym (build_sum d f assoc new others)
    where
      same : canon d (plain new) ∷ eval_all d fvar (plain_all (fpack others)) ≡ new ∷ others
      same = ap (λ t. t ∷ eval_all d fvar (plain_all (fpack others))) (canon_plain d new h)
          ∙ ap (λ l. new ∷ l) (canon_plain_all d (fpack others) (SettledAll-fpack d others rest) ∙ funpack-fpack others)

module _ (d : Declarations) (good : IsGood d) (equations : Equations) (laws : RewritingLaws d equations) (s : Substitution) (sorted : IsWellSorted d s) where
  abbrev StepUnder : Term → Term → Type 0
  StepUnder t u = Rewrites d equations (apply s t) (apply s u)

  at_place : {t u : Term} → AtOnePlace StepUnder t u → StepUnder t u
  at_place {t} {u} p = laws.inside (apply s t) (apply s u) (AtOnePlace-apply {R = StepUnder} {Q = Rewrites d equations} s (λ a b r. r) p)

  -- a step of the instance of what stands at a place is one of the whole instance
  pub placed_step : (at given t u : FlatTerm) → IsReplaced at given t u → StepUnder (plain at) (plain given) → StepUnder (plain t) (plain u)
  placed_step at given t u p r = at_place (plain_place {R = StepUnder} at given r p)

  -- a step of the instance of a part is one of the instance of the form, with what stands beside
  module _ (part new : FlatTerm) (settled : Settled d new) (keeps : (q : SortId) → HasKind d (plain part) q → HasKind d (plain new) q) (step_of : StepUnder (plain part) (plain new)) where
    part_of_sum : (f : OpId) (others : List FlatTerm) (whole : FlatTerm) → Fits d whole → IsPartOfSum f others whole part → StepUnder (plain whole) (plain (build d f (new ∷ others)))
    part_of_sum f others whole h p = go (funpack p.taken) refl where
      is_joined : Settled d (fapp f true p.all)
      is_joined = subst (Settled d) p.is_sum h.flat

      assoc : IsAssociative (axioms d f)
      assoc = is_joined.0.associative

      others_settled : AllByRecursion (Settled d) others
      others_settled = divided_others (Settled d) p.divided_into (SettledAll-funpack d p.all is_joined.1)

      go : (taken : List FlatTerm) → funpack p.taken ≡ taken → StepUnder (plain whole) (plain (build d f (new ∷ others)))
      go [] e = absurd (let l = p.several in let n = ap length e in omega (arith, l, n))
      go (t ∷ ts) e =
          let part_is : nested f (t ∷ ts) ≡ plain part = ap (nested f) (sym e) ∙ ap (λ (us : FlatTerms). nest_all f (plain_all us)) (fpack-funpack p.taken) ∙ ap plain (sym p.part_is) in
          let whole_is : nested f (funpack p.all) ≡ plain whole = ap (λ (us : FlatTerms). nest_all f (plain_all us)) (fpack-funpack p.all) ∙ ap plain (sym p.is_sum) in
          let into : BEqual d (nested f (funpack p.all)) (nest f (nested f (t ∷ ts)) (plain_all (fpack others))) = subst (λ l. BEqual d (nested f (funpack p.all)) (taken_first f l others)) e (taken_equal d f assoc p.divided_into) in
          let before : BEqual d (plain whole) (nest f (plain part) (plain_all (fpack others))) = subst (λ (u : Term). BEqual d (plain whole) (nest f u (plain_all (fpack others)))) part_is (subst (λ u. BEqual d u (nest f (nested f (t ∷ ts)) (plain_all (fpack others)))) whole_is into) in
          let k = h.kinded.0 in
          let new_kind = first_of_kind d f assoc good (plain part) (plain new) (plain_all (fpack others)) k keeps (b_equal_keeps_kind d good.fits before k h.kinded.1) in
          let after : BEqual d (nest f (plain new) (plain_all (fpack others))) (plain (build d f (new ∷ others))) = subst (λ c. BEqual d (nest f (plain new) (plain_all (fpack others))) (plain c)) (nest_is_build d f assoc new others settled others_settled) (to_canon d good.fits (nest f (plain new) (plain_all (fpack others))) k new_kind) in
          let inner : StepUnder (nest f (plain part) (plain_all (fpack others))) (nest f (plain new) (plain_all (fpack others))) = at_place (nest_first {R = StepUnder} f (here step_of) (plain_all (fpack others))) in
          laws.modulo (apply s (nest f (plain part) (plain_all (fpack others)))) (apply s (plain whole)) (apply s (nest f (plain new) (plain_all (fpack others)))) (apply s (plain (build d f (new ∷ others))))
          (BEqual-sym d (BEqual-apply d s sorted.0 before))
          inner
          (BEqual-apply d s sorted.0 after)

    pub part_step : (whole : FlatTerm) (beside : Beside) → Fits d whole → IsPartOf whole part beside → StepUnder (plain whole) (plain (with_beside d beside new))
    part_step whole None h p = subst (λ w. StepUnder (plain w) (plain new)) (sym p) step_of
    part_step whole (Some sum) h p = part_of_sum sum.0 sum.1 whole h p
