-- A value that is a sum is parted into one summand and the rest; so an instance of a needed rule has one of its summands.
use Rattle.std.proofs.Common.{◌≡◌, ◌+◌, ◌≤◌, true, false, Bool, List, [], ◌∷◌, ◌++◌, map, None, Some, refl, sym, ap, ◌∙◌, subst, inl, inr, arith}
use Rattle.std.specs.Prelude.{if◌then◌else◌}
use Rattle.std.specs.List.{AllByRecursion, Contains}
use Rattle.std.proofs.lemmas.List.{append-nil}
use Rattle.fvn_terms.specs.declared.plain.Var.{Var}
use Rattle.fvn_terms.specs.declared.plain.OpId.{OpId}
use Rattle.fvn_terms.specs.declared.plain.SortId.{SortId}
use Rattle.fvn_terms.specs.declared.declarations.Rank.{Rank}
use Rattle.fvn_terms.specs.declared.declarations.Declarations.{Declarations}
use Rattle.fvn_terms.specs.Term.{Term, Terms, var, app, none, more}
use Rattle.fvn_terms.specs.Substitution.{Substitution, apply, same_var, Occurs, OccursAmong}
use Rattle.fvn_terms.specs.Theory.{Equations}
use Rattle.fvn_terms.specs.Rewriting.{IsReducible}
use Rattle.fvn_terms.specs.Laws.{RewritingLaws}
use Rattle.fvn_terms.specs.Signature.{kind, declared, IsSort, axioms, AtOrBelow, HasKind}
use Rattle.fvn_terms.specs.Equality.{IsAssociative, identity}
use Rattle.fvn_terms.specs.Sorts.{HasSort, IsWellSorted}
use Rattle.fvn_terms.proofs.Variables.{same_var_is}
use Rattle.fvn_terms.proofs.Equal.{HasKind-apply}
use Rattle.fvn_forms.specs.Flat.{FlatTerm, fvar, fapp, fnone, fmore, fpack, plain}
use Rattle.fvn_forms.specs.Order.{same_flat}
use Rattle.fvn_forms.specs.InOrder.{one_if, sort, count}
use Rattle.fvn_forms.specs.Canon.{parts, all_parts, sum, build, eval, eval_all, canon, inst}
use Rattle.fvn_forms.specs.Settled.{IsPiece, Settled}
use Rattle.fvn_forms.specs.Good.{IsGood}
use Rattle.fvn_forms.specs.Ranks.{result}
use Rattle.fvn_forms.specs.LeastSort.{least_sort, KeepsKindsOfVariables}
use Rattle.fvn_forms.proofs.InOrder.{count_itself, count_sort}
use Rattle.fvn_forms.proofs.Sums.{parts_are_pieces, parts_are_settled, parts_sum, sum_same_counts, sum_parts}
use Rattle.fvn_forms.proofs.Build.{parts_none, sort_is_nil, sum_settled, build_sum, build_settled, count_parts_build}
use Rattle.fvn_forms.proofs.Eval.{canon_settled, canon_plain, eval_apply, eval_settled}
use Rattle.fvn_forms.proofs.Instances.{inst_build, inst-inst}
use Rattle.fvn_forms.proofs.KindsOfSums.{build_of_kind, nest_parts_of_kind, parts_of_kind, two_of_kind, sum_of_forms_of_kind}
use Rattle.fvn_forms.proofs.ToCanon.{canon_of_kind}
use Rattle.fvn_forms.proofs.LeastSort.{sort_of_build, least_sort_exact, least_sort_of_settled, inst_of_kind}
use Rattle.fvn_flat.specs.Bindings.{Bindings, form_or, value, BindingsFit}
use Rattle.fvn_flat.specs.Forms.{head_of, args_of}
use Rattle.fvn_flat.specs.Fits.{Fits, AllFit}
use Rattle.fvn_flat.proofs.Fitting.{args_fit}
use Rattle.fvn_places.proofs.ClashFacts.{instance_head}
use Rattle.fvn_lifting.specs.Pairs.{SummandsKeep, IsParted, IsMetBySome}
use Rattle.fvn_lifting.proofs.PairForms.{joined_form, instance_counts}
use Rattle.fvn_lifting.proofs.Singles.{with_value, value_there, value_elsewhere, with_value_sorted, summands, one_part, others_differ, of_the_kind, AreLowered}

-- two ways to stand for the variables that occur
mutual
  eval_agree : (d : Declarations) (s c : Var → FlatTerm) (t : Term) → ((x : Var) → Occurs x t → s x ≡ c x) → eval d s t ≡ eval d c t
  eval_agree d s c (var x) agree = agree x refl
  eval_agree d s c (app f ts) agree = ap (build d f) (eval_all_agree d s c ts agree)

  eval_all_agree : (d : Declarations) (s c : Var → FlatTerm) (ts : Terms) → ((x : Var) → OccursAmong x ts → s x ≡ c x) → eval_all d s ts ≡ eval_all d c ts
  eval_all_agree d s c none agree = refl
  eval_all_agree d s c (more t ts) agree = ap (λ u. u ∷ eval_all d s ts) (eval_agree d s c t (λ x o. agree x (inl o))) ∙ ap (λ us. eval d c t ∷ us) (eval_all_agree d s c ts (λ x o. agree x (inr o)))

not_nil : {A : Type 0} (a : A) (l : List A) → a ∷ l ≡ [] → ⊥
not_nil a l e = cc

-- a reducible term of the kind that has just these two summands
pub record IsReduciblePair (d : Declarations) (equations : Equations) (f : OpId) (k : SortId) : Type 0 where
  pub term : Term
  pub of_kind : HasKind d term k
  pub reducible : IsReducible d equations term
  pub a : FlatTerm
  pub b : FlatTerm
  pub counts : (q : FlatTerm) → count q (parts d f (canon d term)) ≡ count q (a ∷ b ∷ [])

-- a reducible sum of one summand of each of the two
pub record HasReduciblePair (d : Declarations) (equations : Equations) (f : OpId) (k : SortId) (first second : List FlatTerm) : Type 0 where
  pub pair : IsReduciblePair d equations f k
  pub had_first : 1 ≤ count pair.a first
  pub had_second : 1 ≤ count pair.b second

module _ (d : Declarations) (good : IsGood d) (f : OpId) (assoc : IsAssociative (axioms d f)) (no_identity : identity (axioms d f) ≡ None) where
  -- the two summands of a form that fits
  module _ (t first second : FlatTerm) (fits : Fits d t) (heads : head_of t ≡ Some f) (are_two : args_of t ≡ first ∷ second ∷ []) where
    pub two_fit : AllFit d (first ∷ second ∷ [])
    two_fit = subst (AllFit d) are_two (args_fit t d good.fits fits)

    pub joined_kinded : HasKind d (plain (fapp f true (fpack (first ∷ second ∷ [])))) fits.kinded.0
    joined_kinded = subst (λ w. HasKind d (plain w) fits.kinded.0) (joined_form d f assoc t first (second ∷ []) fits.flat heads are_two) fits.kinded.1

    pub two_kinded : AllByRecursion (λ w. HasKind d (plain w) fits.kinded.0) (first ∷ second ∷ [])
    two_kinded = nest_parts_of_kind d good.fits f assoc fits.kinded.0 first (fmore second fnone) joined_kinded

  module _ (r : Rank) (listed : Contains (declared d f).ranks r) (k : SortId) (gives : kind d r.result ≡ k) (y : FlatTerm) (flat : Settled d y) (kinded : HasKind d (plain y) k) (a b : FlatTerm) (l : List FlatTerm) (is : parts d f y ≡ a ∷ b ∷ l) where
    pieces : AllByRecursion (IsPiece d f) (a ∷ b ∷ l)
    pieces = subst (AllByRecursion (IsPiece d f)) is (parts_are_pieces d f y flat)

    pub settled : AllByRecursion (Settled d) (a ∷ b ∷ l)
    settled = subst (AllByRecursion (Settled d)) is (parts_are_settled d f y flat)

    pub of_kind : AllByRecursion (λ t. HasKind d (plain t) k) (a ∷ b ∷ l)
    of_kind = subst (AllByRecursion (λ t. HasKind d (plain t) k)) is (parts_of_kind d good.fits f assoc k y kinded)

    -- the sum of all but the first
    abbrev pub rest : FlatTerm
    rest = sum d f (b ∷ l)

    pub rest_settled : Settled d rest
    rest_settled = sum_settled d f assoc (b ∷ l) pieces.1 settled.1 (λ e. absurd (not_nil b l e))

    pub rest_kind : HasKind d (plain rest) k
    rest_kind = sum_of_forms_of_kind d good.fits f assoc k r listed gives b l of_kind.1

    rest_parts : parts d f rest ≡ sort (b ∷ l)
    rest_parts = parts_sum d f (b ∷ l) pieces.1

    -- the value is the sum of both
    pub whole_is : build d f (a ∷ rest ∷ []) ≡ y
    whole_is = build_sum d f assoc a (rest ∷ []) ∙ sum_same_counts d f (all_parts d f (a ∷ rest ∷ [])) (parts d f y) counts ∙ sum_parts d f y flat where
      counts : (q : FlatTerm) → count q (all_parts d f (a ∷ rest ∷ [])) ≡ count q (parts d f y)
      counts q =
          ap (λ m. count q (m ++ (parts d f rest ++ []))) pieces.0
          ∙ ap (λ m. count q (a ∷ m)) (append-nil (parts d f rest) ∙ rest_parts)
          ∙ ap (λ n. one_if (same_flat q a) + n) (count_sort q (b ∷ l))
          ∙ ap (count q) (sym is)

    own_keeps : KeepsKindsOfVariables d (λ x. x.sort)
    own_keeps x i = refl

    sort_is : least_sort d y ≡ result d f (least_sort d a ∷ least_sort d rest ∷ [])
    sort_is =
        ap (least_sort d) (sym whole_is)
        ∙ sort_of_build d good (λ x. x.sort) own_keeps f (a ∷ rest ∷ []) (settled.0, (rest_settled, tt)) ((λ e. not_nil a [] (sym pieces.0 ∙ e)), ((λ e. not_nil b l (sort_is_nil (b ∷ l) (sym rest_parts ∙ e))), tt)) k
        (two_of_kind d good.fits f assoc k r listed gives (plain a) (plain rest) of_kind.0 rest_kind)

    -- both have the sort that the value has
    pub both_below : (s : SortId) → SummandsKeep d f s → AtOrBelow d (least_sort d y) s → AtOrBelow d (least_sort d a) s × AtOrBelow d (least_sort d rest) s
    both_below s keep low =
        keep (least_sort d a) (least_sort d rest) (of_the_kind d good f assoc no_identity r listed k gives a settled.0 of_kind.0) (of_the_kind d good f assoc no_identity r listed k gives rest rest_settled rest_kind)
        (subst (λ q. AtOrBelow d q s) sort_is low)

  -- what is lowered to two summands has an instance of just these
  pub of_lowered : (equations : Equations) (left first second : FlatTerm) (fits : Fits d left) → head_of left ≡ Some f → args_of left ≡ first ∷ second ∷ [] →
      ((s : Substitution) → IsWellSorted d s → IsReducible d equations (apply s (plain left))) → (s : Substitution) → AreLowered d good f assoc no_identity first second s →
      HasReduciblePair d equations f fits.kinded.0 (summands d good f assoc no_identity s first) (summands d good f assoc no_identity s second)
  of_lowered equations left first second fits heads are_two steps s low = record {
    pair = record {
      term = apply low.by (plain left);
      of_kind = HasKind-apply d low.by low.sorted.0 (plain left) fits.kinded.0 fits.kinded.1;
      reducible = steps low.by low.sorted;
      a = low.a;
      b = low.b;
      counts = counts;
    };
    had_first = low.had_first;
    had_second = low.had_second;
  } where
    counts : (q : FlatTerm) → count q (parts d f (canon d (apply low.by (plain left)))) ≡ count q (low.a ∷ low.b ∷ [])
    counts q =
        instance_counts d f assoc low.by left first (second ∷ []) fits.flat heads are_two q
        ∙ ap (count q) (ap (λ m. m ++ (summands d good f assoc no_identity low.by second ++ [])) low.one_first ∙ ap (λ m. low.a ∷ (m ++ [])) low.one_second)

had_first_of : (a : FlatTerm) (l m : List FlatTerm) → m ≡ a ∷ l → 1 ≤ count a m
had_first_of a l m e = subst (λ n. 1 ≤ count a n) (sym e) (let c = count_itself a l in omega (arith, c))

module _ (d : Declarations) (good : IsGood d) (equations : Equations) (rewriting : RewritingLaws d equations) (f : OpId) (left : FlatTerm) (fits : Fits d left) (steps : (s : Substitution) → IsWellSorted d s → IsReducible d equations (apply s (plain left))) (m : IsMetBySome d equations f left) (s : Substitution) (sorted : IsWellSorted d s) where
  abbrev x : Var
  x = m.variable

  abbrev form : FlatTerm
  form = m.form

  abbrev k : SortId
  k = fits.kinded.0

  fit : AllFit d (fvar x ∷ form ∷ [])
  fit = two_fit d good f m.associative m.no_identity left (fvar x) form fits m.heads m.are_two

  joined : HasKind d (plain (fapp f true (fpack (fvar x ∷ form ∷ [])))) k
  joined = joined_kinded d good f m.associative m.no_identity left (fvar x) form fits m.heads m.are_two

  kinded : AllByRecursion (λ w. HasKind d (plain w) k) (fvar x ∷ form ∷ [])
  kinded = two_kinded d good f m.associative m.no_identity left (fvar x) form fits m.heads m.are_two

  -- what another operator heads is one summand
  abbrev a : FlatTerm
  a = canon d (apply s (plain form))

  alone : parts d f a ≡ a ∷ []
  alone = one_part d good f m.associative m.no_identity a m.alone.operator (instance_head d m.alone.operator m.alone.no_identity form fit.1.0.flat m.alone.heads s) (others_differ d good f m.associative m.no_identity m.alone.operator m.alone.is_other)

  abbrev y : FlatTerm
  y = canon d (s x)

  y_flat : Settled d y
  y_flat = canon_settled d (s x)

  -- the variable's kind is that of the sum
  known : HasKind d (s x) k
  known = subst (HasKind d (s x)) (kinded.0).1 (sorted.0 x (kinded.0).0)

  y_kind : HasKind d (plain y) k
  y_kind = canon_of_kind d good.fits (s x) k known

  y_low : AtOrBelow d (least_sort d y) x.sort
  y_low = (least_sort_exact d good (s x) (k, known) x.sort).0 (sorted.1 x)

  -- where the value is one summand, the instance of the form itself
  by_itself : (b : FlatTerm) → parts d f y ≡ b ∷ [] → HasReduciblePair d equations f k (parts d f y) (parts d f a)
  by_itself b e = record {
    pair = record { term = apply s (plain left); of_kind = HasKind-apply d s sorted.0 (plain left) k fits.kinded.1; reducible = steps s sorted; a = b; b = a; counts = counts };
    had_first = had_first_of b [] (parts d f y) e;
    had_second = had_first_of a [] (parts d f a) alone;
  } where
    counts : (q : FlatTerm) → count q (parts d f (canon d (apply s (plain left)))) ≡ count q (b ∷ a ∷ [])
    counts q =
        instance_counts d f m.associative s left (fvar x) (form ∷ []) fits.flat m.heads m.are_two q
        ∙ ap (count q) (ap (λ l. l ++ (parts d f a ++ [])) e ∙ ap (λ l. b ∷ (l ++ [])) alone)

  -- where it is a sum, that of one summand
  module _ (b c : FlatTerm) (l : List FlatTerm) (e : parts d f y ≡ b ∷ c ∷ l) where
    abbrev p : IsParted d equations f m.form m.variable
    p = m.parted

    abbrev others : FlatTerm
    others = rest d good f m.associative m.no_identity joined.rank joined.listed k joined.result y y_flat y_kind b c l e

    b_flat : Settled d b
    b_flat = (settled d good f m.associative m.no_identity joined.rank joined.listed k joined.result y y_flat y_kind b c l e).0

    b_kind : HasKind d (plain b) k
    b_kind = (of_kind d good f m.associative m.no_identity joined.rank joined.listed k joined.result y y_flat y_kind b c l e).0

    others_flat : Settled d others
    others_flat = rest_settled d good f m.associative m.no_identity joined.rank joined.listed k joined.result y y_flat y_kind b c l e

    others_kind : HasKind d (plain others) k
    others_kind = rest_kind d good f m.associative m.no_identity joined.rank joined.listed k joined.result y y_flat y_kind b c l e

    both_are : build d f (b ∷ others ∷ []) ≡ y
    both_are = whole_is d good f m.associative m.no_identity joined.rank joined.listed k joined.result y y_flat y_kind b c l e

    low : AtOrBelow d (least_sort d b) x.sort × AtOrBelow d (least_sort d others) x.sort
    low = both_below d good f m.associative m.no_identity joined.rank joined.listed k joined.result y y_flat y_kind b c l e x.sort m.keep y_low

    stands : (w : FlatTerm) → Settled d w → HasKind d (plain w) k → AtOrBelow d (least_sort d w) x.sort → HasSort d (plain w) x.sort
    stands w h j i = (least_sort_of_settled d good w h (k, j) x.sort).1 i

    -- the two new variables stand for the summand and the rest
    abbrev first_sent : Substitution
    first_sent = with_value s p.one (plain b)

    abbrev sent : Substitution
    sent = with_value first_sent p.rest (plain others)

    kind_is : k ≡ kind d x.sort
    kind_is = sym (kinded.0).1

    sent_sorted : IsWellSorted d sent
    sent_sorted =
        with_value_sorted d good first_sent p.rest (plain others)
        (with_value_sorted d good s p.one (plain b) sorted (subst (λ (q : SortId). HasKind d (plain b) (kind d q)) (sym p.one_sort) (subst (HasKind d (plain b)) kind_is b_kind)) (subst (HasSort d (plain b)) (sym p.one_sort) (stands b b_flat b_kind low.0)))
        (subst (λ (q : SortId). HasKind d (plain others) (kind d q)) (sym p.rest_sort) (subst (HasKind d (plain others)) kind_is others_kind)) (subst (HasSort d (plain others)) (sym p.rest_sort) (stands others others_flat others_kind low.1))

    sent_rest : sent p.rest ≡ plain others
    sent_rest = value_there first_sent p.rest (plain others)

    sent_one : sent p.one ≡ plain b
    sent_one = value_elsewhere first_sent p.rest (plain others) p.one p.differ ∙ value_there s p.one (plain b)

    sent_elsewhere : (z : Var) → Occurs z (plain form) → sent z ≡ s z
    sent_elsewhere z o =
        value_elsewhere first_sent p.rest (plain others) z (λ q. p.rest_new (subst (λ (w : Var). Occurs w (plain form)) q o))
        ∙ value_elsewhere s p.one (plain b) z (λ q. p.one_new (subst (λ (w : Var). Occurs w (plain form)) q o))

    abbrev v : Var → FlatTerm
    v z = canon d (sent z)

    v_settled : (z : Var) → Settled d (v z)
    v_settled z = canon_settled d (sent z)

    v_one : v p.one ≡ b
    v_one = ap (canon d) sent_one ∙ canon_plain d b b_flat

    v_rest : v p.rest ≡ others
    v_rest = ap (canon d) sent_rest ∙ canon_plain d others others_flat

    abbrev both : FlatTerm
    both = build d f (fvar p.one ∷ fvar p.rest ∷ [])

    abbrev spread : Bindings
    spread = (x, both) ∷ []

    both_settled : Settled d both
    both_settled = build_settled d f (fvar p.one ∷ fvar p.rest ∷ []) (tt, (tt, tt))

    -- both make the variable's value
    both_value : inst d v both ≡ y
    both_value = inst_build d v v_settled f (fvar p.one ∷ fvar p.rest ∷ []) (tt, (tt, tt)) ∙ ap (λ w. build d f (w ∷ v p.rest ∷ [])) v_one ∙ ap (λ w. build d f (b ∷ w ∷ [])) v_rest ∙ both_are

    spread_settled : (z : Var) → Settled d (value spread z)
    spread_settled z = go (same_var x z) where
      go : (t : Bool) → Settled d (form_or z (if t then Some both else None))
      go true = both_settled
      go false = tt

    agree : (z : Var) → Occurs z (plain form) → inst d v (value spread z) ≡ canon d (s z)
    agree z o = go (same_var x z) refl where
      go : (t : Bool) → same_var x z ≡ t → inst d v (form_or z (if t then Some both else None)) ≡ canon d (s z)
      go true q = both_value ∙ ap (λ (w : Var). canon d (s w)) (same_var_is x z q)
      go false q = ap (canon d) (sent_elsewhere z o)

    -- so the form with both in the variable's place has the instance that it had
    abbrev opened : FlatTerm
    opened = inst d (value spread) form

    opened_settled : Settled d opened
    opened_settled = eval_settled d (value spread) spread_settled (plain form)

    opened_is : inst d v opened ≡ a
    opened_is =
        inst-inst d (value spread) v spread_settled v_settled form
        ∙ eval_agree d (λ z. inst d v (value spread z)) (λ z. canon d (s z)) (plain form) agree
        ∙ sym (eval_apply d fvar s (plain form))

    abbrev whole : FlatTerm
    whole = build d f (opened ∷ fvar p.one ∷ [])

    -- which is of the kind
    one_kind : HasKind d (var p.one) k
    one_kind = subst (λ (q : SortId). IsSort d q × (kind d q ≡ k)) (sym p.one_sort) kinded.0

    rest_is_kind : HasKind d (var p.rest) k
    rest_is_kind = subst (λ (q : SortId). IsSort d q × (kind d q ≡ k)) (sym p.rest_sort) kinded.0

    both_kind : HasKind d (plain both) k
    both_kind = build_of_kind d good.fits f (fvar p.one ∷ fvar p.rest ∷ []) (tt, (tt, tt)) k (two_of_kind d good.fits f m.associative k joined.rank joined.listed joined.result (var p.one) (var p.rest) one_kind rest_is_kind)

    spread_fits : BindingsFit d spread
    spread_fits = record { settled = spread_settled; keeps_kinds = λ z i. go z i (same_var x z) refl } where
      go : (z : Var) → IsSort d z.sort → (t : Bool) → same_var x z ≡ t → HasKind d (plain (form_or z (if t then Some both else None))) (kind d z.sort)
      go z i true q = subst (λ (w : Var). HasKind d (plain both) (kind d w.sort)) (same_var_is x z q) (subst (HasKind d (plain both)) kind_is both_kind)
      go z i false q = (i, refl)

    whole_kind : HasKind d (plain whole) k
    whole_kind =
        build_of_kind d good.fits f (opened ∷ fvar p.one ∷ []) (opened_settled, (tt, tt)) k
        (two_of_kind d good.fits f m.associative k joined.rank joined.listed joined.result (plain opened) (var p.one) (inst_of_kind d good (value spread) spread_fits form k kinded.1.0) one_kind)

    term_is : canon d (apply sent (plain whole)) ≡ build d f (a ∷ b ∷ [])
    term_is =
        eval_apply d fvar sent (plain whole)
        ∙ inst_build d v v_settled f (opened ∷ fvar p.one ∷ []) (opened_settled, (tt, tt))
        ∙ ap (λ w. build d f (w ∷ v p.one ∷ [])) opened_is
        ∙ ap (λ w. build d f (a ∷ w ∷ [])) v_one

    b_alone : parts d f b ≡ b ∷ []
    b_alone = (subst (AllByRecursion (IsPiece d f)) e (parts_are_pieces d f y y_flat)).0

    counts_there : (q : FlatTerm) → count q (parts d f (canon d (apply sent (plain whole)))) ≡ count q (b ∷ a ∷ [])
    counts_there q =
        ap (λ w. count q (parts d f w)) term_is
        ∙ count_parts_build d f m.associative q a b (canon_settled d (apply s (plain form))) b_flat
        ∙ ap (λ n. n + count q (parts d f b)) (ap (count q) alone)
        ∙ ap (λ n. count q (a ∷ []) + n) (ap (count q) b_alone)
        ∙ omega arith

    by_some : HasReduciblePair d equations f k (parts d f y) (parts d f a)
    by_some = record {
      pair = record {
        term = apply sent (plain whole);
        of_kind = HasKind-apply d sent sent_sorted.0 (plain whole) k whole_kind;
        reducible = (apply sent p.reducible.0, rewriting.instances sent sent_sorted (plain whole) p.reducible.0 p.reducible.1);
        a = b;
        b = a;
        counts = counts_there;
      };
      had_first = had_first_of b (c ∷ l) (parts d f y) e;
      had_second = had_first_of a [] (parts d f a) alone;
    }

  pub pair_for_both : HasReduciblePair d equations f k (parts d f (canon d (apply s (plain (fvar x))))) (parts d f (canon d (apply s (plain form))))
  pair_for_both = go (parts d f y) refl where
    go : (l : List FlatTerm) → parts d f y ≡ l → HasReduciblePair d equations f k (parts d f y) (parts d f a)
    go [] e = let n = parts_none d f y y_flat e in let q : Some n.0 ≡ None = sym n.1 ∙ m.no_identity in cc
    go (b ∷ []) e = by_itself b e
    go (b ∷ c ∷ l) e = by_some b c l e
