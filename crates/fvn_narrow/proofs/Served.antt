-- Where a rule serves in place of another, what meets the other meets it, with one value for two arguments.
use Rattle.std.proofs.Common.{◌≡◌, ◌≤◌, ◌+◌, ℕ, zero, suc, nat_eq, Bool, true, false, List, [], ◌∷◌, length, None, Some, refl, sym, ap, ◌∙◌, subst, inl, inr, arith}
use Rattle.std.specs.Prelude.{All, Contains}
use Rattle.std.proofs.lemmas.List.Elements.{All-head, All-tail, All-contains}
use Rattle.fvn_terms.specs.declared.plain.Var.{Var}
use Rattle.fvn_terms.specs.declared.plain.OpId.{OpId}
use Rattle.fvn_terms.specs.declared.plain.SortId.{SortId}
use Rattle.fvn_terms.specs.declared.declarations.Declarations.{Declarations}
use Rattle.fvn_terms.specs.Term.{Term, var}
use Rattle.fvn_terms.specs.Substitution.{Substitution, apply, Occurs, OccursAmong}
use Rattle.fvn_terms.specs.Signature.{kind, axioms, AtOrBelow, HasKind}
use Rattle.fvn_terms.specs.Places.{here, stop, step}
use Rattle.fvn_terms.specs.Equality.{two, IsAssociative, identity, BEqual, shift}
use Rattle.fvn_terms.specs.Sorts.{HasSort, IsWellSorted}
use Rattle.fvn_terms.proofs.Steps.{each_none, each_more}
use Rattle.fvn_terms.proofs.Equal.{HasKind-apply, BEqual-sym, BEqual-trans, BEqual-inside}
use Rattle.fvn_terms.proofs.WellSorted.{HasSort-apply}
use Rattle.fvn_forms.specs.Flat.{FlatTerm, fvar, fapp, fmore, fpack, nest, plain, plain_all}
use Rattle.fvn_forms.specs.Canon.{parts, build, canon}
use Rattle.fvn_forms.specs.Settled.{Settled}
use Rattle.fvn_forms.specs.Good.{IsOfKind, IsGood}
use Rattle.fvn_forms.specs.Ranks.{result}
use Rattle.fvn_forms.specs.LeastSort.{least_sort, KeepsKindsOfVariables}
use Rattle.fvn_forms.proofs.Build.{parts_none, build_right_identity}
use Rattle.fvn_forms.proofs.Eval.{canon_settled}
use Rattle.fvn_forms.proofs.KindsKept.{kind_unique, both_of_kind}
use Rattle.fvn_forms.proofs.KindsOfSums.{two_of_kind}
use Rattle.fvn_forms.proofs.ToCanon.{canon_of_kind}
use Rattle.fvn_forms.proofs.LeastSort.{sort_in-kind, sort_of_build, least_sort_exact, least_sort_of_settled}
use Rattle.fvn_flat.specs.Fits.{Fits}
use Rattle.fvn_flat.specs.Forms.{variable_of, head_of, args_of}
use Rattle.fvn_flat.specs.FlatPlaces.{Beside}
use Rattle.fvn_flat.specs.Successors.{Narrowed}
use Rattle.fvn_flat.proofs.Occurrences.{occurs_in_app}
use Rattle.fvn_cover.specs.declared.variant.Variant.{Variant}
use Rattle.fvn_rewrite_laws.specs.Laws.{RuleLaws}
use Rattle.fvn_rewrite_laws.proofs.Agreement.{equal_by_agreement}
use Rattle.fvn_rewrite.specs.Usable.{Rewriting, AreUsable, equations_by}
use Rattle.fvn_rewrite_rules.specs.declared.rule.Rule.{Rule}
use Rattle.fvn_exploring.specs.Setting.{Setting}
use Rattle.fvn_exploring.specs.Children.{narrowed}
use Rattle.fvn_lifting.specs.Meetings.{Meet}
use Rattle.fvn_lifting.specs.Lifted.{LiftsAt}
use Rattle.fvn_lifting.proofs.Chosen.{chosen, chosen_if, chosen_unless, occurs_or_not, StandsFor, stands_at, sorted_each, chosen_stands}
use Rattle.fvn_lifting.proofs.PairForms.{joined_form}
use Rattle.fvn_narrow.specs.Settings.{narrowing_setting}
use Rattle.fvn_narrow.specs.inner.Serving.{AreBehindTwo, StandsInNone, HasTwoFor, HasLowIdentity, ServesAt}
use Rattle.fvn_narrow.specs.inner.Turns.{Try, IsReady, IsTurnAt, IsMeetingAt, turn_of, try_of, IsTryOf, TryLifts, TryLiftsUnless, TryLiftsAmong, ForEach}
use Rattle.fvn_narrow.proofs.Turning.{IsFitTurn}
use Rattle.fvn_narrow.proofs.Fit.{left_side_fits, meeting_of}
use Rattle.fvn_narrow.proofs.Posed.{fit_here}
use Rattle.fvn_narrow.proofs.Parted.{as_variable}

-- some forms are a first one and others
some_forms : (l : List FlatTerm) → nat_eq (length l) 0 ≡ false → (t : FlatTerm) × (m : List FlatTerm) × (l ≡ t ∷ m)
some_forms [] e = cc
some_forms (t ∷ m) e = (t, m, refl)

-- what was tested of two forms
pub two_for : (left other first : FlatTerm) (others last : List FlatTerm) (x : Var) → args_of left ≡ first ∷ others → AreBehindTwo last (args_of other) → variable_of first ≡ Some x → nat_eq (length others) 0 ≡ false → last ≡ others → StandsInNone x others → HasTwoFor left other x
two_for left other first others last x has_one two is some same outside =
    let w = some_forms others some in record {
      last = w.0;
      more = w.1;
      one = two.0;
      rest = two.1;
      has_one = has_one ∙ ap (λ t. t ∷ others) (as_variable first x is) ∙ ap (λ l. fvar x ∷ l) w.2;
      has_two = two.2 ∙ ap (λ l. two.0 ∷ two.1 ∷ l) (same ∙ w.2);
      outside = subst (StandsInNone x) w.2 outside;
    }

-- a variable that stands in none of the forms stands in no sum of them
none_among : (x : Var) (l : List FlatTerm) → StandsInNone x l → OccursAmong x (plain_all (fpack l)) → ⊥
none_among x [] h o = absurd o
none_among x (t ∷ l) h (inl o) = All-head (λ (w : FlatTerm). Occurs x (plain w) → ⊥) t l h o
none_among x (t ∷ l) h (inr o) = none_among x l (All-tail (λ (w : FlatTerm). Occurs x (plain w) → ⊥) t l h) o

-- the left side that serves has one argument less
one_less : (d : Declarations) (at left other : FlatTerm) → ServesAt d at left other → length (args_of left) + 1 ≡ length (args_of other)
one_less d at left other h = let p = ap length h.parts.has_one in let q = ap length h.parts.has_two in omega (arith, p, q)

not_nil : {A : Type 0} (a : A) (l : List A) → a ∷ l ≡ [] → ⊥
not_nil a l e = cc

one_identity : (e o : OpId) → Some e ≡ Some o → e ≡ o
one_identity e o is = cc

module _ (d : Declarations) (good : IsGood d) (at left other : FlatTerm) (at_fits : Fits d at) (fits : Fits d left) (other_fits : Fits d other) (h : ServesAt d at left other) (s c : Substitution) (meet : Meet d (plain at) (plain other) s c) where
  abbrev f : OpId
  f = h.operator

  abbrev x : Var
  x = h.variable

  -- the sum of what both have
  abbrev last : Term
  last = nest f (plain h.parts.last) (plain_all (fpack h.parts.more))

  assoc : IsAssociative (axioms d f)
  assoc = h.sort.associative

  left_is : left ≡ fapp f true (fpack (fvar x ∷ h.parts.last ∷ h.parts.more))
  left_is = joined_form d f assoc left (fvar x) (h.parts.last ∷ h.parts.more) fits.flat h.heads h.parts.has_one

  other_is : other ≡ fapp f true (fpack (h.parts.one ∷ h.parts.rest ∷ h.parts.last ∷ h.parts.more))
  other_is = joined_form d f assoc other h.parts.one (h.parts.rest ∷ h.parts.last ∷ h.parts.more) other_fits.flat h.other_heads h.parts.has_two

  -- all arguments are of the kind of f
  abbrev k : SortId
  k = other_fits.kinded.0

  joined : HasKind d (two f (plain h.parts.one) (two f (plain h.parts.rest) last)) k
  joined = subst (λ w. HasKind d (plain w) k) other_is other_fits.kinded.1

  first_kinded : HasKind d (plain h.parts.one) k × HasKind d (two f (plain h.parts.rest) last) k
  first_kinded = both_of_kind d good.fits f assoc (plain h.parts.one) (two f (plain h.parts.rest) last) k joined

  kinded : HasKind d (plain h.parts.rest) k × HasKind d last k
  kinded = both_of_kind d good.fits f assoc (plain h.parts.rest) last k first_kinded.1

  left_kinded : HasKind d (var x) fits.kinded.0 × HasKind d last fits.kinded.0
  left_kinded = both_of_kind d good.fits f assoc (var x) last fits.kinded.0 (subst (λ w. HasKind d (plain w) fits.kinded.0) left_is fits.kinded.1)

  last_kind : HasKind d last k
  last_kind = kinded.1

  kind_is : k ≡ kind d x.sort
  kind_is = let variable = left_kinded.0 in kind_unique d good.fits last k fits.kinded.0 last_kind left_kinded.1 ∙ sym variable.1

  -- the sum of what two of them take
  abbrev a : Term
  a = apply c (plain h.parts.one)

  abbrev b : Term
  b = apply c (plain h.parts.rest)

  abbrev e : Term
  e = apply c last

  abbrev both : Term
  both = two f a b

  of_two : (t u : Term) → HasKind d t k → HasKind d u k → HasKind d (two f t u) k
  of_two = two_of_kind d good.fits f assoc k joined.rank joined.listed joined.result

  under : (t : Term) → HasKind d t k → HasKind d (apply c t) k
  under t i = HasKind-apply d c meet.right.0 t k i

  both_kind : HasKind d both k
  both_kind = of_two a b (under (plain h.parts.one) first_kinded.0) (under (plain h.parts.rest) kinded.0)

  e_kind : HasKind d e k
  e_kind = under last last_kind

  whole_kind : HasKind d (two f both e) k
  whole_kind = of_two both e both_kind e_kind

  -- beside what the last takes, the sum is the form's instance
  equal : BEqual d (apply s (plain at)) (two f both e)
  equal = BEqual-trans d (subst (λ w. BEqual d (apply s (plain at)) (apply c (plain w))) other_is meet.equal) (step (here (inr (shift assoc))) stop)

  part_sort : HasSort d (apply s (plain at)) x.sort
  part_sort = HasSort-apply d s meet.left (plain at) x.sort ((least_sort_of_settled d good at at_fits.flat at_fits.kinded x.sort).1 h.sort.low)

  below : AtOrBelow d (least_sort d (canon d (two f both e))) x.sort
  below = (least_sort_exact d good (two f both e) (k, whole_kind) x.sort).0 record { form = part_sort.form; equal = BEqual-trans d (BEqual-sym d equal) part_sort.equal; gets = part_sort.gets }

  -- so it has the variable's sort
  own_keeps : KeepsKindsOfVariables d (λ y. y.sort)
  own_keeps y i = refl

  flat_kind : (t : Term) → HasKind d t k → HasKind d (plain (canon d t)) k
  flat_kind t i = canon_of_kind d good.fits t k i

  sort_is : (parts d f (canon d both) ≡ [] → ⊥) → (parts d f (canon d e) ≡ [] → ⊥) → least_sort d (canon d (two f both e)) ≡ result d f (least_sort d (canon d both) ∷ least_sort d (canon d e) ∷ [])
  sort_is some last_some =
      sort_of_build d good (λ y. y.sort) own_keeps f (canon d both ∷ canon d e ∷ []) (canon_settled d both, (canon_settled d e, tt)) (some, (last_some, tt)) k
      (of_two (plain (canon d both)) (plain (canon d e)) (flat_kind both both_kind) (flat_kind e e_kind))

  of_the_kind : (t : FlatTerm) → Settled d t → HasKind d (plain t) k → IsOfKind d f (least_sort d t)
  of_the_kind t i j = record { rank = joined.rank; listed = joined.listed; kind_is = sort_in-kind d good (λ y. y.sort) own_keeps t i k j ∙ sym joined.result }

  -- also where it is the identity
  where_empty : parts d f (canon d both) ≡ [] → AtOrBelow d (least_sort d (canon d both)) x.sort
  where_empty none =
      let n = parts_none d f (canon d both) (canon_settled d both) none in
      subst (λ w. AtOrBelow d (least_sort d w) x.sort) (sym n.2) (identity_low h.sort.neutral n.0 n.1)
    where
      identity_low : HasLowIdentity d f x.sort → (o : OpId) → identity (axioms d f) ≡ Some o → AtOrBelow d (result d o []) x.sort
      identity_low (inl without) o is = let q : Some o ≡ None = sym is ∙ without in cc
      identity_low (inr low) o is = let same : low.0 ≡ o = one_identity low.0 o (sym low.1 ∙ is) in subst (λ w. AtOrBelow d (result d w []) x.sort) same low.2

  -- or what the last takes is
  where_alone : parts d f (canon d e) ≡ [] → AtOrBelow d (least_sort d (canon d both)) x.sort
  where_alone none =
      let n = parts_none d f (canon d e) (canon_settled d e) none in
      let alone : canon d (two f both e) ≡ canon d both = ap (λ w. build d f (canon d both ∷ w ∷ [])) n.2 ∙ build_right_identity d f n.0 n.1 (canon d both) (canon_settled d both) in
      subst (λ w. AtOrBelow d (least_sort d w) x.sort) alone below

  where_both : (parts d f (canon d both) ≡ [] → ⊥) → (parts d f (canon d e) ≡ [] → ⊥) → AtOrBelow d (least_sort d (canon d both)) x.sort
  where_both some last_some = (both_below some last_some).0 where
    both_below : (parts d f (canon d both) ≡ [] → ⊥) → (parts d f (canon d e) ≡ [] → ⊥) → AtOrBelow d (least_sort d (canon d both)) x.sort × AtOrBelow d (least_sort d (canon d e)) x.sort
    both_below some last_some =
        h.sort.keep (least_sort d (canon d both)) (least_sort d (canon d e)) (of_the_kind (canon d both) (canon_settled d both) (flat_kind both both_kind)) (of_the_kind (canon d e) (canon_settled d e) (flat_kind e e_kind))
        (subst (λ q. AtOrBelow d q x.sort) (sort_is some last_some) below)

  both_low : AtOrBelow d (least_sort d (canon d both)) x.sort
  both_low = go (parts d f (canon d both)) refl (parts d f (canon d e)) refl
    where
      go : (l : List FlatTerm) → parts d f (canon d both) ≡ l → (m : List FlatTerm) → parts d f (canon d e) ≡ m → AtOrBelow d (least_sort d (canon d both)) x.sort
      go [] p m q = where_empty p
      go (a ∷ l) p [] q = where_alone q
      go (a ∷ l) p (b ∷ m) q = where_both (λ z. not_nil a l (sym p ∙ z)) (λ z. not_nil b m (sym q ∙ z))

  both_sort : HasSort d both x.sort
  both_sort = (least_sort_exact d good both (k, both_kind) x.sort).1 both_low

  -- and the variable takes it
  abbrev sent : Substitution
  sent y = chosen (occurs_or_not y (var x)) both (c y)

  taken : (y : Var) → y ≡ x → StandsFor d y.sort both
  taken y q = (
    λ i. subst (λ (z : Var). HasKind d both (kind d z.sort)) (sym q) (subst (HasKind d both) kind_is both_kind),
    subst (λ (z : Var). HasSort d both z.sort) (sym q) both_sort,
  )

  sent_sorted : IsWellSorted d sent
  sent_sorted = sorted_each d sent (λ y. chosen_stands d (occurs_or_not y (var x)) y.sort both (c y) (taken y) (λ n. stands_at d c meet.right y))

  outside : Occurs x last → ⊥
  outside o = none_among x (h.parts.last ∷ h.parts.more) h.parts.outside ((occurs_in_app x f true (fmore h.parts.last (fpack h.parts.more))).0 o)

  last_is : BEqual d e (apply sent last)
  last_is = equal_by_agreement d c sent last (λ y o. subst (BEqual d (c y)) (sym (chosen_unless (occurs_or_not y (var x)) both (c y) (λ q. outside (subst (λ (z : Var). Occurs z last) q o)))) stop)

  left_meets : BEqual d (two f both e) (apply sent (two f (var x) last))
  left_meets = BEqual-inside d f (each_more (subst (BEqual d both) (sym (chosen_if (occurs_or_not x (var x)) both (c x) refl)) stop) (each_more last_is each_none))

  pub meets_first : (by : Substitution) × Meet d (plain at) (plain left) s by
  meets_first = (sent, record { left = meet.left; right = sent_sorted; equal = BEqual-trans d equal (subst (λ w. BEqual d (two f both e) (apply sent (plain w))) (sym left_is) left_meets) })

-- so each instance that meets the other lifts, where those that meet the first lift
served_lifts : (g : Setting) → IsGood g.declarations → (vars : List Var) (from : Narrowed) (at left other : FlatTerm) → Fits g.declarations at → Fits g.declarations left → Fits g.declarations other → ServesAt g.declarations at left other → (children : List Variant) →
    LiftsAt g vars from at left children → LiftsAt g vars from at other children
served_lifts g good vars from at left other at_fits fits other_fits h children lifts = λ s c keeps meet.
    let m = meets_first g.declarations good at left other at_fits fits other_fits h s c meet in
    lifts s m.0 keeps m.1

-- a rule that replaces another one
module _ (r : Rewriting) (good : IsGood r.signature) (usable : AreUsable r.signature r.rules) (laws : RuleLaws r.signature (equations_by r)) (v : Variant) (member : ℕ) (path : List ℕ) (beside : Beside) (at : FlatTerm) (rule other : Rule)
    (t : IsTurnAt r v at (turn_of member path beside rule)) (listed : Contains r.rules.rules other) (serves : ServesAt r.signature at other.left rule.left) where
  given : Contains r.rules.rules rule × (head_of rule.left ≡ Some t.operator)
  given = usable.rules.given t.operator rule t.needed

  -- it is met at the form too
  pub other_meets : IsMeetingAt r v at (turn_of member path beside other)
  other_meets = record {
    term = t.term;
    is = t.is;
    whole = t.whole;
    leads = t.leads;
    part = t.part;
    left = t.left;
    operator = t.operator;
    heads = t.heads;
    listed = listed;
    left_heads = serves.heads ∙ sym serves.other_heads ∙ given.1;
  }

  -- and where what meets it lifts, so does what meets the other
  pub other_lifts : (unifiers : ℕ) → Fits r.signature at → (children : List Variant) → TryLifts r unifiers v (try_of at other) children → TryLifts r unifiers v (try_of at rule) children
  other_lifts unifiers at_fits children lifts =
      served_lifts (narrowing_setting r unifiers) good v.vars (narrowed v) at other.left rule.left at_fits (left_side_fits r good usable laws other listed) (left_side_fits r good usable laws rule given.0) serves children lifts

module _ (r : Rewriting) (good : IsGood r.signature) (usable : AreUsable r.signature r.rules) (laws : RuleLaws r.signature (equations_by r)) (unifiers : ℕ) (v : Variant) (next : ℕ) (ready : IsReady r v next)
    (member : ℕ) (path : List ℕ) (beside : Beside) (at : FlatTerm) (rules : List Rule) (turns : All (λ (rule : Rule). IsTurnAt r v at (turn_of member path beside rule)) rules) where
  fit : (rule : Rule) → Contains rules rule → IsFitTurn r v at (turn_of member path beside rule)
  fit rule listed =
      let turn = turn_of member path beside rule in
      fit_here r good usable laws v next ready at turn (meeting_of r good usable laws v at turn (All-contains (λ (rule : Rule). IsTurnAt r v at (turn_of member path beside rule)) rules rule turns listed))

  pub part_fits : (rule : Rule) → Contains rules rule → Fits r.signature at
  part_fits rule listed = (fit rule listed).at_fits

  -- what lifts by all rules but those in whose place others serve lifts by all
  pub all_served : (passes : Bool) (children : List Variant) → ForEach (TryLiftsAmong r unifiers v passes rules) (IsTryOf at rules) children → ForEach (TryLiftsUnless r unifiers v passes) (IsTryOf at rules) children
  all_served passes children h try c = down (length (args_of try.rule.left)) try (omega arith) c (h try c)
    where
      -- the rule that serves has less arguments, so that in the end one lifts
      step : (n : ℕ) (try : Try) → length (args_of try.rule.left) ≤ suc n → IsTryOf at rules try → ((other : Rule) → Contains rules other → length (args_of other.left) ≤ n → TryLiftsUnless r unifiers v passes (try_of at other) children) →
          TryLiftsAmong r unifiers v passes rules try children → TryLiftsUnless r unifiers v passes try children
      step n try few c lower (inl lifts) = inl lifts
      step n try few c lower (inr (inl met)) = inr met
      step n try few c lower (inr (inr served)) = let other = served.1 in
          inl (by_other served.0 other.0 other.1 other.2 (lower other.0 other.1 (shorter other.0 other.2)))
        where
          shorter : (other : Rule) → ServesAt r.signature try.at other.left try.rule.left → length (args_of other.left) ≤ n
          shorter other serves = let q = one_less r.signature try.at other.left try.rule.left serves in omega (arith, q, few)

          by_other : passes ≡ false → (other : Rule) → Contains rules other → ServesAt r.signature try.at other.left try.rule.left → TryLiftsUnless r unifiers v passes (try_of at other) children → TryLifts r unifiers v try children
          by_other unpassed other listed serves (inr met) = let q : true ≡ false = sym met.0 ∙ unpassed in cc
          by_other unpassed other listed serves (inl lifts) =
              subst (λ w. LiftsAt (narrowing_setting r unifiers) v.vars (narrowed v) w try.rule.left children) (sym c.0)
              (served_lifts (narrowing_setting r unifiers) good v.vars (narrowed v) at other.left try.rule.left (part_fits other listed) (fit other listed).left_fits (fit try.rule c.1).left_fits
              (subst (λ w. ServesAt r.signature w other.left try.rule.left) c.0 serves) children lifts)

      -- without an argument none serves
      none_serves : (try : Try) → length (args_of try.rule.left) ≤ 0 → TryLiftsAmong r unifiers v passes rules try children → TryLiftsUnless r unifiers v passes try children
      none_serves try few (inl lifts) = inl lifts
      none_serves try few (inr (inl met)) = inr met
      none_serves try few (inr (inr served)) = let other = served.1 in let first = other.0 in let q = one_less r.signature try.at first.left try.rule.left other.2 in absurd (omega (arith, q, few))

      down : (n : ℕ) (try : Try) → length (args_of try.rule.left) ≤ n → IsTryOf at rules try → TryLiftsAmong r unifiers v passes rules try children → TryLiftsUnless r unifiers v passes try children
      down zero try few c k = none_serves try few k
      down (suc n) try few c k = step n try few c (λ other listed less. down n (try_of at other) less (refl, listed) (h (try_of at other) (refl, listed))) k
