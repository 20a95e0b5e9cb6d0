-- What is found for a pair, by what is found for what it is taken apart into.
use Rattle.std.proofs.Common.{◌≡◌, ◌-◌, ◌≤◌, suc, Bool, true, false, List, [], ◌∷◌, length, take, drop, get_or, Option, Some, None, refl, sym, ap, ◌∙◌, subst, inl, inr, arith}
use Rattle.std.specs.Prelude.{◌⊎◌, if◌then◌else◌, is_some, Result, Ok, Err, IfOk}
use Rattle.std.specs.List.{AllZip}
use Rattle.fvn_terms.specs.declared.plain.Var.{Var}
use Rattle.fvn_terms.specs.declared.plain.OpId.{OpId}
use Rattle.fvn_terms.specs.declared.declarations.Declarations.{Declarations}
use Rattle.fvn_terms.specs.Substitution.{same_var}
use Rattle.fvn_terms.specs.declared.declarations.Axioms.TheVariants.{Free, Comm}
use Rattle.fvn_terms.specs.Signature.{kind, axioms, IsSort, HasKind, AtOrBelow, same}
use Rattle.fvn_terms.specs.Equality.{is_sum, is_commutative}
use Rattle.fvn_forms.specs.Flat.{FlatTerm, fvar, plain}
use Rattle.fvn_forms.specs.Canon.{inst}
use Rattle.fvn_forms.specs.Settled.{Settled}
use Rattle.fvn_forms.specs.FitsKinds.{FitsKinds}
use Rattle.fvn_forms.specs.LeastSort.{least_sort}
use Rattle.fvn_forms.specs.Good.{IsGood}
use Rattle.fvn_forms.proofs.LeastSort.{inst_keeps_sorts}
use Rattle.fvn_flat.specs.Bindings.{Bindings, bound, value, form_or}
use Rattle.fvn_flat.proofs.Binding.{same_var_is, same_var_itself}
use Rattle.fvn_flat.specs.Forms.{head_of, args_of}
use Rattle.fvn_match.specs.inner.Candidates.{Values, IsCandidate, Agrees, IsSolution, pairs_of, Finds}
use Rattle.fvn_match.specs.inner.Goals.{AllMake, IsPair}
use Rattle.fvn_match.specs.inner.Pairing.{LacksSort}
use Rattle.fvn_match.specs.inner.Searching.{crossed, IsCrossing}
use Rattle.fvn_match.proofs.AxiomTests.{free_if, commutative_if}
use Rattle.fvn_match.proofs.PairSteps.{zip_parted, rest_of, free_head, commutative_head, free_pairs, free_step, crossing, two_patterns, two_targets, commutative_step}
use Rattle.fvn_match.proofs.Finding.{if_found_same, found_first, found_none}

module _ (d : Declarations) where
  -- variables as they are
  pub variables_are_candidate : IsCandidate d (value [])
  variables_are_candidate = record { flat = record { settled = λ x. tt; keeps_kinds = λ x i. (i, refl) }; sorts = λ x i. same }

  -- the values so far are a solution where nothing is asked
  pub values_agree : (b : Bindings) → Agrees b (value b)
  values_agree b x t e = ap (form_or x) e

  -- one variable more is bound, to its target
  module _ (b : Bindings) (x : Var) (t : FlatTerm) (pair : IsPair d (fvar x) t) where
    known : IsSort d x.sort
    known = pair.pattern_kind.0

    target_kind : HasKind d (plain t) (kind d x.sort)
    target_kind = subst (HasKind d (plain t)) (sym pair.pattern_kind.1) pair.target_kind

    pub one_more_candidate : IsCandidate d (value b) → AtOrBelow d (least_sort d t) x.sort → IsCandidate d (value ((x, t) ∷ b))
    one_more_candidate h low = record {
      flat = record { settled = λ y. settled y (same_var x y) refl; keeps_kinds = λ y i. kinds y i (same_var x y) refl };
      sorts = λ y i. sorts y i (same_var x y) refl;
    }
      where
        settled : (y : Var) (z : Bool) → same_var x y ≡ z → Settled d (form_or y (if z then Some t else bound b y))
        settled y true e = pair.target
        settled y false e = h.flat.settled y

        kinds : (y : Var) → IsSort d y.sort → (z : Bool) → same_var x y ≡ z → HasKind d (plain (form_or y (if z then Some t else bound b y))) (kind d y.sort)
        kinds y i true e = subst (λ v. HasKind d (plain t) (kind d v.sort)) (same_var_is x y e) target_kind
        kinds y i false e = h.flat.keeps_kinds y i

        sorts : (y : Var) → IsSort d y.sort → (z : Bool) → same_var x y ≡ z → AtOrBelow d (least_sort d (form_or y (if z then Some t else bound b y))) y.sort
        sorts y i true e = subst (λ v. AtOrBelow d (least_sort d t) v.sort) (same_var_is x y e) low
        sorts y i false e = h.sorts y i

    pub agrees_more : (c : Values) → Agrees b c → c x ≡ t → Agrees ((x, t) ∷ b) c
    agrees_more c a is y u q = go (same_var x y) refl q
      where
        go : (z : Bool) → same_var x y ≡ z → (if z then Some t else bound b y) ≡ Some u → c y ≡ u
        go true e q = ap c (sym (same_var_is x y e)) ∙ is ∙ (let w : t ≡ u = cc in w)
        go false e q = a y u q

    pub agrees_less : (c : Values) → bound b x ≡ None → Agrees ((x, t) ∷ b) c → Agrees b c
    agrees_less c free a y u q = go (same_var x y) refl (a y u)
      where
        go : (z : Bool) → same_var x y ≡ z → ((if z then Some t else bound b y) ≡ Some u → c y ≡ u) → c y ≡ u
        go true e k = let w : bound b x ≡ Some u = ap (bound b) (same_var_is x y e) ∙ q in cc
        go false e k = k q

    pub agrees_here : (c : Values) → Agrees ((x, t) ∷ b) c → c x ≡ t
    agrees_here c a = a x t (ap (λ z. if z then Some t else bound b x) (same_var_itself x))

    module _ (vars : List Var) (P : Values → Type 0) where
      pub found_bound : bound b x ≡ None → (r : Option Bindings) → Finds vars (IsSolution d ((x, t) ∷ b) P) r → Finds vars (IsSolution d b (λ c. (inst d c (fvar x) ≡ t) × P c)) r
      found_bound free None f = λ c s. f c record { candidate = s.candidate; agrees = agrees_more c s.agrees s.holds.0; holds = s.holds.1 }
      found_bound free (Some s) f = let k = f.1 in (f.0, record { candidate = k.candidate; agrees = agrees_less f.0 free k.agrees; holds = (agrees_here f.0 k.agrees, k.holds) }, f.2)

      pub if_found_bound : bound b x ≡ None → {E : Type 0} (r : Result (Option Bindings) E) → IfOk r (Finds vars (IsSolution d ((x, t) ∷ b) P)) → IfOk r (Finds vars (IsSolution d b (λ c. (inst d c (fvar x) ≡ t) × P c)))
      if_found_bound free (Ok o) f = found_bound free o f
      if_found_bound free (Err e) f = tt

      -- a target of another sort
      pub refused_sort : (AtOrBelow d (least_sort d t) x.sort → ⊥) → Finds vars (IsSolution d b (λ c. (inst d c (fvar x) ≡ t) × P c)) None
      refused_sort high = λ c s. high (subst (λ u. AtOrBelow d (least_sort d u) x.sort) s.holds.0 (s.candidate.sorts x known))

      -- a variable that is bound has its value
      pub found_known : (v : FlatTerm) → bound b x ≡ Some v → v ≡ t → {E : Type 0} (r : Result (Option Bindings) E) → IfOk r (Finds vars (IsSolution d b P)) → IfOk r (Finds vars (IsSolution d b (λ c. (inst d c (fvar x) ≡ t) × P c)))
      found_known v e equal r f = if_found_same vars d b P (λ c. (inst d c (fvar x) ≡ t) × P c) (λ c k a. (λ h. (a x v e ∙ equal, h), λ h. h.1)) r f

      pub refused_known : (v : FlatTerm) → bound b x ≡ Some v → (v ≡ t → ⊥) → Finds vars (IsSolution d b (λ c. (inst d c (fvar x) ≡ t) × P c)) None
      refused_known v e other = λ c s. other (sym (s.agrees x v e) ∙ s.holds.0)

-- a target whose sort is that of no instance
pub refused_unsorted : (d : Declarations) → IsGood d → (p t : FlatTerm) → IsPair d p t → LacksSort d p t → (b : Bindings) (vars : List Var) (P : Values → Type 0) → Finds vars (IsSolution d b (λ c. (inst d c p ≡ t) × P c)) None
refused_unsorted d good p t pair high b vars P = λ c s. high (subst (λ u. AtOrBelow d (least_sort d u) (least_sort d p)) s.holds.0 (inst_keeps_sorts d good c s.candidate.flat s.candidate.sorts p pair.pattern (pair.of_kind, pair.pattern_kind)))

pub zip_long : {A B : Type 0} (R : A → B → Type 0) (xs : List A) (ys : List B) → AllZip R xs ys → length xs ≡ length ys
zip_long R [] [] h = refl
zip_long R [] (y ∷ ys) h = absurd h
zip_long R (x ∷ xs) [] h = absurd h
zip_long R (x ∷ xs) (y ∷ ys) h = ap suc (zip_long R xs ys h.1)

-- all but the first, as code takes them
pub to_rest : {A B : Type 0} (R : A → B → Type 0) (xs : List A) (ys : List B) → AllZip R (drop 1 xs) (drop 1 ys) → AllZip R (take (length xs - 1) (drop 1 xs)) (take (length ys - 1) (drop 1 ys))
to_rest R xs ys h = subst (λ l. AllZip R l (take (length ys - 1) (drop 1 ys))) (sym (rest_of xs)) (subst (AllZip R (drop 1 xs)) (sym (rest_of ys)) h)

pub from_rest : {A B : Type 0} (R : A → B → Type 0) (xs : List A) (ys : List B) → AllZip R (take (length xs - 1) (drop 1 xs)) (take (length ys - 1) (drop 1 ys)) → AllZip R (drop 1 xs) (drop 1 ys)
from_rest R xs ys h = subst (λ l. AllZip R l (drop 1 ys)) (rest_of xs) (subst (AllZip R (take (length xs - 1) (drop 1 xs))) (rest_of ys) h)

-- a list of two
pub two_is : {A : Type 0} (xs : List A) (x y : A) → length xs ≡ 2 → x ≡ get_or xs 0 x → y ≡ get_or xs 1 y → xs ≡ x ∷ y ∷ []
two_is [] x y two p q = absurd (omega arith)
two_is (u ∷ []) x y two p q = absurd (omega arith)
two_is (u ∷ v ∷ []) x y two p q = ap (λ z. z ∷ v ∷ []) (sym p) ∙ ap (λ z. x ∷ z ∷ []) (sym q)
two_is (u ∷ v ∷ w ∷ ws) x y two p q = absurd (omega arith)

-- two pairs, in one order of the targets or in the other
module _ (d : Declarations) (b : Bindings) (vars : List Var) (ps ts : List FlatTerm) (t u : FlatTerm) (ts_are : ts ≡ t ∷ u ∷ []) (X : Values → Type 0) where
  abbrev pub Straight : Values → Type 0
  Straight c = AllMake d ps (t ∷ u ∷ []) c × X c

  abbrev pub Across : Values → Type 0
  Across c = AllMake d ps (u ∷ t ∷ []) c × X c

  abbrev pub EitherWay : Values → Type 0
  EitherWay c = (AllMake d ps ts c ⊎ AllMake d ps (crossed ts) c) × X c

  pub found_straight : (r : Option Bindings) → is_some r ≡ true → Finds vars (IsSolution d b Straight) r → Finds vars (IsSolution d b EitherWay) r
  found_straight r e f = found_first vars d b Straight EitherWay (λ c k a h. (inl (subst (λ m. AllMake d ps m c) (sym ts_are) h.0), h.1)) r e f

  pub found_across : (r : Option Bindings) → is_some r ≡ false → Finds vars (IsSolution d b Straight) r → {E : Type 0} (s : Result (Option Bindings) E) → IfOk s (Finds vars (IsSolution d b Across)) → IfOk s (Finds vars (IsSolution d b EitherWay))
  found_across r e f s g =
      if_found_same vars d b Across EitherWay
      (λ c k a. (λ h. (inr (subst (λ m. AllMake d ps (crossed m) c) (sym ts_are) h.0), h.1), λ h. only c k a h.0 h.1)) s g
    where
      only : (c : Values) → IsCandidate d c → Agrees b c → AllMake d ps ts c ⊎ AllMake d ps (crossed ts) c → X c → Across c
      only c k a (inl h) x = absurd (found_none vars d b Straight r e f c k a (subst (λ m. AllMake d ps m c) ts_are h, x))
      only c k a (inr h) x = (subst (λ m. AllMake d ps (crossed m) c) ts_are h, x)

-- nothing is asked, and the values so far do it
pub found_values : (d : Declarations) (b : Bindings) (vars : List Var) (s : Bindings) → IsCandidate d (value b) → s ≡ pairs_of vars (value b) → Finds vars (IsSolution d b (λ c. Unit {0})) (Some s)
found_values d b vars s candidate e = (value b, record { candidate = candidate; agrees = values_agree d b; holds = tt }, e)

-- lists, pair by pair
module _ (d : Declarations) (b : Bindings) (vars : List Var) (X : Values → Type 0) where
  pub found_no_pairs : (ps ts : List FlatTerm) → length ps ≡ 0 → length ps ≡ length ts → {E : Type 0} (r : Result (Option Bindings) E) → IfOk r (Finds vars (IsSolution d b X)) → IfOk r (Finds vars (IsSolution d b (λ c. AllMake d ps ts c × X c)))
  found_no_pairs [] [] e long r f = if_found_same vars d b X (λ c. AllMake d [] [] c × X c) (λ c k a. (λ h. (tt, h), λ h. h.1)) r f
  found_no_pairs [] (t ∷ ts) e long r f = absurd (omega arith)
  found_no_pairs (p ∷ ps) ts e long r f = absurd (omega arith)

  pub found_list : (ps ts : List FlatTerm) (p t : FlatTerm) → 1 ≤ length ps → length ps ≡ length ts → p ≡ get_or ps 0 p → t ≡ get_or ts 0 t → {E : Type 0} (r : Result (Option Bindings) E) →
      IfOk r (Finds vars (IsSolution d b (λ c. (inst d c p ≡ t) × (AllMake d (take (length ps - 1) (drop 1 ps)) (take (length ts - 1) (drop 1 ts)) c × X c)))) → IfOk r (Finds vars (IsSolution d b (λ c. AllMake d ps ts c × X c)))
  found_list ps ts p t some long is at r f =
      if_found_same vars d b (λ c. (inst d c p ≡ t) × (AllMake d (take (length ps - 1) (drop 1 ps)) (take (length ts - 1) (drop 1 ts)) c × X c)) (λ c. AllMake d ps ts c × X c)
      (λ c k a. let z = zip_parted (λ q u. inst d c q ≡ u) ps ts p t some (sym long) is at in (
        λ h. (z.1 (h.0, from_rest (λ q u. inst d c q ≡ u) ps ts h.1.0), h.1.1),
        λ h. let w = z.0 h.0 in (w.0, (to_rest (λ q u. inst d c q ≡ u) ps ts w.1, h.1)),
      )) r f

-- heads that no instance loses
module _ (d : Declarations) (fits : FitsKinds d) (f : OpId) (p t : FlatTerm) (pair : IsPair d p t) (head : head_of p ≡ Some f) (b : Bindings) (vars : List Var) (X : Values → Type 0) where
  refused_free : axioms d f ≡ Free → (head_of t ≡ Some f → ⊥) → Finds vars (IsSolution d b (λ c. (inst d c p ≡ t) × X c)) None
  refused_free e n = λ c s. n (free_head d fits f p t pair head c s.candidate.flat.settled e s.holds.0)

  refused_commutative : axioms d f ≡ Comm → (head_of t ≡ Some f → ⊥) → Finds vars (IsSolution d b (λ c. (inst d c p ≡ t) × X c)) None
  refused_commutative e n = λ c s. n (commutative_head d fits f p t pair head c s.candidate.flat.settled e s.holds.0)

  pub refused_unheaded : is_sum (axioms d f) ≡ false → (head_of t ≡ Some f → ⊥) → Finds vars (IsSolution d b (λ c. (inst d c p ≡ t) × X c)) None
  refused_unheaded s n = go (is_commutative (axioms d f)) refl
    where
      go : (a : Bool) → is_commutative (axioms d f) ≡ a → Finds vars (IsSolution d b (λ c. (inst d c p ≡ t) × X c)) None
      go true e = refused_commutative (commutative_if (axioms d f) s e) n
      go false e = refused_free (free_if (axioms d f) s e) n

  module _ (headed : head_of t ≡ Some f) (ps ts : List FlatTerm) (ps_are : ps ≡ args_of p) (ts_are : ts ≡ args_of t) where
    pub pairs_of_args : axioms d f ≡ Free → AllZip (IsPair d) ps ts
    pairs_of_args e = subst (λ l. AllZip (IsPair d) l ts) (sym ps_are) (subst (AllZip (IsPair d) (args_of p)) (sym ts_are) (free_pairs d fits f p t pair head e headed))

    pub as_many_args : axioms d f ≡ Free → length ps ≡ length ts
    as_many_args e = zip_long (IsPair d) ps ts (pairs_of_args e)

    pub found_free : axioms d f ≡ Free → {E : Type 0} (r : Result (Option Bindings) E) → IfOk r (Finds vars (IsSolution d b (λ c. AllMake d ps ts c × X c))) → IfOk r (Finds vars (IsSolution d b (λ c. (inst d c p ≡ t) × X c)))
    found_free e r g =
        if_found_same vars d b (λ c. AllMake d ps ts c × X c) (λ c. (inst d c p ≡ t) × X c)
        (λ c k a. let z = free_step d fits f p t pair head e headed c k.flat.settled in (
          λ h. (z.1 (subst (λ l. AllMake d l (args_of t) c) ps_are (subst (λ m. AllMake d ps m c) ts_are h.0)), h.1),
          λ h. (subst (λ l. AllMake d l ts c) (sym ps_are) (subst (λ m. AllMake d (args_of p) m c) (sym ts_are) (z.0 h.0)), h.1),
        )) r g

    module _ (e : axioms d f ≡ Comm) where
      pub crossing_args : IsCrossing d ps ts
      crossing_args = subst (λ l. IsCrossing d l ts) (sym ps_are) (subst (IsCrossing d (args_of p)) (sym ts_are) (crossing d fits f p t pair head e headed))

      pub two_of_patterns : length ps ≡ 2
      two_of_patterns = ap length ps_are ∙ two_patterns d fits f p t pair head e headed

      pub two_of_targets : length ts ≡ 2
      two_of_targets = ap length ts_are ∙ two_targets d fits f p t pair head e headed

      pub found_commutative : {E : Type 0} (r : Result (Option Bindings) E) → IfOk r (Finds vars (IsSolution d b (λ c. (AllMake d ps ts c ⊎ AllMake d ps (crossed ts) c) × X c))) → IfOk r (Finds vars (IsSolution d b (λ c. (inst d c p ≡ t) × X c)))
      found_commutative r g =
          if_found_same vars d b (λ c. (AllMake d ps ts c ⊎ AllMake d ps (crossed ts) c) × X c) (λ c. (inst d c p ≡ t) × X c)
          (λ c k a. let z = commutative_step d fits f p t pair head e headed c k.flat.settled in (
            λ h. (z.1 (subst (λ l. AllMake d l (args_of t) c ⊎ AllMake d l (crossed (args_of t)) c) ps_are (subst (λ m. AllMake d ps m c ⊎ AllMake d ps (crossed m) c) ts_are h.0)), h.1),
            λ h. (subst (λ l. AllMake d l ts c ⊎ AllMake d l (crossed ts) c) (sym ps_are) (subst (λ m. AllMake d (args_of p) m c ⊎ AllMake d (args_of p) (crossed m) c) (sym ts_are) (z.0 h.0)), h.1),
          )) r g
