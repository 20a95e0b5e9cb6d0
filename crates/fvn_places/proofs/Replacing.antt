-- One argument of a form replaced by a form of its kind.
use Rattle.std.proofs.Common.{◌≡◌, ℕ, zero, suc, ◌+◌, ◌≤◌, Bool, true, false, List, [], ◌∷◌, ◌++◌, map, length, take, drop, Some, refl, sym, ap, ◌∙◌, subst, arith}
use Rattle.std.specs.Prelude.{slice_get}
use Rattle.std.specs.List.{AllByRecursion}
use Rattle.std.proofs.lemmas.List.{length-append}
use Rattle.fvn_terms.specs.declared.plain.OpId.{OpId}
use Rattle.fvn_terms.specs.declared.plain.SortId.{SortId}
use Rattle.fvn_terms.specs.declared.declarations.Axioms.{Axioms}
use Rattle.fvn_terms.specs.declared.declarations.Axioms.TheVariants.{Free, Comm, AssocComm, AssocCommId}
use Rattle.fvn_terms.specs.declared.declarations.Declarations.{Declarations}
use Rattle.fvn_terms.specs.Term.{Term, Terms}
use Rattle.fvn_terms.specs.Signature.{kind, axioms, HasKind, HaveKinds}
use Rattle.fvn_terms.specs.Places.{AtOnePlace, AmongOnePlace, here as at_term, inside as inside_term, first as first_term, later as later_term}
use Rattle.fvn_terms.specs.Equality.{IsAssociative}
use Rattle.fvn_forms.specs.Flat.{FlatTerm, FlatTerms, fvar, fapp, fnone, fmore, fpack, funpack, nest, nest_all, plain, plain_all}
use Rattle.fvn_forms.specs.Canon.{all_parts, sum, build, eval_all, canon}
use Rattle.fvn_forms.specs.Settled.{FitsUnjoined, Settled}
use Rattle.fvn_forms.specs.FitsKinds.{FitsKinds}
use Rattle.fvn_forms.proofs.Sums.{fpack-funpack}
use Rattle.fvn_forms.proofs.Build.{build_sum}
use Rattle.fvn_forms.proofs.Eval.{fvar_settled, eval_nest, canon_plain}
use Rattle.fvn_forms.proofs.KindsOfSums.{nest_parts_of_kind}
use Rattle.fvn_flat.specs.Forms.{head_of, args_of}
use Rattle.fvn_flat.specs.FlatPlaces.{IsReplaced, IsReplacedAmong, here, inside, first, later}
use Rattle.fvn_flat.specs.Fits.{Fits, AllOfKind, TakesAsDeclared, Takes}
use Rattle.fvn_places.specs.Putting.{KeepsKindsOf}

-- what stands around the member at a place
pub split_at : (l : List FlatTerm) (i : ℕ) (a : FlatTerm) → slice_get l i ≡ Some a → l ≡ take i l ++ a ∷ drop (i + 1) l
split_at l i a e = let on : suc i ≡ i + 1 = omega arith in subst (λ n. l ≡ take i l ++ a ∷ drop n l) on (go l i e)
  where
    go : (l : List FlatTerm) (i : ℕ) → slice_get l i ≡ Some a → l ≡ take i l ++ a ∷ drop (suc i) l
    go [] i e = cc
    go (x ∷ l) zero e = let q : x ≡ a = cc in ap (λ y. y ∷ l) q
    go (x ∷ l) (suc i) e = ap (λ m. x ∷ m) (go l i e)

-- what holds of each, where it holds of what comes in place of one
pub each_replaced : (P : FlatTerm → Type 0) (before : List FlatTerm) (a u : FlatTerm) (after : List FlatTerm) → AllByRecursion P (before ++ a ∷ after) → P u → AllByRecursion P (before ++ u ∷ after)
each_replaced P [] a u after h p = (p, h.1)
each_replaced P (t ∷ before) a u after h p = (h.0, each_replaced P before a u after h.1 p)

pub member_of_each : (P : FlatTerm → Type 0) (before : List FlatTerm) (a : FlatTerm) (after : List FlatTerm) → AllByRecursion P (before ++ a ∷ after) → P a
member_of_each P [] a after h = h.0
member_of_each P (t ∷ before) a after h = member_of_each P before a after h.1

pub before_each : (P : FlatTerm → Type 0) (before : List FlatTerm) (a : FlatTerm) (after : List FlatTerm) → AllByRecursion P (before ++ a ∷ after) → AllByRecursion P before × AllByRecursion P after
before_each P [] a after h = (tt, h.1)
before_each P (t ∷ before) a after h = let r = before_each P before a after h.1 in ((h.0, r.0), r.1)

same_length : (before : List FlatTerm) (a u : FlatTerm) (after : List FlatTerm) → length (before ++ a ∷ after) ≡ length (before ++ u ∷ after)
same_length [] a u after = refl
same_length (t ∷ before) a u after = ap suc (same_length before a u after)

-- what is replaced in a flat form is replaced in its plain term
module _ (R : Term → Term → Type 0) (u v : FlatTerm) (r : R (plain u) (plain v)) where
  under_nest : (f : OpId) (t : FlatTerm) {ts us : FlatTerms} → IsReplacedAmong u v ts us → AtOnePlace R (nest_all f (plain_all ts)) (nest_all f (plain_all us)) → AtOnePlace R (nest f (plain t) (plain_all ts)) (nest f (plain t) (plain_all us))
  under_nest f t (first p) q = inside_term (later_term (first_term q))
  under_nest f t (later p) q = inside_term (later_term (first_term q))

  head_of_nest : (f : OpId) (t w : FlatTerm) (ts : FlatTerms) → AtOnePlace R (plain t) (plain w) → AtOnePlace R (nest f (plain t) (plain_all ts)) (nest f (plain w) (plain_all ts))
  head_of_nest f t w fnone q = q
  head_of_nest f t w (fmore x xs) q = inside_term (first_term q)

  mutual
    pub plain_replaced : {t w : FlatTerm} → IsReplaced u v t w → AtOnePlace R (plain t) (plain w)
    plain_replaced here = at_term r
    plain_replaced (inside {f} {joined = true} p) = nest_replaced f p
    plain_replaced (inside {f} {joined = false} p) = inside_term (all_replaced p)

    all_replaced : {ts us : FlatTerms} → IsReplacedAmong u v ts us → AmongOnePlace R (plain_all ts) (plain_all us)
    all_replaced (first p) = first_term (plain_replaced p)
    all_replaced (later p) = later_term (all_replaced p)

    nest_replaced : (f : OpId) {ts us : FlatTerms} → IsReplacedAmong u v ts us → AtOnePlace R (nest_all f (plain_all ts)) (nest_all f (plain_all us))
    nest_replaced f (first {t} {w} {ts} p) = head_of_nest f t w ts (plain_replaced p)
    nest_replaced f (later {t} p) = under_nest f t p (nest_replaced f p)

pub replaced_among : {u v p w : FlatTerm} → IsReplaced u v p w → (before after : List FlatTerm) → IsReplacedAmong u v (fpack (before ++ p ∷ after)) (fpack (before ++ w ∷ after))
replaced_among r [] after = first r
replaced_among r (t ∷ before) after = later (replaced_among r before after)

module _ (d : Declarations) where
  -- a kind that is kept at one place is kept
  abbrev KeepsKind : Term → Term → Type 0
  KeepsKind t u = (k : SortId) → HasKind d t k → HasKind d u k

  mutual
    kept_at_place : {t u : Term} → AtOnePlace KeepsKind t u → KeepsKind t u
    kept_at_place (at_term r) k h = r k h
    kept_at_place (inside_term {f} p) k h = record { rank = h.rank; listed = h.listed; args = kept_among p _ h.args; result = h.result }

    kept_among : {ts us : Terms} → AmongOnePlace KeepsKind ts us → (ks : List SortId) → HaveKinds d ts ks → HaveKinds d us ks
    kept_among (first_term p) [] h = absurd h
    kept_among (first_term p) (k ∷ ks) h = (kept_at_place p k h.0, h.1)
    kept_among (later_term p) [] h = absurd h
    kept_among (later_term p) (k ∷ ks) h = (h.0, kept_among p ks h.1)

  -- a form keeps its kinds where one within is replaced by one of its kind
  pub replaced_keeps : (at given t w : FlatTerm) → KeepsKindsOf d at given → IsReplaced at given t w → KeepsKindsOf d t w
  replaced_keeps at given t w keeps r = kept_at_place (plain_replaced KeepsKind at given keeps r)

  kinds_replaced : (before : List FlatTerm) (a u : FlatTerm) (after : List FlatTerm) (ks : List SortId) → KeepsKindsOf d a u → HaveKinds d (plain_all (fpack (before ++ a ∷ after))) ks → HaveKinds d (plain_all (fpack (before ++ u ∷ after))) ks
  kinds_replaced [] a u after [] keeps h = absurd h
  kinds_replaced [] a u after (k ∷ ks) keeps h = (keeps k h.0, h.1)
  kinds_replaced (t ∷ before) a u after [] keeps h = absurd h
  kinds_replaced (t ∷ before) a u after (k ∷ ks) keeps h = (h.0, kinds_replaced before a u after ks keeps h.1)

  -- one argument is replaced by another form of its kind
  module _ (fits : FitsKinds d) (before : List FlatTerm) (a u : FlatTerm) (after : List FlatTerm) (keeps : KeepsKindsOf d a u) where
    abbrev replaced : List FlatTerm
    replaced = before ++ u ∷ after

    some_argument : (l : List FlatTerm) → l ≡ before ++ a ∷ after → l ≡ [] → ⊥
    some_argument l e n = let m = ap length (sym n ∙ e) in let q = length-append before (a ∷ after) in absurd (omega arith)

    takes_joined : (f : OpId) (ts : FlatTerms) → funpack ts ≡ before ++ a ∷ after → Fits d (fapp f true ts) → Takes d f replaced
    takes_joined f fnone e h = let n : 2 ≤ 0 = h.flat.0.two_or_more in absurd (omega arith)
    takes_joined f (fmore t fnone) e h = let n : 2 ≤ 1 = h.flat.0.two_or_more in absurd (omega arith)
    takes_joined f (fmore t (fmore v vs)) e h = record { rank = h.kinded.1.rank; listed = h.kinded.1.listed; args = go (axioms d f) h.flat.0.associative }
      where
        parts : AllOfKind d h.kinded.0 (before ++ a ∷ after)
        parts = subst (AllOfKind d h.kinded.0) e (nest_parts_of_kind d fits f h.flat.0.associative h.kinded.0 t (fmore v vs) h.kinded.1)

        all : AllOfKind d (kind d h.kinded.1.rank.result) replaced
        all =
            subst (λ k. AllOfKind d k replaced) (sym h.kinded.1.result)
            (each_replaced (λ p. HasKind d (plain p) h.kinded.0) before a u after parts (keeps h.kinded.0 (member_of_each (λ p. HasKind d (plain p) h.kinded.0) before a after parts)))

        two_or_more : 2 ≤ length replaced
        two_or_more = let n = h.flat.0.two_or_more in let m = ap length e in let q = same_length before a u after in omega arith

        go : (x : Axioms) → IsAssociative x → TakesAsDeclared d x h.kinded.1.rank replaced
        go Free i = absurd i
        go Comm i = absurd i
        go AssocComm i = (two_or_more, all)
        go (AssocCommId o) i = (two_or_more, all)

    takes_unjoined : (f : OpId) (ts : FlatTerms) → funpack ts ≡ before ++ a ∷ after → Fits d (fapp f false ts) → Takes d f replaced
    takes_unjoined f ts e h = record { rank = h.kinded.1.rank; listed = h.kinded.1.listed; args = go (axioms d f) h.flat.0 }
      where
        kinds : HaveKinds d (plain_all (fpack replaced)) (map (kind d) h.kinded.1.rank.args)
        kinds =
            kinds_replaced before a u after (map (kind d) h.kinded.1.rank.args) keeps
            (subst (λ us. HaveKinds d (plain_all us) (map (kind d) h.kinded.1.rank.args)) (sym (fpack-funpack ts) ∙ ap fpack e) h.kinded.1.args)

        go : (x : Axioms) → FitsUnjoined d x (funpack ts) → TakesAsDeclared d x h.kinded.1.rank replaced
        go Free i = kinds
        go Comm i = kinds
        go AssocComm i = absurd (some_argument (funpack ts) e i)
        go (AssocCommId o) i = absurd (some_argument (funpack ts) e i)

    -- the operator takes the arguments
    pub takes_replaced : (t : FlatTerm) (f : OpId) → head_of t ≡ Some f → args_of t ≡ before ++ a ∷ after → Fits d t → Takes d f replaced
    takes_replaced (fvar x) f head e h = cc
    takes_replaced (fapp g true ts) f head e h = let q : g ≡ f = cc in subst (λ o. Takes d o replaced) q (takes_joined g ts e h)
    takes_replaced (fapp g false ts) f head e h = let q : g ≡ f = cc in subst (λ o. Takes d o replaced) q (takes_unjoined g ts e h)

  -- the flat forms of the arguments, around one that may not be settled
  canon_list : (l : List FlatTerm) → AllByRecursion (Settled d) l → eval_all d fvar (plain_all (fpack l)) ≡ l
  canon_list [] h = refl
  canon_list (t ∷ l) h = ap (λ a. a ∷ eval_all d fvar (plain_all (fpack l))) (canon_plain d t h.0) ∙ ap (λ m. t ∷ m) (canon_list l h.1)

  canon_around : (before : List FlatTerm) (w c : FlatTerm) (after : List FlatTerm) → AllByRecursion (Settled d) before → AllByRecursion (Settled d) after → canon d (plain w) ≡ c →
      eval_all d fvar (plain_all (fpack (before ++ w ∷ after))) ≡ before ++ c ∷ after
  canon_around [] w c after h k e = ap (λ a. a ∷ eval_all d fvar (plain_all (fpack after))) e ∙ ap (λ m. c ∷ m) (canon_list after k)
  canon_around (t ∷ before) w c after h k e =
      ap (λ a. a ∷ eval_all d fvar (plain_all (fpack (before ++ w ∷ after)))) (canon_plain d t h.0) ∙ ap (λ m. t ∷ m) (canon_around before w c after h.1 k e)

  canon_sum : (f : OpId) → IsAssociative (axioms d f) → (t : FlatTerm) (ts : List FlatTerm) → canon d (plain (fapp f true (fpack (t ∷ ts)))) ≡ sum d f (all_parts d f (eval_all d fvar (plain_all (fpack (t ∷ ts)))))
  canon_sum f assoc t ts = eval_nest d fvar (fvar_settled d) f assoc (plain t) (plain_all (fpack ts))

  -- the flat form of an operator over arguments of which one may not be settled
  module _ (f : OpId) (before : List FlatTerm) (w c : FlatTerm) (after : List FlatTerm) (h : AllByRecursion (Settled d) before) (k : AllByRecursion (Settled d) after) (e : canon d (plain w) ≡ c) where
    joined_around : IsAssociative (axioms d f) → canon d (plain (fapp f true (fpack (before ++ w ∷ after)))) ≡ build d f (before ++ c ∷ after)
    joined_around assoc = go before refl
      where
        go : (l : List FlatTerm) → before ≡ l → canon d (plain (fapp f true (fpack (before ++ w ∷ after)))) ≡ build d f (before ++ c ∷ after)
        go [] q =
            ap (λ l. canon d (plain (fapp f true (fpack (l ++ w ∷ after))))) q
            ∙ canon_sum f assoc w after
            ∙ ap (λ l. sum d f (all_parts d f l)) (ap (λ l. eval_all d fvar (plain_all (fpack (l ++ w ∷ after)))) (sym q) ∙ canon_around before w c after h k e ∙ ap (λ l. l ++ c ∷ after) q)
            ∙ sym (build_sum d f assoc c after)
            ∙ ap (λ l. build d f (l ++ c ∷ after)) (sym q)
        go (t ∷ l) q =
            ap (λ m. canon d (plain (fapp f true (fpack (m ++ w ∷ after))))) q
            ∙ canon_sum f assoc t (l ++ w ∷ after)
            ∙ ap (λ m. sum d f (all_parts d f m)) (ap (λ m. eval_all d fvar (plain_all (fpack (m ++ w ∷ after)))) (sym q) ∙ canon_around before w c after h k e ∙ ap (λ m. m ++ c ∷ after) q)
            ∙ sym (build_sum d f assoc t (l ++ c ∷ after))
            ∙ ap (λ m. build d f (m ++ c ∷ after)) (sym q)

    pub canon_replaced : (joined : Bool) (ts : FlatTerms) → Settled d (fapp f joined ts) → canon d (plain (fapp f joined (fpack (before ++ w ∷ after)))) ≡ build d f (before ++ c ∷ after)
    canon_replaced true ts s = joined_around s.0.associative
    canon_replaced false ts s = ap (build d f) (canon_around before w c after h k e)
