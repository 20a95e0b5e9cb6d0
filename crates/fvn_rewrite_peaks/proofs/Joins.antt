-- What is joinable at one place is joinable in the whole.
use Rattle.std.proofs.Common.{◌≡◌, ℕ, zero, refl, sym, ap, subst, true, false}
use Rattle.fvn_terms.specs.declared.plain.OpId.{OpId}
use Rattle.fvn_terms.specs.declared.declarations.Declarations.{Declarations}
use Rattle.fvn_terms.specs.Term.{Term, Terms, app, more}
use Rattle.fvn_terms.specs.Places.{AtOnePlace, AmongOnePlace, here as at_term, inside as inside_term, first as first_term, later as later_term}
use Rattle.fvn_terms.specs.Equality.{BEqual}
use Rattle.fvn_terms.specs.Theory.{Equations}
use Rattle.fvn_terms.specs.Rewriting.{TermSequence, AreJoinable}
use Rattle.fvn_terms.proofs.Equal.{BEqual-sym}
use Rattle.fvn_forms.specs.Flat.{FlatTerm, FlatTerms, fnone, fmore, nest, nest_all, plain, plain_all}
use Rattle.fvn_flat.specs.FlatPlaces.{IsReplaced, IsReplacedAmong, here, inside, first, later}
use Rattle.fvn_rewrite_laws.specs.Laws.{SequenceLaws}

-- what is replaced in a flat form is replaced in its plain term
module _ (R : Term → Term → Type 0) (u v : FlatTerm) (r : R (plain u) (plain v)) where
  under_nest : (f : OpId) (t : FlatTerm) {ts us : FlatTerms} → IsReplacedAmong u v ts us → AtOnePlace R (nest_all f (plain_all ts)) (nest_all f (plain_all us)) → AtOnePlace R (nest f (plain t) (plain_all ts)) (nest f (plain t) (plain_all us))
  under_nest f t (first p) q = inside_term (later_term (first_term q))
  under_nest f t (later p) q = inside_term (later_term (first_term q))

  head_of_nest : (f : OpId) (t w : FlatTerm) (ts : FlatTerms) → AtOnePlace R (plain t) (plain w) → AtOnePlace R (nest f (plain t) (plain_all ts)) (nest f (plain w) (plain_all ts))
  head_of_nest f t w fnone q = q
  head_of_nest f t w (fmore x xs) q = inside_term (first_term q)

  mutual
    pub plain_replaced : {t w : FlatTerm} → IsReplaced u v t w → AtOnePlace R (plain t) (plain w)
    plain_replaced here = at_term r
    plain_replaced (inside {f} {joined = true} p) = nest_replaced f p
    plain_replaced (inside {f} {joined = false} p) = inside_term (all_replaced p)

    all_replaced : {ts us : FlatTerms} → IsReplacedAmong u v ts us → AmongOnePlace R (plain_all ts) (plain_all us)
    all_replaced (first p) = first_term (plain_replaced p)
    all_replaced (later p) = later_term (all_replaced p)

    nest_replaced : (f : OpId) {ts us : FlatTerms} → IsReplacedAmong u v ts us → AtOnePlace R (nest_all f (plain_all ts)) (nest_all f (plain_all us))
    nest_replaced f (first {t} {w} {ts} p) = head_of_nest f t w ts (plain_replaced p)
    nest_replaced f (later {t} p) = under_nest f t p (nest_replaced f p)

module _ (d : Declarations) (equations : Equations) where
  -- the two terms are one, but for one place, where R relates what stands there
  record Surrounds (R : Term → Term → Type 0) (t u : Term) : Type 0 where
    pub put : Term → Term
    pub left : Term
    pub right : Term
    pub related : R left right
    pub left_is : t ≡ put left
    pub right_is : u ≡ put right
    pub carries : (k : ℕ) (v w : Term) → AtOnePlace (TermSequence d equations k) v w → AtOnePlace (TermSequence d equations k) (put v) (put w)

  -- the same of lists
  record SurroundsAmong (R : Term → Term → Type 0) (ts us : Terms) : Type 0 where
    pub put : Term → Terms
    pub left : Term
    pub right : Term
    pub related : R left right
    pub left_is : ts ≡ put left
    pub right_is : us ≡ put right
    pub carries : (k : ℕ) (v w : Term) → AtOnePlace (TermSequence d equations k) v w → AmongOnePlace (TermSequence d equations k) (put v) (put w)

  mutual
    surrounds : {R : Term → Term → Type 0} {t u : Term} → AtOnePlace R t u → Surrounds R t u
    surrounds (at_term {t} {u} r) = record { put = λ x. x; left = t; right = u; related = r; left_is = refl; right_is = refl; carries = λ k v w p. p }
    surrounds (inside_term {f} p) =
        let s = surrounds_among p in
        record {
          put = λ x. app f (s.put x);
          left = s.left;
          right = s.right;
          related = s.related;
          left_is = ap (app f) s.left_is;
          right_is = ap (app f) s.right_is;
          carries = λ k v w p. inside_term (s.carries k v w p);
        }

    surrounds_among : {R : Term → Term → Type 0} {ts us : Terms} → AmongOnePlace R ts us → SurroundsAmong R ts us
    surrounds_among (first_term {ts} p) =
        let s = surrounds p in
        record {
          put = λ x. more (s.put x) ts;
          left = s.left;
          right = s.right;
          related = s.related;
          left_is = ap (λ (x : Term). more x ts) s.left_is;
          right_is = ap (λ (x : Term). more x ts) s.right_is;
          carries = λ k v w p. first_term (s.carries k v w p);
        }
    surrounds_among (later_term {t} p) =
        let s = surrounds_among p in
        record {
          put = λ x. more t (s.put x);
          left = s.left;
          right = s.right;
          related = s.related;
          left_is = ap (more t) s.left_is;
          right_is = ap (more t) s.right_is;
          carries = λ k v w p. later_term (s.carries k v w p);
        }

  module _ (sequences : SequenceLaws d equations) where
    pub joins_inside : (t u : Term) → AtOnePlace (AreJoinable d equations) t u → AreJoinable d equations t u
    joins_inside t u p =
        let s = surrounds p in
        let j = s.related in
        let run : (k : ℕ) (v w : Term) → TermSequence d equations k v w → TermSequence d equations k (s.put v) (s.put w) = λ k v w q. sequences.inside k (s.put v) (s.put w) (s.carries k v w (at_term q)) in
        record {
          left = s.put j.left;
          right = s.put j.right;
          left_steps = j.left_steps;
          right_steps = j.right_steps;
          left_reached = subst (λ x. TermSequence d equations j.left_steps x (s.put j.left)) (sym s.left_is) (run j.left_steps s.left j.left j.left_reached);
          right_reached = subst (λ x. TermSequence d equations j.right_steps x (s.put j.right)) (sym s.right_is) (run j.right_steps s.right j.right j.right_reached);
          equal = run zero j.left j.right j.equal;
        }

    -- joinable terms may be exchanged for equal ones
    pub joins_modulo : (t u v w : Term) → BEqual d t v → BEqual d u w → AreJoinable d equations t u → AreJoinable d equations v w
    joins_modulo t u v w e f j = record {
      left = j.left;
      right = j.right;
      left_steps = j.left_steps;
      right_steps = j.right_steps;
      left_reached = sequences.before j.left_steps t v j.left e j.left_reached;
      right_reached = sequences.before j.right_steps u w j.right f j.right_reached;
      equal = j.equal;
    }

    pub joins_back : (t u : Term) → AreJoinable d equations t u → AreJoinable d equations u t
    joins_back t u j = record {
      left = j.right;
      right = j.left;
      left_steps = j.right_steps;
      right_steps = j.left_steps;
      left_reached = j.right_reached;
      right_reached = j.left_reached;
      equal = BEqual-sym d j.equal;
    }

    -- what is joinable in a place of a flat form is joinable in the whole
    pub joins_replaced : (g k t u : FlatTerm) → IsReplaced g k t u → AreJoinable d equations (plain g) (plain k) → AreJoinable d equations (plain t) (plain u)
    joins_replaced g k t u p j = joins_inside (plain t) (plain u) (plain_replaced (AreJoinable d equations) g k j p)
