-- A step leads on from a term, or none does.
use Rattle.std.proofs.Common.{◌≡◌, ◌⊎◌, Bool, true, false, List, [], ◌∷◌, refl, subst, inl, inr}
use Rattle.std.specs.List.{All}
use Rattle.std.proofs.lemmas.List.Elements.{All-head, All-tail}
use Rattle.fvn_base.specs.Decided.{Decided}
use Rattle.fvn_terms.specs.declared.plain.OpId.{OpId}
use Rattle.fvn_terms.specs.declared.declarations.Declarations.{Declarations}
use Rattle.fvn_terms.specs.Term.{Term, Terms, none, more}
use Rattle.fvn_terms.specs.Signature.{IsTerm}
use Rattle.fvn_terms.specs.Places.{AtOnePlace, AmongOnePlace, here, inside, first, later, stop}
use Rattle.fvn_terms.specs.Theory.{Equations}
use Rattle.fvn_terms.specs.Rewriting.{Rewrites, ListRewrites, IsReducible, IsIrreducible, IsIrreducibleList}
use Rattle.fvn_terms.specs.Laws.{RewritingLaws}
use Rattle.fvn_terms.proofs.Equal.{BEqual-sym}
use Rattle.fvn_forms.specs.Flat.{FlatTerm, FlatTerms, fvar, fapp, fnone, fmore, funpack, nest, over, plain, plain_all}
use Rattle.fvn_forms.specs.Canon.{canon}
use Rattle.fvn_forms.specs.Good.{IsGood}
use Rattle.fvn_forms.proofs.ToCanon.{to_canon}
use Rattle.fvn_signature.specs.Queries.{IsCompleted}
use Rattle.fvn_flat.specs.Fits.{Fits, AllFit}
use Rattle.fvn_flat.specs.FlatPlaces.{IsReplaced, IsReplacedAmong, here, inside, first, later}
use Rattle.fvn_flat.proofs.Fitting.{args_fit, canon_fits}
use Rattle.fvn_rewrite_laws.specs.Kinds.{HaveOneKind}
use Rattle.fvn_rewrite_laws.specs.Laws.{SequenceLaws}
use Rattle.fvn_rewrite_laws.proofs.Lists.{each_equal_itself}
use Rattle.fvn_rewrite_coherence.specs.PlacedSteps.{IsRedex}
use Rattle.fvn_rewrite_coherence.specs.Laws.{CoherenceLaws}
use Rattle.fvn_rewrite_normal_forms.proofs.Redexes.{IsLeftSide, left_side_or_not, left_side_reduces, redex_is_left_side}

-- a subterm of what an operator stands over is one of the whole
module _ {R : Term → Term → Type 0} where
  among_nested : (f : OpId) {t v : Term} {ts vs : Terms} → AmongOnePlace R (more t ts) (more v vs) → AtOnePlace R (nest f t ts) (nest f v vs)
  among_nested f {ts = none} (first p) = p
  among_nested f {ts = more u us} (first p) = inside (first p)
  among_nested f {t} (later (first p)) = inside (later (first (among_nested f (first p))))
  among_nested f {t} (later (later p)) = inside (later (first (among_nested f (later p))))

  among_over : (f : OpId) (joined : Bool) {ts us : Terms} → AmongOnePlace R ts us → AtOnePlace R (over f joined ts) (over f joined us)
  among_over f false p = inside p
  among_over f true (first p) = among_nested f (first p)
  among_over f true (later p) = among_nested f (later p)

-- a place of a form is the form itself, or one of its arguments
place_cases : {u v : FlatTerm} (f : OpId) (joined : Bool) (ts : FlatTerms) (w : FlatTerm) → IsReplaced u v (fapp f joined ts) w → (u ≡ fapp f joined ts) ⊎ ((us : FlatTerms) × IsReplacedAmong u v ts us)
place_cases f joined ts w here = inl refl
place_cases f joined ts w (inside {us = us} p) = inr (us, p)

place_of_variable : {u v : FlatTerm} (x : _) (w : FlatTerm) → IsReplaced u v (fvar x) w → u ≡ fvar x
place_of_variable x w here = refl

module _ (d : Declarations) (good : IsGood d) (completed : IsCompleted d) (equations : Equations) (kinds : HaveOneKind d equations) (laws : RewritingLaws d equations) where
  -- no redex stands at a place
  abbrev IsWithoutRedex : FlatTerm → Type 0
  IsWithoutRedex t = (u v w : FlatTerm) → IsReplaced u v t w → (r : Term) → IsRedex d equations u r → ⊥

  abbrev AreWithoutRedex : FlatTerms → Type 0
  AreWithoutRedex ts = (u v : FlatTerm) (ws : FlatTerms) → IsReplacedAmong u v ts ws → (r : Term) → IsRedex d equations u r → ⊥

  abbrev SomeReduces : Terms → Type 0
  SomeReduces ts = (us : Terms) × AmongOnePlace (Rewrites d equations) ts us

  -- the form is reducible, or it is no redex
  abbrev TopCase : FlatTerm → Type 0
  TopCase t = IsReducible d equations (plain t) ⊎ ((r : Term) → IsRedex d equations t r → ⊥)

  -- the form is reducible, or no redex stands at its places
  abbrev PlaceCase : FlatTerm → Type 0
  PlaceCase t = IsReducible d equations (plain t) ⊎ IsWithoutRedex t

  top : (t : FlatTerm) → Fits d t → TopCase t
  top t fit = go (left_side_or_not d good t fit equations kinds) where
    go : Decided (IsLeftSide d good t fit equations kinds) → TopCase t
    go (inl w) = inl (left_side_reduces d good t fit equations kinds w)
    go (inr n) = inr (λ r x. n (redex_is_left_side d good completed t fit equations kinds r x))

  mutual
    form_reduces_or_not : (t : FlatTerm) → Fits d t → PlaceCase t
    form_reduces_or_not (fvar x) fit = go (top (fvar x) fit) where
      go : TopCase (fvar x) → PlaceCase (fvar x)
      go (inl w) = inl w
      go (inr n) = inr (λ u v w p r x. n r (subst (λ f. IsRedex d equations f r) (place_of_variable _ w p) x))
    form_reduces_or_not (fapp f joined ts) fit = go (top (fapp f joined ts) fit) (forms_reduce_or_not ts (args_fit (fapp f joined ts) d good.fits fit)) where
      go : TopCase (fapp f joined ts) → SomeReduces (plain_all ts) ⊎ AreWithoutRedex ts → PlaceCase (fapp f joined ts)
      go (inl w) rest = inl w
      go (inr n) (inl w) = inl (over f joined w.0, laws.inside (plain (fapp f joined ts)) (over f joined w.0) (among_over f joined w.1))
      go (inr n) (inr m) = inr (λ u v w p r x. elim (place_cases f joined ts w p) as (λ _. ⊥) [ inl e ↦ n r (subst (λ f. IsRedex d equations f r) e x) | inr q ↦ m u v q.0 q.1 r x ])

    forms_reduce_or_not : (ts : FlatTerms) → AllFit d (funpack ts) → SomeReduces (plain_all ts) ⊎ AreWithoutRedex ts
    forms_reduce_or_not fnone fit = inr none_among where
      none_among : AreWithoutRedex fnone
      none_among u v ws p r x = elim p [ ]
    forms_reduce_or_not (fmore t ts) fit = go (form_reduces_or_not t fit.0) (forms_reduce_or_not ts fit.1) where
      neither : IsWithoutRedex t → AreWithoutRedex ts → (u v : FlatTerm) (ws : FlatTerms) → IsReplacedAmong u v (fmore t ts) ws → (r : Term) → IsRedex d equations u r → ⊥
      neither n m u v _ (first {w = w} p) r x = n u v w p r x
      neither n m u v _ (later {us = us} p) r x = m u v us p r x

      go : PlaceCase t → SomeReduces (plain_all ts) ⊎ AreWithoutRedex ts → SomeReduces (plain_all (fmore t ts)) ⊎ AreWithoutRedex (fmore t ts)
      go (inl w) rest = inl (more w.0 (plain_all ts), first (here w.1))
      go (inr n) (inl w) = inl (more (plain t) w.0, later w.1)
      go (inr n) (inr m) = inr (neither n m)

  module _ (sequences : SequenceLaws d equations) (coherence : CoherenceLaws d equations) where
    pub reducible_or_not : (t : Term) → IsTerm d t → IsReducible d equations t ⊎ IsIrreducible d equations t
    reducible_or_not t h = go (form_reduces_or_not (canon d t) (canon_fits d good.fits t h)) where
      go : IsReducible d equations (plain (canon d t)) ⊎ IsWithoutRedex (canon d t) → IsReducible d equations t ⊎ IsIrreducible d equations t
      go (inl w) = inl (sequences.reducible (plain (canon d t)) t (BEqual-sym d (to_canon d good.fits t h.0 h.1)) w)
      go (inr n) = inr (λ u r. let p = coherence.placed t u h r in n p.at p.given p.replaced p.replaces (plain p.given) p.redex)

    -- some step of the list
    abbrev pub IsReducibleList : List Term → Type 0
    IsReducibleList ts = (us : List Term) × ListRewrites d equations ts us

    pub list_reducible_or_not : (ts : List Term) → All (IsTerm d) ts → IsReducibleList ts ⊎ IsIrreducibleList d equations ts
    list_reducible_or_not [] h = inr (λ us r. r)
    list_reducible_or_not (t ∷ ts) h = go (reducible_or_not t (All-head (IsTerm d) t ts h)) (list_reducible_or_not ts (All-tail (IsTerm d) t ts h)) where
      neither : IsIrreducible d equations t → IsIrreducibleList d equations ts → (us : List Term) → ListRewrites d equations (t ∷ ts) us → ⊥
      neither n m [] r = r
      neither n m (u ∷ us) (inl r) = n u r.0
      neither n m (u ∷ us) (inr r) = m us r.1

      go : IsReducible d equations t ⊎ IsIrreducible d equations t → IsReducibleList ts ⊎ IsIrreducibleList d equations ts → IsReducibleList (t ∷ ts) ⊎ IsIrreducibleList d equations (t ∷ ts)
      go (inl w) rest = inl (w.0 ∷ ts, inl (w.1, each_equal_itself d ts))
      go (inr n) (inl w) = inl (t ∷ w.0, inr (stop, w.1))
      go (inr n) (inr m) = inr (neither n m)
