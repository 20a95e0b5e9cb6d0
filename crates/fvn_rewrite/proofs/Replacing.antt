-- One argument of a form replaced.
use Rattle.std.proofs.Common.{◌≡◌, ℕ, ◌+◌, true, false, List, [], ◌∷◌, ◌++◌, length, take, drop, Some, refl, sym, ap, ◌∙◌, subst, arith}
use Rattle.std.proofs.lemmas.List.{length-append}
use Rattle.fvn_terms.specs.declared.plain.OpId.{OpId}
use Rattle.fvn_terms.specs.declared.declarations.Axioms.{Axioms}
use Rattle.fvn_terms.specs.declared.declarations.Axioms.TheVariants.{Free, Comm, AssocComm, AssocCommId}
use Rattle.fvn_terms.specs.declared.declarations.Declarations.{Declarations}
use Rattle.fvn_terms.specs.Term.{Term, Terms, app, none, more}
use Rattle.fvn_terms.specs.Signature.{axioms}
use Rattle.fvn_terms.specs.Places.{AtOnePlace, AmongOnePlace, here, inside, first, later}
use Rattle.fvn_terms.specs.Equality.{IsAssociative, BEqual}
use Rattle.fvn_terms.specs.Theory.{Equations}
use Rattle.fvn_terms.specs.Rewriting.{Rewrites}
use Rattle.fvn_terms.specs.Laws.{RewritingIsLawful}
use Rattle.fvn_terms.proofs.Equal.{BEqual-refl}
use Rattle.fvn_forms.specs.Flat.{FlatTerm, fvar, fapp, fpack, nest, nest_all, plain, plain_all}
use Rattle.fvn_forms.specs.Settled.{FitsUnjoined, Settled}
use Rattle.fvn_forms.specs.FitsKinds.{FitsKinds}
use Rattle.fvn_forms.proofs.Sums.{fpack-funpack}
use Rattle.fvn_flat.specs.Forms.{head_of, args_of}
use Rattle.fvn_flat.specs.Fits.{Fits, AllFit, Takes, operator_over, plain_over}
use Rattle.fvn_places.proofs.Replacing.{split_at, each_replaced, takes_replaced}
use Rattle.fvn_rewrite_laws.specs.Kinds.{HaveOneKind}
use Rattle.fvn_rewrite_laws.specs.Laws.{KindedTheoriesAreLawful}
use Rattle.fvn_rewrite.specs.inner.Walking.{ArgumentSteps}

-- a step of one summand is one of the nested sum
module _ (R : Term → Term → Type 0) where
  pub among_arguments : (before : List FlatTerm) (a u : FlatTerm) (after : List FlatTerm) → R (plain a) (plain u) → AmongOnePlace R (plain_all (fpack (before ++ a ∷ after))) (plain_all (fpack (before ++ u ∷ after)))
  among_arguments [] a u after r = first (here r)
  among_arguments (t ∷ before) a u after r = later (among_arguments before a u after r)

  nest_first : (f : OpId) (t u : Term) (ts : Terms) → AtOnePlace R t u → AtOnePlace R (nest f t ts) (nest f u ts)
  nest_first f t u none r = r
  nest_first f t u (more v vs) r = inside (first r)

  nest_later : (f : OpId) (t : Term) (ts us : Terms) → AmongOnePlace R ts us → AtOnePlace R (nest_all f ts) (nest_all f us) → AtOnePlace R (nest f t ts) (nest f t us)
  nest_later f t none us r i = elim r [ ]
  nest_later f t (more v vs) none r i = elim r [ ]
  nest_later f t (more v vs) (more w ws) r i = inside (later (first i))

  pub nest_among : (f : OpId) (ts us : Terms) → AmongOnePlace R ts us → AtOnePlace R (nest_all f ts) (nest_all f us)
  nest_among f ts us (first {t} {u} {ts = rest} r) = nest_first f t u rest r
  nest_among f ts us (later {t} {ts = rest} {us = others} r) = nest_later f t rest others r (nest_among f rest others r)

module _ (d : Declarations) where
  -- one argument is replaced by another form
  module _ (before : List FlatTerm) (a u : FlatTerm) (after : List FlatTerm) where
    abbrev replaced : List FlatTerm
    replaced = before ++ u ∷ after

    some_argument : (l : List FlatTerm) → l ≡ before ++ a ∷ after → l ≡ [] → ⊥
    some_argument l e n = let m = ap length (sym n ∙ e) in let q = length-append before (a ∷ after) in absurd (omega arith)

    -- by one that it steps to: the operator over the arguments steps too
    module _ (R : Term → Term → Type 0) (r : R (plain a) (plain u)) where
      steps_joined : (f : OpId) → IsAssociative (axioms d f) → AtOnePlace R (nest_all f (plain_all (fpack (before ++ a ∷ after)))) (plain_over d f replaced)
      steps_joined f assoc = go (axioms d f) assoc
        where
          at : AtOnePlace R (nest_all f (plain_all (fpack (before ++ a ∷ after)))) (nest_all f (plain_all (fpack replaced)))
          at = nest_among R f (plain_all (fpack (before ++ a ∷ after))) (plain_all (fpack replaced)) (among_arguments R before a u after r)

          go : (x : Axioms) → IsAssociative x → AtOnePlace R (nest_all f (plain_all (fpack (before ++ a ∷ after)))) (operator_over x f (plain_all (fpack replaced)))
          go Free i = absurd i
          go Comm i = absurd i
          go AssocComm i = at
          go (AssocCommId o) i = at

      steps_unjoined : (f : OpId) → FitsUnjoined d (axioms d f) (before ++ a ∷ after) → AtOnePlace R (app f (plain_all (fpack (before ++ a ∷ after)))) (plain_over d f replaced)
      steps_unjoined f free = go (axioms d f) free
        where
          at : AtOnePlace R (app f (plain_all (fpack (before ++ a ∷ after)))) (app f (plain_all (fpack replaced)))
          at = inside (among_arguments R before a u after r)

          go : (x : Axioms) → FitsUnjoined d x (before ++ a ∷ after) → AtOnePlace R (app f (plain_all (fpack (before ++ a ∷ after)))) (operator_over x f (plain_all (fpack replaced)))
          go Free i = at
          go Comm i = at
          go AssocComm i = absurd (some_argument (before ++ a ∷ after) refl i)
          go (AssocCommId o) i = absurd (some_argument (before ++ a ∷ after) refl i)

      pub steps_replaced : (t : FlatTerm) (f : OpId) → head_of t ≡ Some f → args_of t ≡ before ++ a ∷ after → Settled d t → AtOnePlace R (plain t) (plain_over d f replaced)
      steps_replaced (fvar x) f head e h = cc
      steps_replaced (fapp g true ts) f head e h =
          let q : g ≡ f = cc in
          subst (λ o. AtOnePlace R (nest_all g (plain_all ts)) (plain_over d o replaced)) q
          (subst (λ us. AtOnePlace R (nest_all g (plain_all us)) (plain_over d g replaced)) (sym (ap fpack e) ∙ fpack-funpack ts) (steps_joined g h.0.associative))
      steps_replaced (fapp g false ts) f head e h =
          let q : g ≡ f = cc in
          subst (λ o. AtOnePlace R (app g (plain_all ts)) (plain_over d o replaced)) q
          (subst (λ us. AtOnePlace R (app g (plain_all us)) (plain_over d g replaced)) (sym (ap fpack e) ∙ fpack-funpack ts) (steps_unjoined g (subst (FitsUnjoined d (axioms d g)) e h.0)))

  -- an argument at a place that steps to a form which comes in its place
  module _ (fits : FitsKinds d) (equations : Equations) (t : FlatTerm) (f : OpId) (head : head_of t ≡ Some f) (h : Fits d t) (place : ℕ) (u : FlatTerm) (s : ArgumentSteps d equations t place u) where
    around : args_of t ≡ take place (args_of t) ++ s.argument ∷ drop (place + 1) (args_of t)
    around = split_at (args_of t) place s.argument s.is

    -- what comes in place of it fits with the others
    pub arguments_fit : AllFit d (args_of t) → AllFit d (take place (args_of t) ++ u ∷ drop (place + 1) (args_of t))
    arguments_fit all = each_replaced (Fits d) (take place (args_of t)) s.argument u (drop (place + 1) (args_of t)) (subst (AllFit d) around all) s.next.fits

    pub arguments_taken : KindedTheoriesAreLawful → HaveOneKind d equations → Takes d f (take place (args_of t) ++ u ∷ drop (place + 1) (args_of t))
    arguments_taken laws kinds =
        takes_replaced d fits (take place (args_of t)) s.argument u (drop (place + 1) (args_of t)) ((laws d fits equations kinds).steps (plain s.argument) (plain u) s.next.steps) t f head around h

    pub whole_steps : RewritingIsLawful → (whole : FlatTerm) → BEqual d (plain_over d f (take place (args_of t) ++ u ∷ drop (place + 1) (args_of t))) (plain whole) → Rewrites d equations (plain t) (plain whole)
    whole_steps laws whole equal =
        let over = plain_over d f (take place (args_of t) ++ u ∷ drop (place + 1) (args_of t)) in
        let at = (laws d equations).inside (plain t) over
        (steps_replaced (take place (args_of t)) s.argument u (drop (place + 1) (args_of t)) (Rewrites d equations) s.next.steps t f head around h.flat) in
        (laws d equations).modulo (plain t) (plain t) over (plain whole) (BEqual-refl d (plain t)) at equal
