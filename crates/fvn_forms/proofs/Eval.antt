-- The flat form of a term is settled, and is one for terms that are equal modulo the axioms.
use Rattle.std.proofs.Common.{◌≡◌, ◌≤◌, true, false, [], ◌∷◌, ◌++◌, refl, sym, ap, ◌∙◌, subst, inl, inr, arith}
use Rattle.std.specs.Prelude.{◌↔◌}
use Rattle.std.specs.List.{AllByRecursion}
use Rattle.std.proofs.lemmas.List.{append-nil}
use Rattle.fvn_terms.specs.declared.plain.Var.{Var}
use Rattle.fvn_terms.specs.declared.plain.OpId.{OpId}
use Rattle.fvn_terms.specs.declared.declarations.Axioms.{Axioms}
use Rattle.fvn_terms.specs.declared.declarations.Axioms.TheVariants.{Free, Comm, AssocComm, AssocCommId}
use Rattle.fvn_terms.specs.declared.declarations.Declarations.{Declarations}
use Rattle.fvn_terms.specs.Term.{Term, Terms, var, app, none, more}
use Rattle.fvn_terms.specs.Signature.{axioms}
use Rattle.fvn_terms.specs.Substitution.{Substitution, apply, apply_all}
use Rattle.fvn_terms.specs.Places.{AtOnePlace, AmongOnePlace, here, inside, first, later, stop, step}
use Rattle.fvn_terms.specs.Equality.{IsAssociative, IsAxiom, IsAxiomEitherWay, BEqual, swap, shift, right_identity, left_identity}
use Rattle.fvn_forms.specs.Flat.{FlatTerm, FlatTerms, fvar, fapp, fnone, fmore, fpack, funpack, nest, plain, plain_all}
use Rattle.fvn_forms.specs.InOrder.{count}
use Rattle.fvn_forms.specs.Canon.{parts, all_parts, sum, built, build, eval, eval_all, canon}
use Rattle.fvn_forms.specs.Settled.{FitsUnjoined, Settled, SettledAll, SettledValues, FlatIn}
use Rattle.fvn_forms.proofs.InOrder.{sort_in_order, count_append, count_sort}
use Rattle.fvn_forms.proofs.Sums.{fpack-funpack, sum_in_order, parts_sum, sum_parts, sum_same_counts, all_parts-pieces, all_parts_are_pieces}
use Rattle.fvn_forms.proofs.Build.{build_settled, build_sum, build_swap, build_shift, build_right_identity, build_left_identity}

module _ (d : Declarations) where
  module _ (s : Var → FlatTerm) (settled : SettledValues d s) where
    mutual
      pub eval_settled : (t : Term) → Settled d (eval d s t)
      eval_settled (var x) = settled x
      eval_settled (app f ts) = build_settled d f (eval_all d s ts) (eval_all_settled ts)

      pub eval_all_settled : (ts : Terms) → AllByRecursion (Settled d) (eval_all d s ts)
      eval_all_settled none = tt
      eval_all_settled (more t ts) = (eval_settled t, eval_all_settled ts)

    eval_axiom : (t u : Term) → IsAxiom d t u → eval d s t ≡ eval d s u
    eval_axiom _ _ (swap {f} {t} {u} c) = build_swap d f c (eval d s t) (eval d s u)
    eval_axiom _ _ (shift {f} {t} {u} {v} a) = build_shift d f a (eval d s t) (eval d s u) (eval d s v) (eval_settled t) (eval_settled u) (eval_settled v)
    eval_axiom _ _ (right_identity {f} {e = o} {t} e h k) = build_right_identity d f o e (eval d s t) (eval_settled t)
    eval_axiom _ _ (left_identity {f} {e = o} {t} e h k) = build_left_identity d f o e (eval d s t) (eval_settled t)

    eval_either_way : (t u : Term) → IsAxiomEitherWay d t u → eval d s t ≡ eval d s u
    eval_either_way t u (inl a) = eval_axiom t u a
    eval_either_way t u (inr a) = sym (eval_axiom u t a)

    mutual
      eval_step : {t u : Term} → AtOnePlace (IsAxiomEitherWay d) t u → eval d s t ≡ eval d s u
      eval_step (here {t} {u} a) = eval_either_way t u a
      eval_step (inside {f} p) = ap (build d f) (eval_steps p)

      eval_steps : {ts us : Terms} → AmongOnePlace (IsAxiomEitherWay d) ts us → eval_all d s ts ≡ eval_all d s us
      eval_steps (first {ts = ts} p) = ap (λ a. a ∷ eval_all d s ts) (eval_step p)
      eval_steps (later {t} p) = ap (λ l. eval d s t ∷ l) (eval_steps p)

    -- terms that are equal modulo the axioms have one value
    pub eval_respects : {t u : Term} → BEqual d t u → eval d s t ≡ eval d s u
    eval_respects stop = refl
    eval_respects (step p q) = eval_step p ∙ eval_respects q

  pub fvar_settled : SettledValues d fvar
  fvar_settled x = tt

  pub canon_settled : (t : Term) → Settled d (canon d t)
  canon_settled t = eval_settled fvar fvar_settled t

  pub canon_respects : {t u : Term} → BEqual d t u → canon d t ≡ canon d u
  canon_respects p = eval_respects fvar fvar_settled p

  -- the value of an instance
  mutual
    pub eval_apply : (s : Var → FlatTerm) (c : Substitution) (t : Term) → eval d s (apply c t) ≡ eval d (λ x. eval d s (c x)) t
    eval_apply s c (var x) = refl
    eval_apply s c (app f ts) = ap (build d f) (eval_all_apply s c ts)

    pub eval_all_apply : (s : Var → FlatTerm) (c : Substitution) (ts : Terms) → eval_all d s (apply_all c ts) ≡ eval_all d (λ x. eval d s (c x)) ts
    eval_all_apply s c none = refl
    eval_all_apply s c (more t ts) = ap (λ a. a ∷ eval_all d s (apply_all c ts)) (eval_apply s c t) ∙ ap (λ l. eval d (λ x. eval d s (c x)) t ∷ l) (eval_all_apply s c ts)

  -- the value of a nested sum
  module _ (s : Var → FlatTerm) (settled : SettledValues d s) (f : OpId) (assoc : IsAssociative (axioms d f)) where
    pub eval_nest : (t : Term) (ts : Terms) → eval d s (nest f t ts) ≡ sum d f (all_parts d f (eval d s t ∷ eval_all d s ts))
    eval_nest t none = sym (ap (sum d f) (append-nil (parts d f (eval d s t))) ∙ sum_parts d f (eval d s t) (eval_settled s settled t))
    eval_nest t (more u us) =
        let rest = eval d s (nest f u us) in
        let within : AllByRecursion (Settled d) (eval d s u ∷ eval_all d s us) = (eval_settled s settled u, eval_all_settled s settled us) in
        build_sum d f assoc (eval d s t) (rest ∷ [])
        ∙ sum_same_counts d f (all_parts d f (eval d s t ∷ rest ∷ [])) (all_parts d f (eval d s t ∷ eval d s u ∷ eval_all d s us))
        (λ q.
        let a = count_append q (parts d f (eval d s t)) (parts d f rest ++ []) in
        let b = count_append q (parts d f rest) [] in
        let c = count_append q (parts d f (eval d s t)) (all_parts d f (eval d s u ∷ eval_all d s us)) in
        let e = ap (λ r. count q (parts d f r)) (eval_nest u us) in
        let g = ap (count q) (parts_sum d f (all_parts d f (eval d s u ∷ eval_all d s us)) (all_parts_are_pieces d f (eval d s u ∷ eval_all d s us) within)) in
        let h = count_sort q (all_parts d f (eval d s u ∷ eval_all d s us)) in
        omega arith)

  build_unjoined : (f : OpId) (t : FlatTerm) (ts : FlatTerms) → FitsUnjoined d (axioms d f) (t ∷ funpack ts) → build d f (t ∷ funpack ts) ≡ fapp f false (fmore t ts)
  build_unjoined f t ts h = go (axioms d f) h
    where
      go : (a : Axioms) → FitsUnjoined d a (t ∷ funpack ts) → built d a f (t ∷ funpack ts) ≡ fapp f false (fmore t ts)
      go Free k = ap (λ us. fapp f false (fmore t us)) (fpack-funpack ts)
      go Comm k = ap (λ l. fapp f false (fpack l)) (sort_in_order (t ∷ funpack ts) k) ∙ ap (λ us. fapp f false (fmore t us)) (fpack-funpack ts)
      go AssocComm k = cc
      go (AssocCommId e) k = cc

  -- a settled form is the flat form of its plain term
  mutual
    pub canon_plain : (t : FlatTerm) → Settled d t → canon d (plain t) ≡ t
    canon_plain (fvar x) h = refl
    canon_plain (fapp f true fnone) h = let n : 2 ≤ 0 = h.0.two_or_more in absurd (omega arith)
    canon_plain (fapp f true (fmore t ts)) h =
        let all = canon_plain_all (fmore t ts) h.1 in
        eval_nest fvar fvar_settled f h.0.associative (plain t) (plain_all ts)
        ∙ ap (λ l. sum d f (all_parts d f l)) all
        ∙ ap (sum d f) (all_parts-pieces d f (t ∷ funpack ts) h.0.pieces)
        ∙ sum_in_order d f (t ∷ funpack ts) h.0.in_order h.0.two_or_more
        ∙ ap (fapp f true) (fpack-funpack (fmore t ts))
    canon_plain (fapp f false fnone) h = refl
    canon_plain (fapp f false (fmore t ts)) h = ap (build d f) (canon_plain_all (fmore t ts) h.1) ∙ build_unjoined f t ts h.0

    pub canon_plain_all : (ts : FlatTerms) → SettledAll d ts → eval_all d fvar (plain_all ts) ≡ funpack ts
    canon_plain_all fnone h = refl
    canon_plain_all (fmore t ts) h = ap (λ a. a ∷ eval_all d fvar (plain_all ts)) (canon_plain t h.0) ∙ ap (λ l. t ∷ l) (canon_plain_all ts h.1)

  pub settled_iff_flat : (t : FlatTerm) → Settled d t ↔ FlatIn d t
  settled_iff_flat t = (canon_plain t, λ e. subst (Settled d) e (canon_settled (plain t)))
