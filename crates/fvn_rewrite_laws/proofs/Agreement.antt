-- Substitutions that agree on terms.
use Rattle.std.proofs.Common.{◌≡◌, ℕ, suc, List, [], ◌∷◌, map, refl, subst, inl, inr, arith}
use Rattle.std.specs.List.{AllZip, All}
use Rattle.std.proofs.lemmas.List.Elements.{All-nil, All-cons, All-head, All-tail}
use Rattle.fvn_terms.specs.declared.plain.Var.{Var}
use Rattle.fvn_terms.specs.declared.declarations.Declarations.{Declarations}
use Rattle.fvn_terms.specs.Term.{Term, Terms, var, app, none, more}
use Rattle.fvn_terms.specs.Substitution.{Substitution, apply, apply_all, followed_by, OccursAmong}
use Rattle.fvn_terms.specs.Equality.{IsAxiomEitherWay, BEqual}
use Rattle.fvn_terms.specs.Sorts.{IsWellSorted}
use Rattle.fvn_terms.specs.Unifiers.{Problem, IsUnifier, Solves}
use Rattle.fvn_terms.specs.Theory.{Equations}
use Rattle.fvn_terms.specs.Rewriting.{IsIrreducible, ListSequence}
use Rattle.fvn_terms.specs.Variants.{IsVariant, IsWithin, OccursInSome}
use Rattle.fvn_terms.specs.Laws.{RewritingLaws}
use Rattle.fvn_terms.proofs.Substitutions.{apply-apply}
use Rattle.fvn_terms.proofs.Steps.{EachLeads, each_none, each_more}
use Rattle.fvn_terms.proofs.Equal.{BEqual-trans, BEqual-sym, BEqual-inside}
use Rattle.fvn_terms.proofs.WellSorted.{IsWellSorted-followed_by}
use Rattle.fvn_rewrite_laws.specs.Agreement.{AgreeOn, AgreeOnAll, TakesBack}
use Rattle.fvn_rewrite_laws.specs.Laws.{AgreementLaws}
use Rattle.fvn_rewrite_laws.proofs.Sequences.{irreducible_modulo, irreducible_taken_back}
use Rattle.fvn_rewrite_laws.proofs.Lists.{each_equal_back, list_before, list_instance}

module _ (d : Declarations) where
  mutual
    pub equal_by_agreement : (s c : Substitution) (t : Term) → AgreeOn d t s c → BEqual d (apply s t) (apply c t)
    equal_by_agreement s c (var x) h = h x refl
    equal_by_agreement s c (app f ts) h = BEqual-inside d f (each_by_agreement s c ts h)

    each_by_agreement : (s c : Substitution) (ts : Terms) → ((x : Var) → OccursAmong x ts → BEqual d (s x) (c x)) → EachLeads (IsAxiomEitherWay d) (apply_all s ts) (apply_all c ts)
    each_by_agreement s c none h = each_none
    each_by_agreement s c (more t ts) h = each_more (equal_by_agreement s c t (λ x o. h x (inl o))) (each_by_agreement s c ts (λ x o. h x (inr o)))

  agree_first : (t : Term) (ts : List Term) (s c : Substitution) → AgreeOnAll d (t ∷ ts) s c → AgreeOn d t s c
  agree_first t ts s c h x o = h x (0, t, omega arith, refl, o)

  agree_later : (t : Term) (ts : List Term) (s c : Substitution) → AgreeOnAll d (t ∷ ts) s c → AgreeOnAll d ts s c
  agree_later t ts s c h x o = h x (suc o.0, o.1, omega (arith, o.2), o.3, o.4)

  pub each_equal_by_agreement : (ts : List Term) (s c : Substitution) → AgreeOnAll d ts s c → AllZip (BEqual d) (map (apply s) ts) (map (apply c) ts)
  each_equal_by_agreement [] s c h = tt
  each_equal_by_agreement (t ∷ ts) s c h = (equal_by_agreement s c t (agree_first t ts s c h), each_equal_by_agreement ts s c (agree_later t ts s c h))

  unifier_by_agreement : (problem : Problem) (s c : Substitution) → IsUnifier d problem s → IsWellSorted d c → All (λ p. AgreeOn d p.0 s c × AgreeOn d p.1 s c) problem → IsUnifier d problem c
  unifier_by_agreement problem s c h sorted agree = (sorted, solved problem h.1 agree) where
    solved : (l : Problem) → Solves (BEqual d) l s → All (λ p. AgreeOn d p.0 s c × AgreeOn d p.1 s c) l → Solves (BEqual d) l c
    solved [] a b = All-nil (λ p. BEqual d (apply c p.0) (apply c p.1))
    solved (p ∷ l) a b =
        let e = All-head (λ p. BEqual d (apply s p.0) (apply s p.1)) p l a in
        let g = All-head (λ p. AgreeOn d p.0 s c × AgreeOn d p.1 s c) p l b in
        All-cons (λ p. BEqual d (apply c p.0) (apply c p.1)) p l
        (BEqual-trans d (BEqual-sym d (equal_by_agreement s c p.0 g.0)) (BEqual-trans d e (equal_by_agreement s c p.1 g.1)))
        (solved l (All-tail (λ p. BEqual d (apply s p.0) (apply s p.1)) p l a) (All-tail (λ p. AgreeOn d p.0 s c × AgreeOn d p.1 s c) p l b))

  module _ (equations : Equations) (laws : RewritingLaws d equations) where
    fixed_by_agreement : (fixed : List Term) (s c : Substitution) → AgreeOnAll d fixed s c → All (λ t. IsIrreducible d equations (apply s t)) fixed → All (λ t. IsIrreducible d equations (apply c t)) fixed
    fixed_by_agreement [] s c agree h = All-nil (λ t. IsIrreducible d equations (apply c t))
    fixed_by_agreement (t ∷ ts) s c agree h =
        All-cons (λ t. IsIrreducible d equations (apply c t)) t ts
        (irreducible_modulo d equations laws (apply s t) (apply c t) (equal_by_agreement s c t (agree_first t ts s c agree)) (All-head (λ t. IsIrreducible d equations (apply s t)) t ts h))
        (fixed_by_agreement ts s c (agree_later t ts s c agree) (All-tail (λ t. IsIrreducible d equations (apply s t)) t ts h))

    variant_by_agreement : (fixed ts us : List Term) (s c : Substitution) → IsVariant d equations fixed ts us s → IsWellSorted d c → AgreeOnAll d ts s c → AgreeOnAll d fixed s c → IsVariant d equations fixed ts us c
    variant_by_agreement fixed ts us s c v sorted agree agree_fixed = record {
      well_sorted = sorted;
      values = λ x o. irreducible_modulo d equations laws (s x) (c x) (agree x o) (v.values x o);
      stay = fixed_by_agreement fixed s c agree_fixed v.stay;
      irreducible = v.irreducible;
      steps = v.steps;
      sequence = list_before d equations laws v.steps (map (apply s) ts) (map (apply c) ts) us (each_equal_back d (map (apply s) ts) (map (apply c) ts) (each_equal_by_agreement ts s c agree)) v.sequence;
    }

    within_by_agreement : (most : ℕ) (ts : List Term) (s c : Substitution) → IsWithin d equations most ts s → AgreeOnAll d ts s c → IsWithin d equations most ts c
    within_by_agreement most ts s c h agree k us q = h k us (list_before d equations laws k (map (apply c) ts) (map (apply s) ts) us (each_equal_by_agreement ts s c agree) q)

    fixed_renamed : (fixed : List Term) (s r back : Substitution) → IsWellSorted d back → All (λ t. TakesBack d back r (apply s t)) fixed → All (λ t. IsIrreducible d equations (apply s t)) fixed → All (λ t. IsIrreducible d equations (apply (followed_by s r) t)) fixed
    fixed_renamed [] s r back sorted e h = All-nil (λ t. IsIrreducible d equations (apply (followed_by s r) t))
    fixed_renamed (t ∷ ts) s r back sorted e h =
        All-cons (λ t. IsIrreducible d equations (apply (followed_by s r) t)) t ts
        (subst (IsIrreducible d equations) (apply-apply s r t)
        (irreducible_taken_back d equations laws r back sorted (apply s t) (All-head (λ t. TakesBack d back r (apply s t)) t ts e) (All-head (λ t. IsIrreducible d equations (apply s t)) t ts h)))
        (fixed_renamed ts s r back sorted (All-tail (λ t. TakesBack d back r (apply s t)) t ts e) (All-tail (λ t. IsIrreducible d equations (apply s t)) t ts h))

    reached_renamed : (us : List Term) (r back : Substitution) → IsWellSorted d back → All (TakesBack d back r) us → All (IsIrreducible d equations) us → All (IsIrreducible d equations) (map (apply r) us)
    reached_renamed [] r back sorted e h = All-nil (IsIrreducible d equations)
    reached_renamed (u ∷ us) r back sorted e h =
        All-cons (IsIrreducible d equations) (apply r u) (map (apply r) us)
        (irreducible_taken_back d equations laws r back sorted u (All-head (TakesBack d back r) u us e) (All-head (IsIrreducible d equations) u us h))
        (reached_renamed us r back sorted (All-tail (TakesBack d back r) u us e) (All-tail (IsIrreducible d equations) u us h))

    instances_followed : (s r : Substitution) (ts : List Term) → map (apply r) (map (apply s) ts) ≡ map (apply (followed_by s r)) ts
    instances_followed s r [] = refl
    instances_followed s r (t ∷ ts) = rw (apply-apply s r t, instances_followed s r ts) refl

    variant_renamed : (fixed ts us : List Term) (s r back : Substitution) → IsVariant d equations fixed ts us s → IsWellSorted d r → IsWellSorted d back →
        ((x : Var) → OccursInSome x ts → TakesBack d back r (s x)) → All (λ t. TakesBack d back r (apply s t)) fixed → All (TakesBack d back r) us →
        IsVariant d equations fixed ts (map (apply r) us) (followed_by s r)
    variant_renamed fixed ts us s r back v sorted sorted_back values stay reached = record {
      well_sorted = IsWellSorted-followed_by d s r v.well_sorted sorted;
      values = λ x o. irreducible_taken_back d equations laws r back sorted_back (s x) (values x o) (v.values x o);
      stay = fixed_renamed fixed s r back sorted_back stay v.stay;
      irreducible = (laws.lists (map (apply r) us)).1 (reached_renamed us r back sorted_back reached ((laws.lists us).0 v.irreducible));
      steps = v.steps;
      sequence = subst (λ l. ListSequence d equations v.steps l (map (apply r) us)) (instances_followed s r ts) (list_instance d equations laws r sorted v.steps (map (apply s) ts) us v.sequence);
    }

    pub agreement_laws : AgreementLaws d equations
    agreement_laws = record {
      terms = equal_by_agreement;
      unifiers = unifier_by_agreement;
      variants = variant_by_agreement;
      within = within_by_agreement;
      covered = λ vars ts s us c e h agree. record { by = h.by; well_sorted = h.well_sorted; same_terms = h.same_terms; same_values = λ x m. BEqual-trans d (BEqual-sym d (agree x m)) (h.same_values x m) };
      renamed = variant_renamed;
    }
