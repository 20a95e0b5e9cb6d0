-- Axioms keep the variables of a term, and steps with equations bring no new ones.
use Rattle.std.proofs.Common.{ℕ, zero, suc, refl, subst, sym, inl, inr}
use Rattle.fvn_terms.specs.declared.plain.Var.{Var}
use Rattle.fvn_terms.specs.declared.declarations.Declarations.{Declarations}
use Rattle.fvn_terms.specs.Term.{Term, Terms, var, app, none, more}
use Rattle.fvn_terms.specs.Substitution.{Substitution, apply, apply_all, Occurs, OccursAmong}
use Rattle.fvn_terms.specs.Places.{AtOnePlace, AmongOnePlace, here, inside, first, later, stop, step}
use Rattle.fvn_terms.specs.Equality.{IsAxiom, swap, shift, right_identity, left_identity, IsAxiomEitherWay, BEqual}
use Rattle.fvn_terms.specs.Theory.{Equations, IsRule}
use Rattle.fvn_terms.specs.Rewriting.{Rewrites, TermSequence, BringsNoVariable}

module _ (x : Var) where
  -- what stands in an instance stands in the value of a variable
  mutual
    pub occurs_value : (s : Substitution) (t : Term) → Occurs x (apply s t) → (y : Var) × (Occurs y t × Occurs x (s y))
    occurs_value s (var y) o = (y, (refl, o))
    occurs_value s (app f ts) o = occurs_values s ts o

    occurs_values : (s : Substitution) (ts : Terms) → OccursAmong x (apply_all s ts) → (y : Var) × (OccursAmong y ts × Occurs x (s y))
    occurs_values s none o = absurd o
    occurs_values s (more t ts) (inl o) = let r = occurs_value s t o in (r.0, (inl r.1.0, r.1.1))
    occurs_values s (more t ts) (inr o) = let r = occurs_values s ts o in (r.0, (inr r.1.0, r.1.1))

  mutual
    pub occurs_instance : (s : Substitution) (t : Term) (y : Var) → Occurs y t → Occurs x (s y) → Occurs x (apply s t)
    occurs_instance s (var z) y e o = subst (λ v. Occurs x (s v)) e o
    occurs_instance s (app f ts) y m o = occurs_instances s ts y m o

    occurs_instances : (s : Substitution) (ts : Terms) (y : Var) → OccursAmong y ts → Occurs x (s y) → OccursAmong x (apply_all s ts)
    occurs_instances s none y m o = absurd m
    occurs_instances s (more t ts) y (inl m) o = inl (occurs_instance s t y m o)
    occurs_instances s (more t ts) y (inr m) o = inr (occurs_instances s ts y m o)

  mutual
    at_place : {R : Term → Term → Type 0} → ((t u : Term) → R t u → Occurs x u → Occurs x t) → {t u : Term} → AtOnePlace R t u → Occurs x u → Occurs x t
    at_place h (here {t} {u} r) o = h t u r o
    at_place h (inside p) o = among_places h p o

    among_places : {R : Term → Term → Type 0} → ((t u : Term) → R t u → Occurs x u → Occurs x t) → {ts us : Terms} → AmongOnePlace R ts us → OccursAmong x us → OccursAmong x ts
    among_places h (first p) (inl o) = inl (at_place h p o)
    among_places h (first p) (inr o) = inr o
    among_places h (later p) (inl o) = inl o
    among_places h (later p) (inr o) = inr (among_places h p o)

  module _ (d : Declarations) where
    axiom_back : (t u : Term) → IsAxiom d t u → Occurs x u → Occurs x t
    axiom_back _ _ (swap c) (inl o) = inr (inl o)
    axiom_back _ _ (swap c) (inr (inl o)) = inl o
    axiom_back _ _ (swap c) (inr (inr o)) = absurd o
    axiom_back _ _ (shift a) (inl o) = inl (inl o)
    axiom_back _ _ (shift a) (inr (inl (inl o))) = inl (inr (inl o))
    axiom_back _ _ (shift a) (inr (inl (inr (inl o)))) = inr (inl o)
    axiom_back _ _ (shift a) (inr (inl (inr (inr o)))) = absurd o
    axiom_back _ _ (shift a) (inr (inr o)) = absurd o
    axiom_back _ _ (right_identity i k h) o = inl o
    axiom_back _ _ (left_identity i k h) o = inr (inl o)

    axiom_on : (t u : Term) → IsAxiom d t u → Occurs x t → Occurs x u
    axiom_on _ _ (swap c) (inl o) = inr (inl o)
    axiom_on _ _ (swap c) (inr (inl o)) = inl o
    axiom_on _ _ (swap c) (inr (inr o)) = absurd o
    axiom_on _ _ (shift a) (inl (inl o)) = inl o
    axiom_on _ _ (shift a) (inl (inr (inl o))) = inr (inl (inl o))
    axiom_on _ _ (shift a) (inl (inr (inr o))) = absurd o
    axiom_on _ _ (shift a) (inr (inl o)) = inr (inl (inr (inl o)))
    axiom_on _ _ (shift a) (inr (inr o)) = absurd o
    axiom_on _ _ (right_identity i k h) (inl o) = o
    axiom_on _ _ (right_identity i k h) (inr (inl o)) = absurd o
    axiom_on _ _ (right_identity i k h) (inr (inr o)) = absurd o
    axiom_on _ _ (left_identity i k h) (inl o) = absurd o
    axiom_on _ _ (left_identity i k h) (inr (inl o)) = o
    axiom_on _ _ (left_identity i k h) (inr (inr o)) = absurd o

    either_back : (t u : Term) → IsAxiomEitherWay d t u → Occurs x u → Occurs x t
    either_back t u (inl a) o = axiom_back t u a o
    either_back t u (inr a) o = axiom_on u t a o

    -- a variable of one stands in each term that is equal to it modulo the axioms
    pub BEqual-occurs : (t u : Term) → BEqual d t u → Occurs x u → Occurs x t
    BEqual-occurs t u stop o = o
    BEqual-occurs t u (step r p) o = at_place either_back r (BEqual-occurs _ u p o)

    module _ (equations : Equations) (bound : BringsNoVariable equations) where
      rule_back : (t u : Term) → IsRule d equations t u → Occurs x u → Occurs x t
      rule_back t u r o =
          let right = occurs_value r.by r.right (subst (Occurs x) r.to o) in
          subst (Occurs x) (sym r.from) (occurs_instance r.by r.left right.0 (bound r.left r.right r.listed right.0 right.1.0) right.1.1)

      -- a step brings no new variable
      pub Rewrites-occurs : (t u : Term) → Rewrites d equations t u → Occurs x u → Occurs x t
      Rewrites-occurs t u r o = BEqual-occurs t r.from r.before (at_place rule_back r.replaced (BEqual-occurs r.to u r.after o))

      pub TermSequence-occurs : (k : ℕ) (t u : Term) → TermSequence d equations k t u → Occurs x u → Occurs x t
      TermSequence-occurs zero t u q o = BEqual-occurs t u q o
      TermSequence-occurs (suc k) t u q o = Rewrites-occurs t q.0 q.1.0 (TermSequence-occurs k q.0 u q.1.1 o)
