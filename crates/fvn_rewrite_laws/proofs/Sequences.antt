-- Sequences of terms, and irreducible terms, modulo the axioms.
use Rattle.std.proofs.Common.{ℕ, zero, suc}
use Rattle.fvn_terms.specs.declared.declarations.Declarations.{Declarations}
use Rattle.fvn_terms.specs.Term.{Term, Terms, app, more}
use Rattle.fvn_terms.specs.Substitution.{Substitution, apply}
use Rattle.fvn_terms.specs.Places.{AtOnePlace, AmongOnePlace, here, inside, first, later, Leads, stop}
use Rattle.fvn_terms.specs.Equality.{IsAxiomEitherWay, BEqual}
use Rattle.fvn_terms.specs.Sorts.{IsWellSorted}
use Rattle.fvn_terms.specs.Theory.{Equations}
use Rattle.fvn_terms.specs.Rewriting.{Rewrites, TermSequence, IsReducible, IsIrreducible}
use Rattle.fvn_terms.specs.Laws.{RewritingLaws}
use Rattle.fvn_terms.proofs.Steps.{Leads-map}
use Rattle.fvn_terms.proofs.Equal.{BEqual-trans, BEqual-sym}
use Rattle.fvn_rewrite_laws.specs.Agreement.{TakesBack}
use Rattle.fvn_rewrite_laws.specs.Laws.{SequenceLaws}

-- a step at one place in two parts
mutual
  split : {R P Q : Term → Term → Type 0} → ((t u : Term) → R t u → (v : Term) × (P t v × Q v u)) → {t u : Term} → AtOnePlace R t u → (v : Term) × (AtOnePlace P t v × AtOnePlace Q v u)
  split h (here {t} {u} r) = let w = h t u r in (w.0, (here w.1.0, here w.1.1))
  split h (inside {f} p) = let w = split_among h p in (app f w.0, (inside w.1.0, inside w.1.1))

  split_among : {R P Q : Term → Term → Type 0} → ((t u : Term) → R t u → (v : Term) × (P t v × Q v u)) → {ts us : Terms} → AmongOnePlace R ts us → (vs : Terms) × (AmongOnePlace P ts vs × AmongOnePlace Q vs us)
  split_among h (first {ts} p) = let w = split h p in (more w.0 ts, (first w.1.0, first w.1.1))
  split_among h (later {t} p) = let w = split_among h p in (more t w.0, (later w.1.0, later w.1.1))

module _ (d : Declarations) where
  -- what is equal at one place is equal
  mutual
    pub equal_inside : {t u : Term} → AtOnePlace (BEqual d) t u → BEqual d t u
    equal_inside (here e) = e
    equal_inside (inside {f} p) = Leads-map (app f) (λ _ _. inside) (equal_among p)

    equal_among : {ts us : Terms} → AmongOnePlace (BEqual d) ts us → Leads (AmongOnePlace (IsAxiomEitherWay d)) ts us
    equal_among (first {ts} p) = Leads-map (λ (v : Term). more v ts) (λ _ _. first) (equal_inside p)
    equal_among (later {t} p) = Leads-map (more t) (λ _ _. later) (equal_among p)

  module _ (equations : Equations) (laws : RewritingLaws d equations) where
    pub sequence_before : (k : ℕ) (t v u : Term) → BEqual d t v → TermSequence d equations k t u → TermSequence d equations k v u
    sequence_before zero t v u e q = BEqual-trans d (BEqual-sym d e) q
    sequence_before (suc k) t v u e q = (q.0, (laws.modulo t v q.0 q.0 e q.1.0 stop, q.1.1))

    pub sequence_after : (k : ℕ) (t u v : Term) → TermSequence d equations k t u → BEqual d u v → TermSequence d equations k t v
    sequence_after zero t u v q e = BEqual-trans d q e
    sequence_after (suc k) t u v q e = (q.0, (q.1.0, sequence_after k q.0 u v q.1.1 e))

    pub sequence_inside : (k : ℕ) (t u : Term) → AtOnePlace (TermSequence d equations k) t u → TermSequence d equations k t u
    sequence_inside zero t u p = equal_inside p
    sequence_inside (suc k) t u p =
        let w = split {P = Rewrites d equations} {Q = TermSequence d equations k} (λ v w q. q) p in
        (w.0, (laws.inside t w.0 w.1.0, sequence_inside k w.0 u w.1.1))

    pub reducible_modulo : (t u : Term) → BEqual d t u → IsReducible d equations t → IsReducible d equations u
    reducible_modulo t u e r = (r.0, laws.modulo t u r.0 r.0 e r.1 stop)

    pub irreducible_modulo : (t u : Term) → BEqual d t u → IsIrreducible d equations t → IsIrreducible d equations u
    irreducible_modulo t u e h v r = h v (laws.modulo u t v v (BEqual-sym d e) r stop)

    pub irreducible_back : (s : Substitution) → IsWellSorted d s → (t : Term) → IsIrreducible d equations (apply s t) → IsIrreducible d equations t
    irreducible_back s sorted t h u r = h (apply s u) (laws.instances s sorted t u r)

    pub irreducible_taken_back : (r back : Substitution) → IsWellSorted d back → (t : Term) → TakesBack d back r t → IsIrreducible d equations t → IsIrreducible d equations (apply r t)
    irreducible_taken_back r back sorted t e h = irreducible_back back sorted (apply r t) (irreducible_modulo t (apply back (apply r t)) (BEqual-sym d e) h)

    pub sequence_laws : SequenceLaws d equations
    sequence_laws = record {
      before = sequence_before;
      after = sequence_after;
      one = λ t u r. (u, (r, stop));
      inside = sequence_inside;
      reducible = reducible_modulo;
      irreducible = irreducible_modulo;
      instances = irreducible_back;
      taken_back = irreducible_taken_back;
    }
