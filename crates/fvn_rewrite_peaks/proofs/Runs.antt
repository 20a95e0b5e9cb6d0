-- Where values have sequences, instances have them.
use Rattle.std.proofs.Common.{ℕ, ◌+◌}
use Rattle.fvn_terms.specs.declared.declarations.Declarations.{Declarations}
use Rattle.fvn_terms.specs.Term.{Term, Terms, var, app, none, more}
use Rattle.fvn_terms.specs.Substitution.{Substitution, apply, apply_all}
use Rattle.fvn_terms.specs.Places.{AmongOnePlace, here, inside, first, later, stop}
use Rattle.fvn_terms.specs.Theory.{Equations}
use Rattle.fvn_terms.specs.Rewriting.{TermSequence}
use Rattle.fvn_terms.specs.Laws.{RewritingLaws}
use Rattle.fvn_rewrite_laws.specs.Laws.{SequenceLaws}
use Rattle.fvn_rewrite_peaks.specs.Laws.{ValuesLeadOn}

module _ (d : Declarations) (equations : Equations) (laws : RewritingLaws d equations) (sequences : SequenceLaws d equations) (s c : Substitution) (lead : ValuesLeadOn d equations s c) where
  -- what is put around arguments carries sequences of one of these
  abbrev Carries : (Terms → Term) → Type 0
  Carries put = (k : ℕ) (us vs : Terms) → AmongOnePlace (TermSequence d equations k) us vs → TermSequence d equations k (put us) (put vs)

  mutual
    pub instance_runs : (t : Term) → (k : ℕ) × TermSequence d equations k (apply s t) (apply c t)
    instance_runs (var x) = lead x
    instance_runs (app f ts) = let w = instances_run ts in (w.0, w.1 (app f) (λ k us vs p. sequences.inside k (app f us) (app f vs) (inside p)))

    instances_run : (ts : Terms) → (k : ℕ) × ((put : Terms → Term) → Carries put → TermSequence d equations k (put (apply_all s ts)) (put (apply_all c ts)))
    instances_run none = (0, λ put carries. stop)
    instances_run (more t ts) =
        let a = instance_runs t in
        let b = instances_run ts in (
          a.0 + b.0,
          λ put carries.
              laws.joined a.0 b.0 (put (more (apply s t) (apply_all s ts))) (put (more (apply c t) (apply_all s ts))) (put (more (apply c t) (apply_all c ts)))
              (carries a.0 (more (apply s t) (apply_all s ts)) (more (apply c t) (apply_all s ts)) (first (here a.1)))
              (b.1 (λ us. put (more (apply c t) us)) (λ k us vs p. carries k (more (apply c t) us) (more (apply c t) vs) (later p))),
        )
