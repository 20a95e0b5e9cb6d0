-- What the normal forms of both results show.
use Rattle.std.proofs.Common.{◌≡◌, ◌⊎◌, ℕ, List, inl, inr, sym, ◌∙◌, subst, arith}
use Rattle.std.specs.Prelude.{Option, None, Some}
use Rattle.fvn_terms.specs.declared.declarations.Declarations.{Declarations}
use Rattle.fvn_terms.specs.Term.{Term}
use Rattle.fvn_terms.specs.Substitution.{Substitution, apply}
use Rattle.fvn_terms.specs.Places.{stop}
use Rattle.fvn_terms.specs.Equality.{BEqual}
use Rattle.fvn_terms.specs.Unifiers.{Problem}
use Rattle.fvn_terms.specs.Theory.{Equations}
use Rattle.fvn_terms.specs.Rewriting.{TermSequence}
use Rattle.fvn_terms.proofs.Equal.{BEqual-sym}
use Rattle.fvn_forms.specs.Flat.{FlatTerm, plain}
use Rattle.fvn_forms.specs.Canon.{inst}
use Rattle.fvn_forms.proofs.Eval.{canon_plain, canon_respects}
use Rattle.fvn_flat.specs.Bindings.{Bindings, value}
use Rattle.fvn_flat.specs.Fits.{Fits}
use Rattle.fvn_flat.specs.declared.solver.SizeCause.TheVariants.{Problem as OfProblem, Binding, Term as OfTerm}
use Rattle.fvn_rewrite_laws.specs.Laws.{SequenceLaws}
use Rattle.fvn_rewrite_laws.specs.Normalised.{IsReached, IsForm, IsUnfinished, IsTooLarge}
use Rattle.fvn_theory.specs.declared.equation.Equation.{Equation}
use Rattle.fvn_rewrite.specs.Usable.{Rewriting, equations_by}
use Rattle.fvn_places.specs.Putting.{PutAs}
use Rattle.fvn_critical_pairs.specs.Overlaps.{Overlap, inner_result, JoinsUnder}
use Rattle.fvn_critical_pairs.specs.Divergence.{Diverge}
use Rattle.fvn_critical_pairs.specs.Laws.{AreBothReached, OverlapsAreSteps}
use Rattle.fvn_critical.specs.declared.pairing.Meeting.{Meeting}
use Rattle.fvn_critical.specs.declared.fault.CriticalFault.{CriticalFault}
use Rattle.fvn_critical.specs.declared.fault.CriticalFault.TheVariants.{Sorts, Apart, Steps, Size, Basis, Unifiers}
use Rattle.fvn_critical.specs.Faults.{IsCriticalForm, IsCriticalFault}
use Rattle.fvn_critical.specs.inner.Comparing.{InOrderOfNumbers, AgainstAs}
use Rattle.fvn_critical.specs.inner.Testing.{overlap_in, IsDrawnFor, TestedAs}
use Rattle.fvn_critical.proofs.Forms.{used_by, IsKnown, by, first_told, first_fits, first_equal, second_told, second_fits, second_equal, start_kinded}

-- the same with the two exchanged
turned : (d : Declarations) (equations : List Equation) (m n : ℕ) (t u : Term) → Diverge d equations m n t u → Diverge d equations n m u t
turned d equations m n t u w = record {
  start = w.start;
  kinded = w.kinded;
  first = w.second;
  second = w.first;
  first_ends = w.second_ends;
  second_ends = w.first_ends;
  apart = λ e. w.apart (BEqual-sym d e);
}

module _ (r : Rewriting) (drawn : Problem → Substitution → Type 0) (unifiers : ℕ) where
  -- a search that was stopped
  pub unfinished : (t start end : FlatTerm) → IsCriticalForm r drawn t → Fits r.signature t → IsUnfinished r.signature (equations_by r) t r.bounds start end → IsCriticalFault r drawn unifiers (Steps start end)
  unfinished t start end told fits f = record {
    told = subst (IsCriticalForm r drawn) (sym f.is) told;
    fits = subst (Fits r.signature) (sym f.is) fits;
    reached = subst (λ w. IsReached r.signature (equations_by r) r.bounds.steps w end) (sym f.is) f.reached;
    reducible = f.reducible;
  }

  pub too_large : (t end : FlatTerm) → IsCriticalForm r drawn t → IsTooLarge r.signature (equations_by r) t r.bounds end → IsCriticalFault r drawn unifiers (Size (OfTerm end))
  too_large t end told f = record { start = t; told = told; steps = f.reached.count; reached = f.reached.reached; large = let l = f.large in omega arith }

module _ (r : Rewriting) (m : Meeting) (k : IsKnown r m) (drawn : Problem → Substitution → Type 0) (unifiers : ℕ) (s : Bindings) (u : IsDrawnFor r drawn (overlap_in m) s) where
  abbrev result : FlatTerm
  result = inst r.signature (value s) m.outer.now.right

  pub first_unfinished : (start end : FlatTerm) → IsUnfinished r.signature (equations_by r) result r.bounds start end → IsCriticalFault r drawn unifiers (Steps start end)
  first_unfinished start end f = unfinished r drawn unifiers result start end (first_told r m k drawn s u) (first_fits r m k drawn s u) f

  pub first_too_large : (end : FlatTerm) → IsTooLarge r.signature (equations_by r) result r.bounds end → IsCriticalFault r drawn unifiers (Size (OfTerm end))
  first_too_large end f = too_large r drawn unifiers result end (first_told r m k drawn s u) f

module _ (r : Rewriting) (m : Meeting) (k : IsKnown r m) (sequences : SequenceLaws r.signature (equations_by r)) (steps : OverlapsAreSteps) (drawn : Problem → Substitution → Type 0) (unifiers : ℕ)
    (s : Bindings) (u : IsDrawnFor r drawn (overlap_in m) s) (whole : FlatTerm) (put : PutAs r.signature m.path.now m.outer.now.left m.inner.now.right whole) where
  abbrev o : Overlap
  o = overlap_in m

  abbrev d : Declarations
  d = r.signature

  abbrev equations : Equations
  equations = equations_by r

  abbrev first : FlatTerm
  first = inst d (value s) o.outer.right

  abbrev second : FlatTerm
  second = inst d (value s) whole

  abbrev c : Substitution
  c = by r m k drawn s u

  -- sequences to the normal forms
  from_first : (left : FlatTerm) → (f : IsForm d equations first r.bounds left) → TermSequence d equations f.reached.count (apply c (plain o.outer.right)) (plain left)
  from_first left f =
      sequences.before f.reached.count (plain first) (apply c (plain o.outer.right)) (plain left) (first_equal r m k drawn s u) f.reached.reached.sequence

  from_second : (right : FlatTerm) → (f : IsForm d equations second r.bounds right) → TermSequence d equations f.reached.count (apply c (plain (inner_result o))) (plain right)
  from_second right f =
      sequences.before f.reached.count (plain second) (apply c (plain (inner_result o))) (plain right) (second_equal r m k drawn s u whole put) f.reached.reached.sequence

  joins : (left : FlatTerm) → IsForm d equations first r.bounds left → IsForm d equations second r.bounds left → JoinsUnder d equations o c
  joins left f g = record {
    left = plain left;
    right = plain left;
    left_steps = f.reached.count;
    right_steps = g.reached.count;
    left_reached = from_first left f;
    right_reached = from_second left g;
    equal = stop;
  }

  -- two forms that are one
  pub joins_at_once : first ≡ second → JoinsUnder d equations o c
  joins_at_once e = record {
    left = plain first;
    right = plain first;
    left_steps = 0;
    right_steps = 0;
    left_reached = BEqual-sym d (first_equal r m k drawn s u);
    right_reached = BEqual-sym d (subst (λ w. BEqual d (plain w) (apply c (plain (inner_result o)))) (sym e) (second_equal r m k drawn s u whole put));
    equal = stop;
  }

  both : AreBothReached d r.rules.equations o c
  both = steps d r.rules (used_by r k.good k.completed k.usable) m.next o k.testable c u.unifies

  diverges : (left right : FlatTerm) → IsForm d equations first r.bounds left → IsForm d equations second r.bounds right → (left ≡ right → ⊥) →
      Diverge d r.rules.equations o.outer.equation o.inner.equation (plain left) (plain right)
  diverges left right f g different = record {
    start = apply c (plain o.outer.left);
    kinded = start_kinded r m k drawn s u;
    first = record { next = apply c (plain o.outer.right); first = both.outer; count = f.reached.count; rest = from_first left f };
    second = record { next = apply c (plain (inner_result o)); first = both.inner; count = g.reached.count; rest = from_second right g };
    first_ends = f.irreducible;
    second_ends = g.irreducible;
    apart = λ e. different (sym (canon_plain d left f.reached.reached.fits.flat) ∙ canon_respects d e ∙ canon_plain d right g.reached.reached.fits.flat);
  }

  in_order : (left right : FlatTerm) (a b : ℕ) (t w : FlatTerm) → Diverge d r.rules.equations o.outer.equation o.inner.equation (plain left) (plain right) →
      InOrderOfNumbers o.outer.equation o.inner.equation left right a b t w → IsCriticalFault r drawn unifiers (Apart a b t w)
  in_order left right a b t w h n = (n.ordered, go n.are)
    where
      go : ((a ≡ o.outer.equation) × (b ≡ o.inner.equation) × (t ≡ left) × (w ≡ right)) ⊎ ((a ≡ o.inner.equation) × (b ≡ o.outer.equation) × (t ≡ right) × (w ≡ left)) → Diverge d r.rules.equations a b (plain t) (plain w)
      go (inl e) = rw (e.0, e.1, e.2, e.3) h
      go (inr e) = rw (e.0, e.1, e.2, e.3) (turned d r.rules.equations o.outer.equation o.inner.equation (plain left) (plain right) h)

  pub tried_against : (left : FlatTerm) → IsForm d equations first r.bounds left → (f : Option CriticalFault) → AgainstAs o.outer.equation o.inner.equation left r second f → TestedAs r drawn unifiers (JoinsUnder d equations o c) f
  tried_against left f None h = joins left f h
  tried_against left f (Some (Sorts n)) h = absurd h
  tried_against left f (Some (Apart a b t w)) h = in_order left h.0 a b t w (diverges left h.0 f h.1 h.2) h.3
  tried_against left f (Some (Steps start end)) h = unfinished r drawn unifiers second start end (second_told r m k drawn s u whole put) (second_fits r m k drawn s u whole put) h
  tried_against left f (Some (Size (OfProblem given))) h = absurd h
  tried_against left f (Some (Size (Binding list))) h = absurd h
  tried_against left f (Some (Size (OfTerm end))) h = too_large r drawn unifiers second end (second_told r m k drawn s u whole put) h
  tried_against left f (Some (Basis g system)) h = absurd h
  tried_against left f (Some (Unifiers given list)) h = absurd h
