-- What is found of a side, and of two sides whose forms were found.
use Rattle.std.proofs.Common.{◌≡◌, ◌≤◌, ◌<◌, ◌-◌, ◌^◌, ℕ, sym, subst, ◌∙◌, arith, None}
use Rattle.fvn_terms.specs.declared.plain.Plain.{Plain}
use Rattle.fvn_terms.specs.declared.declarations.Declarations.{Declarations}
use Rattle.fvn_terms.specs.Term.{Term}
use Rattle.fvn_terms.specs.Plain.{term}
use Rattle.fvn_terms.specs.Signature.{KeepsKinds, IsTerm}
use Rattle.fvn_terms.specs.Substitution.{Substitution, apply}
use Rattle.fvn_terms.specs.Equality.{BEqual}
use Rattle.fvn_terms.specs.Theory.{Equations}
use Rattle.fvn_theory.specs.declared.bounds.Bounds.{Bounds}
use Rattle.fvn_terms.specs.Rewriting.{TermSequence}
use Rattle.fvn_terms.specs.Laws.{RewritingIsLawful, TheoryEqualityIsLawful}
use Rattle.fvn_terms.proofs.Equal.{BEqual-sym, BEqual-trans, HasKind-apply}
use Rattle.fvn_forms.specs.Flat.{FlatTerm, plain}
use Rattle.fvn_forms.specs.FitsKinds.{FitsKinds}
use Rattle.fvn_forms.specs.Laws.{EqualityIsThatOfFlatForms}
use Rattle.fvn_forms.proofs.Eval.{canon_plain}
use Rattle.fvn_flat.specs.Fits.{Fits}
use Rattle.fvn_flat.specs.declared.solver.Normal.{Normal}
use Rattle.fvn_flat.specs.declared.solver.Normal.TheVariants.{Form, Steps, Size}
use Rattle.fvn_rewrite_laws.specs.Kinds.{HaveOneKind}
use Rattle.fvn_rewrite_laws.specs.Laws.{SequencesAreLawful, KindedTheoriesAreLawful}
use Rattle.fvn_rewrite_laws.specs.Admissible.{AreAdmissible}
use Rattle.fvn_rewrite_laws.specs.Normalised.{counted, IsNormalised}
use Rattle.fvn_verify.specs.Verdicts.{setting, instance, AreEqual, IsFormOf, MeetInForm}
use Rattle.fvn_verify.specs.declared.comparing.Compared.TheVariants.{Found}
use Rattle.fvn_verify.specs.inner.Comparing.{AreKinded, IsSideAs, IsFlatForm, HasTwoInstances, AreDifferent, IsCompared}

-- an instance of a well-kinded term is well-kinded
pub instance-kinded : (d : Declarations) (s : Substitution) → KeepsKinds d s → (t : Term) → IsTerm d t → IsTerm d (apply s t)
instance-kinded d s keeps t h = (h.0, HasKind-apply d s keeps t h.0 h.1)

module _ (d : Declarations) (equations : Equations) (s : Substitution) (bounds : Bounds) where
  -- a search from the flat form of a side
  module _ (laws : SequencesAreLawful) (t : Plain) (f : FlatTerm) (flat : IsFlatForm (setting d equations s bounds) t f) where
    -- what a sequence from the form reaches is reached from the side
    from_side : (k : ℕ) (u : FlatTerm) → TermSequence d equations k (plain f) (plain u) → TermSequence d equations k (instance s t) (plain u)
    from_side k u q = (laws d equations).before k (plain f) (instance s t) (plain u) (BEqual-sym d flat.equal) q

    -- what is found of the form is found of the side
    pub side_as : bounds.size < 2 ^ 64 - 1 → (n : Normal) → IsNormalised d equations f bounds n → IsSideAs (setting d equations s bounds) t n
    side_as limit (Form u) h = record {
      count = h.reached.count;
      within = h.reached.within;
      reached = from_side h.reached.count u h.reached.reached.sequence;
      fits = h.reached.reached.fits;
      irreducible = h.irreducible;
      small = let small : counted u ≤ bounds.size = h.small in omega (arith, small, limit);
    }
    side_as limit (Steps start u) h = record {
      start_is = h.is ∙ flat.is;
      start_fits = subst (Fits d) (sym h.is) flat.fits;
      sequence = from_side bounds.steps u h.reached.sequence;
      fits = h.reached.fits;
      reducible = h.reducible;
    }
    side_as limit (Size u) h = record {
      count = h.reached.count;
      within = h.reached.within;
      sequence = from_side h.reached.count u h.reached.reached.sequence;
      fits = h.reached.reached.fits;
      large = let large : bounds.size < counted u = h.large in omega (arith, large);
    }

  -- sides that meet in a form are equal in the theory
  pub meet_equal : RewritingIsLawful → TheoryEqualityIsLawful → (p : Plain × Plain) → MeetInForm (setting d equations s bounds) p → AreEqual d equations s p
  meet_equal rewriting theory p h =
      (theory d equations).equivalence.transitive (instance s p.0) (plain h.0) (instance s p.1)
      ((rewriting d equations).theory h.1.0.count (instance s p.0) (plain h.0) h.1.0.reached)
      ((theory d equations).equivalence.symmetric (instance s p.1) (plain h.0)
      ((rewriting d equations).theory h.1.1.count (instance s p.1) (plain h.0) h.1.1.reached))

  -- a form of the left side is one of the right side, where both have one flat form
  pub equal_sides_meet : SequencesAreLawful → RewritingIsLawful → TheoryEqualityIsLawful → (p : Plain × Plain) (f l : FlatTerm) →
      IsFlatForm (setting d equations s bounds) p.0 f → IsFlatForm (setting d equations s bounds) p.1 f → IsFormOf (setting d equations s bounds) p.0 l →
      IsCompared (setting d equations s bounds) p (Found None)
  equal_sides_meet laws rewriting theory p f l flat other form =
      let right : IsFormOf (setting d equations s bounds) p.1 l =
      record {
        count = form.count;
        within = form.within;
        reached = (laws d equations).before form.count (instance s p.0) (instance s p.1) (plain l) (BEqual-trans d flat.equal (BEqual-sym d other.equal)) form.reached;
        fits = form.fits;
        irreducible = form.irreducible;
        small = form.small;
      } in
      let meet : MeetInForm (setting d equations s bounds) p = (l, (form, right)) in
      ((l, form), ((l, right), (meet_equal rewriting theory p meet, meet)))

  -- sides of two flat forms are not equal modulo the axioms
  pub two_instances : EqualityIsThatOfFlatForms → FitsKinds d → KeepsKinds d s → (p : Plain × Plain) → AreKinded d p → (f g : FlatTerm) →
      IsFlatForm (setting d equations s bounds) p.0 f → IsFlatForm (setting d equations s bounds) p.1 g → (f ≡ g → ⊥) → HasTwoInstances (setting d equations s bounds) p
  two_instances same fits keeps p kinded f g left right n e =
      n
      (left.is
      ∙ (same d fits (instance s p.0) (instance s p.1) (instance-kinded d s keeps (term p.0) kinded.0) (instance-kinded d s keeps (term p.1) kinded.1)).0 e
      ∙ sym right.is)

  -- sides of different forms are not equal in the theory, where the equations are confluent
  module _ (same : EqualityIsThatOfFlatForms) (laws : KindedTheoriesAreLawful) (fits : FitsKinds d) (admissible : AreAdmissible d equations) (keeps : KeepsKinds d s) where
    kinds : HaveOneKind d equations
    kinds = λ equation listed. (admissible equation listed).kinded.kinds

    pub are_different : (p : Plain × Plain) → AreKinded d p → (l r : FlatTerm) → IsFormOf (setting d equations s bounds) p.0 l → IsFormOf (setting d equations s bounds) p.1 r → (l ≡ r → ⊥) →
        HasTwoInstances (setting d equations s bounds) p → AreDifferent (setting d equations s bounds) p l r
    are_different p kinded l r left right n instances =
        let differ : BEqual d (plain l) (plain r) → ⊥ =
        λ e. n (sym (canon_plain d l left.fits.flat) ∙ (same d fits (plain l) (plain r) left.fits.kinded right.fits.kinded).0 e ∙ canon_plain d r right.fits.flat) in
        record {
          left_form = left;
          right_form = right;
          differ = differ;
          instances = instances;
          apart = λ confluent e.
              differ
              ((laws d fits equations kinds).one_normal_form confluent (instance s p.0) (instance s p.1) (plain l) (plain r) left.count right.count
              (instance-kinded d s keeps (term p.0) kinded.0) e left.reached right.reached left.irreducible right.irreducible);
        }
