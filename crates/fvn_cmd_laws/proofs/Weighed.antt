-- What is told of weights is exact, and one thing.
use Rattle.std.proofs.Common.{◌≡◌, ℕ, suc, List, Option, Some, None, refl, sym, ap, ◌∙◌, subst, inl, inr}
use Rattle.std.specs.Prelude.{slice_get}
use Rattle.std.proofs.lemmas.Bool.{cases_order}
use Rattle.fvn_base.proofs.Options.{Some-injective}
use Rattle.fvn_terms.specs.declared.plain.OpId.{OpId}
use Rattle.fvn_terms.specs.declared.declarations.Declarations.{Declarations}
use Rattle.fvn_theory.specs.declared.equation.Equation.{Equation}
use Rattle.fvn_syntax.specs.declared.names.Names.{Names}
use Rattle.fvn_module.specs.Contents.{Contents}
use Rattle.fvn_weights.specs.declared.weights.Weights.{Weights}
use Rattle.fvn_weights.specs.declared.fault.WeighFault.{WeighFault}
use Rattle.fvn_weights.specs.declared.fault.WeighFault.TheVariants.{Shape, TooBig, Grows, NoMemory}
use Rattle.fvn_weights.specs.Values.{Linear}
use Rattle.fvn_weights.specs.Weighing.{linear, IsBig, IsGrowing, IsFalling, IsFirstOf, IsWeighFault, AreWeighed}
use Rattle.fvn_cmd_texts.specs.Weighings.{weigh_fault_text, weighing_text}
use Rattle.fvn_cmd.specs.declared.status.Status.{Status}
use Rattle.fvn_cmd.specs.declared.status.Status.TheVariants.{Solved}
use Rattle.fvn_cmd.specs.Statuses.{IsAnswering}
use Rattle.fvn_cmd.specs.Texts.{line, Is}
use Rattle.fvn_cmd_terminates.specs.Weighings.{status_of_weighing, AreWeighedBy, AreTerminatingIn, IsWeighed, TellsWeighing}
use Rattle.fvn_cmd_laws.specs.Weighed.{IsWeighingExact}
use Rattle.fvn_cmd_laws.specs.Laws.{WeighingsAreExact}

pub weighing_answering : (found : Option WeighFault) → IsAnswering (status_of_weighing found)
weighing_answering None = tt
weighing_answering (Some fault) = tt

same_operator : (f g : OpId) → f.0 ≡ g.0 → f ≡ g
same_operator f g e = λ i. record { 0 = e i }

module _ (w : Linear) (equations : List Equation) where
  -- of two first equations at which something is that does not fall, neither is before the other
  module _ (P Q : Equation → Type 0) (n k : ℕ) (a : IsFirstOf w equations P n) (b : IsFirstOf w equations Q k) (p : IsFalling w a.equation → ⊥) (q : IsFalling w b.equation → ⊥) where
    one_place : a.before ≡ b.before
    one_place = elim (cases_order a.before b.before) [
      | inl e ↦ e
      | inr o ↦ elim o [
        | inl less ↦ absurd (p (b.earlier a.before a.equation less a.is))
        | inr less ↦ absurd (q (a.earlier b.before b.equation less b.is))
      ]
    ]

    one_number : n ≡ k
    one_number = a.number_is ∙ ap suc one_place ∙ sym b.number_is

    one_equation : a.equation ≡ b.equation
    one_equation = Some-injective (sym a.is ∙ ap (slice_get equations) one_place ∙ b.is)

  big_not_falling : (n : ℕ) (a : IsFirstOf w equations (IsBig w) n) → IsFalling w a.equation → ⊥
  big_not_falling n a f = f.small a.holds

  growing_not_falling : (n : ℕ) (a : IsFirstOf w equations (λ e. (IsBig w e → ⊥) × IsGrowing w e) n) → IsFalling w a.equation → ⊥
  growing_not_falling n a f = f.falls a.holds.1

  big_or_growing : (n k : ℕ) → IsFirstOf w equations (IsBig w) n → IsFirstOf w equations (λ e. (IsBig w e → ⊥) × IsGrowing w e) k → ⊥
  big_or_growing n k a b =
      let same : a.equation ≡ b.equation = one_equation (IsBig w) (λ e. (IsBig w e → ⊥) × IsGrowing w e) n k a b (big_not_falling n a) (growing_not_falling k b) in
      b.holds.0 (subst (IsBig w) same a.holds)

  module _ (d : Declarations) (names : Names) where
    -- weights with a fault do not weigh
    not_weighed : (fault : WeighFault) (words : List ℕ) → weigh_fault_text names fault ≡ Some words → IsWeighFault d equations w fault → AreWeighed d equations w → ⊥
    not_weighed (Shape f) words told h all = h.0 (all.fit f)
    not_weighed (TooBig n) words told h all = big_not_falling n h.1 (all.fall h.1.before h.1.equation h.1.is)
    not_weighed (Grows n) words told h all = growing_not_falling n h.1 (all.fall h.1.before h.1.equation h.1.is)
    not_weighed NoMemory words told h all = cc

    -- but for want of memory, weights have one first fault
    one_fault : (f g : WeighFault) (v u : List ℕ) → weigh_fault_text names f ≡ Some v → weigh_fault_text names g ≡ Some u → IsWeighFault d equations w f → IsWeighFault d equations w g → f ≡ g
    one_fault (Shape f) (Shape g) v u s t h k = elim (cases_order f.0 g.0) [
      | inl e ↦ ap Shape (same_operator f g e)
      | inr o ↦ elim o [
        | inl less ↦ absurd (h.0 (k.1 f less))
        | inr less ↦ absurd (k.0 (h.1 g less))
      ]
    ]
    one_fault (Shape f) (TooBig n) v u s t h k = absurd (h.0 (k.0 f))
    one_fault (Shape f) (Grows n) v u s t h k = absurd (h.0 (k.0 f))
    one_fault (TooBig n) (Shape f) v u s t h k = absurd (k.0 (h.0 f))
    one_fault (Grows n) (Shape f) v u s t h k = absurd (k.0 (h.0 f))
    one_fault (TooBig n) (TooBig j) v u s t h k = ap TooBig (one_number (IsBig w) (IsBig w) n j h.1 k.1 (big_not_falling n h.1) (big_not_falling j k.1))
    one_fault (TooBig n) (Grows j) v u s t h k = absurd (big_or_growing n j h.1 k.1)
    one_fault (Grows n) (TooBig j) v u s t h k = absurd (big_or_growing j n k.1 h.1)
    one_fault (Grows n) (Grows j) v u s t h k =
        ap Grows (one_number (λ e. (IsBig w e → ⊥) × IsGrowing w e) (λ e. (IsBig w e → ⊥) × IsGrowing w e) n j h.1 k.1 (growing_not_falling n h.1) (growing_not_falling j k.1))
    one_fault NoMemory g v u s t h k = cc
    one_fault (Shape f) NoMemory v u s t h k = cc
    one_fault (TooBig n) NoMemory v u s t h k = cc
    one_fault (Grows n) NoMemory v u s t h k = cc

module _ (m : Contents) (w : Weights) where
  one_found : (f g : Option WeighFault) (v u : List ℕ) → weighing_text m.names f ≡ Some v → weighing_text m.names g ≡ Some u → IsWeighed m w f → IsWeighed m w g → f ≡ g
  one_found None None v u s t h k = refl
  one_found None (Some g) v u s t h k = absurd (not_weighed (linear w.list) m.equations m.signature m.names g u t k h.0)
  one_found (Some f) None v u s t h k = absurd (not_weighed (linear w.list) m.equations m.signature m.names f v s h k.0)
  one_found (Some f) (Some g) v u s t h k = ap Some (one_fault (linear w.list) m.equations m.signature m.names f g v u s t h k)

  one : (s : Status) (t : List ℕ) (u : Status) (v : List ℕ) → TellsWeighing m w s t → TellsWeighing m w u v → Is s t u v
  one s t u v a b =
      let same : b.found ≡ a.found = one_found b.found a.found b.shown.words a.shown.words b.shown.told a.shown.told b.right a.right in
      let words : b.shown.words ≡ a.shown.words = Some-injective (sym b.shown.told ∙ ap (weighing_text m.names) same ∙ a.shown.told) in
      (b.status_is ∙ ap status_of_weighing same ∙ sym a.status_is, b.shown.text_is ∙ ap line words ∙ sym a.shown.text_is)

  module _ (s : Status) (t : List ℕ) where
    -- where the status is Solved, no fault was found
    solved_found : (found : Option WeighFault) → s ≡ status_of_weighing found → s ≡ Solved → found ≡ None
    solved_found None is e = refl
    solved_found (Some fault) is e = cc

    solved_right : (found : Option WeighFault) → s ≡ status_of_weighing found → IsWeighed m w found → s ≡ Solved → AreWeighedBy m w × AreTerminatingIn m
    solved_right found is right e = subst (IsWeighed m w) (solved_found found is e) right

    solved_always : (found : Option WeighFault) (words : List ℕ) → weighing_text m.names found ≡ Some words → s ≡ status_of_weighing found → IsWeighed m w found → AreWeighedBy m w → s ≡ Solved
    solved_always None words told is right all = is
    solved_always (Some fault) words told is right all = absurd (not_weighed (linear w.list) m.equations m.signature m.names fault words told right all)

    exact : TellsWeighing m w s t → IsWeighingExact m w s
    exact a = record {
      solved = (
        λ e. (solved_right a.found a.status_is a.right e).0,
        solved_always a.found a.shown.words a.shown.told a.status_is a.right,
      );
      terminating = λ e. (solved_right a.found a.status_is a.right e).1;
    }

pub weighings_exact : WeighingsAreExact
weighings_exact = record { exact = exact; one = one }
