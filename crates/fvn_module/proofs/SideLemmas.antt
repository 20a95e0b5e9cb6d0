-- The sides of one equation.
use Rattle.std.proofs.Common.{◌≡◌, ◌⊎◌, ℕ, ◌-◌, ◌^◌, ◌<◌, ◌≤◌, [], Result, Ok, Err, inl, inr, sym, ◌∙◌, subst, arith}
use Rattle.std.specs.Prelude.{min, IfOk, IfErr}
use Rattle.std.proofs.lemmas.List.{append-nil}
use Rattle.fvn_base.specs.declared.limits.TheConstants.{TEXT_SYMBOLS}
use Rattle.fvn_terms.specs.Term.{nodes}
use Rattle.fvn_terms.specs.Plain.{term}
use Rattle.fvn_syntax.specs.Raw.{spell}
use Rattle.fvn_syntax.specs.Scope.{Scope}
use Rattle.fvn_syntax.specs.Resolve.{resolve}
use Rattle.fvn_theory.specs.declared.equation.Equation.{Equation}
use Rattle.fvn_module.specs.declared.equations.Side.{Side}
use Rattle.fvn_module.specs.declared.sides.Sides.{Sides}
use Rattle.fvn_module.specs.declared.fault.ModuleFault.{ModuleFault}
use Rattle.fvn_module.specs.declared.fault.ModuleFault.TheVariants.{NoMemory}
use Rattle.fvn_module.specs.Equations.{AreWrittenAs, StandFor, IsEquationOf, IsFaultOf, in_left, in_right, two_kinds, too_large, extra_variable}
use Rattle.fvn_module.specs.inner.Sides.{AllOccur, IsReadAs, IsRead, IsReadRefused, AreTerms, HasFault, IsJudged, IsJudgedFault}
use Rattle.fvn_module.specs.inner.Sides as sides
use Rattle.fvn_module.proofs.Results.{on_ok, on_err}

-- the smaller of a number and the greatest one tells on which side of the limit the number is
within : (n m : ℕ) → m ≡ min n (2 ^ 64 - 1) → m ≤ TEXT_SYMBOLS → n ≤ TEXT_SYMBOLS
within n m e h = omega (arith, e, h)

beyond : (n m : ℕ) → m ≡ min n (2 ^ 64 - 1) → TEXT_SYMBOLS < m → TEXT_SYMBOLS < n
beyond n m e h = omega (arith, e, h)

module _ (c : Scope) (k : ℕ) (e : Sides) (h : AreTerms e) where
  abbrev written : AreWrittenAs e h.left.term h.right.term
  written = record {
    left_written = h.left.written;
    right_written = h.right.written;
    left_spelled = h.left.spelled ∙ append-nil (spell h.left.term);
    right_spelled = h.right.spelled ∙ append-nil (spell h.right.term);
  }

  faulty : (fault : ModuleFault) → IsFaultOf c e.number k h.left.term h.right.term fault → HasFault c k e fault
  faulty fault f = record { left = h.left.term; right = h.right.term; written = written; wrong = f }

  pub left-refused : (fault : ModuleFault) → IsReadRefused c e.number [] e.left fault → (fault ≡ NoMemory) ⊎ HasFault c k e fault
  left-refused fault (inl m) = inl m
  left-refused fault (inr f) =
      let x = f h.left.term h.left.written written.left_spelled in inr (faulty fault (in_left x.first x.stands x.is))

  module _ (s : Side) (a : IsRead c [] e.left s) where
    abbrev first : IsReadAs c [] h.left.term s
    first = a h.left.term h.left.written written.left_spelled

    pub right-refused : (fault : ModuleFault) → IsReadRefused c e.number s.texts e.right fault → (fault ≡ NoMemory) ⊎ HasFault c k e fault
    right-refused fault (inl m) = inl m
    right-refused fault (inr f) =
        let x = f h.right.term h.right.written written.right_spelled in
        let stands : resolve c first.resolved.texts h.right.term ≡ Err x.first = subst (λ t. resolve c t h.right.term ≡ Err x.first) first.texts x.stands in
        inr (faulty fault (in_right first.resolved first.stands x.first stands x.is))

    module _ (s2 : Side) (b : IsRead c s.texts e.right s2) where
      abbrev second : IsReadAs c s.texts h.right.term s2
      second = b h.right.term h.right.written written.right_spelled

      abbrev stand : StandFor c h.left.term h.right.term
      stand = record {
        first = first.resolved;
        second = second.resolved;
        left_stands = first.stands;
        right_stands = subst (λ t. resolve c t h.right.term ≡ Ok second.resolved) first.texts second.stands;
      }

      kinds : s.read.kind ≡ s2.read.kind → stand.first.kind ≡ stand.second.kind
      kinds g = sym first.kind ∙ g ∙ second.kind

      occur : s.count ≤ TEXT_SYMBOLS → s2.count ≤ TEXT_SYMBOLS → AllOccur (term s.read.term) (term s2.read.term) →
          AllOccur (term first.resolved.term) (term second.resolved.term)
      occur x y g =
          subst (λ t. AllOccur (term t) (term second.resolved.term)) (first.built x)
          (subst (λ t. AllOccur (term s.read.term) (term t)) (second.built y) g)

      uncover : s.count ≤ TEXT_SYMBOLS → s2.count ≤ TEXT_SYMBOLS → AllOccur (term first.resolved.term) (term second.resolved.term) →
          AllOccur (term s.read.term) (term s2.read.term)
      uncover x y g =
          subst (λ t. AllOccur (term t) (term s2.read.term)) (sym (first.built x))
          (subst (λ t. AllOccur (term first.resolved.term) (term t)) (sym (second.built y)) g)

      judged : (q : Equation) → IsJudged e.number s.read s.count s2 q → IsEquationOf c e q
      judged q j = record {
        left = h.left.term;
        right = h.right.term;
        written = written;
        stand = stand;
        one_kind = kinds j.one_kind;
        small = (
          within (nodes (term first.resolved.term)) s.count first.count j.left_small,
          within (nodes (term second.resolved.term)) s2.count second.count j.right_small,
        );
        brings_none = occur j.left_small j.right_small j.brings_none;
        left_is = j.left_is ∙ first.built j.left_small;
        right_is = j.right_is ∙ second.built j.right_small;
      }

      large : (TEXT_SYMBOLS < s.count) ⊎ (TEXT_SYMBOLS < s2.count) →
          (TEXT_SYMBOLS < nodes (term first.resolved.term)) ⊎ (TEXT_SYMBOLS < nodes (term second.resolved.term))
      large (inl x) = inl (beyond (nodes (term first.resolved.term)) s.count first.count x)
      large (inr x) = inr (beyond (nodes (term second.resolved.term)) s2.count second.count x)

      refused : (fault : ModuleFault) → IsJudgedFault k e.number s.read s.count s2 fault → (fault ≡ NoMemory) ⊎ HasFault c k e fault
      refused fault (sides.two_kinds differ is) =
          inr (faulty fault (two_kinds stand (λ g. differ (first.kind ∙ g ∙ sym second.kind)) is))
      refused fault (sides.too_large one large_side is) = inr (faulty fault (too_large stand (kinds one) (large large_side) is))
      refused fault (sides.extra_variable one x y extra is) =
          inr (faulty fault (extra_variable stand (kinds one)
          (within (nodes (term first.resolved.term)) s.count first.count x, within (nodes (term second.resolved.term)) s2.count second.count y)
          (λ g. extra (uncover x y g)) is))

      pub judged-ok : (r : Result Equation ModuleFault) → IfOk r (IsJudged e.number s.read s.count s2) → IfOk r (IsEquationOf c e)
      judged-ok r g = on_ok (IsJudged e.number s.read s.count s2) (IsEquationOf c e) r judged g

      pub judged-err : (r : Result Equation ModuleFault) → IfErr r (IsJudgedFault k e.number s.read s.count s2) →
          IfErr r (λ fault. (fault ≡ NoMemory) ⊎ HasFault c k e fault)
      judged-err r g =
          on_err (IsJudgedFault k e.number s.read s.count s2) (λ fault. (fault ≡ NoMemory) ⊎ HasFault c k e fault) r refused g
