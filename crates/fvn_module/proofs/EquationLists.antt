-- Equations, one after another.
use Rattle.std.proofs.Common.{◌≡◌, ◌⊎◌, ℕ, ◌+◌, ◌<◌, ◌≤◌, List, [], ◌∷◌, ◌++◌, length, take, drop, inl, inr, sym, ap, ◌∙◌, subst, arith}
use Rattle.std.specs.Prelude.{All}
use Rattle.std.specs.List.{AllByRecursion}
use Rattle.std.proofs.Math.ListN.{get_or}
use Rattle.std.proofs.lemmas.List.Elements.{All-cons, All-nil}
use Rattle.std.proofs.lemmas.List.{append-nil, take_more, take-append-drop, length-take-le}
use Rattle.fvn_lex.specs.Cut.{Piece}
use Rattle.fvn_base.proofs.Drops.{drop-at}
use Rattle.fvn_syntax.specs.Raw.{spell, IsTermBefore}
use Rattle.fvn_syntax.proofs.SpelledOnce.{ends-nil}
use Rattle.fvn_module_syntax.specs.declared.statement.Statement.{Statement}
use Rattle.fvn_module_syntax.specs.declared.statement.Statement.TheVariants as statement
use Rattle.fvn_module_statements.specs.Forms.{IsStatement}
use Rattle.fvn_module_syntax.specs.Written.{IsSide}
use Rattle.fvn_syntax.specs.Scope.{Scope}
use Rattle.fvn_theory.specs.declared.equation.Equation.{Equation}
use Rattle.fvn_module.specs.declared.sides.Sides.{Sides}
use Rattle.fvn_module.specs.declared.fault.ModuleFault.{ModuleFault}
use Rattle.fvn_module.specs.declared.fault.ModuleFault.TheVariants.{NoMemory}
use Rattle.fvn_module.specs.Equations.{IsEquationOf, IsFaultOf, AreEquationsOf, IsFirstFaultOf, equations_from}
use Rattle.fvn_module.specs.inner.Sides.{AreTerms, HasFault}

module _ (c : Scope) where
  pub one-more : (es : List Sides) (qs : List Equation) (e : Sides) (q : Equation) → AreEquationsOf c es qs → IsEquationOf c e q →
      AreEquationsOf c (es ++ (e ∷ [])) (qs ++ (q ∷ []))
  one-more [] [] e q h i = (i, tt)
  one-more [] (p ∷ qs) e q h i = absurd h
  one-more (d ∷ es) [] e q h i = absurd h
  one-more (d ∷ es) (p ∷ qs) e q h i = (h.0, one-more es qs e q h.1 i)

  pub next-read : (es : List Sides) (n : ℕ) (e : Sides) (qs : List Equation) (q : Equation) → n < length es → e ≡ get_or es n e →
      AreEquationsOf c (take n es) qs → IsEquationOf c e q → AreEquationsOf c (take (n + 1) es) (qs ++ (q ∷ []))
  next-read es n e qs q few at h i =
      let split : take (n + 1) es ≡ take n es ++ (e ∷ []) = take_more es n e few ∙ ap (λ x. take n es ++ (x ∷ [])) (sym at) in
      subst (λ x. AreEquationsOf c x (qs ++ (q ∷ []))) (sym split) (one-more (take n es) qs e q h i)

  first-fault : (es : List Sides) (n : ℕ) (e : Sides) (qs : List Equation) → n < length es → e ≡ get_or es n e →
      AreEquationsOf c (take n es) qs → (fault : ModuleFault) → HasFault c (n + 1) e fault → IsFirstFaultOf c es fault
  first-fault es n e qs few at h fault f =
      let few_ : n ≤ length es = omega (arith, few) in
      record {
        before = take n es;
        sides = e;
        after = drop (n + 1) es;
        split = sym (take-append-drop n es) ∙ ap (λ x. take n es ++ x) (drop-at es n e few at);
        found = qs;
        faultless = h;
        left = f.left;
        right = f.right;
        written = f.written;
        wrong = subst (λ m. IsFaultOf c e.number (m + 1) f.left f.right fault) (sym (length-take-le n es few_)) f.wrong;
      }

  pub next-refused : (es : List Sides) (n : ℕ) (e : Sides) (qs : List Equation) → n < length es → e ≡ get_or es n e →
      AreEquationsOf c (take n es) qs → (fault : ModuleFault) → (fault ≡ NoMemory) ⊎ HasFault c (n + 1) e fault →
      (fault ≡ NoMemory) ⊎ IsFirstFaultOf c es fault
  next-refused es n e qs few at h fault (inl m) = inl m
  next-refused es n e qs few at h fault (inr f) = inr (first-fault es n e qs few at h fault f)

-- Equations of written statements have sides that are terms.

pub all-terms-from : (n : ℕ) (sts : List Statement) → AllByRecursion IsStatement sts → All AreTerms (equations_from n sts)
all-terms-from n [] h = All-nil AreTerms
all-terms-from n (statement.Sorts plural names ∷ sts) h = all-terms-from (n + 1) sts h.1
all-terms-from n (statement.Subsorts plural groups ∷ sts) h = all-terms-from (n + 1) sts h.1
all-terms-from n (statement.Operator name rank attributes ∷ sts) h = all-terms-from (n + 1) sts h.1
all-terms-from n (statement.Operators names rank attributes ∷ sts) h = all-terms-from (n + 1) sts h.1
all-terms-from n (statement.Variables plural names sort ∷ sts) h = all-terms-from (n + 1) sts h.1
all-terms-from n (statement.Equation label left right marks ∷ sts) h =
    let w = h.0.written in
    All-cons AreTerms (record { number = n; left = left; right = right }) (equations_from (n + 1) sts)
    (record { left = alone left w.0; right = alone right w.1 }) (all-terms-from (n + 1) sts h.1)
  where
    alone : {rest : List Piece} (side : List Piece) → IsSide rest side → IsTermBefore [] side
    alone side s = record { term = s.term; written = s.written; ends = ends-nil s.term; spelled = s.spelled ∙ sym (append-nil (spell s.term)) }
