-- A written module declares one thing at most.
use Rattle.std.proofs.Common.{◌≡◌, List, [], ◌∷◌, Ok, refl, sym, ap, ◌∙◌, subst}
use Rattle.fvn_terms.specs.declared.plain.Plain.{Plain}
use Rattle.fvn_terms.specs.declared.declarations.Declarations.{Declarations}
use Rattle.fvn_syntax.specs.declared.names.Names.{Names}
use Rattle.fvn_syntax.specs.Pieces.{Text}
use Rattle.fvn_syntax.specs.Raw.{RawTerm}
use Rattle.fvn_syntax.specs.Scope.{Scope}
use Rattle.fvn_syntax.specs.Resolve.{Resolved, resolve}
use Rattle.fvn_syntax.proofs.SpelledOnce.{alone-once}
use Rattle.fvn_module_syntax.specs.declared.form.Form.{Form}
use Rattle.fvn_theory.specs.declared.equation.Equation.{Equation}
use Rattle.fvn_module.specs.declared.sides.Sides.{Sides}
use Rattle.fvn_module.specs.Contents.{Contents}
use Rattle.fvn_module.specs.Equations.{AreWrittenAs, StandFor, IsEquationOf, AreEquationsOf, equations_in}
use Rattle.fvn_module.specs.ModuleText.{Declares, scope_in}

-- Sides.

pub left-once : (e : Sides) (l r l2 r2 : RawTerm) → AreWrittenAs e l r → AreWrittenAs e l2 r2 → l ≡ l2
left-once e l r l2 r2 a b = alone-once l l2 a.left_written b.left_written (sym a.left_spelled ∙ b.left_spelled)

pub right-once : (e : Sides) (l r l2 r2 : RawTerm) → AreWrittenAs e l r → AreWrittenAs e l2 r2 → r ≡ r2
right-once e l r l2 r2 a b = alone-once r r2 a.right_written b.right_written (sym a.right_spelled ∙ b.right_spelled)

module _ (c : Scope) where
  pub first-once : (l : RawTerm) (x y : Resolved) (before : List Text) → resolve c before l ≡ Ok x → resolve c before l ≡ Ok y → x ≡ y
  first-once l x y before a b = cc

  pub stand-first : (l r : RawTerm) (s t : StandFor c l r) → s.first ≡ t.first
  stand-first l r s t = first-once l s.first t.first [] s.left_stands t.left_stands

  pub stand-second : (l r : RawTerm) (s t : StandFor c l r) → s.second ≡ t.second
  stand-second l r s t =
      let e : s.first.texts ≡ t.first.texts = ap (λ x. x.texts) (stand-first l r s t) in
      let a : resolve c t.first.texts r ≡ Ok s.second = subst (λ x. resolve c x r ≡ Ok s.second) e s.right_stands in
      first-once r s.second t.second t.first.texts a t.right_stands

  same-equation : (p q : Equation) → p.left ≡ q.left → p.right ≡ q.right → p ≡ q
  same-equation p q a b =
      ap (λ (x : Plain). record { left = x; right = p.right }) a ∙ ap (λ (x : Plain). record { left = q.left; right = x }) b

  equation-once : (e : Sides) (p q : Equation) → IsEquationOf c e p → IsEquationOf c e q → p ≡ q
  equation-once e p q a b =
      let x : b.left ≡ a.left = left-once e b.left b.right a.left a.right b.written a.written in
      let y : b.right ≡ a.right = right-once e b.left b.right a.left a.right b.written a.written in
      go b.left b.right x y b.stand b.left_is b.right_is
    where
      go : (l r : RawTerm) → l ≡ a.left → r ≡ a.right → (s : StandFor c l r) → q.left ≡ s.first.term → q.right ≡ s.second.term → p ≡ q
      go l r x y s f g =
          let Q : RawTerm → RawTerm → Type 0 = λ l r. (s : StandFor c l r) → q.left ≡ s.first.term → q.right ≡ s.second.term → p ≡ q in
          subst (λ t. Q t r) (sym x) (subst (λ t. Q a.left t) (sym y) same) s f g
        where
          same : (s : StandFor c a.left a.right) → q.left ≡ s.first.term → q.right ≡ s.second.term → p ≡ q
          same s f g =
              same-equation p q (a.left_is ∙ ap (λ x. x.term) (stand-first a.left a.right a.stand s) ∙ sym f)
              (a.right_is ∙ ap (λ x. x.term) (stand-second a.left a.right a.stand s) ∙ sym g)

  pub equations-once : (es : List Sides) (ps qs : List Equation) → AreEquationsOf c es ps → AreEquationsOf c es qs → ps ≡ qs
  equations-once [] [] [] a b = refl
  equations-once [] [] (q ∷ qs) a b = absurd b
  equations-once [] (p ∷ ps) qs a b = absurd a
  equations-once (e ∷ es) [] qs a b = absurd a
  equations-once (e ∷ es) (p ∷ ps) [] a b = absurd b
  equations-once (e ∷ es) (p ∷ ps) (q ∷ qs) a b =
      ap (λ x. x ∷ ps) (equation-once e p q a.0 b.0) ∙ ap (λ xs. q ∷ xs) (equations-once es ps qs a.1 b.1)

abbrev contents : Declarations → Names → List Equation → Contents
contents d n qs = record { signature = d; names = n; equations = qs }

pub declared-once : (f : Form) (m k : Contents) → Declares f m → Declares f k → m ≡ k
declared-once f m k a b =
    ap (λ d. contents d m.names m.equations) (a.signature ∙ sym b.signature)
    ∙ ap (λ n. contents k.signature n m.equations) (a.names ∙ sym b.names)
    ∙ ap (contents k.signature k.names) (equations-once (scope_in f) (equations_in f.statements) m.equations k.equations a.equations b.equations)
