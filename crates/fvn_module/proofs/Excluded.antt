-- What is refused declares nothing.
use Rattle.std.proofs.Common.{◌≡◌, ℕ, ◌+◌, Bool, true, false, List, [], ◌∷◌, ◌++◌, length, Ok, Err, inl, inr, refl, sym, ap, ◌∙◌, subst, arith, append_assoc}
use Rattle.std.proofs.lemmas.List.{append-nil}
use Rattle.std.proofs.lemmas.Option.{slice_get_within}
use Rattle.fvn_base.specs.declared.limits.TheConstants.{EQUATIONS}
use Rattle.fvn_syntax.specs.declared.fault.TermFault.{TermFault}
use Rattle.fvn_syntax.specs.Pieces.{Text}
use Rattle.fvn_syntax.specs.Raw.{RawTerm}
use Rattle.fvn_syntax.specs.Scope.{Scope}
use Rattle.fvn_syntax.specs.Resolve.{Resolved, resolve}
use Rattle.fvn_module_syntax.specs.declared.statement.Statement.{Statement}
use Rattle.fvn_module_syntax.specs.declared.form.Form.{Form}
use Rattle.fvn_module_names.specs.declared.fault.NameFault.{NameFault}
use Rattle.fvn_module_names.specs.declared.fault.NameFault.TheVariants as name
use Rattle.fvn_module_names.specs.Names.{sorts_of, operators_of}
use Rattle.fvn_module_names.specs.Order.{kinds_in}
use Rattle.fvn_module_names.specs.Faults.{names_unknown, declares_twice, AreNamed, HasNames, IsFirstFault as IsFirstNameFault}
use Rattle.fvn_module.specs.declared.signing.Signed.{Signed}
use Rattle.fvn_theory.specs.declared.equation.Equation.{Equation}
use Rattle.fvn_module.specs.declared.sides.Sides.{Sides}
use Rattle.fvn_module.specs.declared.fault.ModuleFault.{ModuleFault}
use Rattle.fvn_module.specs.declared.fault.ModuleFault.TheVariants.{Lex, Header, Statement as AtStatement, UnknownName, Twice, Arity, WrongKind, LeftOut, Signature, VariableLeft, ExtraVariable, IdentityLeft, TooMany, TooLong, NoMemory}
use Rattle.fvn_module.specs.Contents.{Contents, scope_of}
use Rattle.fvn_module.specs.Equations.{AreWrittenAs, StandFor, IsEquationOf, AreEquationsOf, IsFaultOf, in_left, in_right, two_kinds, too_large, extra_variable, AreSmall, IsLarge, BringsNone, IsFirstFaultOf, equations_in}
use Rattle.fvn_module.specs.ModuleText.{Declares, scope_in}
use Rattle.fvn_module.specs.inner.Steps.{IsSigned, IsSigningRefused, AreRefused, no_memory, too_many, at_equation}
use Rattle.fvn_module.proofs.Determined.{left-once, right-once, stand-first, stand-second, first-once}

-- Names.

module _ (sts : List Statement) where
  pub named-at : (b before : List Statement) (st : Statement) (after : List Statement) →
      AreNamed (sorts_of sts) (operators_of sts) (kinds_in sts) b (before ++ (st ∷ after)) →
      (names_unknown (sorts_of sts) (operators_of sts) (kinds_in sts) (b ++ before) st ≡ false)
      × (declares_twice (sorts_of sts) (operators_of sts) (kinds_in sts) (b ++ before) st ≡ false)
  named-at b [] st after h = rw (append-nil b) (h.0, h.1)
  named-at b (x ∷ before) st after h =
      let g = named-at (b ++ (x ∷ [])) before st after h.2 in
      let e : (b ++ (x ∷ [])) ++ before ≡ b ++ (x ∷ before) = append_assoc b (x ∷ []) before in
      rw e at g

  pub not-both : (b : Bool) → b ≡ true → b ≡ false → ⊥
  not-both true h g = cc
  not-both false h g = cc

  pub no-name-fault : (fault : NameFault) → IsFirstNameFault sts fault → HasNames sts → ⊥
  no-name-fault (name.UnknownName n) f h =
      let g = named-at [] f.before f.statement f.after (subst (AreNamed (sorts_of sts) (operators_of sts) (kinds_in sts) []) f.split h) in
      not-both (names_unknown (sorts_of sts) (operators_of sts) (kinds_in sts) f.before f.statement) f.wrong g.0
  no-name-fault (name.Twice n) f h =
      let g = named-at [] f.before f.statement f.after (subst (AreNamed (sorts_of sts) (operators_of sts) (kinds_in sts) []) f.split h) in
      not-both (declares_twice (sorts_of sts) (operators_of sts) (kinds_in sts) f.before f.statement) f.wrong.1 g.1
  no-name-fault name.NoMemory f h = absurd f

-- Equations.

module _ (c : Scope) where
  pub clash : (x : Resolved) (fault : TermFault) (before : List Text) (t : RawTerm) → resolve c before t ≡ Ok x → resolve c before t ≡ Err fault → ⊥
  clash x fault before t a b = cc

  pub not-large : (x y : Resolved) → AreSmall x y → IsLarge x y → ⊥
  not-large x y h (inl g) = absurd (omega (arith, h.0, g))
  not-large x y h (inr g) = absurd (omega (arith, h.1, g))

  -- an equation whose sides are written so has no fault
  module _ (l r : RawTerm) (s : StandFor c l r) where
    same-first : (x : Resolved) → resolve c [] l ≡ Ok x → x ≡ s.first
    same-first x h = first-once c l x s.first [] h s.left_stands

    faultless : s.first.kind ≡ s.second.kind → AreSmall s.first s.second → BringsNone s.first s.second →
        (n k : ℕ) (fault : ModuleFault) → IsFaultOf c n k l r fault → ⊥
    faultless one small none n k fault (in_left first stands is) = clash s.first first [] l s.left_stands stands
    faultless one small none n k fault (in_right x stands first right is) =
        let e : x.texts ≡ s.first.texts = ap (λ y. y.texts) (same-first x stands) in
        clash s.second first s.first.texts r s.right_stands (subst (λ t. resolve c t r ≡ Err first) e right)
    faultless one small none n k fault (two_kinds t differ is) =
        differ (ap (λ x. x.kind) (stand-first c l r t s) ∙ one ∙ ap (λ x. x.kind) (sym (stand-second c l r t s)))
    faultless one small none n k fault (too_large t same large is) =
        not-large s.first s.second small (subst (λ y. IsLarge s.first y) (stand-second c l r t s) (subst (λ x. IsLarge x t.second) (stand-first c l r t s) large))
    faultless one small none n k fault (extra_variable t same small_ extra is) =
        extra (subst (λ y. BringsNone t.first y) (sym (stand-second c l r t s)) (subst (λ x. BringsNone x s.second) (sym (stand-first c l r t s)) none))

  pub no-fault-of : (e : Sides) (q : Equation) → IsEquationOf c e q → (l r : RawTerm) → AreWrittenAs e l r → (n k : ℕ) (fault : ModuleFault) → IsFaultOf c n k l r fault → ⊥
  no-fault-of e q h l r w n k fault f =
      let x : l ≡ h.left = left-once e l r h.left h.right w h.written in
      let y : r ≡ h.right = right-once e l r h.left h.right w h.written in
      let g : IsFaultOf c n k h.left h.right fault =
      subst (λ t. IsFaultOf c n k h.left t fault) y (subst (λ t. IsFaultOf c n k t r fault) x f) in
      faultless h.left h.right h.stand h.one_kind h.small h.brings_none n k fault g

  pub equation-at : (before : List Sides) (e : Sides) (after : List Sides) (qs : List Equation) → AreEquationsOf c (before ++ (e ∷ after)) qs → (q : Equation) × IsEquationOf c e q
  equation-at [] e after [] h = absurd h
  equation-at [] e after (q ∷ qs) h = (q, h.0)
  equation-at (b ∷ before) e after [] h = absurd h
  equation-at (b ∷ before) e after (q ∷ qs) h = equation-at before e after qs h.1

  pub no-first-fault : (es : List Sides) (qs : List Equation) → AreEquationsOf c es qs → (fault : ModuleFault) → IsFirstFaultOf c es fault → ⊥
  no-first-fault es qs h fault f =
      let g = equation-at f.before f.sides f.after qs (subst (λ x. AreEquationsOf c x qs) f.split h) in
      no-fault-of f.sides g.0 g.1 f.left f.right f.written f.sides.number (length f.before + 1) fault f.wrong

-- Modules.

module _ (f : Form) (m : Contents) (d : Declares f m) where
  pub not-signing : (fault : ModuleFault) → IsSigningRefused f fault → fault ≡ NoMemory
  not-signing (Lex fault) h = absurd h
  not-signing Header h = absurd h
  not-signing (AtStatement n) h = absurd h
  not-signing (UnknownName n) h = absurd (no-name-fault f.statements (name.UnknownName n) h d.named)
  not-signing (Twice n) h = absurd (no-name-fault f.statements (name.Twice n) h d.named)
  not-signing (Arity n) h = absurd h
  not-signing (WrongKind n) h = absurd h
  not-signing (LeftOut n feature) h = absurd h
  not-signing (Signature fault names tops) h = absurd (d.good fault h.1.0)
  not-signing (VariableLeft k) h = absurd h
  not-signing (ExtraVariable k) h = absurd h
  not-signing (IdentityLeft k) h = absurd h
  not-signing (TooMany place) h = absurd h
  not-signing TooLong h = absurd h
  not-signing NoMemory h = refl

  pub not-equations : (s : Signed) → IsSigned f s → (fault : ModuleFault) → AreRefused s f.statements fault → fault ≡ NoMemory
  not-equations s g fault (no_memory is) = is
  not-equations s g fault (too_many n t is) =
      let few = d.few in
      let there = slice_get_within (equations_in f.statements) EQUATIONS t.sides t.next in
      absurd (omega (arith, few, there))
  not-equations s g fault (at_equation few first) =
      let e : scope_of s.signature s.names ≡ scope_in f = ap (λ x. scope_of x s.names) g.signature ∙ ap (scope_of _) g.names in
      absurd (no-first-fault (scope_in f) (equations_in f.statements) m.equations d.equations fault
      (subst (λ c. IsFirstFaultOf c (equations_in f.statements) fault) e first))
