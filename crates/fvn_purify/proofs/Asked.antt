-- The head that a value asks for.
use Rattle.std.proofs.Common.{◌≡◌, ◌≢◌, ◌⊎◌, ℕ, true, false, List, [], ◌∷◌, refl, sym, ap, ◌∙◌, subst, inl, inr, Option, Some, None, slice_get, Contains}
use Rattle.std.proofs.lemmas.Bool.{cases_eq}
use Rattle.fvn_base.proofs.Membership.{contains_here, contains_later, contains_cases, contains_none}
use Rattle.fvn_terms.specs.declared.plain.OpId.{OpId}
use Rattle.fvn_terms.specs.declared.declarations.Axioms.{Axioms}
use Rattle.fvn_terms.specs.declared.declarations.Axioms.TheVariants.{Free as NoAxioms, Comm, AssocComm, AssocCommId}
use Rattle.fvn_terms.specs.declared.declarations.Declarations.{Declarations}
use Rattle.fvn_terms.specs.Signature.{axioms}
use Rattle.fvn_forms.specs.Flat.{FlatTerm, fvar, fapp, fnone, fmore, fconstant}
use Rattle.fvn_combine_nodes.specs.Table.{NodeTable, IsOver}
use Rattle.fvn_combine_nodes.specs.declared.table.Node.{Node}
use Rattle.fvn_combine_nodes.specs.declared.table.Node.TheVariants.{Var, App}
use Rattle.fvn_purify.specs.Parts.{Outline}
use Rattle.fvn_purify.specs.Heads.{head_by, operator_head}
use Rattle.fvn_flat.specs.Forms.{head_of}
use Rattle.fvn_purify.specs.Obeying.{IsUnitName, AsksTheory, AsksFor}
use Rattle.fvn_purify.specs.declared.classes.Head.{Head}
use Rattle.fvn_purify.specs.declared.classes.Head.TheVariants.{Free, Identity}

pub same_operator : (f g : OpId) → (f ≡ g) ⊎ (f ≢ g)
same_operator f g = elim (cases_eq f.0 g.0) [
  | inl e ↦ inl (ap (λ k. record { 0 = k }) e)
  | inr n ↦ inr (λ e. n (ap (λ o. o.0) e))
]

-- whether an operator is listed
listed : (ops : List OpId) (f : OpId) → Contains ops f ⊎ (Contains ops f → ⊥)
listed [] f = inr (λ h. contains_none f h)
listed (g ∷ ops) f = elim (same_operator g f) [
  | inl e ↦ inl (subst (Contains (g ∷ ops)) e (contains_here g ops))
  | inr n ↦ elim (listed ops f) [
    | inl h ↦ inl (contains_later g ops f h)
    | inr m ↦ inr (λ h. elim (contains_cases g ops f h) [ inl e ↦ n e | inr r ↦ m r ])
  ]
]

-- whether a node is the constant
is_constant : (t : NodeTable) (i : ℕ) (e : OpId) → IsOver t.nodes i e [] ⊎ (IsOver t.nodes i e [] → ⊥)
is_constant t i e = go (slice_get t.nodes i) refl
  where
    go : (o : Option Node) → slice_get t.nodes i ≡ o → IsOver t.nodes i e [] ⊎ (IsOver t.nodes i e [] → ⊥)
    go None at = inr (λ h. let q : None ≡ Some (App e []) = sym at ∙ h in cc)
    go (Some (Var x)) at = inr (λ h. let q : Some (Var x) ≡ Some (App e []) = sym at ∙ h in cc)
    go (Some (App g (k ∷ ks))) at = inr (λ h. let q : Some (App g (k ∷ ks)) ≡ Some (App e []) = sym at ∙ h in cc)
    go (Some (App g [])) at = elim (same_operator g e) [
      | inl s ↦ inl (subst (λ o. IsOver t.nodes i o []) s at)
      | inr n ↦ inr (λ h. let q : Some (App g []) ≡ Some (App e []) = sym at ∙ h in n (let r : g ≡ e = cc in r))
    ]

-- whether a constant is an identity that is listed
unit_among : (t : NodeTable) (units : List (OpId × ℕ)) (e : OpId) → ((p : OpId × ℕ) × (Contains units p × IsOver t.nodes p.1 e [])) ⊎ ((p : OpId × ℕ) → Contains units p → IsOver t.nodes p.1 e [] → ⊥)
unit_among t [] e = inr (λ p h. absurd (contains_none p h))
unit_among t (q ∷ units) e = elim (is_constant t q.1 e) [
  | inl at ↦ inl (q, (contains_here q units, at))
  | inr n ↦ elim (unit_among t units e) [
    | inl u ↦ inl (u.0, (contains_later q units u.0 u.1.0, u.1.1))
    | inr m ↦ inr (λ p h at. elim (contains_cases q units p h) [ inl s ↦ n (subst (λ r. IsOver t.nodes r.1 e []) (sym s) at) | inr r ↦ m p r at ])
  ]
]

module _ (d : Declarations) (c : Outline) where
  unit_name : (e : OpId) → IsUnitName d c e ⊎ (IsUnitName d c e → ⊥)
  unit_name e = elim (unit_among c.table c.table.units e) [
    | inl u ↦ inl (u.0.1, (u.0, u.1.0, refl, u.1.1))
    | inr n ↦ inr (λ u. n u.1.0 u.1.1 (subst (λ k. IsOver c.table.nodes k e []) (sym u.1.2) u.1.3))
  ]

  theory_asks : (v : FlatTerm) (f : OpId) → AsksTheory d c v (operator_head d f) → AsksFor d c v (operator_head d f)
  theory_asks v f h = go (axioms d f) h
    where
      go : (a : Axioms) → AsksTheory d c v (head_by a f) → AsksFor d c v (head_by a f)
      go NoAxioms h = h
      go Comm h = h
      go AssocComm h = h
      go (AssocCommId e) h = h

  -- a head, and that the value asks for it
  pub record Choice (v : FlatTerm) : Type 0 where
    pub head : Head
    pub asks : AsksFor d c v head

  of_theory : (v : FlatTerm) (g : OpId) → head_of v ≡ Some g → ((e : OpId) → IsUnitName d c e → v ≢ fconstant e) → Choice v
  of_theory v g is no_unit = elim (listed c.ops g) [
    | inl h ↦ record {
      head = operator_head d g;
      asks = theory_asks v g (record {
        no_unit = no_unit;
        theory = inr (g, h, refl);
        listed = λ f at k. let e : Some g ≡ Some f = sym is ∙ at in ap (operator_head d) (let s : g ≡ f = cc in s);
        free = λ f at k. absurd (k (let e : Some g ≡ Some f = sym is ∙ at in subst (Contains c.ops) (let s : g ≡ f = cc in s) h));
      });
    }
    | inr n ↦ record {
      head = Free;
      asks = record {
        no_unit = no_unit;
        theory = inl refl;
        listed = λ f at k. absurd (n (let e : Some g ≡ Some f = sym is ∙ at in subst (Contains c.ops) (let s : f ≡ g = cc in s) k));
        free = λ f at k. refl;
      };
    }
  ]

  pub choice : (v : FlatTerm) → Choice v
  choice (fvar x) = record {
    head = Free;
    asks = record {
      no_unit = λ e u is. cc;
      theory = inl refl;
      listed = λ f at k. absurd (none f at);
      free = λ f at k. refl;
    };
  }
    where
      none : (f : OpId) → None ≡ Some f → ⊥
      none f e = cc
  choice (fapp g true ts) = of_theory (fapp g true ts) g refl (λ e u is. cc)
  choice (fapp g false (fmore t ts)) = of_theory (fapp g false (fmore t ts)) g refl (λ e u is. cc)
  choice (fapp g false fnone) = elim (unit_name g) [
    | inl u ↦ record { head = Identity g; asks = (u, refl) }
    | inr n ↦ of_theory (fapp g false fnone) g refl (λ e u is. n (subst (IsUnitName d c) (let s : e ≡ g = cc in s) u))
  ]
