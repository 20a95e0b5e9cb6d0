-- Which variables occur in a form with another one put in, and in instances of forms.
use Rattle.std.proofs.Common.{inl, inr}
use Rattle.std.specs.Prelude.{◌⊎◌}
use Rattle.fvn_terms.specs.declared.plain.Var.{Var}
use Rattle.fvn_terms.specs.declared.declarations.Declarations.{Declarations}
use Rattle.fvn_terms.specs.Signature.{IsTerm}
use Rattle.fvn_terms.specs.Substitution.{apply, Occurs, OccursAmong}
use Rattle.fvn_terms.proofs.Equal.{BEqual-sym}
use Rattle.fvn_terms.proofs.Occurrences.{occurs_value, occurs_instance, BEqual-occurs}
use Rattle.fvn_forms.specs.Flat.{FlatTerm, FlatTerms, plain, plain_all}
use Rattle.fvn_forms.specs.Canon.{inst}
use Rattle.fvn_forms.specs.Good.{IsGood}
use Rattle.fvn_flat.specs.Bindings.{Bindings, value, BindingsFit}
use Rattle.fvn_flat.specs.FlatPlaces.{IsReplaced, IsReplacedAmong, here, inside, first, later}
use Rattle.fvn_flat.specs.Solving.{substitution}
use Rattle.fvn_flat.proofs.Instances.{inst_equal}
use Rattle.fvn_flat.proofs.Occurrences.{occurs_in_app}

module _ (x : Var) (at given : FlatTerm) where
  -- what occurs after a replacement occurred before it, or in what was put in
  mutual
    pub occurs_replaced : {t w : FlatTerm} → IsReplaced at given t w → Occurs x (plain w) → Occurs x (plain t) ⊎ Occurs x (plain given)
    occurs_replaced here o = inr o
    occurs_replaced (inside {f} {joined} {ts} {us} r) o = elim (among_replaced r ((occurs_in_app x f joined us).0 o)) [ inl i ↦ inl ((occurs_in_app x f joined ts).1 i) | inr i ↦ inr i ]

    among_replaced : {ts us : FlatTerms} → IsReplacedAmong at given ts us → OccursAmong x (plain_all us) → OccursAmong x (plain_all ts) ⊎ Occurs x (plain given)
    among_replaced (first r) (inl o) = elim (occurs_replaced r o) [ inl i ↦ inl (inl i) | inr i ↦ inr i ]
    among_replaced (first r) (inr o) = inl (inr o)
    among_replaced (later r) (inl o) = inl (inl o)
    among_replaced (later r) (inr o) = elim (among_replaced r o) [ inl i ↦ inl (inr i) | inr i ↦ inr i ]

  -- what occurs in what is replaced occurs in the whole
  mutual
    pub occurs_at : {t w : FlatTerm} → IsReplaced at given t w → Occurs x (plain at) → Occurs x (plain t)
    occurs_at here o = o
    occurs_at (inside {f} {joined} {ts} r) o = (occurs_in_app x f joined ts).1 (among_at r o)

    among_at : {ts us : FlatTerms} → IsReplacedAmong at given ts us → Occurs x (plain at) → OccursAmong x (plain_all ts)
    among_at (first r) o = inl (occurs_at r o)
    among_at (later r) o = inr (among_at r o)

module _ (d : Declarations) (good : IsGood d) (s : Bindings) (fits : BindingsFit d s) where
  -- what occurs in an instance by flat values
  pub occurs_in_inst : (t : FlatTerm) (y : Var) → IsTerm d (plain t) → Occurs y (plain (inst d (value s) t)) → (z : Var) × Occurs z (plain t) × Occurs y (substitution s z)
  occurs_in_inst t y h o =
      let p = occurs_value y (substitution s) (plain t) (BEqual-occurs y d (apply (substitution s) (plain t)) (plain (inst d (value s) t)) (inst_equal d (value s) good fits t h) o) in
      (p.0, p.1.0, p.1.1)

  pub inst_has : (t : FlatTerm) (y z : Var) → IsTerm d (plain t) → Occurs z (plain t) → Occurs y (substitution s z) → Occurs y (plain (inst d (value s) t))
  inst_has t y z h i o =
      BEqual-occurs y d (plain (inst d (value s) t)) (apply (substitution s) (plain t)) (BEqual-sym d (inst_equal d (value s) good fits t h)) (occurs_instance y (substitution s) (plain t) z i o)
