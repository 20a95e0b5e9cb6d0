-- Tight instances, alone and beside another summand, are redexes of rules.
use Rattle.std.proofs.Common.{◌≡◌, ◌⊎◌, ◌≤◌, true, [], ◌∷◌, length, Some, refl, sym, ap, ◌∙◌, subst, inl, inr, arith}
use Rattle.std.proofs.lemmas.List.{length-append}
use Rattle.fvn_terms.specs.declared.plain.Var.{Var}
use Rattle.fvn_terms.specs.declared.plain.OpId.{OpId}
use Rattle.fvn_terms.specs.declared.declarations.Declarations.{Declarations}
use Rattle.fvn_terms.specs.Term.{Term, Terms, var, app, none}
use Rattle.fvn_terms.specs.Substitution.{Substitution, apply, Occurs}
use Rattle.fvn_terms.specs.Signature.{HasKind}
use Rattle.fvn_terms.specs.Equality.{two, BEqual}
use Rattle.fvn_terms.specs.Sorts.{IsWellSorted}
use Rattle.fvn_terms.specs.Theory.{Equations}
use Rattle.fvn_terms.proofs.Substitutions.{apply-agree}
use Rattle.fvn_terms.proofs.Equal.{HasKind-apply, BEqual-sym}
use Rattle.fvn_terms.proofs.Occurrences.{occurs_value, BEqual-occurs}
use Rattle.fvn_forms.specs.Flat.{FlatTerm, FlatTerms, fvar, fapp, fnone, fmore, plain}
use Rattle.fvn_forms.specs.Canon.{parts, build, canon, inst}
use Rattle.fvn_forms.specs.Settled.{Settled}
use Rattle.fvn_forms.specs.Good.{IsGood}
use Rattle.fvn_forms.proofs.Eval.{canon_plain, eval_apply}
use Rattle.fvn_forms.proofs.Instances.{eval_canon}
use Rattle.fvn_forms.proofs.KindsKept.{kind_unique, both_of_kind}
use Rattle.fvn_forms.proofs.ToCanon.{to_canon, canon_of_kind}
use Rattle.fvn_signature.specs.Queries.{IsCompleted}
use Rattle.fvn_flat.specs.Forms.{head_of}
use Rattle.fvn_flat.specs.Rules.{GoesToIdentity, IsExtension, IsRuleOf}
use Rattle.fvn_rewrite_laws.specs.Kinds.{HasOneKind}
use Rattle.fvn_rewrite_laws.specs.Laws.{RuleLaws}
use Rattle.fvn_rewrite_laws.proofs.Collapsing.{keeps}
use Rattle.fvn_rewrite_laws.specs.Admissible.{AreAdmissible}
use Rattle.fvn_rewrite_coherence.specs.PlacedSteps.{IsRedex}
use Rattle.fvn_rewrite_coherence.proofs.Tight.{sum_of_two_form, parts_joined, head_stays}
use Rattle.fvn_rewrite_coherence.proofs.TightSteps.{values, values_settled, IsTightInstance, IsBeside, IsTightRedex, left_settled, beside_associative, left_no_variable, beside_form}
use Rattle.fvn_rewrite_coherence.proofs.Extending.{new_variable, new_in_first, new_in_second, with_value, value_there, value_elsewhere, kind_of_kind, with_value_sorted}

module _ (d : Declarations) (good : IsGood d) (completed : IsCompleted d) (equations : Equations) (admissible : AreAdmissible d equations) (laws : RuleLaws d equations) where
  -- the forms are the flat forms of the instances
  redex_of_rule : (t u l r : FlatTerm) → IsRuleOf d equations l r → (f : OpId) → head_of t ≡ Some f → head_of l ≡ Some f → (s : Substitution) → IsWellSorted d s →
      t ≡ canon d (apply s (plain l)) → u ≡ canon d (apply s (plain r)) → IsRedex d equations t (plain u)
  redex_of_rule t u l r rule f heads_form heads_left s sorted from to =
      let kinds = laws.kinds l r rule in
      let left : BEqual d (apply s (plain l)) (plain t) = subst (λ z. BEqual d (apply s (plain l)) (plain z)) (sym from) (to_canon d good.fits (apply s (plain l)) kinds.kind (HasKind-apply d s sorted.0 (plain l) kinds.kind kinds.left)) in
      let right : BEqual d (apply s (plain r)) (plain u) = subst (λ z. BEqual d (apply s (plain r)) (plain z)) (sym to) (to_canon d good.fits (apply s (plain r)) kinds.kind (HasKind-apply d s sorted.0 (plain r) kinds.kind kinds.right)) in
      record { left = l; right = r; rule = rule; operator = f; heads_form = heads_form; heads_left = heads_left; by = s; well_sorted = sorted; matches = BEqual-sym d left; gives = right }

  left_head : (t u : FlatTerm) (i : IsTightInstance d equations t u) → (f : OpId) × (head_of i.left ≡ Some f)
  left_head t u i = go i.left refl where
    go : (l : FlatTerm) → i.left ≡ l → (f : OpId) × (head_of i.left ≡ Some f)
    go (fvar x) e = absurd (left_no_variable d equations admissible t u i x e)
    go (fapp g joined ts) e = (g, ap head_of e)

  instance_redex : (t u : FlatTerm) → IsTightInstance d equations t u → IsRedex d equations t (plain u)
  instance_redex t u i =
      let head = left_head t u i in
      redex_of_rule t u i.left i.right (i.equation, i.listed, inl i.instance_of) head.0
      (ap head_of i.from ∙ head_stays d (values d i.by) (values_settled d i.by) head.0 i.left (left_settled d equations t u i) i.tight head.1)
      head.1 i.by i.well_sorted
      (i.from ∙ sym (eval_apply d fvar i.by (plain i.left)))
      (i.to ∙ sym (eval_apply d fvar i.by (plain i.right)))

  plain_joined_head : (f : OpId) (ts : FlatTerms) → Settled d (fapp f true ts) → (us : Terms) × (plain (fapp f true ts) ≡ app f us)
  plain_joined_head f fnone h = (none, refl)
  plain_joined_head f (fmore t fnone) h = let n : 2 ≤ 1 = h.0.two_or_more in absurd (omega arith)
  plain_joined_head f (fmore t (fmore u us)) h = (_, refl)

  module _ (f : OpId) (t u : FlatTerm) (b : IsBeside d equations f t u) where
    abbrev i : IsTightInstance d equations b.inner_from b.inner_to
    i = b.inner

    inner_kinds : HasOneKind d (plain i.left, plain i.right)
    inner_kinds = laws.kinds i.left i.right (i.equation, i.listed, inl i.instance_of)

    abbrev z : Var
    z = new_variable i.equation.0 i.equation.1 inner_kinds.kind

    -- the new variable is not in the sides of the identity instance
    new_in_side : (side : Term) → (Occurs z side → ⊥) → (form : FlatTerm) → HasKind d side (admissible i.equation i.listed).kinded.kinds.kind → form ≡ canon d (apply i.instance_of.by side) → Occurs z (plain form) → ⊥
    new_in_side side new form h is o =
        let kinds = (admissible i.equation i.listed).kinded.kinds in
        let kept = HasKind-apply d i.instance_of.by (keeps d good completed i.equation.0 kinds.kind kinds.left i.instance_of.by i.instance_of.choice) side kinds.kind h in
        let raw = BEqual-occurs z d (apply i.instance_of.by side) (plain (canon d (apply i.instance_of.by side))) (to_canon d good.fits (apply i.instance_of.by side) kinds.kind kept) (subst (λ w. Occurs z (plain w)) is o) in
        let v = occurs_value z i.instance_of.by side raw in
        go v.0 v.1.0 v.1.1 (i.instance_of.choice v.0)
      where
        go : (y : Var) → Occurs y side → Occurs z (i.instance_of.by y) → (i.instance_of.by y ≡ var y) ⊎ (Occurs y i.equation.0 × GoesToIdentity d i.instance_of.by y) → ⊥
        go y there value (inl e) = new (subst (λ w. Occurs w side) (sym (subst (Occurs z) e value)) there)
        go y there value (inr w) = subst (Occurs z) w.1.is value

    abbrev by : Substitution
    by = with_value i.by z (plain b.other)

    -- an instance of a side beside the new variable
    extended_is : (side : FlatTerm) → (Occurs z (plain side) → ⊥) → canon d (apply by (plain (canon d (two f (plain side) (var z))))) ≡ build d f (inst d (values d i.by) side ∷ b.other ∷ [])
    extended_is side new =
        let first : canon d (apply by (plain side)) ≡ inst d (values d i.by) side =
        ap (canon d) (apply-agree by i.by (plain side) (λ x o. value_elsewhere i.by z (plain b.other) x (λ e. new (subst (λ w. Occurs w (plain side)) e o)))) ∙ eval_apply d fvar i.by (plain side) in
        let second : canon d (by z) ≡ b.other = ap (canon d) (value_there i.by z (plain b.other)) ∙ canon_plain d b.other b.settled in
        eval_apply d fvar by (plain (canon d (two f (plain side) (var z))))
        ∙ sym (eval_canon d (values d by) (values_settled d by) (two f (plain side) (var z)))
        ∙ ap (λ w. build d f (w ∷ canon d (by z) ∷ [])) (sym (eval_apply d fvar by (plain side)) ∙ first)
        ∙ ap (λ w. build d f (inst d (values d i.by) side ∷ w ∷ [])) second

    other_of_kind : HasKind d (plain b.other) inner_kinds.kind
    other_of_kind =
        let both = both_of_kind d good.fits f (beside_associative d equations f t u b) (plain b.inner_from) (plain b.other) b.kind b.of_kind in
        let from : b.inner_from ≡ canon d (apply i.by (plain i.left)) = i.from ∙ sym (eval_apply d fvar i.by (plain i.left)) in
        let whole = canon_of_kind d good.fits (apply i.by (plain i.left)) inner_kinds.kind (HasKind-apply d i.by i.well_sorted.0 (plain i.left) inner_kinds.kind inner_kinds.left) in
        let one = kind_unique d good.fits (plain b.inner_from) b.kind inner_kinds.kind both.0 (subst (λ w. HasKind d (plain w) inner_kinds.kind) (sym from) whole) in
        subst (HasKind d (plain b.other)) one both.1

    joined_settled : Settled d (fapp f true b.arguments)
    joined_settled = subst (Settled d) b.joined (left_settled d equations b.inner_from b.inner_to i)

    abbrev wide : FlatTerm → FlatTerm
    wide side = canon d (two f (plain side) (var z))

    extension : IsExtension d i.equation (wide i.left) (wide i.right)
    extension =
        let head = plain_joined_head f b.arguments joined_settled in record {
          inner_left = i.left;
          inner_right = i.right;
          instance_of = i.instance_of;
          operator = f;
          arguments = head.0;
          head = ap plain b.joined ∙ head.1;
          associative = beside_associative d equations f t u b;
          beside = z;
          new_left = new_in_first i.equation.0 i.equation.1 inner_kinds.kind;
          new_right = new_in_second i.equation.0 i.equation.1 inner_kinds.kind;
          is_kind = kind_of_kind d good (plain i.left) inner_kinds.kind inner_kinds.left;
          of_kind = inner_kinds.left;
          left = refl;
          right = refl;
        }

    wide_head : head_of (wide i.left) ≡ Some f
    wide_head =
        let n = joined_settled.0.two_or_more in
        let e = ap length (ap (parts d f) b.joined ∙ parts_joined d f b.arguments) in
        let all = length-append (parts d f i.left) (fvar z ∷ []) in
        ap (λ w. head_of (build d f (w ∷ fvar z ∷ []))) (canon_plain d i.left (left_settled d equations b.inner_from b.inner_to i))
        ∙ ap head_of (sum_of_two_form d f (beside_associative d equations f t u b) i.left (fvar z) (omega arith))

    beside_redex : IsRedex d equations t (plain u)
    beside_redex =
        let kinds = (admissible i.equation i.listed).kinded.kinds in
        let new_left = new_in_side i.equation.0 (new_in_first i.equation.0 i.equation.1 inner_kinds.kind) i.left kinds.left i.instance_of.left in
        let new_right = new_in_side i.equation.1 (new_in_second i.equation.0 i.equation.1 inner_kinds.kind) i.right kinds.right i.instance_of.right in
        redex_of_rule t u (wide i.left) (wide i.right) (i.equation, i.listed, inr extension) f
        (ap head_of (beside_form d equations f t u b).1) wide_head by
        (with_value_sorted d good i.by z (plain b.other) i.well_sorted (kind_of_kind d good (plain i.left) inner_kinds.kind inner_kinds.left) other_of_kind)
        (b.from ∙ ap (λ w. build d f (w ∷ b.other ∷ [])) i.from ∙ sym (extended_is i.left new_left))
        (b.to ∙ ap (λ w. build d f (w ∷ b.other ∷ [])) i.to ∙ sym (extended_is i.right new_right))

  -- a tight redex is one of a rule
  pub tight_redex : (t u : FlatTerm) → IsTightRedex d equations t u → IsRedex d equations t (plain u)
  tight_redex t u (inl i) = instance_redex t u i
  tight_redex t u (inr b) = beside_redex b.0 t u b.1
