-- Steps at the root: what the rules make of a form.
use Rattle.std.proofs.Common.{◌≡◌, List, Option, Some, None, ℕ, sym, subst, inl, inr}
use Rattle.std.specs.Prelude.{Contains, slice_get}
use Rattle.std.proofs.lemmas.List.Elements.{All-contains, All-weaker, All-contains_itself}
use Rattle.std.proofs.lemmas.Option.{slice_get_within, get_or_from_slice_get}
use Rattle.fvn_base.proofs.Membership.{contains_map}
use Rattle.fvn_terms.specs.declared.plain.OpId.{OpId}
use Rattle.fvn_terms.specs.declared.declarations.Declarations.{Declarations}
use Rattle.fvn_terms.specs.Term.{Term, var}
use Rattle.fvn_terms.specs.Substitution.{apply, followed_by}
use Rattle.fvn_terms.specs.Equality.{two, BEqual}
use Rattle.fvn_terms.proofs.Substitutions.{apply-apply}
use Rattle.fvn_terms.proofs.Equal.{BEqual-refl, BEqual-sym, BEqual-trans, BEqual-apply}
use Rattle.fvn_terms.proofs.WellSorted.{IsWellSorted-followed_by}
use Rattle.fvn_forms.specs.Flat.{FlatTerm, plain}
use Rattle.fvn_forms.specs.Settled.{Settled}
use Rattle.fvn_forms.specs.Good.{IsGood}
use Rattle.fvn_forms.proofs.Eval.{canon_settled}
use Rattle.fvn_signature.specs.Queries.{IsCompleted}
use Rattle.fvn_flat.specs.Forms.{head_of}
use Rattle.fvn_flat.specs.FlatPlaces.{here}
use Rattle.fvn_flat.specs.Rules.{IsRuleFrom, IsRuleOf}
use Rattle.fvn_rewrite_laws.specs.Kinds.{HaveOneKind}
use Rattle.fvn_rewrite_laws.specs.Laws.{RulesAreLawful}
use Rattle.fvn_theory.specs.Equations.{sides_of, equations_of}
use Rattle.fvn_rewrite_coherence.specs.PlacedSteps.{IsRedex}
use Rattle.fvn_rewrite_coherence.specs.Laws.{RulesAreCoherent}
use Rattle.fvn_rewrite_rules.specs.declared.rule.Rule.{Rule}
use Rattle.fvn_rewrite_rules.specs.Given.{RuleLists, headed, IsNumberedRule}
use Rattle.fvn_rewrite.specs.inner.Trying.{HasNoMatch, SidesFit, AllSidesFit, NoneMatches, IsGivenBy, TriesAs}
use Rattle.fvn_rewrite.specs.inner.Walking.{IsNoRedex, IsNext, RootAs}
use Rattle.fvn_rewrite.specs.Usable.{AreUsable}

listed_at : {A : Type 0} (xs : List A) (i : ℕ) (x : A) → slice_get xs i ≡ Some x → Contains xs x
listed_at xs i x is = (i, slice_get_within xs i x is, get_or_from_slice_get xs i x x is)

module _ (d : Declarations) where
  -- the sides of a rule are flat
  rule_settled : (equation : Term × Term) (l r : FlatTerm) → IsRuleFrom d equation l r → Settled d l × Settled d r
  rule_settled equation l r (inl i) = (subst (Settled d) (sym i.left) (canon_settled d (apply i.by equation.0)), subst (Settled d) (sym i.right) (canon_settled d (apply i.by equation.1)))
  rule_settled equation l r (inr e) = (
    subst (Settled d) (sym e.left) (canon_settled d (two e.operator (plain e.inner_left) (var e.beside))),
    subst (Settled d) (sym e.right) (canon_settled d (two e.operator (plain e.inner_right) (var e.beside))),
  )

  module _ (lists : RuleLists) (usable : AreUsable d lists) where
    -- equations with admissible sides have sides of one kind
    pub have_one_kind : HaveOneKind d (equations_of lists.equations)
    have_one_kind equation listed = (usable.admissible equation listed).kinded.kinds

    numbered : (f : OpId) (rule : Rule) → Contains (headed lists f) rule → IsNumberedRule d lists.equations rule
    numbered f rule listed = All-contains (IsNumberedRule d lists.equations) lists.rules rule usable.rules.sound (usable.rules.given f rule listed).0

    -- what is needed under a head is made from the equations
    pub is_rule : (f : OpId) (rule : Rule) → Contains (headed lists f) rule → IsRuleOf d (equations_of lists.equations) rule.left rule.right
    is_rule f rule listed =
        let n = numbered f rule listed in
        (sides_of n.equation, contains_map sides_of lists.equations n.equation (listed_at lists.equations n.before n.equation n.is), n.made)

    module _ (good : IsGood d) (completed : IsCompleted d) where
      -- its sides fit
      rule_fits : RulesAreLawful → (f : OpId) (rule : Rule) → Contains (headed lists f) rule → SidesFit d rule
      rule_fits laws f rule listed =
          let k = (laws d good completed (equations_of lists.equations) have_one_kind).kinds rule.left rule.right (is_rule f rule listed) in
          let n = numbered f rule listed in
          let s = rule_settled (sides_of n.equation) rule.left rule.right n.made in record {
            left = record { flat = s.0; kinded = (k.kind, k.left) };
            right = record { flat = s.1; kinded = (k.kind, k.right) };
          }

      pub sides_fit : RulesAreLawful → (f : OpId) → AllSidesFit d (headed lists f)
      sides_fit laws f = All-weaker (Contains (headed lists f)) (SidesFit d) (rule_fits laws f) (headed lists f) (All-contains_itself (headed lists f))

      -- an instance of an instance is one, so where no rule that is needed matches, none does
      no_redex_here : (f : OpId) (t : FlatTerm) → head_of t ≡ Some f → NoneMatches d t (headed lists f) → IsNoRedex d (equations_of lists.equations) t
      no_redex_here f t head none u r =
          let same : r.operator ≡ f = cc in
          let w = usable.rules.enough f r.left r.right r.rule (rw same at r.heads_left) in
          let i = w.1.1 in
          let made : BEqual d (apply (followed_by i.by r.by) (plain w.0.left)) (plain t) =
          subst (λ v. BEqual d v (plain t)) (apply-apply i.by r.by (plain w.0.left)) (BEqual-trans d (BEqual-apply d r.by r.well_sorted.0 i.left) (BEqual-sym d r.matches)) in
          All-contains (HasNoMatch d t) (headed lists f) w.0 none w.1.0 (followed_by i.by r.by) (IsWellSorted-followed_by d i.by r.by i.well_sorted r.well_sorted, (made, tt))

      next_here : RulesAreCoherent → (f : OpId) (t u : FlatTerm) → head_of t ≡ Some f → IsGivenBy d (headed lists f) t u → IsNext d (equations_of lists.equations) t u
      next_here laws f t u head g =
          let redex : IsRedex d (equations_of lists.equations) t (plain u) = record {
            left = g.rule.left;
            right = g.rule.right;
            rule = is_rule f g.rule g.listed;
            operator = f;
            heads_form = head;
            heads_left = (usable.rules.given f g.rule g.listed).1;
            by = g.by;
            well_sorted = g.well_sorted;
            matches = BEqual-sym d g.left;
            gives = g.right;
          } in record {
            steps = (laws d good completed (equations_of lists.equations) usable.admissible).steps t (plain u) record { at = t; given = u; redex = redex; replaced = u; replaces = here; makes = BEqual-refl d (plain u) };
            fits = g.fits;
          }

      -- what trying the rules finds is what there is at the root
      pub root_as : RulesAreCoherent → (f : OpId) (t : FlatTerm) (o : Option FlatTerm) → head_of t ≡ Some f → TriesAs d (headed lists f) t o → RootAs d (equations_of lists.equations) t o
      root_as laws f t None head h = no_redex_here f t head h
      root_as laws f t (Some u) head h = next_here laws f t u head h
