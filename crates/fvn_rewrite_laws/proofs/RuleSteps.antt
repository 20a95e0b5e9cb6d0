-- Instances of the rules of a module are steps.
use Rattle.std.proofs.Common.{◌≡◌, ◌⊎◌, refl, sym, subst, inl, inr}
use Rattle.std.specs.List.{Contains}
use Rattle.fvn_terms.specs.declared.plain.Var.{Var}
use Rattle.fvn_terms.specs.declared.plain.OpId.{OpId}
use Rattle.fvn_terms.specs.declared.plain.SortId.{SortId}
use Rattle.fvn_terms.specs.declared.declarations.Declarations.{Declarations}
use Rattle.fvn_terms.specs.Term.{Term, var, app}
use Rattle.fvn_terms.specs.Substitution.{Substitution, apply, followed_by, Occurs}
use Rattle.fvn_terms.specs.Signature.{IsSort, same, HasKind}
use Rattle.fvn_terms.specs.Places.{here, inside, first, stop}
use Rattle.fvn_terms.specs.Equality.{two, BEqual}
use Rattle.fvn_terms.specs.Sorts.{HasSort, IsWellSorted}
use Rattle.fvn_terms.specs.Theory.{Equations}
use Rattle.fvn_terms.specs.Rewriting.{Rewrites, BringsNoVariable}
use Rattle.fvn_terms.specs.Laws.{RewritingLaws}
use Rattle.fvn_terms.proofs.Substitutions.{apply-apply}
use Rattle.fvn_terms.proofs.Equal.{HasKind-apply, BEqual-apply, BEqual-sym}
use Rattle.fvn_terms.proofs.WellSorted.{IsWellSorted-followed_by}
use Rattle.fvn_terms.proofs.Occurrences.{occurs_value, occurs_instance, BEqual-occurs}
use Rattle.fvn_forms.specs.Flat.{FlatTerm, plain}
use Rattle.fvn_forms.specs.Good.{IsGood}
use Rattle.fvn_forms.proofs.KindsKept.{sum_of_kind, kind_unique}
use Rattle.fvn_forms.proofs.ToCanon.{to_canon, canon_of_kind}
use Rattle.fvn_signature.specs.Queries.{IsCompleted}
use Rattle.fvn_flat.specs.Rules.{GoesToIdentity, IsIdentityChoice, IsIdentityInstance, IsExtension, IsRuleFrom, IsRuleOf}
use Rattle.fvn_rewrite_laws.specs.Kinds.{HasOneKind, HaveOneKind}
use Rattle.fvn_rewrite_laws.specs.Laws.{RuleLaws}
use Rattle.fvn_rewrite_laws.proofs.Shaping.{two_terms}
use Rattle.fvn_rewrite_laws.proofs.Collapsing.{keeps}

module _ (d : Declarations) (good : IsGood d) (completed : IsCompleted d) where
  -- a choice of identities is well-sorted
  choice_sorted : (t : Term) (k : SortId) → HasKind d t k → (a : Substitution) → IsIdentityChoice d t a → IsWellSorted d a
  choice_sorted t k h a choice = (keeps d good completed t k h a choice, λ x. go x (choice x)) where
    go : (x : Var) → (a x ≡ var x) ⊎ (Occurs x t × GoesToIdentity d a x) → HasSort d (a x) x.sort
    go x (inl e) = subst (λ u. HasSort d u x.sort) (sym e) (record { form = var x; equal = stop; gets = record { sort = x.sort; gets = refl; below = same } })
    go x (inr w) = subst (λ u. HasSort d u x.sort) (sym w.1.is) w.1.sorted

  -- what is known of an identity instance
  module _ (equation : Term × Term) (kinds : HasOneKind d equation) (l r : FlatTerm) (i : IsIdentityInstance d equation l r) where
    by_sorted : IsWellSorted d i.by
    by_sorted = choice_sorted equation.0 kinds.kind kinds.left i.by i.choice

    raw_left : HasKind d (apply i.by equation.0) kinds.kind
    raw_left = HasKind-apply d i.by by_sorted.0 equation.0 kinds.kind kinds.left

    raw_right : HasKind d (apply i.by equation.1) kinds.kind
    raw_right = HasKind-apply d i.by by_sorted.0 equation.1 kinds.kind kinds.right

    left_equal : BEqual d (apply i.by equation.0) (plain l)
    left_equal = subst (λ f. BEqual d (apply i.by equation.0) (plain f)) (sym i.left) (to_canon d good.fits (apply i.by equation.0) kinds.kind raw_left)

    right_equal : BEqual d (apply i.by equation.1) (plain r)
    right_equal = subst (λ f. BEqual d (apply i.by equation.1) (plain f)) (sym i.right) (to_canon d good.fits (apply i.by equation.1) kinds.kind raw_right)

    instance_kinds : HasOneKind d (plain l, plain r)
    instance_kinds = record {
      kind = kinds.kind;
      left = subst (λ f. HasKind d (plain f) kinds.kind) (sym i.left) (canon_of_kind d good.fits (apply i.by equation.0) kinds.kind raw_left);
      right = subst (λ f. HasKind d (plain f) kinds.kind) (sym i.right) (canon_of_kind d good.fits (apply i.by equation.1) kinds.kind raw_right);
    }

    instance_step : (equations : Equations) → Contains equations equation → (s : Substitution) → IsWellSorted d s → Rewrites d equations (apply s (plain l)) (apply s (plain r))
    instance_step equations listed s sorted = record {
      from = apply (followed_by i.by s) equation.0;
      to = apply (followed_by i.by s) equation.1;
      before = BEqual-sym d (subst (λ u. BEqual d u (apply s (plain l))) (apply-apply i.by s equation.0) (BEqual-apply d s sorted.0 left_equal));
      replaced = here (record { left = equation.0; right = equation.1; listed = listed; by = followed_by i.by s; well_sorted = IsWellSorted-followed_by d i.by s by_sorted sorted; from = refl; to = refl });
      after = subst (λ u. BEqual d u (apply s (plain r))) (apply-apply i.by s equation.1) (BEqual-apply d s sorted.0 right_equal);
    }

    instance_variables : ((x : Var) → Occurs x equation.1 → Occurs x equation.0) → (x : Var) → Occurs x (plain r) → Occurs x (plain l)
    instance_variables within x o =
        let raw = BEqual-occurs x d (apply i.by equation.1) (plain r) right_equal o in
        let w = occurs_value x i.by equation.1 raw in
        BEqual-occurs x d (plain l) (apply i.by equation.0) (BEqual-sym d left_equal) (occurs_instance x i.by equation.0 w.0 (within w.0 w.1.0) w.1.1)

  -- what is known of an extension
  module _ (equation : Term × Term) (kinds : HasOneKind d equation) (l r : FlatTerm) (e : IsExtension d equation l r) where
    abbrev f : OpId
    f = e.operator

    inner_kinds : HasOneKind d (plain e.inner_left, plain e.inner_right)
    inner_kinds = instance_kinds equation kinds e.inner_left e.inner_right e.instance_of

    one_kind : inner_kinds.kind ≡ e.beside.sort
    one_kind = kind_unique d good.fits (plain e.inner_left) inner_kinds.kind e.beside.sort inner_kinds.left e.of_kind

    headed : HasKind d (app f e.arguments) e.beside.sort
    headed = subst (λ t. HasKind d t e.beside.sort) e.head e.of_kind

    beside_kind : HasKind d (var e.beside) e.beside.sort
    beside_kind = (subst (IsSort d) headed.result (good.kinded.listed headed.rank.result (good.kinded.ranks f headed.rank headed.listed).1), e.is_kind)

    with_beside : (t : Term) → HasKind d t e.beside.sort → HasKind d (two f t (var e.beside)) e.beside.sort
    with_beside t h =
        let w = two_terms d good f e.associative e.arguments e.beside.sort headed in
        sum_of_kind d good.fits f e.associative w.0 w.1 t (var e.beside) e.beside.sort (subst (λ us. HasKind d (app f us) e.beside.sort) w.2 headed) h beside_kind

    left_kind : HasKind d (two f (plain e.inner_left) (var e.beside)) e.beside.sort
    left_kind = with_beside (plain e.inner_left) e.of_kind

    right_kind : HasKind d (two f (plain e.inner_right) (var e.beside)) e.beside.sort
    right_kind = with_beside (plain e.inner_right) (subst (HasKind d (plain e.inner_right)) one_kind inner_kinds.right)

    wide_left : BEqual d (two f (plain e.inner_left) (var e.beside)) (plain l)
    wide_left = subst (λ g. BEqual d (two f (plain e.inner_left) (var e.beside)) (plain g)) (sym e.left) (to_canon d good.fits (two f (plain e.inner_left) (var e.beside)) e.beside.sort left_kind)

    wide_right : BEqual d (two f (plain e.inner_right) (var e.beside)) (plain r)
    wide_right = subst (λ g. BEqual d (two f (plain e.inner_right) (var e.beside)) (plain g)) (sym e.right) (to_canon d good.fits (two f (plain e.inner_right) (var e.beside)) e.beside.sort right_kind)

    extension_kinds : HasOneKind d (plain l, plain r)
    extension_kinds = record {
      kind = e.beside.sort;
      left = subst (λ g. HasKind d (plain g) e.beside.sort) (sym e.left) (canon_of_kind d good.fits (two f (plain e.inner_left) (var e.beside)) e.beside.sort left_kind);
      right = subst (λ g. HasKind d (plain g) e.beside.sort) (sym e.right) (canon_of_kind d good.fits (two f (plain e.inner_right) (var e.beside)) e.beside.sort right_kind);
    }

    extension_step : (equations : Equations) → RewritingLaws d equations → Contains equations equation → (s : Substitution) → IsWellSorted d s → Rewrites d equations (apply s (plain l)) (apply s (plain r))
    extension_step equations laws listed s sorted =
        let a = apply s (plain e.inner_left) in
        let b = apply s (plain e.inner_right) in
        let inner = instance_step equation kinds e.inner_left e.inner_right e.instance_of equations listed s sorted in
        laws.modulo (two f a (s e.beside)) (apply s (plain l)) (two f b (s e.beside)) (apply s (plain r))
        (BEqual-apply d s sorted.0 wide_left)
        (laws.inside (two f a (s e.beside)) (two f b (s e.beside)) (inside (first (here inner))))
        (BEqual-apply d s sorted.0 wide_right)

    extension_variables : ((x : Var) → Occurs x equation.1 → Occurs x equation.0) → (x : Var) → Occurs x (plain r) → Occurs x (plain l)
    extension_variables within x o =
        BEqual-occurs x d (plain l) (two f (plain e.inner_left) (var e.beside)) (BEqual-sym d wide_left)
        (go (BEqual-occurs x d (two f (plain e.inner_right) (var e.beside)) (plain r) wide_right o))
      where
        go : Occurs x (two f (plain e.inner_right) (var e.beside)) → Occurs x (two f (plain e.inner_left) (var e.beside))
        go (inl i) = inl (instance_variables equation kinds e.inner_left e.inner_right e.instance_of within x i)
        go (inr m) = inr m

  module _ (equations : Equations) (kinded : HaveOneKind d equations) (laws : RewritingLaws d equations) where
    rule_steps : (l r : FlatTerm) → IsRuleOf d equations l r → (s : Substitution) → IsWellSorted d s → Rewrites d equations (apply s (plain l)) (apply s (plain r))
    rule_steps l r w s sorted = go w.2 where
      go : IsRuleFrom d w.0 l r → Rewrites d equations (apply s (plain l)) (apply s (plain r))
      go (inl i) = instance_step w.0 (kinded w.0 w.1) l r i equations w.1 s sorted
      go (inr e) = extension_step w.0 (kinded w.0 w.1) l r e equations laws w.1 s sorted

    rule_variables : BringsNoVariable equations → (l r : FlatTerm) → IsRuleOf d equations l r → (x : Var) → Occurs x (plain r) → Occurs x (plain l)
    rule_variables within l r w x o = go w.2 where
      go : IsRuleFrom d w.0 l r → Occurs x (plain l)
      go (inl i) = instance_variables w.0 (kinded w.0 w.1) l r i (within w.0.0 w.0.1 w.1) x o
      go (inr e) = extension_variables w.0 (kinded w.0 w.1) l r e (within w.0.0 w.0.1 w.1) x o

    rule_kinds : (l r : FlatTerm) → IsRuleOf d equations l r → HasOneKind d (plain l, plain r)
    rule_kinds l r w = go w.2 where
      go : IsRuleFrom d w.0 l r → HasOneKind d (plain l, plain r)
      go (inl i) = instance_kinds w.0 (kinded w.0 w.1) l r i
      go (inr e) = extension_kinds w.0 (kinded w.0 w.1) l r e

    pub rule_laws : RuleLaws d equations
    rule_laws = record { steps = rule_steps; variables = rule_variables; kinds = rule_kinds }
