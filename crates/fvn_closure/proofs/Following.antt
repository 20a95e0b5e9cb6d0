-- Drawn successors and children are reached from instances of what they come from.
use Rattle.std.proofs.Common.{◌≡◌, ◌⊎◌, ℕ, ◌+◌, List, [], ◌∷◌, ◌++◌, map, refl, sym, subst, inl, inr}
use Rattle.std.specs.List.{AllZip, All, Contains}
use Rattle.std.proofs.lemmas.List.Elements.{All-head, Contains-append_left, Contains-append_right, Contains-append_cases}
use Rattle.fvn_base.proofs.Membership.{contains_here, contains_later, contains_map, map_contains}
use Rattle.fvn_terms.specs.declared.plain.Var.{Var}
use Rattle.fvn_terms.specs.declared.plain.SortId.{SortId}
use Rattle.fvn_terms.specs.declared.declarations.Declarations.{Declarations}
use Rattle.fvn_terms.specs.Term.{Term}
use Rattle.fvn_terms.specs.Substitution.{Substitution, apply, followed_by, Occurs}
use Rattle.fvn_terms.specs.Signature.{HasKind, IsTerm}
use Rattle.fvn_terms.specs.Places.{stop}
use Rattle.fvn_terms.specs.Equality.{BEqual}
use Rattle.fvn_terms.specs.Sorts.{IsWellSorted}
use Rattle.fvn_terms.specs.Unifiers.{Problem}
use Rattle.fvn_terms.specs.Theory.{Equations}
use Rattle.fvn_terms.specs.Rewriting.{Rewrites, ListRewrites, ListSequence}
use Rattle.fvn_terms.proofs.Substitutions.{apply-apply}
use Rattle.fvn_terms.proofs.Equal.{HasKind-apply, BEqual-apply, BEqual-sym, BEqual-trans}
use Rattle.fvn_terms.proofs.WellSorted.{IsWellSorted-followed_by}
use Rattle.fvn_forms.specs.Flat.{FlatTerm, plain}
use Rattle.fvn_forms.specs.Canon.{canon}
use Rattle.fvn_forms.specs.Good.{IsGood}
use Rattle.fvn_forms.proofs.Eval.{canon_settled}
use Rattle.fvn_forms.proofs.KindsKept.{kind_unique, b_equal_keeps_kind}
use Rattle.fvn_forms.proofs.ToCanon.{to_canon, canon_of_kind}
use Rattle.fvn_flat.specs.Drawn.{Renaming, renamed}
use Rattle.fvn_flat.specs.Fits.{Fits, AllFit}
use Rattle.fvn_flat.specs.Problems.{variables}
use Rattle.fvn_flat.specs.FlatPlaces.{with_beside}
use Rattle.fvn_flat.specs.Successors.{Narrowed, renamed_form, OccursIn, IsRenamed, IsStepFrom, IsDrawnSuccessor}
use Rattle.fvn_flat.proofs.Fitting.{canon_fits}
use Rattle.fvn_flat.proofs.VariableLists.{variables_list, variables_occur}
use Rattle.fvn_rewrite_laws.proofs.Lists.{each_equal_itself}
use Rattle.fvn_closure.proofs.Known.{IsKnown}
use Rattle.fvn_closure.proofs.Places.{place_fits, placed_step, part_step}
use Rattle.fvn_closure.proofs.Renamings.{variables_of_all, all_variables, no_other_variables, limited, limited_sorted, limited_renames}

-- one substitution and then another, on a list
pub instances_followed : (s c : Substitution) (ts : List Term) → map (apply c) (map (apply s) ts) ≡ map (apply (followed_by s c)) ts
instances_followed s c [] = refl
instances_followed s c (t ∷ ts) = rw (apply-apply s c t, instances_followed s c ts) refl

module _ (d : Declarations) (good : IsGood d) (equations : Equations) (known : IsKnown d equations) where
  -- a sequence leads from an instance of the first to the second, whose values are those of the first and then the instance
  pub record Follows (vars : List Var) (v w : Narrowed) : Type 0 where
    pub by : Substitution
    pub well_sorted : IsWellSorted d by
    pub steps : ℕ
    pub sequence : ListSequence d equations steps (map (apply by) (map plain v.terms)) (map plain w.terms)
    pub same : (x : Var) → Contains vars x → BEqual d (w.values x) (apply by (v.values x))

  pub follows_on : (vars : List Var) (u v w : Narrowed) → Follows vars u v → Follows vars v w → Follows vars u w
  follows_on vars u v w h k =
      let moved = known.lists.instances k.by k.well_sorted h.steps (map (apply h.by) (map plain u.terms)) (map plain v.terms) h.sequence in
      record {
        by = followed_by h.by k.by;
        well_sorted = IsWellSorted-followed_by d h.by k.by h.well_sorted k.well_sorted;
        steps = h.steps + k.steps;
        sequence =
            known.rewriting.list_joined h.steps k.steps (map (apply (followed_by h.by k.by)) (map plain u.terms)) (map (apply k.by) (map plain v.terms)) (map plain w.terms)
            (subst (λ ts. ListSequence d equations h.steps ts (map (apply k.by) (map plain v.terms))) (instances_followed h.by k.by (map plain u.terms)) moved)
            k.sequence;
        same = λ x m. BEqual-trans d (k.same x m) (subst (BEqual d (apply k.by (v.values x))) (apply-apply h.by k.by (u.values x)) (BEqual-apply d k.by (k.well_sorted).0 (h.same x m)));
      }

  -- the flat form of a renamed form that fits
  module _ (r : Renaming) (vars : List Var) (sorted : IsWellSorted d (limited r vars)) where
    renamed_of_kind : (t : Term) → ((x : Var) → Occurs x t → Contains vars x) → (k : SortId) → HasKind d t k → HasKind d (renamed r t) k
    renamed_of_kind t h k j = subst (λ u. HasKind d u k) (limited_renames r vars t h) (HasKind-apply d (limited r vars) sorted.0 t k j)

    renamed_equal : (t : Term) → ((x : Var) → Occurs x t → Contains vars x) → (k : SortId) → HasKind d t k → BEqual d (apply (limited r vars) t) (plain (canon d (renamed r t)))
    renamed_equal t h k j = subst (λ u. BEqual d u (plain (canon d (renamed r t)))) (sym (limited_renames r vars t h)) (to_canon d good.fits (renamed r t) k (renamed_of_kind t h k j))

    renamed_list : (ts : List FlatTerm) → AllFit d ts → ((x : Var) (t : FlatTerm) → Contains ts t → Occurs x (plain t) → Contains vars x) →
        AllZip (BEqual d) (map (apply (limited r vars)) (map plain ts)) (map plain (map (renamed_form d r) ts)) × AllFit d (map (renamed_form d r) ts)
    renamed_list [] fit h = (tt, tt)
    renamed_list (t ∷ ts) fit h =
        let here = λ (x : Var) (o : Occurs x (plain t)). h x t (contains_here t ts) o in
        let j = fit.0.kinded in
        let rest = renamed_list ts fit.1 (λ x u m o. h x u (contains_later t ts u m) o) in
        ((renamed_equal (plain t) here j.0 j.1, rest.0), (canon_fits d good.fits (renamed r (plain t)) (j.0, renamed_of_kind (plain t) here j.0 j.1), rest.1))

  -- what is renamed follows
  module _ (vars : List Var) (v w : Narrowed) (fit : AllFit d v.terms) (h : IsRenamed d vars v w) where
    abbrev terms_and_values : List Term
    terms_and_values = map plain v.terms ++ map v.values vars

    abbrev renamed_variables : List Var
    renamed_variables = variables_of_all terms_and_values

    within : (x : Var) → Contains renamed_variables x → OccursIn d vars v x
    within x m = let w = no_other_variables terms_and_values x m in go w.0 w.1.1 (split w.0 w.1.0) where
      split : (t : Term) → Contains terms_and_values t → Contains (map plain v.terms) t ⊎ Contains (map v.values vars) t
      split t m = Contains-append_cases (map plain v.terms) (map v.values vars) t m

      go : (t : Term) → Occurs x t → Contains (map plain v.terms) t ⊎ Contains (map v.values vars) t → OccursIn d vars v x
      go t o (inl m) = let w = map_contains plain v.terms t m in inl (w.1.0.0, w.0, w.1.0.1, w.1.0.2, subst (Occurs x) (sym w.1.1) o)
      go t o (inr m) = let w = map_contains v.values vars t m in inr (w.0, w.1.0, subst (Occurs x) (sym w.1.1) o)

    by_sorted : IsWellSorted d (limited h.by renamed_variables)
    by_sorted = limited_sorted d (OccursIn d vars v) h.by h.renames renamed_variables within

    in_terms : (x : Var) (t : FlatTerm) → Contains v.terms t → Occurs x (plain t) → Contains renamed_variables x
    in_terms x t m o = all_variables terms_and_values (plain t) x (Contains-append_left (map plain v.terms) (map v.values vars) (plain t) (contains_map plain v.terms t m)) o

    in_values : (x y : Var) → Contains vars x → Occurs y (v.values x) → Contains renamed_variables y
    in_values x y m o = all_variables terms_and_values (v.values x) y (Contains-append_right (map plain v.terms) (map v.values vars) (v.values x) (contains_map v.values vars x m)) o

    pub renamed_follows : Follows vars v w × AllFit d w.terms
    renamed_follows =
        let l = renamed_list h.by renamed_variables by_sorted v.terms fit in_terms in (
          record {
            by = limited h.by renamed_variables;
            well_sorted = by_sorted;
            steps = 0;
            sequence = subst (λ ts. AllZip (BEqual d) (map (apply (limited h.by renamed_variables)) (map plain v.terms)) (map plain ts)) (sym h.terms) l.0;
            same = λ x m. subst (BEqual d (w.values x)) (sym (limited_renames h.by renamed_variables (v.values x) (λ y o. in_values x y m o))) (h.values x m);
          },
          subst (AllFit d) (sym h.terms) l.1,
        )

  -- one term of a list steps, and all are flat again
  abbrev flat_under : Substitution → FlatTerm → FlatTerm
  flat_under s t = canon d (apply s (plain t))

  module _ (s : Substitution) (sorted : IsWellSorted d s) where
    under_kind : (t : FlatTerm) → Fits d t → IsTerm d (apply s (plain t))
    under_kind t h = (h.kinded.0, HasKind-apply d s sorted.0 (plain t) h.kinded.0 h.kinded.1)

    under_equal : (t : FlatTerm) → IsTerm d (apply s (plain t)) → BEqual d (apply s (plain t)) (plain (flat_under s t))
    under_equal t h = to_canon d good.fits (apply s (plain t)) h.0 h.1

    all_under : (ts : List FlatTerm) → AllFit d ts → AllZip (BEqual d) (map (apply s) (map plain ts)) (map plain (map (flat_under s) ts)) × AllFit d (map (flat_under s) ts)
    all_under [] h = (tt, tt)
    all_under (t ∷ ts) h = let rest = all_under ts h.1 in ((under_equal t (under_kind t h.0), rest.0), (canon_fits d good.fits (apply s (plain t)) (under_kind t h.0), rest.1))

    one_steps : (before : List FlatTerm) (t u : FlatTerm) (after : List FlatTerm) → AllFit d (before ++ t ∷ after) → Rewrites d equations (apply s (plain t)) (apply s (plain u)) →
        ListRewrites d equations (map (apply s) (map plain (before ++ t ∷ after))) (map plain (map (flat_under s) (before ++ u ∷ after))) × AllFit d (map (flat_under s) (before ++ u ∷ after))
    one_steps [] t u after h r =
        let rest = all_under after h.1 in
        let w = under_kind t h.0 in
        let kinded : IsTerm d (apply s (plain u)) = (w.0, known.kinded.steps (apply s (plain t)) (apply s (plain u)) r w.0 w.1) in (
          inl (known.rewriting.modulo (apply s (plain t)) (apply s (plain t)) (apply s (plain u)) (plain (flat_under s u)) stop r (under_equal u kinded), rest.0),
          (canon_fits d good.fits (apply s (plain u)) kinded, rest.1),
        )
    one_steps (b ∷ before) t u after h r =
        let rest = one_steps before t u after h.1 r in
        let w = under_kind b h.0 in
        (inr (under_equal b w, rest.0), (canon_fits d good.fits (apply s (plain b)) w, rest.1))

  -- a step by a rule follows
  module _ (vars : List Var) (drawn : Problem → Substitution → Type 0) (v w : Narrowed) (fit : AllFit d v.terms) (h : IsStepFrom d vars equations drawn v w) where
    abbrev rule_variables : List Var
    rule_variables = variables (plain h.l) ++ variables (plain h.r)

    abbrev OccursInRule : Var → Type 0
    OccursInRule x = Occurs x (plain h.l) ⊎ Occurs x (plain h.r)

    within_rule : (x : Var) → Contains rule_variables x → OccursInRule x
    within_rule x m = elim (Contains-append_cases (variables (plain h.l)) (variables (plain h.r)) x m) as (λ _. OccursInRule x) [
      | inl i ↦ inl (variables_occur x (plain h.l) i)
      | inr i ↦ inr (variables_occur x (plain h.r) i)
    ]

    in_left : (x : Var) → Occurs x (plain h.l) → Contains rule_variables x
    in_left x o = Contains-append_left (variables (plain h.l)) (variables (plain h.r)) x (variables_list x (plain h.l) o)

    in_right : (x : Var) → Occurs x (plain h.r) → Contains rule_variables x
    in_right x o = Contains-append_right (variables (plain h.l)) (variables (plain h.r)) x (variables_list x (plain h.r) o)

    rule_sorted : IsWellSorted d (limited h.by rule_variables)
    rule_sorted = limited_sorted d OccursInRule h.by h.renames rule_variables within_rule

    abbrev new_left : FlatTerm
    new_left = renamed_form d h.by h.l

    abbrev new_right : FlatTerm
    new_right = renamed_form d h.by h.r

    abbrev unifier : Substitution
    unifier = h.unifier

    unifier_sorted : IsWellSorted d unifier
    unifier_sorted = h.unifies.0

    rule_kinds : (k : SortId) × (HasKind d (plain h.l) k × HasKind d (plain h.r) k)
    rule_kinds = let w = known.rules.kinds h.l h.r h.rule in (w.kind, (w.left, w.right))

    -- the renamed rule steps under the unifier
    left_equal : BEqual d (apply (followed_by (limited h.by rule_variables) unifier) (plain h.l)) (apply unifier (plain new_left))
    left_equal = subst (λ t. BEqual d t (apply unifier (plain new_left))) (apply-apply (limited h.by rule_variables) unifier (plain h.l)) (BEqual-apply d unifier unifier_sorted.0 (renamed_equal h.by rule_variables rule_sorted (plain h.l) in_left rule_kinds.0 rule_kinds.1.0))

    right_equal : BEqual d (apply (followed_by (limited h.by rule_variables) unifier) (plain h.r)) (apply unifier (plain new_right))
    right_equal = subst (λ t. BEqual d t (apply unifier (plain new_right))) (apply-apply (limited h.by rule_variables) unifier (plain h.r)) (BEqual-apply d unifier unifier_sorted.0 (renamed_equal h.by rule_variables rule_sorted (plain h.r) in_right rule_kinds.0 rule_kinds.1.1))

    unified : BEqual d (apply unifier (plain h.at)) (apply unifier (plain new_left))
    unified = All-head (λ p. BEqual d (apply unifier p.0) (apply unifier p.1)) (plain h.at, plain new_left) [] (subst (All (λ p. BEqual d (apply unifier p.0) (apply unifier p.1))) h.is_problem h.unifies.1)

    rule_step : Rewrites d equations (apply unifier (plain h.at)) (apply unifier (plain new_right))
    rule_step =
        let both = followed_by (limited h.by rule_variables) unifier in
        known.rewriting.modulo (apply both (plain h.l)) (apply unifier (plain h.at)) (apply both (plain h.r)) (apply unifier (plain new_right))
        (BEqual-trans d left_equal (BEqual-sym d unified))
        (known.rules.steps h.l h.r h.rule both (IsWellSorted-followed_by d (limited h.by rule_variables) unifier rule_sorted unifier_sorted))
        right_equal

    -- the new right side has the kinds of the part
    right_keeps : (q : SortId) → HasKind d (plain h.at) q → HasKind d (plain new_right) q
    right_keeps q j =
        let k = rule_kinds.0 in
        let old = b_equal_keeps_kind d good.fits unified q (HasKind-apply d unifier unifier_sorted.0 (plain h.at) q j) in
        let new = HasKind-apply d unifier unifier_sorted.0 (plain new_left) k (canon_of_kind d good.fits (renamed h.by (plain h.l)) k (renamed_of_kind h.by rule_variables rule_sorted (plain h.l) in_left k rule_kinds.1.0)) in
        let same = kind_unique d good.fits (apply unifier (plain new_left)) k q new old in
        subst (HasKind d (plain new_right)) same (canon_of_kind d good.fits (renamed h.by (plain h.r)) k (renamed_of_kind h.by rule_variables rule_sorted (plain h.r) in_right k rule_kinds.1.1))

    fit_split : AllFit d (h.before ++ h.term ∷ h.after)
    fit_split = subst (AllFit d) h.listed fit

    term_step : Rewrites d equations (apply unifier (plain h.term)) (apply unifier (plain h.replaced))
    term_step =
        let new = with_beside d h.beside new_right in
        let whole = place_fits d good h.whole new h.replaces (fit_at h.before fit_split) in
        placed_step d good equations known.rewriting unifier unifier_sorted h.whole new h.term h.replaced h.replaces
        (part_step d good equations known.rewriting unifier unifier_sorted h.at new_right (canon_settled d (renamed h.by (plain h.r))) right_keeps rule_step h.whole h.beside whole h.part)
      where
        fit_at : (before : List FlatTerm) → AllFit d (before ++ h.term ∷ h.after) → Fits d h.term
        fit_at [] k = k.0
        fit_at (b ∷ before) k = fit_at before k.1

    pub step_follows : Follows vars v w × AllFit d w.terms
    step_follows =
        let r = one_steps unifier unifier_sorted h.before h.term h.replaced h.after fit_split term_step in (
          record {
            by = unifier;
            well_sorted = unifier_sorted;
            steps = 1;
            sequence = subst (λ ts. ListSequence d equations 1 (map (apply unifier) (map plain v.terms)) (map plain ts)) (sym h.terms)
                (subst (λ ts. ListSequence d equations 1 (map (apply unifier) (map plain ts)) (map plain (map (flat_under unifier) (h.before ++ h.replaced ∷ h.after)))) (sym h.listed)
                (map plain (map (flat_under unifier) (h.before ++ h.replaced ∷ h.after)), (r.0, each_equal_itself d (map plain (map (flat_under unifier) (h.before ++ h.replaced ∷ h.after))))));
            same = h.values;
          },
          subst (AllFit d) (sym h.terms) r.1,
        )

  -- so does a drawn successor
  pub successor_follows : (vars : List Var) (drawn : Problem → Substitution → Type 0) (v w : Narrowed) → AllFit d v.terms → IsDrawnSuccessor d vars equations drawn v w → Follows vars v w
  successor_follows vars drawn v w fit h =
      let a = renamed_follows vars v h.from fit h.renamed_before in
      let b = step_follows vars drawn h.from h.to a.1 h.step in
      let c = renamed_follows vars h.to w b.1 h.renamed_after in
      follows_on vars v h.from w a.0 (follows_on vars h.from h.to w b.0 c.0)
