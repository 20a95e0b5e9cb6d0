-- Whether a flat form is an instance of a left side, or of one beside another term.
use Rattle.std.proofs.Common.{◌≡◌, ◌⊎◌, ◌≤◌, List, [], ◌∷◌, length, refl, sym, ap, ◌∙◌, subst, inl, inr}
use Rattle.std.specs.List.{Contains}
use Rattle.std.proofs.Math.Nat.{le_trans, le_refl}
use Rattle.fvn_base.specs.Decided.{Decided}
use Rattle.fvn_base.proofs.Decided.{both_or}
use Rattle.fvn_terms.specs.declared.plain.Var.{Var}
use Rattle.fvn_terms.specs.declared.plain.OpId.{OpId}
use Rattle.fvn_terms.specs.declared.plain.SortId.{SortId}
use Rattle.fvn_terms.specs.declared.declarations.Declarations.{Declarations}
use Rattle.fvn_terms.specs.Term.{Term, var, app, none, more}
use Rattle.fvn_terms.specs.Substitution.{Substitution, apply, followed_by, Occurs}
use Rattle.fvn_terms.specs.Signature.{IsSort, HasKind, HaveKinds, IsTerm}
use Rattle.fvn_terms.specs.Places.{here, inside, first, stop}
use Rattle.fvn_terms.specs.Equality.{two, BEqual}
use Rattle.fvn_terms.specs.Sorts.{HasSort, IsWellSorted}
use Rattle.fvn_terms.specs.Theory.{Equations}
use Rattle.fvn_terms.specs.Rewriting.{IsReducible}
use Rattle.fvn_terms.proofs.Substitutions.{apply-apply}
use Rattle.fvn_terms.proofs.Steps.{each_none, each_more}
use Rattle.fvn_terms.proofs.Equal.{HasKind-apply, BEqual-sym, BEqual-inside}
use Rattle.fvn_terms.proofs.WellSorted.{IsWellSorted-followed_by}
use Rattle.fvn_terms.proofs.Occurrences.{BEqual-occurs}
use Rattle.fvn_forms.specs.Flat.{FlatTerm, fvar, plain, symbols}
use Rattle.fvn_forms.specs.Canon.{canon, build}
use Rattle.fvn_forms.specs.Good.{IsGood}
use Rattle.fvn_forms.proofs.Order.{flat_equal_decided}
use Rattle.fvn_forms.proofs.KindsKept.{kind_unique, b_equal_keeps_kind}
use Rattle.fvn_forms.proofs.KindsOfSums.{two_of_kind}
use Rattle.fvn_forms.proofs.Eval.{canon_respects, canon_settled, canon_plain, eval_apply}
use Rattle.fvn_forms.proofs.Instances.{eval_canon}
use Rattle.fvn_forms.proofs.ToCanon.{to_canon, canon_of_kind}
use Rattle.fvn_signature.specs.Queries.{IsCompleted}
use Rattle.fvn_flat.specs.Fits.{Fits}
use Rattle.fvn_flat.specs.Problems.{variables}
use Rattle.fvn_flat.specs.Rules.{GoesToIdentity, IsIdentityChoice, IsIdentityInstance, IsExtension, IsRuleOf}
use Rattle.fvn_flat.proofs.VariableLists.{variables_list}
use Rattle.fvn_rewrite_laws.specs.Kinds.{HasOneKind, HaveOneKind}
use Rattle.fvn_rewrite_laws.proofs.Collapsing.{keeps}
use Rattle.fvn_rewrite_coherence.specs.PlacedSteps.{IsRedex}
use Rattle.fvn_rewrite_normal_forms.proofs.Searching.{Found, searched_list, searched_operators, IsOperatorBelow, IsTermWithin, searched_terms}
use Rattle.fvn_rewrite_normal_forms.proofs.Kinding.{kind_or_not, operator_known}
use Rattle.fvn_rewrite_normal_forms.proofs.Bounding.{first_is_smaller, second_is_smaller, term_within}
use Rattle.fvn_rewrite_normal_forms.proofs.Matching.{variable_has_sort, instance_or_none}

module _ (d : Declarations) (good : IsGood d) where
  -- a form of a kind, that fits
  module _ (t : FlatTerm) (fit : Fits d t) where
    abbrev k : SortId
    k = fit.kinded.0

    -- the well-kinded term has this flat form
    pub record IsFormOf (u : Term) : Type 0 where
      pub kinded : HasKind d u k
      pub is : canon d u ≡ t

    form_or_not : (u : Term) → Decided (IsFormOf u)
    form_or_not u = go (both_or (kind_or_not d u k) (flat_equal_decided (canon d u) t)) where
      go : Decided (HasKind d u k × (canon d u ≡ t)) → Decided (IsFormOf u)
      go (inl w) = inl (record { kinded = w.0; is = w.1 })
      go (inr n) = inr (λ w. n (w.kinded, w.is))

    -- a well-kinded term with the form has its kind
    pub form_of : (u : Term) → IsTerm d u → canon d u ≡ t → IsFormOf u
    form_of u h e =
        let same = kind_unique d good.fits (plain t) h.0 k (subst (λ f. HasKind d (plain f) h.0) e (canon_of_kind d good.fits u h.0 h.1)) fit.kinded.1 in
        record { kinded = subst (HasKind d u) same h.1; is = e }

    form_modulo : (u v : Term) → BEqual d u v → IsFormOf u → IsFormOf v
    form_modulo u v p w = record { kinded = b_equal_keeps_kind d good.fits p k w.kinded; is = sym (canon_respects d p) ∙ w.is }

    pub form_equal : (u : Term) → IsFormOf u → BEqual d (plain t) u
    form_equal u w = BEqual-sym d (subst (λ f. BEqual d u (plain f)) w.is (to_canon d good.fits u k w.kinded))

    form_size : (u : Term) → IsFormOf u → symbols (canon d u) ≤ symbols t
    form_size u w = subst (λ f. symbols (canon d u) ≤ symbols f) w.is (le_refl (symbols (canon d u)))

    form_variable : (u : Term) → IsFormOf u → (y : Var) → Occurs y u → Contains (variables (plain t)) y
    form_variable u w y o = variables_list y (plain t) (BEqual-occurs y d (plain t) u (form_equal u w) o)

    module _ (l : Term) where
      -- the form is that of a well-sorted instance of the term
      abbrev pub IsInstance : Type 0
      IsInstance = (s : Substitution) × (IsWellSorted d s × IsFormOf (apply s l))

      -- the same of an instance beside another term, under an operator
      abbrev pub IsInstanceBeside : OpId → Term → Type 0
      IsInstanceBeside f v = (s : Substitution) × (IsWellSorted d s × IsFormOf (two f (apply s l) v))

      abbrev pub IsInstanceInSum : Type 0
      IsInstanceInSum = (f : OpId) × (v : Term) × IsInstanceBeside f v

      beside_modulo : (f : OpId) (u v w : Term) → BEqual d u v → IsFormOf (two f u w) → IsFormOf (two f v w)
      beside_modulo f u v w p = form_modulo (two f u w) (two f v w) (BEqual-inside d f (each_more p (each_more stop each_none)))

      other_modulo : (f : OpId) (u v w : Term) → BEqual d v w → IsFormOf (two f u v) → IsFormOf (two f u w)
      other_modulo f u v w p = form_modulo (two f u v) (two f u w) (BEqual-inside d f (each_more stop (each_more p each_none)))

      second_kinded : (u v : Term) (ks : List SortId) → HaveKinds d (more u (more v none)) ks → IsTerm d v
      second_kinded u v [] j = absurd j
      second_kinded u v (a ∷ []) j = absurd j.1
      second_kinded u v (a ∷ b ∷ ks) j = (b, j.1.0)

      -- operators and other terms that are searched
      abbrev Searched : Type 0
      Searched = Found (IsOperatorBelow (length d.ops)) (λ f. Found (IsTermWithin (variables (plain t)) (length d.ops) (symbols t)) (λ v. IsInstanceBeside f v))

      is_searched : IsInstanceInSum → Searched
      is_searched (f, v, (s, (sorted, w))) =
          let whole = two f (apply s l) v in
          let j = second_kinded (apply s l) v _ w.kinded.args in
          let u = plain (canon d v) in
          let flat = to_canon d good.fits v j.0 j.1 in
          let small : symbols (canon d v) ≤ symbols t = le_trans (second_is_smaller d f (apply s l) v) (form_size whole w) in
          let known : (y : Var) → Occurs y u → Contains (variables (plain t)) y = λ y o. form_variable whole w y (inr (inl (BEqual-occurs y d v u flat o))) in
          let within = term_within d (variables (plain t)) (symbols t) u j.0 (canon_of_kind d good.fits v j.0 j.1) small known in
          (f, (operator_known d f w.kinded.rank w.kinded.listed, (u, (within, (s, (sorted, other_modulo f (apply s l) v u flat w))))))

      module _ (q : SortId) (h : HasKind d l q) where
        instance_decided : Decided IsInstance
        instance_decided = instance_or_none d good (variables (plain t)) (symbols t) l q h IsFormOf form_or_not form_modulo (λ u w. (form_size u w, form_variable u w))

        beside_decided : (f : OpId) (v : Term) → Decided (IsInstanceBeside f v)
        beside_decided f v =
            instance_or_none d good (variables (plain t)) (symbols t) l q h (λ u. IsFormOf (two f u v)) (λ u. form_or_not (two f u v)) (λ u w p. beside_modulo f u w v p)
            (λ u w. (le_trans (first_is_smaller d f u v) (form_size (two f u v) w), λ y o. form_variable (two f u v) w y (inl o)))

        in_sum_decided : Decided IsInstanceInSum
        in_sum_decided =
            go (searched_operators (length d.ops) (λ f. Found (IsTermWithin (variables (plain t)) (length d.ops) (symbols t)) (λ v. IsInstanceBeside f v))
            (λ f _. searched_terms (variables (plain t)) (length d.ops) (symbols t) (IsInstanceBeside f) (λ v _. beside_decided f v)))
          where
            go : Decided Searched → Decided IsInstanceInSum
            go (inl w) = inl (w.0, w.1.1.0, w.1.1.1.1)
            go (inr n) = inr (λ w. n (is_searched w))

    module _ (equations : Equations) (kinds : HaveOneKind d equations) where
      -- the form is an instance of the equation's left side, perhaps beside another term
      abbrev pub Applies : Term × Term → Type 0
      Applies equation = IsInstance equation.0 ⊎ IsInstanceInSum equation.0

      -- the form is one of some equation's left side
      abbrev pub IsLeftSide : Type 0
      IsLeftSide = Found (Contains equations) Applies

      applies_or_not : (equation : Term × Term) → Contains equations equation → Decided (Applies equation)
      applies_or_not equation i = go (instance_decided equation.0 (kinds equation i).kind (kinds equation i).left) (in_sum_decided equation.0 (kinds equation i).kind (kinds equation i).left) where
        go : Decided (IsInstance equation.0) → Decided (IsInstanceInSum equation.0) → Decided (Applies equation)
        go (inl p) b = inl (inl p)
        go (inr n) (inl p) = inl (inr p)
        go (inr n) (inr m) = inr (λ w. elim w as (λ _. ⊥) [ inl p ↦ n p | inr p ↦ m p ])

      pub left_side_or_not : Decided IsLeftSide
      left_side_or_not = searched_list equations Applies applies_or_not

      -- then it is reducible
      pub left_side_reduces : IsLeftSide → IsReducible d equations (plain t)
      left_side_reduces (equation, (listed, inl (s, (sorted, w)))) = (
        apply s equation.1,
        record {
          from = apply s equation.0;
          to = apply s equation.1;
          before = form_equal (apply s equation.0) w;
          replaced = here (record { left = equation.0; right = equation.1; listed = listed; by = s; well_sorted = sorted; from = refl; to = refl });
          after = stop;
        },
      )
      left_side_reduces (equation, (listed, inr (f, v, (s, (sorted, w))))) = (
        two f (apply s equation.1) v,
        record {
          from = two f (apply s equation.0) v;
          to = two f (apply s equation.1) v;
          before = form_equal (two f (apply s equation.0) v) w;
          replaced = inside (first (here (record { left = equation.0; right = equation.1; listed = listed; by = s; well_sorted = sorted; from = refl; to = refl })));
          after = stop;
        },
      )

  -- the flat form of an instance is that of the same instance of the flat form
  flat_instance : (c : Substitution) (u : Term) → canon d (apply c (plain (canon d u))) ≡ canon d (apply c u)
  flat_instance c u = eval_apply d fvar c (plain (canon d u)) ∙ sym (eval_canon d (λ x. canon d (c x)) (λ x. canon_settled d (c x)) u) ∙ sym (eval_apply d fvar c u)

  module _ (completed : IsCompleted d) where
    -- a choice of identities is well-sorted
    choice_sorted : (t : Term) (k : SortId) → HasKind d t k → (a : Substitution) → IsIdentityChoice d t a → IsWellSorted d a
    choice_sorted t k h a choice = (keeps d good completed t k h a choice, λ x. go x (choice x)) where
      go : (x : Var) → (a x ≡ var x) ⊎ (Occurs x t × GoesToIdentity d a x) → HasSort d (a x) x.sort
      go x (inl e) = subst (λ u. HasSort d u x.sort) (sym e) (variable_has_sort d good x)
      go x (inr w) = subst (λ u. HasSort d u x.sort) (sym w.1.is) w.1.sorted

    -- what is known of an identity instance
    module _ (equation : Term × Term) (kinds : HasOneKind d equation) (l r : FlatTerm) (i : IsIdentityInstance d equation l r) (s : Substitution) (sorted : IsWellSorted d s) where
      by_sorted : IsWellSorted d i.by
      by_sorted = choice_sorted equation.0 kinds.kind kinds.left i.by i.choice

      composed : IsWellSorted d (followed_by i.by s)
      composed = IsWellSorted-followed_by d i.by s by_sorted sorted

      composed_kinded : HasKind d (apply (followed_by i.by s) equation.0) kinds.kind
      composed_kinded = HasKind-apply d (followed_by i.by s) composed.0 equation.0 kinds.kind kinds.left

      composed_form : canon d (apply s (plain l)) ≡ canon d (apply (followed_by i.by s) equation.0)
      composed_form = ap (λ f. canon d (apply s (plain f))) i.left ∙ flat_instance s (apply i.by equation.0) ∙ ap (canon d) (apply-apply i.by s equation.0)

      inner_kinded : HasKind d (plain l) kinds.kind
      inner_kinded = subst (λ f. HasKind d (plain f) kinds.kind) (sym i.left) (canon_of_kind d good.fits (apply i.by equation.0) kinds.kind (HasKind-apply d i.by by_sorted.0 equation.0 kinds.kind kinds.left))

    -- what is known of an extension
    module _ (equation : Term × Term) (kinds : HasOneKind d equation) (l r : FlatTerm) (e : IsExtension d equation l r) (s : Substitution) (sorted : IsWellSorted d s) where
      abbrev c : Substitution
      c = followed_by e.instance_of.by s

      headed : HasKind d (app e.operator e.arguments) e.beside.sort
      headed = subst (λ t. HasKind d t e.beside.sort) e.head e.of_kind

      one_kind : kinds.kind ≡ e.beside.sort
      one_kind = kind_unique d good.fits (plain e.inner_left) kinds.kind e.beside.sort (inner_kinded equation kinds e.inner_left e.inner_right e.instance_of s sorted) e.of_kind

      beside_kinded : HasKind d (s e.beside) e.beside.sort
      beside_kinded =
          let listed = subst (IsSort d) headed.result (good.kinded.listed headed.rank.result (good.kinded.ranks e.operator headed.rank headed.listed).1) in
          subst (HasKind d (s e.beside)) e.is_kind (sorted.0 e.beside listed)

      sum_kinded : HasKind d (two e.operator (apply c equation.0) (s e.beside)) e.beside.sort
      sum_kinded =
          two_of_kind d good.fits e.operator e.associative e.beside.sort headed.rank headed.listed headed.result (apply c equation.0) (s e.beside)
          (subst (HasKind d (apply c equation.0)) one_kind (composed_kinded equation kinds e.inner_left e.inner_right e.instance_of s sorted)) beside_kinded

      sum_form : canon d (apply s (plain l)) ≡ canon d (two e.operator (apply c equation.0) (s e.beside))
      sum_form =
          ap (λ f. canon d (apply s (plain f))) e.left ∙ flat_instance s (two e.operator (plain e.inner_left) (var e.beside))
          ∙ ap (λ f. build d e.operator (f ∷ canon d (s e.beside) ∷ [])) (composed_form equation kinds e.inner_left e.inner_right e.instance_of s sorted)

    -- a redex is such an instance
    pub redex_is_left_side : (t : FlatTerm) (fit : Fits d t) (equations : Equations) (kinds : HaveOneKind d equations) (u : Term) → IsRedex d equations t u → IsLeftSide t fit equations kinds
    redex_is_left_side t fit equations kinds u r = go r.rule where
      form : canon d (apply r.by (plain r.left)) ≡ t
      form = sym (canon_respects d r.matches) ∙ canon_plain d t fit.flat

      go : IsRuleOf d equations r.left r.right → IsLeftSide t fit equations kinds
      go (equation, listed, inl i) =
          let h = kinds equation listed in
          let c = followed_by i.by r.by in (
            equation,
            (
              listed,
              inl (
                c,
                (
                  composed equation h r.left r.right i r.by r.well_sorted,
                  form_of t fit (apply c equation.0) (h.kind, composed_kinded equation h r.left r.right i r.by r.well_sorted) (sym (composed_form equation h r.left r.right i r.by r.well_sorted) ∙ form),
                ),
              ),
            ),
          )
      go (equation, listed, inr e) =
          let h = kinds equation listed in
          let c = followed_by e.instance_of.by r.by in (
            equation,
            (
              listed,
              inr (
                e.operator,
                r.by e.beside,
                (
                  c,
                  (
                    composed equation h e.inner_left e.inner_right e.instance_of r.by r.well_sorted,
                    form_of t fit (two e.operator (apply c equation.0) (r.by e.beside)) (e.beside.sort, sum_kinded equation h r.left r.right e r.by r.well_sorted) (sym (sum_form equation h r.left r.right e r.by r.well_sorted) ∙ form),
                  ),
                ),
              ),
            ),
          )
