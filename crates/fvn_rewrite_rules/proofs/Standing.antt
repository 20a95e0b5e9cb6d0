-- The rules of one equation: instances, and the extensions of these.
use Rattle.std.proofs.Common.{◌≡◌, ◌⊎◌, ℕ, Bool, true, false, List, [], ◌∷◌, ◌++◌, Option, Some, None, refl, sym, ap, ◌∙◌, subst, inl, inr}
use Rattle.std.specs.Prelude.{if◌then◌else◌, filter_map}
use Rattle.std.specs.List.{Contains}
use Rattle.std.proofs.lemmas.List.Elements.{Contains-append_left, Contains-append_right, Contains-append_cases}
use Rattle.fvn_base.proofs.Membership.{contains_here, contains_later, contains_cases, contains_none}
use Rattle.fvn_terms.specs.declared.plain.Var.{Var}
use Rattle.fvn_terms.specs.declared.plain.OpId.{OpId}
use Rattle.fvn_terms.specs.declared.plain.SortId.{SortId}
use Rattle.fvn_terms.specs.declared.declarations.Declarations.{Declarations}
use Rattle.fvn_terms.specs.Term.{Term, var}
use Rattle.fvn_terms.specs.Substitution.{apply, same_var, Occurs}
use Rattle.fvn_terms.specs.Signature.{axioms, HasKind}
use Rattle.fvn_terms.specs.Equality.{two, is_sum, IsAssociative, BEqual}
use Rattle.fvn_terms.proofs.AxiomWords.{sums_associate, associative_sums}
use Rattle.fvn_terms.proofs.Substitutions.{apply-var}
use Rattle.fvn_terms.proofs.Equal.{HasKind-apply}
use Rattle.fvn_terms.proofs.Occurrences.{occurs_value, BEqual-occurs}
use Rattle.fvn_forms.specs.Flat.{FlatTerm, plain}
use Rattle.fvn_forms.specs.Canon.{canon}
use Rattle.fvn_forms.specs.Settled.{Settled}
use Rattle.fvn_forms.specs.LeastSort.{least_sort}
use Rattle.fvn_forms.specs.Good.{IsGood}
use Rattle.fvn_forms.proofs.KindsKept.{kind_unique}
use Rattle.fvn_forms.proofs.Eval.{canon_plain}
use Rattle.fvn_forms.proofs.ToCanon.{to_canon}
use Rattle.fvn_signature.specs.Queries.{IsCompleted}
use Rattle.fvn_flat.specs.Forms.{head_of}
use Rattle.fvn_flat.specs.Successors.{renamed_form}
use Rattle.fvn_flat.specs.Rules.{GoesToIdentity, IsIdentityInstance, IsExtension, IsRuleFrom}
use Rattle.fvn_flat.proofs.Binding.{same_var_is, same_var_itself}
use Rattle.fvn_rewrite_laws.specs.Kinds.{HasOneKind}
use Rattle.fvn_rewrite_laws.proofs.Collapsing.{keeps}
use Rattle.fvn_rewrite_rules.specs.declared.rule.Rule.{Rule}
use Rattle.fvn_rewrite_rules.specs.Given.{HasOldVariables}
use Rattle.fvn_rewrite_rules.specs.inner.Making.{IsKindedRule, new_variable, beside, extended, extension_under, extension_of, AreInstances, StandsFor, AreRulesFrom}
use Rattle.fvn_rewrite_rules.proofs.General.{renaming_sorted, HasInstance-of}
use Rattle.fvn_rewrite_rules.proofs.Choosing.{instance_kinded}
use Rattle.fvn_rewrite_rules.proofs.Wide.{swapped_if, swapped, swapped_sorts, head_app, app_head, renamed_beside, new_sort, pair_kind, beside_canon, beside_kind, beside_head, renamed_equal}

-- what a filter with changes keeps
pub filter_map_contains : {A B : Type 0} (h : A → Option B) (xs : List A) (x : A) (y : B) → Contains xs x → h x ≡ Some y → Contains (filter_map h xs) y
filter_map_contains h [] x y c e = absurd (contains_none x c)
filter_map_contains {A} {B} h (a ∷ xs) x y c e = go (h a) refl (filter_map_contains h xs x y) (contains_cases a xs x c) where
  go : (o : Option B) → h a ≡ o → (Contains xs x → h x ≡ Some y → Contains (filter_map h xs) y) → (a ≡ x) ⊎ Contains xs x → Contains (filter_map h (a ∷ xs)) y
  go None p rest (inl q) = let r : None ≡ Some y = sym p ∙ ap h q ∙ e in cc
  go None p rest (inr i) = rw p (rest i e)
  go (Some z) p rest (inl q) = let r : z ≡ y = (let s : Some z ≡ Some y = sym p ∙ ap h q ∙ e in cc) in rw p (subst (λ v. Contains (z ∷ filter_map h xs) v) r (contains_here z (filter_map h xs)))
  go (Some z) p rest (inr i) = rw p (contains_later z (filter_map h xs) y (rest i e))

pub contains_filter_map : {A B : Type 0} (h : A → Option B) (xs : List A) (y : B) → Contains (filter_map h xs) y → (x : A) × (Contains xs x × (h x ≡ Some y))
contains_filter_map h [] y c = absurd (contains_none y c)
contains_filter_map {A} {B} h (a ∷ xs) y c = go (h a) refl (contains_filter_map h xs y) where
  later : (x : A) × (Contains xs x × (h x ≡ Some y)) → (x : A) × (Contains (a ∷ xs) x × (h x ≡ Some y))
  later w = (w.0, (contains_later a xs w.0 w.1.0, w.1.1))

  go : (o : Option B) → h a ≡ o → (Contains (filter_map h xs) y → (x : A) × (Contains xs x × (h x ≡ Some y))) → (x : A) × (Contains (a ∷ xs) x × (h x ≡ Some y))
  go None p rest = later (rest (rw p at c))
  go (Some z) p rest = elim (contains_cases z (filter_map h xs) y (rw p at c)) as (λ _. (x : A) × (Contains (a ∷ xs) x × (h x ≡ Some y))) [
    | inl q ↦ (a, (contains_here a xs, p ∙ ap Some q))
    | inr i ↦ later (rest i)
  ]

module _ (d : Declarations) where
  -- the extension of a rule, by its head
  pub extension_is : (rule : Rule) (f : OpId) → head_of rule.left ≡ Some f → is_sum (axioms d f) ≡ true → extension_of d rule ≡ Some (extended d rule f)
  extension_is rule f e j = ap (extension_under d rule) e ∙ ap (λ (b : Bool). if b then Some (extended d rule f) else None) j

  -- how an extension was made
  pub record IsExtended (rule wide : Rule) : Type 0 where
    pub operator : OpId
    pub head : head_of rule.left ≡ Some operator
    pub makes_sums : is_sum (axioms d operator) ≡ true
    pub is : extended d rule operator ≡ wide

  pub extension_only : (rule wide : Rule) → extension_of d rule ≡ Some wide → IsExtended rule wide
  extension_only rule wide e = go (head_of rule.left) refl e where
    at : (f : OpId) → head_of rule.left ≡ Some f → (b : Bool) → is_sum (axioms d f) ≡ b → (if b then Some (extended d rule f) else None) ≡ Some wide → IsExtended rule wide
    at f p true j q = record { operator = f; head = p; makes_sums = j; is = cc }
    at f p false j q = cc

    go : (o : Option OpId) → head_of rule.left ≡ o → extension_under d rule o ≡ Some wide → IsExtended rule wide
    go None p q = cc
    go (Some f) p q = at f p (is_sum (axioms d f)) refl q

  -- a flat form as it is
  as_it_is : (t : FlatTerm) → Settled d t → renamed_form d (λ x. x) t ≡ t
  as_it_is t h = ap (canon d) (apply-var (plain t)) ∙ canon_plain d t h

  -- a rule that is l = r stands for it
  pub same_stands : (l r : FlatTerm) (rule : Rule) → IsKindedRule d rule → rule.left ≡ l → rule.right ≡ r → StandsFor d l r rule
  same_stands l r rule kinded e f = record {
    renamed = record {
      by = λ x. x;
      renames = record { one_to_one = λ x y a b q. q; sorts = λ x a. refl };
      left = e ∙ sym (as_it_is l (subst (Settled d) e kinded.left));
      right = f ∙ sym (as_it_is r (subst (Settled d) f kinded.right));
    };
    instance = HasInstance-of d rule l e;
    head = ap head_of e;
  }

module _ (d : Declarations) (good : IsGood d) (completed : IsCompleted d) (equation : Term × Term) (kinds : HasOneKind d equation) where
  -- variables of an instance are variables of the equation
  module _ (l r : FlatTerm) (i : IsIdentityInstance d equation l r) where
    from_value : (t : Term) (k : SortId) → HasKind d t k → (f : FlatTerm) → f ≡ canon d (apply i.by t) → (x : Var) → Occurs x (plain f) → Occurs x t
    from_value t k h f e x o =
        let kept = keeps d good completed equation.0 kinds.kind kinds.left i.by i.choice in
        let equal = to_canon d good.fits (apply i.by t) k (HasKind-apply d i.by kept t k h) in
        let raw = BEqual-occurs x d (apply i.by t) (plain f) (subst (λ g. BEqual d (apply i.by t) (plain g)) (sym e) equal) o in
        let w = occurs_value x i.by t raw in
        go w.0 w.1.0 w.1.1 (i.choice w.0)
      where
        go : (y : Var) → Occurs y t → Occurs x (i.by y) → (i.by y ≡ var y) ⊎ (Occurs y equation.0 × GoesToIdentity d i.by y) → Occurs x t
        go y m p (inl q) = let is : x ≡ y = subst (Occurs x) q p in subst (λ z. Occurs z t) (sym is) m
        go y m p (inr w) = absurd (subst (Occurs x) w.1.is p)

    pub left_variable : (x : Var) → Occurs x (plain l) → Occurs x equation.0
    left_variable x o = from_value equation.0 kinds.kind kinds.left l i.left x o

    pub right_variable : (x : Var) → Occurs x (plain r) → Occurs x equation.1
    right_variable x o = from_value equation.1 kinds.kind kinds.right r i.right x o

  -- what is known of the variables of the equation
  module _ (not_fresh : (x : Var) → Occurs x equation.0 → x.fresh ≡ false) (brings_none : (x : Var) → Occurs x equation.1 → Occurs x equation.0) where
    -- an identity instance that an associative operator heads
    module _ (rule : Rule) (i : IsIdentityInstance d equation rule.left rule.right) (kinded : IsKindedRule d rule) (f : OpId) (heads : head_of rule.left ≡ Some f) (associative : IsAssociative (axioms d f)) where
      abbrev k : SortId
      k = kinded.kinds.kind

      abbrev z : Var
      z = new_variable d rule.left

      z_sort : z.sort ≡ k
      z_sort = new_sort d good rule.left k kinded.left kinded.kinds.left

      z_fresh : (x : Var) → x.fresh ≡ false → z ≡ x → ⊥
      z_fresh x e p = let q : true ≡ x.fresh = ap (λ (v : Var). v.fresh) p in cc

      not_left : Occurs z (plain rule.left) → ⊥
      not_left o = z_fresh z (not_fresh z (left_variable rule.left rule.right i z o)) refl

      canon_left : (x : Var) → x.sort ≡ k → beside d f x rule.left ≡ canon d (two f (plain rule.left) (var x))
      canon_left x e = beside_canon d good f rule.left k kinded.left kinded.kinds.left heads associative x e rule.left kinded.left kinded.kinds.left

      canon_right : (x : Var) → x.sort ≡ k → beside d f x rule.right ≡ canon d (two f (plain rule.right) (var x))
      canon_right x e = beside_canon d good f rule.left k kinded.left kinded.kinds.left heads associative x e rule.right kinded.right kinded.kinds.right

      -- with the new variable it is an extension
      pub is_extension : IsExtension d equation (extended d rule f).left (extended d rule f).right
      is_extension =
          let h = head_app d rule.left f kinded.left heads in
          record {
            inner_left = rule.left;
            inner_right = rule.right;
            instance_of = i;
            operator = f;
            arguments = h.0;
            head = h.1;
            associative = associative;
            beside = z;
            new_left = λ o. z_fresh z (not_fresh z o) refl;
            new_right = λ o. z_fresh z (not_fresh z (brings_none z o)) refl;
            is_kind = good.kinded.own (least_sort d rule.left);
            of_kind = subst (HasKind d (plain rule.left)) (sym z_sort) kinded.kinds.left;
            left = canon_left z z_sort;
            right = canon_right z z_sort;
          }

      -- it stands for each extension of the rule
      module _ (x : Var) (x_sort : x.sort ≡ k) (new_left : Occurs x equation.0 → ⊥) (new_right : Occurs x equation.1 → ⊥) where
        x_left : Occurs x (plain rule.left) → ⊥
        x_left o = new_left (left_variable rule.left rule.right i x o)

        x_right : Occurs x (plain rule.right) → ⊥
        x_right o = new_right (right_variable rule.left rule.right i x o)

        occurs_beside : (u : FlatTerm) → Settled d u → HasKind d (plain u) k → (y : Var) → Occurs y (plain (beside d f x u)) → Occurs y (plain u) ⊎ (x ≡ y)
        occurs_beside u s h y o =
            let pair = pair_kind d good f rule.left k kinded.left kinded.kinds.left heads associative x x_sort u s h in
            let equal = to_canon d good.fits (two f (plain u) (var x)) k pair in
            let is = beside_canon d good f rule.left k kinded.left kinded.kinds.left heads associative x x_sort u s h in
            go (BEqual-occurs y d (two f (plain u) (var x)) (plain (beside d f x u)) (subst (λ g. BEqual d (two f (plain u) (var x)) (plain g)) (sym is) equal) o)
          where
            go : Occurs y (two f (plain u) (var x)) → Occurs y (plain u) ⊎ (x ≡ y)
            go (inl m) = inl m
            go (inr (inl q)) = inr (sym q)
            go (inr (inr n)) = absurd n

        abbrev Among : Var → Type 0
        Among y = Occurs y (plain (beside d f x rule.left)) ⊎ Occurs y (plain (beside d f x rule.right))

        known : (y : Var) → Among y → (y.fresh ≡ false) ⊎ (x ≡ y)
        known y (inl o) = elim (occurs_beside rule.left kinded.left kinded.kinds.left y o) as (λ _. (y.fresh ≡ false) ⊎ (x ≡ y)) [
          | inl m ↦ inl (not_fresh y (left_variable rule.left rule.right i y m))
          | inr e ↦ inr e
        ]
        known y (inr o) = elim (occurs_beside rule.right kinded.right kinded.kinds.right y o) as (λ _. (y.fresh ≡ false) ⊎ (x ≡ y)) [
          | inl m ↦ inl (not_fresh y (brings_none y (right_variable rule.left rule.right i y m)))
          | inr e ↦ inr e
        ]

        not_new : (y : Var) → same_var x y ≡ false → (y.fresh ≡ false) ⊎ (x ≡ y) → z ≡ y → ⊥
        not_new y p (inl e) q = z_fresh y e q
        not_new y p (inr e) q = let t : same_var x y ≡ true = subst (λ v. same_var x v ≡ true) e (same_var_itself x) in cc

        one_to_one : (y w : Var) → Among y → Among w → swapped x z y ≡ swapped x z w → y ≡ w
        one_to_one y w a b e = go (same_var x y) (same_var x w) refl refl where
          at : (p q : Bool) → same_var x y ≡ p → same_var x w ≡ q → swapped_if z p y ≡ swapped_if z q w
          at p q g h = ap (λ c. swapped_if z c y) (sym g) ∙ e ∙ ap (λ c. swapped_if z c w) h

          go : (p q : Bool) → same_var x y ≡ p → same_var x w ≡ q → y ≡ w
          go true true g h = sym (same_var_is x y g) ∙ same_var_is x w h
          go true false g h = absurd (not_new w h (known w b) (at true false g h))
          go false true g h = absurd (not_new y g (known y a) (sym (at false true g h)))
          go false false g h = at false false g h

        pub extended_stands : StandsFor d (beside d f x rule.left) (beside d f x rule.right) (extended d rule f)
        extended_stands = record {
          renamed = record {
            by = swapped x z;
            renames = record { one_to_one = one_to_one; sorts = λ y a. swapped_sorts x z (z_sort ∙ sym x_sort) y };
            left = sym (renamed_beside d f x z rule.left kinded.left x_left);
            right = sym (renamed_beside d f x z rule.right kinded.right x_right);
          };
          instance = record {
            by = λ y. var (swapped z x y);
            well_sorted = renaming_sorted d (swapped z x) back;
            left = renamed_equal d good (swapped z x) back (beside d f z rule.left) (beside d f x rule.left) k (wide_kind rule.left kinded.left kinded.kinds.left) (renamed_beside d f z x rule.left kinded.left not_left);
          };
          head = beside_head d good f rule.left k kinded.left kinded.kinds.left heads associative z ∙ sym (beside_head d good f rule.left k kinded.left kinded.kinds.left heads associative x);
        }
          where
            back : (y : Var) → (swapped z x y).sort ≡ y.sort
            back = swapped_sorts z x (x_sort ∙ sym z_sort)

            wide_kind : (u : FlatTerm) → Settled d u → HasKind d (plain u) k → HasKind d (plain (beside d f z u)) k
            wide_kind u s h = beside_kind d good f rule.left k kinded.left kinded.kinds.left heads associative z z_sort u s h

      -- its variables are those of the rule, and the new one
      pub extended_old : HasOldVariables (extended d rule f)
      extended_old y o =
          elim (known z z_sort (λ p. z_fresh z (not_fresh z p) refl) (λ p. z_fresh z (not_fresh z (brings_none z p)) refl) y o) as (λ _. (y.fresh ≡ false) ⊎ (y.name ≡ 0)) [
            | inl e ↦ inl e
            | inr e ↦ inr (sym (ap (λ (v : Var). v.name) e))
          ]

    -- those of an instance are those of the equation
    pub instance_old : (rule : Rule) → IsIdentityInstance d equation rule.left rule.right → HasOldVariables rule
    instance_old rule i x (inl o) = inl (not_fresh x (left_variable rule.left rule.right i x o))
    instance_old rule i x (inr o) = inl (not_fresh x (brings_none x (right_variable rule.left rule.right i x o)))

    -- instances and the extensions of these are all rules
    module _ (number : ℕ) (rules : List Rule) (all : AreInstances d number equation rules) where
      abbrev wide : List Rule
      wide = filter_map (extension_of d) rules

      kinded_of : (rule : Rule) → Contains rules rule → IsKindedRule d rule
      kinded_of rule c = instance_kinded d good completed number equation kinds rule (all.sound rule c).1

      sound_from : (rule : Rule) → Contains (rules ++ wide) rule → (rule.equation ≡ number) × IsRuleFrom d equation rule.left rule.right
      sound_from rule c = go (Contains-append_cases rules wide rule c) where
        at : (i : Rule) × (Contains rules i × (extension_of d i ≡ Some rule)) → (rule.equation ≡ number) × IsRuleFrom d equation rule.left rule.right
        at w =
            let s = all.sound w.0 w.1.0 in
            let x = extension_only d w.0 rule w.1.1 in
            subst (λ (v : Rule). (v.equation ≡ number) × IsRuleFrom d equation v.left v.right) x.is
            (s.0, inr (is_extension w.0 s.1 (kinded_of w.0 w.1.0) x.operator x.head (sums_associate (axioms d x.operator) x.makes_sums)))

        go : Contains rules rule ⊎ Contains wide rule → (rule.equation ≡ number) × IsRuleFrom d equation rule.left rule.right
        go (inl i) = let s = all.sound rule i in (s.0, inl s.1)
        go (inr i) = at (contains_filter_map (extension_of d) rules rule i)

      instance_given : (l r : FlatTerm) → IsIdentityInstance d equation l r → (rule : Rule) × (Contains rules rule × ((rule.left ≡ l) × (rule.right ≡ r)))
      instance_given l r i = let w = all.complete i.by i.choice in (w.0, (w.1.0, (w.1.1.left ∙ sym i.left, w.1.1.right ∙ sym i.right)))

      extension_given : (l r : FlatTerm) → IsExtension d equation l r → (rule : Rule) × (Contains (rules ++ wide) rule × StandsFor d l r rule)
      extension_given l r e =
          let w = instance_given e.inner_left e.inner_right e.instance_of in
          let rule = w.0 in
          let s = (all.sound rule w.1.0).1 in
          let kinded = kinded_of rule w.1.0 in
          let f = e.operator in
          let x = e.beside in
          let heads = app_head d rule.left f e.arguments kinded.left (ap plain w.1.1.0 ∙ e.head) in
          let x_sort = kind_unique d good.fits (plain rule.left) x.sort kinded.kinds.kind (subst (λ t. HasKind d (plain t) x.sort) (sym w.1.1.0) e.of_kind) kinded.kinds.left in
          let l_is = canon_left rule s kinded f heads e.associative x x_sort ∙ ap (λ t. canon d (two f (plain t) (var x))) w.1.1.0 ∙ sym e.left in
          let r_is = canon_right rule s kinded f heads e.associative x x_sort ∙ ap (λ t. canon d (two f (plain t) (var x))) w.1.1.1 ∙ sym e.right in
          let stands = extended_stands rule s kinded f heads e.associative x x_sort e.new_left e.new_right in (
            extended d rule f,
            (Contains-append_right rules wide (extended d rule f) (filter_map_contains (extension_of d) rules rule (extended d rule f) w.1.0 (extension_is d rule f heads (associative_sums (axioms d f) e.associative))), rw (l_is, r_is) at stands),
          )

      old_from : (rule : Rule) → Contains (rules ++ wide) rule → HasOldVariables rule
      old_from rule c = go (Contains-append_cases rules wide rule c) where
        at : (i : Rule) × (Contains rules i × (extension_of d i ≡ Some rule)) → HasOldVariables rule
        at w =
            let x = extension_only d w.0 rule w.1.1 in
            subst HasOldVariables x.is
            (extended_old w.0 (all.sound w.0 w.1.0).1 (kinded_of w.0 w.1.0) x.operator x.head (sums_associate (axioms d x.operator) x.makes_sums))

        go : Contains rules rule ⊎ Contains wide rule → HasOldVariables rule
        go (inl i) = instance_old rule (all.sound rule i).1
        go (inr i) = at (contains_filter_map (extension_of d) rules rule i)

      pub all_rules : AreRulesFrom d number equation (rules ++ wide)
      all_rules = record { sound = sound_from; complete = complete_from; old = old_from }
        where
          complete_from : (l r : FlatTerm) → IsRuleFrom d equation l r → (rule : Rule) × (Contains (rules ++ wide) rule × StandsFor d l r rule)
          complete_from l r (inl i) = let w = instance_given l r i in (w.0, (Contains-append_left rules wide w.0 w.1.0, same_stands d l r w.0 (kinded_of w.0 w.1.0) w.1.1.0 w.1.1.1))
          complete_from l r (inr e) = extension_given l r e
