-- Identity instances, by one variable after another.
use Rattle.std.proofs.Common.{◌≡◌, ◌⊎◌, ◌<◌, ◌+◌, ℕ, Bool, true, false, List, [], ◌∷◌, ◌++◌, map, length, take, get_or, refl, sym, ap, ◌∙◌, subst, inl, inr}
use Rattle.std.specs.Prelude.{if◌then◌else◌, fold, All, Some, None}
use Rattle.std.specs.List.{Contains}
use Rattle.std.proofs.lemmas.List.{take_more}
use Rattle.std.proofs.lemmas.List.Sums.{fold_more}
use Rattle.std.proofs.lemmas.List.Elements.{Contains-append_left, Contains-append_right, Contains-append_cases, Contains-push_cases, Contains-get_or}
use Rattle.fvn_base.proofs.Membership.{contains_here, contains_later, contains_cases, contains_none, contains_map, map_contains}
use Rattle.fvn_terms.specs.declared.plain.Var.{Var}
use Rattle.fvn_terms.specs.declared.plain.OpId.{OpId}
use Rattle.fvn_terms.specs.declared.declarations.Declarations.{Declarations}
use Rattle.fvn_terms.specs.Term.{Term, var}
use Rattle.fvn_terms.specs.Substitution.{Substitution, apply, followed_by, same_var, Occurs}
use Rattle.fvn_terms.specs.Signature.{kind}
use Rattle.fvn_terms.specs.Equality.{constant}
use Rattle.fvn_terms.specs.Sorts.{HasSort}
use Rattle.fvn_terms.proofs.Substitutions.{apply-apply, apply-var, apply-agree}
use Rattle.fvn_terms.proofs.Equal.{HasKind-apply}
use Rattle.fvn_forms.specs.Flat.{FlatTerm, fvar, fconstant, plain}
use Rattle.fvn_forms.specs.Canon.{eval, canon, inst}
use Rattle.fvn_forms.specs.Ranks.{result}
use Rattle.fvn_forms.specs.Settled.{Settled, SettledValues}
use Rattle.fvn_forms.specs.Good.{IsGood}
use Rattle.fvn_forms.proofs.Sums.{constant_settled}
use Rattle.fvn_forms.proofs.Eval.{canon_settled, canon_plain, eval_apply}
use Rattle.fvn_forms.proofs.Instances.{eval_canon}
use Rattle.fvn_forms.proofs.ToCanon.{canon_of_kind}
use Rattle.fvn_forms.proofs.LeastSort.{least_sort_below}
use Rattle.fvn_signature.specs.Queries.{IsCompleted}
use Rattle.fvn_flat.specs.Bindings.{Bindings, form_or, value, BindingsFit}
use Rattle.fvn_flat.specs.Solving.{substitution}
use Rattle.fvn_flat.specs.Rules.{GoesToIdentity, IsIdentityChoice, IsIdentityInstance}
use Rattle.fvn_flat.proofs.Binding.{same_var_is, same_var_itself}
use Rattle.fvn_flat.proofs.Composing.{empty_fits, bind_fits}
use Rattle.fvn_rewrite_laws.specs.Choices.{identities_below, distinct_variables_of}
use Rattle.fvn_rewrite_laws.specs.Kinds.{HasOneKind}
use Rattle.fvn_rewrite_laws.proofs.Identities.{identity_listed, identity_kind}
use Rattle.fvn_rewrite_laws.proofs.Listing.{distinct_listed, distinct_occurs}
use Rattle.fvn_rewrite_laws.proofs.Choosing.{identity_below, below_identity, made_identity}
use Rattle.fvn_rewrite_laws.proofs.Collapsing.{keeps}
use Rattle.fvn_rewrite_rules.specs.declared.rule.Rule.{Rule}
use Rattle.fvn_rewrite_rules.proofs.Steps.{listed_at}
use Rattle.fvn_rewrite_rules.specs.inner.Making.{goes_to, IsKindedRule, instance_by, with_identity, by_identities, with_choices, IsUnder, AreInstancesOver, AreInstances}

-- what a variable goes to
sent : (x : Var) (e : OpId) (y : Var) (b : Bool) → same_var x y ≡ b → substitution (goes_to x e) y ≡ plain (form_or y (if b then Some (fconstant e) else None))
sent x e y b p = ap (λ c. plain (form_or y (if c then Some (fconstant e) else None))) p

module _ (d : Declarations) where
  -- an instance of a flat form is the flat form of an instance
  pub inst_canon : (s : Bindings) → SettledValues d (value s) → (t : Term) → inst d (value s) (canon d t) ≡ canon d (apply (substitution s) t)
  inst_canon s settled t = sym (eval_canon d (value s) settled t) ∙ sym (eval_apply d fvar (substitution s) t ∙ (λ i. eval d (λ x. canon_plain d (value s x) (settled x) i) t))

  -- what the rules in which x goes to identities are
  module _ (x : Var) (rules : List Rule) where
    kept : (es : List OpId) (all : List Rule) (r : Rule) → Contains all r → Contains (fold (with_identity d x rules) all es) r
    kept [] all r c = c
    kept (e ∷ es) all r c = kept es (with_identity d x rules all e) r (Contains-append_left all (map (instance_by d (goes_to x e)) rules) r c)

    made_by : (es : List OpId) (all : List Rule) (e : OpId) (rule : Rule) → Contains es e → Contains rules rule → Contains (fold (with_identity d x rules) all es) (instance_by d (goes_to x e) rule)
    made_by [] all e rule i c = absurd (contains_none e i)
    made_by (o ∷ es) all e rule i c = elim (contains_cases o es e i) as (λ _. Contains (fold (with_identity d x rules) all (o ∷ es)) (instance_by d (goes_to x e) rule)) [
      | inl p ↦
          kept es (with_identity d x rules all o) (instance_by d (goes_to x e) rule)
          (subst (λ z. Contains (with_identity d x rules all z) (instance_by d (goes_to x e) rule)) (sym p)
          (Contains-append_right all (map (instance_by d (goes_to x e)) rules) (instance_by d (goes_to x e) rule) (contains_map (instance_by d (goes_to x e)) rules rule c)))
      | inr j ↦ made_by es (with_identity d x rules all o) e rule j c
    ]

    -- how a rule among them was made
    pub record IsMadeBy (es : List OpId) (r : Rule) : Type 0 where
      pub identity : OpId
      pub listed : Contains es identity
      pub rule : Rule
      pub given : Contains rules rule
      pub is : instance_by d (goes_to x identity) rule ≡ r

    later : (o : OpId) (es : List OpId) (r : Rule) → IsMadeBy es r → IsMadeBy (o ∷ es) r
    later o es r m = record { identity = m.identity; listed = contains_later o es m.identity m.listed; rule = m.rule; given = m.given; is = m.is }

    only : (es : List OpId) (all : List Rule) (r : Rule) → Contains (fold (with_identity d x rules) all es) r → Contains all r ⊎ IsMadeBy es r
    only [] all r c = inl c
    only (o ∷ es) all r c = go (only es (with_identity d x rules all o) r c) where
      at : Contains all r ⊎ Contains (map (instance_by d (goes_to x o)) rules) r → Contains all r ⊎ IsMadeBy (o ∷ es) r
      at (inl i) = inl i
      at (inr i) = let w = map_contains (instance_by d (goes_to x o)) rules r i in inr (record { identity = o; listed = contains_here o es; rule = w.0; given = w.1.0; is = w.1.1 })

      go : Contains (with_identity d x rules all o) r ⊎ IsMadeBy es r → Contains all r ⊎ IsMadeBy (o ∷ es) r
      go (inl i) = at (Contains-append_cases all (map (instance_by d (goes_to x o)) rules) r i)
      go (inr m) = inr (later o es r m)

  -- one identity more
  pub identities_step : (x : Var) (rules : List Rule) (es : List OpId) (i : ℕ) (e : OpId) → i < length es → (all next : List Rule) (s : Bindings) →
      next ≡ all ++ map (instance_by d s) rules → s ≡ goes_to x (get_or es i e) → all ≡ by_identities d x rules (take i es) → next ≡ by_identities d x rules (take (i + 1) es)
  identities_step x rules es i e within all next s made is old =
      made
      ∙ ap (λ (c : Bindings). all ++ map (instance_by d c) rules) is
      ∙ ap (λ (l : List Rule). with_identity d x rules l (get_or es i e)) old
      ∙ sym (fold_more (with_identity d x rules) [] es i e within)

  module _ (good : IsGood d) (completed : IsCompleted d) where
    -- an identity at or below a sort as the value of a variable
    pub goes_fits : (x : Var) (e : OpId) → Contains (identities_below d x.sort) e → BindingsFit d (goes_to x e)
    goes_fits x e c =
        let w = identity_below d good completed e x.sort c in
        bind_fits d [] x (fconstant e) (empty_fits d) (constant_settled d e e) (λ i. (made_identity d good completed x e w.0 w.1).of_kind)

    module _ (number : ℕ) (equation : Term × Term) (kinds : HasOneKind d equation) where
      -- both sides of an identity instance are flat, and of one kind
      pub instance_kinded : (rule : Rule) → IsIdentityInstance d equation rule.left rule.right → IsKindedRule d rule
      instance_kinded rule i =
          let kept = keeps d good completed equation.0 kinds.kind kinds.left i.by i.choice in
          let a = canon_of_kind d good.fits (apply i.by equation.0) kinds.kind (HasKind-apply d i.by kept equation.0 kinds.kind kinds.left) in
          let b = canon_of_kind d good.fits (apply i.by equation.1) kinds.kind (HasKind-apply d i.by kept equation.1 kinds.kind kinds.right) in
          record {
            kinds = record { kind = kinds.kind; left = rw (← i.left) at a; right = rw (← i.right) at b };
            left = subst (Settled d) (sym i.left) (canon_settled d (apply i.by equation.0));
            right = subst (Settled d) (sym i.right) (canon_settled d (apply i.by equation.1));
          }

      pub over_kinded : (vars : List Var) (rules : List Rule) → AreInstancesOver d number equation vars rules → All (IsKindedRule d) rules
      over_kinded vars rules over k e lt = let rule = get_or rules k e in instance_kinded rule (over.sound rule (Contains-get_or rules k e lt)).1

      pub instances_kinded : (rules : List Rule) → AreInstances d number equation rules → All (IsKindedRule d) rules
      instances_kinded rules all k e lt = let rule = get_or rules k e in instance_kinded rule (all.sound rule (Contains-get_or rules k e lt)).1

      -- without a choice
      pub first_instance : (rule : Rule) → rule.equation ≡ number → rule.left ≡ canon d equation.0 → rule.right ≡ canon d equation.1 → AreInstancesOver d number equation [] (rule ∷ [])
      first_instance rule n l r = record {
        sound = λ u c. subst (λ (v : Rule). (v.equation ≡ number) × IsIdentityInstance d equation v.left v.right) (only_one u c) (n, record { by = var; choice = λ x. inl refl; left = l ∙ ap (canon d) (sym (apply-var equation.0)); right = r ∙ ap (canon d) (sym (apply-var equation.1)) });
        complete = λ by choice stays. (
          rule,
          (
            contains_here rule [],
            record {
              left = l ∙ ap (canon d) (unmoved by stays equation.0);
              right = r ∙ ap (canon d) (unmoved by stays equation.1);
            },
          ),
        );
      }
        where
          only_one : (u : Rule) → Contains (rule ∷ []) u → rule ≡ u
          only_one u c = elim (contains_cases rule [] u c) as (λ _. rule ≡ u) [ inl e ↦ e | inr i ↦ absurd (contains_none u i) ]

          unmoved : (by : Substitution) → ((x : Var) → (Contains [] x → ⊥) → by x ≡ var x) → (t : Term) → t ≡ apply by t
          unmoved by stays t = sym (apply-var t) ∙ sym (apply-agree by var t (λ x o. stays x (contains_none x)))

      module _ (vars : List Var) (x : Var) (occurs : Occurs x equation.0) (rules : List Rule) (over : AreInstancesOver d number equation vars rules) where
        -- x goes to an identity behind a choice
        module _ (e : OpId) (listed : Contains (identities_below d x.sort) e) where
          abbrev sub : Substitution
          sub = substitution (goes_to x e)

          then_canon : (by : Substitution) (t : Term) (f : FlatTerm) → f ≡ canon d (apply by t) → inst d (value (goes_to x e)) f ≡ canon d (apply (followed_by by sub) t)
          then_canon by t f is = ap (inst d (value (goes_to x e))) is ∙ inst_canon (goes_to x e) (goes_fits x e listed).settled (apply by t) ∙ ap (canon d) (apply-apply by sub t)

          chosen_then : (by : Substitution) → IsIdentityChoice d equation.0 by → IsIdentityChoice d equation.0 (followed_by by sub)
          chosen_then by choice y = go (choice y) where
            here : (b : Bool) → same_var x y ≡ b → apply sub (by y) ≡ sub y → (apply sub (by y) ≡ var y) ⊎ (Occurs y equation.0 × GoesToIdentity d (followed_by by sub) y)
            here true p is =
                let q : x ≡ y = same_var_is x y p in
                let w = identity_below d good completed e x.sort listed in
                inr (subst (λ z. Occurs z equation.0) q occurs, record { operator = e; identity = w.0; sorted = subst (λ (z : Var). HasSort d (constant e) z.sort) q (made_identity d good completed x e w.0 w.1).of_sort; is = is ∙ sent x e y true p })
            here false p is = inl (is ∙ sent x e y false p)

            go : (by y ≡ var y) ⊎ (Occurs y equation.0 × GoesToIdentity d by y) → (apply sub (by y) ≡ var y) ⊎ (Occurs y equation.0 × GoesToIdentity d (followed_by by sub) y)
            go (inl p) = here (same_var x y) refl (ap (apply sub) p)
            go (inr w) = inr (w.0, record { operator = w.1.operator; identity = w.1.identity; sorted = w.1.sorted; is = ap (apply sub) w.1.is })

        sound_with : (r : Rule) → Contains (with_choices d rules x) r → (r.equation ≡ number) × IsIdentityInstance d equation r.left r.right
        sound_with r c = go (Contains-append_cases rules (by_identities d x rules (identities_below d x.sort)) r c) where
          made : IsMadeBy x rules (identities_below d x.sort) r → (r.equation ≡ number) × IsIdentityInstance d equation r.left r.right
          made m =
              let old = over.sound m.rule m.given in
              let i = old.1 in
              let e = m.identity in
              subst (λ (v : Rule). (v.equation ≡ number) × IsIdentityInstance d equation v.left v.right) m.is
              (old.0, record { by = followed_by i.by (sub e m.listed); choice = chosen_then e m.listed i.by i.choice; left = then_canon e m.listed i.by equation.0 m.rule.left i.left; right = then_canon e m.listed i.by equation.1 m.rule.right i.right })

          at : Contains [] r ⊎ IsMadeBy x rules (identities_below d x.sort) r → (r.equation ≡ number) × IsIdentityInstance d equation r.left r.right
          at (inl i) = absurd (contains_none r i)
          at (inr m) = made m

          go : Contains rules r ⊎ Contains (by_identities d x rules (identities_below d x.sort)) r → (r.equation ≡ number) × IsIdentityInstance d equation r.left r.right
          go (inl i) = over.sound r i
          go (inr i) = at (only x rules (identities_below d x.sort) [] r i)

        -- a choice, but for x
        module _ (by : Substitution) (choice : IsIdentityChoice d equation.0 by) (stays : (y : Var) → (Contains (vars ++ x ∷ []) y → ⊥) → by y ≡ var y) where
          abbrev but_if : Bool → Var → Term
          but_if b y = if b then var y else by y

          abbrev but : Substitution
          but y = but_if (same_var x y) y

          but_choice : IsIdentityChoice d equation.0 but
          but_choice y = go (same_var x y) refl where
            at : but y ≡ by y → (by y ≡ var y) ⊎ (Occurs y equation.0 × GoesToIdentity d by y) → (but y ≡ var y) ⊎ (Occurs y equation.0 × GoesToIdentity d but y)
            at is (inl p) = inl (is ∙ p)
            at is (inr w) = inr (w.0, record { operator = w.1.operator; identity = w.1.identity; sorted = w.1.sorted; is = is ∙ w.1.is })

            go : (b : Bool) → same_var x y ≡ b → (but y ≡ var y) ⊎ (Occurs y equation.0 × GoesToIdentity d but y)
            go true p = inl (ap (λ b. but_if b y) p)
            go false p = at (ap (λ b. but_if b y) p) (choice y)

          not_itself : (y : Var) → same_var x y ≡ false → x ≡ y → ⊥
          not_itself y p e = let q : same_var x y ≡ true = subst (λ z. same_var x z ≡ true) e (same_var_itself x) in cc

          but_stays : (y : Var) → (Contains vars y → ⊥) → but y ≡ var y
          but_stays y not_listed = go (same_var x y) refl where
            none : same_var x y ≡ false → Contains vars y ⊎ (x ≡ y) → ⊥
            none p (inl i) = not_listed i
            none p (inr e) = not_itself y p e

            go : (b : Bool) → same_var x y ≡ b → but y ≡ var y
            go true p = ap (λ b. but_if b y) p
            go false p = ap (λ b. but_if b y) p ∙ stays y (λ c. none p (Contains-push_cases vars x y c))

          whole : (rule : Rule) × (Contains (with_choices d rules x) rule × IsUnder d number equation by rule)
          whole = go (choice x) where
            old : (rule : Rule) × (Contains rules rule × IsUnder d number equation but rule)
            old = over.complete but but_choice but_stays

            same : by x ≡ var x → (y : Var) → but y ≡ by y
            same p y = at (same_var x y) refl where
              at : (b : Bool) → same_var x y ≡ b → but y ≡ by y
              at true q = ap (λ b. but_if b y) q ∙ sym (subst (λ z. by z ≡ var z) (same_var_is x y q) p)
              at false q = ap (λ b. but_if b y) q

            under_same : by x ≡ var x → (t : Term) → canon d (apply but t) ≡ canon d (apply by t)
            under_same p t = ap (canon d) (apply-agree but by t (λ y o. same p y))

            goes : (e : OpId) (c : Contains (identities_below d x.sort) e) → by x ≡ constant e → (y : Var) → followed_by but (sub e c) y ≡ by y
            goes e c p y = at (same_var x y) refl where
              fixed : same_var x y ≡ false → (by y ≡ var y) ⊎ (Occurs y equation.0 × GoesToIdentity d by y) → apply (sub e c) (by y) ≡ by y
              fixed q (inl r) = ap (apply (sub e c)) r ∙ sent x e y false q ∙ sym r
              fixed q (inr w) = ap (apply (sub e c)) w.1.is ∙ sym w.1.is

              at : (b : Bool) → same_var x y ≡ b → followed_by but (sub e c) y ≡ by y
              at true q = ap (λ b. apply (sub e c) (but_if b y)) q ∙ sent x e y true q ∙ sym (subst (λ z. by z ≡ constant e) (same_var_is x y q) p)
              at false q = ap (λ b. apply (sub e c) (but_if b y)) q ∙ fixed q (choice y)

            gone : GoesToIdentity d by x → (rule : Rule) × (Contains (with_choices d rules x) rule × IsUnder d number equation by rule)
            gone g =
                let e = g.operator in
                let low = least_sort_below d good (constant e) (kind d (result d e []), identity_kind d good completed e g.identity) x.sort g.sorted in
                let c = below_identity d good completed e x.sort (identity_listed d g.identity.0 e g.identity.1) low in
                let u = old.1.1 in (
                  instance_by d (goes_to x e) old.0,
                  (
                    Contains-append_right rules (by_identities d x rules (identities_below d x.sort)) (instance_by d (goes_to x e) old.0) (made_by x rules (identities_below d x.sort) [] e old.0 c old.1.0),
                    record {
                      left = then_canon e c but equation.0 old.0.left u.left ∙ ap (canon d) (apply-agree (followed_by but (sub e c)) by equation.0 (λ y o. goes e c g.is y));
                      right = then_canon e c but equation.1 old.0.right u.right ∙ ap (canon d) (apply-agree (followed_by but (sub e c)) by equation.1 (λ y o. goes e c g.is y));
                    },
                  ),
                )

            go : (by x ≡ var x) ⊎ (Occurs x equation.0 × GoesToIdentity d by x) → (rule : Rule) × (Contains (with_choices d rules x) rule × IsUnder d number equation by rule)
            go (inl p) = (
              old.0,
              (Contains-append_left rules (by_identities d x rules (identities_below d x.sort)) old.0 old.1.0, record { left = old.1.1.left ∙ under_same p equation.0; right = old.1.1.right ∙ under_same p equation.1 }),
            )
            go (inr w) = gone w.1

        -- the choices of one variable more
        pub choices_step : AreInstancesOver d number equation (vars ++ x ∷ []) (with_choices d rules x)
        choices_step = record { sound = sound_with; complete = whole }

      -- with all variables of the left side
      pub all_choices : (rules : List Rule) → AreInstancesOver d number equation (distinct_variables_of equation.0) rules → AreInstances d number equation rules
      all_choices rules over = record { sound = over.sound; complete = λ by choice. over.complete by choice (λ x not_listed. go by x not_listed (choice x)) }
        where
          go : (by : Substitution) (x : Var) → (Contains (distinct_variables_of equation.0) x → ⊥) → (by x ≡ var x) ⊎ (Occurs x equation.0 × GoesToIdentity d by x) → by x ≡ var x
          go by x not_listed (inl p) = p
          go by x not_listed (inr w) = absurd (not_listed (distinct_listed equation.0 x w.0))

      -- one variable of a list more
      pub variable_step : (vars : List Var) → vars ≡ distinct_variables_of equation.0 → (i : ℕ) (x : Var) → i < length vars → (rules next : List Rule) → next ≡ with_choices d rules (get_or vars i x) →
          AreInstancesOver d number equation (take i vars) rules → AreInstancesOver d number equation (take (i + 1) vars) next
      variable_step vars whole i x within rules next is over =
          let y : Var = get_or vars i x in
          let occurs = distinct_occurs equation.0 y (listed_at vars (distinct_variables_of equation.0) whole i x within) in
          subst (AreInstancesOver d number equation (take (i + 1) vars)) (sym is)
          (subst (λ (l : List Var). AreInstancesOver d number equation l (with_choices d rules y)) (sym (take_more vars i x within)) (choices_step (take i vars) y occurs rules over))
