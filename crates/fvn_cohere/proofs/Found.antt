-- What a search through all choices finds.
use Rattle.std.proofs.Common.{◌≡◌, ◌⊎◌, Bool, true, false, not, List, [], ◌∷◌, ◌++◌, drop, refl, sym, ap, ◌∙◌, subst, inl, inr}
use Rattle.std.specs.Prelude.{if◌then◌else◌, fold}
use Rattle.std.specs.List.{Contains}
use Rattle.std.proofs.lemmas.Bool.{true≢false, false≢true}
use Rattle.std.proofs.lemmas.List.{append-nil}
use Rattle.std.proofs.lemmas.List.Sums.{fold-append}
use Rattle.fvn_base.proofs.Membership.{contains_here, contains_later, contains_cases, contains_none}
use Rattle.fvn_terms.specs.declared.plain.Var.{Var}
use Rattle.fvn_terms.specs.declared.plain.OpId.{OpId}
use Rattle.fvn_terms.specs.declared.plain.SortId.{SortId}
use Rattle.fvn_terms.specs.declared.declarations.Declarations.{Declarations}
use Rattle.fvn_terms.specs.Term.{Term, app, more, none as no_terms}
use Rattle.fvn_terms.specs.Substitution.{same_var, Occurs}
use Rattle.fvn_terms.specs.Signature.{AtOrBelow, IsTerm}
use Rattle.fvn_terms.specs.Rewriting.{IsSortDecreasing}
use Rattle.fvn_forms.specs.SortOrder.{at_or_below}
use Rattle.fvn_forms.specs.Good.{IsGood}
use Rattle.fvn_forms.proofs.SortTests.{at_or_below-true, at_or_below-complete}
use Rattle.fvn_signature.specs.Queries.{IsCompleted}
use Rattle.fvn_flat.specs.Problems.{variables}
use Rattle.fvn_flat.specs.Variables.{with_variable}
use Rattle.fvn_flat.proofs.Binding.{same_var_is, same_var_itself}
use Rattle.fvn_rewrite_laws.specs.declared.shapes.Root.{Root}
use Rattle.fvn_rewrite_laws.specs.declared.shapes.Root.TheVariants.{Variable, Constant, Compound}
use Rattle.fvn_rewrite_laws.specs.declared.shapes.Shape.{Shape}
use Rattle.fvn_rewrite_laws.specs.Shapes.{shape_in}
use Rattle.fvn_rewrite_laws.specs.Identities.{identities}
use Rattle.fvn_rewrite_laws.specs.Choices.{distinct_variables_of, sort_choices, identity_choices, IsChoice}
use Rattle.fvn_rewrite_laws.specs.Kinds.{IsKindedEquation}
use Rattle.fvn_rewrite_laws.specs.Collapses.{CollapsesToVariable, CollapsesToIdentity}
use Rattle.fvn_rewrite_laws.specs.Losses.{IsLoss}
use Rattle.fvn_rewrite_laws.proofs.Identities.{op_listed, listed_op}
use Rattle.fvn_rewrite_laws.proofs.Listing.{distinct_listed, distinct_occurs}
use Rattle.fvn_rewrite_laws.proofs.Trimming.{shape_agrees}
use Rattle.fvn_rewrite_laws.proofs.Losing.{choice_loses, choices_decrease}
use Rattle.fvn_rewrite_laws.proofs.Collapsing.{variable_choice, identity_choice, choice_to_variable, choice_to_identity}
use Rattle.fvn_cohere.specs.Promises.{LosesAs}
use Rattle.fvn_cohere.specs.declared.searching.Sought.{Sought}
use Rattle.fvn_cohere.specs.declared.searching.Sought.TheVariants.{Loss, ToVariable, ToIdentity}
use Rattle.fvn_cohere.specs.inner.Searching.{with_shape, some_choice, unchosen_of, is_variable_root, is_identity_root, choices_for, is_met}
use Rattle.fvn_cohere.proofs.Tests.{any_true, any_false}

module _ (choices : SortId → List Shape) (test : (Var → Shape) → Bool) where
  -- what was chosen so far are choices
  abbrev Good : List Var → (Var → Shape) → Type 0
  Good seen env = (y : Var) → Contains seen y → Contains (choices y.sort) (env y)

  good_more : (seen : List Var) (env : Var → Shape) (x : Var) (o : Shape) → Good seen env → Contains (choices x.sort) o → Good (x ∷ seen) (with_shape env x o)
  good_more seen env x o h c y m = go (same_var x y) refl where
    go : (b : Bool) → same_var x y ≡ b → Contains (choices y.sort) (if b then o else env y)
    go true p = subst (λ (z : Var). Contains (choices z.sort) o) (same_var_is x y p) c
    go false p = elim (contains_cases x seen y m) as (λ _. Contains (choices y.sort) (env y)) [
      | inl e ↦ absurd (true≢false (sym (subst (λ z. same_var x z ≡ true) e (same_var_itself x)) ∙ p))
      | inr i ↦ h y i
    ]

  shifted : (x : Var) (vars seen : List Var) (y : Var) → Contains (x ∷ vars) y ⊎ Contains seen y → Contains vars y ⊎ Contains (x ∷ seen) y
  shifted x vars seen y (inl m) = elim (contains_cases x vars y m) as (λ _. Contains vars y ⊎ Contains (x ∷ seen) y) [
    | inl e ↦ inr (subst (Contains (x ∷ seen)) e (contains_here x seen))
    | inr i ↦ inl i
  ]
  shifted x vars seen y (inr m) = inr (contains_later x seen y m)

  -- a choice that passes the test
  found : (vars seen : List Var) (env : Var → Shape) → Good seen env → some_choice test (unchosen_of choices vars) env ≡ true →
      (e : Var → Shape) × (((y : Var) → Contains vars y ⊎ Contains seen y → Contains (choices y.sort) (e y)) × (test e ≡ true))
  found [] seen env h t = (env, (λ y m. elim m as (λ _. Contains (choices y.sort) (env y)) [ inl c ↦ absurd (contains_none y c) | inr i ↦ h y i ], t))
  found (x ∷ vars) seen env h t =
      let w = any_true (λ o. some_choice test (unchosen_of choices vars) (with_shape env x o)) (choices x.sort) t in
      let r = found vars (x ∷ seen) (with_shape env x w.0) (good_more seen env x w.0 h w.1.0) w.1.1 in
      (r.0, (λ y m. r.1.0 y (shifted x vars seen y m), r.1.1))

  -- the choice that e makes for the variables, one after another
  abbrev follow : (Var → Shape) → List Var → (Var → Shape) → Var → Shape
  follow e [] env = env
  follow e (x ∷ vars) env = follow e vars (with_shape env x (e x))

  follow_kept : (e : Var → Shape) (vars : List Var) (env : Var → Shape) (y : Var) → env y ≡ e y → follow e vars env y ≡ e y
  follow_kept e [] env y p = p
  follow_kept e (x ∷ vars) env y p = follow_kept e vars (with_shape env x (e x)) y (go (same_var x y) refl) where
    go : (b : Bool) → same_var x y ≡ b → (if b then e x else env y) ≡ e y
    go true q = ap e (same_var_is x y q)
    go false q = p

  follow_is : (e : Var → Shape) (vars : List Var) (env : Var → Shape) (y : Var) → Contains vars y → follow e vars env y ≡ e y
  follow_is e [] env y m = absurd (contains_none y m)
  follow_is e (x ∷ vars) env y m = elim (contains_cases x vars y m) as (λ _. follow e (x ∷ vars) env y ≡ e y) [
    | inl p ↦ follow_kept e vars (with_shape env x (e x)) y (ap (λ b. if b then e x else env y) (subst (λ z. same_var x z ≡ true) p (same_var_itself x)) ∙ ap e p)
    | inr i ↦ follow_is e vars (with_shape env x (e x)) y i
  ]

  -- where none passes the test
  none : (e : Var → Shape) (vars : List Var) (env : Var → Shape) → ((y : Var) → Contains vars y → Contains (choices y.sort) (e y)) → some_choice test (unchosen_of choices vars) env ≡ false → test (follow e vars env) ≡ false
  none e [] env h f = f
  none e (x ∷ vars) env h f =
      none e vars (with_shape env x (e x)) (λ y m. h y (contains_later x vars y m))
      (any_false (λ o. some_choice test (unchosen_of choices vars) (with_shape env x o)) (choices x.sort) f (e x) (h x (contains_here x vars)))

  -- the same for the variables of a term
  module _ (t : Term) (vars : List Var) (listed : (x : Var) → Occurs x t → Contains vars x) (env : Var → Shape) where
    pub found_choice : some_choice test (unchosen_of choices vars) env ≡ true → (e : Var → Shape) × (IsChoice choices t e × (test e ≡ true))
    found_choice h =
        let w = found vars [] env (λ y m. absurd (contains_none y m)) h in
        (w.0, (λ x o. w.1.0 x (inl (listed x o)), w.1.1))

    pub no_choice : ((x : Var) → Contains vars x → Occurs x t) → some_choice test (unchosen_of choices vars) env ≡ false → (e : Var → Shape) → IsChoice choices t e →
        (other : Var → Shape) × (((x : Var) → Occurs x t → other x ≡ e x) × (test other ≡ false))
    no_choice only h e choice = (
      follow e vars env,
      (
        λ x o. follow_is e vars env x (listed x o),
        none e vars env (λ y m. choice y (only y m)) h,
      ),
    )

-- the variables of two terms, those of the first one first
abbrev pub variables_of_both : Term → Term → List Var
variables_of_both first second = fold with_variable (distinct_variables_of first) (variables second)

-- they are those of a term over both
module _ (first second : Term) where
  abbrev pair : Term
  pair = app (record { 0 = 0 }) (more first (more second no_terms))

  both_is : variables_of_both first second ≡ distinct_variables_of pair
  both_is = ap (λ l. fold with_variable (distinct_variables_of first) l) (sym (append-nil (variables second))) ∙ sym (fold-append with_variable [] (variables first) (variables second ++ []))

  pub both_listed : (x : Var) → Occurs x second → Contains (variables_of_both first second) x
  both_listed x o = subst (λ l. Contains l x) (sym both_is) (distinct_listed pair x (inr (inl o)))

  pub both_occur : ((x : Var) → Occurs x first → Occurs x second) → (x : Var) → Contains (variables_of_both first second) x → Occurs x second
  both_occur within x c = go (distinct_occurs pair x (subst (λ l. Contains l x) both_is c)) where
    go : Occurs x pair → Occurs x second
    go (inl o) = within x o
    go (inr (inl o)) = o
    go (inr (inr o)) = absurd o

variable_root : (f : Root) → is_variable_root f ≡ true → f ≡ Variable
variable_root Variable h = refl
variable_root (Constant g) h = absurd (false≢true h)
variable_root Compound h = absurd (false≢true h)

identity_root : (es : List OpId) (f : Root) → is_identity_root es f ≡ true → (e : OpId) × (Contains es e × (f ≡ Constant e))
identity_root es Variable h = absurd (false≢true h)
identity_root es (Constant g) h = (g, (op_listed es g h, refl))
identity_root es Compound h = absurd (false≢true h)

module _ (d : Declarations) (good : IsGood d) (completed : IsCompleted d) (env : Var → Shape) where
  module _ (t : Term) (is_term : IsTerm d t) where
    -- what a search finds for one thing sought
    abbrev pub searched : Sought → Bool
    searched sought = some_choice (is_met d sought (identities d) t t) (unchosen_of (choices_for d sought) (distinct_variables_of t)) env

    -- the answer of a search whose lists are made so
    pub searched_by : (made sought : Sought) (es : List OpId) (vars : List Var) (left_over : List (Var × List Shape)) (b : Bool) →
        es ≡ identities d → vars ≡ distinct_variables_of t → left_over ≡ unchosen_of (choices_for d made) vars → choices_for d made ≡ choices_for d sought →
        b ≡ some_choice (is_met d sought es t t) (drop 0 left_over) env → b ≡ searched sought
    searched_by made sought es vars left_over b p q r same_choices e =
        e
        ∙ ap (λ l. some_choice (is_met d sought l t t) left_over env) p
        ∙ ap (λ l. some_choice (is_met d sought (identities d) t t) l env) (r ∙ ap (λ choices. unchosen_of choices vars) same_choices ∙ ap (unchosen_of (choices_for d sought)) q)

    pub variable_found : searched ToVariable ≡ true → CollapsesToVariable d t
    variable_found h =
        let w = found_choice (identity_choices d) (is_met d ToVariable (identities d) t t) t (distinct_variables_of t) (distinct_listed t) env h in
        choice_to_variable d good completed t is_term.0 is_term.1 w.0 w.1.0 (variable_root (shape_in d w.0 t).root w.1.1)

    pub no_variable : searched ToVariable ≡ false → CollapsesToVariable d t → ⊥
    no_variable h c =
        let v = variable_choice d good completed t is_term.0 is_term.1 c in
        let n = no_choice (identity_choices d) (is_met d ToVariable (identities d) t t) t (distinct_variables_of t) (distinct_listed t) env (distinct_occurs t) h v.env v.choice in
        let e : (shape_in d n.0 t).root ≡ Variable = ap (λ (s : Shape). s.root) (shape_agrees d n.0 v.env t n.1.0) ∙ v.is in
        true≢false (sym (ap is_variable_root e) ∙ n.1.1)

    pub identity_found : searched ToIdentity ≡ true → CollapsesToIdentity d t
    identity_found h =
        let w = found_choice (identity_choices d) (is_met d ToIdentity (identities d) t t) t (distinct_variables_of t) (distinct_listed t) env h in
        let g = identity_root (identities d) (shape_in d w.0 t).root w.1.1 in
        choice_to_identity d good completed t is_term.0 is_term.1 w.0 w.1.0 g.0 g.1.0 g.1.1

    pub no_identity : searched ToIdentity ≡ false → CollapsesToIdentity d t → ⊥
    no_identity h c =
        let v = identity_choice d good completed t is_term.0 is_term.1 c in
        let n = no_choice (identity_choices d) (is_met d ToIdentity (identities d) t t) t (distinct_variables_of t) (distinct_listed t) env (distinct_occurs t) h v.env v.choice in
        let e : (shape_in d n.0 t).root ≡ Constant v.is.0 = ap (λ (s : Shape). s.root) (shape_agrees d n.0 v.env t n.1.0) ∙ v.is.1.1 in
        true≢false (sym (ap (is_identity_root (identities d)) e ∙ listed_op (identities d) v.is.0 v.is.1.0) ∙ n.1.1)

  module _ (left right : Term) (kinded : IsKindedEquation d (left, right)) where
    abbrev pub searched_loss : Bool
    searched_loss = some_choice (is_met d Loss (identities d) left right) (unchosen_of (sort_choices d) (variables_of_both right left)) env

    -- the answer of a search whose lists are made so
    pub searched_loss_by : (es : List OpId) (vars : List Var) (left_over : List (Var × List Shape)) (b : Bool) →
        es ≡ identities d → vars ≡ variables_of_both right left → left_over ≡ unchosen_of (sort_choices d) vars →
        b ≡ some_choice (is_met d Loss es left right) (drop 0 left_over) env → b ≡ searched_loss
    searched_loss_by es vars left_over b p q r e =
        e
        ∙ ap (λ l. some_choice (is_met d Loss l left right) left_over env) p
        ∙ ap (λ l. some_choice (is_met d Loss (identities d) left right) l env) (r ∙ ap (unchosen_of (sort_choices d)) q)

    not_below : (s q : SortId) → not (at_or_below d s q) ≡ true → AtOrBelow d s q → ⊥
    not_below s q h a = false≢true (ap not (sym (at_or_below-complete d a)) ∙ h)

    is_below : (s q : SortId) → not (at_or_below d s q) ≡ false → AtOrBelow d s q
    is_below s q h = go (at_or_below d s q) refl h where
      go : (b : Bool) → at_or_below d s q ≡ b → not b ≡ false → AtOrBelow d s q
      go true e k = at_or_below-true d s q e
      go false e k = absurd (true≢false k)

    pub loss_found : searched_loss ≡ true → IsLoss d left right
    loss_found h =
        let w = found_choice (sort_choices d) (is_met d Loss (identities d) left right) left (variables_of_both right left) (both_listed right left) env h in
        choice_loses d good completed left right kinded.kinds kinded.brings_none w.0 w.1.0 (not_below (shape_in d w.0 right).sort (shape_in d w.0 left).sort w.1.1)

    pub no_loss : searched_loss ≡ false → IsSortDecreasing d left right
    no_loss h = choices_decrease d good completed left right kinded.kinds kinded.brings_none each where
      each : (e : Var → Shape) → IsChoice (sort_choices d) left e → AtOrBelow d (shape_in d e right).sort (shape_in d e left).sort
      each e choice =
          let n = no_choice (sort_choices d) (is_met d Loss (identities d) left right) left (variables_of_both right left) (both_listed right left) env (both_occur right left kinded.brings_none) h e choice in
          rw (shape_agrees d n.0 e right (λ x o. n.1.0 x (kinded.brings_none x o)), shape_agrees d n.0 e left n.1.0) at (is_below (shape_in d n.0 right).sort (shape_in d n.0 left).sort n.1.1)

    -- what the answer says
    pub answered : (b : Bool) → b ≡ searched_loss → LosesAs d left right b
    answered true e = loss_found (sym e)
    answered false e = no_loss (sym e)
