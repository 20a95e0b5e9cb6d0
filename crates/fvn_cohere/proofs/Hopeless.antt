-- Choices of which nothing that is sought can come.
use Rattle.std.proofs.Common.{◌≡◌, ◌⊎◌, ◌<◌, length, get_or, ℕ, zero, suc, Bool, true, false, not, IsTrue, List, [], ◌∷◌, map, drop, Option, Some, None, refl, sym, ap, ◌∙◌, subst, inl, inr}
use Rattle.std.specs.Prelude.{if◌then◌else◌, fold, MatchOption, ◌&&◌}
use Rattle.std.specs.List.{Contains}
use Rattle.std.proofs.lemmas.Bool.{true≢false, false≢true, or_parts}
use Rattle.std.proofs.lemmas.List.Elements.{Contains-append_cases, Contains-get_or}
use Rattle.fvn_base.proofs.Membership.{contains_here, contains_later, contains_cases, map_contains}
use Rattle.fvn_terms.specs.declared.plain.Var.{Var}
use Rattle.fvn_terms.specs.declared.plain.OpId.{OpId}
use Rattle.fvn_terms.specs.declared.plain.SortId.{SortId}
use Rattle.fvn_terms.specs.declared.declarations.Declarations.{Declarations}
use Rattle.fvn_terms.specs.Term.{Term}
use Rattle.fvn_terms.specs.Substitution.{same_var}
use Rattle.fvn_terms.specs.Signature.{AtOrBelow, same}
use Rattle.fvn_forms.specs.Good.{IsGood}
use Rattle.fvn_forms.proofs.SortOrder.{AtOrBelow-trans}
use Rattle.fvn_forms.specs.SortOrder.{at_or_below}
use Rattle.fvn_forms.proofs.SortTests.{at_or_below-true, at_or_below-complete}
use Rattle.fvn_signature.specs.Queries.{IsCompleted}
use Rattle.fvn_flat.specs.Variables.{listed, with_variable}
use Rattle.fvn_flat.proofs.Binding.{same_var_is, same_var_itself}
use Rattle.fvn_flat.proofs.ListedVariables.{Distinct, with_variable_distinct}
use Rattle.fvn_rewrite_laws.specs.declared.shapes.Root.{Root}
use Rattle.fvn_rewrite_laws.specs.declared.shapes.Root.TheVariants.{Variable, Constant, Compound}
use Rattle.fvn_rewrite_laws.specs.declared.shapes.Shape.{Shape}
use Rattle.fvn_rewrite_laws.specs.Shapes.{shape_in}
use Rattle.fvn_rewrite_laws.specs.Identities.{identities}
use Rattle.fvn_rewrite_laws.specs.Choices.{variable_shape, identity_shape, sorts_below, identities_below, sort_choices}
use Rattle.fvn_rewrite_laws.proofs.Identities.{op_listed}
use Rattle.fvn_rewrite_laws.proofs.Choosing.{listed_below, identity_below}
use Rattle.fvn_cohere.specs.declared.searching.Sought.{Sought}
use Rattle.fvn_cohere.specs.declared.searching.Sought.TheVariants.{Loss, LossAt, ToVariable, ToIdentity}
use Rattle.fvn_cohere.specs.declared.outlooks.Outlook.{Outlook}
use Rattle.fvn_cohere.specs.inner.Searching.{is_variable_root, is_identity_root, is_lost_at, is_met, with_shape, some_choice, unchosen_of, choices_for}
use Rattle.fvn_cohere.specs.inner.Outlooks.{offered, AreOnce, IsAllowed, AreAllowed, IsLow, IsOutOfReach, Suits, Fills, Offers}
use Rattle.fvn_cohere.proofs.Tests.{any_true, any_false}

-- a test that is passed only where it cannot be is not passed
refuted : (b : Bool) → (b ≡ true → ⊥) → b ≡ false
refuted true h = absurd (h refl)
refuted false h = refl

negated : (b : Bool) → IsTrue (not b) → IsTrue b → ⊥
negated true h k = false≢true h
negated false h k = false≢true k

-- both sides of a conjunction are to hold
and_false : (a b : Bool) → (a ≡ false) ⊎ (b ≡ false) → (a && b) ≡ false
and_false a b (inl e) = ap (λ z. z && b) e
and_false true b (inr e) = e
and_false false b (inr e) = refl

variable_root : (root : Root) → is_variable_root root ≡ true → root ≡ Variable
variable_root Variable h = refl
variable_root (Constant g) h = absurd (false≢true h)
variable_root Compound h = absurd (false≢true h)

identity_root : (es : List OpId) (root : Root) → is_identity_root es root ≡ true → (e : OpId) × (Contains es e × (root ≡ Constant e))
identity_root es Variable h = absurd (false≢true h)
identity_root es (Constant g) h = (g, (op_listed es g h, refl))
identity_root es Compound h = absurd (false≢true h)

module _ (d : Declarations) where
  -- outlooks that rule out what is sought
  module _ (es : List OpId) (left right : Term) (filled : Var → Shape) (sought : Sought) where
    pub excludes_loss : (a b : Outlook) → sought ≡ Loss → Suits d a (shape_in d filled left) → Suits d b (shape_in d filled right) →
        ((q : SortId) → IsLow d a.low q → AtOrBelow d b.high q) → is_met d sought es left right filled ≡ false
    excludes_loss a b e p q h =
        ap (λ z. is_met d z es left right filled) e
        ∙ ap not (at_or_below-complete d (AtOrBelow-trans d q.high (h (shape_in d filled left).sort p.low)))

    pub excludes_loss_at : (s : SortId) (a : Outlook) → sought ≡ LossAt s → Suits d a (shape_in d filled left) →
        IsOutOfReach d s a.low ⊎ AtOrBelow d (shape_in d filled right).sort s → is_met d sought es left right filled ≡ false
    excludes_loss_at s a e p h = ap (λ z. is_met d z es left right filled) e ∙ not_lost h where
      not_lost : IsOutOfReach d s a.low ⊎ AtOrBelow d (shape_in d filled right).sort s → is_lost_at d s (shape_in d filled left).sort (shape_in d filled right).sort ≡ false
      not_lost (inl out) = and_false (at_or_below d (shape_in d filled left).sort s) (not (at_or_below d (shape_in d filled right).sort s)) (inl (refuted (at_or_below d (shape_in d filled left).sort s) (λ k. out (shape_in d filled left).sort p.low (at_or_below-true d (shape_in d filled left).sort s k))))
      not_lost (inr below) = and_false (at_or_below d (shape_in d filled left).sort s) (not (at_or_below d (shape_in d filled right).sort s)) (inr (ap not (at_or_below-complete d below)))

    pub excludes_variable : (a : Outlook) → sought ≡ ToVariable → Suits d a (shape_in d filled left) → IsTrue (not a.variable) → is_met d sought es left right filled ≡ false
    excludes_variable a e p h =
        ap (λ z. is_met d z es left right filled) e
        ∙ refuted (is_variable_root (shape_in d filled left).root) (λ k. negated a.variable h (p.variable (variable_root (shape_in d filled left).root k)))

    pub excludes_identity : (a : Outlook) → sought ≡ ToIdentity → es ≡ identities d → Suits d a (shape_in d filled left) → IsTrue (not a.identity) → is_met d sought es left right filled ≡ false
    excludes_identity a e is p h =
        ap (λ z. is_met d z es left right filled) e
        ∙ refuted (is_identity_root es (shape_in d filled left).root)
        (λ k. let r = identity_root es (shape_in d filled left).root k in negated a.identity h (p.identity r.0 (subst (λ l. Contains l r.0) is r.1.0) r.1.1))

  -- a known lower bound that is not at or below the sort
  pub out_of_reach : (s : SortId) (low : Option SortId) (q : SortId) (below : Bool) → low ≡ Some q → below ≡ at_or_below d q s → IsTrue (not below) → IsOutOfReach d s low
  out_of_reach s low q below e p h r known a =
      negated below h (p ∙ at_or_below-complete d (AtOrBelow-trans d (subst (λ l. IsLow d l r) e known) a))

  variable_constant : (s : SortId) (e : OpId) → (variable_shape s).root ≡ Constant e → ⊥
  variable_constant s e h = let no : Variable ≡ Constant e = h in cc

  -- a variable may stay
  pub stays_allowed : AreAllowed d (λ y. variable_shape y.sort)
  stays_allowed y = record { below = same; constant = λ e h. absurd (variable_constant y.sort e h) }

  -- a shape for a variable, and shapes for others
  pub allowed_more : (env : Var → Shape) (x : Var) (o : Shape) → AreAllowed d env → IsAllowed d x o → AreAllowed d (with_shape env x o)
  allowed_more env x o h a y = go (same_var x y) refl where
    go : (b : Bool) → same_var x y ≡ b → IsAllowed d y (if b then o else env y)
    go true p = subst (λ z. IsAllowed d z o) (same_var_is x y p) a
    go false p = h y

  module _ (good : IsGood d) (completed : IsCompleted d) where
    variable_allowed : (x : Var) (q : SortId) → AtOrBelow d q x.sort → IsAllowed d x (variable_shape q)
    variable_allowed x q a = record { below = a; constant = λ e h. absurd (variable_constant q e h) }

    identity_allowed : (x : Var) (o : Shape) → Contains (map (identity_shape d) (identities_below d x.sort)) o → IsAllowed d x o
    identity_allowed x o c =
        let w = map_contains (identity_shape d) (identities_below d x.sort) o c in
        subst (IsAllowed d x) w.1.1 record {
          below = (identity_below d good completed w.0 x.sort w.1.0).1;
          constant = λ e h. let p : w.0 ≡ e = let q : Constant w.0 ≡ Constant e = h in cc in ap (λ g. (identity_shape d g).sort) p;
        }

    itself_allowed : (x : Var) (o : Shape) → Contains (variable_shape x.sort ∷ map (identity_shape d) (identities_below d x.sort)) o → IsAllowed d x o
    itself_allowed x o c = elim (contains_cases (variable_shape x.sort) (map (identity_shape d) (identities_below d x.sort)) o c) as (λ _. IsAllowed d x o) [
      | inl e ↦ subst (IsAllowed d x) e (variable_allowed x x.sort same)
      | inr i ↦ identity_allowed x o i
    ]

    sort_allowed : (x : Var) (o : Shape) → Contains (sort_choices d x.sort) o → IsAllowed d x o
    sort_allowed x o c = elim (Contains-append_cases (map variable_shape (sorts_below d x.sort)) (map (identity_shape d) (identities_below d x.sort)) o c) as (λ _. IsAllowed d x o) [
      | inl i ↦ let w = map_contains variable_shape (sorts_below d x.sort) o i in subst (IsAllowed d x) w.1.1 (variable_allowed x w.0 (listed_below d good completed w.0 x.sort w.1.0))
      | inr i ↦ identity_allowed x o i
    ]

    -- what a variable may stand for in a search
    pub choices_allowed : (sought : Sought) (x : Var) (o : Shape) → Contains (choices_for d sought x.sort) o → IsAllowed d x o
    choices_allowed Loss x o c = sort_allowed x o c
    choices_allowed (LossAt s) x o c = sort_allowed x o c
    choices_allowed ToVariable x o c = itself_allowed x o c
    choices_allowed ToIdentity x o c = itself_allowed x o c

  -- what one of the variables may stand for
  pub entry_allowed : (unchosen : List (Var × List Shape)) → Offers d unchosen → (i : ℕ) (v : Var × List Shape) → i < length unchosen → v ≡ get_or unchosen i v → (o : Shape) → Contains v.1 o → IsAllowed d v.0 o
  entry_allowed unchosen offers i v within is o c = offers.allowed v (subst (Contains unchosen) (sym is) (Contains-get_or unchosen i v within)) o c

  -- what is left of the variables
  pub offers_later : (v : Var × List Shape) (unchosen : List (Var × List Shape)) → Offers d (v ∷ unchosen) → Offers d unchosen
  offers_later v unchosen offers = record { allowed = λ w c. offers.allowed w (contains_later v unchosen w c); once = offers.once.1 }

  -- one variable more, that stands for this shape
  fills_more : (v : Var × List Shape) (unchosen : List (Var × List Shape)) → offered unchosen v.0 ≡ None → (env filled : Var → Shape) (o : Shape) → Contains v.1 o → Fills d unchosen (with_shape env v.0 o) filled → Fills d (v ∷ unchosen) env filled
  fills_more v unchosen once env filled o among fills = record { allowed = fills.allowed; each = λ y. go y (same_var v.0 y) refl (offered unchosen y) refl (fills.each y) } where
    go : (y : Var) (b : Bool) → same_var v.0 y ≡ b → (rest : Option (List Shape)) → offered unchosen y ≡ rest → MatchOption rest (filled y ≡ (if b then o else env y)) (λ shapes. Contains shapes (filled y)) →
        MatchOption (if b then Some v.1 else rest) (filled y ≡ env y) (λ shapes. Contains shapes (filled y))
    go y true p None q k = subst (Contains v.1) (sym k) among
    go y true p (Some shapes) q k = let no : None ≡ Some shapes = sym once ∙ ap (offered unchosen) (same_var_is v.0 y p) ∙ q in cc
    go y false p None q k = k
    go y false p (Some shapes) q k = k

  module _ (test : (Var → Shape) → Bool) where
    -- a choice that is found is one for all variables
    pub found : (unchosen : List (Var × List Shape)) → Offers d unchosen → (env : Var → Shape) → AreAllowed d env → some_choice test unchosen env ≡ true →
        (filled : Var → Shape) × (Fills d unchosen env filled × (test filled ≡ true))
    found [] offers env allowed h = (env, (record { allowed = allowed; each = λ y. refl }, h))
    found (v ∷ unchosen) offers env allowed h =
        let o = any_true (λ o. some_choice test unchosen (with_shape env v.0 o)) v.1 h in
        let r = found unchosen (offers_later v unchosen offers) (with_shape env v.0 o.0) (allowed_more env v.0 o.0 allowed (offers.allowed v (contains_here v unchosen) o.0 o.1.0)) o.1.1 in
        (r.0, (fills_more v unchosen offers.once.0 env r.0 o.0 o.1.0 r.1.0, r.1.1))

    -- where no choice for all variables passes the test, the search finds none
    pub none_found : (unchosen : List (Var × List Shape)) → Offers d unchosen → (env : Var → Shape) → AreAllowed d env →
        ((filled : Var → Shape) → Fills d unchosen env filled → test filled ≡ false) → some_choice test unchosen env ≡ false
    none_found unchosen offers env allowed h =
        refuted (some_choice test unchosen env) (λ e. let r = found unchosen offers env allowed e in true≢false (sym r.1.1 ∙ h r.0 r.1.0))

    -- and the other way round, for a test of values alone
    module _ (agree : (f g : Var → Shape) → ((y : Var) → f y ≡ g y) → test f ≡ test g) where
      pub none_passes : (unchosen : List (Var × List Shape)) → AreOnce unchosen → (env : Var → Shape) → some_choice test unchosen env ≡ false → (filled : Var → Shape) → Fills d unchosen env filled → test filled ≡ false
      none_passes [] once env h filled fills = agree filled env fills.each ∙ h
      none_passes (v ∷ unchosen) once env h filled fills =
          none_passes unchosen once.1 (with_shape env v.0 (filled v.0)) (any_false (λ o. some_choice test unchosen (with_shape env v.0 o)) v.1 h (filled v.0) own) filled record { allowed = fills.allowed; each = λ y. go y (same_var v.0 y) refl (fills.each y) }
        where
          own : Contains v.1 (filled v.0)
          own = at (same_var v.0 v.0) (same_var_itself v.0) (fills.each v.0) where
            at : (b : Bool) → b ≡ true → MatchOption (if b then Some v.1 else offered unchosen v.0) (filled v.0 ≡ env v.0) (λ shapes. Contains shapes (filled v.0)) → Contains v.1 (filled v.0)
            at true e k = k
            at false e k = absurd (false≢true e)

          go : (y : Var) (b : Bool) → same_var v.0 y ≡ b → MatchOption (if b then Some v.1 else offered unchosen y) (filled y ≡ env y) (λ shapes. Contains shapes (filled y)) →
              MatchOption (offered unchosen y) (filled y ≡ (if b then filled v.0 else env y)) (λ shapes. Contains shapes (filled y))
          go y true p k = let e : v.0 ≡ y = same_var_is v.0 y p in subst (λ r. MatchOption r (filled y ≡ filled v.0) (λ shapes. Contains shapes (filled y))) (sym once.0 ∙ ap (offered unchosen) e) (ap filled (sym e))
          go y false p k = k

  -- variables that are listed once are offered once
  not_offered : (choices : SortId → List Shape) (vars : List Var) (x : Var) → listed vars x ≡ false → offered (unchosen_of choices vars) x ≡ None
  not_offered choices [] x h = refl
  not_offered choices (y ∷ vars) x h =
      let both = or_parts (same_var y x) (listed vars x) h in
      ap (λ b. if b then Some (choices y.sort) else offered (unchosen_of choices vars) x) both.0 ∙ not_offered choices vars x both.1

  once_offered : (choices : SortId → List Shape) (vars : List Var) → Distinct vars → AreOnce (unchosen_of choices vars)
  once_offered choices [] h = tt
  once_offered choices (x ∷ vars) h = (not_offered choices vars x h.0, once_offered choices vars h.1)

  -- the choices of a search
  pub offers_of : IsGood d → IsCompleted d → (made : Sought) (vars : List Var) (unchosen : List (Var × List Shape)) → Distinct vars → unchosen ≡ unchosen_of (choices_for d made) vars → Offers d unchosen
  offers_of good completed made vars unchosen distinct e = record {
    allowed = λ v c.
        let w = map_contains (λ (x : Var). (x, choices_for d made x.sort)) vars v (subst (λ l. Contains l v) e c) in
        subst (λ (z : Var × List Shape). (o : Shape) → Contains z.1 o → IsAllowed d z.0 o) w.1.1 (choices_allowed good completed made w.0);
    once = subst AreOnce (sym e) (once_offered (choices_for d made) vars distinct);
  }

  pub offers_drop : (unchosen : List (Var × List Shape)) (n : ℕ) → Offers d unchosen → Offers d (drop n unchosen)
  offers_drop unchosen zero h = h
  offers_drop [] (suc n) h = h
  offers_drop (u ∷ unchosen) (suc n) h = offers_drop unchosen n (offers_later u unchosen h)

-- variables that are listed in turn, each once
pub fold_distinct : (xs vars : List Var) → Distinct vars → Distinct (fold with_variable vars xs)
fold_distinct [] vars h = h
fold_distinct (x ∷ xs) vars h = fold_distinct xs (with_variable vars x) (with_variable_distinct vars x h)
