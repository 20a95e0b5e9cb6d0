-- What a unifier makes of the terms with a right side put in is a step from the variant.
use Rattle.std.proofs.Common.{◌≡◌, ◌+◌, ℕ, true, false, List, [], ◌∷◌, ◌++◌, map, take, drop, None, Some, refl, sym, ap, ◌∙◌, subst, inl, inr, arith}
use Rattle.std.specs.Prelude.{◌⊎◌, Option, Contains}
use Rattle.std.proofs.lemmas.List.{map-append}
use Rattle.std.proofs.lemmas.List.Elements.{All-contains}
use Rattle.fvn_terms.specs.declared.plain.Var.{Var}
use Rattle.fvn_terms.specs.declared.declarations.Declarations.{Declarations}
use Rattle.fvn_terms.specs.Term.{var}
use Rattle.fvn_terms.specs.Signature.{kind, IsSort}
use Rattle.fvn_terms.specs.Substitution.{Substitution, apply, Occurs}
use Rattle.fvn_terms.specs.Equality.{BEqual}
use Rattle.fvn_terms.specs.Unifiers.{Problem, IsUnifier}
use Rattle.fvn_terms.proofs.Substitutions.{apply-var}
use Rattle.fvn_terms.proofs.Equal.{BEqual-refl, BEqual-sym}
use Rattle.fvn_forms.specs.Flat.{FlatTerm, fvar, plain}
use Rattle.fvn_forms.specs.Canon.{eval, canon, inst}
use Rattle.fvn_forms.specs.Settled.{Settled, SettledValues}
use Rattle.fvn_forms.specs.Good.{IsGood}
use Rattle.fvn_forms.proofs.Eval.{eval_apply, canon_plain}
use Rattle.fvn_forms.proofs.Instances.{eval_canon}
use Rattle.fvn_flat.specs.Bindings.{Bindings, bound, form_or, value}
use Rattle.fvn_flat.specs.Drawn.{OccursInValues}
use Rattle.fvn_flat.specs.FlatPlaces.{IsReplaced, with_beside}
use Rattle.fvn_flat.specs.Forms.{head_of}
use Rattle.fvn_flat.specs.Problems.{variables_of, plain_pairs, flat_pairs}
use Rattle.fvn_flat.specs.Solving.{substitution, Binds}
use Rattle.fvn_flat.specs.Successors.{Narrowed, IsRenaming, renamed_form, renamed_problem, IsDrawnUpToRenaming, IsStepFrom}
use Rattle.fvn_flat.proofs.Instances.{inst_equal}
use Rattle.fvn_cover.specs.declared.variant.Variant.{Variant}
use Rattle.fvn_rewrite.specs.Usable.{Rewriting, equations_by}
use Rattle.fvn_exploring.specs.Children.{narrowed}
use Rattle.fvn_places.specs.Paths.{LeadsTo}
use Rattle.fvn_places.specs.Putting.{IsPut}
use Rattle.fvn_narrow_children.specs.Starts.{IsNumberedUpTo}
use Rattle.fvn_places.proofs.Replacing.{split_at}
use Rattle.fvn_narrow.specs.inner.Turns.{Turn, put_in, IsReady, AreMembers}
use Rattle.fvn_narrow.proofs.Turning.{problem_at, IsFitTurn, IsGivenIn}

module _ (d : Declarations) where
  -- names that stay
  pub same_form : (t : FlatTerm) → Settled d t → renamed_form d (λ x. x) t ≡ t
  same_form t h = ap (canon d) (apply-var (plain t)) ∙ canon_plain d t h

  pub same_names : (Among : Var → Type 0) → IsRenaming Among (λ x. x)
  same_names Among = record { one_to_one = λ x y i j e. e; sorts = λ x i. refl }

  -- instances by flat values
  pub instance_is : (s : Bindings) → SettledValues d (value s) → (t : FlatTerm) → inst d (value s) t ≡ canon d (apply (substitution s) (plain t))
  instance_is s settled t = sym (eval_apply d fvar (substitution s) (plain t) ∙ (λ i. eval d (λ x. canon_plain d (value s x) (settled x) i) (plain t)))

-- what is not bound stays
pub unbound_stays : (problem : Problem) (s : Bindings) → Binds problem s → (x : Var) → (Contains (variables_of problem) x → ⊥) → substitution s x ≡ var x
unbound_stays problem s binds x none = go (bound s x) refl
  where
    go : (o : Option FlatTerm) → bound s x ≡ o → plain (form_or x (bound s x)) ≡ var x
    go None e = ap (λ o. plain (form_or x o)) e
    go (Some t) e = absurd (none ((binds x).1 (t, e)))

-- a variable of a rule is none of the numbered ones
pub old_is_not_new : (x : Var) (next : ℕ) → (x.fresh ≡ false) ⊎ (x.name ≡ 0) → IsNumberedUpTo next x → ⊥
old_is_not_new x next (inl f) n = let e : true ≡ false = sym n.fresh ∙ f in cc
old_is_not_new x next (inr z) n = let low = n.low in absurd (omega arith)

module _ (r : Rewriting) (good : IsGood r.signature) (drawn : Problem → Substitution → Type 0) (v : Variant) (next : ℕ) (ready : IsReady r v next) (at : FlatTerm) (turn : Turn) (t : IsFitTurn r v at turn) where
  abbrev d : Declarations
  d = r.signature

  abbrev left : FlatTerm
  left = turn.rule.left

  abbrev right : FlatTerm
  right = turn.rule.right

  module _ (members : List FlatTerm) (m : AreMembers d v.terms turn.member turn.path (put_in d turn) members) (s : Bindings) (u : IsGivenIn r drawn next (problem_at at left) s) where
    abbrev problem : Problem
    problem = problem_at at left

    abbrev renamed_left : Problem
    renamed_left = (plain at, plain (renamed_form d (λ x. x) left)) ∷ []

    problem_is : renamed_left ≡ problem
    problem_is = ap (λ l. (plain at, plain l) ∷ []) (same_form d left t.left_fits.flat)

    -- what is drawn for the problem is drawn for it up to a renaming
    drawn_for : IsDrawnUpToRenaming d drawn problem (substitution s)
    drawn_for = record {
      before = λ x. x;
      after = λ x. x;
      draw = substitution s;
      renames_problem = same_names d (Contains (variables_of problem));
      renames_values = same_names d (OccursInValues (variables_of (renamed_problem (λ x. x) problem)) (substitution s));
      is_drawn = subst (λ p. drawn p (substitution s)) (sym flat_again) u.is_drawn;
      equal = λ x c. subst (BEqual d (substitution s x)) (sym (apply-var (substitution s x))) (BEqual-refl d (substitution s x));
    }
      where
        flat_again : plain_pairs (flat_pairs d (renamed_problem (λ x. x) problem)) ≡ problem
        flat_again i = (plain (same_form d at t.at_fits.flat i), plain (same_form d left t.left_fits.flat i)) ∷ []

    abbrev pub successor : Narrowed
    successor = record { terms = map (inst d (value s)) members; values = λ x. plain (inst d (value s) (value v.subst x)) }

    pub is_put : IsPut d turn.path t.turn_is.whole m.term (put_in d turn) m.new
    is_put = m.put_there t.turn_is.whole (subst (λ w. LeadsTo turn.path w t.turn_is.whole) (one_item t.turn_is.term m.term (sym t.turn_is.is ∙ m.is)) t.turn_is.leads)
      where
        one_item : (a b : FlatTerm) → Some a ≡ Some b → a ≡ b
        one_item a b e = cc

    terms_are : map (inst d (value s)) members ≡ map (λ w. canon d (apply (substitution s) (plain w))) (take turn.member v.terms ++ is_put.replaced ∷ drop (turn.member + 1) v.terms)
    terms_are =
        let g = inst d (value s) in
        let h = λ (w : FlatTerm). canon d (apply (substitution s) (plain w)) in
        let before = take turn.member v.terms in
        let behind = drop (turn.member + 1) v.terms in
        let same : g ≡ h = λ i w. instance_is d s u.fits.settled w i in
        let one : g m.new ≡ h is_put.replaced = ap g is_put.is ∙ sym (eval_canon d (value s) u.fits.settled (plain is_put.replaced)) ∙ same_at is_put.replaced in
        ap (map g) m.all_are
        ∙ map-append g before (m.new ∷ behind)
        ∙ ap (λ w. map g before ++ w ∷ map g behind) one
        ∙ ap (λ k. map k before ++ h is_put.replaced ∷ map k behind) same
        ∙ sym (map-append h before (is_put.replaced ∷ behind))
      where
        same_at : (w : FlatTerm) → eval d (value s) (plain w) ≡ canon d (apply (substitution s) (plain w))
        same_at w = instance_is d s u.fits.settled w

    values_equal : (x : Var) → Contains v.vars x → BEqual d (plain (inst d (value s) (value v.subst x))) (apply (substitution s) (substitution v.subst x))
    values_equal x c = BEqual-sym d (inst_equal d (value s) good u.fits (value v.subst x) (kind d x.sort, ready.flat.values.keeps_kinds x (All-contains (λ (y : Var). IsSort d y.sort) v.vars x ready.flat.vars c)))

    pub step_from : IsStepFrom d v.vars (equations_by r) drawn (narrowed v) successor
    step_from = record {
      before = take turn.member v.terms;
      term = m.term;
      after = drop (turn.member + 1) v.terms;
      listed = split_at v.terms turn.member m.term m.is;
      whole = t.turn_is.whole;
      at = at;
      beside = turn.beside;
      part = t.turn_is.part;
      no_variable = λ x e. let q : None ≡ Some t.turn_is.operator = sym (ap head_of e) ∙ t.turn_is.heads in cc;
      l = left;
      r = right;
      rule = t.rule;
      by = λ x. x;
      renames = same_names d (λ x. Occurs x (plain left) ⊎ Occurs x (plain right));
      apart = λ x o i. old_is_not_new x next (t.old x o) (ready.numbers x i);
      unifier = substitution s;
      problem = renamed_left;
      is_problem = refl;
      unifies = subst (λ p. IsUnifier d p (substitution s)) (sym problem_is) u.unifies;
      drawn_for = subst (λ p. IsDrawnUpToRenaming d drawn p (substitution s)) (sym problem_is) drawn_for;
      others_stay = λ x n. unbound_stays problem s u.binds x (λ c. n (subst (λ p. Contains (variables_of p) x) (sym problem_is) c));
      new = λ x o i. new_is_new x (subst (λ p. OccursInValues (variables_of p) (substitution s) x) problem_is o) (ready.numbers x i);
      replaced = is_put.replaced;
      replaces = subst (λ w. IsReplaced t.turn_is.whole (with_beside d turn.beside w) m.term is_put.replaced) (sym (same_form d right t.right_fits.flat)) is_put.replaces;
      terms = terms_are;
      values = values_equal;
    }
      where
        new_is_new : (x : Var) → OccursInValues (variables_of problem) (substitution s) x → IsNumberedUpTo next x → ⊥
        new_is_new x o n = let k = u.numbered o.0 x o.1 o.2 in let low = k.1 in let high = n.high in absurd (omega arith)

    -- its unifier
    pub unifier_is : step_from.unifier ≡ substitution s
    unfolding step_from
    unifier_is = refl
