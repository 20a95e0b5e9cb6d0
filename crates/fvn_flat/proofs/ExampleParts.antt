-- Parts of the sum y ; a ; b, and its drawn successor by the equation X ; a = b at two of its summands.
use Rattle.std.proofs.Common.{◌≡◌, ℕ, true, List, [], ◌∷◌, length, Some, None, refl, sym, ap, ◌∙◌, subst, inl, inr, arith, lit<}
use Rattle.std.specs.Prelude.{Contains, ◌⊎◌}
use Rattle.fvn_terms.specs.declared.plain.Var.{Var}
use Rattle.fvn_terms.specs.declared.plain.OpId.{OpId}
use Rattle.fvn_terms.specs.Term.{Term, var}
use Rattle.fvn_terms.specs.Substitution.{apply, Occurs}
use Rattle.fvn_terms.specs.Places.{stop}
use Rattle.fvn_terms.specs.Equality.{BEqual}
use Rattle.fvn_terms.specs.Unifiers.{Problem, IsUnifier}
use Rattle.fvn_forms.specs.Flat.{FlatTerm, FlatTerms, fvar, fapp, fnone, fmore, plain}
use Rattle.fvn_forms.specs.Canon.{canon}
use Rattle.fvn_flat.specs.Forms.{args_of}
use Rattle.fvn_flat.specs.Problems.{variables_of}
use Rattle.fvn_flat.specs.Drawn.{OccursInValues}
use Rattle.fvn_flat.specs.FlatPlaces.{here, IsDivided, divided, taking, leaving, IsPartOf}
use Rattle.fvn_flat.specs.Successors.{IsDrawnUpToRenaming, IsStepFrom, IsDrawnSuccessor}
use Rattle.fvn_flat.proofs.Examples.{op}
use Rattle.fvn_flat.proofs.ExampleRules.{sets, x, form_a, form_b, equation, x_and_a, as_it_is}
use Rattle.fvn_flat.proofs.ExampleSuccessors.{
  y,
  w,
  vars,
  unifier,
  at,
  unifies_one,
  may_draw,
  same_names,
  keeps_names,
  named_alike,
  of_form,
  to_form,
  only_new,
  only_y,
  x_is_not_y,
  w_is_not_y,
  renamed_alike,
}

-- y ; a ; b
abbrev three : FlatTerm
three = fapp (op 0) true (fmore (fvar y) (fmore form_a (fmore form_b fnone)))

-- y ; a
abbrev y_and_a : FlatTerm
y_and_a = fapp (op 0) true (fmore (fvar y) (fmore form_a fnone))

-- y ; b
abbrev y_and_b : FlatTerm
y_and_b = fapp (op 0) true (fmore (fvar y) (fmore form_b fnone))

-- y ; a is a part of it, and b stands beside
first_two : IsPartOf three y_and_a (Some (op 0, form_b ∷ []))
first_two = record {
  all = fmore (fvar y) (fmore form_a (fmore form_b fnone));
  taken = fmore (fvar y) (fmore form_a fnone);
  is_sum = refl;
  part_is = refl;
  several = omega arith;
  divided_into = taking (taking (leaving divided));
}

-- so are y ; b, beside which a stands
outer_two : IsPartOf three y_and_b (Some (op 0, form_a ∷ []))
outer_two = record {
  all = fmore (fvar y) (fmore form_a (fmore form_b fnone));
  taken = fmore (fvar y) (fmore form_b fnone);
  is_sum = refl;
  part_is = refl;
  several = omega arith;
  divided_into = taking (leaving (taking divided));
}

-- a summand alone is no part of a sum: a variable, a constant, a sum of one
no_variable : (whole : FlatTerm) (f : OpId) (others : List FlatTerm) → IsPartOf whole (fvar y) (Some (f, others)) → ⊥
no_variable whole f others p = let clash : fvar y ≡ fapp f true p.taken = p.part_is in cc

no_constant : (whole : FlatTerm) (f : OpId) (others : List FlatTerm) → IsPartOf whole form_a (Some (f, others)) → ⊥
no_constant whole f others p = let clash : form_a ≡ fapp f true p.taken = p.part_is in cc

no_sum_of_one : (whole t : FlatTerm) (f : OpId) (others : List FlatTerm) → IsPartOf whole (fapp f true (fmore t fnone)) (Some (f, others)) → ⊥
no_sum_of_one whole t f others p =
    let one : 1 ≡ length (args_of (fapp f true p.taken)) = ap (λ u. length (args_of u)) p.part_is in
    let several = p.several in
    omega arith

-- a and b are two constants
abbrev number_of : FlatTerm → ℕ
number_of (fvar v) = 0
number_of (fapp f joined ts) = f.0

a_is_not_b : form_a ≡ form_b → ⊥
a_is_not_b e = let two_or_three = ap number_of e in omega arith

-- nothing is taken where nothing is left, nor what does not stand there
nothing_left : (t : FlatTerm) (taken others : List FlatTerm) → IsDivided [] (t ∷ taken) others → ⊥
nothing_left t taken others p = elim p [ ]

not_at_b : (t : FlatTerm) (taken others : List FlatTerm) → (t ≡ form_b → ⊥) → IsDivided (form_b ∷ []) (t ∷ taken) others → ⊥
not_at_b t taken others n (taking p) = n refl
not_at_b t taken others n (leaving {others = more} p) = nothing_left t taken more p

-- what stands beside y ; a is just b: no summand is forgotten, and none is taken twice
others_of : (others : List FlatTerm) → IsDivided (fvar y ∷ form_a ∷ form_b ∷ []) (fvar y ∷ form_a ∷ []) others → others ≡ form_b ∷ []
others_of others (taking (taking (leaving divided))) = refl
others_of others (taking (leaving {others = more} p)) = absurd (not_at_b form_a [] more a_is_not_b p)
others_of others (leaving (leaving {others = more} p)) = absurd (not_at_b (fvar y) (form_a ∷ []) more (λ e. cc) p)

just_b : (others : List FlatTerm) → IsPartOf three y_and_a (Some (op 0, others)) → others ≡ form_b ∷ []
just_b others p =
    others_of others (subst (λ l. IsDivided l (fvar y ∷ form_a ∷ []) others) (sym (ap args_of p.is_sum)) (subst (λ l. IsDivided (args_of (fapp (op 0) true p.all)) l others) (sym (ap args_of p.part_is)) p.divided_into))

not_all_of_it : IsPartOf three y_and_a None → ⊥
not_all_of_it e = let three_or_two = ap (λ u. length (args_of u)) e in omega arith

-- y ; a against the left side x ; a
abbrev problem : Problem
problem = (plain y_and_a, plain x_and_a) ∷ []

unifies : IsUnifier sets problem unifier
unifies = unifies_one (plain y_and_a) (plain x_and_a) stop

drawn : IsDrawnUpToRenaming sets may_draw problem unifier
drawn = record {
  before = same_names;
  after = same_names;
  draw = unifier;
  renames_problem = keeps_names _;
  renames_values = keeps_names _;
  is_drawn = unifies;
  equal = λ v c. named_alike (unifier v);
}

only_y_in_three : (v : Var) → Occurs v (plain three) → v ≡ y
only_y_in_three v o = elim o [
  | inl e ↦ e
  | inr r ↦ elim r [ inl ab ↦ elim ab [ inl n ↦ absurd n | inr m ↦ elim m [ inl n ↦ absurd n | inr n ↦ absurd n ] ] | inr n ↦ absurd n ]
]

-- a variable of the rule is x
only_x : (v : Var) → Occurs v (plain x_and_a) ⊎ Occurs v (plain form_b) → v ≡ x
only_x v o = elim o [
  | inl l ↦ elim l [ inl e ↦ e | inr r ↦ elim r [ inl n ↦ absurd n | inr n ↦ absurd n ] ]
  | inr n ↦ absurd n
]

-- b ; b
abbrev two_of_b : FlatTerm
two_of_b = fapp (op 0) true (fmore form_b (fmore form_b fnone))

-- with b in place of y ; a, beside b
step : IsStepFrom sets vars (equation ∷ []) may_draw (of_form three) (to_form two_of_b)
step = record {
  before = [];
  term = three;
  after = [];
  listed = refl;
  whole = three;
  at = y_and_a;
  beside = Some (op 0, form_b ∷ []);
  part = first_two;
  no_variable = λ v e. cc;
  l = x_and_a;
  r = form_b;
  rule = (equation, (0, lit< tt, refl), inl as_it_is);
  by = same_names;
  renames = keeps_names _;
  apart = λ v o p. x_is_not_y (sym (only_x v o) ∙ only_y three only_y_in_three v p);
  unifier = unifier;
  problem = problem;
  is_problem = refl;
  unifies = unifies;
  drawn_for = drawn;
  others_stay = at (λ v u. (Contains (variables_of problem) v → ⊥) → u ≡ var v) (λ n. absurd (n (1, lit< tt, refl))) (λ n. absurd (n (0, lit< tt, refl))) (λ v n. refl);
  new = λ v o p. w_is_not_y (sym (only_new v o) ∙ only_y three only_y_in_three v p);
  replaced = two_of_b;
  replaces = here;
  terms = refl;
  values = λ v c. stop;
}

-- from y ; a ; b, at y ; a, to b ; b
at_two_summands : IsDrawnSuccessor sets vars (equation ∷ []) may_draw (of_form three) (to_form two_of_b)
at_two_summands = record {
  from = of_form three;
  to = to_form two_of_b;
  renamed_before = renamed_alike (of_form three) refl;
  step = step;
  renamed_after = renamed_alike (to_form two_of_b) refl;
}
