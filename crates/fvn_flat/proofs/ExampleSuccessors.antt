-- Drawn successors by the equation g(X) = X, for a solver that may draw any unifier; each at all of the form at a place.
use Rattle.std.proofs.Common.{◌≡◌, zero, suc, Bool, true, false, if◌then◌else◌, List, [], ◌∷◌, ◌++◌, map, drop, get_or, Option, Some, None, refl, sym, ap, ◌∙◌, subst, inl, inr, arith, lit<}
use Rattle.std.specs.Prelude.{Contains}
use Rattle.std.proofs.lemmas.List.Elements.{All-nil, All-cons}
use Rattle.fvn_terms.specs.declared.plain.Var.{Var}
use Rattle.fvn_terms.specs.Term.{Term, var}
use Rattle.fvn_terms.specs.Substitution.{Substitution, apply, Occurs, same_var}
use Rattle.fvn_terms.specs.Signature.{kind, same, IsSort, HasKind}
use Rattle.fvn_terms.specs.Places.{stop}
use Rattle.fvn_terms.specs.Equality.{BEqual}
use Rattle.fvn_terms.specs.Sorts.{HasSort}
use Rattle.fvn_terms.specs.Unifiers.{Problem, IsUnifier}
use Rattle.fvn_terms.specs.Theory.{Equations}
use Rattle.fvn_terms.proofs.Substitutions.{apply-var}
use Rattle.fvn_forms.specs.Flat.{FlatTerm, fvar, fapp, fnone, fmore, plain}
use Rattle.fvn_forms.specs.Canon.{canon}
use Rattle.fvn_flat.specs.Problems.{variables_of}
use Rattle.fvn_flat.specs.Drawn.{OccursInValues, Renaming, renamed}
use Rattle.fvn_flat.specs.FlatPlaces.{IsReplaced, here, inside, first, Beside, IsPartOf, with_beside}
use Rattle.fvn_flat.specs.Successors.{IsRenaming, Narrowed, renamed_form, IsDrawnUpToRenaming, OccursIn, IsRenamed, IsStepFrom, IsDrawnSuccessor}
use Rattle.fvn_flat.proofs.Binding.{same_var_is}
use Rattle.fvn_flat.proofs.Examples.{op, s, variable}
use Rattle.fvn_flat.proofs.ExampleRules.{sets, x}

abbrev pub y : Var
y = variable 1

-- a new variable
abbrev pub w : Var
w = record { name = 7; sort = s; fresh = true }

abbrev g : FlatTerm → FlatTerm
g t = fapp (op 4) false (fmore t fnone)

abbrev equations : Equations
equations = (plain (g (fvar x)), var x) ∷ []

abbrev pub vars : List Var
vars = y ∷ []

-- g(y) against the left side g(x)
abbrev problem : Problem
problem = (plain (g (fvar y)), plain (g (fvar x))) ∷ []

-- x and y go to the new variable
abbrev pub unifier : Substitution
unifier v = if same_var x v then var w else if same_var y v then var w else var v

-- what holds of x, of y and of every variable that stays holds of all
pub at : (P : Var → Term → Type 0) → P x (var w) → P y (var w) → ((v : Var) → P v (var v)) → (v : Var) → P v (unifier v)
at P px py stay v = go (same_var x v) refl (same_var y v) refl
  where
    go : (b : Bool) → same_var x v ≡ b → (c : Bool) → same_var y v ≡ c → P v (if b then var w else if c then var w else var v)
    go true e c f = subst (λ u. P u (var w)) (same_var_is x v e) px
    go false e true f = subst (λ u. P u (var w)) (same_var_is y v f) py
    go false e false f = stay v

itself_of_sort : (v : Var) → HasSort sets (var v) v.sort
itself_of_sort v = record { form = var v; equal = stop; gets = record { sort = v.sort; gets = refl; below = same } }

abbrev IsOne : Term × Term → Type 0
IsOne p = BEqual sets (apply unifier p.0) (apply unifier p.1)

-- one pair that it makes equal
pub unifies_one : (l r : Term) → BEqual sets (apply unifier l) (apply unifier r) → IsUnifier sets ((l, r) ∷ []) unifier
unifies_one l r e = (
  (
    at (λ v t. IsSort sets v.sort → HasKind sets t (kind sets v.sort)) (λ i. (lit< tt, refl)) (λ i. (lit< tt, refl)) (λ v i. (i, refl)),
    at (λ v t. HasSort sets t v.sort) (itself_of_sort w) (itself_of_sort w) itself_of_sort,
  ),
  All-cons IsOne (l, r) [] e (All-nil IsOne),
)

unifies : IsUnifier sets problem unifier
unifies = unifies_one (plain (g (fvar y))) (plain (g (fvar x))) stop

-- a solver that may draw any unifier
abbrev pub may_draw : Problem → Substitution → Type 0
may_draw = IsUnifier sets

abbrev pub same_names : Renaming
same_names v = v

pub keeps_names : (Among : Var → Type 0) → IsRenaming Among same_names
keeps_names Among = record { one_to_one = λ v u p q e. e; sorts = λ v h. refl }

pub named_alike : (t : Term) → BEqual sets t (renamed same_names t)
named_alike t = subst (BEqual sets t) (sym (apply-var t)) stop

drawn : IsDrawnUpToRenaming sets may_draw problem unifier
drawn = record {
  before = same_names;
  after = same_names;
  draw = unifier;
  renames_problem = keeps_names _;
  renames_values = keeps_names _;
  is_drawn = unifies;
  equal = λ v c. named_alike (unifier v);
}

-- the values of y and x are over the new variable
pub only_new : (v : Var) → OccursInValues (y ∷ x ∷ []) unifier v → v ≡ w
only_new v (u, (zero, l, e), o) = subst (λ q. Occurs v (unifier q)) (sym e) o
only_new v (u, (suc zero, l, e), o) = subst (λ q. Occurs v (unifier q)) (sym e) o
only_new v (u, (suc (suc k), l, e), o) = absurd (omega (arith, l))

-- a term under n times g, with y for what it came from
abbrev pub of_form : FlatTerm → Narrowed
of_form t = record { terms = t ∷ []; values = var }

abbrev pub to_form : FlatTerm → Narrowed
to_form t = record { terms = t ∷ []; values = unifier }

-- y alone occurs in what is narrowed
pub only_y : (t : FlatTerm) → ((v : Var) → Occurs v (plain t) → v ≡ y) → (v : Var) → OccursIn sets vars (of_form t) v → v ≡ y
only_y t h v (inl (zero, q, l, e, o)) = h v (subst (λ r. Occurs v (plain r)) (sym e) o)
only_y t h v (inl (suc k, q, l, e, o)) = absurd (omega (arith, l))
only_y t h v (inr (u, (zero, l, e), o)) = let is : v ≡ y = subst (λ q. Occurs v (var q)) (sym e) o in is
only_y t h v (inr (u, (suc k, l, e), o)) = absurd (omega (arith, l))

pub x_is_not_y : x ≡ y → ⊥
x_is_not_y e = let n = ap (λ v. v.name) e in omega arith

pub w_is_not_y : w ≡ y → ⊥
w_is_not_y e = let n = ap (λ v. v.name) e in omega arith

-- under a context that holds y alone, g(y) becomes the new variable
module _ (t after : FlatTerm) (only : (v : Var) → Occurs v (plain t) → v ≡ y) (replaces : IsReplaced (g (fvar y)) (fvar x) t after) where
  step : (t2 : FlatTerm) → t2 ∷ [] ≡ map (λ u. canon sets (apply unifier (plain u))) (after ∷ []) → IsStepFrom sets vars equations may_draw (of_form t) (to_form t2)
  step t2 terms = record {
    before = [];
    term = t;
    after = [];
    listed = refl;
    whole = g (fvar y);
    at = g (fvar y);
    beside = None;
    part = refl;
    no_variable = λ v e. cc;
    l = g (fvar x);
    r = fvar x;
    rule = ((plain (g (fvar x)), var x), (0, lit< tt, refl), inl (record { by = var; choice = λ v. inl refl; left = refl; right = refl }));
    by = same_names;
    renames = keeps_names _;
    apart = λ v o p. let is_y = only_y t only v p in elim o [ inl a ↦ elim a [ inl e ↦ x_is_not_y (sym e ∙ is_y) | inr n ↦ n ] | inr e ↦ x_is_not_y (sym e ∙ is_y) ];
    unifier = unifier;
    problem = problem;
    is_problem = refl;
    unifies = unifies;
    drawn_for = drawn;
    others_stay = at (λ v u. (Contains (variables_of problem) v → ⊥) → u ≡ var v) (λ n. absurd (n (1, lit< tt, refl))) (λ n. absurd (n (0, lit< tt, refl))) (λ v n. refl);
    new = λ v o p. let is_w = only_new v o in let is_y = only_y t only v p in w_is_not_y (sym is_w ∙ is_y);
    replaced = after;
    replaces = replaces;
    terms = terms;
    values = λ v c. stop;
  }

-- what keeps its names is renamed from itself
pub renamed_alike : (v : Narrowed) → v.terms ≡ map (renamed_form sets same_names) v.terms → IsRenamed sets vars v v
renamed_alike v e = record { by = same_names; renames = keeps_names _; terms = e; values = λ u c. named_alike (v.values u) }

-- from g(y) to w, y being w
at_the_top : IsDrawnSuccessor sets vars equations may_draw (of_form (g (fvar y))) (to_form (fvar w))
at_the_top = record {
  from = of_form (g (fvar y));
  to = to_form (fvar w);
  renamed_before = renamed_alike (of_form (g (fvar y))) refl;
  step = step (g (fvar y)) (fvar x) (λ v o. elim o [ inl e ↦ e | inr n ↦ absurd n ]) here (fvar w) refl;
  renamed_after = renamed_alike (to_form (fvar w)) refl;
}

-- from g(g(y)), at the inner place, to g(w)
inside_a_term : IsDrawnSuccessor sets vars equations may_draw (of_form (g (g (fvar y)))) (to_form (g (fvar w)))
inside_a_term = record {
  from = of_form (g (g (fvar y)));
  to = to_form (g (fvar w));
  renamed_before = renamed_alike (of_form (g (g (fvar y)))) refl;
  step = step (g (g (fvar y))) (g (fvar x)) (λ v o. elim o [ inl i ↦ elim i [ inl e ↦ e | inr n ↦ absurd n ] | inr n ↦ absurd n ]) (inside (first here)) (g (fvar w)) refl;
  renamed_after = renamed_alike (to_form (g (fvar w))) refl;
}

variable_at : (v : Var) (u q t : FlatTerm) → IsReplaced u q (fvar v) t → u ≡ fvar v
variable_at v u q t here = refl

-- no part of a variable is no variable
part_of_variable : (v : Var) (whole at : FlatTerm) (beside : Beside) → IsPartOf whole at beside → whole ≡ fvar v → at ≡ fvar v
part_of_variable v whole at None p e = sym p ∙ e
part_of_variable v whole at (Some sum) p e = let clash : fvar v ≡ fapp sum.0 true p.all = sym e ∙ p.is_sum in cc

nothing_left : (before : List FlatTerm) (t : FlatTerm) (after : List FlatTerm) → [] ≡ before ++ t ∷ after → ⊥
nothing_left [] t after e = cc
nothing_left (u ∷ before) t after e = cc

-- nothing comes from a variable
none_from_variable : (v : Var) (to : Narrowed) → IsStepFrom sets vars equations may_draw (of_form (fvar v)) to → ⊥
none_from_variable v to h = go h.before h.listed
  where
    go : (before : List FlatTerm) → fvar v ∷ [] ≡ before ++ h.term ∷ h.after → ⊥
    go [] e =
        let is : h.term ≡ fvar v = sym (ap (λ l. get_or l 0 (fvar v)) e) in
        let given : FlatTerm = with_beside sets h.beside (renamed_form sets h.by h.r) in
        let whole : h.whole ≡ fvar v = variable_at v h.whole given h.replaced (subst (λ t. IsReplaced h.whole given t h.replaced) is h.replaces) in
        h.no_variable v (part_of_variable v h.whole h.at h.beside h.part whole)
    go (t ∷ before) e = nothing_left before h.term h.after (ap (drop 1) e)
