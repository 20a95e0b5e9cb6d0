-- Renamings are turned round, so that what has one line is an instance of each other.
use Rattle.std.proofs.Common.{◌≡◌, inl, inr, ◌⊎◌, Bool, true, false, List, [], ◌∷◌, ◌++◌, refl, sym, ap, ◌∙◌, subst}
use Rattle.std.specs.Prelude.{Contains, ◌&&◌, if◌then◌else◌}
use Rattle.std.proofs.lemmas.Bool.{and_parts, and_from}
use Rattle.std.proofs.lemmas.List.Elements.{Contains-append_left, Contains-append_right, Contains-append_cases}
use Rattle.fvn_base.proofs.Membership.{contains_here, contains_later, contains_cases, contains_none}
use Rattle.fvn_terms.specs.declared.plain.Var.{Var}
use Rattle.fvn_terms.specs.declared.plain.SortId.{SortId}
use Rattle.fvn_terms.specs.declared.declarations.Declarations.{Declarations}
use Rattle.fvn_terms.specs.Term.{Term, var}
use Rattle.fvn_terms.specs.Substitution.{Substitution, apply, followed_by, Occurs, same_var}
use Rattle.fvn_terms.specs.Sorts.{IsWellSorted}
use Rattle.fvn_terms.specs.Equality.{BEqual}
use Rattle.fvn_terms.proofs.Equal.{BEqual-sym, BEqual-trans, BEqual-apply}
use Rattle.fvn_terms.proofs.Substitutions.{apply-apply, apply-var, apply-agree}
use Rattle.fvn_forms.specs.SortOrder.{same_sort}
use Rattle.fvn_forms.proofs.SortTests.{same_sort-true, same_sort-self}
use Rattle.fvn_flat.specs.Drawn.{OccursInValues, Renaming, renamed}
use Rattle.fvn_flat.specs.Problems.{variables}
use Rattle.fvn_flat.specs.Successors.{IsRenaming}
use Rattle.fvn_terms.proofs.Variables.{same_var_is, same_var_itself}
use Rattle.fvn_flat.proofs.VariableLists.{variables_list, variables_occur}
use Rattle.fvn_problems.specs.Laws.{BindingsAreSpelledOnce}
use Rattle.fvn_answer.specs.Laws.{EqualLinesAreInstances, EqualLinesCover}
use Rattle.fvn_answer.proofs.BoundLines.{renaming-sorted}
use Rattle.fvn_answer.proofs.OneReading.{one-substitution, one-variant}

-- the first of these variables that has the name w and its sort; else w itself
abbrev back : Renaming → List Var → Var → Var
back by [] w = w
back by (z ∷ zs) w = if same_var (by z) w && same_sort z.sort w.sort then z else back by zs w

back-sort : (by : Renaming) (zs : List Var) (w : Var) → (back by zs w).sort ≡ w.sort
back-sort by [] w = refl
back-sort by (z ∷ zs) w = go (same_var (by z) w && same_sort z.sort w.sort) refl (back-sort by zs w)
  where
    go : (b : Bool) → (same_var (by z) w && same_sort z.sort w.sort) ≡ b → (back by zs w).sort ≡ w.sort → (if b then z else back by zs w).sort ≡ w.sort
    go true e ih = same_sort-true z.sort w.sort (and_parts (same_var (by z) w) (same_sort z.sort w.sort) e).1
    go false e ih = ih

back-exact : (by : Renaming) (zs : List Var) (z : Var) → Contains zs z → (by z).sort ≡ z.sort → ((y : Var) → Contains zs y → by y ≡ by z → y ≡ z) → back by zs (by z) ≡ z
back-exact by [] z h s one = absurd (contains_none z h)
back-exact by (y ∷ zs) z h s one = go (same_var (by y) (by z) && same_sort y.sort (by z).sort) refl (λ k. back-exact by zs z k s (λ x i. one x (contains_later y zs x i)))
  where
    go : (b : Bool) → (same_var (by y) (by z) && same_sort y.sort (by z).sort) ≡ b → (Contains zs z → back by zs (by z) ≡ z) → (if b then y else back by zs (by z)) ≡ z
    go true e ih = one y (contains_here y zs) (same_var_is (by y) (by z) (and_parts (same_var (by y) (by z)) (same_sort y.sort (by z).sort) e).0)
    go false e ih = elim (contains_cases y zs z h) [
      | inl q ↦
          let same : (same_var (by z) (by z) && same_sort z.sort (by z).sort) ≡ true =
          and_from (same_var (by z) (by z)) (same_sort z.sort (by z).sort) (same_var_itself (by z)) (subst (λ (p : SortId). same_sort z.sort p ≡ true) (sym s) (same_sort-self z.sort)) in
          let n : true ≡ false = sym (subst (λ v. (same_var (by v) (by z) && same_sort v.sort (by z).sort) ≡ true) (sym q) same) ∙ e in
          cc
      | inr k ↦ ih k
    ]

module _ (d : Declarations) (AmongS AmongR : Var → Type 0) (by_s by_r : Renaming) (s_renames : IsRenaming AmongS by_s) (r_renames : IsRenaming AmongR by_r)
    (list : List Var) (listed : (z : Var) → AmongS z → Contains list z) (only : (z : Var) → Contains list z → AmongS z) where
  -- from the variables of r to those of s
  abbrev turned : Renaming
  turned y = if same_sort (by_r y).sort y.sort then back by_s list (by_r y) else y

  turned-sort : (y : Var) → (turned y).sort ≡ y.sort
  turned-sort y = go (same_sort (by_r y).sort y.sort) refl
    where
      go : (b : Bool) → same_sort (by_r y).sort y.sort ≡ b → (if b then back by_s list (by_r y) else y).sort ≡ y.sort
      go true e = back-sort by_s list (by_r y) ∙ same_sort-true (by_r y).sort y.sort e
      go false e = refl

  abbrev pub turning : Substitution
  turning y = var (turned y)

  pub turning-sorted : IsWellSorted d turning
  turning-sorted = renaming-sorted d turned turned-sort

  turned-among : (y : Var) → AmongR y → turned y ≡ back by_s list (by_r y)
  turned-among y h = ap (λ b. if b then back by_s list (by_r y) else y) (ap (λ (q : SortId). same_sort q y.sort) (r_renames.sorts y h) ∙ same_sort-self y.sort)

  abbrev to_s : Substitution
  to_s w = var (back by_s list w)

  itself : (t : Term) → ((z : Var) → Occurs z t → AmongS z) → renamed (back by_s list) (renamed by_s t) ≡ t
  itself t h =
      apply-apply (λ z. var (by_s z)) to_s t
      ∙ apply-agree (followed_by (λ z. var (by_s z)) to_s) var t
      (λ z o. ap var (back-exact by_s list z (listed z (h z o)) (s_renames.sorts z (h z o)) (λ y i e. s_renames.one_to_one y z (only y i) (h z o) e)))
      ∙ apply-var t

  other : (u : Term) → ((y : Var) → Occurs y u → AmongR y) → renamed (back by_s list) (renamed by_r u) ≡ apply turning u
  other u h =
      apply-apply (λ y. var (by_r y)) to_s u
      ∙ apply-agree (followed_by (λ y. var (by_r y)) to_s) turning u (λ y o. ap var (sym (turned-among y (h y o))))

  -- terms whose renamed ones are equal
  pub turned-equal : (t u : Term) → ((z : Var) → Occurs z t → AmongS z) → ((y : Var) → Occurs y u → AmongR y) → BEqual d (renamed by_s t) (renamed by_r u) → BEqual d t (apply turning u)
  turned-equal t u h k e =
      subst (λ v. BEqual d v (apply turning u)) (itself t h)
      (subst (BEqual d (renamed (back by_s list) (renamed by_s t))) (other u k)
      (BEqual-apply d to_s (renaming-sorted d (back by_s list) (back-sort by_s list)).0 e))

-- the variables of the values
abbrev variables_of_values : Substitution → List Var → List Var
variables_of_values s [] = []
variables_of_values s (x ∷ xs) = variables (s x) ++ variables_of_values s xs

values-listed : (s : Substitution) (xs : List Var) (z : Var) → OccursInValues xs s z → Contains (variables_of_values s xs) z
values-listed s [] z o = absurd (contains_none o.0 o.1)
values-listed s (x ∷ xs) z o = elim (contains_cases x xs o.0 o.1) [
  | inl e ↦ Contains-append_left (variables (s x)) (variables_of_values s xs) z (variables_list z (s x) (subst (λ v. Occurs z (s v)) (sym e) o.2))
  | inr k ↦ Contains-append_right (variables (s x)) (variables_of_values s xs) z (values-listed s xs z (o.0, k, o.2))
]

values-only : (s : Substitution) (xs : List Var) (z : Var) → Contains (variables_of_values s xs) z → OccursInValues xs s z
values-only s [] z h = absurd (contains_none z h)
values-only s (x ∷ xs) z h = elim (Contains-append_cases (variables (s x)) (variables_of_values s xs) z h) [
  | inl a ↦ (x, contains_here x xs, variables_occur z (s x) a)
  | inr b ↦ let o = values-only s xs z b in (o.0, contains_later x xs o.0 o.1, o.2)
]

pub equal-instances : BindingsAreSpelledOnce → EqualLinesAreInstances
equal-instances law d names texts vars line s r a b =
    let S : Var → Type 0 = OccursInValues vars s in
    let R : Var → Type 0 = OccursInValues vars r in
    let list = variables_of_values s vars in
    record {
      after = turning d S R a.by b.by a.renames.renames b.renames.renames list (values-listed s vars) (values-only s vars);
      well_sorted = turning-sorted d S R a.by b.by a.renames.renames b.renames.renames list (values-listed s vars) (values-only s vars);
      equal = λ x h. turned-equal d S R a.by b.by a.renames.renames b.renames.renames list (values-listed s vars) (values-only s vars) (s x) (r x)
          (λ z o. (x, h, o)) (λ z o. (x, h, o))
          (BEqual-trans d (BEqual-sym d (a.equal x h)) (subst (λ v. BEqual d v (renamed b.by (r x))) (sym (one-substitution law d names texts vars line a.denoted b.denoted a.denotes b.denotes x h)) (b.equal x h)));
    }

pub equal-cover : BindingsAreSpelledOnce → EqualLinesCover
equal-cover law d names texts vars line t u s r a b =
    let S : Var → Type 0 = λ z. Occurs z u ⊎ OccursInValues vars r z in
    let R : Var → Type 0 = λ z. Occurs z t ⊎ OccursInValues vars s z in
    let list = variables u ++ variables_of_values r vars in
    let listed : (z : Var) → Occurs z u ⊎ OccursInValues vars r z → Contains list z = λ z o. elim o [
      | inl e ↦ Contains-append_left (variables u) (variables_of_values r vars) z (variables_list z u e)
      | inr v ↦ Contains-append_right (variables u) (variables_of_values r vars) z (values-listed r vars z v)
    ] in
    let only : (z : Var) → Contains list z → Occurs z u ⊎ OccursInValues vars r z = λ z h. elim (Contains-append_cases (variables u) (variables_of_values r vars) z h) [
      | inl e ↦ inl (variables_occur z u e)
      | inr v ↦ inr (values-only r vars z v)
    ] in
    let same = one-variant law d names texts vars line a.denoted_term b.denoted_term a.denoted b.denoted a.denotes b.denotes in
    record {
      by = turning d S R b.by a.by b.renames.renames a.renames.renames list listed only;
      well_sorted = turning-sorted d S R b.by a.by b.renames.renames a.renames.renames list listed only;
      same_terms = (
        turned-equal d S R b.by a.by b.renames.renames a.renames.renames list listed only u t (λ z o. inl o) (λ z o. inl o)
            (BEqual-trans d (BEqual-sym d b.term_equal) (subst (λ v. BEqual d v (renamed a.by t)) same.0 a.term_equal)),
        tt,
      );
      same_values = λ x h. turned-equal d S R b.by a.by b.renames.renames a.renames.renames list listed only (r x) (s x)
          (λ z o. inr (x, h, o)) (λ z o. inr (x, h, o))
          (BEqual-trans d (BEqual-sym d (b.equal x h)) (subst (λ v. BEqual d v (renamed a.by (s x))) (same.1 x h) (a.equal x h)));
    }
