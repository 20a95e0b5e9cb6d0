-- The name of a constant does not read as a variable.
use Rattle.std.proofs.Common.{◌≡◌, ℕ, ◌⊎◌, inl, inr, Bool, false, List, [], ◌∷◌, ◌++◌, Option, Some, None, refl, sym, subst, append_assoc}
use Rattle.std.specs.Prelude.{not}
use Rattle.std.specs.List.{Contains, list_any}
use Rattle.std.proofs.lemmas.Bool.{or_parts}
use Rattle.std.proofs.lemmas.List.{append-nil}
use Rattle.std.proofs.lemmas.List.Elements.{Contains-push_cases}
use Rattle.fvn_base.proofs.Membership.{contains_here, contains_later, contains_cases, contains_none}
use Rattle.fvn_terms.specs.declared.plain.SortId.{SortId}
use Rattle.fvn_syntax.specs.Pieces.{Text, is_colon_name}
use Rattle.fvn_syntax.specs.Texts.{place}
use Rattle.fvn_syntax.specs.Names.{sorted_name, resolve_sort, declared_sort}
use Rattle.fvn_syntax.specs.declared.names.Variables.{Variables}
use Rattle.fvn_syntax.specs.declared.names.Names.{Names}
use Rattle.fvn_module_syntax.specs.declared.statement.Statement.{Statement}
use Rattle.fvn_module_syntax.specs.declared.statement.Statement.TheVariants as statement
use Rattle.fvn_module_names.specs.Names.{constants_in, constants_of, with_texts}
use Rattle.fvn_module_names.specs.Variables.{unless_declared, with_variables, where_sorted, with_declared, with_all_declared, no_variables, variables_of}
use Rattle.fvn_module_names.specs.Faults.{is_none, is_missing, is_other, reads_as_variable, clashes, is_declared_otherwise, declares_twice, AreNamed}
use Rattle.fvn_module.specs.Readable.{IsConstantText}
use Rattle.fvn_module.proofs.ReadableLists.{place-none, none-place, with_texts-cases, with_names-push}

-- a test that no element passes
none-passes : (p : Text → Bool) (xs : List Text) (w : Text) → list_any p xs ≡ false → Contains xs w → p w ≡ false
none-passes p [] w h c = absurd (contains_none w c)
none-passes p (x ∷ xs) w h c = elim (contains_cases x xs w c) [
  | inl e ↦ subst (λ y. p y ≡ false) e (or_parts (p x) (list_any p xs) h).0
  | inr i ↦ none-passes p xs w (or_parts (p x) (list_any p xs) h).1 i
]

is-none : {A : Type 0} (o : Option A) → not (is_none o) ≡ false → o ≡ None
is-none None h = refl
is-none (Some a) h = absurd (let g = h in cc)

-- a name that is missing is not listed
missing : (texts : List Text) (w : Text) → not (is_missing texts w) ≡ false → Contains texts w → ⊥
missing texts w h = place-none texts w (is-none (place texts w) h)

unless_declared-cases : (xs : Variables) (w : Text) (s : SortId) (o : Option ℕ) (v : Text) →
    Contains (unless_declared xs w s o).texts v → Contains xs.texts v ⊎ (w ≡ v)
unless_declared-cases xs w s None v h = Contains-push_cases xs.texts w v h
unless_declared-cases xs w s (Some i) v h = inl h

-- with new variables, a name is one of before or one of these
with_variables-cases : (xs : Variables) (ws : List Text) (s : SortId) (v : Text) →
    Contains (with_variables xs ws s).texts v → Contains xs.texts v ⊎ Contains ws v
with_variables-cases xs [] s v h = inl h
with_variables-cases xs (w ∷ ws) s v h = elim (with_variables-cases (unless_declared xs w s (place xs.texts w)) ws s v h) [
  | inl i ↦ elim (unless_declared-cases xs w s (place xs.texts w) v i) [
    | inl k ↦ inl k
    | inr e ↦ inr (subst (Contains (w ∷ ws)) e (contains_here w ws))
  ]
  | inr i ↦ inr (contains_later w ws v i)
]

module _ (sorts ops : List Text) (kinds : List SortId) where
  -- behind these statements the name reads as no variable
  record IsApart (before : List Statement) (w : Text) : Type 0 where
    plain : reads_as_variable sorts ops kinds w ≡ false
    free : Contains (variables_of sorts kinds before).texts w → ⊥

  -- each constant of the statements does
  abbrev AreApart : List Statement → Type 0
  AreApart before = (w : Text) → Contains (constants_of before) w → IsApart before w

  variables-push : (xs : Variables) (before : List Statement) (st : Statement) →
      with_all_declared sorts kinds xs (before ++ (st ∷ [])) ≡ with_declared sorts kinds (with_all_declared sorts kinds xs before) st
  variables-push xs [] st = refl
  variables-push xs (s ∷ before) st = variables-push (with_declared sorts kinds xs s) before st

  -- what one more statement keeps, and what holds of its own constants
  record Keeps (before : List Statement) (st : Statement) : Type 0 where
    old : (w : Text) → Contains (constants_of before) w → Contains (with_declared sorts kinds (variables_of sorts kinds before) st).texts w →
        Contains (variables_of sorts kinds before).texts w
    plain : (w : Text) → Contains (constants_in st) w → reads_as_variable sorts ops kinds w ≡ false
    free : (w : Text) → Contains (constants_in st) w → Contains (with_declared sorts kinds (variables_of sorts kinds before) st).texts w → ⊥

  -- what no operator clashes with
  no-clash : (xs : Variables) (ws : List Text) → list_any (clashes sorts ops kinds xs) ws ≡ false → (w : Text) → Contains ws w →
      (reads_as_variable sorts ops kinds w ≡ false) × (Contains xs.texts w → ⊥)
  no-clash xs ws h w c =
      let e = or_parts (reads_as_variable sorts ops kinds w) (not (is_missing xs.texts w)) (none-passes (clashes sorts ops kinds xs) ws w h c) in
      (e.0, missing xs.texts w e.1)

  no-variable : (before : List Statement) (names : List Text) (o : Option SortId) →
      list_any (is_declared_otherwise sorts ops kinds (constants_of before) (variables_of sorts kinds before) o) names ≡ false →
      (w : Text) → Contains (constants_of before) w → Contains (where_sorted (variables_of sorts kinds before) names o).texts w →
      Contains (variables_of sorts kinds before).texts w
  no-variable before names None h w c k = k
  no-variable before names (Some s) h w c k = elim (with_variables-cases (variables_of sorts kinds before) names s w k) [
    | inl i ↦ i
    | inr i ↦
        let xs = variables_of sorts kinds before in
        let e = none-passes (is_declared_otherwise sorts ops kinds (constants_of before) xs (Some s)) names w h i in
        absurd (missing (constants_of before) w
        (or_parts (is_other (declared_sort xs.sorts (place xs.texts w)) (Some s)) (not (is_missing (constants_of before) w)) e).1 c)
  ]

  keeps : (before : List Statement) (st : Statement) → declares_twice sorts ops kinds before st ≡ false → Keeps before st
  keeps before (statement.Sorts plural names) h =
      record { old = λ w c k. k; plain = λ w c. absurd (contains_none w c); free = λ w c. absurd (contains_none w c) }
  keeps before (statement.Subsorts plural groups) h =
      record { old = λ w c k. k; plain = λ w c. absurd (contains_none w c); free = λ w c. absurd (contains_none w c) }
  keeps before (statement.Operator name rank xs) h =
      let new = no-clash (variables_of sorts kinds before) (constants_in (statement.Operator name rank xs)) h in
      record { old = λ w c k. k; plain = λ w c. (new w c).0; free = λ w c. (new w c).1 }
  keeps before (statement.Operators names rank xs) h =
      let new = no-clash (variables_of sorts kinds before) (constants_in (statement.Operators names rank xs)) h in
      record { old = λ w c k. k; plain = λ w c. (new w c).0; free = λ w c. (new w c).1 }
  keeps before (statement.Variables plural names sort) h =
      record { old = no-variable before names (resolve_sort sorts kinds sort) h; plain = λ w c. absurd (contains_none w c); free = λ w c. absurd (contains_none w c) }
  keeps before (statement.Equation label left right marks) h =
      record { old = λ w c k. k; plain = λ w c. absurd (contains_none w c); free = λ w c. absurd (contains_none w c) }

  one-more : (before : List Statement) (st : Statement) → Keeps before st → AreApart before → AreApart (before ++ (st ∷ []))
  one-more before st k r w c = elim (with_texts-cases (constants_of before) (constants_in st) w listed) [
    | inl i ↦ record { plain = (r w i).plain; free = λ v. (r w i).free (k.old w i (declared v)) }
    | inr i ↦ record { plain = k.plain w i; free = λ v. k.free w i (declared v) }
  ] where
    listed : Contains (with_texts (constants_of before) (constants_in st)) w
    listed = subst (λ ws. Contains ws w) (with_names-push constants_in [] before st) c

    declared : Contains (variables_of sorts kinds (before ++ (st ∷ []))).texts w →
        Contains (with_declared sorts kinds (variables_of sorts kinds before) st).texts w
    declared = subst (λ (xs : Variables). Contains xs.texts w) (variables-push no_variables before st)

  all-apart : (before sts : List Statement) → AreNamed sorts ops kinds before sts → AreApart before → AreApart (before ++ sts)
  all-apart before [] h r = subst AreApart (sym (append-nil before)) r
  all-apart before (st ∷ sts) h r =
      subst AreApart (append_assoc before (st ∷ []) sts)
      (all-apart (before ++ (st ∷ [])) sts h.2 (one-more before st (keeps before st h.1) r))

  -- Where no name is at fault, each constant reads as itself.
  pub constants-apart : (names : Names) (sts : List Statement) → names.sorts ≡ sorts → names.variables ≡ variables_of sorts kinds sts →
      AreNamed sorts ops kinds [] sts → (w : Text) → Contains (constants_of sts) w → IsConstantText names w
  constants-apart names sts e g h w c = record {
    no_kind = parts.0;
    no_sort = subst (λ ts. sorted_name ts w ≡ None) (sym e) (is-none (sorted_name sorts w) parts.1);
    no_variable = none-place names.variables.texts w (subst (λ (xs : Variables). Contains xs.texts w → ⊥) (sym g) apart.free);
  } where
    apart : IsApart sts w
    apart = all-apart [] sts h (λ v k. absurd (contains_none v k)) w c

    parts : (is_colon_name w ≡ false) × (not (is_none (sorted_name sorts w)) ≡ false)
    parts = or_parts (is_colon_name w) (not (is_none (sorted_name sorts w))) apart.plain
