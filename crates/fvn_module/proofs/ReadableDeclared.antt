-- An operator that is declared without arguments is a constant of a statement.
use Rattle.std.proofs.Common.{◌≡◌, ℕ, ◌<◌, ◌⊎◌, inl, inr, Bool, true, false, List, [], ◌∷◌, ◌++◌, map, length, slice_get, Option, Some, None, refl, sym, ap, subst, ◌∙◌, arith}
use Rattle.std.specs.List.{Contains, list_any}
use Rattle.std.proofs.lemmas.Bool.{eqb-true}
use Rattle.std.proofs.lemmas.List.{length-map}
use Rattle.std.proofs.lemmas.List.FromFn.{get_or-map-range_with_len}
use Rattle.std.proofs.lemmas.List.Elements.{Contains-push_cases}
use Rattle.std.proofs.lemmas.Option.{slice_get_within}
use Rattle.fvn_base.proofs.Membership.{contains_here, contains_later, contains_none, filter_contains}
use Rattle.fvn_terms.specs.declared.plain.OpId.{OpId}
use Rattle.fvn_terms.specs.declared.declarations.Rank.{Rank}
use Rattle.fvn_terms.specs.Signature.{declared, unknown}
use Rattle.fvn_signature_draft.specs.declared.collected.Declaration.{Declaration}
use Rattle.fvn_signature_draft.specs.declared.collected.Collected.{Collected}
use Rattle.fvn_signature_draft.specs.Collected.{op_number, same_op, declarations_of, meant_or_kind, rank_meant, operator_meant, completed}
use Rattle.fvn_syntax.specs.Pieces.{Text}
use Rattle.fvn_syntax.specs.Texts.{place, or_end, place_or_end}
use Rattle.fvn_syntax.specs.Names.{first_args, arity_of}
use Rattle.fvn_syntax.specs.declared.sorts.RawSort.{RawSort}
use Rattle.fvn_module_syntax.specs.declared.statement.RawRank.{RawRank}
use Rattle.fvn_module_syntax.specs.declared.statement.Attribute.{Attribute}
use Rattle.fvn_module_syntax.specs.declared.statement.Statement.{Statement}
use Rattle.fvn_module_syntax.specs.declared.statement.Statement.TheVariants.{Sorts, Subsorts, Operator, Operators, Variables, Equation}
use Rattle.fvn_module_names.specs.Names.{joined, name_text, operators_in, without_arguments, constants_in, sorts_of, operators_of, constants_of}
use Rattle.fvn_module_names.specs.Order.{with_new, with_all}
use Rattle.fvn_module_declarations.specs.Operators.{same_declaration, op_number as op_named, rank_number, declaration_of, with_declarations, with_statement, with_statements, declarations_in}
use Rattle.fvn_module_declarations.specs.Module.{collected_in}
use Rattle.fvn_module.proofs.ReadableLists.{place-some, place-none, with_names-has}

-- What was collected.

no-length : {A : Type 0} (xs : List A) → length xs ≡ 0 → xs ≡ []
no-length [] h = refl
no-length (x ∷ xs) h = absurd (omega (arith, h))

-- each of the first operators has what its declarations mean
declared-is : (c : Collected) (f : OpId) → f.0 < c.operators → declared (completed c) f ≡ operator_meant c (declarations_of c f)
declared-is c f l = get_or-map-range_with_len (λ n. operator_meant c (declarations_of c (op_number n))) 0 c.operators f.0 f.0 unknown l (omega arith)

-- the first of some declarations takes no arguments
first-constant : (c : Collected) (es : List Declaration) (r : Rank) → Contains (map (rank_meant c) es) r →
    length (first_args (map (rank_meant c) es)) ≡ 0 → (e : Declaration) × (Contains es e × (e.rank.args ≡ []))
first-constant c [] r h n = absurd (contains_none r h)
first-constant c (e ∷ es) r h n =
    (e, (contains_here e es, no-length e.rank.args (sym (length-map e.rank.args (meant_or_kind c e.partial)) ∙ n)))

-- an operator of no arguments has a declaration without arguments
pub constant-declaration : (c : Collected) (f : OpId) → f.0 < c.operators → (r : Rank) → Contains (declared (completed c) f).ranks r →
    arity_of (completed c) f ≡ 0 → (e : Declaration) × (Contains c.declarations e × ((e.op ≡ f) × (e.rank.args ≡ [])))
constant-declaration c f l r h n =
    let is = declared-is c f l in
    let listed : Contains (map (rank_meant c) (declarations_of c f)) r = subst (λ o. Contains o.ranks r) is h in
    let none : length (first_args (map (rank_meant c) (declarations_of c f))) ≡ 0 = subst (λ o. length (first_args o.ranks) ≡ 0) is n in
    let e = first-constant c (declarations_of c f) r listed none in
    let w = filter_contains (λ d. same_op d.op f) c.declarations e.0 e.1.0 in
    (e.0, (w.0, (ap op_number (eqb-true e.0.op.0 f.0 w.1), e.1.1)))

-- What statements declare.

with_new-cases : {A : Type 0} (same : A → A → Bool) (xs : List A) (x y : A) → Contains (with_new same xs x) y → Contains xs y ⊎ (x ≡ y)
with_new-cases same xs x y h = go (list_any (same x) xs) refl where
  go : (b : Bool) → list_any (same x) xs ≡ b → Contains xs y ⊎ (x ≡ y)
  go true e = inl (rw e at h)
  go false e = let k : Contains (xs ++ (x ∷ [])) y = rw e at h in Contains-push_cases xs x y k

with_all-cases : {A : Type 0} (same : A → A → Bool) (xs ys : List A) (y : A) → Contains (with_all same xs ys) y → Contains xs y ⊎ Contains ys y
with_all-cases same xs [] y h = inl h
with_all-cases same xs (x ∷ ys) y h = elim (with_all-cases same (with_new same xs x) ys y h) [
  | inl i ↦ elim (with_new-cases same xs x y i) [
    | inl k ↦ inl k
    | inr e ↦ inr (subst (Contains (x ∷ ys)) e (contains_here x ys))
  ]
  | inr i ↦ inr (contains_later x ys y i)
]

module _ (sorts ops : List Text) where
  -- the declaration is that of this name in a statement
  record IsNamed (names constants : List Text) (e : Declaration) : Type 0 where
    name : Text
    listed : Contains names name
    op : e.op ≡ op_named sorts ops name
    constant : e.rank.args ≡ [] → Contains constants name

  without : (ss : List RawSort) (ws : List Text) (w : Text) → map (rank_number sorts ops) ss ≡ [] → Contains ws w → Contains (without_arguments ss ws) w
  without [] ws w e h = h
  without (s ∷ ss) ws w e h = absurd (let g = e in cc)

  with_declarations-cases : (before : List Declaration) (rank : RawRank) (xs : List Attribute) (ws : List Text) (e : Declaration) →
      Contains (with_declarations sorts ops before rank xs ws) e →
      Contains before e ⊎ IsNamed ws (without_arguments rank.args ws) e
  with_declarations-cases before rank xs ws e h = elim (go before ws h) [
    | inl i ↦ inl i
    | inr (w, c, o, r) ↦ inr (record { name = w; listed = c; op = o; constant = λ n. without rank.args ws w (sym r ∙ n) c })
  ] where
    Is : List Text → Type 0
    Is vs = (w : Text) × Contains vs w × (e.op ≡ op_named sorts ops w) × (e.rank.args ≡ map (rank_number sorts ops) rank.args)

    go : (ds : List Declaration) (vs : List Text) → Contains (with_declarations sorts ops ds rank xs vs) e → Contains ds e ⊎ Is vs
    go ds [] h = inl h
    go ds (v ∷ vs) h = elim (go (ds ++ (declaration_of sorts ops ds rank xs v ∷ [])) vs h) [
      | inl i ↦ elim (Contains-push_cases ds (declaration_of sorts ops ds rank xs v) e i) [
        | inl k ↦ inl k
        | inr is ↦ inr (v, contains_here v vs, ap (λ (d : Declaration). d.op) (sym is), ap (λ (d : Declaration). d.rank.args) (sym is))
      ]
      | inr (w, c, o, r) ↦ inr (w, contains_later v vs w c, o, r)
    ]

  with_statement-cases : (before : List Declaration) (st : Statement) (e : Declaration) → Contains (with_statement sorts ops before st) e →
      Contains before e ⊎ IsNamed (operators_in st) (constants_in st) e
  with_statement-cases before (Sorts plural names) e h = inl h
  with_statement-cases before (Subsorts plural groups) e h = inl h
  with_statement-cases before (Operator name rank xs) e h = with_declarations-cases before rank xs (joined name ∷ []) e h
  with_statement-cases before (Operators names rank xs) e h = with_declarations-cases before rank xs (map name_text names) e h
  with_statement-cases before (Variables plural names sort) e h = inl h
  with_statement-cases before (Equation label left right marks) e h = inl h

  -- a declaration is that of a name in one of the statements
  record IsDeclared (sts : List Statement) (e : Declaration) : Type 0 where
    statement : Statement
    listed : Contains sts statement
    named : IsNamed (operators_in statement) (constants_in statement) e

  with_statements-cases : (before : List Declaration) (sts : List Statement) (e : Declaration) → Contains (with_statements sorts ops before sts) e →
      Contains before e ⊎ IsDeclared sts e
  with_statements-cases before [] e h = inl h
  with_statements-cases before (st ∷ sts) e h = elim (with_statements-cases (with_statement sorts ops before st) sts e h) [
    | inl i ↦ elim (with_statement-cases before st e i) [
      | inl k ↦ inl k
      | inr n ↦ inr (record { statement = st; listed = contains_here st sts; named = n })
    ]
    | inr d ↦ inr (record { statement = d.statement; listed = contains_later st sts d.statement d.listed; named = d.named })
  ]

  declarations-named : (sts : List Statement) (e : Declaration) → Contains (declarations_in sorts ops sts) e → IsDeclared sts e
  declarations-named sts e h = elim (with_all-cases same_declaration [] (with_statements sorts ops [] sts) e h) [
    | inl i ↦ absurd (contains_none e i)
    | inr i ↦ elim (with_statements-cases [] sts e i) [
      | inl k ↦ absurd (contains_none e k)
      | inr d ↦ d
    ]
  ]

-- a listed name stands where its place is
at-place : (texts : List Text) (w : Text) → Contains texts w → slice_get texts (place_or_end texts w) ≡ Some w
at-place texts w h = go (place texts w) refl where
  go : (o : Option ℕ) → place texts w ≡ o → slice_get texts (or_end texts o) ≡ Some w
  go None e = absurd (place-none texts w e h)
  go (Some i) e = place-some texts w i e

-- The name of an operator that is declared without arguments is a constant of the statements.
pub constant-named : (sts : List Statement) (f : OpId) (w : Text) → slice_get (operators_of sts) f.0 ≡ Some w →
    (r : Rank) → Contains (declared (completed (collected_in sts)) f).ranks r → arity_of (completed (collected_in sts)) f ≡ 0 →
    Contains (constants_of sts) w
constant-named sts f w g r h n =
    let e = constant-declaration (collected_in sts) f (slice_get_within (operators_of sts) f.0 w g) r h n in
    let d = declarations-named (sorts_of sts) (operators_of sts) sts e.0 e.1.0 in
    let name = d.named.name in
    let op : f.0 ≡ place_or_end (operators_of sts) name = ap (λ (o : OpId). o.0) (sym e.1.1.0 ∙ d.named.op) in
    let there = at-place (operators_of sts) name (with_names-has operators_in [] sts d.statement name d.listed d.named.listed) in
    let same : slice_get (operators_of sts) f.0 ≡ Some name = ap (slice_get (operators_of sts)) op ∙ there in
    let is : name ≡ w = cc in
    subst (Contains (constants_of sts)) is (with_names-has constants_in [] sts d.statement name d.listed (d.named.constant e.1.1.1))
