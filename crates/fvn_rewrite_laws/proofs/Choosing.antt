-- Choices of shapes, and the substitutions that make them.
use Rattle.std.proofs.Common.{◌≡◌, ◌<◌, ◌≤◌, Bool, true, false, List, [], ◌∷◌, map, length, refl, sym, ap, ◌∙◌, subst, inl, inr}
use Rattle.std.specs.Prelude.{if◌then◌else◌, nat_lt, filter}
use Rattle.std.specs.List.{Contains}
use Rattle.std.proofs.lemmas.Bool.{cases_lt, le-ltb}
use Rattle.std.proofs.lemmas.List.{get_or_past}
use Rattle.std.proofs.lemmas.List.Elements.{All-contains, Contains-append_left, Contains-append_right, Contains-append_cases}
use Rattle.fvn_base.proofs.Membership.{contains_here, contains_cases, contains_none, filter_contains, contains_filter, contains_map, map_contains}
use Rattle.fvn_terms.specs.declared.plain.Var.{Var}
use Rattle.fvn_terms.specs.declared.plain.OpId.{OpId}
use Rattle.fvn_terms.specs.declared.plain.SortId.{SortId}
use Rattle.fvn_terms.specs.declared.declarations.Declarations.{Declarations}
use Rattle.fvn_terms.specs.Term.{Term, Terms, var, app, none, more}
use Rattle.fvn_terms.specs.Substitution.{Substitution, apply, Occurs, OccursAmong}
use Rattle.fvn_terms.specs.Signature.{kind, IsSort, AtOrBelow, same, up, to_kind, HasKind, HaveKinds, KeepsKinds}
use Rattle.fvn_terms.specs.Places.{stop}
use Rattle.fvn_terms.specs.Equality.{constant}
use Rattle.fvn_terms.specs.Sorts.{HasSort, IsWellSorted}
use Rattle.fvn_forms.specs.Flat.{FlatTerm, fvar, fapp, fnone, fmore}
use Rattle.fvn_forms.specs.SortOrder.{at_or_below}
use Rattle.fvn_forms.specs.Canon.{canon}
use Rattle.fvn_forms.specs.Ranks.{result}
use Rattle.fvn_forms.specs.Good.{IsGood}
use Rattle.fvn_forms.specs.LeastSort.{least_sort}
use Rattle.fvn_forms.proofs.SortOrder.{AtOrBelow-one_kind, AtOrBelow-from_same, kind_is_greatest}
use Rattle.fvn_forms.proofs.SortTests.{at_or_below-true, at_or_below-complete}
use Rattle.fvn_forms.proofs.LeastSort.{least_sort_exact}
use Rattle.fvn_signature.specs.FirstSorts.{first_sorts}
use Rattle.fvn_signature.proofs.FirstSorts.{contains_first_sorts}
use Rattle.fvn_signature.specs.Queries.{IsCompleted}
use Rattle.fvn_flat.specs.Rules.{IsIdentity}
use Rattle.fvn_rewrite_laws.specs.declared.shapes.Root.{Root}
use Rattle.fvn_rewrite_laws.specs.declared.shapes.Root.TheVariants.{Variable, Constant, Compound}
use Rattle.fvn_rewrite_laws.specs.declared.shapes.Shape.{Shape}
use Rattle.fvn_rewrite_laws.specs.Shapes.{shape_of, shape_in}
use Rattle.fvn_rewrite_laws.specs.Identities.{is_listed_op, identities}
use Rattle.fvn_rewrite_laws.specs.Choices.{variable_shape, identity_shape, identities_below, sorts_below, sort_choices, IsChoice}
use Rattle.fvn_rewrite_laws.proofs.Identities.{op_listed, listed_identity, identity_kind}
use Rattle.fvn_rewrite_laws.proofs.Shaping.{shape_exact}
use Rattle.fvn_rewrite_laws.proofs.Trimming.{trimmed, shape_agrees}
use Rattle.fvn_rewrite_laws.proofs.Listing.{occurs_test, occurs_if, test_if}

module _ (d : Declarations) where
  -- variables of well-kinded terms have sorts of the signature
  mutual
    pub occurring_sort : (x : Var) (t : Term) (k : SortId) → HasKind d t k → Occurs x t → IsSort d x.sort
    occurring_sort x (var y) k h e = subst (λ (z : Var). IsSort d z.sort) (sym e) h.0
    occurring_sort x (app f ts) k h o = occurring_sorts x ts _ h.args o

    occurring_sorts : (x : Var) (ts : Terms) (ks : List SortId) → HaveKinds d ts ks → OccursAmong x ts → IsSort d x.sort
    occurring_sorts x none ks h o = absurd o
    occurring_sorts x (more t ts) [] h o = absurd h
    occurring_sorts x (more t ts) (k ∷ ks) h (inl o) = occurring_sort x t k h.0 o
    occurring_sorts x (more t ts) (k ∷ ks) h (inr o) = occurring_sorts x ts ks h.1 o

  module _ (good : IsGood d) (completed : IsCompleted d) where
    -- what is at or below a sort is a sort
    sort_by_kind : (s : SortId) → IsSort d (kind d s) → IsSort d s
    sort_by_kind s h = elim (cases_lt s.0 (length d.kinds)) as (λ _. IsSort d s) [
      | inl l ↦ l
      | inr m ↦ subst (IsSort d) (get_or_past d.kinds s.0 s m) h
    ]

    below_is_sort : {q s : SortId} → AtOrBelow d q s → IsSort d s → IsSort d q
    below_is_sort same h = h
    below_is_sort (up {s = q} {q = r} c a) h = completed.sort_listed q (All-contains (λ p. (p.0.0 < d.sorts) × (p.1.0 < d.sorts)) d.below (q, r) completed.in_range c).0
    below_is_sort (to_kind {s = q} a) h = sort_by_kind q (below_is_sort a h)

    -- the sorts at or below a sort are listed, and no others
    pub below_listed : (q s : SortId) → IsSort d s → AtOrBelow d q s → Contains (sorts_below d s) q
    below_listed q s h a = elim (cases_lt q.0 d.sorts) as (λ _. Contains (sorts_below d s) q) [
      | inl l ↦
          Contains-append_left (filter (λ q. at_or_below d q s) (first_sorts d.sorts)) (if nat_lt s.0 d.sorts then [] else s ∷ []) q
          (contains_filter (λ q. at_or_below d q s) (first_sorts d.sorts) q (contains_first_sorts d.sorts q l) (at_or_below-complete d a))
      | inr m ↦ high m
    ]
      where
        high : d.sorts ≤ q.0 → Contains (sorts_below d s) q
        high m =
            let w = completed.sort_of_kind q (record { after_sorts = m; listed = below_is_sort a h }) in
            let is : q ≡ s = sym w.1.1 ∙ kind_is_greatest d good.kinded w.0 s (subst (λ z. AtOrBelow d z s) (sym w.1.1) a) in
            let no : nat_lt s.0 d.sorts ≡ false = le-ltb s.0 d.sorts (subst (λ (z : SortId). d.sorts ≤ z.0) is m) in
            Contains-append_right (filter (λ q. at_or_below d q s) (first_sorts d.sorts)) (if nat_lt s.0 d.sorts then [] else s ∷ []) q
            (subst (λ (b : Bool). Contains (if b then [] else s ∷ []) q) (sym no) (subst (Contains (s ∷ [])) (sym is) (contains_here s [])))

    pub listed_below : (q s : SortId) → Contains (sorts_below d s) q → AtOrBelow d q s
    listed_below q s c = elim (Contains-append_cases (filter (λ q. at_or_below d q s) (first_sorts d.sorts)) (if nat_lt s.0 d.sorts then [] else s ∷ []) q c) as (λ _. AtOrBelow d q s) [
      | inl i ↦ at_or_below-true d q s (filter_contains (λ q. at_or_below d q s) (first_sorts d.sorts) q i).1
      | inr i ↦ itself (nat_lt s.0 d.sorts) i
    ]
      where
        itself : (b : Bool) → Contains (if b then [] else s ∷ []) q → AtOrBelow d q s
        itself true i = absurd (contains_none q i)
        itself false i = elim (contains_cases s [] q i) as (λ _. AtOrBelow d q s) [ inl e ↦ AtOrBelow-from_same d (sym e) | inr j ↦ absurd (contains_none q j) ]

    pub identity_below : (e : OpId) (s : SortId) → Contains (identities_below d s) e → IsIdentity d e × AtOrBelow d (result d e []) s
    identity_below e s c =
        let w = filter_contains (λ e. at_or_below d (result d e []) s) (identities d) e c in
        (listed_identity d e w.0, at_or_below-true d (result d e []) s w.1)

    pub below_identity : (e : OpId) (s : SortId) → Contains (identities d) e → AtOrBelow d (result d e []) s → Contains (identities_below d s) e
    below_identity e s c a = contains_filter (λ e. at_or_below d (result d e []) s) (identities d) e c (at_or_below-complete d a)

    -- a trimmed shape of a term of the sort is a choice
    pub trimmed_choice : (t : FlatTerm) (s : SortId) → IsSort d s → AtOrBelow d (least_sort d t) s → Contains (sort_choices d s) (trimmed d (shape_of d t))
    trimmed_choice t s h a = go t a
      where
        variable : (q : SortId) → AtOrBelow d q s → Contains (sort_choices d s) (variable_shape q)
        variable q b = Contains-append_left (map variable_shape (sorts_below d s)) (map (identity_shape d) (identities_below d s)) (variable_shape q) (contains_map variable_shape (sorts_below d s) q (below_listed q s h b))

        identity : (e : OpId) → is_listed_op (identities d) e ≡ true → AtOrBelow d (result d e []) s → Contains (sort_choices d s) (identity_shape d e)
        identity e p b =
            Contains-append_right (map variable_shape (sorts_below d s)) (map (identity_shape d) (identities_below d s)) (identity_shape d e)
            (contains_map (identity_shape d) (identities_below d s) e (below_identity e s (op_listed (identities d) e p) b))

        at : (e : OpId) → AtOrBelow d (result d e []) s → (b : Bool) → is_listed_op (identities d) e ≡ b → Contains (sort_choices d s) (record { root = if b then Constant e else Variable; sort = result d e [] })
        at e b true p = identity e p b
        at e b false p = variable (result d e []) b

        go : (t : FlatTerm) → AtOrBelow d (least_sort d t) s → Contains (sort_choices d s) (trimmed d (shape_of d t))
        go (fvar x) b = variable x.sort b
        go (fapp g true ts) b = variable (least_sort d (fapp g true ts)) b
        go (fapp g false fnone) b = at g b (is_listed_op (identities d) g) refl
        go (fapp g false (fmore u us)) b = variable (least_sort d (fapp g false (fmore u us))) b

    -- a term of this shape for a variable
    abbrev pub made : Root → SortId → Var → Term
    made Variable s x = var (record { name = x.name; sort = s; fresh = x.fresh })
    made (Constant e) s x = constant e
    made Compound s x = var x

    -- what the term is to the variable
    pub record IsMade (x : Var) (shape : Shape) (t : Term) : Type 0 where
      pub of_kind : HasKind d t (kind d x.sort)
      pub of_sort : HasSort d t x.sort
      pub of_shape : shape_of d (canon d t) ≡ shape

    pub made_variable : (x : Var) (q : SortId) → IsSort d x.sort → AtOrBelow d q x.sort → IsMade x (variable_shape q) (made Variable q x)
    made_variable x q h a = record {
      of_kind = (below_is_sort a h, AtOrBelow-one_kind d good.kinded a);
      of_sort = record { form = made Variable q x; equal = stop; gets = record { sort = q; gets = refl; below = a } };
      of_shape = refl;
    }

    pub made_identity : (x : Var) (e : OpId) → IsIdentity d e → AtOrBelow d (result d e []) x.sort → IsMade x (identity_shape d e) (constant e)
    made_identity x e w a =
        let k = identity_kind d good completed e w in record {
          of_kind = subst (HasKind d (constant e)) (AtOrBelow-one_kind d good.kinded a) k;
          of_sort = (least_sort_exact d good (constant e) (kind d (result d e []), k) x.sort).1 a;
          of_shape = refl;
        }

    pub made_shape : (x : Var) (o shape : Shape) → o ≡ shape → IsMade x o (made o.root o.sort x) → IsMade x shape (made shape.root shape.sort x)
    made_shape x o shape e h = subst (λ (z : Shape). IsMade x z (made z.root z.sort x)) e h

    pub made_choice : (x : Var) (shape : Shape) → IsSort d x.sort → Contains (sort_choices d x.sort) shape → IsMade x shape (made shape.root shape.sort x)
    made_choice x shape h c = elim (Contains-append_cases (map variable_shape (sorts_below d x.sort)) (map (identity_shape d) (identities_below d x.sort)) shape c) as (λ _. IsMade x shape (made shape.root shape.sort x)) [
      | inl i ↦ let w = map_contains variable_shape (sorts_below d x.sort) shape i in made_shape x (variable_shape w.0) shape w.1.1 (made_variable x w.0 h (listed_below w.0 x.sort w.1.0))
      | inr i ↦ identity_case i
    ]
      where
        identity_case : Contains (map (identity_shape d) (identities_below d x.sort)) shape → IsMade x shape (made shape.root shape.sort x)
        identity_case i =
            let w = map_contains (identity_shape d) (identities_below d x.sort) shape i in
            let p = identity_below w.0 x.sort w.1.0 in
            made_shape x (identity_shape d w.0) shape w.1.1 (made_identity x w.0 p.0 p.1)

    -- the substitution that makes a choice for the variables of a term
    module _ (t : Term) (env : Var → Shape) where
      abbrev pub made_if : Var → Bool → Term
      made_if x true = made (env x).root (env x).sort x
      made_if x false = var x

      abbrev pub choosing : Substitution
      choosing x = made_if x (occurs_test x t)

      made_stays : (x : Var) → HasSort d (var x) x.sort
      made_stays x = record { form = var x; equal = stop; gets = record { sort = x.sort; gets = refl; below = same } }

      module _ (each : (x : Var) → Occurs x t → IsMade x (env x) (made (env x).root (env x).sort x)) where
        pub choosing_keeps : KeepsKinds d choosing
        choosing_keeps x i = go (occurs_test x t) refl where
          go : (b : Bool) → occurs_test x t ≡ b → HasKind d (made_if x b) (kind d x.sort)
          go true p = (each x (occurs_if x t p)).of_kind
          go false p = (i, refl)

        pub choosing_sorted : IsWellSorted d choosing
        choosing_sorted = (choosing_keeps, λ x. go x (occurs_test x t) refl) where
          go : (x : Var) (b : Bool) → occurs_test x t ≡ b → HasSort d (made_if x b) x.sort
          go x true p = (each x (occurs_if x t p)).of_sort
          go x false p = made_stays x

        choosing_at : (x : Var) → Occurs x t → shape_of d (canon d (choosing x)) ≡ env x
        choosing_at x o = ap (λ b. shape_of d (canon d (made_if x b))) (test_if x t o) ∙ (each x o).of_shape

        -- an instance by it has the shape that the choice gives
        pub choosing_shape : (u : Term) (k : SortId) → HasKind d u k → ((x : Var) → Occurs x u → Occurs x t) → shape_of d (canon d (apply choosing u)) ≡ shape_in d env u
        choosing_shape u k h within = shape_exact d good choosing choosing_keeps u k h ∙ shape_agrees d (λ x. shape_of d (canon d (choosing x))) env u (λ x o. choosing_at x (within x o))

    -- choices of sorts and identities are made
    pub each_sort_choice : (t : Term) (k : SortId) → HasKind d t k → (env : Var → Shape) → IsChoice (sort_choices d) t env → (x : Var) → Occurs x t → IsMade x (env x) (made (env x).root (env x).sort x)
    each_sort_choice t k h env choice x o = made_choice x (env x) (occurring_sort x t k h o) (choice x o)
