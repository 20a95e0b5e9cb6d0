-- The variables that are written before arrows.
use Rattle.std.proofs.Common.{◌≡◌, ◌≢◌, ℕ, zero, suc, ◌+◌, ◌-◌, ◌<◌, ◌≤◌, inl, inr, Bool, true, false, List, [], ◌∷◌, ◌++◌, take, Option, Some, None, refl, sym, ap, ◌∙◌, subst, arith}
use Rattle.std.specs.Prelude.{◌&&◌, ◌||◌, cond, not, nat_eq, slice_get, Contains, AllPairs, IfSome, IfNone}
use Rattle.std.specs.List.{position_from, list_any}
use Rattle.std.specs.Str.{bytes_eq}
use Rattle.std.proofs.lemmas.Bool.{eqb-true, eq-eqb, cases_order}
use Rattle.std.proofs.lemmas.Option.{get_or_from_slice_get, slice_get_within}
use Rattle.std.proofs.lemmas.List.{take_more}
use Rattle.fvn_base.proofs.Membership.{contains_cases, contains_none}
use Rattle.fvn_lex.specs.Cut.{Piece}
use Rattle.fvn_terms.specs.declared.plain.Var.{Var}
use Rattle.fvn_terms.specs.declared.plain.SortId.{SortId}
use Rattle.fvn_terms.specs.declared.declarations.Declarations.{Declarations}
use Rattle.fvn_syntax.specs.declared.names.Names.{Names}
use Rattle.fvn_syntax.specs.Pieces.{Text}
use Rattle.fvn_syntax.specs.Texts.{place, unless_at, with_text}
use Rattle.fvn_syntax.proofs.PieceLemmas.{bytes_eq-refl, bytes_eq-is}
use Rattle.fvn_problems.specs.declared.problem.Problem.{Problem}
use Rattle.fvn_problems.specs.Scopes.{unguarded}
use Rattle.fvn_problems.specs.inner.Bound.{Writes, is_named, IsTheVariable, Finds}

abbrev pub named : Text → SortId → Text × SortId
named x s = (x, s)

module _ (d : Declarations) (names : Names) where
  -- the variable of the problem, where one is written
  pub finds : (p : Problem) (row : List Piece) (text : Text) (sort : SortId) (x : Var) → Writes (unguarded d names) row (Some (text, sort)) → IsTheVariable p text sort x →
      Finds (unguarded d names) p row (Some x)
  finds p row text sort x writes the t w alone e =
      record {
        text = text;
        stands = sym (writes t w alone e) ∙ ap (λ s. Some (text, s)) (sym the.sort_is);
        named = the.named;
        not_fresh = the.not_fresh;
        listed = the.listed;
      }

  pub finds-none : (p : Problem) (row : List Piece) (text : Text) (sort : SortId) → Writes (unguarded d names) row (Some (text, sort)) →
      ((x : Var) → IsTheVariable p text sort x → ⊥) → Finds (unguarded d names) p row None
  finds-none p row text sort writes n t w alone e x v =
      let same : named text sort ≡ named v.text x.sort = (let f : Some (named text sort) ≡ Some (named v.text x.sort) = writes t w alone e ∙ v.stands in cc) in
      n x (record { sort_is = sym (ap (λ q. q.1) same); named = v.named ∙ ap Some (sym (ap (λ q. q.0) same)); not_fresh = v.not_fresh; listed = v.listed })

  pub finds-result : (p : Problem) (row : List Piece) (text : Text) (sort : SortId) → Writes (unguarded d names) row (Some (text, sort)) → (r : Option Var) →
      IfSome r (IsTheVariable p text sort) → IfNone r ((x : Var) → IsTheVariable p text sort x → ⊥) → Finds (unguarded d names) p row r
  finds-result p row text sort writes None some nothing = finds-none p row text sort writes nothing
  finds-result p row text sort writes (Some x) some nothing = finds p row text sort x writes some

  pub finds-nothing : (p : Problem) (row : List Piece) → Writes (unguarded d names) row None → Finds (unguarded d names) p row None
  finds-nothing p row writes t w alone e x v = (let f : None ≡ Some (named v.text x.sort) = writes t w alone e ∙ v.stands in cc)

get-take-none : {A : Type 0} (x : A) → None ≡ Some x → ⊥
get-take-none x h = cc

pub get-take : {A : Type 0} (xs : List A) (i k : ℕ) (x : A) → slice_get (take i xs) k ≡ Some x → (slice_get xs k ≡ Some x) × (k < i)
get-take [] zero k x h = absurd (get-take-none x h)
get-take [] (suc i) k x h = absurd (get-take-none x h)
get-take (y ∷ ys) zero k x h = absurd (get-take-none x h)
get-take (y ∷ ys) (suc i) zero x h = (h, omega arith)
get-take (y ∷ ys) (suc i) (suc k) x h = let g = get-take ys i k x h in (g.0, (let l = g.1 in omega arith))

-- places in lists of different texts
place-from : (text : Text) (k : ℕ) (texts : List Text) (i : ℕ) → position_from (λ t. bytes_eq text t) k texts ≡ Some i → (k ≤ i) × (slice_get texts (i - k) ≡ Some text)
place-from text k [] i h = (let f : None ≡ Some i = h in cc)
place-from text k (t ∷ ts) i h = go (bytes_eq text t) refl (place-from text (k + 1) ts i) h where
  go : (b : Bool) → bytes_eq text t ≡ b → (position_from (λ u. bytes_eq text u) (k + 1) ts ≡ Some i → (k + 1 ≤ i) × (slice_get ts (i - (k + 1)) ≡ Some text)) →
      cond b (Some k) (position_from (λ u. bytes_eq text u) (k + 1) ts) ≡ Some i → (k ≤ i) × (slice_get (t ∷ ts) (i - k) ≡ Some text)
  go true e later f =
      let is : k ≡ i = cc in
      let z : i - k ≡ zero = omega arith in
      (omega arith, ap (slice_get (t ∷ ts)) z ∙ ap Some (sym (bytes_eq-is text t e)))
  go false e later f =
      let g = later f in
      let l = g.0 in
      let z : i - k ≡ suc (i - (k + 1)) = omega arith in
      (omega arith, ap (slice_get (t ∷ ts)) z ∙ g.1)

pub place-text : (texts : List Text) (text : Text) (i : ℕ) → place texts text ≡ Some i → slice_get texts i ≡ Some text
place-text texts text i h = let g = place-from text 0 texts i h in let z : i - 0 ≡ i = omega arith in ap (slice_get texts) (sym z) ∙ g.1

none-from : (text : Text) (k : ℕ) (texts : List Text) (i : ℕ) → position_from (λ t. bytes_eq text t) k texts ≡ None → slice_get texts i ≡ Some text → ⊥
none-from text k [] i h g = (let f : None ≡ Some text = g in cc)
none-from text k (t ∷ ts) i h g = go (bytes_eq text t) refl h i g (none-from text (k + 1) ts) where
  go : (b : Bool) → bytes_eq text t ≡ b → cond b (Some k) (position_from (λ u. bytes_eq text u) (k + 1) ts) ≡ None → (j : ℕ) → slice_get (t ∷ ts) j ≡ Some text →
      ((j : ℕ) → position_from (λ u. bytes_eq text u) (k + 1) ts ≡ None → slice_get ts j ≡ Some text → ⊥) → ⊥
  go true e f j h later = (let q : Some k ≡ None = f in cc)
  go false e f zero h later =
      let is : t ≡ text = (let q : Some t ≡ Some text = h in cc) in
      let q : true ≡ false = sym (bytes_eq-refl text) ∙ ap (bytes_eq text) (sym is) ∙ e in
      cc
  go false e f (suc j) h later = later j f h

pub place-none : (texts : List Text) (text : Text) (i : ℕ) → place texts text ≡ None → slice_get texts i ≡ Some text → ⊥
place-none texts text i h g = none-from text 0 texts i h g

-- in a list of different texts a text has one place
pub place-only : (texts : List Text) (text : Text) (i j : ℕ) → AllPairs (λ x y. x ≢ y) texts → slice_get texts i ≡ Some text → slice_get texts j ≡ Some text → i ≡ j
place-only texts text i j distinct a b =
    let il = slice_get_within texts i text a in
    let jl = slice_get_within texts j text b in
    let ia = get_or_from_slice_get texts i text text a in
    let jb = get_or_from_slice_get texts j text text b in
    elim (cases_order i j) [
      | inl e ↦ e
      | inr o ↦ elim o [ inl l ↦ absurd (distinct i j text l jl (ia ∙ sym jb)) | inr l ↦ absurd (distinct j i text l il (jb ∙ sym ia)) ]
    ]

-- the test of one variable of the problem
parts : (a b c : Bool) → a && b && c ≡ true → (a ≡ true) × (b ≡ true) × (c ≡ true)
parts true true true h = (refl, refl, refl)
parts true true false h = cc
parts true false c h = cc
parts false b c h = cc

off : (b : Bool) → not b ≡ true → b ≡ false
off true h = cc
off false h = refl

any-passes : (test : Var → Bool) (xs : List Var) (x : Var) → Contains xs x → test x ≡ true → list_any test xs ≡ false → ⊥
any-passes test [] x h e f = contains_none x h
any-passes test (y ∷ ys) x h e f = go (test y) refl f (any-passes test ys x) where
  go : (b : Bool) → test y ≡ b → b || list_any test ys ≡ false → (Contains ys x → test x ≡ true → list_any test ys ≡ false → ⊥) → ⊥
  go true is g later = (let q : true ≡ false = g in cc)
  go false is g later =
      elim (contains_cases y ys x h) as (λ _. ⊥) [
        | inl same ↦ (let q : true ≡ false = sym e ∙ ap test (sym same) ∙ is in cc)
        | inr there ↦ later there e g
      ]

module _ (p : Problem) (text : Text) (sort : SortId) where
  pub no-text : place p.names.texts text ≡ None → (x : Var) → IsTheVariable p text sort x → ⊥
  no-text n x t = place-none p.names.texts text x.name n t.named

  module _ (i : ℕ) (placed : place p.names.texts text ≡ Some i) where
    pub is-the : (x : Var) → Contains p.vars x → is_named i sort x ≡ true → IsTheVariable p text sort x
    is-the x c h =
        let f = parts (nat_eq x.name i) (nat_eq x.sort.0 sort.0) (not x.fresh) h in
        let n : x.name ≡ i = eqb-true x.name i f.0 in
        record {
          sort_is = ap (λ m. record { 0 = m }) (eqb-true x.sort.0 sort.0 f.1);
          named = ap (slice_get p.names.texts) n ∙ place-text p.names.texts text i placed;
          not_fresh = off x.fresh f.2;
          listed = c;
        }

    pub not-named : AllPairs (λ x y. x ≢ y) p.names.texts → list_any (is_named i sort) p.vars ≡ false → (x : Var) → IsTheVariable p text sort x → ⊥
    not-named distinct h x t =
        let n : x.name ≡ i = place-only p.names.texts text x.name i distinct t.named (place-text p.names.texts text i placed) in
        let a : nat_eq x.name i ≡ true = eq-eqb x.name i n in
        let b : nat_eq x.sort.0 sort.0 ≡ true = eq-eqb x.sort.0 sort.0 (ap (λ s. s.0) t.sort_is) in
        let c : not x.fresh ≡ true = ap not t.not_fresh in
        let e : is_named i sort x ≡ true = rw (a, b, c) refl in
        any-passes (is_named i sort) p.vars x t.listed e h

    pub found-the : (vars : List Var) → vars ≡ p.vars → (r : Option Var) → IfSome r (λ x. Contains vars x × (is_named i sort x ≡ true)) → IfSome r (IsTheVariable p text sort)
    found-the vars e None h = tt
    found-the vars e (Some x) h = is-the x (subst (λ xs. Contains xs x) e h.0) h.1

    pub none-found : AllPairs (λ x y. x ≢ y) p.names.texts → (vars : List Var) → vars ≡ p.vars → (r : Option Var) →
        IfNone r (list_any (is_named i sort) vars ≡ false) → IfNone r ((x : Var) → IsTheVariable p text sort x → ⊥)
    none-found distinct vars e None h = not-named distinct (ap (list_any (is_named i sort)) (sym e) ∙ h)
    none-found distinct vars e (Some x) h = tt

-- a list of different texts is copied text by text
front-new : (texts : List Text) (text : Text) (i k : ℕ) → AllPairs (λ x y. x ≢ y) texts → slice_get texts i ≡ Some text → slice_get (take i texts) k ≡ Some text → ⊥
front-new texts text i k distinct a b =
    let g = get-take texts i k text b in
    let e = place-only texts text i k distinct a g.0 in
    let l = g.1 in
    absurd (omega arith)

pub with-next : (texts : List Text) (text : Text) (i : ℕ) → AllPairs (λ x y. x ≢ y) texts → slice_get texts i ≡ Some text → with_text (take i texts) text ≡ take (i + 1) texts
with-next texts text i distinct a = go (place (take i texts) text) refl where
  go : (o : Option ℕ) → place (take i texts) text ≡ o → unless_at (take i texts) text o ≡ take (i + 1) texts
  go None e =
      let l = slice_get_within texts i text a in
      sym (take_more texts i text l ∙ ap (λ t. take i texts ++ (t ∷ [])) (get_or_from_slice_get texts i text text a))
  go (Some k) e = absurd (front-new texts text i k distinct a (place-text (take i texts) text k e))
