-- Classes that take an identity, by the sorts that nodes ask of them and by the operators that use them.
use Rattle.std.proofs.Common.{◌≡◌, ◌⊎◌, ℕ, ◌+◌, ◌<◌, ◌≤◌, Bool, true, false, not, List, [], ◌∷◌, ◌++◌, length, get_or, slice_index_or, refl, sym, ap, ◌∙◌, subst, inl, inr, arith, Contains, Option, Some, None}
use Rattle.std.specs.Prelude.{◌↔◌, IsTrue, slice_get}
use Rattle.std.proofs.lemmas.Bool.{cases_lt}
use Rattle.std.proofs.lemmas.List.{get_or_default}
use Rattle.std.proofs.lemmas.List.Elements.{Contains-append_left, Contains-push, Contains-push_cases}
use Rattle.std.proofs.lemmas.Option.{slice_get-get_or}
use Rattle.fvn_base.proofs.Membership.{contains_none}
use Rattle.fvn_base.proofs.Options.{Some-injective}
use Rattle.fvn_terms.specs.declared.plain.OpId.{OpId}
use Rattle.fvn_terms.specs.declared.plain.SortId.{SortId}
use Rattle.fvn_terms.specs.declared.declarations.Axioms.{Axioms}
use Rattle.fvn_terms.specs.declared.declarations.Axioms.TheVariants.{Free, Comm, AssocComm, AssocCommId}
use Rattle.fvn_terms.specs.declared.declarations.Rank.{Rank}
use Rattle.fvn_terms.specs.declared.declarations.Declarations.{Declarations}
use Rattle.fvn_terms.specs.Signature.{axioms, declared}
use Rattle.fvn_terms.specs.Equality.{IsAssociative}
use Rattle.fvn_flat.specs.SolvedLists.{IsSimple}
use Rattle.fvn_combine_nodes.specs.Table.{NodeTable}
use Rattle.fvn_combine_nodes.specs.declared.table.Node.{Node}
use Rattle.fvn_combine_nodes.specs.declared.table.Node.TheVariants.{Var, App}
use Rattle.fvn_combine_leaves.specs.Leaves.{IsSolid, Uses}
use Rattle.fvn_combine_leaves.specs.Readings.{IsReading}
use Rattle.fvn_combine_leaves.specs.declared.reading.Sums.{Sums}
use Rattle.fvn_combine_leaves.specs.declared.reading.Reading.{Reading}
use Rattle.fvn_combine_complete.specs.Neutral.{Absorbs, IsNeutral}
use Rattle.fvn_combine_complete.specs.Vanishing.{TakesIdentity}
use Rattle.fvn_combine_candidates.specs.Turning.{TakesAt, AreOthers}
use Rattle.fvn_combine_candidates.specs.inner.Letting.{RanksLet, ArgumentLets, AllLet, AreOthersBelow, AreFixedBelow}
use Rattle.fvn_combine_candidates.proofs.Entries.{one_entry, listed_at, placed_at}
use Rattle.fvn_combine_candidates.proofs.Systems.{user_placed}

-- one place more
pub one_more : {A : Type 0} (P : ℕ → A → Type 0) (xs : List A) (n : ℕ) (x : A) → slice_get xs n ≡ Some x → P n x
    → ((j : ℕ) (y : A) → j < n → slice_get xs j ≡ Some y → P j y) → (j : ℕ) (y : A) → j < n + 1 → slice_get xs j ≡ Some y → P j y
one_more P xs n x at here before j y m is = elim (cases_lt j n) [
  | inl below ↦ before j y below is
  | inr above ↦
      let same : j ≡ n = omega (arith, m, above) in
      let one : x ≡ y = one_entry xs n x y at (subst (λ k. slice_get xs k ≡ Some y) same is) in
      subst (λ k. P k y) (sym same) (subst (P n) one here)
]

-- one place more, by what is read there
pub one_place : {A : Type 0} (P : ℕ → A → Type 0) (xs : List A) (n : ℕ) → ((y : A) → slice_get xs n ≡ Some y → P n y)
    → ((j : ℕ) (y : A) → j < n → slice_get xs j ≡ Some y → P j y) → (j : ℕ) (y : A) → j < n + 1 → slice_get xs j ≡ Some y → P j y
one_place P xs n here before j y m is = elim (cases_lt j n) [
  | inl below ↦ before j y below is
  | inr above ↦
      let same : j ≡ n = omega (arith, m, above) in
      subst (λ k. P k y) (sym same) (here y (subst (λ k. slice_get xs k ≡ Some y) same is))
]

-- what is told of the sort that is read at a place is told of each that stands there
pub sort_iff : (A : Type 0) (P : SortId → Type 0) (xs ys : List SortId) → xs ≡ ys → (q : ℕ) (s : SortId) → q < length xs → A ↔ P (get_or xs q s) → A ↔ ((a : SortId) → slice_get ys q ≡ Some a → P a)
sort_iff A P xs ys same q s l h =
    let at : slice_get ys q ≡ Some (get_or xs q s) = subst (λ zs. slice_get zs q ≡ Some (get_or xs q s)) same (slice_get-get_or xs q s l) in
    (λ t a is. subst P (Some-injective (sym at ∙ is)) (h.0 t), λ all. h.1 (all (get_or xs q s) at))

-- a test turned round
pub not_told : {P : Type 0} (b : Bool) → IsTrue b ↔ P → IsTrue (not b) ↔ (P → ⊥)
not_told true h = (λ e. cc, λ n. absurd (n (h.0 refl)))
not_told false h = (λ _ p. let e : false ≡ true = h.1 p in cc, λ _. refl)

-- an operator is free or commutative, or it makes sums
pub simple_not : (a : Axioms) → IsAssociative a → IsSimple a → ⊥
simple_not Free h s = h
simple_not Comm h s = h
simple_not AssocComm h s = s
simple_not (AssocCommId e) h s = s

pub not_simple : (a : Axioms) → (IsAssociative a → ⊥) → IsSimple a
not_simple Free n = tt
not_simple Comm n = tt
not_simple AssocComm n = absurd (n tt)
not_simple (AssocCommId e) n = absurd (n tt)

-- by all ranks of an operator
module _ (d : Declarations) (P : SortId → Type 0) (g : OpId) (p : ℕ) (swaps : Bool) (told : (swaps ≡ true) ↔ (axioms d g ≡ Comm)) where
  either_to : (q : ℕ) → (p ≡ q) ⊎ (swaps ≡ true) → (p ≡ q) ⊎ (axioms d g ≡ Comm)
  either_to q (inl e) = inl e
  either_to q (inr e) = inr (told.0 e)

  either_from : (q : ℕ) → (p ≡ q) ⊎ (axioms d g ≡ Comm) → (p ≡ q) ⊎ (swaps ≡ true)
  either_from q (inl e) = inl e
  either_from q (inr e) = inr (told.1 e)

  pub argument_by_ranks : RanksLet P swaps p (declared d g).ranks ↔ ArgumentLets d P g p
  argument_by_ranks = (
    λ h r listed q a is may. h listed.0 r (placed_at (declared d g).ranks r listed) q a is (either_from q may),
    λ h j r is q a at may. h r (listed_at (declared d g).ranks j r is) q a at (either_to q may),
  )

-- without ranks nothing is asked
pub argument_without_ranks : (d : Declarations) (P : SortId → Type 0) (g : OpId) (p : ℕ) → (declared d g).ranks ≡ [] → ArgumentLets d P g p
argument_without_ranks d P g p none r listed = absurd (contains_none r (subst (λ rs. Contains rs r) none listed))

module _ (d : Declarations) (t : NodeTable) (class : ℕ → ℕ) where
  module _ (f unit : OpId) (k : ℕ) where
    -- by its head, its users and all nodes a class takes the identity
    pub takes_told : ((g : OpId) → Uses d t class g k → g ≡ f) → ((g : OpId) → IsSolid d t class g k → ⊥) → AllLet d t class (Absorbs d f unit) k → TakesIdentity d t class f unit k
    takes_told alone soft all = record {
      alone = alone;
      soft = soft;
      arguments = λ i p q j g ks over simple at of may r listed a is. all i (App g ks) over simple p j at of r listed q a is may;
      variables = λ i x is of. all i (Var x) is of;
    }

    -- and then so do all nodes
    pub all_takes : TakesIdentity d t class f unit k → AllLet d t class (Absorbs d f unit) k
    all_takes h i (Var x) is = λ of. h.variables i x is of
    all_takes h i (App g ks) is = λ simple p j at of r listed q a stands may. h.arguments i p q j g ks is simple at of may r listed a stands

  module _ (r : Reading) (reading : IsReading d t class r) where
    -- by all entries an operator alone uses a class
    pub alone_by : (f : OpId) (k : ℕ) → ((i : ℕ) (e : Sums) → slice_get r.sums i ≡ Some e → Uses d t class e.operator k → e.operator ≡ f) → (g : OpId) → Uses d t class g k → g ≡ f
    alone_by f k each g u =
        let p = user_placed d t class r reading g k u in
        sym p.operator ∙ each p.place p.entry p.is (subst (λ o. Uses d t class o k) (sym p.operator) u)

    -- a class without a head is soft, and one with a head is not
    pub soft_by : (k : ℕ) → k < length t.nodes → slice_index_or r.heads k None ≡ None → (g : OpId) → IsSolid d t class g k → ⊥
    soft_by k l none g h = let e : Some g ≡ None = sym ((reading.heads.exact k g l).1 h) ∙ none in cc

    pub headed_not : (k : ℕ) → k < length t.nodes → (slice_index_or r.heads k None ≡ None → ⊥) → ((g : OpId) → IsSolid d t class g k → ⊥) → ⊥
    headed_not k l some soft = go (slice_index_or r.heads k None) refl
      where
        go : (o : Option OpId) → slice_index_or r.heads k None ≡ o → ⊥
        go None e = some e
        go (Some g) e = soft g ((reading.heads.exact k g l).0 e)

  -- all other columns, where the operator is not neutral
  pub others_told : (e : Sums) (unit : OpId) (list : List ℕ) → (IsNeutral d e.operator → ⊥) → AreFixedBelow d t class e unit (length e.columns) list → AreOthers d t class e unit list
  others_told e unit list not_neutral h = record {
    exact = λ j m. let b = h.exact j m in (b.0, none j b.1);
    rest = λ j l. elim (h.rest j l) [ inl m ↦ inl m | inr takes ↦ inr (inr takes) ];
  }
    where
      none : (j : ℕ) → (TakesIdentity d t class e.operator unit (get_or e.columns j 0) → ⊥) → TakesAt d t class e unit j → ⊥
      none j no_takes (inl neutral) = not_neutral neutral
      none j no_takes (inr takes) = no_takes takes

  -- and none where it is
  pub no_others : (e : Sums) (unit : OpId) → IsNeutral d e.operator → AreOthers d t class e unit []
  no_others e unit neutral = record { exact = λ j m. absurd (contains_none j m); rest = λ j l. inr (inl neutral) }

-- one more column
module _ (takes : ℕ → Type 0) (n : ℕ) (list : List ℕ) (h : AreOthersBelow takes n list) where
  pub no_other : takes n → AreOthersBelow takes (n + 1) list
  no_other here = record {
    exact = λ j m. let b = h.exact j m in let l = b.0 in (omega (arith, l), b.1);
    rest = λ j l. elim (cases_lt j n) [
      | inl below ↦ h.rest j below
      | inr above ↦ inr (subst takes (omega (arith, l, above)) here)
    ];
  }

  pub one_other : (takes n → ⊥) → AreOthersBelow takes (n + 1) (list ++ n ∷ [])
  one_other none = record {
    exact = λ j m. elim (Contains-push_cases list n j m) [
      | inl early ↦ (let b = h.exact j early in let l = b.0 in (omega (arith, l), b.1))
      | inr same ↦ (omega (arith, same), λ t. none (subst takes (sym same) t))
    ];
    rest = λ j l. elim (cases_lt j n) [
      | inl below ↦ elim (h.rest j below) [ inl m ↦ inl (Contains-append_left list (n ∷ []) j m) | inr t ↦ inr t ]
      | inr above ↦ inl (subst (Contains (list ++ n ∷ [])) (omega (arith, l, above)) (Contains-push list n))
    ];
  }

-- all columns
pub all_others : (takes : ℕ → Type 0) (n m : ℕ) (list : List ℕ) → m ≤ n → n ≤ m → AreOthersBelow takes n list → AreOthersBelow takes m list
all_others takes n m list l g h = let same : n ≡ m = omega (arith, l, g) in subst (λ k. AreOthersBelow takes k list) same h

pub none_below : (takes : ℕ → Type 0) → AreOthersBelow takes 0 []
none_below takes = record { exact = λ j m. absurd (contains_none j m); rest = λ j l. absurd (omega (arith, l)) }

-- what is read of a list at a place, and what is read of the same list
pub column_in : (P : ℕ → Type 0) (xs ys : List ℕ) → xs ≡ ys → (j e : ℕ) → j < length ys → P (get_or ys j 0) → P (get_or xs j e)
column_in P xs ys same j e l h = subst (λ zs. P (get_or zs j e)) (sym same) (subst P (sym (get_or_default ys j e 0 l)) h)

pub column_iff : (A : Type 0) (P : ℕ → Type 0) (xs ys : List ℕ) → xs ≡ ys → (j e : ℕ) → j < length ys → A ↔ P (get_or xs j e) → A ↔ P (get_or ys j 0)
column_iff A P xs ys same j e l h =
    let is : get_or xs j e ≡ get_or ys j 0 = ap (λ zs. get_or zs j e) same ∙ get_or_default ys j e 0 l in
    subst (λ k. A ↔ P k) is h
