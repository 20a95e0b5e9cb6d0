-- A solution may stand for the identity, or it may not.
use Rattle.std.proofs.Common.{◌≡◌, ◌⊎◌, ℕ, zero, suc, ◌<◌, List, length, refl, sym, ◌∙◌, subst, inl, inr, arith, Option, Some, None, Contains, slice_get}
use Rattle.std.proofs.lemmas.Bool.{cases_eq, cases_lt}
use Rattle.std.proofs.lemmas.Option.{slice_get_within}
use Rattle.fvn_base.specs.Decided.{Decided}
use Rattle.fvn_base.proofs.Decided.{some_or_none, both_or, unrefuted}
use Rattle.fvn_base.proofs.Options.{Some-injective}
use Rattle.fvn_terms.specs.declared.plain.OpId.{OpId}
use Rattle.fvn_terms.specs.declared.plain.SortId.{SortId}
use Rattle.fvn_terms.specs.declared.declarations.Axioms.{Axioms}
use Rattle.fvn_terms.specs.declared.declarations.Axioms.TheVariants.{Free, Comm, AssocComm, AssocCommId}
use Rattle.fvn_terms.specs.declared.declarations.Rank.{Rank}
use Rattle.fvn_terms.specs.declared.declarations.Declarations.{Declarations}
use Rattle.fvn_terms.specs.Signature.{axioms, declared}
use Rattle.fvn_terms.specs.Equality.{identity}
use Rattle.fvn_forms.specs.Good.{IsGood}
use Rattle.fvn_flat.specs.SolvedLists.{component, IsSimple}
use Rattle.fvn_combine_nodes.specs.Table.{NodeTable}
use Rattle.fvn_combine_nodes.specs.declared.table.Node.{Node}
use Rattle.fvn_combine_nodes.specs.declared.table.Node.TheVariants.{Var, App}
use Rattle.fvn_combine_choices.proofs.Columns.{column_listed}
use Rattle.fvn_combine_complete.specs.Neutral.{Absorbs, IsNeutral}
use Rattle.fvn_combine_complete.specs.Obeying.{IsTold}
use Rattle.fvn_combine_complete.specs.Vanishing.{TakesIdentity, MayVanish}
use Rattle.fvn_combine_complete.proofs.NeutralTold.{absorbs_told, neutral_told}

pub number_told : (a b : ℕ) → Decided (a ≡ b)
number_told a b = elim (cases_eq a b) [ inl e ↦ inl e | inr n ↦ inr n ]

positive_told : (n : ℕ) → Decided (0 < n)
positive_told zero = inr (λ l. omega (arith, l))
positive_told (suc n) = inl (omega arith)

either_told : {P Q : Type 0} → Decided P → Decided Q → Decided (P ⊎ Q)
either_told (inl p) q = inl (inl p)
either_told (inr n) (inl q) = inl (inr q)
either_told {P} {Q} (inr n) (inr m) = inr neither
  where
    neither : P ⊎ Q → ⊥
    neither (inl p) = n p
    neither (inr q) = m q

refuted_told : {P : Type 0} → Decided P → Decided (P → ⊥)
refuted_told (inl p) = inr (λ n. n p)
refuted_told (inr n) = inl n

simple_told : (a : Axioms) → Decided (IsSimple a)
simple_told Free = inl tt
simple_told Comm = inl tt
simple_told AssocComm = inr (λ b. b)
simple_told (AssocCommId e) = inr (λ b. b)

-- where f is neutral, what stands for any solution may be the identity
pub neutral_vanishes : (d : Declarations) (t : NodeTable) (class : ℕ → ℕ) (f : OpId) → IsNeutral d f → (columns v : List ℕ) → MayVanish d t class f columns v
neutral_vanishes d t class f n columns v = record { unit = n.unit; is_identity = n.is_identity; each = λ k p. inl n }

-- what is decided of each element of a list is decided of all, and of the numbers below another
each_told : {A : Type 0} (P : A → Type 0) → ((x : A) → Decided (P x)) → (l : List A) → Decided ((x : A) → Contains l x → P x)
each_told P told l = elim (some_or_none (λ x. P x → ⊥) (λ x. refuted_told (told x)) l) [
  | inl h ↦ inr (λ all. h.1.1 (all h.0 h.1.0))
  | inr none ↦ inl (λ x among. unrefuted (told x) (none x among))
]

below_told : (P : ℕ → Type 0) → ((i : ℕ) → Decided (P i)) → (n : ℕ) → Decided ((i : ℕ) → i < n → P i)
below_told P told zero = inl (λ i l. absurd (omega (arith, l)))
below_told P told (suc n) = go (told n) (below_told P told n)
  where
    go : Decided (P n) → Decided ((i : ℕ) → i < n → P i) → Decided ((i : ℕ) → i < suc n → P i)
    go (inr fails) rest = inr (λ h. fails (h n (omega arith)))
    go (inl here) (inr fails) = inr (λ h. fails (λ i l. h i (omega (arith, l))))
    go (inl here) (inl rest) = inl (λ i l. elim (cases_lt i n) [
      | inl m ↦ rest i m
      | inr m ↦ (let is : n ≡ i = omega (arith, l, m) in subst P is here)
    ])

comm_told : (a : Axioms) → Decided (a ≡ Comm)
comm_told Free = inr (λ e. cc)
comm_told Comm = inl refl
comm_told AssocComm = inr (λ e. cc)
comm_told (AssocCommId o) = inr (λ e. cc)

module _ (d : Declarations) (good : IsGood d) (t : NodeTable) (class : ℕ → ℕ) (told : IsTold d t class) where
  -- whether class k takes the constant e under f
  module _ (f e : OpId) (k : ℕ) where
    -- what an operator asks of the class where its argument p is in it, and a rank declares a sort at q
    module _ (g : OpId) where
      abbrev AbsorbsAt : (p q : ℕ) → Option ℕ → Option SortId → Type 0
      AbsorbsAt p q None o = Unit {0}
      AbsorbsAt p q (Some j) None = Unit {0}
      AbsorbsAt p q (Some j) (Some a) = class j ≡ k → (p ≡ q) ⊎ (axioms d g ≡ Comm) → Absorbs d f e a

      absorbs_at_told : (p q : ℕ) (n : Option ℕ) (o : Option SortId) → Decided (AbsorbsAt p q n o)
      absorbs_at_told p q None o = inl tt
      absorbs_at_told p q (Some j) None = inl tt
      absorbs_at_told p q (Some j) (Some a) = elim (number_told (class j) k) [
        | inr n ↦ inl (λ is placed. absurd (n is))
        | inl is ↦ elim (either_told (number_told p q) (comm_told (axioms d g))) [
          | inr n ↦ inl (λ same placed. absurd (n placed))
          | inl placed ↦ elim (absorbs_told d good f e a) [
            | inl h ↦ inl (λ same there. h)
            | inr n ↦ inr (λ h. n (h is placed))
          ]
        ]
      ]

      -- the same, for all arguments and all that is declared
      abbrev AbsorbsAll : List ℕ → Type 0
      AbsorbsAll ks = (r : Rank) → Contains (declared d g).ranks r → (q : ℕ) → q < length r.args → (p : ℕ) → p < length ks → AbsorbsAt p q (slice_get ks p) (slice_get r.args q)

      absorbs_all_told : (ks : List ℕ) → Decided (AbsorbsAll ks)
      absorbs_all_told ks =
          each_told (λ (r : Rank). (q : ℕ) → q < length r.args → (p : ℕ) → p < length ks → AbsorbsAt p q (slice_get ks p) (slice_get r.args q))
          (λ r. below_told (λ q. (p : ℕ) → p < length ks → AbsorbsAt p q (slice_get ks p) (slice_get r.args q))
          (λ q. below_told (λ p. AbsorbsAt p q (slice_get ks p) (slice_get r.args q)) (λ p. absorbs_at_told p q (slice_get ks p) (slice_get r.args q)) (length ks))
          (length r.args))
          (declared d g).ranks

      absorbs_from : (ks : List ℕ) → AbsorbsAll ks → (p q j : ℕ) → slice_get ks p ≡ Some j → class j ≡ k → (p ≡ q) ⊎ (axioms d g ≡ Comm) → (r : Rank) → Contains (declared d g).ranks r → (a : SortId) → slice_get r.args q ≡ Some a → Absorbs d f e a
      absorbs_from ks all p q j argument of placed r listed a at =
          let there : AbsorbsAt p q (Some j) (Some a) = subst (λ o. AbsorbsAt p q (Some j) o) at
          (subst (λ o. AbsorbsAt p q o (slice_get r.args q)) argument (all r listed q (slice_get_within r.args q a at) p (slice_get_within ks p j argument))) in
          there of placed

      absorbs_to : (ks : List ℕ) → ((p q j : ℕ) → slice_get ks p ≡ Some j → class j ≡ k → (p ≡ q) ⊎ (axioms d g ≡ Comm) → (r : Rank) → Contains (declared d g).ranks r → (a : SortId) → slice_get r.args q ≡ Some a → Absorbs d f e a) → AbsorbsAll ks
      absorbs_to ks h r listed q l p m = go (slice_get ks p) refl (slice_get r.args q) refl
        where
          go : (n : Option ℕ) → slice_get ks p ≡ n → (o : Option SortId) → slice_get r.args q ≡ o → AbsorbsAt p q n o
          go None i o j = tt
          go (Some j) i None at = tt
          go (Some j) i (Some a) at = λ of placed. h p q j i of placed r listed a at

    -- what a node asks of the class
    abbrev Lets : ℕ → Option Node → Type 0
    Lets i None = Unit {0}
    Lets i (Some (Var x)) = class i ≡ k → Absorbs d f e x.sort
    Lets i (Some (App g ks)) = IsSimple (axioms d g) → AbsorbsAll g ks

    lets_told : (i : ℕ) (n : Option Node) → Decided (Lets i n)
    lets_told i None = inl tt
    lets_told i (Some (Var x)) = elim (number_told (class i) k) [
      | inr n ↦ inl (λ is. absurd (n is))
      | inl is ↦ elim (absorbs_told d good f e x.sort) [
        | inl h ↦ inl (λ same. h)
        | inr n ↦ inr (λ h. n (h is))
      ]
    ]
    lets_told i (Some (App g ks)) = elim (simple_told (axioms d g)) [
      | inr n ↦ inl (λ simple. absurd (n simple))
      | inl simple ↦ elim (absorbs_all_told g ks) [
        | inl h ↦ inl (λ same. h)
        | inr n ↦ inr (λ h. n (h simple))
      ]
    ]

    each_lets : TakesIdentity d t class f e k → (i : ℕ) (o : Option Node) → slice_get t.nodes i ≡ o → Lets i o
    each_lets h i None is = tt
    each_lets h i (Some (Var x)) is = λ of. h.variables i x is of
    each_lets h i (Some (App g ks)) is = λ simple. absorbs_to g ks (λ p q j. h.arguments i p q j g ks is simple)

    pub takes_told : Decided (TakesIdentity d t class f e k)
    takes_told = elim (told.heads k) [
      | inl h ↦ inr (λ takes. takes.soft h.0 h.1)
      | inr soft ↦ elim (told.users f k) [
        | inl u ↦ inr (λ takes. u.1 (takes.alone u.0 u.2))
        | inr only ↦ elim (below_told (λ i. Lets i (slice_get t.nodes i)) (λ i. lets_told i (slice_get t.nodes i)) (length t.nodes)) [
          | inr fails ↦ inr (λ takes. fails (λ i l. each_lets takes i (slice_get t.nodes i) refl))
          | inl all ↦ inl (record {
            alone = only;
            soft = soft;
            arguments = λ i p q j g ks over simple argument of. (
                let lets : Lets i (Some (App g ks)) = subst (Lets i) over (all i (slice_get_within t.nodes i (App g ks) over)) in
                absorbs_from g ks (lets simple) p q j argument of);
            variables = λ i x at of. (let lets : Lets i (Some (Var x)) = subst (Lets i) at (all i (slice_get_within t.nodes i (Var x) at)) in lets of);
          })
        ]
      ]
    ]

  -- a class that the solution has does not take the constant e under f
  abbrev Fails : OpId → OpId → List ℕ → List ℕ → ℕ → Type 0
  Fails f e columns v k = (0 < component columns v k) × (IsNeutral d f ⊎ TakesIdentity d t class f e k → ⊥)

  class_told : (f e : OpId) (k : ℕ) → Decided (IsNeutral d f ⊎ TakesIdentity d t class f e k)
  class_told f e k = either_told (neutral_told d good f) (takes_told f e k)

  pub vanishing_told : (f : OpId) (columns v : List ℕ) → Decided (MayVanish d t class f columns v)
  vanishing_told f columns v = go (identity (axioms d f)) refl
    where
      go : (o : Option OpId) → identity (axioms d f) ≡ o → Decided (MayVanish d t class f columns v)
      go None is = inr (λ m. let e : None ≡ Some m.unit = sym is ∙ m.is_identity in cc)
      go (Some e) is = elim (some_or_none (Fails f e columns v) (λ k. both_or (positive_told (component columns v k)) (refuted_told (class_told f e k))) columns) [
        | inl h ↦ inr (λ m.
            let unit_is : m.unit ≡ e = Some-injective (sym m.is_identity ∙ is) in
            h.1.1.1 (subst (λ o. IsNeutral d f ⊎ TakesIdentity d t class f o h.0) unit_is (m.each h.0 h.1.1.0)))
        | inr none ↦ inl (record { unit = e; is_identity = is; each = λ k p. unrefuted (class_told f e k) (λ n. none k (column_listed columns v k p) (p, n)) })
      ]
