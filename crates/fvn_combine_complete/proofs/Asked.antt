-- What is bound, constant and required at a leaf is told, so that what is asked of a choice can be listed.
use Rattle.std.proofs.Common.{◌≡◌, ◌≢◌, ◌⊎◌, ℕ, zero, suc, ◌+◌, ◌<◌, true, false, List, [], ◌∷◌, length, get_or, refl, sym, ap, ◌∙◌, subst, inl, inr, arith, AllPairs, Contains, Option, Some, None, slice_get, pos}
use Rattle.std.specs.Prelude.{Bool, ◌↔◌}
use Rattle.std.proofs.lemmas.Bool.{cases_eq, true≢false}
use Rattle.fvn_base.specs.Decided.{Decided}
use Rattle.fvn_base.proofs.Decided.{some_or_none, both_or}
use Rattle.fvn_base.proofs.Membership.{contains_here, contains_later, contains_cases, contains_none}
use Rattle.fvn_base.proofs.Options.{Some-injective}
use Rattle.fvn_base.proofs.Pigeonhole.{AllPairs-cons}
use Rattle.fvn_terms.specs.declared.plain.OpId.{OpId}
use Rattle.fvn_terms.specs.declared.declarations.Axioms.{Axioms}
use Rattle.fvn_terms.specs.declared.declarations.Axioms.TheVariants.{Free, Comm, AssocComm, AssocCommId}
use Rattle.fvn_terms.specs.declared.declarations.Declarations.{Declarations}
use Rattle.fvn_terms.specs.Signature.{axioms}
use Rattle.fvn_terms.specs.Equality.{IsAssociative, identity}
use Rattle.fvn_forms.specs.Flat.{FlatTerm, fvar, fapp, fnone, fmore}
use Rattle.fvn_flat.specs.Forms.{head_of}
use Rattle.fvn_flat.specs.Partitions.{HasNoIdentity}
use Rattle.fvn_combine_nodes.specs.Table.{NodeTable, IsWellMade}
use Rattle.fvn_combine_nodes.specs.States.{class_of}
use Rattle.fvn_combine_nodes.specs.declared.state.State.{State}
use Rattle.fvn_combine_nodes.proofs.Heading.{identity_of}
use Rattle.fvn_combine_systems.specs.NodeSystems.{addends, sums, coefficient, IsNodeColumn}
use Rattle.fvn_combine_systems.proofs.Zeroes.{zero_told}
use Rattle.fvn_combine_leaves.specs.Leaves.{IsSumOperator, IsSolid, Uses, IsShared, HasTwin, IsLeaf}
use Rattle.fvn_combine_choices.specs.Binding.{IsBound, solid, alone, tagged, IsConstant, IsRequired, AreAsked}
use Rattle.fvn_combine_choices.specs.Choosing.{Systems, AreSystems}
use Rattle.fvn_combine_choices.specs.Tables.{HasSums}
use Rattle.fvn_combine_complete.specs.Obeying.{IsTold, GoWith, IsSumOrIdentityOf, ObeyTags}
use Rattle.fvn_combine_complete.proofs.Identities.{operator_told, unit_at}
use Rattle.fvn_combine_complete.proofs.Values.{head_of_solid, bound_used}

-- the places at which a list has a property, from a number on
record Places (P : ℕ → Type 0) (n : ℕ) (xs : List ℕ) : Type 0 where
  places : List ℕ
  distinct : AllPairs ◌≢◌ places
  sound : (j : ℕ) → Contains places j → (i : ℕ) × (j ≡ n + i) × (i < length xs) × P (get_or xs i 0)
  complete : (i : ℕ) → i < length xs → P (get_or xs i 0) → Contains places (n + i)

module _ (P : ℕ → Type 0) where
  places_of : (n : ℕ) (xs : List ℕ) → ((x : ℕ) → Contains xs x → Decided (P x)) → Places P n xs
  places_of n [] told = record {
    places = [];
    distinct = λ i j e l m. absurd (omega (arith, m));
    sound = λ j c. absurd (contains_none j c);
    complete = λ i l p. absurd (omega (arith, l));
  }
  places_of n (x ∷ xs) told = go (told x (contains_here x xs)) (places_of (suc n) xs (λ z c. told z (contains_later x xs z c)))
    where
      later : (i j : ℕ) → j ≡ suc n + i → j ≡ n + suc i
      later i j e = omega (arith, e)

      sound_later : (r : Places P (suc n) xs) → (j : ℕ) → Contains r.places j → (i : ℕ) × (j ≡ n + i) × (i < length (x ∷ xs)) × P (get_or (x ∷ xs) i 0)
      sound_later r j c = let h = r.sound j c in (suc h.0, later h.0 j h.1, (let l = h.2 in omega (arith, l)), h.3)

      complete_later : (r : Places P (suc n) xs) → (i : ℕ) → i < length xs → P (get_or xs i 0) → Contains r.places (n + suc i)
      complete_later r i l p = subst (Contains r.places) (later i (suc n + i) refl) (r.complete i l p)

      go : Decided (P x) → Places P (suc n) xs → Places P n (x ∷ xs)
      go (inl p) r = record {
        places = n ∷ r.places;
        distinct = AllPairs-cons n r.places r.distinct (λ j c e. let h = r.sound j c in let m = h.1 in omega (arith, e, m));
        sound = λ j c. elim (contains_cases n r.places j c) [
          | inl e ↦ (0, omega (arith, e), omega arith, p)
          | inr c ↦ sound_later r j c
        ];
        complete = λ i. complete_here p r i;
      }
        where
          complete_here : P x → (r : Places P (suc n) xs) → (i : ℕ) → i < length (x ∷ xs) → P (get_or (x ∷ xs) i 0) → Contains (n ∷ r.places) (n + i)
          complete_here p r zero l q = subst (Contains (n ∷ r.places)) (let e : n ≡ n + 0 = omega arith in e) (contains_here n r.places)
          complete_here p r (suc i) l q = contains_later n r.places (n + suc i) (complete_later r i (omega (arith, l)) q)
      go (inr fails) r = record {
        places = r.places;
        distinct = r.distinct;
        sound = sound_later r;
        complete = λ i. complete_here fails r i;
      }
        where
          complete_here : (P x → ⊥) → (r : Places P (suc n) xs) → (i : ℕ) → i < length (x ∷ xs) → P (get_or (x ∷ xs) i 0) → Contains r.places (n + i)
          complete_here fails r zero l q = absurd (fails q)
          complete_here fails r (suc i) l q = complete_later r i (omega (arith, l)) q

  -- marks that are false exactly where a list has the property
  abbrev AreMarks : List ℕ → List Bool → Type 0
  AreMarks xs marks = (j : ℕ) → (get_or marks j true ≡ false) ↔ ((j < length xs) × P (get_or xs j 0))

  marks_of : (xs : List ℕ) → ((x : ℕ) → Contains xs x → Decided (P x)) → (marks : List Bool) × AreMarks xs marks
  marks_of [] told = ([], λ j. (λ e. absurd (true≢false e), λ h. absurd (let l = h.0 in omega (arith, l))))
  marks_of (x ∷ xs) told = go (told x (contains_here x xs)) (marks_of xs (λ z c. told z (contains_later x xs z c)))
    where
      go : Decided (P x) → (marks : List Bool) × AreMarks xs marks → (marks : List Bool) × AreMarks (x ∷ xs) marks
      go (inl p) r = (false ∷ r.0, at)
        where
          at : AreMarks (x ∷ xs) (false ∷ r.0)
          at zero = (λ e. (omega arith, p), λ h. refl)
          at (suc j) = (λ e. let h = (r.1 j).0 e in ((let l = h.0 in omega (arith, l)), h.1), λ h. (r.1 j).1 ((let l = h.0 in omega (arith, l)), h.1))
      go (inr fails) r = (true ∷ r.0, at)
        where
          at : AreMarks (x ∷ xs) (true ∷ r.0)
          at zero = (λ e. absurd (true≢false e), λ h. absurd (fails h.1))
          at (suc j) = (λ e. let h = (r.1 j).0 e in ((let l = h.0 in omega (arith, l)), h.1), λ h. (r.1 j).1 ((let l = h.0 in omega (arith, l)), h.1))

pub tag_told : (o : Option OpId) (f : OpId) → Decided (o ≡ Some f)
tag_told None f = inr (λ e. cc)
tag_told (Some g) f = elim (operator_told g f) [
  | inl e ↦ inl (ap Some e)
  | inr n ↦ inr (λ e. n (Some-injective e))
]

-- 0 of a variable, 1 of a sum, 2 of a constant, and else 3
abbrev shape : FlatTerm → ℕ
shape (fvar x) = 0
shape (fapp o true ts) = 1
shape (fapp o false fnone) = 2
shape (fapp o false (fmore t ts)) = 3

-- whether a value is a sum of an operator, or its identity
module _ (d : Declarations) (g : OpId) where
  by_shape : (v : FlatTerm) → (shape v ≡ 1 → ⊥) → (shape v ≡ 2 → ⊥) → IsSumOrIdentityOf d g v → ⊥
  by_shape v no_sum no_identity (inl sum) = no_sum (ap shape sum.1)
  by_shape v no_sum no_identity (inr unit) = no_identity (ap shape unit.2)

  pub sum_or_identity_told : (v : FlatTerm) → Decided (IsSumOrIdentityOf d g v)
  sum_or_identity_told (fvar x) = inr (by_shape (fvar x) (λ e. omega (arith, e)) (λ e. omega (arith, e)))
  sum_or_identity_told (fapp o true ts) = elim (operator_told o g) [
    | inl same ↦ inl (inl (ts, ap (λ p. fapp p true ts) same))
    | inr n ↦ inr (λ h. elim h [
      | inl sum ↦ (let e : Some o ≡ Some g = ap head_of sum.1 in n (Some-injective e))
      | inr unit ↦ (let e = ap shape unit.2 in omega (arith, e))
    ])
  ]
  sum_or_identity_told (fapp e false fnone) = elim (tag_told (identity (axioms d g)) e) [
    | inl i ↦ inl (inr (e, i, refl))
    | inr n ↦ inr (λ h. elim h [
      | inl sum ↦ (let s = ap shape sum.1 in omega (arith, s))
      | inr unit ↦ (let s : Some e ≡ Some unit.0 = ap head_of unit.2 in n (unit.1 ∙ sym s))
    ])
  ]
  sum_or_identity_told (fapp o false (fmore t ts)) = inr (by_shape (fapp o false (fmore t ts)) (λ e. omega (arith, e)) (λ e. omega (arith, e)))

-- axioms have no identity, or one
pub bare_told : (a : Axioms) → HasNoIdentity a ⊎ ((e : OpId) × (identity a ≡ Some e))
bare_told Free = inl tt
bare_told Comm = inl tt
bare_told AssocComm = inl tt
bare_told (AssocCommId e) = inr (e, refl)

associative_told : (a : Axioms) → Decided (IsAssociative a)
associative_told Free = inr (λ b. b)
associative_told Comm = inr (λ b. b)
associative_told AssocComm = inl tt
associative_told (AssocCommId e) = inl tt

-- whether an operator is a sum operator
pub sum_told : (d : Declarations) (t : NodeTable) (f : OpId) → Decided (IsSumOperator d t f)
sum_told d t f = elim (associative_told (axioms d f)) [
  | inl a ↦ go a (sums t f) refl
  | inr n ↦ inr (λ h. n h.associative)
]
  where
    go : IsAssociative (axioms d f) → (l : List ℕ) → sums t f ≡ l → Decided (IsSumOperator d t f)
    go a [] e = inr (λ h. contains_none h.sum (subst (λ l. Contains l h.sum) e h.listed))
    go a (i ∷ l) e = inl (record { associative = a; sum = i; listed = subst (λ l. Contains l i) (sym e) (contains_here i l) })

-- whether an operator uses a column
pub uses_told : (d : Declarations) (t : NodeTable) (class : ℕ → ℕ) (f : OpId) → IsAssociative (axioms d f) → (k : ℕ) → IsNodeColumn t class f k → Decided (Uses d t class f k)
uses_told d t class f assoc k column = elim (some_or_none Other other (sums t f)) [
  | inl h ↦ inl (record { associative = assoc; column = column; row = h.0; listed = h.1.0; other = h.1.1 })
  | inr none ↦ inr (λ u. none u.row u.listed u.other)
]
  where
    Other : ℕ → Type 0
    Other i = coefficient class i (addends f (slice_get t.nodes i)) k ≢ pos 0

    other : (i : ℕ) → Decided (Other i)
    other i = elim (zero_told (coefficient class i (addends f (slice_get t.nodes i)) k)) [
      | inl e ↦ inr (λ n. n e)
      | inr n ↦ inl n
    ]

-- whether an operator uses a class, by the columns of its system
pub user_told : (d : Declarations) (t : NodeTable) (class : ℕ → ℕ) (y : Systems) → AreSystems d t class y → (f : OpId) (k : ℕ) → Decided (Uses d t class f k)
user_told d t class y systems f k = elim (sum_told d t f) [
  | inr n ↦ inr (λ u. n (record { associative = u.associative; sum = u.row; listed = u.listed }))
  | inl sum ↦ elim (some_or_none (λ x. x ≡ k) (λ x. equal_told x k) (y.columns f)) [
    | inl h ↦ uses_told d t class f sum.associative k (((systems.is_system f sum).exact k).0 (subst (Contains (y.columns f)) h.1.1 h.1.0))
    | inr none ↦ inr (λ u. none k (((systems.is_system f sum).exact k).1 u.column) refl)
  ]
]
  where
    equal_told : (x k : ℕ) → Decided (x ≡ k)
    equal_told x k = elim (cases_eq x k) [ inl e ↦ inl e | inr n ↦ inr n ]

-- whether a class that is used is shared
pub shared_told : (d : Declarations) (t : NodeTable) (class : ℕ → ℕ) → IsTold d t class → (f : OpId) (k : ℕ) → Uses d t class f k → Decided (IsShared d t class k)
shared_told d t class told f k u = elim (told.heads k) [
  | inl p ↦ inr (λ shared. shared.soft p.0 p.1)
  | inr soft ↦ elim (told.users f k) [
    | inl g ↦ inl (record { soft = soft; first = g.0; second = f; different = g.1; uses_first = g.2; uses_second = u })
    | inr only ↦ inr (λ shared. shared.different (only shared.first shared.uses_first ∙ sym (only shared.second shared.uses_second)))
  ]
]

-- whether another operator that uses a class has f's identity: it is among those whose identities are nodes
module _ (d : Declarations) (t : NodeTable) (has : HasSums d t) (class : ℕ → ℕ) (y : Systems) (systems : AreSystems d t class y) where
  -- g uses class k, and its identity is e
  pub record IsUserWith (e : OpId) (k : ℕ) (g : OpId) : Type 0 where
    pub used : Uses d t class g k
    pub unit : identity (axioms d g) ≡ Some e

  pub user_with_told : (e : OpId) (k : ℕ) (g : OpId) → Decided (IsUserWith e k g)
  user_with_told e k g = elim (user_told d t class y systems g k) [
    | inr n ↦ inr (λ h. n h.used)
    | inl u ↦ elim (tag_told (identity (axioms d g)) e) [
      | inl i ↦ inl (record { used = u; unit = i })
      | inr n ↦ inr (λ h. n h.unit)
    ]
  ]

  twin_told : (f : OpId) (k : ℕ) (e : OpId) → identity (axioms d f) ≡ Some e → Decided (HasTwin d t class f k)
  twin_told f k e i = elim (some_or_none IsTwin told t.units) [
    | inl h ↦ inl (record { twin = h.0.0; other = h.1.1.0; same = h.1.1.1.unit ∙ sym i; uses = h.1.1.1.used })
    | inr none ↦ inr (λ h.
        let unit = unit_at d t has class h.twin k h.uses e (h.same ∙ i) in
        let same = unit.of in
        none unit.pair unit.listed (subst (λ g. (g ≢ f) × IsUserWith e k g) (sym same) (h.other, record { used = h.uses; unit = h.same ∙ i })))
  ]
    where
      IsTwin : OpId × ℕ → Type 0
      IsTwin p = (p.0 ≢ f) × IsUserWith e k p.0

      told : (p : OpId × ℕ) → Decided (IsTwin p)
      told p = both_or (other_told p.0) (user_with_told e k p.0)
        where
          other_told : (g : OpId) → Decided (g ≢ f)
          other_told g = elim (operator_told g f) [ inl same ↦ inr (λ n. n same) | inr n ↦ inl n ]

module _ (d : Declarations) (t : NodeTable) (made : IsWellMade t) (has : HasSums d t) (s : State) {heads : List (Option OpId)} (leaf : IsLeaf d t heads s) (told : IsTold d t (class_of s)) (values : ℕ → FlatTerm) (go_with : GoWith d t s values) (tag : ℕ → Option OpId) (obey : ObeyTags d t (class_of s) tag values) where
  abbrev class : ℕ → ℕ
  class = class_of s

  other_head : (f g : OpId) (k : ℕ) → IsSolid d t class g k → g ≢ f → IsBound d t class tag f k → ⊥
  other_head f g k h n (solid assoc m) = n (Some-injective (sym (head_of_solid d t made has s leaf told values go_with tag obey g k h) ∙ head_of_solid d t made has s leaf told values go_with tag obey f k m))
  other_head f g k h n (alone u soft only) = soft g h
  other_head f g k h n (tagged u shared e) = shared.soft g h

  untagged : (f g : OpId) (k : ℕ) → ((o : OpId) → IsSolid d t class o k → ⊥) → g ≢ f → Uses d t class g k → (tag k ≡ Some f → ⊥) → IsBound d t class tag f k → ⊥
  untagged f g k soft n u fails (solid assoc m) = soft f m
  untagged f g k soft n u fails (alone v bare only) = n (only g u)
  untagged f g k soft n u fails (tagged v shared e) = fails e

  bound_told : (f : OpId) (k : ℕ) → Uses d t class f k → Decided (IsBound d t class tag f k)
  bound_told f k u = elim (told.heads k) [
    | inl p ↦ elim (operator_told p.0 f) [
      | inl e ↦ inl (solid u.associative (subst (λ o. IsSolid d t class o k) e p.1))
      | inr n ↦ inr (λ b. other_head f p.0 k p.1 n b)
    ]
    | inr soft ↦ elim (told.users f k) [
      | inl g ↦ elim (tag_told (tag k) f) [
        | inl e ↦ inl (tagged u (record { soft = soft; first = g.0; second = f; different = g.1; uses_first = g.2; uses_second = u }) e)
        | inr fails ↦ inr (λ b. untagged f g.0 k soft g.1 g.2 fails b)
      ]
      | inr only ↦ inl (alone u soft only)
    ]
  ]

  pub constant_told : (f : OpId) (k : ℕ) → Decided (Uses d t class f k) → Decided (IsConstant d t class tag f k)
  constant_told f k (inr n) = inr (λ h. n h.used)
  constant_told f k (inl u) = elim (bound_told f k u) [
    | inl b ↦ inr (λ h. h.not_bound b)
    | inr n ↦ inl (record { used = u; not_bound = n })
  ]

  required_told : (y : Systems) → AreSystems d t class y → (f : OpId) (k : ℕ) → Decided (Uses d t class f k) → Decided (IsRequired d t class tag f k)
  required_told y systems f k (inr n) = inr (λ h. n (bound_used d t made has s leaf told values go_with tag obey f k h.bound))
  required_told y systems f k (inl u) = elim (bound_told f k u) [
    | inr n ↦ inr (λ h. n h.bound)
    | inl b ↦ elim (bare_told (axioms d f)) [
      | inl bare ↦ inl (record { bound = b; why = inl bare })
      | inr unit ↦ elim (twin_told d t has class y systems f k unit.0 unit.1) [
        | inl twin ↦ inl (record { bound = b; why = inr twin })
        | inr no_twin ↦ inr (λ h. refuted (λ bare. identity_of (axioms d f) unit.0 bare unit.1) no_twin h.why)
      ]
    ]
  ]
    where
      refuted : (HasNoIdentity (axioms d f) → ⊥) → (HasTwin d t class f k → ⊥) → HasNoIdentity (axioms d f) ⊎ HasTwin d t class f k → ⊥
      refuted n m (inl a) = n a
      refuted n m (inr b) = m b

  -- what is asked for an operator
  pub record Asked (f : OpId) (columns : List ℕ) : Type 0 where
    pub constants : List ℕ
    pub may_be_zero : List Bool
    pub are_asked : AreAsked d t class tag f columns constants may_be_zero

  pub asked : (y : Systems) → AreSystems d t class y → (f : OpId) → IsSumOperator d t f → (columns : List ℕ) → ((k : ℕ) → Contains columns k ↔ IsNodeColumn t class f k) → Asked f columns
  asked y systems f sum columns exact =
      let told_at = λ (k : ℕ) (c : Contains columns k). uses_told d t class f sum.associative k ((exact k).0 c) in
      let constants = places_of (IsConstant d t class tag f) 0 columns (λ k c. constant_told f k (told_at k c)) in
      let marks = marks_of (IsRequired d t class tag f) columns (λ k c. required_told y systems f k (told_at k c)) in
      record {
        constants = constants.places;
        may_be_zero = marks.0;
        are_asked = record {
          distinct = constants.distinct;
          are_constant = λ j. (
            λ c.
                let h = constants.sound j c in
                let e : h.0 ≡ j = (let m = h.1 in omega (arith, m)) in
                subst (λ i. (i < length columns) × IsConstant d t class tag f (get_or columns i 0)) e (h.2, h.3),
            λ h. subst (Contains constants.places) (let e : 0 + j ≡ j = omega arith in e) (constants.complete j h.0 h.1),
          );
          required = marks.1;
        };
      }
