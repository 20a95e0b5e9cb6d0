-- What loops over sum operators and nodes gather.
use Rattle.std.proofs.Common.{◌≡◌, ◌≢◌, ◌⊎◌, ℕ, ◌+◌, ◌<◌, ◌≤◌, Bool, List, [], ◌∷◌, ◌++◌, length, map, get_or, slice_index, slice_index_or, sym, ap, ◌∙◌, subst, inl, inr, arith, All, Contains, Option, Some}
use Rattle.std.specs.Prelude.{◌↔◌, AllPairs, slice_get}
use Rattle.std.proofs.lemmas.Bool.{cases_lt}
use Rattle.std.proofs.lemmas.List.{length_push, get_or_append_left, get_or_push, map_push, get_or_default}
use Rattle.std.proofs.lemmas.List.Elements.{All-push, All-weaker, Contains-append_left, Contains-push, Contains-push_cases, Contains-get_or}
use Rattle.std.proofs.lemmas.List.Quantifiers.{all_pairs_push}
use Rattle.std.proofs.lemmas.Option.{slice_get_within, slice_get-get_or, get_or_from_slice_get}
use Rattle.fvn_base.specs.declared.limits.TheConstants.{MINIMAL_SOLUTIONS}
use Rattle.fvn_terms.specs.declared.plain.OpId.{OpId}
use Rattle.fvn_terms.specs.declared.declarations.Declarations.{Declarations}
use Rattle.fvn_lindio.specs.declared.system.System.{System}
use Rattle.fvn_lindio.specs.declared.system.Solution.{Solution}
use Rattle.fvn_lindio.specs.Systems.{vectors_of}
use Rattle.fvn_acunify.specs.ValidChoice.{chosen}
use Rattle.fvn_flat.specs.Solving.{IsRefused}
use Rattle.fvn_combine_nodes.specs.Table.{NodeTable, IsWellMade}
use Rattle.fvn_combine_nodes.specs.States.{IsClosed, class_of}
use Rattle.fvn_combine_nodes.specs.declared.state.State.{State}
use Rattle.fvn_combine_leaves.specs.Leaves.{IsShared}
use Rattle.fvn_combine_leaves.specs.Readings.{IsReading}
use Rattle.fvn_combine_leaves.specs.declared.reading.Sums.{Sums}
use Rattle.fvn_combine_leaves.specs.declared.reading.Reading.{Reading}
use Rattle.fvn_combine_choices.specs.Binding.{AreAsked}
use Rattle.fvn_combine_admissible.specs.Aliases.{HasNoAlias}
use Rattle.fvn_combine_leaves.proofs.ReadOfState.{column_within}
use Rattle.fvn_combine_admissible.proofs.Listing.{operators_differ}
use Rattle.fvn_acunify_product.specs.Wheels.{Wheel}
use Rattle.fvn_combine_candidates.specs.declared.sharing.SharedClass.{SharedClass}
use Rattle.fvn_combine_leaves.specs.Bases.{AreBases, HaveAlive}
use Rattle.fvn_combine_candidates.specs.Sharing.{classes_of, MayBeSum, IsSharedClass, AreSharedClasses}
use Rattle.fvn_combine_candidates.specs.Turning.{IsFullFor, IsWheel, AreWheels, HaveBounds}
use Rattle.fvn_combine_candidates.specs.inner.Alive.{IsAliveBasis}
use Rattle.fvn_combine_candidates.specs.inner.Walking.{IsKeptBasis, AreBasesBelow, AreKeptBases, IsBoundedWheel, AreWheelsBelow, IsUserBelow, AreUsersBelow, AreSharedBelow}
use Rattle.fvn_combine_candidates.proofs.Entries.{entry_at, read_at, one_entry}
use Rattle.fvn_combine_candidates.proofs.Systems.{user_placed}

-- one more operator's minimal solutions
pub more_bases : (P : Sums → List Solution → Type 0) (sums : List Sums) (n : ℕ) (bases : List (List Solution)) (e : Sums) (b : List Solution) → n < length sums → e ≡ get_or sums n e → AreBasesBelow P sums n bases → P e b → AreBasesBelow P sums (n + 1) (bases ++ b ∷ [])
more_bases P sums n bases e b l at h here = record {
  as_many = length_push bases b ∙ ap (λ k. k + 1) h.as_many;
  each = λ i x m is. elim (cases_lt i n) [
    | inl below ↦
        let as_many = h.as_many in
        subst (P x) (sym (get_or_append_left bases (b ∷ []) [] i (omega (arith, below, as_many)))) (h.each i x below is)
    | inr above ↦
        let same : i ≡ n = omega (arith, m, above) in
        let one : e ≡ x = one_entry sums n e x (read_at sums n e l at) (subst (λ k. slice_get sums k ≡ Some x) same is) in
        subst (P x) (sym (get_or_push bases b [] i (h.as_many ∙ sym same))) (subst (λ z. P z b) one here)
  ];
}

module _ (d : Declarations) (t : NodeTable) (s : State) (sums : List Sums) (n : ℕ) (bases : List (List Solution)) (l : length sums ≤ n) (m : n ≤ length sums) (h : AreBasesBelow (IsAliveBasis d t s) sums n bases) where
  -- those of all operators
  pub all_bases : AreBases sums bases
  all_bases = record {
    as_many = let k = h.as_many in omega (arith, l, m, k);
    each = λ i e is. (h.each i e (let k = slice_get_within sums i e is in omega (arith, k, l)) is).is_basis;
  }

  -- none is left out that is alive
  pub all_alive : HaveAlive d t s sums bases
  all_alive i e is v minimal alive = (h.each i e (let k = slice_get_within sums i e is in omega (arith, k, l)) is).alive v minimal alive

-- the same of operators whose systems are not refused
pub all_kept : (sums : List Sums) (n : ℕ) (bases : List (List Solution)) → length sums ≤ n → n ≤ length sums → AreBasesBelow (λ e. IsKeptBasis e.system) sums n bases → AreKeptBases sums bases
all_kept sums n bases l m h = subst (λ k. AreBasesBelow (λ e. IsKeptBasis e.system) sums k bases) (omega (arith, l, m)) h

pub kept_are_bases : (sums : List Sums) (bases : List (List Solution)) → AreKeptBases sums bases → AreBases sums bases
kept_are_bases sums bases h = record {
  as_many = h.as_many;
  each = λ i e is. (h.each i e (slice_get_within sums i e is) is).whole.is_basis;
}

pub kept_are_alive : (d : Declarations) (t : NodeTable) (s : State) (sums : List Sums) (bases : List (List Solution)) → AreKeptBases sums bases → HaveAlive d t s sums bases
kept_are_alive d t s sums bases h i e is v minimal alive = (h.each i e (slice_get_within sums i e is) is).whole.all v minimal

pub kept_are_few : (sums : List Sums) (bases : List (List Solution)) → AreKeptBases sums bases → All (λ basis. length basis ≤ MINIMAL_SOLUTIONS) bases
kept_are_few sums bases h k d l =
    let as_many = h.as_many in
    let m : k < length sums = omega (arith, l, as_many) in
    let e = entry_at sums k m in
    subst (λ (b : List Solution). length b ≤ MINIMAL_SOLUTIONS) (get_or_default bases k [] d l) (h.each k e.0 m e.1).few

pub none_refused : (sums : List Sums) (bases : List (List Solution)) → AreKeptBases sums bases → All (λ e. IsRefused e.system → ⊥) sums
none_refused sums bases h k d l = (h.each k (get_or sums k d) l (slice_get-get_or sums k d l)).kept

module _ (d : Declarations) (t : NodeTable) (class : ℕ → ℕ) where
  module _ (tag : ℕ → Option OpId) (sorted : Bool) (sums : List Sums) (bases : List (List Solution)) where
    -- one more wheel
    pub more_wheels : (n : ℕ) (wheels : List Wheel) (e : Sums) (w : Wheel) → n < length sums → e ≡ get_or sums n e → AreWheelsBelow d t class tag sorted sums bases n wheels
        → IsBoundedWheel d t class tag sorted e (slice_index_or bases n []) w → AreWheelsBelow d t class tag sorted sums bases (n + 1) (wheels ++ w ∷ [])
    more_wheels n wheels e w l at h here = record {
      as_many = length_push wheels w ∙ ap (λ k. k + 1) h.as_many;
      each = λ i x v m is got. elim (cases_lt i n) [
        | inl below ↦
            let as_many = h.as_many in
            let short : i < length wheels = omega (arith, below, as_many) in
            let same : get_or (wheels ++ w ∷ []) i v ≡ get_or wheels i v = get_or_append_left wheels (w ∷ []) v i short in
            h.each i x v below is (slice_get-get_or wheels i v short ∙ ap Some (sym same ∙ get_or_from_slice_get (wheels ++ w ∷ []) i v v got))
        | inr above ↦
            let same : i ≡ n = omega (arith, m, above) in
            let one : e ≡ x = one_entry sums n e x (read_at sums n e l at) (subst (λ k. slice_get sums k ≡ Some x) same is) in
            let last : w ≡ v = sym (get_or_push wheels w v i (h.as_many ∙ sym same)) ∙ get_or_from_slice_get (wheels ++ w ∷ []) i v v got in
            subst (λ k. IsBoundedWheel d t class tag sorted x (slice_index_or bases k []) v) (sym same) (subst (IsBoundedWheel d t class tag sorted x (slice_index_or bases n [])) last (subst (λ z. IsBoundedWheel d t class tag sorted z (slice_index_or bases n []) w) one here))
      ];
    }

    module _ (n : ℕ) (wheels : List Wheel) (l : length sums ≤ n) (m : n ≤ length sums) (h : AreWheelsBelow d t class tag sorted sums bases n wheels) where
      pub all_wheels : AreWheels d t class tag sums bases wheels
      all_wheels = record {
        as_many = let k = h.as_many in omega (arith, l, m, k);
        each = λ i e w is got. (h.each i e w (let k = slice_get_within sums i e is in omega (arith, k, l)) is got).0;
      }

      pub all_bounds : HaveBounds d t class sorted sums wheels
      all_bounds i e w is got = (h.each i e w (let k = slice_get_within sums i e is in omega (arith, k, l)) is got).1

  -- a wheel with other bounds
  pub with_bounds : (tag : ℕ → Option OpId) (e : Sums) (basis : List Solution) (w v : Wheel) → v.constants ≡ w.constants → v.may_be_zero ≡ w.may_be_zero → v.basis ≡ w.basis → v.full ≡ w.full → IsWheel d t class tag e basis w → IsWheel d t class tag e basis v
  with_bounds tag e basis w v constants marks over full h = record {
    over = over ∙ h.over;
    asked = subst (λ cs. AreAsked d t class tag e.operator e.columns cs v.may_be_zero) (sym constants) (subst (AreAsked d t class tag e.operator e.columns w.constants) (sym marks) h.asked);
    full = subst (IsFullFor d t class e) (sym full) h.full;
  }

module _ (d : Declarations) (t : NodeTable) (class : ℕ → ℕ) (sorted : Bool) where
  module _ (sums : List Sums) (distinct : AllPairs ◌≢◌ (map (λ s. s.operator) sums)) (k : ℕ) where
    pub no_users : AreUsersBelow d t class sorted sums k 0 []
    no_users = record {
      distinct = λ i j e l m. absurd (omega (arith, m));
      exact = λ f. ((λ m. let l = m.1 in absurd (omega (arith, l))), (λ h. let l = h.before in absurd (omega (arith, l))));
      few = omega arith;
    }

    later_user : (n : ℕ) (f : OpId) → IsUserBelow d t class sorted sums k n f → IsUserBelow d t class sorted sums k (n + 1) f
    later_user n f h = record { place = h.place; before = (let l = h.before in omega (arith, l)); entry = h.entry; is = h.is; operator = h.operator; may = h.may }

    -- a user at the last place, or one before
    last_user : (n : ℕ) (e : Sums) → slice_get sums n ≡ Some e → (f : OpId) → IsUserBelow d t class sorted sums k (n + 1) f → IsUserBelow d t class sorted sums k n f ⊎ ((e.operator ≡ f) × MayBeSum d t class sorted f k)
    last_user n e is f h = elim (cases_lt h.place n) [
      | inl below ↦ inl (record { place = h.place; before = below; entry = h.entry; is = h.is; operator = h.operator; may = h.may })
      | inr above ↦
          let same : h.place ≡ n = let l = h.before in omega (arith, l, above) in
          let one : e ≡ h.entry = one_entry sums n e h.entry is (subst (λ i. slice_get sums i ≡ Some h.entry) same h.is) in
          inr (ap (λ s. s.operator) one ∙ h.operator, h.may)
    ]

    pub not_user : (n : ℕ) (users : List OpId) (e : Sums) → n < length sums → e ≡ get_or sums n e → (MayBeSum d t class sorted e.operator k → ⊥) → AreUsersBelow d t class sorted sums k n users → AreUsersBelow d t class sorted sums k (n + 1) users
    not_user n users e l at none h = record {
      distinct = h.distinct;
      exact = λ f. (
        λ m. later_user n f ((h.exact f).0 m),
        λ u. elim (last_user n e (read_at sums n e l at) f u) [
          | inl before ↦ (h.exact f).1 before
          | inr here ↦ absurd (none (subst (λ g. MayBeSum d t class sorted g k) (sym here.0) here.1))
        ],
      );
      few = let q = h.few in omega (arith, q);
    }

    pub one_user : (n : ℕ) (users : List OpId) (e : Sums) → n < length sums → e ≡ get_or sums n e → MayBeSum d t class sorted e.operator k → AreUsersBelow d t class sorted sums k n users → AreUsersBelow d t class sorted sums k (n + 1) (users ++ e.operator ∷ [])
    one_user n users e l at may h = record {
      distinct = all_pairs_push ◌≢◌ users e.operator h.distinct (λ i f m same.
          let u = (h.exact (get_or users i f)).0 (Contains-get_or users i f m) in
          operators_differ sums distinct u.place n u.entry e u.before u.is (read_at sums n e l at) (u.operator ∙ same));
      exact = λ f. (
        λ m. elim (Contains-push_cases users e.operator f m) [
          | inl before ↦ later_user n f ((h.exact f).0 before)
          | inr same ↦ record { place = n; before = omega arith; entry = e; is = read_at sums n e l at; operator = same; may = subst (λ g. MayBeSum d t class sorted g k) same may }
        ],
        λ u. elim (last_user n e (read_at sums n e l at) f u) [
          | inl before ↦ Contains-append_left users (e.operator ∷ []) f ((h.exact f).1 before)
          | inr here ↦ subst (Contains (users ++ e.operator ∷ [])) here.0 (Contains-push users e.operator)
        ],
      );
      few = let q = h.few in let p = length_push users e.operator in omega (arith, q, p);
    }

  module _ (most : ℕ) where
    pub no_shared : AreSharedBelow d t class sorted most 0 []
    no_shared = record {
      each = λ i c l. absurd (omega (arith, l));
      distinct = λ i j e l m. absurd (omega (arith, m));
      below = λ i c l. absurd (omega (arith, l));
      every = λ k l. absurd (omega (arith, l));
      few = λ i c l. absurd (omega (arith, l));
    }

    wider : (n : ℕ) (list : List ℕ) → All (λ k. k < n) list → All (λ k. k < n + 1) list
    wider n list all = All-weaker (λ k. k < n) (λ k. k < n + 1) (λ k l. omega (arith, l)) list all

    pub not_shared : (n : ℕ) (list : List SharedClass) → (IsShared d t class n → ⊥) → AreSharedBelow d t class sorted most n list → AreSharedBelow d t class sorted most (n + 1) list
    not_shared n list none h = record {
      each = h.each;
      distinct = h.distinct;
      below = wider n (classes_of list) h.below;
      every = λ k l s. elim (cases_lt k n) [
        | inl below ↦ h.every k below s
        | inr above ↦ absurd (none (subst (IsShared d t class) (omega (arith, l, above)) s))
      ];
      few = h.few;
    }

    pub one_shared : (n : ℕ) (list : List SharedClass) (c : SharedClass) → c.class ≡ n → IsSharedClass d t class sorted c → length c.users ≤ most → AreSharedBelow d t class sorted most n list → AreSharedBelow d t class sorted most (n + 1) (list ++ c ∷ [])
    one_shared n list c is here few h =
        let pushed : classes_of (list ++ c ∷ []) ≡ classes_of list ++ c.class ∷ [] = map_push (λ (c : SharedClass). c.class) list c in
        record {
          each = All-push (IsSharedClass d t class sorted) list c h.each here;
          distinct = subst (AllPairs ◌≢◌) (sym pushed) (all_pairs_push ◌≢◌ (classes_of list) c.class h.distinct (λ i k l same.
              let b = h.below i k l in omega (arith, b, same, is)));
          below = subst (All (λ k. k < n + 1)) (sym pushed) (All-push (λ k. k < n + 1) (classes_of list) c.class (wider n (classes_of list) h.below) (omega (arith, is)));
          every = λ k l s. subst (λ ks. Contains ks k) (sym pushed) (elim (cases_lt k n) [
            | inl below ↦ Contains-append_left (classes_of list) (c.class ∷ []) k (h.every k below s)
            | inr above ↦ subst (Contains (classes_of list ++ c.class ∷ [])) (omega (arith, l, above, is)) (Contains-push (classes_of list) c.class)
          ]);
          few = All-push (λ (c : SharedClass). length c.users ≤ most) list c h.few few;
        }

module _ (d : Declarations) (t : NodeTable) (class : ℕ → ℕ) (r : Reading) (reading : IsReading d t class r) (sorted : Bool) where
  -- all users are among the list
  user_listed : (k : ℕ) (users : List OpId) → AreUsersBelow d t class sorted r.sums k (length r.sums) users → (f : OpId) → MayBeSum d t class sorted f k → Contains users f
  user_listed k users h f u =
      let p = user_placed d t class r reading f k u.0 in
      (h.exact f).1 (record { place = p.place; before = slice_get_within r.sums p.place p.entry p.is; entry = p.entry; is = p.is; operator = p.operator; may = u })

  -- a shared class with its users
  pub shared_here : (k : ℕ) (users us : List OpId) → us ≡ users → AreUsersBelow d t class sorted r.sums k (length r.sums) users → IsShared d t class k → k < length t.nodes → IsSharedClass d t class sorted (record { class = k; users = us })
  shared_here k users us same h shared within = record {
    within = within;
    shared = shared;
    distinct = subst (AllPairs ◌≢◌) (sym same) h.distinct;
    exact = λ f. (
      λ m. ((h.exact f).0 (subst (λ xs. Contains xs f) same m)).may,
      λ u. subst (λ xs. Contains xs f) (sym same) (user_listed k users h f u),
    );
  }

-- all shared classes
pub all_shared : (d : Declarations) (t : NodeTable) → IsWellMade t → (s : State) → IsClosed d t s → (sorted : Bool) (most n : ℕ) (list : List SharedClass) → length t.nodes ≤ n → AreSharedBelow d t (class_of s) sorted most n list → AreSharedClasses d t (class_of s) sorted list
all_shared d t made s closed sorted most n list l h = record {
  each = h.each;
  distinct = h.distinct;
  every = λ k shared. h.every k (let b = column_within d t made s closed shared.first k shared.uses_first.column in omega (arith, b, l)) shared;
}

module _ (d : Declarations) (t : NodeTable) (class : ℕ → ℕ) (tag : ℕ → Option OpId) (sums : List Sums) (bases : List (List Solution)) (numbers : List ℕ) where
  -- no shared class is an alias by the operator at this place
  abbrev pub HasNone : ℕ → Sums → Type 0
  HasNone i e = HasNoAlias d t class tag e.operator e.columns (chosen (slice_index numbers i) (vectors_of (slice_index_or bases i [])))

  pub more_none : (n : ℕ) (e : Sums) → n < length sums → e ≡ get_or sums n e → ((i : ℕ) (x : Sums) → i < n → slice_get sums i ≡ Some x → HasNone i x) → HasNone n e
      → (i : ℕ) (x : Sums) → i < n + 1 → slice_get sums i ≡ Some x → HasNone i x
  more_none n e l at before here i x m is = elim (cases_lt i n) [
    | inl below ↦ before i x below is
    | inr above ↦
        let same : i ≡ n = omega (arith, m, above) in
        let one : e ≡ x = one_entry sums n e x (read_at sums n e l at) (subst (λ k. slice_get sums k ≡ Some x) same is) in
        subst (λ k. HasNone k x) (sym same) (subst (HasNone n) one here)
  ]
