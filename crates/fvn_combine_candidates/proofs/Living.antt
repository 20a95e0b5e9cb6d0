-- Rows of which each solution that is alive is zero at one, and minimal solutions that are zero at rows.
use Rattle.std.proofs.Common.{◌≡◌, ◌≢◌, ◌⊎◌, ℕ, zero, suc, ◌+◌, ◌<◌, ◌≤◌, ℤ, pos, List, [], ◌∷◌, ◌++◌, length, get_or, refl, sym, ap, ◌∙◌, subst, inl, inr, arith, All, Contains, Option, None, Some, of_z, w32}
use Rattle.std.specs.Prelude.{AllPairs, IfSome, slice_get}
use Rattle.std.proofs.lemmas.Bool.{cases_lt}
use Rattle.std.proofs.lemmas.List.{get_or_past, length_push, get_or_append_left, get_or_push}
use Rattle.std.proofs.lemmas.List.Elements.{All-nil, All-cons, All-contains, All-push, Contains-append_left, Contains-get_or}
use Rattle.fvn_base.specs.Order.{IsBefore}
use Rattle.fvn_terms.specs.declared.plain.OpId.{OpId}
use Rattle.fvn_terms.specs.declared.declarations.Declarations.{Declarations}
use Rattle.fvn_terms.specs.Signature.{axioms}
use Rattle.fvn_terms.specs.Equality.{IsAssociative}
use Rattle.fvn_lindio.specs.declared.system.Row.{Row}
use Rattle.fvn_lindio.specs.declared.system.System.{System}
use Rattle.fvn_lindio.specs.declared.system.Solution.{Solution}
use Rattle.fvn_lindio.specs.Systems.{above, IsZeroAt, Solves, IsMinimal, rows_of, vectors_of}
use Rattle.fvn_combine_candidates.specs.inner.Placed.{GrowsBy, IsOrderedOf}
use Rattle.fvn_acunify.specs.declared.limits.TheConstants.{LISTED_SOLUTIONS}
use Rattle.fvn_flat.specs.SolvedLists.{component}
use Rattle.fvn_combine_nodes.specs.Table.{NodeTable}
use Rattle.fvn_combine_nodes.specs.States.{class_of}
use Rattle.fvn_combine_nodes.specs.declared.state.State.{State}
use Rattle.fvn_combine_nodes.proofs.Lists.{all_from}
use Rattle.fvn_combine_systems.proofs.Weighing.{component_at}
use Rattle.fvn_combine_leaves.specs.Leaves.{IsAlive, IsSingle, IsSolid}
use Rattle.fvn_combine_leaves.specs.Readings.{AreSums, AreHeads}
use Rattle.fvn_combine_leaves.specs.declared.reading.Sums.{Sums}
use Rattle.fvn_combine_choices.proofs.Using.{solution_uses}
use Rattle.fvn_combine_candidates.specs.inner.Alive.{IsOtherHead, AreKnownApart, IsMarking, AreZeroAt, AreGathered, IsAliveBy, HasRowFor, AreRowsBelow, AreCovering, IsBasisBy, IsWholeBasis, IsAliveBasis}
use Rattle.fvn_combine_candidates.proofs.Zeroed.{IsMark, mark_at, zero_where}
use Rattle.fvn_combine_candidates.proofs.Entries.{read_at, one_entry, placed_at}

-- the marks of the first columns, which are 1 only where the class is known to differ from class k
pub record AreMarksBelow (s : State) (heads : List (Option OpId)) (e : Sums) (k n : ℕ) (row : List ℤ) : Type 0 where
  pub sized : length row ≡ n
  pub marks : All (λ c. (c ≡ pos 0) ⊎ (c ≡ pos 1)) row
  pub apart : (j : ℕ) → j < n → get_or row j (pos 0) ≡ pos 1 → AreKnownApart s heads e.operator k (get_or e.columns j 0)

-- a marked column that the vector has
abbrev HasMarked : List ℤ → List ℕ → ℕ → Type 0
HasMarked row v n = (j : ℕ) × (j < n) × (get_or row j (pos 0) ≡ pos 1) × (0 < get_or v j 0)

abbrev HasNoMarked : List ℤ → List ℕ → ℕ → Type 0
HasNoMarked row v n = (j : ℕ) → j < n → get_or row j (pos 0) ≡ pos 1 → get_or v j 0 ≡ 0

no_mark : (c : ℤ) → c ≡ pos 0 → c ≡ pos 1 → ⊥
no_mark c z o = let f : 0 ≡ 1 = ap above (sym z ∙ o) in omega (arith, f)

-- a mark that is read as zero is none
pub zero_read : (row : List ℤ) → All IsMark row → (i : ℕ) → of_z w32 (get_or row i (pos 0)) ≡ 0 → get_or row i (pos 0) ≡ pos 0
zero_read row h i z = elim (mark_at row h i) [
  | inl e ↦ e
  | inr o ↦ let f : 1 ≡ 0 = sym (ap (of_z w32) o) ∙ z in absurd (omega (arith, f))
]

marked_part : (row : List ℤ) (v : List ℕ) → All IsMark row → (n : ℕ) → HasMarked row v n ⊎ HasNoMarked row v n
marked_part row v h zero = inr (λ j l e. absurd (omega (arith, l)))
marked_part row v h (suc n) = go (marked_part row v h n) (mark_at row h n) (cases_lt 0 (get_or v n 0))
  where
    last : HasNoMarked row v n → (get_or row n (pos 0) ≡ pos 1 → get_or v n 0 ≡ 0) → HasNoMarked row v (suc n)
    last none here j l e = split (cases_lt j n)
      where
        split : (j < n) ⊎ (n ≤ j) → get_or v j 0 ≡ 0
        split (inl m) = none j m e
        split (inr m) =
            let same : n ≡ j = omega (arith, l, m) in
            subst (λ i. get_or row i (pos 0) ≡ pos 1 → get_or v i 0 ≡ 0) same here e

    go : HasMarked row v n ⊎ HasNoMarked row v n → IsMark (get_or row n (pos 0)) → (0 < get_or v n 0) ⊎ (get_or v n 0 ≤ 0) → HasMarked row v (suc n) ⊎ HasNoMarked row v (suc n)
    go (inl f) m p = let l = f.1 in inl (f.0, omega (arith, l), f.2, f.3)
    go (inr none) (inl z) p = inr (last none (λ o. absurd (no_mark (get_or row n (pos 0)) z o)))
    go (inr none) (inr o) (inl p) = inl (n, omega arith, o, p)
    go (inr none) (inr o) (inr p) = inr (last none (λ _. omega (arith, p)))

-- ---- rows

pub no_marking : IsMarking 0 []
no_marking = record { sized = refl; marks = All-nil IsMark }

pub one_marking : (n : ℕ) (marks : List ℤ) (c : ℤ) → IsMark c → IsMarking n marks → IsMarking (n + 1) (marks ++ c ∷ [])
one_marking n marks c m h = record { sized = length_push marks c ∙ ap (λ i. i + 1) h.sized; marks = All-push IsMark marks c h.marks m }

module _ (s : State) (heads : List (Option OpId)) (e : Sums) where
  pub no_marks : (k : ℕ) → AreMarksBelow s heads e k 0 []
  no_marks k = record { sized = refl; marks = All-nil IsMark; apart = λ j l o. absurd (omega (arith, l)) }

  pub one_marked : (k n : ℕ) (marks : List ℤ) → AreKnownApart s heads e.operator k (get_or e.columns n 0) → AreMarksBelow s heads e k n marks → AreMarksBelow s heads e k (n + 1) (marks ++ pos 1 ∷ [])
  one_marked k n marks apart h = record {
    sized = length_push marks (pos 1) ∙ ap (λ i. i + 1) h.sized;
    marks = All-push IsMark marks (pos 1) h.marks (inr refl);
    apart = λ j l o. elim (cases_lt j n) [
      | inl m ↦ h.apart j m (sym (get_or_append_left marks (pos 1 ∷ []) (pos 0) j (let q = h.sized in omega (arith, m, q))) ∙ o)
      | inr m ↦ let same : n ≡ j = omega (arith, l, m) in subst (λ i. AreKnownApart s heads e.operator k (get_or e.columns i 0)) same apart
    ];
  }

  pub one_unmarked : (k n : ℕ) (marks : List ℤ) → AreMarksBelow s heads e k n marks → AreMarksBelow s heads e k (n + 1) (marks ++ pos 0 ∷ [])
  one_unmarked k n marks h = record {
    sized = length_push marks (pos 0) ∙ ap (λ i. i + 1) h.sized;
    marks = All-push IsMark marks (pos 0) h.marks (inl refl);
    apart = λ j l o. elim (cases_lt j n) [
      | inl m ↦ h.apart j m (sym (get_or_append_left marks (pos 0 ∷ []) (pos 0) j (let q = h.sized in omega (arith, m, q))) ∙ o)
      | inr m ↦
          let same : j ≡ n = omega (arith, l, m) in
          absurd (no_mark (get_or (marks ++ pos 0 ∷ []) j (pos 0)) (get_or_push marks (pos 0) (pos 0) j (h.sized ∙ sym same)) o)
    ];
  }

  module _ (first : Row) (marking : IsMarking (length e.columns) first.coefficients) where
    pub rows_start : AreRowsBelow s heads e first 0 (first ∷ [])
    rows_start = record {
      listed = (0, omega arith, refl);
      markings = All-cons (λ (row : Row). IsMarking (length e.columns) row.coefficients) first [] marking (All-nil (λ (row : Row). IsMarking (length e.columns) row.coefficients));
      each = λ i l o. absurd (omega (arith, l));
    }

    module _ (n : ℕ) (rows : List Row) (h : AreRowsBelow s heads e first n rows) where
      pub rows_unmarked : get_or first.coefficients n (pos 0) ≡ pos 0 → AreRowsBelow s heads e first (n + 1) rows
      rows_unmarked z = record {
        listed = h.listed;
        markings = h.markings;
        each = λ i l o. elim (cases_lt i n) [
          | inl m ↦ h.each i m o
          | inr m ↦ let same : i ≡ n = omega (arith, l, m) in absurd (no_mark (get_or first.coefficients n (pos 0)) z (subst (λ j. get_or first.coefficients j (pos 0) ≡ pos 1) same o))
        ];
      }

      -- the row of the next column is there
      pub rows_there : HasRowFor s heads e rows (get_or e.columns n 0) → AreRowsBelow s heads e first (n + 1) rows
      rows_there row = record {
        listed = h.listed;
        markings = h.markings;
        each = λ i l o. elim (cases_lt i n) [
          | inl m ↦ h.each i m o
          | inr m ↦ let same : n ≡ i = omega (arith, l, m) in subst (λ j. HasRowFor s heads e rows (get_or e.columns j 0)) same row
        ];
      }

      -- or is put there
      pub rows_more : (row : Row) → IsMarking (length e.columns) row.coefficients → AreRowsBelow s heads e first n (rows ++ row ∷ [])
      rows_more row marks = record {
        listed = Contains-append_left rows (row ∷ []) first h.listed;
        markings = All-push (λ (r : Row). IsMarking (length e.columns) r.coefficients) rows row h.markings marks;
        each = λ i l o. let r = h.each i l o in record { row = r.row; listed = Contains-append_left rows (row ∷ []) r.row r.listed; marking = r.marking; apart = r.apart };
      }

    pub covering : (n : ℕ) (rows : List Row) → length e.columns ≤ n → AreRowsBelow s heads e first n rows → AreCovering s heads e rows
    covering n rows full h = record {
      markings = h.markings;
      covers = λ v long alive. elim (marked_part first.coefficients v marking.marks (length e.columns)) [
        | inl f ↦
            let l = f.1 in
            let r = h.each f.0 (omega (arith, l, full)) f.2 in (
              r.row,
              r.listed,
              zero_where r.row.coefficients v r.marking.marks (λ j one. elim (cases_lt j (length e.columns)) [
                | inl m ↦ elim (cases_lt 0 (get_or v j 0)) [
                  | inl p ↦ absurd (alive f.0 j f.1 m f.3 p (r.apart j m one))
                  | inr z ↦ omega (arith, z)
                ]
                | inr m ↦ get_or_past v j 0 (omega (arith, m, long))
              ]),
            )
        | inr none ↦ (
          first,
          h.listed,
          zero_where first.coefficients v marking.marks (λ j one. elim (cases_lt j (length e.columns)) [
            | inl m ↦ none j m one
            | inr m ↦ get_or_past v j 0 (omega (arith, m, long))
          ]),
        )
      ];
    }

  -- what is gathered at such rows
  pub basis_by : (rows : List Row) (list : List Solution) → e.system.columns ≡ length e.columns → AreCovering s heads e rows → AreGathered e.system rows (length rows) list → length list ≤ LISTED_SOLUTIONS → IsBasisBy s heads e list
  basis_by rows list wide covering g few = record {
    is_basis = record { minimal = g.minimal; ordered = g.ordered; few = few; narrow = g.narrow };
    alive = λ v m alive.
        let r = covering.covers v (m.solves.sized ∙ wide) alive in
        g.all r.1.0 r.0 r.1.1 (placed_at rows r.0 r.1) v m r.2;
  }

-- ---- solutions

module _ (s : System) (rows : List Row) where
  pub gathered_start : AreGathered s rows 0 []
  gathered_start = record {
    minimal = λ v m. let l = m.1 in absurd (omega (arith, l));
    ordered = λ i j d l m. absurd (omega (arith, m));
    narrow = λ k d l. absurd (omega (arith, l));
    all = λ i row l. absurd (omega (arith, l));
  }

  pub gathered_more : (n : ℕ) (row : Row) (list more new : List Solution) → n < length rows → row ≡ get_or rows n row → AreGathered s rows n list → AreZeroAt s row.coefficients more
      → AllPairs IsBefore (vectors_of new) → GrowsBy (Contains (vectors_of more)) (vectors_of list) (vectors_of new) → AreGathered s rows (n + 1) new
  gathered_more n row list more new l at h z ordered grows = record {
    minimal = λ v m. elim ((grows v).0 m) [ inl o ↦ h.minimal v o | inr x ↦ ((z.exact v).0 x).0 ];
    ordered = ordered;
    narrow = λ k d m.
        let v = get_or (vectors_of new) k d in
        elim ((grows v).0 (Contains-get_or (vectors_of new) k d m)) [
          | inl o ↦ All-contains (All (λ a. a ≤ 65535)) (vectors_of list) v h.narrow o
          | inr x ↦ All-contains (All (λ a. a ≤ 65535)) (vectors_of more) v z.narrow x
        ];
    all = λ i r m is v minimal zero. elim (cases_lt i n) [
      | inl b ↦ (grows v).1 (inl (h.all i r b is v minimal zero))
      | inr b ↦
          let same : i ≡ n = omega (arith, m, b) in
          let one : row ≡ r = one_entry rows n row r (read_at rows n row l at) (subst (λ j. slice_get rows j ≡ Some r) same is) in
          (grows v).1 (inr ((z.exact v).1 (minimal, subst (λ (x : Row). IsZeroAt v x.coefficients) (sym one) zero)))
    ];
  }

  -- what is gathered has a part for each column
  pub gathered_ordered : (n : ℕ) (list : List Solution) → AreGathered s rows n list → IsOrderedOf s.columns (vectors_of list)
  gathered_ordered n list h = record {
    sized = all_from (λ v. length v ≡ s.columns) (vectors_of list) (λ v m. (h.minimal v m).solves.sized);
    ordered = h.ordered;
  }

  -- all rows
  pub gathered_all : (n : ℕ) (list : List Solution) → length rows ≤ n → AreGathered s rows n list → AreGathered s rows (length rows) list
  gathered_all n list l h = record {
    minimal = h.minimal;
    ordered = h.ordered;
    narrow = h.narrow;
    all = λ i row m. h.all i row (omega (arith, l, m));
  }

pub zero_sized : (s : System) (row : List ℤ) (basis : List Solution) → AreZeroAt s row basis → All (λ v. length v ≡ s.columns) (vectors_of basis)
zero_sized s row basis h = all_from (λ v. length v ≡ s.columns) (vectors_of basis) (λ v m. ((h.exact v).0 m).0.solves.sized)

-- ---- solutions that are alive

module _ (d : Declarations) (t : NodeTable) (s : State) (e : Sums) (assoc : IsAssociative (axioms d e.operator)) (are : AreSums d t (class_of s) e) where
  -- all minimal solutions are all that are alive
  pub whole_alive : (basis : List Solution) → IsWholeBasis e.system basis → IsAliveBasis d t s e basis
  whole_alive basis h = record { is_basis = h.is_basis; alive = λ v m _. h.all v m }

  pub whole_alive_where : (found : Option (List Solution)) → IfSome found (IsWholeBasis e.system) → IfSome found (IsAliveBasis d t s e)
  whole_alive_where None h = tt
  whole_alive_where (Some basis) h = whole_alive basis h

  module _ (heads : List (Option OpId)) (read : AreHeads d t (class_of s) heads) (within : All (λ c. c < length t.nodes) e.columns) where
    single : (v : List ℕ) → Solves e.system.columns (rows_of e.system) v → (i : ℕ) → i < length e.columns → 0 < get_or v i 0 → (g : OpId) → IsOtherHead heads e.operator (get_or e.columns i 0) g
        → (0 < component e.columns v (get_or e.columns i 0)) × IsSolid d t (class_of s) g (get_or e.columns i 0) × IsSingle d t (class_of s) e.operator (get_or e.columns i 0)
    single v h i l p g other =
        let k = get_or e.columns i 0 in
        let has : 0 < component e.columns v k = subst (λ n. 0 < n) (sym (component_at e.columns v are.is_system.distinct i l)) p in
        let solid = (read.exact k g (within i 0 l)).0 other.read in
        (has, solid, record { used = solution_uses d t (class_of s) e.operator e.columns e.system are.is_system assoc v h k has; head = g; other = other.other; solid = solid })

    -- what is alive is alive by the heads that are read
    alive_by : (v : List ℕ) → IsMinimal e.system.columns (rows_of e.system) v → IsAlive d t s e.operator e.columns v → IsAliveBy s heads e v
    alive_by v m alive i j l n p q apart =
        let a = single v m.solves i l p apart.first apart.heads_first in
        let b = single v m.solves j n q apart.second apart.heads_second in
        alive (get_or e.columns i 0) (get_or e.columns j 0) apart.differ a.2 b.2 a.0 b.0
        (elim apart.told [
          | inl o ↦ inl (record { first = apart.first; second = apart.second; different = o; heads_first = a.1; heads_second = b.1 })
          | inr o ↦ inr o
        ])

    pub by_heads_alive : (basis : List Solution) → IsBasisBy s heads e basis → IsAliveBasis d t s e basis
    by_heads_alive basis h = record { is_basis = h.is_basis; alive = λ v m alive. h.alive v m (alive_by v m alive) }
