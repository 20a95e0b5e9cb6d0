-- The members of sums.
use Rattle.std.proofs.Common.{◌≡◌, ℕ, ◌+◌, ◌<◌, ◌≤◌, Bool, List, ◌∷◌, ◌++◌, map, replicate, length, get_or, drop, sym, ap, ◌∙◌, append_assoc, arith}
use Rattle.std.specs.Prelude.{if◌then◌else◌}
use Rattle.std.proofs.lemmas.Bool.{eq-eqb, ne_eqb}
use Rattle.std.proofs.lemmas.List.{append-nil, drop_all, get_or_default}
use Rattle.fvn_base.proofs.Drops.{drop-at}
use Rattle.fvn_forms.specs.Flat.{FlatTerm, fvar}
use Rattle.fvn_flat.specs.SolvedLists.{component, members}
use Rattle.fvn_combine_triangular.specs.inner.Planning.{part_of}
use Rattle.fvn_combine_triangular.specs.declared.shares.Share.{Share}

-- a column of another class
pub component_other : (columns v : List ℕ) (j k c : ℕ) → length v ≡ length columns → j < length columns → c ≡ get_or columns j c → (c ≡ k → ⊥) → component (drop j columns) (drop j v) k ≡ component (drop (j + 1) columns) (drop (j + 1) v) k
component_other columns v j k c sized l is other =
    let left = drop-at columns j c l is in
    let within : j < length v = omega (arith, sized, l) in
    let right = drop-at v j (get_or v j 0) within (get_or_default v j 0 (get_or v j 0) within) in
    ap (λ (cs : List ℕ). component cs (drop j v) k) left
    ∙ ap (λ (xs : List ℕ). component (c ∷ drop (j + 1) columns) xs k) right
    ∙ ap (λ (b : Bool). if b then get_or v j 0 else component (drop (j + 1) columns) (drop (j + 1) v) k) (ne_eqb c k other)

-- the column of the class
pub component_here : (columns v : List ℕ) (j k c n : ℕ) → length v ≡ length columns → j < length columns → c ≡ get_or columns j c → c ≡ k → n ≡ get_or v j n → component (drop j columns) (drop j v) k ≡ n
component_here columns v j k c n sized l is same at =
    let left = drop-at columns j c l is in
    let right = drop-at v j n (omega (arith, sized, l)) at in
    ap (λ (cs : List ℕ). component cs (drop j v) k) left
    ∙ ap (λ (xs : List ℕ). component (c ∷ drop (j + 1) columns) xs k) right
    ∙ ap (λ (b : Bool). if b then n else component (drop (j + 1) columns) (drop (j + 1) v) k) (eq-eqb c k same)

-- the members of one more share
pub members_more : (columns : List ℕ) (shares : List Share) (i k count : ℕ) (s : Share) (old now whole : List FlatTerm) → i < length shares → s ≡ get_or shares i s → count ≡ component columns s.solution k
    → now ≡ old ++ replicate count (fvar s.variable) → old ++ members columns (map part_of (drop i shares)) k ≡ whole → now ++ members columns (map part_of (drop (i + 1) shares)) k ≡ whole
members_more columns shares i k count s old now whole l is e pushed h =
    let rest = members columns (map part_of (drop (i + 1) shares)) k in
    let first = drop-at shares i s l is in
    ap (λ m. m ++ rest) pushed
    ∙ append_assoc old (replicate count (fvar s.variable)) rest
    ∙ ap (λ m. old ++ m) (ap (λ n. replicate n (fvar s.variable) ++ rest) e ∙ ap (λ (ws : List Share). members columns (map part_of ws) k) (sym first))
    ∙ h

pub members_all : (columns : List ℕ) (shares : List Share) (i k : ℕ) (all whole : List FlatTerm) → length shares ≤ i → all ++ members columns (map part_of (drop i shares)) k ≡ whole → all ≡ whole
members_all columns shares i k all whole l h = sym (append-nil all) ∙ ap (λ (ws : List Share). all ++ members columns (map part_of ws) k) (sym (drop_all i shares l)) ∙ h
