-- Pieces of solutions, counted and laid out for a class.
use Rattle.std.proofs.Common.{◌≡◌, ℕ, zero, suc, ◌+◌, ◌<◌, ◌≤◌, Bool, true, false, List, [], ◌∷◌, length, get_or, sym, ap, subst, inl, inr, arith, Contains, sum_by}
use Rattle.std.proofs.lemmas.Bool.{cases_Bool}
use Rattle.fvn_base.proofs.Membership.{contains_here, contains_later, contains_cases, contains_none}
use Rattle.fvn_forms.specs.Flat.{FlatTerm}
use Rattle.fvn_forms.specs.Order.{same_flat}
use Rattle.fvn_forms.specs.InOrder.{one_if, count}
use Rattle.fvn_forms.proofs.InOrder.{count_append, count_itself}
use Rattle.fvn_forms.proofs.Order.{same_flat_is}
use Rattle.fvn_flat.specs.SolvedLists.{component}
use Rattle.fvn_combine_complete.specs.LaidOut.{copies, laid_for}

pub contains_counted : (q : FlatTerm) (l : List FlatTerm) → 0 < count q l → Contains l q
contains_counted q [] h = absurd (omega (arith, h))
contains_counted q (p ∷ l) h = elim (cases_Bool (same_flat q p)) [
  | inl e ↦ subst (Contains (p ∷ l)) (sym (same_flat_is q p e)) (contains_here p l)
  | inr n ↦ contains_later p l q (contains_counted q l (let m = ap one_if n in omega (arith, h, m)))
]

pub counted_contained : (q : FlatTerm) (l : List FlatTerm) → Contains l q → 0 < count q l
counted_contained q [] c = absurd (contains_none q c)
counted_contained q (p ∷ l) c = elim (contains_cases p l q c) [
  | inl e ↦ (let m = count_itself q l in let f = ap (λ r. count q (r ∷ l)) e in omega (arith, m, f))
  | inr r ↦ (let m = counted_contained q l r in omega (arith, m))
]

-- a list with a member has one that is counted
pub some_counted : (l : List FlatTerm) → 1 ≤ length l → (q : FlatTerm) × (0 < count q l)
some_counted [] n = absurd (omega (arith, n))
some_counted (q ∷ qs) n = (q, let m = count_itself q qs in omega (arith, m))

-- in a list of one no form stands twice
pub count_one : (q p : FlatTerm) → count q (p ∷ []) ≤ 1
count_one q p = go (same_flat q p)
  where
    go : (b : Bool) → one_if b + 0 ≤ 1
    go true = omega arith
    go false = omega arith

count_copies_some : (q : FlatTerm) (n : ℕ) (z : List FlatTerm) → 0 < n → Contains z q → 0 < count q (copies n z)
count_copies_some q zero z h c = absurd (omega (arith, h))
count_copies_some q (suc n) z h c = let a = count_append q z (copies n z) in let b = counted_contained q z c in omega (arith, a, b)

-- pieces of a solution that has the class are laid out for it
pub laid_counts : (columns : List ℕ) (k : ℕ) (q : FlatTerm) (vs : List (List ℕ)) (zs : List (List FlatTerm)) (i : ℕ) → i < length vs → 0 < component columns (get_or vs i []) k → Contains (get_or zs i []) q → 0 < count q (laid_for columns k vs zs)
laid_counts columns k q [] zs i l h c = absurd (omega (arith, l))
laid_counts columns k q (v ∷ vs) [] i l h c = absurd (contains_none q c)
laid_counts columns k q (v ∷ vs) (z ∷ zs) zero l h c =
    let a = count_append q (copies (component columns v k) z) (laid_for columns k vs zs) in
    let b = count_copies_some q (component columns v k) z h c in
    omega (arith, a, b)
laid_counts columns k q (v ∷ vs) (z ∷ zs) (suc i) l h c =
    let a = count_append q (copies (component columns v k) z) (laid_for columns k vs zs) in
    let b = laid_counts columns k q vs zs i (omega (arith, l)) h c in
    omega (arith, a, b)

-- what is added up of alike numbers is alike
pub sum_by_alike : (f g : List ℕ → ℕ) → ((v : List ℕ) → f v ≡ g v) → (l : List (List ℕ)) → sum_by f l ≡ sum_by g l
sum_by_alike f g e l = λ i. sum_by (λ v. e v i) l
