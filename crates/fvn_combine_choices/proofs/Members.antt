-- The members of the sum to which a class is bound: the variables of parts.
use Rattle.std.proofs.Common.{◌≡◌, ℕ, zero, suc, ◌<◌, List, [], ◌∷◌, length, replicate, sum_by, refl, arith, Contains}
use Rattle.std.specs.List.{AllByRecursion}
use Rattle.std.proofs.lemmas.List.{length-append, length-replicate}
use Rattle.std.proofs.lemmas.List.Sums.{sum_by-cons}
use Rattle.fvn_base.proofs.Membership.{contains_here, contains_later}
use Rattle.fvn_forms.specs.Flat.{FlatTerm, fvar}
use Rattle.fvn_forms.proofs.InOrder.{each_append}
use Rattle.fvn_flat.specs.SolvedLists.{Part, component, members}

-- how often a class has the parts
abbrev pub times_in : List ℕ → ℕ → Part → ℕ
times_in columns k p = component columns p.solution k

pub length_members : (columns : List ℕ) (parts : List Part) (k : ℕ) → length (members columns parts k) ≡ sum_by (times_in columns k) parts
length_members columns [] k = refl
length_members columns (p ∷ parts) k =
    let a = length-append (replicate (times_in columns k p) (fvar p.variable)) (members columns parts k) in
    let b = length-replicate (times_in columns k p) (fvar p.variable) in
    let c = sum_by-cons (times_in columns k) p parts in
    let r = length_members columns parts k in
    omega (arith, a, b, c, r)

each_copy : (P : FlatTerm → Type 0) (n : ℕ) (t : FlatTerm) → (0 < n → P t) → AllByRecursion P (replicate n t)
each_copy P zero t h = tt
each_copy P (suc n) t h = (h (omega arith), each_copy P n t (λ l. h (omega arith)))

-- what holds of the variable of each part that the class has holds of all members
pub each_member : (P : FlatTerm → Type 0) (columns : List ℕ) (parts : List Part) (k : ℕ) → ((p : Part) → Contains parts p → 0 < times_in columns k p → P (fvar p.variable)) → AllByRecursion P (members columns parts k)
each_member P columns [] k h = tt
each_member P columns (p ∷ parts) k h =
    each_append P (replicate (times_in columns k p) (fvar p.variable)) (members columns parts k)
    (each_copy P (times_in columns k p) (fvar p.variable) (h p (contains_here p parts)))
    (each_member P columns parts k (λ q m. h q (contains_later p parts q m)))
