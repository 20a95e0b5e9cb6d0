-- What is left of a term's summands without those of another term, and terms that have the same summands.
use Rattle.std.proofs.Common.{◌≡◌, ◌⊎◌, ℕ, ◌+◌, ◌<◌, ◌≤◌, Bool, true, false, List, [], ◌∷◌, refl, ap, ◌∙◌, sym, inl, inr, arith, subst, Contains}
use Rattle.std.specs.Prelude.{if◌then◌else◌}
use Rattle.std.specs.List.{AllByRecursion}
use Rattle.std.proofs.lemmas.Bool.{cases_Bool}
use Rattle.fvn_base.proofs.Membership.{contains_here, contains_later, contains_cases, contains_none}
use Rattle.fvn_terms.specs.declared.plain.OpId.{OpId}
use Rattle.fvn_terms.specs.declared.plain.SortId.{SortId}
use Rattle.fvn_terms.specs.declared.declarations.Rank.{Rank}
use Rattle.fvn_terms.specs.declared.declarations.Declarations.{Declarations}
use Rattle.fvn_terms.specs.Term.{Term}
use Rattle.fvn_terms.specs.Signature.{kind, declared, axioms, HasKind, IsTerm}
use Rattle.fvn_terms.specs.Equality.{two, IsAssociative, BEqual}
use Rattle.fvn_forms.specs.Flat.{FlatTerm, plain}
use Rattle.fvn_forms.specs.Order.{same_flat}
use Rattle.fvn_forms.specs.InOrder.{one_if, count, SameCounts}
use Rattle.fvn_forms.specs.Canon.{parts, sum, canon}
use Rattle.fvn_forms.specs.Settled.{IsPiece, Settled}
use Rattle.fvn_forms.specs.FitsKinds.{FitsKinds}
use Rattle.fvn_forms.proofs.Order.{same_flat_is}
use Rattle.fvn_forms.proofs.InOrder.{count_itself, count_sort, remove, count_remove}
use Rattle.fvn_forms.proofs.Sums.{sum_parts, sum_same_counts, parts_sum, parts_are_pieces, parts_are_settled}
use Rattle.fvn_forms.proofs.Build.{sum_settled, count_parts_build}
use Rattle.fvn_forms.proofs.Eval.{canon_settled, canon_plain}
use Rattle.fvn_forms.proofs.ToCanon.{canon_of_kind, b_equal_iff_canon}
use Rattle.fvn_forms.proofs.KindsOfSums.{parts_of_kind, two_of_kind, sum_of_forms_of_kind}

-- what is counted is a member
pub contains_counted : (q : FlatTerm) (l : List FlatTerm) → 0 < count q l → Contains l q
contains_counted q [] h = absurd (omega (arith, h))
contains_counted q (p ∷ l) h = elim (cases_Bool (same_flat q p)) [
  | inl e ↦ subst (Contains (p ∷ l)) (sym (same_flat_is q p e)) (contains_here p l)
  | inr n ↦ contains_later p l q (contains_counted q l (let m = ap one_if n in omega (arith, h, m)))
]

pub counted_contained : (q : FlatTerm) (l : List FlatTerm) → Contains l q → 0 < count q l
counted_contained q [] c = absurd (contains_none q c)
counted_contained q (p ∷ l) c = elim (contains_cases p l q c) [
  | inl e ↦ (let m = count_itself q l in let f = ap (λ r. count q (r ∷ l)) e in omega (arith, m, f))
  | inr r ↦ (let m = counted_contained q l r in omega (arith, m))
]

-- each form stands in the first list no more often than in the second
abbrev pub IsWithin : List FlatTerm → List FlatTerm → Type 0
IsWithin m l = (q : FlatTerm) → count q m ≤ count q l

-- the first list without the forms of the second
abbrev without : List FlatTerm → List FlatTerm → List FlatTerm
without l [] = l
without l (t ∷ m) = without (remove t l) m

first_within : (t : FlatTerm) (m l : List FlatTerm) → IsWithin (t ∷ m) l → 1 ≤ count t l
first_within t m l h = let e = count_itself t m in let k = h t in omega (arith, e, k)

rest_within : (t : FlatTerm) (m l : List FlatTerm) → IsWithin (t ∷ m) l → IsWithin m (remove t l)
rest_within t m l h = λ q. let a = count_remove t q l (first_within t m l h) in let b = h q in omega (arith, a, b)

count_without : (l m : List FlatTerm) → IsWithin m l → (q : FlatTerm) → count q (without l m) + count q m ≡ count q l
count_without l [] h q = omega arith
count_without l (t ∷ m) h q =
    let a = count_remove t q l (first_within t m l h) in
    let b = count_without (remove t l) m (rest_within t m l h) q in
    omega (arith, a, b)

each_remove : (P : FlatTerm → Type 0) (q : FlatTerm) (l : List FlatTerm) → AllByRecursion P l → AllByRecursion P (remove q l)
each_remove P q [] h = tt
each_remove P q (t ∷ l) h = go (same_flat q t) (each_remove P q l h.1)
  where
    go : (b : Bool) → AllByRecursion P (remove q l) → AllByRecursion P (if b then l else t ∷ remove q l)
    go true k = h.1
    go false k = (h.0, k)

each_without : (P : FlatTerm → Type 0) (l m : List FlatTerm) → AllByRecursion P l → AllByRecursion P (without l m)
each_without P l [] h = h
each_without P l (t ∷ m) h = each_without P (remove t l) m (each_remove P t l h)

-- some rank of f gives the kind
pub record Gives (d : Declarations) (f : OpId) (k : SortId) : Type 0 where
  pub rank : Rank
  pub listed : Contains (declared d f).ranks rank
  pub gives : kind d rank.result ≡ k

-- the first term is the second, or a sum of f of it and a rest, up to the axioms
abbrev pub Splits : Declarations → OpId → Term → Term → Type 0
Splits d f a o = BEqual d a o ⊎ ((rest : Term) × BEqual d a (two f o rest))

module _ (d : Declarations) (f : OpId) where
  -- the summands of a term
  abbrev pub summands : Term → List FlatTerm
  summands t = parts d f (canon d t)

  -- how often q is one of them
  abbrev pub often : FlatTerm → Term → ℕ
  often q t = count q (summands t)

  same_parts : (v w : FlatTerm) → Settled d v → Settled d w → SameCounts (parts d f v) (parts d f w) → v ≡ w
  same_parts v w hv hw same = sym (sum_parts d f v hv) ∙ sum_same_counts d f (parts d f v) (parts d f w) same ∙ sum_parts d f w hw

  module _ (fits : FitsKinds d) where
    -- terms that have the same summands are equal modulo the axioms
    pub same_summands : (a b : Term) → IsTerm d a → IsTerm d b → ((q : FlatTerm) → often q a ≡ often q b) → BEqual d a b
    same_summands a b ha hb same = (b_equal_iff_canon d fits a b ha hb).1 (same_parts (canon d a) (canon d b) (canon_settled d a) (canon_settled d b) same)

    module _ (assoc : IsAssociative (axioms d f)) where
      -- the summands of a sum of two
      pub often_two : (q : FlatTerm) (a b : Term) → often q (two f a b) ≡ often q a + often q b
      often_two q a b = count_parts_build d f assoc q (canon d a) (canon d b) (canon_settled d a) (canon_settled d b)

      module _ (a o : Term) (k : SortId) (ha : HasKind d a k) (ho : HasKind d o k) (given : Gives d f k) (held : (q : FlatTerm) → often q o ≤ often q a) where
        abbrev left : List FlatTerm
        left = without (summands a) (summands o)

        left_counts : (q : FlatTerm) → count q left + often q o ≡ often q a
        left_counts q = count_without (summands a) (summands o) held q

        left_kinded : AllByRecursion (λ p. HasKind d (plain p) k) left
        left_kinded = each_without (λ p. HasKind d (plain p) k) (summands a) (summands o) (parts_of_kind d fits f assoc k (canon d a) (canon_of_kind d fits a k ha))

        left_pieces : AllByRecursion (IsPiece d f) left
        left_pieces = each_without (IsPiece d f) (summands a) (summands o) (parts_are_pieces d f (canon d a) (canon_settled d a))

        left_settled : AllByRecursion (Settled d) left
        left_settled = each_without (Settled d) (summands a) (summands o) (parts_are_settled d f (canon d a) (canon_settled d a))

        -- the sum of what is left
        module _ (x : FlatTerm) (xs : List FlatTerm) (is : left ≡ x ∷ xs) where
          abbrev rest : Term
          rest = plain (sum d f (x ∷ xs))

          rest_kinded : HasKind d rest k
          rest_kinded = sum_of_forms_of_kind d fits f assoc k given.rank given.listed given.gives x xs (subst (AllByRecursion (λ p. HasKind d (plain p) k)) is left_kinded)

          rest_settled : Settled d (sum d f (x ∷ xs))
          rest_settled = sum_settled d f assoc (x ∷ xs) (subst (AllByRecursion (IsPiece d f)) is left_pieces) (subst (AllByRecursion (Settled d)) is left_settled) (λ e. cc)

          rest_counts : (q : FlatTerm) → often q rest ≡ count q left
          rest_counts q =
              ap (λ v. count q (parts d f v)) (canon_plain d (sum d f (x ∷ xs)) rest_settled)
              ∙ ap (count q) (parts_sum d f (x ∷ xs) (subst (AllByRecursion (IsPiece d f)) is left_pieces))
              ∙ count_sort q (x ∷ xs)
              ∙ ap (count q) (sym is)

          split_off : BEqual d a (two f o rest)
          split_off =
              same_summands a (two f o rest) (k, ha) (k, two_of_kind d fits f assoc k given.rank given.listed given.gives o rest ho rest_kinded)
              (λ q. let m = often_two q o rest in let l = left_counts q in let r = rest_counts q in omega (arith, m, l, r))

        -- a term that holds the summands of another of its kind is it, or a sum of it and a rest
        pub splits : Splits d f a o
        splits = go left refl
          where
            go : (l : List FlatTerm) → left ≡ l → Splits d f a o
            go [] e = inl (same_summands a o (k, ha) (k, ho) (λ q. let c = left_counts q in let n = ap (count q) e in omega (arith, c, n)))
            go (x ∷ xs) e = inr (rest x xs e, split_off x xs e)
