-- Lists of flat forms in order: lists with the same counts are the same list in order.
use Rattle.std.proofs.Common.{◌≡◌, ◌+◌, ◌≤◌, Bool, true, false, List, [], ◌∷◌, ◌++◌, length, refl, sym, ap, ◌∙◌, arith}
use Rattle.std.specs.Prelude.{if◌then◌else◌}
use Rattle.std.specs.declared.cmp.Ordering.{Ordering}
use Rattle.std.specs.declared.cmp.Ordering.TheVariants.{Less, Equal, Greater}
use Rattle.std.specs.Ordering.{ordering_reverse, is_gt}
use Rattle.std.specs.List.{AllByRecursion}
use Rattle.std.proofs.lemmas.Cmp.{upto}
use Rattle.fvn_forms.specs.Flat.{FlatTerm}
use Rattle.fvn_forms.specs.Order.{flat_cmp, same_flat}
use Rattle.fvn_forms.specs.InOrder.{InOrder, insert, sort, one_if, count, SameCounts}
use Rattle.fvn_forms.proofs.Order.{flat_cmp_total, flat_ties, same_flat_itself, same_flat_is}

abbrev after : FlatTerm → FlatTerm → Bool
after t u = is_gt (flat_cmp t u)

turned : (r : Ordering) → is_gt r ≡ true → is_gt (ordering_reverse r) ≡ false
turned Less e = cc
turned Equal e = cc
turned Greater e = refl

between : (r : Ordering) → is_gt r ≡ false → is_gt (ordering_reverse r) ≡ false → r ≡ Equal
between Less e h = cc
between Equal e h = refl
between Greater e h = cc

pub not_after : (t u : FlatTerm) → after t u ≡ true → after u t ≡ false
not_after t u e = rw (flat_cmp_total.antisymm u t) (turned (flat_cmp t u) e)

neither_after : (t u : FlatTerm) → after t u ≡ false → after u t ≡ false → t ≡ u
neither_after t u e h = flat_ties t u (between (flat_cmp t u) e (rw (flat_cmp_total.antisymm u t) at h))

after_trans : (t u v : FlatTerm) → after t u ≡ false → after u v ≡ false → after t v ≡ false
after_trans t u v = upto flat_cmp_total t u v

two_turned : (t u : FlatTerm) (l : List FlatTerm) (c e : Bool) → after t u ≡ c → after u t ≡ e → (if c then u ∷ t ∷ l else t ∷ u ∷ l) ≡ (if e then t ∷ u ∷ l else u ∷ t ∷ l)
two_turned t u l true true p q = cc (not_after t u p)
two_turned t u l true false p q = refl
two_turned t u l false true p q = refl
two_turned t u l false false p q = let e = neither_after t u p q in λ i. e i ∷ sym e i ∷ l

pub insert-insert : (t u : FlatTerm) (l : List FlatTerm) → insert t (insert u l) ≡ insert u (insert t l)
insert-insert t u [] = two_turned t u [] (after t u) (after u t) refl refl
insert-insert t u (v ∷ l) = go (after t v) (after u v) (after t u) (after u t) refl refl refl refl (insert-insert t u l)
  where
    go : (a b c e : Bool) → after t v ≡ a → after u v ≡ b → after t u ≡ c → after u t ≡ e → insert t (insert u l) ≡ insert u (insert t l) → insert t (insert u (v ∷ l)) ≡ insert u (insert t (v ∷ l))
    go true true c e pa pb pc pe ih = simp (pa, pb) (ap (λ m. v ∷ m) ih)
    go true false true e pa pb pc pe ih = simp (pa, pb, pc)
    go true false false e pa pb pc pe ih = cc (after_trans t u v pc pb)
    go false true c true pa pb pc pe ih = simp (pa, pb, pe)
    go false true c false pa pb pc pe ih = cc (after_trans u t v pe pa)
    go false false c e pa pb pc pe ih = simp (pa, pb, pc, pe) (two_turned t u (v ∷ l) c e pc pe)

-- counts
pub count_append : (q : FlatTerm) (l m : List FlatTerm) → count q (l ++ m) ≡ count q l + count q m
count_append q [] m = omega arith
count_append q (t ∷ l) m = let e = count_append q l m in omega arith

pub count_insert : (q t : FlatTerm) (l : List FlatTerm) → count q (insert t l) ≡ one_if (same_flat q t) + count q l
count_insert q t [] = refl
count_insert q t (u ∷ l) = go (after t u) refl (count_insert q t l)
  where
    go : (a : Bool) → after t u ≡ a → count q (insert t l) ≡ one_if (same_flat q t) + count q l → count q (insert t (u ∷ l)) ≡ one_if (same_flat q t) + (one_if (same_flat q u) + count q l)
    go true p ih = rw p (omega arith)
    go false p ih = rw p refl

pub count_sort : (q : FlatTerm) (l : List FlatTerm) → count q (sort l) ≡ count q l
count_sort q [] = refl
count_sort q (t ∷ l) = count_insert q t (sort l) ∙ ap (λ n. one_if (same_flat q t) + n) (count_sort q l)

pub count_itself : (q : FlatTerm) (l : List FlatTerm) → count q (q ∷ l) ≡ 1 + count q l
count_itself q l = ap (λ b. one_if b + count q l) (same_flat_itself q)

-- without the first that is q
abbrev pub remove : FlatTerm → List FlatTerm → List FlatTerm
remove q [] = []
remove q (t ∷ l) = if same_flat q t then l else t ∷ remove q l

pub count_remove : (q p : FlatTerm) (l : List FlatTerm) → 1 ≤ count q l → one_if (same_flat p q) + count p (remove q l) ≡ count p l
count_remove q p [] h = absurd (omega arith)
count_remove q p (t ∷ l) h = go (same_flat q t) refl (λ k. count_remove q p l k)
  where
    go : (b : Bool) → same_flat q t ≡ b → (1 ≤ count q l → one_if (same_flat p q) + count p (remove q l) ≡ count p l) →
        one_if (same_flat p q) + count p (remove q (t ∷ l)) ≡ one_if (same_flat p t) + count p l
    go true e ih = rw e (ap (λ u. one_if (same_flat p u) + count p l) (same_flat_is q t e))
    go false e ih =
        let below : 1 ≤ 0 + count q l = rw e at h in
        let rest = ih (omega arith) in
        rw e (omega arith)

pub insert_remove : (q : FlatTerm) (l : List FlatTerm) → 1 ≤ count q l → insert q (sort (remove q l)) ≡ sort l
insert_remove q [] h = absurd (omega arith)
insert_remove q (t ∷ l) h = go (same_flat q t) refl (λ k. insert_remove q l k)
  where
    go : (b : Bool) → same_flat q t ≡ b → (1 ≤ count q l → insert q (sort (remove q l)) ≡ sort l) → insert q (sort (remove q (t ∷ l))) ≡ insert t (sort l)
    go true e ih = rw e (ap (λ u. insert u (sort l)) (same_flat_is q t e))
    go false e ih =
        let below : 1 ≤ 0 + count q l = rw e at h in
        rw e (insert-insert q t (sort (remove q l)) ∙ ap (insert t) (ih (omega arith)))

pub sort_same_counts : (l m : List FlatTerm) → SameCounts l m → sort l ≡ sort m
sort_same_counts [] [] h = refl
sort_same_counts [] (u ∷ m) h = let e : 0 ≡ 1 + count u m = h u ∙ count_itself u m in absurd (omega arith)
sort_same_counts (t ∷ l) m h =
    let e : 1 + count t l ≡ count t m = sym (count_itself t l) ∙ h t in
    let within : 1 ≤ count t m = omega arith in
    let rest : SameCounts l (remove t m) = λ q. let a = count_remove t q m within in let b = h q in omega arith in
    ap (insert t) (sort_same_counts l (remove t m) rest) ∙ insert_remove t m within

pub sort-sort : (l : List FlatTerm) → sort (sort l) ≡ sort l
sort-sort l = sort_same_counts (sort l) l (λ q. count_sort q l)

-- what is in order
InOrder-insert : (t : FlatTerm) (l : List FlatTerm) → InOrder l → InOrder (insert t l)
InOrder-insert t [] h = tt
InOrder-insert t (u ∷ []) h = go (after t u) refl
  where
    go : (a : Bool) → after t u ≡ a → InOrder (insert t (u ∷ []))
    go true e = rw e (not_after t u e, tt)
    go false e = rw e (e, tt)
InOrder-insert t (u ∷ v ∷ l) h = go (after t u) (after t v) refl refl (InOrder-insert t (v ∷ l) h.1)
  where
    go : (a b : Bool) → after t u ≡ a → after t v ≡ b → InOrder (insert t (v ∷ l)) → InOrder (insert t (u ∷ v ∷ l))
    go true true e f ih = rw (e, f) (let ih2 = rw f at ih in (h.0, ih2))
    go true false e f ih = rw (e, f) (let ih2 = rw f at ih in (not_after t u e, ih2))
    go false b e f ih = rw e (e, h)

pub InOrder-sort : (l : List FlatTerm) → InOrder (sort l)
InOrder-sort [] = tt
InOrder-sort (t ∷ l) = InOrder-insert t (sort l) (InOrder-sort l)

pub sort_in_order : (l : List FlatTerm) → InOrder l → sort l ≡ l
sort_in_order [] h = refl
sort_in_order (t ∷ []) h = refl
sort_in_order (t ∷ u ∷ l) h = ap (insert t) (sort_in_order (u ∷ l) h.1) ∙ rw h.0 refl

-- what holds of each
pub each_append : {A : Type 0} (P : A → Type 0) (l m : List A) → AllByRecursion P l → AllByRecursion P m → AllByRecursion P (l ++ m)
each_append P [] m h k = k
each_append P (t ∷ l) m h k = (h.0, each_append P l m h.1 k)

each_insert : (P : FlatTerm → Type 0) (t : FlatTerm) (l : List FlatTerm) → P t → AllByRecursion P l → AllByRecursion P (insert t l)
each_insert P t [] h k = (h, tt)
each_insert P t (u ∷ l) h k = go (after t u) refl (each_insert P t l h k.1)
  where
    go : (a : Bool) → after t u ≡ a → AllByRecursion P (insert t l) → AllByRecursion P (insert t (u ∷ l))
    go true e ih = rw e (k.0, ih)
    go false e ih = rw e (h, k)

pub each_sort : (P : FlatTerm → Type 0) (l : List FlatTerm) → AllByRecursion P l → AllByRecursion P (sort l)
each_sort P [] h = tt
each_sort P (t ∷ l) h = each_insert P t (sort l) h.0 (each_sort P l h.1)

length_insert : (t : FlatTerm) (l : List FlatTerm) → length (insert t l) ≡ length l + 1
length_insert t [] = refl
length_insert t (u ∷ l) = go (after t u) refl (length_insert t l)
  where
    go : (a : Bool) → after t u ≡ a → length (insert t l) ≡ length l + 1 → length (insert t (u ∷ l)) ≡ length (u ∷ l) + 1
    go true e ih = rw e (omega arith)
    go false e ih = rw e (omega arith)

pub length_sort : (l : List FlatTerm) → length (sort l) ≡ length l
length_sort [] = refl
length_sort (t ∷ l) = let e = length_insert t (sort l) in let f = length_sort l in omega arith
