-- Runs of one form at the front of a list, and references.
use Rattle.std.proofs.Common.{◌≡◌, ℕ, ◌+◌, ◌≤◌, ◌<◌, Bool, true, false, zero, suc, List, [], ◌∷◌, ◌++◌, length, replicate, take, drop, get_or, refl, sym, ap, ◌∙◌, subst, arith}
use Rattle.std.specs.Prelude.{sum}
use denote.Ref.{Bor}
use Rattle.std.specs.declared.cmp.Ordering.{Ordering}
use Rattle.std.specs.declared.cmp.Ordering.TheVariants.{Less, Equal, Greater}
use Rattle.std.specs.Ordering.{ordering_reverse, is_gt}
use Rattle.std.proofs.lemmas.Cmp.{upto}
use Rattle.std.proofs.lemmas.List.{take_more, take-append-drop, length-append, length-drop, get_or-drop, replicate-append-replicate}
use Rattle.std.specs.List.{AllByRecursion}
use Rattle.fvn_forms.specs.Flat.{FlatTerm}
use Rattle.fvn_forms.specs.Order.{flat_cmp, same_flat}
use Rattle.fvn_forms.specs.InOrder.{InOrder, one_if, count}
use Rattle.fvn_forms.proofs.Order.{flat_cmp_total, flat_ties, same_flat_is}
use Rattle.fvn_forms.proofs.InOrder.{count_append, count_itself}
use Rattle.fvn_match.specs.inner.Tallies.{tally, AreDistinct}
use Rattle.fvn_match.specs.inner.Summands.{references, IsRun}
use Rattle.fvn_match.proofs.Advancing.{sum-cons}
use Rattle.fvn_match.proofs.Tallies.{times, count_replicate, tally-push}

-- what a reference in a list points to
pub references-get : (xs : List (Bor FlatTerm)) (i : ℕ) (r : Bor FlatTerm) → i < length xs → r ≡ get_or xs i r → r.now ≡ get_or (references xs) i r.now
references-get [] i r h e = absurd (omega arith)
references-get (x ∷ xs) zero r h e = ap (λ y. y.now) e
references-get (x ∷ xs) (suc i) r h e = references-get xs i r (omega arith) e

pub length_references : (xs : List (Bor FlatTerm)) → length (references xs) ≡ length xs
length_references [] = refl
length_references (x ∷ xs) = ap suc (length_references xs)

pub references-append : (xs ys : List (Bor FlatTerm)) → references (xs ++ ys) ≡ references xs ++ references ys
references-append [] ys = refl
references-append (x ∷ xs) ys = ap (λ l. x.now ∷ l) (references-append xs ys)

-- one form more of a run
pub run_more : (ts : List FlatTerm) (i : ℕ) (first t : FlatTerm) → i < length ts → take i ts ≡ replicate i first → t ≡ get_or ts i t → t ≡ first → take (i + 1) ts ≡ replicate (i + 1) first
run_more ts i first t h e is same = take_more ts i t h ∙ ap (λ l. l ++ get_or ts i t ∷ []) e ∙ ap (λ u. replicate i first ++ u ∷ []) (sym is ∙ same) ∙ replicate-append-replicate i 1 first

-- a run that ends before the end of the list, or there
pub run_ends : (ts : List FlatTerm) (i : ℕ) (first t : FlatTerm) → 1 ≤ i → i < length ts → first ≡ get_or ts 0 first → take i ts ≡ replicate i first → t ≡ get_or ts i t → (t ≡ first → ⊥) → IsRun ts i
run_ends ts i first t some h head e is other = record {
  some = some;
  within = omega arith;
  same = λ u us p. e ∙ ap (replicate i) (head ∙ ap (λ l. get_or l 0 first) p);
  ends = λ u v us vs p q same. other (is ∙ ap (λ n. get_or ts n t) (let z : i ≡ i + 0 = omega arith in z) ∙ sym (get_or-drop i ts 0 t) ∙ ap (λ l. get_or l 0 t) q ∙ same ∙ sym (head ∙ ap (λ l. get_or l 0 first) p));
}

pub run_whole : (ts : List FlatTerm) (n : ℕ) (first : FlatTerm) → 1 ≤ n → length ts ≡ n → first ≡ get_or ts 0 first → take n ts ≡ replicate n first → IsRun ts n
run_whole ts n first some long head e = record {
  some = some;
  within = omega arith;
  same = λ u us p. e ∙ ap (replicate n) (head ∙ ap (λ l. get_or l 0 first) p);
  ends = λ u v us vs p q same. let a = length-drop n ts in let b = ap length q in omega arith;
}

abbrev after : FlatTerm → FlatTerm → Bool
after t u = is_gt (flat_cmp t u)

between : (r : Ordering) → is_gt r ≡ false → is_gt (ordering_reverse r) ≡ false → r ≡ Equal
between Less e h = cc
between Equal e h = refl
between Greater e h = cc

neither_after : (t u : FlatTerm) → after t u ≡ false → after u t ≡ false → t ≡ u
neither_after t u e h = flat_ties t u (between (flat_cmp t u) e (rw (flat_cmp_total.antisymm u t) at h))

-- the first of a list in order is after none that follows
first_of_all : (u v : FlatTerm) (us : List FlatTerm) → InOrder (u ∷ us) → 1 ≤ count v us → after u v ≡ false
first_of_all u v [] h k = absurd (omega arith)
first_of_all u v (w ∷ ws) h k = go (same_flat v w) refl (λ j. first_of_all w v ws h.1 j)
  where
    go : (b : Bool) → same_flat v w ≡ b → (1 ≤ count v ws → after w v ≡ false) → after u v ≡ false
    go true e ih = ap (after u) (same_flat_is v w e) ∙ h.0
    go false e ih = let later : 1 ≤ 0 + count v ws = rw e at k in upto flat_cmp_total u w v h.0 (ih (omega arith))

-- in a list in order a form does not come back after another one
pub none_after : (t : FlatTerm) (us : List FlatTerm) → InOrder (t ∷ us) → ((u : FlatTerm) (vs : List FlatTerm) → us ≡ u ∷ vs → u ≡ t → ⊥) → count t us ≡ 0
none_after t [] h other = refl
none_after t (u ∷ us) h other = go (same_flat t u) refl (count t us) refl
  where
    go : (b : Bool) → same_flat t u ≡ b → (n : ℕ) → count t us ≡ n → count t (u ∷ us) ≡ 0
    go true e n p = absurd (other u us refl (sym (same_flat_is t u e)))
    go false e zero p = rw (e, p) refl
    go false e (suc n) p = absurd (other u us refl (neither_after u t (first_of_all u t us h.1 (omega arith)) h.0))

pub InOrder-run : (k : ℕ) (t : FlatTerm) (us : List FlatTerm) → 1 ≤ k → InOrder (replicate k t ++ us) → InOrder (t ∷ us)
InOrder-run zero t us some h = absurd (omega arith)
InOrder-run (suc zero) t us some h = h
InOrder-run (suc (suc k)) t us some h = InOrder-run (suc k) t us (omega arith) h.1

pub InOrder-tail : (t : FlatTerm) (us : List FlatTerm) → InOrder (t ∷ us) → InOrder us
InOrder-tail t [] h = tt
InOrder-tail t (u ∷ us) h = h.1

sum-push : (ns : List ℕ) (n : ℕ) → sum (ns ++ n ∷ []) ≡ sum ns + n
sum-push [] n = omega (arith, sum-cons n [])
sum-push (m ∷ ns) n = let a = sum-push ns n in omega (arith, sum-cons m ns, sum-cons m (ns ++ n ∷ []))

-- what was counted of a list in order, and what is left of it
pub record Counting (ts pieces : List FlatTerm) (left : List ℕ) (rest : List FlatTerm) : Type 0 where
  pub counts : (q : FlatTerm) → tally q pieces left + count q rest ≡ count q ts
  pub among : (q : FlatTerm) → 1 ≤ count q pieces → 1 ≤ count q ts
  pub distinct : AreDistinct pieces
  pub long : length left ≡ length pieces
  pub together : sum left + length rest ≡ length ts
  pub behind : (q : FlatTerm) → 1 ≤ count q pieces → count q rest ≡ 0
  pub in_order : InOrder rest

pub counting_none : (ts : List FlatTerm) → InOrder ts → Counting ts [] [] ts
counting_none ts h = record { counts = λ q. omega arith; among = λ q some. absurd (omega arith); distinct = λ q. omega arith; long = refl; together = omega arith; behind = λ q some. absurd (omega arith); in_order = h }

pub counting_more : (ts pieces : List FlatTerm) (left : List ℕ) (rest : List FlatTerm) (k : ℕ) (t : FlatTerm) → Counting ts pieces left rest → IsRun rest k → t ≡ get_or rest 0 t → Counting ts (pieces ++ t ∷ []) (left ++ k ∷ []) (drop k rest)
counting_more ts pieces left [] k t c r head = absurd (let a = r.some in let b = r.within in omega arith)
counting_more ts pieces left (u ∷ us) k t c r head =
    record {
      counts = λ q. let a = c.counts q in let b = tally-push q pieces left t k c.long in let e = split q in omega arith;
      among = λ q some. among q (same_flat q t) refl some;
      distinct = λ q. distinct q (same_flat q t) refl;
      long = let a = length-append left (k ∷ []) in let b = length-append pieces (t ∷ []) in let e = c.long in omega arith;
      together = let a = sum-push left k in let b = length-drop k (u ∷ us) in let e = c.together in let f = r.within in omega arith;
      behind = λ q some. behind q (same_flat q t) refl some;
      in_order = InOrder-tail t (drop k (u ∷ us)) ordered;
    }
  where
    parted : replicate k t ++ drop k (u ∷ us) ≡ u ∷ us
    parted = ap (λ v. replicate k v ++ drop k (u ∷ us)) head ∙ ap (λ l. l ++ drop k (u ∷ us)) (sym (r.same u us refl)) ∙ take-append-drop k (u ∷ us)

    split : (q : FlatTerm) → times (same_flat q t) k + count q (drop k (u ∷ us)) ≡ count q (u ∷ us)
    split q = let a = ap (count q) parted in let b = count_append q (replicate k t) (drop k (u ∷ us)) in let e = count_replicate q t k in omega arith

    ordered : InOrder (t ∷ drop k (u ∷ us))
    ordered = InOrder-run k t (drop k (u ∷ us)) r.some (subst InOrder (sym parted) c.in_order)

    gone : count t (drop k (u ∷ us)) ≡ 0
    gone = none_after t (drop k (u ∷ us)) ordered (λ v vs p same. r.ends u v us vs refl p (same ∙ head))

    pushed : (q : FlatTerm) → count q (pieces ++ t ∷ []) ≡ count q pieces + one_if (same_flat q t)
    pushed q = let a = count_append q pieces (t ∷ []) in omega arith

    among : (q : FlatTerm) (b : Bool) → same_flat q t ≡ b → 1 ≤ count q (pieces ++ t ∷ []) → 1 ≤ count q ts
    among q true e some =
        let a = c.counts q in
        let b = count_itself u us in
        let g : count q (u ∷ us) ≡ count u (u ∷ us) = ap (λ v. count v (u ∷ us)) (same_flat_is q t e ∙ head) in
        omega arith
    among q false e some = let a : count q (pieces ++ t ∷ []) ≡ count q pieces + 0 = pushed q ∙ ap (λ b. count q pieces + one_if b) e in c.among q (omega arith)

    distinct : (q : FlatTerm) (b : Bool) → same_flat q t ≡ b → count q (pieces ++ t ∷ []) ≤ 1
    distinct q true e = let a : count q (pieces ++ t ∷ []) ≡ count q pieces + 1 = pushed q ∙ ap (λ b. count q pieces + one_if b) e in let f = fresh q (same_flat_is q t e) in omega arith
      where
        fresh : (q : FlatTerm) → q ≡ t → count q pieces ≡ 0
        fresh q is = go (count q pieces) refl
          where
            go : (n : ℕ) → count q pieces ≡ n → count q pieces ≡ 0
            go zero p = p
            go (suc n) p =
                let a : count q (u ∷ us) ≡ 0 = c.behind q (omega arith) in
                let b = count_itself u us in
                let e2 : count u (u ∷ us) ≡ 0 = ap (λ v. count v (u ∷ us)) (sym (is ∙ head)) ∙ a in
                absurd (omega arith)
    distinct q false e = let a : count q (pieces ++ t ∷ []) ≡ count q pieces + 0 = pushed q ∙ ap (λ b. count q pieces + one_if b) e in let f = c.distinct q in omega arith

    behind : (q : FlatTerm) (b : Bool) → same_flat q t ≡ b → 1 ≤ count q (pieces ++ t ∷ []) → count q (drop k (u ∷ us)) ≡ 0
    behind q true e some = ap (λ v. count v (drop k (u ∷ us))) (same_flat_is q t e) ∙ gone
    behind q false e some =
        let a : count q (pieces ++ t ∷ []) ≡ count q pieces + 0 = pushed q ∙ ap (λ b. count q pieces + one_if b) e in
        let b = c.behind q (omega arith) in
        let f = split q in
        omega arith

-- what holds of each of a list holds of what stands among it
pub holds_of : (P : FlatTerm → Type 0) (q : FlatTerm) (ts : List FlatTerm) → AllByRecursion P ts → 1 ≤ count q ts → P q
holds_of P q [] h some = absurd (omega arith)
holds_of P q (t ∷ ts) h some = go (same_flat q t) refl (λ k. holds_of P q ts h.1 k)
  where
    go : (b : Bool) → same_flat q t ≡ b → (1 ≤ count q ts → P q) → P q
    go true e rest = subst P (sym (same_flat_is q t e)) h.0
    go false e rest = let more : 1 ≤ 0 + count q ts = rw e at some in rest (omega arith)

pub each_among : (P : FlatTerm → Type 0) (ts us : List FlatTerm) → ((q : FlatTerm) → 1 ≤ count q us → 1 ≤ count q ts) → AllByRecursion P ts → AllByRecursion P us
each_among P ts [] among h = tt
each_among P ts (u ∷ us) among h = (holds_of P u ts h (among u (let a = count_itself u us in omega arith)), each_among P ts us (λ q some. among q (omega arith)) h)

pub references-drop : (k : ℕ) (xs : List (Bor FlatTerm)) → references (drop k xs) ≡ drop k (references xs)
references-drop zero xs = refl
references-drop (suc k) [] = refl
references-drop (suc k) (x ∷ xs) = references-drop k xs

pub each_drop : {A : Type 0} (P : A → Type 0) (k : ℕ) (xs : List A) → AllByRecursion P xs → AllByRecursion P (drop k xs)
each_drop P zero xs h = h
each_drop P (suc k) [] h = h
each_drop P (suc k) (x ∷ xs) h = each_drop P k xs h.1

pub each_append_back : {A : Type 0} (P : A → Type 0) (xs ys : List A) → AllByRecursion P (xs ++ ys) → AllByRecursion P xs × AllByRecursion P ys
each_append_back P [] ys h = (tt, h)
each_append_back P (x ∷ xs) ys h = let r = each_append_back P xs ys h.1 in ((h.0, r.0), r.1)
