-- Sums that no candidate makes.
use Rattle.std.proofs.Common.{◌≡◌, ℕ, ◌+◌, ◌*◌, ◌/◌, ◌%◌, ◌≤◌, ◌<◌, Bool, true, false, zero, suc, List, [], ◌∷◌, ◌++◌, length, replicate, take, drop, get_or, refl, sym, ap, ◌∙◌, subst, arith, div-add-mod'}
use Rattle.std.specs.Prelude.{◌↔◌, if◌then◌else◌, IsTrue, nat_eq, None, sum as std_sum}
use Rattle.std.specs.List.{AllByRecursion}
use Rattle.std.specs.Ordering.{is_gt}
use Rattle.std.proofs.lemmas.Bool.{eqb-true, false≢true}
use Rattle.std.proofs.lemmas.List.{length-append, take_more, take-append-drop, take_all, at_drop_more, drop_all}
use Rattle.std.proofs.Math.Nat.{mul-div_cancel_left}
use Rattle.fvn_terms.specs.declared.plain.OpId.{OpId}
use Rattle.fvn_terms.specs.declared.plain.SortId.{SortId}
use Rattle.fvn_terms.specs.declared.declarations.Declarations.{Declarations}
use Rattle.fvn_terms.specs.Signature.{kind, AtOrBelow}
use Rattle.fvn_terms.specs.Signature.{axioms}
use Rattle.fvn_terms.specs.Equality.{identity}
use Rattle.fvn_forms.specs.Flat.{FlatTerm}
use Rattle.fvn_forms.specs.Order.{flat_cmp, same_flat}
use Rattle.fvn_forms.specs.InOrder.{insert, sort, one_if, count, SameCounts}
use Rattle.fvn_forms.specs.Canon.{parts, inst}
use Rattle.fvn_forms.specs.Settled.{Settled}
use Rattle.fvn_forms.specs.SortOrder.{at_or_below}
use Rattle.fvn_forms.specs.Good.{IsGood}
use Rattle.fvn_forms.specs.LeastSort.{least_sort}
use Rattle.fvn_forms.proofs.Order.{same_flat_is, same_flat_itself}
use Rattle.fvn_forms.proofs.InOrder.{count_itself, sort_same_counts}
use Rattle.fvn_forms.proofs.Instances.{inst_settled}
use Rattle.fvn_forms.proofs.LeastSort.{inst_keeps_sorts, inst_of_kind}
use Rattle.fvn_forms.proofs.SortOrder.{AtOrBelow-trans}
use Rattle.fvn_forms.proofs.SortTests.{at_or_below-true, at_or_below-complete}
use Rattle.fvn_flat.specs.Fits.{Fits}
use Rattle.fvn_flat.proofs.Instances.{each_at}
use Rattle.fvn_match.specs.inner.Tallies.{tally, repeated, AreDistinct}
use Rattle.fvn_match.specs.inner.Summands.{IsRun}
use Rattle.fvn_match.specs.inner.Candidates.{Values, IsCandidate}
use Rattle.fvn_match.specs.inner.Goals.{patterns_of, pieces_of, IsFlatOf, SumFits}
use Rattle.fvn_match.specs.inner.Searching.{IsShort}
use Rattle.fvn_match.specs.inner.Refusing.{IsMultiple, AreMultiples, IsUneven, IsHopeless, IsSummand, KeepsLow, is_low, low_in, low_left}
use Rattle.fvn_match.specs.declared.goals.SumGoal.{SumGoal}
use Rattle.fvn_match.proofs.Advancing.{sum-cons}
use Rattle.fvn_match.proofs.Tallies.{count_repeated, tally_elsewhere}
use Rattle.fvn_match.proofs.Runs.{length_references}
use Rattle.fvn_match.proofs.SumSteps.{summands_of, count_summands-append, count_summands-replicate, length_summands-append, none_is_empty, as_many, length_adds_up}
use Rattle.fvn_match.proofs.LowSums.{low_summand}

-- multiples
pub multiple_test : (k n : ℕ) → 1 ≤ k → IsTrue (nat_eq (n % k) 0) ↔ IsMultiple k n
multiple_test k n some = (
  λ e. let z = eqb-true (n % k) 0 e in let w = div-add-mod' n k in (n / k, omega arith),
  λ m. ap (λ r. nat_eq r 0) (nothing m),
)
  where
    nothing : IsMultiple k n → n % k ≡ 0
    nothing m =
        let q : n / k ≡ m.0 = ap (λ x. x / k) m.1 ∙ mul-div_cancel_left m.0 (let z : 0 < k = omega arith in z) in
        let v : n / k * k ≡ m.0 * k = ap (λ x. x * k) q in
        let w = div-add-mod' n k in
        omega (arith, m.1)

pub each_or : {A : Type 0} (P : A → Type 0) (l : List A) (i : ℕ) (e : A) → i < length l → AllByRecursion P l → P (get_or l i e)
each_or P [] i e within h = absurd (omega arith)
each_or P (t ∷ l) zero e within h = h.0
each_or P (t ∷ l) (suc i) e within h = each_or P l i e (omega arith) h.1

pub no_patterns_multiple : (k : ℕ) → AreMultiples k []
no_patterns_multiple k d f c q = (0, omega arith)

-- equal patterns at the front, and others
pub multiples_more : (k n : ℕ) → IsMultiple k n → (ps : List FlatTerm) → IsRun ps n → AreMultiples k (drop n ps) → AreMultiples k ps
multiples_more k n m [] run rest d f c q = (0, omega arith)
multiples_more k n m (p ∷ ps) run rest d f c q = (m.0 * count q (parts d f (inst d c p)) + r.0, omega (arith, r.1, whole, some))
  where
    r : IsMultiple k (count q (summands_of d f c (drop n (p ∷ ps))))
    r = rest d f c q

    group : p ∷ ps ≡ replicate n p ++ drop n (p ∷ ps)
    group = sym (take-append-drop n (p ∷ ps)) ∙ ap (λ l. l ++ drop n (p ∷ ps)) (run.same p ps refl)

    whole : count q (summands_of d f c (p ∷ ps)) ≡ n * count q (parts d f (inst d c p)) + count q (summands_of d f c (drop n (p ∷ ps)))
    whole =
        ap (λ l. count q (summands_of d f c l)) group
        ∙ count_summands-append d f c q (replicate n p) (drop n (p ∷ ps))
        ∙ ap (λ x. x + count q (summands_of d f c (drop n (p ∷ ps)))) (count_summands-replicate d f c q n p)

    some : n * count q (parts d f (inst d c p)) ≡ k * m.0 * count q (parts d f (inst d c p))
    some = ap (λ x. x * count q (parts d f (inst d c p))) m.1

-- what is left of each piece is a multiple where its tally is
multiples_left : (k : ℕ) (ts : List FlatTerm) (ns : List ℕ) → length ns ≡ length ts → AreDistinct ts → ((q : FlatTerm) → 1 ≤ count q ts → IsMultiple k (tally q ts ns)) → AllByRecursion (IsMultiple k) ns
multiples_left k [] [] e distinct h = tt
multiples_left k [] (n ∷ ns) e distinct h = absurd (omega arith)
multiples_left k (t ∷ ts) [] e distinct h = tt
multiples_left k (t ∷ ts) (n ∷ ns) e distinct h = (here, multiples_left k ts ns (omega arith) (λ q. let x = distinct q in omega arith) later)
  where
    alone : count t ts ≡ 0
    alone = let x = distinct t in let y = count_itself t ts in omega arith

    here : IsMultiple k n
    here =
        let y = count_itself t ts in
        let x : IsMultiple k (n + tally t ts ns) = rw (same_flat_itself t) at (h t (omega arith)) in
        let z = tally_elsewhere t ts ns alone in
        (x.0, omega (arith, x.1))

    later : (q : FlatTerm) → 1 ≤ count q ts → IsMultiple k (tally q ts ns)
    later q some = go (same_flat q t) refl
      where
        go : (x : Bool) → same_flat q t ≡ x → IsMultiple k (tally q ts ns)
        go true p = let z : count q ts ≡ 0 = ap (λ u. count u ts) (same_flat_is q t p) ∙ alone in absurd (omega arith)
        go false p = let z : IsMultiple k (0 + tally q ts ns) = rw p at (h q (let o = one_if (same_flat q t) in omega arith)) in (z.0, omega (arith, z.1))

-- one pattern more that takes one piece at most
pub few_more : (d : Declarations) (f : OpId) (c : Values) (ps : List FlatTerm) (i : ℕ) (p : FlatTerm) → i < length ps → p ≡ get_or ps i p → length (parts d f (inst d c p)) ≤ 1 →
    length (summands_of d f c (take i ps)) ≤ length (take i ps) → length (summands_of d f c (take (i + 1) ps)) ≤ length (take (i + 1) ps)
few_more d f c ps i p within at one few =
    let e : take (i + 1) ps ≡ take i ps ++ p ∷ [] = take_more ps i p within ∙ ap (λ u. take i ps ++ u ∷ []) (sym at) in
    let a = ap (λ l. length (summands_of d f c l)) e in
    let b = length_summands-append d f c (take i ps) (p ∷ []) in
    let g = length-append (parts d f (inst d c p)) [] in
    let h = ap length e in
    let j = length-append (take i ps) (p ∷ []) in
    omega arith

pub low_is : (d : Declarations) (s q : SortId) (t : FlatTerm) (b : Bool) → q ≡ least_sort d t → IsTrue b ↔ AtOrBelow d q s → is_low d s t ≡ b
low_is d s q t true e iff = at_or_below-complete d (subst (λ r. AtOrBelow d r s) e (iff.0 refl))
low_is d s q t false e iff = go (at_or_below d (least_sort d t) s) refl
  where
    go : (b : Bool) → at_or_below d (least_sort d t) s ≡ b → at_or_below d (least_sort d t) s ≡ false
    go true p = absurd (false≢true (iff.1 (subst (λ r. AtOrBelow d r s) (sym e) (at_or_below-true d (least_sort d t) s p))))
    go false p = p

pub if_at_most : (b : Bool) (n : ℕ) → (if b then n else 0) ≤ n
if_at_most true n = omega arith
if_at_most false n = omega arith

-- forms that have a sort, counted
module _ (d : Declarations) (s : SortId) where
  low_insert : (t : FlatTerm) (l : List FlatTerm) → low_in d s (insert t l) ≡ (if is_low d s t then 1 else 0) + low_in d s l
  low_insert t [] = refl
  low_insert t (u ∷ l) = go (is_gt (flat_cmp t u)) refl (low_insert t l)
    where
      go : (a : Bool) → is_gt (flat_cmp t u) ≡ a → low_in d s (insert t l) ≡ (if is_low d s t then 1 else 0) + low_in d s l → low_in d s (insert t (u ∷ l)) ≡ (if is_low d s t then 1 else 0) + low_in d s (u ∷ l)
      go true p ih = rw p (omega arith)
      go false p ih = rw p refl

  low_sort : (l : List FlatTerm) → low_in d s (sort l) ≡ low_in d s l
  low_sort [] = refl
  low_sort (t ∷ l) = let a = low_insert t (sort l) in let b = low_sort l in omega arith

  low_same_counts : (l m : List FlatTerm) → SameCounts l m → low_in d s l ≡ low_in d s m
  low_same_counts l m h = sym (low_sort l) ∙ ap (low_in d s) (sort_same_counts l m h) ∙ low_sort m

  low_append : (l m : List FlatTerm) → low_in d s (l ++ m) ≡ low_in d s l + low_in d s m
  low_append [] m = omega arith
  low_append (t ∷ l) m = let a = low_append l m in omega arith

  low_replicate : (n : ℕ) (t : FlatTerm) → low_in d s (replicate n t) ≡ (if is_low d s t then n else 0)
  low_replicate zero t = go (is_low d s t)
    where
      go : (x : Bool) → zero ≡ (if x then zero else zero)
      go true = refl
      go false = refl
  low_replicate (suc n) t = go (is_low d s t) refl (low_replicate n t)
    where
      go : (x : Bool) → is_low d s t ≡ x → low_in d s (replicate n t) ≡ (if is_low d s t then n else 0) → (if is_low d s t then 1 else 0) + low_in d s (replicate n t) ≡ (if is_low d s t then suc n else 0)
      go true p ih = let e : low_in d s (replicate n t) ≡ n = rw p at ih in rw p (omega arith)
      go false p ih = let e : low_in d s (replicate n t) ≡ 0 = rw p at ih in rw p (omega arith)

  low_repeated : (ts : List FlatTerm) (ns : List ℕ) → low_in d s (repeated ts ns) ≡ low_left d s ts ns
  low_repeated [] ns = refl
  low_repeated (t ∷ ts) [] = refl
  low_repeated (t ∷ ts) (n ∷ ns) = let a = low_append (replicate n t) (repeated ts ns) in let b = low_replicate n t in let e = low_repeated ts ns in omega arith

  -- the first of what is left
  pub low_in-drop : (ts : List FlatTerm) (i : ℕ) (t : FlatTerm) → i < length ts → t ≡ get_or ts i t → low_in d s (drop i ts) ≡ (if is_low d s t then 1 else 0) + low_in d s (drop (i + 1) ts)
  low_in-drop ts i t h at = at_drop_more (low_in d s) ts i t h ∙ ap (λ u. (if is_low d s u then 1 else 0) + low_in d s (drop (i + 1) ts)) (sym at)

  pub low_in-past : (ts : List FlatTerm) (i : ℕ) → length ts ≤ i → low_in d s (drop i ts) ≡ 0
  low_in-past ts i h = ap (low_in d s) (drop_all i ts h)

  pub low_left-drop : (ts : List FlatTerm) (ns : List ℕ) (i : ℕ) (t : FlatTerm) (e : ℕ) → i < length ts → i < length ns → t ≡ get_or ts i t →
      low_left d s (drop i ts) (drop i ns) ≡ (if is_low d s t then get_or ns i e else 0) + low_left d s (drop (i + 1) ts) (drop (i + 1) ns)
  low_left-drop ts ns i t e h k at =
      at_drop_more (λ us. low_left d s us (drop i ns)) ts i t h
      ∙ at_drop_more (λ ms. low_left d s (get_or ts i t ∷ drop (i + 1) ts) ms) ns i e k
      ∙ ap (λ u. (if is_low d s u then get_or ns i e else 0) + low_left d s (drop (i + 1) ts) (drop (i + 1) ns)) (sym at)

  pub low_left-past : (ts : List FlatTerm) (ns : List ℕ) (i : ℕ) → length ts ≤ i → low_left d s (drop i ts) (drop i ns) ≡ 0
  low_left-past ts ns i h = ap (λ l. low_left d s l (drop i ns)) (drop_all i ts h)

  pub low_left-le : (ts : List FlatTerm) (ns : List ℕ) → low_left d s ts ns ≤ std_sum ns
  low_left-le [] ns = omega arith
  low_left-le (t ∷ ts) [] = omega arith
  low_left-le (t ∷ ts) (n ∷ ns) = let a = low_left-le ts ns in let b = if_at_most (is_low d s t) n in omega (arith, sum-cons n ns)

module _ (d : Declarations) (goal : SumGoal) (fit : SumFits d goal) where
  long : length goal.left.now ≡ length (pieces_of goal)
  long = fit.long ∙ sym (length_references goal.pieces.now)

  pub summand_at : (i : ℕ) (p : FlatTerm) → i < length (patterns_of goal) → p ≡ get_or (patterns_of goal) i p → IsSummand d goal.op p
  summand_at i p within at = record { associative = fit.associative; rank = fit.rank; listed = fit.listed; flat = each_at (IsFlatOf d (kind d fit.rank.result)) (patterns_of goal) fit.patterns i p within at }

  pub piece_fits : (i : ℕ) (t : FlatTerm) → i < length (pieces_of goal) → t ≡ get_or (pieces_of goal) i t → Fits d t
  piece_fits i t within at =
      let one = each_at (IsFlatOf d (kind d fit.rank.result)) (pieces_of goal) fit.pieces i t within at in
      record { flat = one.flat; kinded = (kind d fit.rank.result, one.has_kind) }

  -- too few pieces
  pub short_hopeless : IsShort d goal → IsHopeless d goal
  short_hopeless short c k h =
      let x = as_many d goal.op c k.flat.settled short.0 (patterns_of goal) in
      let y = length_adds_up d goal.op c (patterns_of goal) (pieces_of goal) goal.left.now long h in
      omega (arith, short.1)

  -- a remainder
  pub uneven_hopeless : IsUneven goal → IsHopeless d goal
  uneven_hopeless u c k h = u.left (multiples_left u.times (pieces_of goal) goal.left.now long fit.distinct (λ q some. subst (IsMultiple u.times) (h q) (u.patterns d goal.op c q)))

  -- more pieces than patterns that take one at most
  pub crowded_hopeless : (i : ℕ) → length (patterns_of goal) ≤ i → length (patterns_of goal) < std_sum goal.left.now →
      ((c : Values) → IsCandidate d c → length (summands_of d goal.op c (take i (patterns_of goal))) ≤ length (take i (patterns_of goal))) → IsHopeless d goal
  crowded_hopeless i past many few c k h =
      let e = take_all i (patterns_of goal) past in
      let a = few c k in
      let b = ap (λ l. length (summands_of d goal.op c l)) e in
      let g = ap length e in
      let y = length_adds_up d goal.op c (patterns_of goal) (pieces_of goal) goal.left.now long h in
      omega (arith, many)

  -- each pattern of a sort that sums have from a summand takes a piece of the sort
  module _ (good : IsGood d) (s : SortId) (keeps : KeepsLow d goal.op s) (lasting : identity (axioms d goal.op) ≡ None) where
    module _ (c : Values) (k : IsCandidate d c) where
      one_low : (p : FlatTerm) → IsFlatOf d (kind d fit.rank.result) p → (if is_low d s p then 1 else 0) ≤ low_in d s (parts d goal.op (inst d c p))
      one_low p flat = go (is_low d s p) refl
        where
          settled : Settled d (inst d c p)
          settled = inst_settled d c k.flat.settled p

          go : (b : Bool) → is_low d s p ≡ b → (if is_low d s p then 1 else 0) ≤ low_in d s (parts d goal.op (inst d c p))
          go false e = rw e (omega arith)
          go true e =
              let below = AtOrBelow-trans d (inst_keeps_sorts d good c k.flat k.sorts p flat.flat (kind d fit.rank.result, flat.has_kind)) (at_or_below-true d (least_sort d p) s e) in
              rw e (low_summand d s good goal.op fit.associative keeps fit.rank fit.listed (inst d c p) settled (inst_of_kind d good c k.flat p (kind d fit.rank.result) flat.has_kind) below (none_is_empty d goal.op c k.flat.settled lasting p))

      all_low : (ps : List FlatTerm) → AllByRecursion (IsFlatOf d (kind d fit.rank.result)) ps → low_in d s ps ≤ low_in d s (summands_of d goal.op c ps)
      all_low [] h = omega arith
      all_low (p ∷ ps) h =
          let a = low_append d s (parts d goal.op (inst d c p)) (summands_of d goal.op c ps) in
          let b = one_low p h.0 in
          let e = all_low ps h.1 in
          omega arith

    pub lacking_hopeless : low_left d s (pieces_of goal) goal.left.now < low_in d s (patterns_of goal) → IsHopeless d goal
    lacking_hopeless few c k h =
        let a = all_low c k (patterns_of goal) fit.patterns in
        let b = low_same_counts d s (summands_of d goal.op c (patterns_of goal)) (repeated (pieces_of goal) goal.left.now) (λ q. h q ∙ sym (count_repeated q (pieces_of goal) goal.left.now)) in
        let e = low_repeated d s (pieces_of goal) goal.left.now in
        omega (arith, few)
