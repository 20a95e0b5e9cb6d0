-- What pairs stand for is determined, and read from left to right.
use Rattle.std.proofs.Common.{◌≡◌, ℕ, zero, suc, ◌+◌, ◌-◌, ◌^◌, ◌<◌, ◌≤◌, ◌⊎◌, inl, inr, List, [], ◌∷◌, ◌++◌, length, take, drop, map, get_or, refl, sym, ap, ◌∙◌, subst, arith}
use Rattle.std.specs.Prelude.{Result, Ok, Err}
use Rattle.std.specs.List.{AllByRecursion}
use Rattle.fvn_base.specs.declared.limits.TheConstants.{TEXT_SYMBOLS}
use Rattle.fvn_terms.specs.declared.plain.Plain.{Plain}
use Rattle.fvn_terms.specs.declared.plain.SortId.{SortId}
use Rattle.fvn_terms.specs.Term.{nodes}
use Rattle.fvn_terms.specs.Plain.{term}
use Rattle.fvn_syntax.specs.declared.fault.TermFault.{TermFault}
use Rattle.fvn_syntax.specs.declared.fault.TermFault.TheVariants.{WrongKind, NoMemory}
use Rattle.fvn_syntax.specs.declared.seen.Seen.{Seen}
use Rattle.fvn_syntax.specs.declared.seen.Kinded.{Kinded}
use Rattle.fvn_syntax.specs.Pieces.{Text}
use Rattle.fvn_syntax.specs.Raw.{RawTerm}
use Rattle.fvn_syntax.specs.Readings.{sum_or_most, IsReadAs, Reads, Refuses}
use Rattle.fvn_syntax.specs.Resolve.{Resolved, resolve}
use Rattle.fvn_syntax.specs.Scope.{Scope}
use Rattle.fvn_problems.specs.declared.split.Halves.{Halves}
use Rattle.fvn_problems.specs.Spelling.{RawPair, IsWrittenPair}
use Rattle.fvn_problems.specs.Problems.{symbols_of, IsPairOf, IsPairFault, in_left, in_right, two_kinds, ArePairsOf, IsPairsFault}
use Rattle.fvn_problems.specs.inner.Split.{halves_of}
use Rattle.fvn_problems.specs.inner.Steps.{MemoryOr, IsOf, AreOf, IsPairRead, ReadsPair, RefusesPair, ArePairsRead, RefusesPairs}

abbrev pub ok : Resolved → Result Resolved TermFault
ok r = Ok r

abbrev pub err : TermFault → Result Resolved TermFault
err f = Err f

module _ (c : Scope) where
  pub same-meaning : (before : List Text) (t : RawTerm) (a b : Resolved) → resolve c before t ≡ Ok a → resolve c before t ≡ Ok b → a ≡ b
  same-meaning before t a b h k = (let e : ok a ≡ ok b = sym h ∙ k in cc)

  pub no-fault : (before : List Text) (t : RawTerm) (a : Resolved) (f : TermFault) → resolve c before t ≡ Ok a → resolve c before t ≡ Err f → ⊥
  no-fault before t a f h k = (let e : ok a ≡ err f = sym h ∙ k in cc)

  pub same-fault : (before : List Text) (t : RawTerm) (f g : TermFault) → resolve c before t ≡ Err f → resolve c before t ≡ Err g → f ≡ g
  same-fault before t f g h k = (let e : err f ≡ err g = sym h ∙ k in cc)

  pub same-right : (t : RawTerm) (a b r s : Resolved) → a ≡ b → resolve c a.texts t ≡ Ok r → resolve c b.texts t ≡ Ok s → r ≡ s
  same-right t a b r s e h k = same-meaning b.texts t r s (ap (λ x. resolve c x.texts t) (sym e) ∙ h) k

  pub pair-same : (before : List Text) (raw : RawPair) (p q : Plain × Plain) (x y : List Text) → IsPairOf c before raw p x → IsPairOf c before raw q y → (p ≡ q) × (x ≡ y)
  pair-same before raw p q x y a b =
      let l = same-meaning before raw.left a.left b.left a.left_stands b.left_stands in
      let r = same-right raw.right a.left b.left a.right b.right l a.right_stands b.right_stands in
      (a.is ∙ ap (λ v. (v.term, a.right.term)) l ∙ ap (λ v. (b.left.term, v.term)) r ∙ sym b.is, a.names ∙ ap (λ v. v.texts) r ∙ sym b.names)

  pub pairs-same : (before : List Text) (rs : List RawPair) (ps qs : List (Plain × Plain)) (x y : List Text) →
      ArePairsOf c before rs ps x → ArePairsOf c before rs qs y → (ps ≡ qs) × (x ≡ y)
  pairs-same before [] [] [] x y a b = (refl, sym a ∙ b)
  pairs-same before [] [] (q ∷ qs) x y a b = absurd b
  pairs-same before [] (p ∷ ps) qs x y a b = absurd a
  pairs-same before (r ∷ rs) [] qs x y a b = absurd a
  pairs-same before (r ∷ rs) (p ∷ ps) [] x y a b = absurd b
  pairs-same before (r ∷ rs) (p ∷ ps) (q ∷ qs) x y a b =
      let e = pair-same before r p q a.0 b.0 a.1.0 b.1.0 in
      let f = pairs-same b.0 rs ps qs x y (subst (λ n. ArePairsOf c n rs ps x) e.1 a.1.1) b.1.1 in
      (ap (λ v. v ∷ ps) e.0 ∙ ap (λ vs. q ∷ vs) f.0, f.1)

  -- a right side does not both stand for a term and have a fault
  right-faultless : (before : List Text) (raw : RawPair) (l m : Resolved) (f : TermFault) (r : Resolved) → resolve c before raw.left ≡ Ok l → resolve c l.texts raw.right ≡ Err f →
      resolve c before raw.left ≡ Ok m → resolve c m.texts raw.right ≡ Ok r → ⊥
  right-faultless before raw l m f r h k i j =
      let e = same-meaning before raw.left m l i h in
      no-fault l.texts raw.right r f (ap (λ v. resolve c v.texts raw.right) (sym e) ∙ j) k

  pub pair-faultless : (before : List Text) (raw : RawPair) (p : Plain × Plain) (x : List Text) (f : TermFault) → IsPairOf c before raw p x → IsPairFault c before raw f → ⊥
  pair-faultless before raw p x f a (in_left h) = no-fault before raw.left a.left f a.left_stands h
  pair-faultless before raw p x f a (in_right l h k) = right-faultless before raw l a.left f a.right h k a.left_stands a.right_stands
  pair-faultless before raw p x f a (two_kinds l r h k ne is) =
      let e = same-meaning before raw.left a.left l a.left_stands h in
      let g = same-right raw.right a.left l a.right r e a.right_stands k in
      ne (ap (λ v. v.kind) (sym e) ∙ a.one_kind ∙ ap (λ v. v.kind) g)

  pub pairs-faultless : (before : List Text) (rs : List RawPair) (ps : List (Plain × Plain)) (x : List Text) (f : TermFault) → ArePairsOf c before rs ps x → IsPairsFault c before rs f → ⊥
  pairs-faultless before [] ps x f a b = absurd b
  pairs-faultless before (r ∷ rs) [] x f a b = absurd a
  pairs-faultless before (r ∷ rs) (p ∷ ps) x f a (inl b) = pair-faultless before r p a.0 f a.1.0 b
  pairs-faultless before (r ∷ rs) (p ∷ ps) x f a (inr b) =
      let e = pair-same before r p b.0 a.0 b.1 a.1.0 b.2.0 in
      pairs-faultless b.1 rs ps x f (subst (λ n. ArePairsOf c n rs ps x) e.1 a.1.1) b.2.1

  pair-fault-same : (before : List Text) (raw : RawPair) (f g : TermFault) → IsPairFault c before raw f → IsPairFault c before raw g → f ≡ g
  pair-fault-same before raw f g (in_left h) (in_left k) = same-fault before raw.left f g h k
  pair-fault-same before raw f g (in_left h) (in_right m i j) = absurd (no-fault before raw.left m f i h)
  pair-fault-same before raw f g (in_left h) (two_kinds m r i j ne e) = absurd (no-fault before raw.left m f i h)
  pair-fault-same before raw f g (in_right l h k) (in_left i) = absurd (no-fault before raw.left l g h i)
  pair-fault-same before raw f g (in_right l h k) (in_right m i j) =
      let e = same-meaning before raw.left m l i h in
      same-fault l.texts raw.right f g k (ap (λ v. resolve c v.texts raw.right) (sym e) ∙ j)
  pair-fault-same before raw f g (in_right l h k) (two_kinds m r i j ne e) = absurd (right-faultless before raw l m f r h k i j)
  pair-fault-same before raw f g (two_kinds l r h k ne is) (in_left i) = absurd (no-fault before raw.left l g h i)
  pair-fault-same before raw f g (two_kinds l r h k ne is) (in_right m i j) = absurd (right-faultless before raw m l g r i j h k)
  pair-fault-same before raw f g (two_kinds l r h k ne is) (two_kinds m s i j me e) = is ∙ sym e

  pub pairs-fault-same : (before : List Text) (rs : List RawPair) (f g : TermFault) → IsPairsFault c before rs f → IsPairsFault c before rs g → f ≡ g
  pairs-fault-same before [] f g a b = absurd a
  pairs-fault-same before (r ∷ rs) f g (inl a) (inl b) = pair-fault-same before r f g a b
  pairs-fault-same before (r ∷ rs) f g (inl a) (inr b) = absurd (pair-faultless before r b.0 b.1 f b.2.0 a)
  pairs-fault-same before (r ∷ rs) f g (inr a) (inl b) = absurd (pair-faultless before r a.0 a.1 g a.2.0 b)
  pairs-fault-same before (r ∷ rs) f g (inr a) (inr b) =
      let e = pair-same before r a.0 b.0 a.1 b.1 a.2.0 b.2.0 in
      pairs-fault-same b.1 rs f g (subst (λ n. IsPairsFault c n rs f) e.1 a.2.1) b.2.1

  pub pairs-more : (before : List Text) (rs : List RawPair) (ps : List (Plain × Plain)) (mid : List Text) (r : RawPair) (p : Plain × Plain) (after : List Text) →
      ArePairsOf c before rs ps mid → IsPairOf c mid r p after → ArePairsOf c before (rs ++ (r ∷ [])) (ps ++ (p ∷ [])) after
  pairs-more before [] [] mid r p after a b = (after, (subst (λ n. IsPairOf c n r p after) (sym a) b, refl))
  pairs-more before [] (q ∷ qs) mid r p after a b = absurd a
  pairs-more before (s ∷ ss) [] mid r p after a b = absurd a
  pairs-more before (s ∷ ss) (q ∷ qs) mid r p after a b = (a.0, (a.1.0, pairs-more a.0 ss qs mid r p after a.1.1 b))

  pub fault-more : (before : List Text) (rs : List RawPair) (ps : List (Plain × Plain)) (mid : List Text) (r : RawPair) (more : List RawPair) (f : TermFault) →
      ArePairsOf c before rs ps mid → IsPairFault c mid r f → IsPairsFault c before (rs ++ (r ∷ more)) f
  fault-more before [] [] mid r more f a b = inl (subst (λ n. IsPairFault c n r f) (sym a) b)
  fault-more before [] (q ∷ qs) mid r more f a b = absurd a
  fault-more before (s ∷ ss) [] mid r more f a b = absurd a
  fault-more before (s ∷ ss) (q ∷ qs) mid r more f a b = inr (q, a.0, (a.1.0, fault-more a.0 ss qs mid r more f a.1.1 b))

pub symbols-more : (ps : List (Plain × Plain)) (p : Plain × Plain) → symbols_of (ps ++ (p ∷ [])) ≡ symbols_of ps + (nodes (term p.0) + nodes (term p.1))
symbols-more [] p = omega arith
symbols-more (q ∷ qs) p = let h = symbols-more qs p in omega (arith, h)

pub sum-sum : (a b n : ℕ) → sum_or_most (sum_or_most a b) n ≡ sum_or_most a (b + n)
sum-sum a b n = omega arith

pub sum-below : (a b limit : ℕ) → a ≤ 2 ^ 64 - 1 → sum_or_most a b ≤ limit → a ≤ limit
sum-below a b limit m h = omega arith

pub sum-most : (a b : ℕ) → sum_or_most a b ≤ 2 ^ 64 - 1
sum-most a b = omega arith

-- the written pair at a place
pub record At (W : RawPair → Type 0) (raws : List RawPair) (i : ℕ) (h : Halves) : Type 0 where
  pub raw : RawPair
  pub written : W raw
  pub is : h ≡ halves_of raw
  pub next : take (suc i) raws ≡ take i raws ++ (raw ∷ [])
  pub whole : raws ≡ take i raws ++ (raw ∷ drop (suc i) raws)
  pub here : (d : RawPair) → get_or raws i d ≡ raw

pub at : (W : RawPair → Type 0) (list : List Halves) (raws : List RawPair) (i : ℕ) (h : Halves) → AllByRecursion W raws → list ≡ map halves_of raws →
    i < length list → h ≡ get_or list i h → At W raws i h
at W [] raws i h w a within is = absurd (omega arith)
at W (k ∷ ks) [] i h w a within is = (let e : k ∷ ks ≡ [] = a in cc)
at W (k ∷ ks) (r ∷ rs) zero h w a within is =
    let e : k ≡ halves_of r = (let f : k ∷ ks ≡ halves_of r ∷ map halves_of rs = a in cc) in
    record { raw = r; written = w.0; is = is ∙ e; next = refl; whole = refl; here = λ d. refl }
at W (k ∷ ks) (r ∷ rs) (suc i) h w a within is =
    let t : ks ≡ map halves_of rs = (let f : k ∷ ks ≡ halves_of r ∷ map halves_of rs = a in cc) in
    let g = at W ks rs i h w.1 t (omega arith) is in
    record { raw = g.raw; written = g.written; is = g.is; next = ap (λ x. r ∷ x) g.next; whole = ap (λ x. r ∷ x) g.whole; here = g.here }

pub at-of : (raws : List RawPair) (i : ℕ) (h : Halves) (p : At IsWrittenPair raws i h) → IsOf h p.raw
at-of raws i h p = record { written = p.written; is = p.is }

pub sort-of : (s q : SortId) → s.0 ≡ q.0 → s ≡ q
sort-of s q e = ap (λ n. record { 0 = n }) e

module _ (c : Scope) (before : Seen) (raw : RawPair) (l r : Kinded × Seen)
    (a : IsReadAs c TEXT_SYMBOLS before raw.left l) (b : IsReadAs c TEXT_SYMBOLS l.1 raw.right r) where
  right-stands : resolve c a.resolved.texts raw.right ≡ Ok b.resolved
  right-stands = ap (λ x. resolve c x raw.right) (sym a.texts) ∙ b.stands

  pub pair-read : (l.0).kind.0 ≡ (r.0).kind.0 → IsPairRead c before raw (((l.0).term, (r.0).term), r.1)
  pair-read e =
      let n = nodes (term a.resolved.term) in
      let m = nodes (term b.resolved.term) in
      record {
        pair = (a.resolved.term, b.resolved.term);
        stands = record {
          left = a.resolved;
          right = b.resolved;
          left_stands = a.stands;
          right_stands = right-stands;
          one_kind = sym a.kind ∙ sort-of (l.0).kind (r.0).kind e ∙ b.kind;
          is = refl;
          names = b.texts;
        };
        count = b.count ∙ ap (λ x. sum_or_most x m) a.count ∙ sum-sum before.count n m;
        built = λ small.
            let most : (l.1).count ≤ 2 ^ 64 - 1 = subst (λ x. x ≤ 2 ^ 64 - 1) (sym a.count) (sum-most before.count n) in
            let first = sum-below (l.1).count m TEXT_SYMBOLS most (subst (λ x. x ≤ TEXT_SYMBOLS) b.count small) in
            ap (λ t. (t, (r.0).term)) (a.built first) ∙ ap (λ t. (a.resolved.term, t)) (b.built small);
      }

  pub kinds-differ : ((l.0).kind.0 ≡ (r.0).kind.0 → ⊥) → IsPairFault c before.texts raw WrongKind
  kinds-differ ne = two_kinds a.resolved b.resolved a.stands right-stands (λ e. ne (ap (λ s. s.0) (a.kind ∙ e ∙ sym b.kind))) refl

-- both halves of a pair, as they are read
module _ (c : Scope) (before : Seen) (h : Halves) (l : Kinded × Seen) (left : Reads c TEXT_SYMBOLS before h.left l) where
  left-read : (raw : RawPair) → IsOf h raw → IsReadAs c TEXT_SYMBOLS before raw.left l
  left-read raw of = left raw.left (of.written).0 (ap (λ x. x.left) of.is)

  pub refuse-right : (f : TermFault) → (f ≡ NoMemory) ⊎ Refuses c (l.1).texts h.right f → MemoryOr (RefusesPair c before.texts h) f
  refuse-right f (inl e) = inl e
  refuse-right f (inr g) = inr (λ raw of.
      let a = left-read raw of in
      let k = g raw.right (of.written).1 (ap (λ x. x.right) of.is) in
      in_right a.resolved a.stands (ap (λ x. resolve c x raw.right) (sym a.texts) ∙ k))

  module _ (r : Kinded × Seen) (right : Reads c TEXT_SYMBOLS l.1 h.right r) where
    pub refuse-kinds : ((l.0).kind.0 ≡ (r.0).kind.0 → ⊥) → MemoryOr (RefusesPair c before.texts h) WrongKind
    refuse-kinds ne = inr (λ raw of. kinds-differ c before raw l r (left-read raw of) (right raw.right (of.written).1 (ap (λ x. x.right) of.is)) ne)

    pub read-both : (l.0).kind.0 ≡ (r.0).kind.0 → ReadsPair c before h (((l.0).term, (r.0).term), r.1)
    read-both e raw of = pair-read c before raw l r (left-read raw of) (right raw.right (of.written).1 (ap (λ x. x.right) of.is)) e

-- the loop over all pairs
module _ (c : Scope) (list : List Halves) where
  -- the pairs before the i-th are read
  abbrev pub ReadSoFar : ℕ → List (Plain × Plain) → Seen → Type 0
  ReadSoFar i pairs seen = (raws : List RawPair) → AreOf list raws → ArePairsRead c (take i raws) pairs seen

  module _ (i : ℕ) (pairs : List (Plain × Plain)) (seen : Seen) (h : Halves) (so : ReadSoFar i pairs seen) (within : i < length list) (is : h ≡ get_or list i h) where
    next-read : (read : (Plain × Plain) × Seen) → ReadsPair c seen h read → ReadSoFar (suc i) (pairs ++ (read.0 ∷ [])) read.1
    next-read read a raws of =
        let p = at IsWrittenPair list raws i h of.written of.are within is in
        let x = a p.raw (at-of raws i h p) in
        let b = so raws of in
        let s = symbols_of b.true_pairs in
        let n = nodes (term (x.pair).0) + nodes (term (x.pair).1) in
        record {
          true_pairs = b.true_pairs ++ (x.pair ∷ []);
          stand =
              subst (λ rs. ArePairsOf c [] rs (b.true_pairs ++ (x.pair ∷ [])) (read.1).texts) (sym p.next)
              (pairs-more c [] (take i raws) b.true_pairs seen.texts p.raw x.pair (read.1).texts b.stand x.stands);
          count = x.count ∙ ap (λ m. sum_or_most m n) b.count ∙ sum-sum 0 s n ∙ ap (sum_or_most 0) (sym (symbols-more b.true_pairs x.pair));
          built = λ small.
              let most : seen.count ≤ 2 ^ 64 - 1 = subst (λ m. m ≤ 2 ^ 64 - 1) (sym b.count) (sum-most 0 s) in
              let first = sum-below seen.count n TEXT_SYMBOLS most (subst (λ m. m ≤ TEXT_SYMBOLS) x.count small) in
              ap (λ ps. ps ++ (read.0 ∷ [])) (b.built first) ∙ ap (λ q. b.true_pairs ++ (q ∷ [])) (x.built small);
        }

    pub one-more : (read : (Plain × Plain) × Seen) (items : List (Plain × Plain)) → ReadsPair c seen h read → items ≡ pairs ++ (read.0 ∷ []) → ReadSoFar (i + 1) items read.1
    one-more read items a e =
        let n : suc i ≡ i + 1 = omega arith in
        subst (λ m. ReadSoFar m items read.1) n (subst (λ l. ReadSoFar (suc i) l read.1) (sym e) (next-read read a))

    pub refuse-here : (f : TermFault) → MemoryOr (RefusesPair c seen.texts h) f → MemoryOr (RefusesPairs c list) f
    refuse-here f (inl e) = inl e
    refuse-here f (inr g) = inr (λ raws of.
        let p = at IsWrittenPair list raws i h of.written of.are within is in
        let b = so raws of in
        subst (λ rs. IsPairsFault c [] rs f) (sym p.whole) (fault-more c [] (take i raws) b.true_pairs seen.texts p.raw (drop (suc i) raws) f b.stand (g p.raw (at-of raws i h p))))
