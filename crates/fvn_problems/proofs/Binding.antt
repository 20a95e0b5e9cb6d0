-- What bindings bind is determined, and read from left to right.
use Rattle.std.proofs.Common.{◌≡◌, ◌≢◌, ℕ, suc, ◌+◌, ◌<◌, ◌≤◌, max, ◌⊎◌, inl, inr, List, [], ◌∷◌, ◌++◌, length, take, drop, get_or, Some, None, Ok, refl, sym, ap, ◌∙◌, subst, arith}
use Rattle.std.specs.Prelude.{All, AllPairs}
use Rattle.std.proofs.lemmas.Bool.{cases_lt}
use Rattle.std.proofs.lemmas.List.{length-map, take_all}
use Rattle.std.proofs.lemmas.List.Elements.{All-push, Contains-push, Contains-append_left}
use Rattle.fvn_base.specs.declared.limits.TheConstants.{TERM_SYMBOLS}
use Rattle.fvn_terms.specs.declared.plain.Var.{Var}
use Rattle.fvn_terms.specs.declared.plain.SortId.{SortId}
use Rattle.fvn_terms.specs.declared.plain.Plain.{Plain}
use Rattle.fvn_terms.specs.declared.declarations.Declarations.{Declarations}
use Rattle.fvn_terms.specs.Term.{nodes}
use Rattle.fvn_terms.specs.Plain.{term}
use Rattle.fvn_terms.specs.Signature.{kind, AtOrBelow}
use Rattle.fvn_terms.specs.Sorts.{HasSort, IsLeastSort}
use Rattle.fvn_terms.proofs.WellSorted.{AtOrBelow-trans}
use Rattle.fvn_syntax.specs.declared.fault.TermFault.{TermFault}
use Rattle.fvn_syntax.specs.declared.fault.TermFault.TheVariants as term_fault
use Rattle.fvn_syntax.specs.declared.seen.Seen.{Seen}
use Rattle.fvn_syntax.specs.declared.seen.Kinded.{Kinded}
use Rattle.fvn_syntax.specs.Pieces.{Text}
use Rattle.fvn_syntax.specs.Raw.{RawTerm}
use Rattle.fvn_syntax.specs.Readings.{sum_or_most, IsReadAs, Reads, Refuses}
use Rattle.fvn_syntax.specs.Resolve.{Resolved, resolve}
use Rattle.fvn_syntax.specs.Scope.{Scope}
use Rattle.fvn_problems.specs.declared.fault.ProblemFault.{ProblemFault}
use Rattle.fvn_problems.specs.declared.fault.ProblemFault.TheVariants.{UnknownName, WrongKind, WrongSort, TooLarge}
use Rattle.fvn_problems.specs.declared.problem.Problem.{Problem}
use Rattle.fvn_problems.specs.declared.split.Halves.{Halves}
use Rattle.fvn_problems.specs.Faults.{fault_of}
use Rattle.fvn_problems.specs.Bindings.{IsVariableOf, IsBindingOf, IsBindingFault, no_variable, in_term, other_kind, other_sort, AreBindingsOf, IsBindingsFault, in_bindings, too_large}
use Rattle.fvn_problems.specs.Spelling.{RawPair, IsWrittenBinding}
use Rattle.fvn_problems.specs.inner.Split.{halves_of}
use Rattle.fvn_problems.specs.inner.Sorting.{HasLeastSort}
use Rattle.fvn_problems.specs.inner.Bound.{IsBound, AreBound, Finds, ReadsBinding, RefusesBinding, AreBindingsRead, Binds, BindsNothing}
use Rattle.fvn_problems.proofs.Pairs.{same-meaning, no-fault, same-fault, sort-of, At, at}
use Rattle.fvn_problems.proofs.Writing.{named, place-only}

larger : (a b : ℕ) → TERM_SYMBOLS < max a b → (TERM_SYMBOLS < a) ⊎ (TERM_SYMBOLS < b)
larger a b l = elim (cases_lt TERM_SYMBOLS a) [ inl m ↦ inl m | inr m ↦ inr (omega arith) ]

-- a term has each sort above one that it has
above : (d : Declarations) (t : RawTerm) (r : Resolved) (s q : SortId) → HasSort d (term r.term) s → AtOrBelow d s q → HasSort d (term r.term) q
above d t r s q h l = record { form = h.form; equal = h.equal; gets = record { sort = h.gets.sort; gets = h.gets.gets; below = AtOrBelow-trans d h.gets.below l } }

module _ (c : Scope) (p : Problem) where
  -- one binding, as it is read
  module _ (before : Seen) (zero_count : before.count ≡ 0) (h : Halves) where
    pub refuse-variable : Finds c p h.left None → RefusesBinding c p before.texts h UnknownName
    refuse-variable n = inr (λ raw of. no_variable (n raw.left (of.written).1.0 (of.written).0 (ap (λ x. x.left) of.is)) refl)

    module _ (x : Var) (found : Finds c p h.left (Some x)) where
      variable-of : (raw : RawPair) → IsBound h raw → IsVariableOf c p raw.left x
      variable-of raw of = found raw.left (of.written).1.0 (of.written).0 (ap (λ y. y.left) of.is)

      pub refuse-term : (f : TermFault) → (f ≡ term_fault.NoMemory) ⊎ Refuses c before.texts h.right f → RefusesBinding c p before.texts h (fault_of f)
      refuse-term f (inl e) = inl (ap fault_of e)
      refuse-term f (inr g) = inr (λ raw of. in_term x (variable-of raw of) f (g raw.right (of.written).1.1 (ap (λ y. y.right) of.is)) refl)

      module _ (read : Kinded × Seen) (reads : Reads c TERM_SYMBOLS before h.right read) where
        read-as : (raw : RawPair) → IsBound h raw → IsReadAs c TERM_SYMBOLS before raw.right read
        read-as raw of = reads raw.right (of.written).1.1 (ap (λ y. y.right) of.is)

        pub refuse-kind : ((read.0).kind.0 ≡ (kind c.declarations x.sort).0 → ⊥) → RefusesBinding c p before.texts h WrongKind
        refuse-kind ne = inr (λ raw of.
            let a = read-as raw of in
            other_kind x (variable-of raw of) a.resolved a.stands (λ e. ne (ap (λ s. s.0) (a.kind ∙ e))) refl)

        module _ (same : (read.0).kind.0 ≡ (kind c.declarations x.sort).0) (s : SortId) (least : HasLeastSort c h.right s) where
          kinds-same : (raw : RawPair) (of : IsBound h raw) → (read-as raw of).resolved.kind ≡ kind c.declarations x.sort
          kinds-same raw of = sym (read-as raw of).kind ∙ sort-of (read.0).kind (kind c.declarations x.sort) same

          least-of : (raw : RawPair) (of : IsBound h raw) → IsLeastSort c.declarations (term (read-as raw of).resolved.term) s
          least-of raw of = least raw.right before.texts (read-as raw of).resolved (of.written).1.1 (ap (λ y. y.right) of.is) (read-as raw of).stands

          pub refuse-sort : (AtOrBelow c.declarations s x.sort → ⊥) → RefusesBinding c p before.texts h WrongSort
          refuse-sort n = inr (λ raw of.
              let a = read-as raw of in
              other_sort x (variable-of raw of) a.resolved a.stands (kinds-same raw of) (λ q. n ((least-of raw of).least x.sort q)) refl)

          pub read-binding : AtOrBelow c.declarations s x.sort → ReadsBinding c p before.texts h ((x, (read.0).term), read.1)
          read-binding l raw of =
              let a = read-as raw of in
              record {
                pair = (x, a.resolved.term);
                stands = record {
                  variable = variable-of raw of;
                  resolved = a.resolved;
                  stands = a.stands;
                  one_kind = kinds-same raw of;
                  sorted = above c.declarations raw.right a.resolved s x.sort (least-of raw of).has l;
                  term_is = refl;
                  names = a.texts;
                };
                count = a.count ∙ ap (λ n. sum_or_most n (nodes (term a.resolved.term))) zero_count;
                built = λ small. ap (λ t. (x, t)) (a.built small);
              }

  bindings-more : (before : List Text) (rs : List RawPair) (bs : List (Var × Plain)) (mid : List Text) (r : RawPair) (b : Var × Plain) (after : List Text) →
      AreBindingsOf c p before rs bs mid → IsBindingOf c p mid r b after → AreBindingsOf c p before (rs ++ (r ∷ [])) (bs ++ (b ∷ [])) after
  bindings-more before [] [] mid r b after a k = (after, (subst (λ n. IsBindingOf c p n r b after) (sym a) k, refl))
  bindings-more before [] (q ∷ qs) mid r b after a k = absurd a
  bindings-more before (s ∷ ss) [] mid r b after a k = absurd a
  bindings-more before (s ∷ ss) (q ∷ qs) mid r b after a k = (a.0, (a.1.0, bindings-more a.0 ss qs mid r b after a.1.1 k))

  fault-more : (before : List Text) (rs : List RawPair) (bs : List (Var × Plain)) (mid : List Text) (r : RawPair) (more : List RawPair) (f : ProblemFault) →
      AreBindingsOf c p before rs bs mid → IsBindingFault c p mid r f → IsBindingsFault c p before (rs ++ (r ∷ more)) f
  fault-more before [] [] mid r more f a k = inl (subst (λ n. IsBindingFault c p n r f) (sym a) k)
  fault-more before [] (q ∷ qs) mid r more f a k = absurd a
  fault-more before (s ∷ ss) [] mid r more f a k = absurd a
  fault-more before (s ∷ ss) (q ∷ qs) mid r more f a k = inr (q, a.0, (a.1.0, fault-more a.0 ss qs mid r more f a.1.1 k))

  -- the loop over all bindings
  module _ (list : List Halves) where
    abbrev pub BoundSoFar : ℕ → List (Var × Plain) → List Text → ℕ → Type 0
    BoundSoFar i pairs texts most = (raws : List RawPair) → AreBound list raws → AreBindingsRead c p (take i raws) pairs texts most

    module _ (i : ℕ) (pairs : List (Var × Plain)) (texts : List Text) (most : ℕ) (h : Halves) (so : BoundSoFar i pairs texts most) (within : i < length list) (is : h ≡ get_or list i h) where
      bound : (raws : List RawPair) (q : At IsWrittenBinding raws i h) → IsBound h q.raw
      bound raws q = record { written = q.written; is = q.is }

      next-bound : (read : (Var × Plain) × Seen) (items : List (Var × Plain)) → ReadsBinding c p texts h read → items ≡ pairs ++ (read.0 ∷ []) →
          BoundSoFar (suc i) items (read.1).texts (max most (read.1).count)
      next-bound read items a e raws of =
          let q = at IsWrittenBinding list raws i h of.written of.are within is in
          let x = a q.raw (bound raws q) in
          let b = so raws of in
          let n = nodes (term (x.pair).1) in
          let count = x.count in
          record {
            true_pairs = b.true_pairs ++ (x.pair ∷ []);
            stand =
                subst (λ rs. AreBindingsOf c p p.names.texts rs (b.true_pairs ++ (x.pair ∷ [])) (read.1).texts) (sym q.next)
                (bindings-more p.names.texts (take i raws) b.true_pairs texts q.raw x.pair (read.1).texts b.stand x.stands);
            built = λ small.
                let s : most ≤ TERM_SYMBOLS = omega arith in
                let t : (read.1).count ≤ TERM_SYMBOLS = omega arith in
                let g = b.built s in (
                  e ∙ ap (λ ps. ps ++ (read.0 ∷ [])) g.0 ∙ ap (λ y. b.true_pairs ++ (y ∷ [])) (x.built t),
                  All-push (λ y. nodes (term y.1) ≤ TERM_SYMBOLS) b.true_pairs x.pair g.1 (omega arith),
                );
            large = λ l. elim (larger most (read.1).count l) [
              | inl m ↦ (let g = b.large m in (g.0, (Contains-append_left b.true_pairs (x.pair ∷ []) g.0 g.1.0, g.1.1)))
              | inr m ↦ (x.pair, (Contains-push b.true_pairs x.pair, (omega arith)))
            ];
          }

      pub one-bound : (read : (Var × Plain) × Seen) (items : List (Var × Plain)) (now : ℕ) → ReadsBinding c p texts h read → items ≡ pairs ++ (read.0 ∷ []) →
          now ≡ max most (read.1).count → BoundSoFar (i + 1) items (read.1).texts now
      one-bound read items now a e m =
          let n : suc i ≡ i + 1 = omega arith in
          subst (λ k. BoundSoFar k items (read.1).texts now) n (subst (BoundSoFar (suc i) items (read.1).texts) (sym m) (next-bound read items a e))

      pub refuse-here : (f : ProblemFault) → RefusesBinding c p texts h f → BindsNothing c p list f
      refuse-here f (inl e) raws of = inl e
      refuse-here f (inr g) raws of =
          let q = at IsWrittenBinding list raws i h of.written of.are within is in
          let b = so raws of in
          inr (in_bindings (subst (λ rs. IsBindingsFault c p p.names.texts rs f) (sym q.whole)
          (fault-more p.names.texts (take i raws) b.true_pairs texts q.raw (drop (suc i) raws) f b.stand (g q.raw (bound raws q)))))

    module _ (i : ℕ) (pairs : List (Var × Plain)) (texts : List Text) (most : ℕ) (so : BoundSoFar i pairs texts most) (l : length list ≤ i) where
      all-bound : (raws : List RawPair) → AreBound list raws → AreBindingsRead c p raws pairs texts most
      all-bound raws of =
          let n : length raws ≡ length list = sym (ap length of.are ∙ length-map raws halves_of) in
          subst (λ rs. AreBindingsRead c p rs pairs texts most) (take_all i raws (omega arith)) (so raws of)

      pub binds : most ≤ TERM_SYMBOLS → Binds c p list (record { subst = record { pairs = pairs } })
      binds small raws of =
          let b = all-bound raws of in
          let g = b.built small in
          record {
            names = texts;
            pairs = subst (λ ps. AreBindingsOf c p p.names.texts raws ps texts) (sym g.0) b.stand;
            small = subst (All (λ s. nodes (term s.1) ≤ TERM_SYMBOLS)) (sym g.0) g.1;
          }

      pub too-large : TERM_SYMBOLS < most → BindsNothing c p list TooLarge
      too-large large raws of =
          let b = all-bound raws of in
          inr (too_large b.true_pairs texts b.stand (b.large large) refl)

  -- the sort of a variable that is written, and the names up to the end of a binding
  sort-same : (v : RawTerm) (x y : Var) → IsVariableOf c p v x → IsVariableOf c p v y → x.sort ≡ y.sort
  sort-same v x y a b =
      let w : named a.text x.sort ≡ named b.text y.sort = (let f : Some (named a.text x.sort) ≡ Some (named b.text y.sort) = sym a.stands ∙ b.stands in cc) in
      ap (λ q. q.1) w

  names-same : (before : List Text) (raw : RawPair) (b e : Var × Plain) (x y : List Text) → IsBindingOf c p before raw b x → IsBindingOf c p before raw e y → x ≡ y
  names-same before raw b e x y u v =
      let r = same-meaning c before raw.right u.resolved v.resolved u.stands v.stands in
      u.names ∙ ap (λ z. z.texts) r ∙ sym v.names

  binding-faultless : (before : List Text) (raw : RawPair) (b : Var × Plain) (x : List Text) (f : ProblemFault) → IsBindingOf c p before raw b x → IsBindingFault c p before raw f → ⊥
  binding-faultless before raw b x f u (no_variable n is) = n b.0 u.variable
  binding-faultless before raw b x f u (in_term y v first h is) = no-fault c before raw.right u.resolved first u.stands h
  binding-faultless before raw b x f u (other_kind y v r h ne is) =
      let e = same-meaning c before raw.right u.resolved r u.stands h in
      let n = sort-same raw.left b.0 y u.variable v in
      ne (ap (λ z. z.kind) (sym e) ∙ u.one_kind ∙ ap (kind c.declarations) n)
  binding-faultless before raw b x f u (other_sort y v r h k n is) =
      let e = same-meaning c before raw.right u.resolved r u.stands h in
      let m = sort-same raw.left b.0 y u.variable v in
      n (subst (λ (z : Resolved). HasSort c.declarations (term z.term) y.sort) e (subst (HasSort c.declarations (term u.resolved.term)) m u.sorted))

  pub bindings-faultless : (before : List Text) (rs : List RawPair) (bs : List (Var × Plain)) (x : List Text) (f : ProblemFault) → AreBindingsOf c p before rs bs x → IsBindingsFault c p before rs f → ⊥
  bindings-faultless before [] bs x f u v = absurd v
  bindings-faultless before (r ∷ rs) [] x f u v = absurd u
  bindings-faultless before (r ∷ rs) (b ∷ bs) x f u (inl v) = binding-faultless before r b u.0 f u.1.0 v
  bindings-faultless before (r ∷ rs) (b ∷ bs) x f u (inr v) =
      let e = names-same before r v.0 b v.1 u.0 v.2.0 u.1.0 in
      bindings-faultless v.1 rs bs x f (subst (λ n. AreBindingsOf c p n rs bs x) (sym e) u.1.1) v.2.1

  -- a term is not of another kind and of one kind
  kinds-apart : (before : List Text) (raw : RawPair) (x : Var) → IsVariableOf c p raw.left x → (r : Resolved) → resolve c before raw.right ≡ Ok r → r.kind ≢ kind c.declarations x.sort →
      (y : Var) → IsVariableOf c p raw.left y → (s : Resolved) → resolve c before raw.right ≡ Ok s → s.kind ≡ kind c.declarations y.sort → ⊥
  kinds-apart before raw x u r h ne y v s k same =
      let e = same-meaning c before raw.right r s h k in
      ne (ap (λ z. z.kind) e ∙ same ∙ ap (kind c.declarations) (sort-same raw.left y x v u))

  binding-fault-same : (before : List Text) (raw : RawPair) (f g : ProblemFault) → IsBindingFault c p before raw f → IsBindingFault c p before raw g → f ≡ g
  binding-fault-same before raw f g (no_variable n is) (no_variable m e) = is ∙ sym e
  binding-fault-same before raw f g (no_variable n is) (in_term y v second k e) = absurd (n y v)
  binding-fault-same before raw f g (no_variable n is) (other_kind y v r k ne e) = absurd (n y v)
  binding-fault-same before raw f g (no_variable n is) (other_sort y v r k q m e) = absurd (n y v)
  binding-fault-same before raw f g (in_term x u first h is) (no_variable m e) = absurd (m x u)
  binding-fault-same before raw f g (in_term x u first h is) (in_term y v second k e) = is ∙ ap fault_of (same-fault c before raw.right first second h k) ∙ sym e
  binding-fault-same before raw f g (in_term x u first h is) (other_kind y v r k ne e) = absurd (no-fault c before raw.right r first k h)
  binding-fault-same before raw f g (in_term x u first h is) (other_sort y v r k q m e) = absurd (no-fault c before raw.right r first k h)
  binding-fault-same before raw f g (other_kind x u r h ne is) (no_variable m e) = absurd (m x u)
  binding-fault-same before raw f g (other_kind x u r h ne is) (in_term y v second k e) = absurd (no-fault c before raw.right r second h k)
  binding-fault-same before raw f g (other_kind x u r h ne is) (other_kind y v s k me e) = is ∙ sym e
  binding-fault-same before raw f g (other_kind x u r h ne is) (other_sort y v s k q m e) = absurd (kinds-apart before raw x u r h ne y v s k q)
  binding-fault-same before raw f g (other_sort x u r h q n is) (no_variable m e) = absurd (m x u)
  binding-fault-same before raw f g (other_sort x u r h q n is) (in_term y v second k e) = absurd (no-fault c before raw.right r second h k)
  binding-fault-same before raw f g (other_sort x u r h q n is) (other_kind y v s k me e) = absurd (kinds-apart before raw y v s k me x u r h q)
  binding-fault-same before raw f g (other_sort x u r h q n is) (other_sort y v s k t m e) = is ∙ sym e

  pub bindings-fault-same : (before : List Text) (rs : List RawPair) (f g : ProblemFault) → IsBindingsFault c p before rs f → IsBindingsFault c p before rs g → f ≡ g
  bindings-fault-same before [] f g a b = absurd a
  bindings-fault-same before (r ∷ rs) f g (inl a) (inl b) = binding-fault-same before r f g a b
  bindings-fault-same before (r ∷ rs) f g (inl a) (inr b) = absurd (binding-faultless before r b.0 b.1 f b.2.0 a)
  bindings-fault-same before (r ∷ rs) f g (inr a) (inl b) = absurd (binding-faultless before r a.0 a.1 g a.2.0 b)
  bindings-fault-same before (r ∷ rs) f g (inr a) (inr b) =
      let e = names-same before r a.0 b.0 a.1 b.1 a.2.0 b.2.0 in
      bindings-fault-same b.1 rs f g (subst (λ n. IsBindingsFault c p n rs f) e a.2.1) b.2.1

  -- a variable that is written is one of the problem
  module _ (distinct : AllPairs (λ x y. x ≢ y) p.names.texts) where
    pub variable-same : (v : RawTerm) (x y : Var) → IsVariableOf c p v x → IsVariableOf c p v y → x ≡ y
    variable-same v x y a b =
        let w : named a.text x.sort ≡ named b.text y.sort = (let f : Some (named a.text x.sort) ≡ Some (named b.text y.sort) = sym a.stands ∙ b.stands in cc) in
        let n : x.name ≡ y.name = place-only p.names.texts b.text x.name y.name distinct (a.named ∙ ap (λ q. Some q.0) w) b.named in
        λ i. record { name = n i; sort = (w i).1; fresh = (a.not_fresh ∙ sym b.not_fresh) i }

    pub binding-same : (before : List Text) (raw : RawPair) (b e : Var × Plain) (x y : List Text) → IsBindingOf c p before raw b x → IsBindingOf c p before raw e y → (b ≡ e) × (x ≡ y)
    binding-same before raw b e x y u v =
        let r = same-meaning c before raw.right u.resolved v.resolved u.stands v.stands in
        let n = variable-same raw.left b.0 e.0 u.variable v.variable in
        let t : b.1 ≡ e.1 = u.term_is ∙ ap (λ z. z.term) r ∙ sym v.term_is in
        (λ i. (n i, t i), u.names ∙ ap (λ z. z.texts) r ∙ sym v.names)

    pub bindings-same : (before : List Text) (rs : List RawPair) (bs es : List (Var × Plain)) (x y : List Text) → AreBindingsOf c p before rs bs x → AreBindingsOf c p before rs es y → (bs ≡ es) × (x ≡ y)
    bindings-same before [] [] [] x y u v = (refl, sym u ∙ v)
    bindings-same before [] [] (e ∷ es) x y u v = absurd v
    bindings-same before [] (b ∷ bs) es x y u v = absurd u
    bindings-same before (r ∷ rs) [] es x y u v = absurd u
    bindings-same before (r ∷ rs) (b ∷ bs) [] x y u v = absurd v
    bindings-same before (r ∷ rs) (b ∷ bs) (e ∷ es) x y u v =
        let f = binding-same before r b e u.0 v.0 u.1.0 v.1.0 in
        let g = bindings-same v.0 rs bs es x y (subst (λ n. AreBindingsOf c p n rs bs x) f.1 u.1.1) v.1.1 in
        (ap (λ z. z ∷ bs) f.0 ∙ ap (λ zs. e ∷ zs) g.0, g.1)
