-- What a problem asks is determined.
use Rattle.std.proofs.Common.{◌≡◌, zero, suc, ◌<◌, ◌≤◌, ◌⊎◌, inl, inr, List, [], ◌∷◌, Result, refl, sym, ap, ◌∙◌, subst, arith}
use Rattle.std.specs.Prelude.{IfErr, All, map}
use Rattle.std.specs.List.{AllByRecursion}
use Rattle.std.proofs.lemmas.List.{append-nil}
use Rattle.fvn_base.specs.declared.limits.TheConstants.{TEXT_SYMBOLS}
use Rattle.fvn_lex.specs.Cut.{Piece}
use Rattle.fvn_lex.specs.Parts.{HasPieces}
use Rattle.fvn_lex.proofs.RowPieces.{pieces-once}
use Rattle.fvn_terms.specs.declared.plain.Var.{Var}
use Rattle.fvn_terms.specs.declared.plain.Plain.{Plain}
use Rattle.fvn_terms.specs.declared.declarations.Declarations.{Declarations}
use Rattle.fvn_terms.specs.Plain.{term}
use Rattle.fvn_terms.specs.Signature.{IsSort, HasKind}
use Rattle.fvn_terms.specs.Substitution.{Occurs}
use Rattle.fvn_syntax.specs.declared.fault.TermFault.{TermFault}
use Rattle.fvn_syntax.specs.declared.names.Names.{Names}
use Rattle.fvn_syntax.specs.declared.seen.Seen.{Seen}
use Rattle.fvn_syntax.specs.Laws.{TermsAreWellKinded}
use Rattle.fvn_syntax.specs.Pieces.{Text}
use Rattle.fvn_syntax.specs.Raw.{RawTerm, spell, IsWritten, IsTermBefore}
use Rattle.fvn_syntax.specs.Scope.{Scope}
use Rattle.fvn_syntax.proofs.SpelledOnce.{ends-nil}
use Rattle.fvn_problems.specs.declared.fault.ProblemFault.{ProblemFault}
use Rattle.fvn_problems.specs.declared.fault.ProblemFault.TheVariants.{Text as NoText, TooLarge, NoMemory}
use Rattle.fvn_problems.specs.declared.problem.Problem.{Problem}
use Rattle.fvn_problems.specs.declared.split.Halves.{Halves}
use Rattle.fvn_problems.specs.Faults.{fault_of}
use Rattle.fvn_problems.specs.Problems.{symbols_of, AreOfOneKind, IsPairOf, ArePairsOf, IsProblemOf, IsProblemFault, in_pairs, too_large, IsProblem, IsOnlyProblem, RefusesProblem, HasNoProblem, HasVariables}
use Rattle.fvn_problems.specs.Scopes.{guarded, AreNamesOf}
use Rattle.fvn_problems.specs.Spelling.{RawPair, RawProblem, pairs_in, spell_problem, IsWrittenPair, IsProblemText}
use Rattle.fvn_problems.specs.Variables.{with_sides, OccursInSides}
use Rattle.fvn_problems.specs.inner.Split.{halves_of, AreTerms, IsProblemRow, IsProblemSplit}
use Rattle.fvn_problems.specs.inner.Steps.{MemoryOr, AreOf, ReadsPairs, RefusesPairs, Asks, AsksNothing}
use Rattle.fvn_problems.proofs.Answering.{on-err, first-written, refuted, IsOfText, fault_of-text}
use Rattle.fvn_problems.proofs.Named.{Grown, grown-ok, grown-both, grown-same, sort-known}
use Rattle.fvn_problems.proofs.Occurring.{Lists, lists-sides, lists-nothing, alone-listed}
use Rattle.fvn_problems.proofs.Pairs.{pairs-same, pairs-faultless}
use Rattle.fvn_problems.proofs.Spelled.{problems-once}

abbrev pub make : List (Plain × Plain) → List Var → List Text → Problem
make ps vars texts = record { pairs = ps; vars = vars; names = record { texts = texts } }

-- the step from what was read to what is asked
module _ (c : Scope) (list : List Halves) where
  pub asks : (ps : List (Plain × Plain)) (seen : Seen) (vars : List Var) → ReadsPairs c list (ps, seen) → seen.count ≤ TEXT_SYMBOLS → vars ≡ with_sides [] ps →
      Asks c list (make ps vars seen.texts)
  asks ps seen vars reads small is raw of =
      let r = reads (pairs_in raw) of in
      let e : ps ≡ r.true_pairs = r.built small in
      let n = r.count in
      let less : symbols_of r.true_pairs ≤ TEXT_SYMBOLS = omega arith in
      record {
        pairs = subst (λ qs. ArePairsOf c [] (pairs_in raw) qs seen.texts) (sym e) r.stand;
        vars = is;
        small = subst (λ qs. symbols_of qs ≤ TEXT_SYMBOLS) (sym e) less;
      }

  pub too-large : (ps : List (Plain × Plain)) (seen : Seen) → ReadsPairs c list (ps, seen) → TEXT_SYMBOLS < seen.count → AsksNothing c list TooLarge
  too-large ps seen reads large raw of =
      let r = reads (pairs_in raw) of in
      let n = r.count in
      inr (too_large r.true_pairs seen.texts r.stand (omega arith) refl)

  pub refused : (f : TermFault) → MemoryOr (RefusesPairs c list) f → AsksNothing c list (fault_of f)
  refused f (inl e) raw of = inl (ap fault_of e)
  refused f (inr h) raw of = inr (in_pairs f (h (pairs_in raw) of) refl)

module _ (c : Scope) (raw : RawProblem) where
  asks-once : (p q : Problem) → IsProblemOf c raw p → IsProblemOf c raw q → p ≡ q
  asks-once p q a b =
      let e = pairs-same c [] (pairs_in raw) p.pairs q.pairs p.names.texts q.names.texts a.pairs b.pairs in
      let v : p.vars ≡ q.vars = a.vars ∙ ap (with_sides []) e.0 ∙ sym b.vars in
      ap (λ x. make x p.vars p.names.texts) e.0 ∙ ap (λ x. make q.pairs x p.names.texts) v ∙ ap (make q.pairs q.vars) e.1

  asks-faultless : (p : Problem) (f : ProblemFault) → IsProblemOf c raw p → IsProblemFault c raw f → ⊥
  asks-faultless p f a (in_pairs first h is) = pairs-faultless c [] (pairs_in raw) p.pairs p.names.texts first a.pairs h
  asks-faultless p f a (too_large ps after h large is) =
      let e = pairs-same c [] (pairs_in raw) p.pairs ps p.names.texts after a.pairs h in
      let n : symbols_of p.pairs ≡ symbols_of ps = ap symbols_of e.0 in
      let small = a.small in
      absurd (omega arith)

  of-text : (f : ProblemFault) → IsProblemFault c raw f → IsOfText f
  of-text f (in_pairs first h is) = subst IsOfText (sym is) (fault_of-text first)
  of-text f (too_large ps after h large is) = subst IsOfText (sym is) tt

-- facts of pairs that are well-kinded
module _ (d : Declarations) (names : Names) (fit : AreNamesOf d names) (law : TermsAreWellKinded) where
  pair-kinded : (before : List Text) (raw : RawPair) (p : Plain × Plain) (after : List Text) → IsPairOf (guarded d names) before raw p after → AreOfOneKind d p
  pair-kinded before raw p after a =
      let l = law (guarded d names) fit.fitting before raw.left a.left a.left_stands in
      let r = law (guarded d names) fit.fitting a.left.texts raw.right a.right a.right_stands in
      subst (AreOfOneKind d) (sym a.is) (a.left.kind, (l, subst (HasKind d (term a.right.term)) (sym a.one_kind) r))

  pairs-kinded : (before : List Text) (rs : List RawPair) (ps : List (Plain × Plain)) (after : List Text) → ArePairsOf (guarded d names) before rs ps after → AllByRecursion (AreOfOneKind d) ps
  pairs-kinded before [] [] after a = tt
  pairs-kinded before [] (p ∷ ps) after a = absurd a
  pairs-kinded before (r ∷ rs) [] after a = absurd a
  pairs-kinded before (r ∷ rs) (p ∷ ps) after a = (pair-kinded before r p a.0 a.1.0, pairs-kinded a.0 rs ps after a.1.1)

  pair-grown : (before : List Text) (raw : RawPair) (p : Plain × Plain) (after : List Text) → IsPairOf (guarded d names) before raw p after →
      Grown before (λ x. Occurs x (term p.0) ⊎ Occurs x (term p.1)) after
  pair-grown before raw p after a =
      let l = grown-ok (guarded d names) before raw.left a.left a.left_stands in
      let r = grown-ok (guarded d names) a.left.texts raw.right a.right a.right_stands in
      let g = grown-both before a.left.texts a.right.texts (λ x. Occurs x (term a.left.term)) (λ x. Occurs x (term a.right.term)) l r in
      let h = subst (λ (q : Plain × Plain). Grown before (λ x. Occurs x (term q.0) ⊎ Occurs x (term q.1)) a.right.texts) (sym a.is) g in
      subst (Grown before (λ x. Occurs x (term p.0) ⊎ Occurs x (term p.1))) (sym a.names) h

  pairs-grown : (before : List Text) (rs : List RawPair) (ps : List (Plain × Plain)) (after : List Text) → ArePairsOf (guarded d names) before rs ps after →
      Grown before (OccursInSides ps) after
  pairs-grown before [] [] after a = grown-same before after (sym a)
  pairs-grown before [] (p ∷ ps) after a = absurd a
  pairs-grown before (r ∷ rs) [] after a = absurd a
  pairs-grown before (r ∷ rs) (p ∷ ps) after a =
      grown-both before a.0 after (λ x. Occurs x (term p.0) ⊎ Occurs x (term p.1)) (OccursInSides ps) (pair-grown before r p a.0 a.1.0) (pairs-grown a.0 rs ps after a.1.1)

pub all-at : {A : Type 0} (P : A → Type 0) (xs : List A) → AllByRecursion P xs → All P xs
all-at P [] a k e l = absurd (omega arith)
all-at P (x ∷ xs) a zero e l = a.0
all-at P (x ∷ xs) a (suc k) e l = all-at P xs a.1 k e (omega arith)

side-sorted : (d : Declarations) (x : Var) (ps : List (Plain × Plain)) → AllByRecursion (AreOfOneKind d) ps → OccursInSides ps x → IsSort d x.sort
side-sorted d x [] a o = absurd o
side-sorted d x (p ∷ ps) a (inl (inl o)) = sort-known d x (term p.0) a.0.0 a.0.1.0 o
side-sorted d x (p ∷ ps) a (inl (inr o)) = sort-known d x (term p.1) a.0.0 a.0.1.1 o
side-sorted d x (p ∷ ps) a (inr o) = side-sorted d x ps a.1 o

module _ (d : Declarations) (names : Names) (bytes : Text) where
  pub text-once : (q r : RawProblem) → IsProblemText bytes q → IsProblemText bytes r → q ≡ r
  text-once q r a b =
      let e = pieces-once bytes (spell_problem q) (spell_problem r) a.spelled b.spelled in
      problems-once q r a.written b.written e

  pub problem-only : (p : Problem) → IsProblem d names bytes p → IsOnlyProblem d names bytes p
  problem-only p a other b =
      let e : b.raw ≡ a.raw = text-once b.raw a.raw b.text a.text in
      asks-once (guarded d names) a.raw other p (subst (λ r. IsProblemOf (guarded d names) r other) e b.asked) a.asked

  never : (raw : RawProblem) → IsProblemText bytes raw → (f : ProblemFault) → IsProblemFault (guarded d names) raw f → (p : Problem) → IsProblem d names bytes p → ⊥
  never raw t f h p a =
      let e : a.raw ≡ raw = text-once a.raw raw a.text t in
      asks-faultless (guarded d names) raw p f (subst (λ r. IsProblemOf (guarded d names) r p) e a.asked) h

  pub problem-none : (f : ProblemFault) → RefusesProblem d names bytes f → HasNoProblem d names bytes f
  problem-none =
      refuted (IsProblemText bytes) (IsProblemFault (guarded d names)) bytes (IsProblem d names bytes)
      (λ raw t. (spell_problem raw, t.spelled)) (λ p a. (a.raw, a.text)) never

  pub problem-kinded : TermsAreWellKinded → AreNamesOf d names → (p : Problem) → IsProblem d names bytes p → All (AreOfOneKind d) p.pairs
  problem-kinded law fit p a =
      all-at (AreOfOneKind d) p.pairs (pairs-kinded d names fit law [] (pairs_in a.raw) p.pairs p.names.texts a.asked.pairs)

  pub problem-vars : TermsAreWellKinded → AreNamesOf d names → (p : Problem) → IsProblem d names bytes p → HasVariables d p
  problem-vars law fit p a =
      let kinded = pairs-kinded d names fit law [] (pairs_in a.raw) p.pairs p.names.texts a.asked.pairs in
      let g = pairs-grown d names fit law [] (pairs_in a.raw) p.pairs p.names.texts a.asked.pairs in
      let l = subst (Lists (OccursInSides p.pairs)) (sym a.asked.vars)
      (alone-listed (OccursInSides p.pairs) (with_sides [] p.pairs) (lists-sides p.pairs (λ x. ⊥) [] lists-nothing)) in
      record {
        exact = l.exact;
        distinct = l.distinct;
        named = λ x o. record { not_fresh = (g.old x o).0; number = (g.old x o).1; sort = side-sorted d x p.pairs kinded o };
      }

  module _ (row : List Piece) (cut : HasPieces bytes row) where
    -- a row that is none makes the text none
    pub problem-formless : ((raw : RawProblem) → IsProblemRow row raw → ⊥) → RefusesProblem d names bytes NoText
    problem-formless none =
        ((row, cut), λ raw t. none raw (record { written = t.written; spelled = pieces-once bytes row (spell_problem raw) cut t.spelled }))

    module _ (list : List Halves) (split : IsProblemSplit row list) where
      in-text : IsProblemText bytes split.raw
      in-text = record { written = split.is.written; spelled = subst (HasPieces bytes) split.is.spelled cut }

      in-list : AreOf list (pairs_in split.raw)
      in-list = record { written = split.is.written; are = split.halves }

      fault-of : (f : ProblemFault) → (f ≡ NoMemory) ⊎ IsProblemFault (guarded d names) split.raw f → RefusesProblem d names bytes f
      fault-of f (inl e) = subst (RefusesProblem d names bytes) (sym e) tt
      fault-of f (inr h) =
          first-written (IsProblemText bytes) (IsProblemFault (guarded d names)) bytes f (of-text (guarded d names) split.raw f h) split.raw in-text h

      pub problem-err : (r : Result Problem ProblemFault) → IfErr r (AsksNothing (guarded d names) list) → IfErr r (RefusesProblem d names bytes)
      problem-err = on-err (AsksNothing (guarded d names) list) (RefusesProblem d names bytes) (λ f a. fault-of f (a split.raw in-list))

term-row : (t : RawTerm) → IsWritten t → IsTermBefore [] (spell t)
term-row t w = record { term = t; written = w; ends = ends-nil t; spelled = sym (append-nil (spell t)) }

-- the halves of written pairs are terms
pub halves-terms : (raws : List RawPair) → AllByRecursion IsWrittenPair raws → AllByRecursion AreTerms (map halves_of raws)
halves-terms [] w = tt
halves-terms (r ∷ rs) w = ((term-row r.left (w.0).0, term-row r.right (w.0).1), halves-terms rs w.1)

pub are-terms : (list : List Halves) (raws : List RawPair) → AreOf list raws → All AreTerms list
are-terms list raws a = all-at AreTerms list (subst (AllByRecursion AreTerms) (sym a.are) (halves-terms raws a.written))

pub split-terms : (row : List Piece) (list : List Halves) → IsProblemSplit row list → All AreTerms list
split-terms row list h = are-terms list (pairs_in h.raw) (record { written = h.is.written; are = h.halves })
