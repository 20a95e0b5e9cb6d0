-- What a term text asks is determined.
use Rattle.std.proofs.Common.{◌≡◌, ◌<◌, ◌⊎◌, inl, inr, List, [], length, Result, Ok, refl, sym, ap, ◌∙◌, subst, arith}
use Rattle.std.specs.Prelude.{IfErr}
use Rattle.fvn_base.specs.declared.limits.TheConstants.{TEXT_SYMBOLS}
use Rattle.fvn_lex.specs.Cut.{Piece}
use Rattle.fvn_lex.specs.Parts.{HasPieces}
use Rattle.fvn_lex.proofs.RowPieces.{pieces-once}
use Rattle.fvn_terms.specs.declared.plain.Var.{Var}
use Rattle.fvn_terms.specs.declared.plain.Plain.{Plain}
use Rattle.fvn_terms.specs.declared.declarations.Declarations.{Declarations}
use Rattle.fvn_terms.specs.Term.{nodes}
use Rattle.fvn_terms.specs.Plain.{term}
use Rattle.fvn_terms.specs.Signature.{IsTerm}
use Rattle.fvn_terms.specs.Substitution.{Occurs}
use Rattle.fvn_syntax.specs.declared.fault.TermFault.{TermFault}
use Rattle.fvn_syntax.specs.declared.fault.TermFault.TheVariants as term_fault
use Rattle.fvn_syntax.specs.declared.names.Names.{Names}
use Rattle.fvn_syntax.specs.declared.seen.Seen.{Seen}
use Rattle.fvn_syntax.specs.declared.seen.Kinded.{Kinded}
use Rattle.fvn_syntax.specs.Readings.{sum_or_most, Reads, Refuses}
use Rattle.fvn_syntax.specs.Laws.{TermsAreWellKinded}
use Rattle.fvn_syntax.specs.Pieces.{Text}
use Rattle.fvn_syntax.specs.Resolve.{resolve}
use Rattle.fvn_syntax.specs.Scope.{Scope}
use Rattle.fvn_problems.specs.declared.fault.ProblemFault.{ProblemFault}
use Rattle.fvn_problems.specs.declared.fault.ProblemFault.TheVariants.{Text as NoText, TooLarge, NoMemory}
use Rattle.fvn_problems.specs.declared.query.Query.{Query}
use Rattle.fvn_problems.specs.Faults.{fault_of}
use Rattle.fvn_problems.specs.Queries.{IsQueryOf, IsQueryFault, in_term, too_large, IsQuery, IsOnlyQuery, RefusesQuery, HasNoQuery, HasVariables}
use Rattle.fvn_problems.specs.Scopes.{guarded, AreNamesOf}
use Rattle.fvn_problems.specs.Spelling.{RawQuery, spell_query, IsQueryText}
use Rattle.fvn_problems.specs.Variables.{with_variables}
use Rattle.fvn_problems.specs.inner.Split.{IsQueryRow, IsQuerySplit}
use Rattle.fvn_problems.specs.inner.Steps.{IsTermOf, AsksNoTerm}
use Rattle.fvn_problems.proofs.Answering.{on-err, first-written, refuted, IsOfText, fault_of-text}
use Rattle.fvn_problems.proofs.Named.{grown-ok, sort-known}
use Rattle.fvn_problems.proofs.Occurring.{Lists, lists-term, lists-nothing, alone-listed}
use Rattle.fvn_problems.proofs.Pairs.{same-meaning, no-fault}
use Rattle.fvn_problems.proofs.Spelled.{queries-once}

abbrev pub make : Plain → List Var → List Text → Query
make t vars texts = record { term = t; vars = vars; names = record { texts = texts } }

module _ (c : Scope) (raw : RawQuery) where
  -- a written term asks one thing
  asks-once : (p q : Query) → IsQueryOf c raw p → IsQueryOf c raw q → p ≡ q
  asks-once p q a b =
      let e = same-meaning c [] raw.term a.resolved b.resolved a.stands b.stands in
      let t : p.term ≡ q.term = a.term_is ∙ ap (λ r. r.term) e ∙ sym b.term_is in
      let n : p.names.texts ≡ q.names.texts = a.names ∙ ap (λ r. r.texts) e ∙ sym b.names in
      let v : p.vars ≡ q.vars = a.vars ∙ ap (λ x. with_variables [] (term x)) t ∙ sym b.vars in
      ap (λ x. make x p.vars p.names.texts) t ∙ ap (λ x. make q.term x p.names.texts) v ∙ ap (make q.term q.vars) n

  asks-faultless : (q : Query) (f : ProblemFault) → IsQueryOf c raw q → IsQueryFault c raw f → ⊥
  asks-faultless q f a (in_term first h is) = no-fault c [] raw.term a.resolved first a.stands h
  asks-faultless q f a (too_large r h large is) =
      let e = same-meaning c [] raw.term a.resolved r a.stands h in
      let n : nodes (term q.term) ≡ nodes (term r.term) = ap (λ x. nodes (term x)) (a.term_is ∙ ap (λ x. x.term) e) in
      let small = a.small in
      absurd (omega arith)

  of-text : (f : ProblemFault) → IsQueryFault c raw f → IsOfText f
  of-text f (in_term first h is) = subst IsOfText (sym is) (fault_of-text first)
  of-text f (too_large r h large is) = subst IsOfText (sym is) tt

module _ (d : Declarations) (names : Names) (bytes : Text) where
  pub text-once : (q r : RawQuery) → IsQueryText bytes q → IsQueryText bytes r → q ≡ r
  text-once q r a b =
      let e = pieces-once bytes (spell_query q) (spell_query r) a.spelled b.spelled in
      queries-once q r a.written b.written e

  pub query-only : (q : Query) → IsQuery d names bytes q → IsOnlyQuery d names bytes q
  query-only q a other b =
      let e : b.raw ≡ a.raw = text-once b.raw a.raw b.text a.text in
      asks-once (guarded d names) a.raw other q (subst (λ r. IsQueryOf (guarded d names) r other) e b.asked) a.asked

  never : (raw : RawQuery) → IsQueryText bytes raw → (f : ProblemFault) → IsQueryFault (guarded d names) raw f → (q : Query) → IsQuery d names bytes q → ⊥
  never raw t f h q a =
      let e : a.raw ≡ raw = text-once a.raw raw a.text t in
      asks-faultless (guarded d names) raw q f (subst (λ r. IsQueryOf (guarded d names) r q) e a.asked) h

  pub query-none : (f : ProblemFault) → RefusesQuery d names bytes f → HasNoQuery d names bytes f
  query-none =
      refuted (IsQueryText bytes) (IsQueryFault (guarded d names)) bytes (IsQuery d names bytes)
      (λ raw t. (spell_query raw, t.spelled)) (λ q a. (a.raw, a.text)) never

  pub query-kinded : TermsAreWellKinded → AreNamesOf d names → (q : Query) → IsQuery d names bytes q → IsTerm d (term q.term)
  query-kinded law fit q a =
      let r = a.asked.resolved in
      subst (λ t. IsTerm d (term t)) (sym a.asked.term_is) (r.kind, law (guarded d names) fit.fitting [] a.raw.term r a.asked.stands)

  pub query-vars : TermsAreWellKinded → AreNamesOf d names → (q : Query) → IsQuery d names bytes q → HasVariables d q
  query-vars law fit q a =
      let r = a.asked.resolved in
      let g = grown-ok (guarded d names) [] a.raw.term r a.asked.stands in
      let is : IsTerm d (term q.term) = query-kinded law fit q a in
      let P : Var → Type 0 = λ x. Occurs x (term q.term) in
      let l = subst (Lists P) (sym a.asked.vars) (alone-listed P (with_variables [] (term q.term)) (lists-term (term q.term) (λ x. ⊥) [] lists-nothing)) in
      record {
        exact = l.exact;
        distinct = l.distinct;
        named = λ x o.
            let old = g.old x (subst (λ t. Occurs x (term t)) a.asked.term_is o) in
            record { not_fresh = old.0; number = subst (λ ts. x.name < length ts) (sym a.asked.names) old.1; sort = sort-known d x (term q.term) is.0 is.1 o };
      }

  module _ (row : List Piece) (cut : HasPieces bytes row) where
    -- a row that is none makes the text none
    pub query-formless : ((raw : RawQuery) → IsQueryRow row raw → ⊥) → RefusesQuery d names bytes NoText
    query-formless none =
        ((row, cut), λ raw t. none raw (record { written = t.written; spelled = pieces-once bytes row (spell_query raw) cut t.spelled }))

    module _ (front : List Piece) (split : IsQuerySplit row front) where
      in-text : IsQueryText bytes split.raw
      in-text = record { written = split.is.written; spelled = subst (HasPieces bytes) split.is.spelled cut }

      in-row : IsTermOf front split.raw
      in-row = record { written = split.is.written; is = split.front_is }

      fault-of : (f : ProblemFault) → (f ≡ NoMemory) ⊎ IsQueryFault (guarded d names) split.raw f → RefusesQuery d names bytes f
      fault-of f (inl e) = subst (RefusesQuery d names bytes) (sym e) tt
      fault-of f (inr h) =
          first-written (IsQueryText bytes) (IsQueryFault (guarded d names)) bytes f (of-text (guarded d names) split.raw f h) split.raw in-text h

      pub query-err : (r : Result Query ProblemFault) → IfErr r (AsksNoTerm (guarded d names) front) → IfErr r (RefusesQuery d names bytes)
      query-err = on-err (AsksNoTerm (guarded d names) front) (RefusesQuery d names bytes) (λ f a. fault-of f (a split.raw in-row))

-- the step from what was read to what is asked
module _ (c : Scope) (row : List Piece) (before : Seen) (none : before.texts ≡ []) where
  pub refused : (f : TermFault) → (f ≡ term_fault.NoMemory) ⊎ Refuses c before.texts row f → AsksNoTerm c row (fault_of f)
  refused f (inl e) raw of = inl (ap fault_of e)
  refused f (inr h) raw of = inr (in_term f (ap (λ x. resolve c x raw.term) (sym none) ∙ h raw.term of.written of.is) refl)

  module _ (zero : before.count ≡ 0) (read : Kinded × Seen) (reads : Reads c TEXT_SYMBOLS before row read) where
    stands : (raw : RawQuery) (of : IsTermOf row raw) → resolve c [] raw.term ≡ Ok (reads raw.term of.written of.is).resolved
    stands raw of = ap (λ x. resolve c x raw.term) (sym none) ∙ (reads raw.term of.written of.is).stands

    counted : (raw : RawQuery) (of : IsTermOf row raw) → (read.1).count ≡ sum_or_most 0 (nodes (term (reads raw.term of.written of.is).resolved.term))
    counted raw of = (reads raw.term of.written of.is).count ∙ ap (λ m. sum_or_most m (nodes (term (reads raw.term of.written of.is).resolved.term))) zero

    pub too-large : TEXT_SYMBOLS < (read.1).count → AsksNoTerm c row TooLarge
    too-large large raw of =
        let n = counted raw of in
        inr (too_large (reads raw.term of.written of.is).resolved (stands raw of) (omega arith) refl)
