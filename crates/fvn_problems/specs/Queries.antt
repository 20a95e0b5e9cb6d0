-- What a term text asks, and its first fault.
use Rattle.std.specs.Prelude.{◌≡◌, ◌<◌, ◌≤◌, [], Ok, Err}
use Rattle.fvn_base.specs.declared.limits.TheConstants.{TEXT_SYMBOLS}
use Rattle.fvn_terms.specs.declared.declarations.Declarations.{Declarations}
use Rattle.fvn_terms.specs.Term.{nodes}
use Rattle.fvn_terms.specs.Plain.{term}
use Rattle.fvn_terms.specs.Substitution.{Occurs}
use Rattle.fvn_syntax.specs.declared.fault.TermFault.{TermFault}
use Rattle.fvn_syntax.specs.declared.names.Names.{Names}
use Rattle.fvn_syntax.specs.Pieces.{Text}
use Rattle.fvn_syntax.specs.Scope.{Scope}
use Rattle.fvn_syntax.specs.Resolve.{Resolved, resolve}
use Rattle.fvn_problems.specs.declared.fault.ProblemFault.{ProblemFault}
use Rattle.fvn_problems.specs.declared.fault.ProblemFault.TheVariants.{TooLarge}
use Rattle.fvn_problems.specs.declared.query.Query.{Query}
use Rattle.fvn_problems.specs.Faults.{fault_of, IsFirstFault, ButForMemory}
use Rattle.fvn_problems.specs.Scopes.{guarded}
use Rattle.fvn_problems.specs.Spelling.{RawQuery, IsQueryText}
use Rattle.fvn_problems.specs.Variables.{with_variables, AreVariables}

module _ (c : Scope) where
  -- the written term asks this: variables are numbered by their texts, in order of first occurrence
  pub record IsQueryOf (raw : RawQuery) (q : Query) : Type 0 where
    pub resolved : Resolved
    pub stands : resolve c [] raw.term ≡ Ok resolved
    pub term_is : q.term ≡ resolved.term
    pub names : q.names.texts ≡ resolved.texts
    pub vars : q.vars ≡ with_variables [] (term q.term)
    pub small : nodes (term q.term) ≤ TEXT_SYMBOLS

  -- the first fault of a written term: one from left to right, or else its size
  pub data IsQueryFault (raw : RawQuery) (fault : ProblemFault) : Type 0 where
    in_term : (first : TermFault) → resolve c [] raw.term ≡ Err first →
        fault ≡ fault_of first → IsQueryFault raw fault
    too_large : (r : Resolved) → resolve c [] raw.term ≡ Ok r →
        TEXT_SYMBOLS < nodes (term r.term) → fault ≡ TooLarge → IsQueryFault raw fault

module _ (d : Declarations) (names : Names) (bytes : Text) where
  -- In the signature and its names, the bytes are a term text and ask this.
  pub record IsQuery (q : Query) : Type 0 where
    pub raw : RawQuery
    pub text : IsQueryText bytes raw
    pub asked : IsQueryOf (guarded d names) raw q

  -- The bytes ask nothing else.
  abbrev pub IsOnlyQuery : Query → Type 0
  IsOnlyQuery q = (other : Query) → IsQuery other → other ≡ q

  -- The first fault of the bytes as a term text.
  abbrev pub RefusesQuery : ProblemFault → Type 0
  RefusesQuery = IsFirstFault (IsQueryText bytes) (IsQueryFault (guarded d names)) bytes

  -- But for want of memory, the bytes are no term text.
  abbrev pub HasNoQuery : ProblemFault → Type 0
  HasNoQuery = ButForMemory ((q : Query) → IsQuery q → ⊥)

-- the variables are those of the term, each once, with their names
abbrev pub HasVariables : Declarations → Query → Type 0
HasVariables d q = AreVariables d q.names.texts (λ x. Occurs x (term q.term)) q.vars
