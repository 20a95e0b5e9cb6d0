-- What is proved of all texts.
use Rattle.std.specs.Prelude.{◌≡◌, ◌≢◌, List, ◌++◌, All, AllPairs, Ok}
use Rattle.std.specs.List.{AllByRecursion}
use Rattle.fvn_terms.specs.declared.declarations.Declarations.{Declarations}
use Rattle.fvn_terms.specs.Plain.{term}
use Rattle.fvn_terms.specs.Signature.{IsTerm}
use Rattle.fvn_syntax.specs.declared.names.Names.{Names}
use Rattle.fvn_syntax.specs.Pieces.{Text}
use Rattle.fvn_syntax.specs.Raw.{RawTerm, IsWritten}
use Rattle.fvn_syntax.specs.Scope.{Scope}
use Rattle.fvn_syntax.specs.Resolve.{Resolved, resolve}
use Rattle.fvn_problems.specs.declared.fault.ProblemFault.{ProblemFault}
use Rattle.fvn_problems.specs.declared.problem.Problem.{Problem}
use Rattle.fvn_problems.specs.declared.query.Query.{Query}
use Rattle.fvn_problems.specs.Faults.{AreOneFault}
use Rattle.fvn_problems.specs.Queries.{IsQuery, RefusesQuery, HasNoQuery, HasVariables as HasQueryVariables}
use Rattle.fvn_problems.specs.Problems.{AreOfOneKind, IsProblem, RefusesProblem, HasNoProblem, HasVariables}
use Rattle.fvn_problems.specs.declared.bindings.Bindings.{Bindings}
use Rattle.fvn_problems.specs.Bindings.{IsBindings, RefusesBindings, HasNoBindings}
use Rattle.fvn_problems.specs.VariableTexts.{IsVariableText}
use Rattle.fvn_problems.specs.Scopes.{AreNamesOf}
use Rattle.fvn_problems.specs.Spelling.{RawQuery, RawProblem, RawPair, spell_query, spell_problem, spell_bindings, pairs_in, IsWrittenPair, IsWrittenBinding}

-- Two term texts that are spelled alike are one.
abbrev pub QueriesAreSpelledOnce : Type 0
QueriesAreSpelledOnce = (q r : RawQuery) → IsWritten q.term → IsWritten r.term → spell_query q ≡ spell_query r → q ≡ r

-- Two problems that are spelled alike are one.
abbrev pub ProblemsAreSpelledOnce : Type 0
ProblemsAreSpelledOnce =
    (p q : RawProblem) → AllByRecursion IsWrittenPair (pairs_in p) → AllByRecursion IsWrittenPair (pairs_in q) →
    spell_problem p ≡ spell_problem q → p ≡ q

-- Two lists of bindings that are spelled alike are one.
abbrev pub BindingsAreSpelledOnce : Type 0
BindingsAreSpelledOnce =
    (bs cs : List RawPair) → AllByRecursion IsWrittenBinding bs → AllByRecursion IsWrittenBinding cs →
    spell_bindings bs ≡ spell_bindings cs → bs ≡ cs

-- Names go on: those of the variables before a term stay, and others come behind them.
abbrev pub NamesGoOn : Type 0
NamesGoOn =
    (c : Scope) (before : List Text) (t : RawTerm) (r : Resolved) → resolve c before t ≡ Ok r →
    (more : List Text) × (r.texts ≡ before ++ more)

-- But for want of memory, a term text has one first fault at most.
abbrev pub QueryFaultsAreDetermined : Type 0
QueryFaultsAreDetermined =
    (d : Declarations) (names : Names) (bytes : Text) (f g : ProblemFault) →
    RefusesQuery d names bytes f → RefusesQuery d names bytes g → AreOneFault f g

-- But for want of memory, a problem has one first fault at most.
abbrev pub ProblemFaultsAreDetermined : Type 0
ProblemFaultsAreDetermined =
    (d : Declarations) (names : Names) (bytes : Text) (f g : ProblemFault) →
    RefusesProblem d names bytes f → RefusesProblem d names bytes g → AreOneFault f g

-- But for want of memory, a binding text has one first fault at most in a problem.
abbrev pub BindingFaultsAreDetermined : Type 0
BindingFaultsAreDetermined =
    (d : Declarations) (names : Names) (p : Problem) (bytes : Text) (f g : ProblemFault) →
    RefusesBindings d names p bytes f → RefusesBindings d names p bytes g → AreOneFault f g

-- The name of each variable of a term text can be written as it stands.
abbrev pub QueryNamesAreWords : Type 0
QueryNamesAreWords =
    (d : Declarations) (names : Names) (bytes : Text) (q : Query) →
    IsQuery d names bytes q → All IsVariableText q.names.texts

-- The name of each variable of a problem can be written as it stands.
abbrev pub ProblemNamesAreWords : Type 0
ProblemNamesAreWords =
    (d : Declarations) (names : Names) (bytes : Text) (p : Problem) →
    IsProblem d names bytes p → All IsVariableText p.names.texts

-- No two variables of a problem have one name.
abbrev pub ProblemNamesDiffer : Type 0
ProblemNamesDiffer =
    (d : Declarations) (names : Names) (bytes : Text) (p : Problem) →
    IsProblem d names bytes p → AllPairs (λ x y. x ≢ y) p.names.texts

-- No two variables of a term text have one name.
abbrev pub QueryNamesDiffer : Type 0
QueryNamesDiffer =
    (d : Declarations) (names : Names) (bytes : Text) (q : Query) →
    IsQuery d names bytes q → AllPairs (λ x y. x ≢ y) q.names.texts

-- The term of a term text is well-kinded, and the variables are those in it, each once.
abbrev pub QueriesAreKinded : Type 0
QueriesAreKinded =
    (d : Declarations) (names : Names) → AreNamesOf d names → (bytes : Text) (q : Query) →
    IsQuery d names bytes q → IsTerm d (term q.term) × HasQueryVariables d q

-- The sides of each pair of a problem are well-kinded and of one kind, and the variables are those in them, each once.
abbrev pub ProblemsAreKinded : Type 0
ProblemsAreKinded =
    (d : Declarations) (names : Names) → AreNamesOf d names → (bytes : Text) (p : Problem) →
    IsProblem d names bytes p → All (AreOfOneKind d) p.pairs × HasVariables d p

-- A text asks one term at most.
abbrev pub QueriesAreDetermined : Type 0
QueriesAreDetermined =
    (d : Declarations) (names : Names) (bytes : Text) (q r : Query) →
    IsQuery d names bytes q → IsQuery d names bytes r → q ≡ r

-- A text asks one problem at most.
abbrev pub ProblemsAreDetermined : Type 0
ProblemsAreDetermined =
    (d : Declarations) (names : Names) (bytes : Text) (p q : Problem) →
    IsProblem d names bytes p → IsProblem d names bytes q → p ≡ q

-- A text binds one thing at most in a problem that a text asks.
abbrev pub BindingsAreDetermined : Type 0
BindingsAreDetermined =
    (d : Declarations) (names : Names) (text : Text) (p : Problem) → IsProblem d names text p →
    (bytes : Text) (b c : Bindings) → IsBindings d names p bytes b → IsBindings d names p bytes c → b ≡ c

-- But for want of memory, a text with a fault as a term text asks nothing.
abbrev pub RefusedQueriesAskNothing : Type 0
RefusedQueriesAskNothing =
    (d : Declarations) (names : Names) (bytes : Text) (f : ProblemFault) →
    RefusesQuery d names bytes f → HasNoQuery d names bytes f

-- But for want of memory, a text with a fault as a problem asks nothing.
abbrev pub RefusedProblemsAskNothing : Type 0
RefusedProblemsAskNothing =
    (d : Declarations) (names : Names) (bytes : Text) (f : ProblemFault) →
    RefusesProblem d names bytes f → HasNoProblem d names bytes f

-- But for want of memory, a text with a fault as a binding text binds nothing.
abbrev pub RefusedBindingsBindNothing : Type 0
RefusedBindingsBindNothing =
    (d : Declarations) (names : Names) (text : Text) (p : Problem) → IsProblem d names text p →
    (bytes : Text) (f : ProblemFault) → RefusesBindings d names p bytes f → HasNoBindings d names p bytes f
