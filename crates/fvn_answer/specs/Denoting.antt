-- What lines denote, read as binding texts in the names of a module without its variables.
use Rattle.std.specs.Prelude.{◌≡◌, ◌⊎◌, true, List, [], ◌++◌, map, Contains, slice_index_or, Ok}
use Rattle.std.specs.List.{AllByRecursion}
use Rattle.fvn_lex.specs.Parts.{HasPieces}
use Rattle.fvn_terms.specs.declared.plain.Var.{Var}
use Rattle.fvn_terms.specs.declared.plain.Plain.{Plain}
use Rattle.fvn_terms.specs.declared.declarations.Declarations.{Declarations}
use Rattle.fvn_terms.specs.Term.{Term}
use Rattle.fvn_terms.specs.Plain.{term}
use Rattle.fvn_terms.specs.Substitution.{Substitution, Occurs, value}
use Rattle.fvn_terms.specs.Equality.{BEqual}
use Rattle.fvn_flat.specs.Drawn.{OccursInValues, Renaming, renamed}
use Rattle.fvn_flat.specs.Successors.{IsRenaming}
use Rattle.fvn_syntax.specs.declared.names.Names.{Names}
use Rattle.fvn_syntax.specs.Pieces.{Text, is_reserved}
use Rattle.fvn_syntax.specs.Raw.{RawTerm, spell, IsWritten}
use Rattle.fvn_syntax.specs.Scope.{Scope}
use Rattle.fvn_syntax.specs.Resolve.{Resolved, resolve}
use Rattle.fvn_problems.specs.declared.problem.Problem.{Problem}
use Rattle.fvn_problems.specs.Scopes.{unguarded}
use Rattle.fvn_problems.specs.Spelling.{RawPair, spell_bindings, IsWrittenBinding}
use Rattle.fvn_problems.specs.Bindings.{BindsOnce, AreBindingsOf}

-- the names without those of variables, so that each variable is written with its sort
abbrev pub without_variables : Names → Names
without_variables names = record names { variables = record { texts = []; sorts = [] } }

-- the variable that was read: a new one where its name begins with `#`
abbrev pub as_new : List Text → Renaming
as_new texts x = record { name = x.name; sort = x.sort; fresh = is_reserved (slice_index_or texts x.name []) }

-- one to one, each variable to a new one of its sort
pub record IsFreshRenaming (Among : Var → Type 0) (r : Renaming) : Type 0 where
  pub renames : IsRenaming Among r
  pub new : (x : Var) → Among x → (r x).fresh ≡ true

module _ (d : Declarations) (names : Names) (texts : List Text) (vars : List Var) where
  -- what lines are read in
  abbrev pub reading : Scope
  reading = unguarded d (without_variables names)

  -- a problem with these variables and names
  abbrev pub asked : Problem
  asked = record { pairs = []; vars = vars; names = record { texts = texts } }

  -- The written bindings bind each of the variables once, in their order, to the values of s; `before` are the
  -- names up to the bindings, and `after` those up to their end.
  pub record Bind (before : List Text) (raw : List RawPair) (s : Substitution) (after : List Text) : Type 0 where
    pub once : BindsOnce reading raw
    pub pairs : List (Var × Plain)
    pub bound : AreBindingsOf reading asked before raw pairs after
    pub each : map (λ p. p.0) pairs ≡ vars
    pub values : (x : Var) → Contains vars x → s x ≡ renamed (as_new after) (value pairs x)

  -- The line denotes the substitution.
  pub record Denotes (line : Text) (s : Substitution) : Type 0 where
    pub raw : List RawPair
    pub written : AllByRecursion IsWrittenBinding raw
    pub spelled : HasPieces line (spell_bindings raw)
    pub after : List Text
    pub bind : Bind texts raw s after

  -- The line denotes the term, which stands first, and the substitution.
  pub record DenotesVariant (line : Text) (t : Term) (s : Substitution) : Type 0 where
    pub raw_term : RawTerm
    pub raw : List RawPair
    pub term_written : IsWritten raw_term
    pub written : AllByRecursion IsWrittenBinding raw
    pub spelled : HasPieces line (spell raw_term ++ spell_bindings raw)
    pub resolved : Resolved
    pub stands : resolve reading texts raw_term ≡ Ok resolved
    pub after : List Text
    pub term_is : t ≡ renamed (as_new after) (term resolved.term)
    pub bind : Bind resolved.texts raw s after

  -- x occurs in the value of one of the variables, or in the term
  abbrev pub OccursInVariant : Term → Substitution → Var → Type 0
  OccursInVariant t s x = Occurs x t ⊎ OccursInValues vars s x

  -- What the line denotes is the substitution, modulo the axioms and up to new names.
  pub record Reads (line : Text) (s : Substitution) : Type 0 where
    pub denoted : Substitution
    pub denotes : Denotes line denoted
    pub by : Renaming
    pub renames : IsFreshRenaming (OccursInValues vars s) by
    pub equal : (x : Var) → Contains vars x → BEqual d (denoted x) (renamed by (s x))

  -- What the line denotes is the term and the substitution, modulo the axioms and up to new names.
  pub record ReadsVariant (line : Text) (t : Term) (s : Substitution) : Type 0 where
    pub denoted_term : Term
    pub denoted : Substitution
    pub denotes : DenotesVariant line denoted_term denoted
    pub by : Renaming
    pub renames : IsFreshRenaming (OccursInVariant t s) by
    pub term_equal : BEqual d denoted_term (renamed by t)
    pub equal : (x : Var) → Contains vars x → BEqual d (denoted x) (renamed by (s x))
