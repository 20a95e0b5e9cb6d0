-- What a problem asks, and its first fault.
use Rattle.std.specs.Prelude.{ℕ, ◌≡◌, ◌≢◌, ◌+◌, ◌<◌, ◌≤◌, ◌⊎◌, List, [], ◌∷◌, Ok, Err}
use Rattle.fvn_base.specs.declared.limits.TheConstants.{TEXT_SYMBOLS}
use Rattle.fvn_terms.specs.declared.plain.Plain.{Plain}
use Rattle.fvn_terms.specs.declared.plain.SortId.{SortId}
use Rattle.fvn_terms.specs.declared.declarations.Declarations.{Declarations}
use Rattle.fvn_terms.specs.Term.{nodes}
use Rattle.fvn_terms.specs.Plain.{term}
use Rattle.fvn_terms.specs.Signature.{HasKind}
use Rattle.fvn_syntax.specs.declared.fault.TermFault.{TermFault}
use Rattle.fvn_syntax.specs.declared.fault.TermFault.TheVariants.{WrongKind}
use Rattle.fvn_syntax.specs.declared.names.Names.{Names}
use Rattle.fvn_syntax.specs.Pieces.{Text}
use Rattle.fvn_syntax.specs.Scope.{Scope}
use Rattle.fvn_syntax.specs.Resolve.{Resolved, resolve}
use Rattle.fvn_problems.specs.declared.fault.ProblemFault.{ProblemFault}
use Rattle.fvn_problems.specs.declared.fault.ProblemFault.TheVariants.{TooLarge}
use Rattle.fvn_problems.specs.declared.problem.Problem.{Problem}
use Rattle.fvn_problems.specs.Faults.{fault_of, IsFirstFault, ButForMemory}
use Rattle.fvn_problems.specs.Scopes.{guarded}
use Rattle.fvn_problems.specs.Spelling.{RawPair, RawProblem, pairs_in, IsProblemText}
use Rattle.fvn_problems.specs.Variables.{with_sides, OccursInSides, AreVariables}

-- the number of symbols of all sides
abbrev pub symbols_of : List (Plain × Plain) → ℕ
symbols_of [] = 0
symbols_of (p ∷ ps) = nodes (term p.0) + nodes (term p.1) + symbols_of ps

-- both sides are well-kinded, and of one kind
abbrev pub AreOfOneKind : Declarations → Plain × Plain → Type 0
AreOfOneKind d p = (k : SortId) × (HasKind d (term p.0) k × HasKind d (term p.1) k)

module _ (c : Scope) where
  -- the sides of the pair stand for these terms, which are of one kind; `before` are the names of the variables
  -- up to the pair, and `after` those up to its end
  pub record IsPairOf (before : List Text) (raw : RawPair) (p : Plain × Plain) (after : List Text) : Type 0 where
    pub left : Resolved
    pub right : Resolved
    pub left_stands : resolve c before raw.left ≡ Ok left
    pub right_stands : resolve c left.texts raw.right ≡ Ok right
    pub one_kind : left.kind ≡ right.kind
    pub is : p ≡ (left.term, right.term)
    pub names : after ≡ right.texts

  -- the first fault of a pair: of its left side, or of its right side, or that they are of two kinds
  pub data IsPairFault (before : List Text) (raw : RawPair) (fault : TermFault) : Type 0 where
    in_left : resolve c before raw.left ≡ Err fault → IsPairFault before raw fault
    in_right : (l : Resolved) → resolve c before raw.left ≡ Ok l →
        resolve c l.texts raw.right ≡ Err fault → IsPairFault before raw fault
    two_kinds : (l r : Resolved) → resolve c before raw.left ≡ Ok l → resolve c l.texts raw.right ≡ Ok r →
        l.kind ≢ r.kind → fault ≡ WrongKind → IsPairFault before raw fault

  -- the pairs, one after another, stand for these
  abbrev pub ArePairsOf : List Text → List RawPair → List (Plain × Plain) → List Text → Type 0
  ArePairsOf before [] [] after = before ≡ after
  ArePairsOf before [] (p ∷ ps) after = ⊥
  ArePairsOf before (r ∷ rs) [] after = ⊥
  ArePairsOf before (r ∷ rs) (p ∷ ps) after =
      (next : List Text) × (IsPairOf before r p next × ArePairsOf next rs ps after)

  -- the first fault of pairs, from left to right
  abbrev pub IsPairsFault : List Text → List RawPair → TermFault → Type 0
  IsPairsFault before [] fault = ⊥
  IsPairsFault before (r ∷ rs) fault =
      IsPairFault before r fault
      ⊎ ((p : Plain × Plain) × (next : List Text) × (IsPairOf before r p next × IsPairsFault next rs fault))

  -- the written problem asks this: its variables are numbered by their texts, in order of first occurrence
  pub record IsProblemOf (raw : RawProblem) (p : Problem) : Type 0 where
    pub pairs : ArePairsOf [] (pairs_in raw) p.pairs p.names.texts
    pub vars : p.vars ≡ with_sides [] p.pairs
    pub small : symbols_of p.pairs ≤ TEXT_SYMBOLS

  -- the first fault of a written problem: one from left to right, or else its size
  pub data IsProblemFault (raw : RawProblem) (fault : ProblemFault) : Type 0 where
    in_pairs : (first : TermFault) → IsPairsFault [] (pairs_in raw) first →
        fault ≡ fault_of first → IsProblemFault raw fault
    too_large : (ps : List (Plain × Plain)) (after : List Text) → ArePairsOf [] (pairs_in raw) ps after →
        TEXT_SYMBOLS < symbols_of ps → fault ≡ TooLarge → IsProblemFault raw fault

module _ (d : Declarations) (names : Names) (bytes : Text) where
  -- In the signature and its names, the bytes are a problem and ask this.
  pub record IsProblem (p : Problem) : Type 0 where
    pub raw : RawProblem
    pub text : IsProblemText bytes raw
    pub asked : IsProblemOf (guarded d names) raw p

  -- The bytes ask nothing else.
  abbrev pub IsOnlyProblem : Problem → Type 0
  IsOnlyProblem p = (other : Problem) → IsProblem other → other ≡ p

  -- The first fault of the bytes as a problem.
  abbrev pub RefusesProblem : ProblemFault → Type 0
  RefusesProblem = IsFirstFault (IsProblemText bytes) (IsProblemFault (guarded d names)) bytes

  -- But for want of memory, the bytes are no problem.
  abbrev pub HasNoProblem : ProblemFault → Type 0
  HasNoProblem = ButForMemory ((p : Problem) → IsProblem p → ⊥)

-- the variables are those of the sides, each once, with their names
abbrev pub HasVariables : Declarations → Problem → Type 0
HasVariables d p = AreVariables d p.names.texts (OccursInSides p.pairs) p.vars
