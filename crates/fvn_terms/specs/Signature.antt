-- A signature: its sorts, their order, its operators, and the terms of a kind.
-- Maude Manual, chapter 3.
use Rattle.std.specs.Prelude.{◌≡◌, ◌<◌, List, [], ◌∷◌, map, length, slice_index_or, Contains}
use Rattle.fvn_terms.specs.declared.plain.Var.{Var}
use Rattle.fvn_terms.specs.declared.plain.OpId.{OpId}
use Rattle.fvn_terms.specs.declared.plain.SortId.{SortId}
use Rattle.fvn_terms.specs.declared.declarations.Axioms.{Axioms}
use Rattle.fvn_terms.specs.declared.declarations.Axioms.TheVariants.{Free}
use Rattle.fvn_terms.specs.declared.declarations.Rank.{Rank}
use Rattle.fvn_terms.specs.declared.declarations.OpDecl.{OpDecl}
use Rattle.fvn_terms.specs.declared.declarations.Declarations.{Declarations}
use Rattle.fvn_terms.specs.Term.{Term, Terms, var, app, none, more}
use Rattle.fvn_terms.specs.Substitution.{Substitution}

-- what is declared of an operator that is not known
abbrev pub unknown : OpDecl
unknown = record { axioms = Free; ranks = [] }

module _ (d : Declarations) where
  -- the kind of a sort; a sort that is not listed is its own
  abbrev pub kind : SortId → SortId
  kind s = slice_index_or d.kinds s.0 s

  -- what is declared of an operator; nothing where it is unknown
  abbrev pub declared : OpId → OpDecl
  declared f = slice_index_or d.ops f.0 unknown

  -- the axioms of an operator; none where it is unknown
  abbrev pub axioms : OpId → Axioms
  axioms f = (declared f).axioms

  -- s is a sort of the signature, or a kind
  abbrev pub IsSort : SortId → Type 0
  IsSort s = s.0 < length d.kinds

  -- s is q or below it; a kind is above its sorts
  pub data AtOrBelow : SortId → SortId → Type 0 where
    same : {s : SortId} → AtOrBelow s s
    up : {s q r : SortId} → Contains d.below (s, q) → AtOrBelow q r → AtOrBelow s r
    to_kind : {s r : SortId} → AtOrBelow (kind s) r → AtOrBelow s r

  -- some declaration of f takes arguments as these, and gives this kind
  pub record FitsRank (f : OpId) (Fit : List SortId → Type 0) (k : SortId) : Type 0 where
    pub rank : Rank
    pub listed : Contains (declared f).ranks rank
    pub args : Fit (map kind rank.args)
    pub result : kind rank.result ≡ k

  -- the term is well-kinded, and has this kind
  abbrev mutual
    pub HasKind : Term → SortId → Type 0
    HasKind (var x) k = IsSort x.sort × (kind x.sort ≡ k)
    HasKind (app f ts) k = FitsRank f (HaveKinds ts) k

    -- the terms are well-kinded, and have these kinds in turn
    pub HaveKinds : Terms → List SortId → Type 0
    HaveKinds none [] = Unit {0}
    HaveKinds none (k ∷ ks) = ⊥
    HaveKinds (more t ts) [] = ⊥
    HaveKinds (more t ts) (k ∷ ks) = HasKind t k × HaveKinds ts ks

  -- the term is well-kinded
  abbrev pub IsTerm : Term → Type 0
  IsTerm t = (k : SortId) × HasKind t k

  -- each variable goes to a term of its kind
  abbrev pub KeepsKinds : Substitution → Type 0
  KeepsKinds s = (x : Var) → IsSort x.sort → HasKind (s x) (kind x.sort)
