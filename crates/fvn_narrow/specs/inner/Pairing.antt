-- Forms among others, and rules within others.
use Rattle.std.specs.Prelude.{◌≡◌, ◌≤◌, ◌+◌, ℕ, List, [], ◌∷◌, All, Contains, None, Some, slice_get}
use Rattle.fvn_terms.specs.declared.plain.Var.{Var}
use Rattle.fvn_terms.specs.declared.plain.OpId.{OpId}
use Rattle.fvn_terms.specs.declared.plain.SortId.{SortId}
use Rattle.fvn_terms.specs.declared.declarations.Rank.{Rank}
use Rattle.fvn_terms.specs.declared.declarations.Declarations.{Declarations}
use Rattle.fvn_terms.specs.Term.{var}
use Rattle.fvn_terms.specs.Theory.{Equations}
use Rattle.fvn_terms.specs.Signature.{kind, declared, axioms, AtOrBelow, HasKind}
use Rattle.fvn_terms.specs.Equality.{IsAssociative, identity}
use Rattle.fvn_forms.specs.Flat.{FlatTerm, plain}
use Rattle.fvn_flat.specs.Fits.{Fits}
use Rattle.fvn_flat.specs.FlatPlaces.{IsDivided}
use Rattle.fvn_flat.specs.Forms.{head_of, args_of}
use Rattle.fvn_rewrite_rules.specs.declared.rule.Rule.{Rule}
use Rattle.fvn_lifting.specs.Pairs.{IsOneSummand, SummandsKeep, IsMet}

-- each argument of the rank has the sort, or one below it, where what it gives has
abbrev pub RankKeeps : Declarations → SortId → Rank → Type 0
RankKeeps d s r = AtOrBelow d r.result s → All (λ q. AtOrBelow d q s) r.args

-- some are taken from all, in their order
abbrev pub AreAmong : List FlatTerm → List FlatTerm → Type 0
AreAmong some all = (others : List FlatTerm) × IsDivided all some others

-- two summands are enough for the left side of the first, and it has its summands among those of the other
pub record HasInner (d : Declarations) (equations : Equations) (f : OpId) (inner rule : Rule) : Type 0 where
  pub met : IsMet d equations f inner.left
  pub among : AreAmong (args_of inner.left) (args_of rule.left)

-- an associative f takes the variable and the form, which fits
pub record HasSumOf (d : Declarations) (f : OpId) (x : Var) (form : FlatTerm) : Type 0 where
  pub associative : IsAssociative (axioms d f)
  pub rank : Rank
  pub listed : Contains (declared d f).ranks rank
  pub variable : HasKind d (var x) (kind d rank.result)
  pub fits : Fits d form
  pub of_kind : HasKind d (plain form) (kind d rank.result)

-- A variable whose sort the summands of f keep, f associative and without an identity, and what another operator heads.
pub record IsOneBeside (d : Declarations) (f : OpId) (x : Var) (form : FlatTerm) : Type 0 where
  pub associative : IsAssociative (axioms d f)
  pub no_identity : identity (axioms d f) ≡ None
  pub keep : SummandsKeep d f x.sort
  pub alone : IsOneSummand d f form

-- f heads the rule's left side, which fits
pub record IsHeadedFit (d : Declarations) (f : OpId) (rule : Rule) : Type 0 where
  pub heads : head_of rule.left ≡ Some f
  pub fits : Fits d rule.left

-- the form fits, and an associative f heads it
pub record IsFitSum (d : Declarations) (f : OpId) (t : FlatTerm) : Type 0 where
  pub fits : Fits d t
  pub heads : head_of t ≡ Some f
  pub associative : IsAssociative (axioms d f)

-- the others are all but those at these places
abbrev pub AreOthers : List FlatTerm → ℕ → ℕ → List FlatTerm → Type 0
AreOthers ts i j others =
    (t u : FlatTerm) → slice_get ts i ≡ Some t → slice_get ts j ≡ Some u → IsDivided ts (t ∷ u ∷ []) others

-- the form at the place stands at the one before it too, which is not before the first
pub record StandsAgain (ts : List FlatTerm) (first place : ℕ) : Type 0 where
  pub before : ℕ
  pub behind : first ≤ before
  pub next : place ≡ before + 1
  pub again : slice_get ts before ≡ slice_get ts place
