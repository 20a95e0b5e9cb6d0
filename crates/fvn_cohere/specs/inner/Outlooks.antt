-- What can be said of the shape of a term before all its variables are chosen.
use Rattle.std.specs.Prelude.{◌≡◌, Bool, true, false, IsTrue, if◌then◌else◌, ◌&&◌, List, [], ◌∷◌, map, Option, Some, None, MatchOption, Contains, All}
use Rattle.fvn_terms.specs.declared.plain.Var.{Var}
use Rattle.fvn_terms.specs.declared.plain.OpId.{OpId}
use Rattle.fvn_terms.specs.declared.plain.SortId.{SortId}
use Rattle.fvn_terms.specs.declared.declarations.Rank.{Rank}
use Rattle.fvn_terms.specs.declared.declarations.Declarations.{Declarations}
use Rattle.fvn_terms.specs.Substitution.{same_var}
use Rattle.fvn_terms.specs.Signature.{AtOrBelow}
use Rattle.fvn_forms.specs.SortOrder.{at_or_below}
use Rattle.fvn_forms.specs.Good.{TakesKinds}
use Rattle.fvn_forms.specs.Ranks.{result}
use Rattle.fvn_rewrite_laws.specs.declared.shapes.Root.{Root}
use Rattle.fvn_rewrite_laws.specs.declared.shapes.Root.TheVariants.{Variable, Constant, Compound}
use Rattle.fvn_rewrite_laws.specs.declared.shapes.Shape.{Shape}
use Rattle.fvn_rewrite_laws.specs.Identities.{identities}
use Rattle.fvn_rewrite_laws.specs.Shapes.{sorts_of, compound}
use Rattle.fvn_cohere.specs.declared.outlooks.Outlook.{Outlook}

-- whether this is the root of a constant
abbrev pub is_constant_root : Root → Bool
is_constant_root Variable = false
is_constant_root (Constant g) = true
is_constant_root Compound = false

-- the choices of a variable, if it is among those that are not chosen
abbrev pub offered : List (Var × List Shape) → Var → Option (List Shape)
offered [] y = None
offered (v ∷ unchosen) y = if same_var v.0 y then Some v.1 else offered unchosen y

-- no variable is listed twice
abbrev pub AreOnce : List (Var × List Shape) → Type 0
AreOnce [] = Unit {0}
AreOnce (v ∷ unchosen) = (offered unchosen v.0 ≡ None) × AreOnce unchosen

-- the lower bounds of outlooks
abbrev pub lows_of : List Outlook → List (Option SortId)
lows_of parts = map (λ (o : Outlook). o.low) parts

-- their upper bounds
abbrev pub highs_of : List Outlook → List SortId
highs_of parts = map (λ (o : Outlook). o.high) parts

module _ (d : Declarations) where
  -- where the root of the shape is a constant, its sort is that of the constant
  abbrev pub HasConstantSort : Shape → Type 0
  HasConstantSort s = (e : OpId) → s.root ≡ Constant e → s.sort ≡ result d e []

  -- a variable may stand for this shape
  pub record IsAllowed (x : Var) (s : Shape) : Type 0 where
    pub below : AtOrBelow d s.sort x.sort
    pub constant : HasConstantSort s

  -- each variable has a shape for which it may stand
  abbrev pub AreAllowed : (Var → Shape) → Type 0
  AreAllowed env = (x : Var) → IsAllowed x (env x)

  -- the lower bound, where there is one, is at or below the sort
  abbrev pub IsLow : Option SortId → SortId → Type 0
  IsLow low s = MatchOption low (Unit {0}) (λ q. AtOrBelow d q s)

  -- no sort with this lower bound is at or below s
  abbrev pub IsOutOfReach : SortId → Option SortId → Type 0
  IsOutOfReach s low = (q : SortId) → IsLow low q → AtOrBelow d q s → ⊥

  -- the sort is at or above the bound, where this is known
  abbrev pub is_at_least : Option SortId → SortId → Bool
  is_at_least None q = true
  is_at_least (Some l) q = at_or_below d l q

  -- a rank with these arguments may serve where these are the lower bounds
  abbrev pub may_serve : List (Option SortId) → List SortId → Bool
  may_serve [] [] = true
  may_serve [] (q ∷ qs) = false
  may_serve (low ∷ lows) [] = false
  may_serve (low ∷ lows) (q ∷ qs) = is_at_least low q && may_serve lows qs

  -- the sort is at or below the result of the rank, if this may serve
  abbrev pub is_below_rank : List (Option SortId) → SortId → Rank → Bool
  is_below_rank lows s r = if may_serve lows r.args then at_or_below d s r.result else true

  -- the outlook is right for the shape
  pub record Suits (o : Outlook) (s : Shape) : Type 0 where
    pub variable : s.root ≡ Variable → IsTrue o.variable
    pub identity : (e : OpId) → Contains (identities d) e → s.root ≡ Constant e → IsTrue o.identity
    pub low : IsLow o.low s.sort
    pub high : AtOrBelow d s.sort o.high

  -- shapes of the arguments of an operator
  pub record AreArguments (f : OpId) (shapes : List Shape) : Type 0 where
    pub kinds : TakesKinds d f (sorts_of shapes)
    pub constants : All HasConstantSort shapes

  -- the outlook of f over two arguments of which one may be its identity;
  -- where none is, the sort is within these bounds
  pub record IsJoined (a b : Outlook) (low : Option SortId) (high : SortId) (o : Outlook) : Type 0 where
    pub stays : (s : SortId) → IsLow low s → AtOrBelow d s high → Suits o (compound s)
    pub first_vanishes : (s : Shape) → IsTrue a.identity → Suits b s → AtOrBelow d s.sort high → Suits o s
    pub second_vanishes : (s : Shape) → IsTrue b.identity → Suits a s → AtOrBelow d s.sort high → Suits o s

  -- a choice for all variables: one of their choices for those that are left, for others what they stand for
  pub record Fills (unchosen : List (Var × List Shape)) (env filled : Var → Shape) : Type 0 where
    pub allowed : AreAllowed filled
    pub each : (y : Var) →
        MatchOption (offered unchosen y) (filled y ≡ env y) (λ shapes. Contains shapes (filled y))

  -- each variable is listed once, with shapes for which it may stand
  pub record Offers (unchosen : List (Var × List Shape)) : Type 0 where
    pub allowed : (v : Var × List Shape) → Contains unchosen v → (o : Shape) → Contains v.1 o → IsAllowed v.0 o
    pub once : AreOnce unchosen
