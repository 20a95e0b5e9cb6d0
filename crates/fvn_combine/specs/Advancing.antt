-- What each unifier that is given promises of those that were to come, and what an end says.
use Rattle.std.specs.Prelude.{◌≡◌, ◌⊎◌, ◌↔◌, ℕ, false, List, [], ◌∷◌, Option, Some, None, Result, Ok, Err}
use Rattle.fvn_terms.specs.declared.declarations.Declarations.{Declarations}
use Rattle.fvn_terms.specs.Substitution.{Substitution}
use Rattle.fvn_flat.specs.Bindings.{Bindings, value}
use Rattle.fvn_flat.specs.Problems.{variables_of}
use Rattle.fvn_flat.specs.Solving.{problem_of, IsBasisCause, IsTooLarge}
use Rattle.fvn_flat.specs.declared.solver.Pairs.{Pairs}
use Rattle.fvn_combine_choices.specs.Covering.{CoversOnKinds}
use Rattle.fvn_combine_drawing.specs.OnKinds.{IsGivenOnKinds}
use Rattle.fvn_combine.specs.Tasks.{Combining, IsWanted, HoldsFor}
use Rattle.fvn_combine.specs.Endings.{told_of}
use Rattle.fvn_combine.specs.Search.{Search, Pending, IsEnd, IsRefusedAtLast, HasNoChoice}
use Rattle.fvn_combine.specs.Coarser.{IsFinerToCome}
use Rattle.fvn_combine.specs.declared.ending.Ended.{Ended}
use Rattle.fvn_combine.specs.declared.ending.Ended.TheVariants.{Basis as OfBasis, Size as OfSize}
use Rattle.fvn_combine.specs.declared.ending.CombineEnd.{CombineEnd}
use Rattle.fvn_combine.specs.declared.ending.CombineEnd.TheVariants.{Basis, Size, NoMemory}

-- the combination is of this problem in this signature, with these limits
pub record IsOf (d : Declarations) (given : Pairs) (first size : ℕ) (m : Search) : Type 0 where
  pub declarations : m.combining.declarations ≡ d
  pub problem : m.combining.given ≡ given
  pub number : m.combining.first ≡ first
  pub limit : m.combining.size ≡ size
  pub running : m.ended ≡ None

-- u is a unifier that is asked for; and it, or one that stands for it, is still to come
abbrev pub IsToCome : Search → Substitution → Type 0
IsToCome m u = IsWanted m.combining u × Pending m u

-- where a sum system is refused, and all unifiers are asked for, what is to come is finer than the partition at which the search ends
abbrev pub IsFinerAt : Combining → (Substitution → Type 0) → Ended → Type 0
IsFinerAt k ToCome (OfBasis f system) = k.general ≡ false → IsFinerToCome k.declarations k.given f system ToCome
IsFinerAt k ToCome (OfSize list) = Unit {0}

-- g covers u, and its values keep to the sorts of their variables where u's do
abbrev pub IsCovered : Combining → Bindings → Substitution → Type 0
IsCovered k g u = CoversOnKinds k.declarations (variables_of (problem_of k.given)) (value g) u

module _ (before after : Search) where
  -- the cause is kept, and so are the unifiers that are to come
  pub record IsEndedBy (e : Ended) : Type 0 where
    pub ended : after.ended ≡ Some e
    pub kept : (u : Substitution) → IsToCome before u ↔ IsToCome after u

  -- the same unifiers are to come
  abbrev pub IsToComeAsBefore : Type 0
  IsToComeAsBefore = (u : Substitution) → IsToCome before u ↔ IsToCome after u

  -- what is given promises what is said of it; each unifier that was to come, or one that stands for it, is covered by it, or it is still to
  -- come; and the search goes on
  pub record IsGivenNext (g : Bindings) : Type 0 where
    pub given : IsGivenOnKinds before.combining.declarations before.combining.given before.combining.first before.combining.size g
    pub covers : (u : Substitution) → IsToCome before u → HoldsFor before.combining (IsCovered before.combining g) u ⊎ IsToCome after u
    pub running : after.ended ≡ None

  -- no unifier was to come, and none is
  pub record IsOver : Type 0 where
    pub none : (u : Substitution) → IsToCome before u → ⊥
    pub none_after : (u : Substitution) → IsToCome after u → ⊥
    pub running : after.ended ≡ None

  -- what an answer of a search that has not ended says: a unifier, the end of all, a cause that holds and is kept, or want of memory,
  -- at which the same are to come and nothing has ended; a sum system is the cause only where no question is open, and then, where all
  -- unifiers are asked for, what is to come has all that is decided in the last state, or has apart two nodes that this state has together
  abbrev pub IsAdvanced : Result (Option Bindings) CombineEnd → Type 0
  IsAdvanced (Ok (Some g)) = IsGivenNext g
  IsAdvanced (Ok None) = IsOver
  IsAdvanced (Err (Basis f system)) =
      IsBasisCause before.combining.declarations before.combining.given f system × IsRefusedAtLast before.combining after.states f system
      × HasNoChoice before.combining after.leaf
      × IsFinerAt before.combining (IsToCome after) (OfBasis f system) × IsEndedBy (OfBasis f system)
  IsAdvanced (Err (Size list)) = IsTooLarge before.combining.declarations before.combining.given before.combining.size list.bindings × IsEndedBy (OfSize list)
  IsAdvanced (Err NoMemory) = (after.ended ≡ before.ended) × IsToComeAsBefore

-- the cause, which holds, is told once more; or memory was refused
abbrev pub IsAgain : Combining → Ended → Result (Option Bindings) CombineEnd → Type 0
IsAgain k e (Ok o) = ⊥
IsAgain k e (Err end) = IsEnd k e × ((end ≡ told_of e) ⊎ (end ≡ NoMemory))

-- from one search to another these were given, one after another; the last one stands first
abbrev pub AreGiven : Search → List Bindings → Search → Type 0
AreGiven start [] now = now ≡ start
AreGiven start (g ∷ earlier) now = (before : Search) × AreGiven start earlier before × IsGivenNext before now g
