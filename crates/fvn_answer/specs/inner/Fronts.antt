-- Fronts: what is known of the texts under all numberings that begin alike.
use Rattle.std.specs.Prelude.{◌≡◌, ◌<◌, ◌≤◌, ◌≢◌, ◌+◌, ◌⊎◌, ℕ, Bool, true, ◌&&◌, if◌then◌else◌, Option, Some, None, List, [], ◌∷◌, ◌++◌, Contains}
use Rattle.std.specs.List.{AllByRecursion}
use Rattle.std.specs.Global.{Vec}
use Rattle.fvn_base.specs.Order.{IsBefore}
use Rattle.fvn_terms.specs.declared.plain.Var.{Var}
use Rattle.fvn_syntax.specs.Pieces.{Text}
use Rattle.fvn_answer.specs.declared.front.Fixed.{Fixed}
use Rattle.fvn_answer.specs.declared.front.Front.{Front}
use Rattle.fvn_answer.specs.Numberings.{number}
use Rattle.fvn_answer.specs.Writing.{is_after}
use Rattle.fvn_answer.specs.inner.Bytes.{sorted_texts}

-- w does not stand before v
abbrev pub AtLeast : Text → Text → Type 0
AtLeast v w = IsBefore w v → ⊥

-- The numbers of the first `known` variables of an order are the same in the other one, and all others have later
-- numbers. No number has two digits.
pub record AgreesUpTo (order : List Var) (known : ℕ) (other : List Var) : Type 0 where
  pub same : (x : Var) → 0 < number order x → number order x ≤ known → number other x ≡ number order x
  pub later : (x : Var) → known < number order x → known < number other x
  pub few : (x : Var) → number other x < 10

-- the other order has the numbers that are fixed
abbrev pub Agrees : Fixed → List Var → Type 0
Agrees fixed other = AgreesUpTo fixed.order.now fixed.known other

-- none of these variables has the number behind the first `known`
abbrev pub NoneIsNext : List Var → ℕ → List Var → Type 0
NoneIsNext tips known other = (x : Var) → Contains tips x → number other x ≢ known + 1

-- there are tips
abbrev pub AreTips : List Var → Type 0
AreTips [] = ⊥
AreTips (x ∷ tips) = Unit {0}

-- the front has tips
abbrev pub HasTips : Front → Type 0
HasTips front = AreTips front.tips.items

-- v is the text w, or where there are tips a text that w does not stand before
abbrev pub IsUpTo : List Var → Text → Text → Type 0
IsUpTo [] v w = v ≡ w
IsUpTo (x ∷ tips) v w = AtLeast v w

-- The front is one of the text w, in which variables have their numbers in the other order.
pub record IsFrontOf (known : ℕ) (other : List Var) (front : Front) (w : Text) : Type 0 where
  pub upto : IsUpTo front.tips.items front.text.items w
  pub later : NoneIsNext front.tips.items known other → AtLeast front.later.items w

-- the texts, in byte order where they may be exchanged
abbrev pub arranged_if : (exchange : Bool) → List Text → List Text
arranged_if exchange ts = if exchange then sorted_texts ts else ts

-- The texts are these and at least one more; none of the others stands before the least front, or where arguments
-- may not be exchanged the first of them does not.
pub record HaveMore (exchange : Bool) (whole : List Text) (least : Text) (all : List Text) : Type 0 where
  pub first : Text
  pub more : List Text
  pub all_are : arranged_if exchange all ≡ arranged_if exchange (whole ++ first ∷ more)
  pub first_after : AtLeast least first
  pub more_after : exchange ≡ true → AllByRecursion (AtLeast least) more

-- the texts of arguments are these, and where there are tips more, none of them before the least text
abbrev pub HaveTexts : (exchange : Bool) → List Text → List Var → Text → List Text → Type 0
HaveTexts exchange whole [] least all = whole ≡ all
HaveTexts exchange whole (x ∷ tips) least all = HaveMore exchange whole least all

-- so it is of the two texts of the least front
pub record AreGathered (known : ℕ) (other : List Var) (exchange : Bool) (whole : List Text) (least : Front) (all : List Text) : Type 0 where
  pub upto : HaveTexts exchange whole least.tips.items least.text.items all
  pub later : NoneIsNext least.tips.items known other → HaveTexts exchange whole least.tips.items least.later.items all

-- the texts up to the first that stands after the least front, where arguments may be exchanged
abbrev pub upto : (exchange : Bool) → Text → List Text → List Text
upto exchange least [] = []
upto exchange least (t ∷ ts) = if exchange && is_after t least then [] else t ∷ upto exchange least ts

-- there is a best text, and the text w does not stand before it
abbrev pub IsAtMost : Option (Vec ℕ) → Text → Type 0
IsAtMost None w = ⊥
IsAtMost (Some line) w = AtLeast line.items w

-- the first of the best text so far and the text w is kept
pub record IsKept (old : Option (Vec ℕ)) (w : Text) (new : Option (Vec ℕ)) : Type 0 where
  pub which : (new ≡ old) ⊎ ((line : Vec ℕ) × (new ≡ Some line) × (line.items ≡ w))
  pub most : IsAtMost new w
  pub keeps : (u : Text) → IsAtMost old u → IsAtMost new u
