-- Overlaps of two rules, and the two terms that they lead to.
-- D. E. Knuth and P. B. Bendix, Simple word problems in universal algebras, 1970.
-- G. E. Peterson and M. E. Stickel, Complete sets of reductions for some equational theories, 1981.
-- J.-P. Jouannaud and H. Kirchner, Completion of a set of rules modulo a set of equations, 1986.
use Rattle.std.specs.Prelude.{◌≡◌, ◌⊎◌, ◌≤◌, ◌<◌, ℕ, true, List, [], ◌∷◌, Contains, Some}
use Rattle.fvn_base.specs.declared.limits.TheConstants.{FIRST_FRESH}
use Rattle.fvn_terms.specs.declared.plain.Var.{Var}
use Rattle.fvn_terms.specs.declared.plain.OpId.{OpId}
use Rattle.fvn_terms.specs.declared.declarations.Declarations.{Declarations}
use Rattle.fvn_terms.specs.Substitution.{Substitution, apply, Occurs}
use Rattle.fvn_terms.specs.Equality.{BEqual}
use Rattle.fvn_terms.specs.Sorts.{IsWellSorted}
use Rattle.fvn_terms.specs.Unifiers.{Problem}
use Rattle.fvn_terms.specs.Theory.{Equations}
use Rattle.fvn_terms.specs.Rewriting.{AreJoinable}
use Rattle.fvn_forms.specs.Flat.{FlatTerm, plain}
use Rattle.fvn_flat.specs.Forms.{head_of}
use Rattle.fvn_flat.specs.Drawn.{Renaming}
use Rattle.fvn_flat.specs.Successors.{IsRenaming, renamed_form}
use Rattle.fvn_rewrite_laws.specs.Agreement.{AgreeOn}
use Rattle.fvn_rewrite_rules.specs.declared.rule.Rule.{Rule}
use Rattle.fvn_rewrite_rules.specs.Given.{RuleLists}
use Rattle.fvn_places.specs.Paths.{LeadsTo, paths}
use Rattle.fvn_places.specs.Putting.{put_along}
use Rattle.fvn_lifting.specs.Meetings.{Meet}

-- x occurs on a side of the rule
abbrev pub OccursInRule : Rule → Var → Type 0
OccursInRule rule x = Occurs x (plain rule.left) ⊎ Occurs x (plain rule.right)

-- fresh, with a number from 1 to below this one
pub record IsNumberedUpTo (next : ℕ) (y : Var) : Type 0 where
  pub fresh : y.fresh ≡ true
  pub low : 1 ≤ y.name
  pub high : y.name < next

-- the second rule is the first with its variables renamed to fresh ones with numbers from 1 to below the next
pub record IsRenewed (d : Declarations) (next : ℕ) (rule new : Rule) : Type 0 where
  pub by : Renaming
  pub renames : IsRenaming (OccursInRule rule) by
  pub left : new.left ≡ renamed_form d by rule.left
  pub right : new.right ≡ renamed_form d by rule.right
  pub equation : new.equation ≡ rule.equation
  pub numbers : (y : Var) → OccursInRule new y → IsNumberedUpTo next y
  pub positive : 1 ≤ next
  pub small : next ≤ FIRST_FRESH

-- The first rule subsumes the second: one well-sorted substitution makes both sides of the second from its own, modulo
-- the axioms, and one operator heads both left sides.
pub record Subsumes (d : Declarations) (general special : Rule) : Type 0 where
  pub by : Substitution
  pub well_sorted : IsWellSorted d by
  pub left : BEqual d (apply by (plain general.left)) (plain special.left)
  pub right : BEqual d (apply by (plain general.right)) (plain special.right)
  pub head : head_of general.left ≡ head_of special.left

-- one of these rules subsumes this one
abbrev pub SomeSubsumes : Declarations → List Rule → Rule → Type 0
SomeSubsumes d chosen special = (general : Rule) × (Contains chosen general × Subsumes d general special)

-- some of the given rules, which subsume all given rules
pub record SubsumeAll (d : Declarations) (rules chosen : List Rule) : Type 0 where
  pub given : (rule : Rule) → Contains chosen rule → Contains rules rule
  pub enough : (rule : Rule) → Contains rules rule → SomeSubsumes d chosen rule

-- an outer rule, the path to a part of its left side, the part, and an inner rule
pub record Overlap : Type 0 where
  pub outer : Rule
  pub path : List ℕ
  pub at : FlatTerm
  pub inner : Rule

-- what the inner rule makes of the outer left side, where the part is its left side: its right side in the place of the part
abbrev pub inner_result : Overlap → FlatTerm
inner_result o = put_along o.path o.outer.left o.inner.right

-- the part and the inner left side are to be made equal
abbrev pub overlap_problem : Overlap → Problem
overlap_problem o = (plain o.at, plain o.inner.left) ∷ []

-- the path leads to a part of the outer left side that one operator heads as it heads the left side of a given rule
pub record IsOverlapWith (lists : RuleLists) (o : Overlap) : Type 0 where
  pub listed : Contains (paths o.outer.left) o.path
  pub leads : LeadsTo o.path o.outer.left o.at
  pub operator : OpId
  pub heads : head_of o.at ≡ Some operator
  pub given : Contains lists.rules o.inner
  pub heads_inner : head_of o.inner.left ≡ Some operator

-- the same, where the outer rule is a given one with new variables
pub record IsOverlap (d : Declarations) (lists : RuleLists) (next : ℕ) (o : Overlap) : Type 0 where
  pub rule : Rule
  pub given : Contains lists.rules rule
  pub renewed : IsRenewed d next rule o.outer
  pub overlaps : IsOverlapWith lists o

module _ (d : Declarations) (equations : Equations) (o : Overlap) where
  -- under this substitution what the outer rule makes of its left side and what the inner rule makes of it are joinable
  abbrev pub JoinsUnder : Substitution → Type 0
  JoinsUnder s = AreJoinable d equations (apply s (plain o.outer.right)) (apply s (plain (inner_result o)))

  -- they are so under one that has the values of s on the outer left side, and those of c on the inner one
  pub record JoinsWhere (s c : Substitution) : Type 0 where
    pub by : Substitution
    pub outer : AgreeOn d (plain o.outer.left) by s
    pub inner : AgreeOn d (plain o.inner.left) by c
    pub joins : JoinsUnder by

  -- they are so wherever instances of the part and of the inner left side are equal modulo the axioms
  abbrev pub Joins : Type 0
  Joins = (s c : Substitution) → Meet d (plain o.at) (plain o.inner.left) s c → JoinsWhere s c

-- the overlap of the whole left side of the outer rule with the inner one
abbrev pub whole_overlap : Rule → Rule → Overlap
whole_overlap outer inner = record { outer = outer; path = []; at = outer.left; inner = inner }

-- some renewal of the rule joins with the inner one in the overlap of both whole left sides
pub record JoinsWhole (d : Declarations) (equations : Equations) (rule inner : Rule) : Type 0 where
  pub next : ℕ
  pub new : Rule
  pub renewed : IsRenewed d next rule new
  pub joins : Joins d equations (whole_overlap new inner)

-- it does so with one of the two as the outer rule
abbrev pub JoinEitherWay : Declarations → Equations → Rule → Rule → Type 0
JoinEitherWay d equations a b = JoinsWhole d equations a b ⊎ JoinsWhole d equations b a

-- Some renewal of the rule joins in its overlaps with chosen ones of the given rules; where whole left sides overlap,
-- which of the two is renewed does not matter.
pub record IsJoined (d : Declarations) (equations : Equations) (lists : RuleLists) (chosen : List Rule) (rule : Rule) : Type 0 where
  pub next : ℕ
  pub new : Rule
  pub renewed : IsRenewed d next rule new
  pub joins : (o : Overlap) → o.outer ≡ new → IsOverlapWith lists o → Contains chosen o.inner → (o.path ≡ [] → ⊥) → Joins d equations o
  pub whole : (inner : Rule) → Contains chosen inner → (f : OpId) → head_of rule.left ≡ Some f →
      head_of inner.left ≡ Some f → JoinEitherWay d equations rule inner
