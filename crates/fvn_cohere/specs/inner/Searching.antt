-- A search through the choices for the variables of a term.
use Rattle.std.specs.Prelude.{Bool, true, false, not, ◌&&◌, if◌then◌else◌, List, [], ◌∷◌, map}
use Rattle.std.specs.List.{list_any}
use Rattle.fvn_terms.specs.declared.plain.Var.{Var}
use Rattle.fvn_terms.specs.declared.plain.OpId.{OpId}
use Rattle.fvn_terms.specs.declared.plain.SortId.{SortId}
use Rattle.fvn_terms.specs.declared.declarations.Declarations.{Declarations}
use Rattle.fvn_terms.specs.Term.{Term}
use Rattle.fvn_terms.specs.Substitution.{same_var}
use Rattle.fvn_forms.specs.SortOrder.{at_or_below}
use Rattle.fvn_rewrite_laws.specs.declared.shapes.Root.{Root}
use Rattle.fvn_rewrite_laws.specs.declared.shapes.Root.TheVariants.{Variable, Constant, Compound}
use Rattle.fvn_rewrite_laws.specs.declared.shapes.Shape.{Shape}
use Rattle.fvn_rewrite_laws.specs.Shapes.{shape_in}
use Rattle.fvn_rewrite_laws.specs.Identities.{is_listed_op}
use Rattle.fvn_rewrite_laws.specs.Choices.{variable_shape, sort_choices, identity_choices}
use Rattle.fvn_cohere.specs.declared.shapes.Chosen.{Chosen, Nothing, Choose'}
use Rattle.fvn_cohere.specs.declared.searching.Sought.{Sought}
use Rattle.fvn_cohere.specs.declared.searching.Sought.TheVariants.{Loss, LossAt, ToVariable, ToIdentity}

-- the shapes that variables stand for; a variable without one stays
abbrev pub shapes_by : Chosen → Var → Shape
shapes_by Nothing y = variable_shape y.sort
shapes_by (Choose' x o p rest) y = if same_var x y then o else shapes_by rest y

-- a shape for x, and those of env for other variables
abbrev pub with_shape : (Var → Shape) → Var → Shape → Var → Shape
with_shape env x o y = if same_var x y then o else env y

-- whether some choice for the variables that are left passes the test
abbrev pub some_choice : ((Var → Shape) → Bool) → List (Var × List Shape) → (Var → Shape) → Bool
some_choice test [] env = test env
some_choice test (v ∷ unchosen) env = list_any (λ o. some_choice test unchosen (with_shape env v.0 o)) v.1

-- variables with their choices
abbrev pub unchosen_of : (SortId → List Shape) → List Var → List (Var × List Shape)
unchosen_of choices vars = map (λ (x : Var). (x, choices x.sort)) vars

-- whether this is the root of a variable
abbrev pub is_variable_root : Root → Bool
is_variable_root Variable = true
is_variable_root (Constant g) = false
is_variable_root Compound = false

-- whether this is the root of one of these constants
abbrev pub is_identity_root : List OpId → Root → Bool
is_identity_root es Variable = false
is_identity_root es (Constant g) = is_listed_op es g
is_identity_root es Compound = false

module _ (d : Declarations) where
  -- what variables may stand for in a search
  abbrev pub choices_for : Sought → SortId → List Shape
  choices_for Loss = sort_choices d
  choices_for (LossAt s) = sort_choices d
  choices_for ToVariable = identity_choices d
  choices_for ToIdentity = identity_choices d

  -- whether the left side has a sort that the right side has not
  abbrev pub is_lost_at : SortId → SortId → SortId → Bool
  is_lost_at s left right = at_or_below d left s && not (at_or_below d right s)

  -- whether a choice is what is sought
  abbrev pub is_met : Sought → List OpId → Term → Term → (Var → Shape) → Bool
  is_met Loss es left right env = not (at_or_below d (shape_in d env right).sort (shape_in d env left).sort)
  is_met (LossAt s) es left right env = is_lost_at s (shape_in d env left).sort (shape_in d env right).sort
  is_met ToVariable es left right env = is_variable_root (shape_in d env left).root
  is_met ToIdentity es left right env = is_identity_root es (shape_in d env left).root
