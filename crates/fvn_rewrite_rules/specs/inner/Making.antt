-- How rules are made: instances by one variable after another, and a new variable beside both sides.
use Rattle.std.specs.Prelude.{◌≡◌, ℕ, true, if◌then◌else◌, List, [], ◌∷◌, ◌++◌, map, fold, Contains, Option, Some, None}
use Rattle.fvn_terms.specs.declared.plain.Var.{Var}
use Rattle.fvn_terms.specs.declared.plain.OpId.{OpId}
use Rattle.fvn_terms.specs.declared.declarations.Declarations.{Declarations}
use Rattle.fvn_terms.specs.Term.{Term, var}
use Rattle.fvn_terms.specs.Substitution.{Substitution, apply}
use Rattle.fvn_terms.specs.Signature.{kind, axioms}
use Rattle.fvn_terms.specs.Equality.{is_sum}
use Rattle.fvn_terms.specs.Sorts.{IsWellSorted}
use Rattle.fvn_forms.specs.Flat.{FlatTerm, fvar, fconstant, plain}
use Rattle.fvn_forms.specs.Canon.{build, canon, inst}
use Rattle.fvn_forms.specs.Settled.{Settled}
use Rattle.fvn_forms.specs.LeastSort.{least_sort}
use Rattle.fvn_flat.specs.Forms.{head_of}
use Rattle.fvn_flat.specs.Bindings.{Bindings, value, BindingsFit}
use Rattle.fvn_flat.specs.Solving.{substitution}
use Rattle.fvn_flat.specs.Rules.{IsIdentityChoice, IsIdentityInstance, IsRuleFrom}
use Rattle.fvn_rewrite_laws.specs.Choices.{identities_below}
use Rattle.fvn_rewrite_laws.specs.Kinds.{HasOneKind}
use Rattle.fvn_rewrite_rules.specs.declared.rule.Rule.{Rule}
use Rattle.fvn_rewrite_rules.specs.Given.{HasOldVariables, IsRenamedRule, HasInstance}

-- x goes to e, and other variables stay
abbrev pub goes_to : Var → OpId → Bindings
goes_to x e = (x, fconstant e) ∷ []

module _ (d : Declarations) where
  -- the pairs are flat and of their variables' kinds, and stand for a well-sorted substitution
  pub record AreSorted (s : Bindings) : Type 0 where
    pub fit : BindingsFit d s
    pub sorted : IsWellSorted d (substitution s)

  -- both sides are flat, and terms of one kind
  pub record IsKindedRule (rule : Rule) : Type 0 where
    pub kinds : HasOneKind d (plain rule.left, plain rule.right)
    pub left : Settled d rule.left
    pub right : Settled d rule.right

  -- the rule with its variables replaced
  abbrev pub instance_by : Bindings → Rule → Rule
  instance_by s rule = record { left = inst d (value s) rule.left; right = inst d (value s) rule.right; equation = rule.equation }

  -- some rules, and behind them others in which x goes to e
  abbrev pub with_identity : Var → List Rule → List Rule → OpId → List Rule
  with_identity x rules all e = all ++ map (instance_by (goes_to x e)) rules

  -- those in which x goes to one of the identities, in turn
  abbrev pub by_identities : Var → List Rule → List OpId → List Rule
  by_identities x rules es = fold (with_identity x rules) [] es

  -- the rules, and those in which x goes to an identity at or below its sort
  abbrev pub with_choices : List Rule → Var → List Rule
  with_choices rules x = rules ++ by_identities x rules (identities_below d x.sort)

  -- the fresh variable 0 of the form's kind
  abbrev pub new_variable : FlatTerm → Var
  new_variable t = record { name = 0; sort = kind d (least_sort d t); fresh = true }

  -- f over the form and a variable
  abbrev pub beside : OpId → Var → FlatTerm → FlatTerm
  beside f z t = build d f (t ∷ fvar z ∷ [])

  -- the rule with a new variable beside both sides
  abbrev pub extended : Rule → OpId → Rule
  extended rule f = record { left = beside f (new_variable rule.left) rule.left; right = beside f (new_variable rule.left) rule.right; equation = rule.equation }

  -- the same, where this heads the left side and is associative
  abbrev pub extension_under : Rule → Option OpId → Option Rule
  extension_under rule None = None
  extension_under rule (Some f) = if is_sum (axioms d f) then Some (extended rule f) else None

  -- the extension of a rule, where an associative operator heads its left side
  abbrev pub extension_of : Rule → Option Rule
  extension_of rule = extension_under rule (head_of rule.left)

  -- the rule stands for l = r: a renaming of it, of whose left side l is an instance, under the same head
  pub record StandsFor (l r : FlatTerm) (rule : Rule) : Type 0 where
    pub renamed : IsRenamedRule d l r rule
    pub instance : HasInstance d rule l
    pub head : head_of rule.left ≡ head_of l

  module _ (number : ℕ) (equation : Term × Term) where
    -- the rule is the equation under the substitution, in flat form
    pub record IsUnder (by : Substitution) (rule : Rule) : Type 0 where
      pub left : rule.left ≡ canon d (apply by equation.0)
      pub right : rule.right ≡ canon d (apply by equation.1)

    -- identity instances of the equation, with its number; among them all that leave all but these variables
    pub record AreInstancesOver (vars : List Var) (rules : List Rule) : Type 0 where
      pub sound : (rule : Rule) → Contains rules rule → (rule.equation ≡ number) × IsIdentityInstance d equation rule.left rule.right
      pub complete : (by : Substitution) → IsIdentityChoice d equation.0 by → ((x : Var) → (Contains vars x → ⊥) → by x ≡ var x) → (rule : Rule) × (Contains rules rule × IsUnder by rule)

    -- all identity instances of the equation, with its number
    pub record AreInstances (rules : List Rule) : Type 0 where
      pub sound : (rule : Rule) → Contains rules rule → (rule.equation ≡ number) × IsIdentityInstance d equation rule.left rule.right
      pub complete : (by : Substitution) → IsIdentityChoice d equation.0 by → (rule : Rule) × (Contains rules rule × IsUnder by rule)

    -- all rules of the equation, with its number
    pub record AreRulesFrom (rules : List Rule) : Type 0 where
      pub sound : (rule : Rule) → Contains rules rule → (rule.equation ≡ number) × IsRuleFrom d equation rule.left rule.right
      pub complete : (l r : FlatTerm) → IsRuleFrom d equation l r → (rule : Rule) × (Contains rules rule × StandsFor l r rule)
      pub old : (rule : Rule) → Contains rules rule → HasOldVariables rule
