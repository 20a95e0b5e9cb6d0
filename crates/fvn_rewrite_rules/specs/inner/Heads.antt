-- The rules that are needed under a head.
use Rattle.std.specs.Prelude.{◌≡◌, ◌⊎◌, ◌<◌, Bool, true, false, List, [], length, AllPairs, Contains, Some, slice_index_or}
use Rattle.fvn_terms.specs.declared.plain.OpId.{OpId}
use Rattle.fvn_terms.specs.declared.declarations.Declarations.{Declarations}
use Rattle.fvn_flat.specs.Forms.{head_of}
use Rattle.fvn_rewrite_rules.specs.declared.rule.Rule.{Rule}
use Rattle.fvn_rewrite_rules.specs.Given.{HasInstance, HaveNoInstances}

module _ (d : Declarations) where
  -- a substitution makes the left side of the rule that of the other
  abbrev pub HasAsInstance : Rule → Rule → Type 0
  HasAsInstance rule other = HasInstance d rule other.left

  -- one of the rules has this one as an instance
  abbrev pub SomeHasInstance : List Rule → Rule → Type 0
  SomeHasInstance rules rule = (general : Rule) × (Contains rules general × HasAsInstance general rule)

  -- Whether the rule serves in place of the other: where it does, it has it as an instance; where it does not though it
  -- has, each has the other.
  abbrev pub ServesAs : Rule → Rule → Bool → Type 0
  ServesAs rule other true = HasAsInstance rule other
  ServesAs rule other false = HasAsInstance rule other → HasAsInstance other rule

  -- whether one of the rules serves in place of the other
  abbrev pub SomeServesAs : List Rule → Rule → Bool → Type 0
  SomeServesAs rules other true = SomeHasInstance rules other
  SomeServesAs rules other false = (rule : Rule) → Contains rules rule → ServesAs rule other false

  -- none of the rules is an instance of another one
  abbrev pub AreApart : List Rule → Type 0
  AreApart = AllPairs (HaveNoInstances d)

  -- what is left of the rules without instances of one more
  pub record AreLeft (general : Rule) (rules left : List Rule) : Type 0 where
    pub listed : (rule : Rule) → Contains left rule → Contains rules rule
    pub others : (rule : Rule) → Contains rules rule → Contains left rule ⊎ HasAsInstance general rule
    pub no_instances : (rule : Rule) → Contains left rule → HasAsInstance general rule → ⊥
    pub apart : AreApart rules → AreApart left

  -- with one rule more
  pub record AreNeededWith (rule : Rule) (before after : List Rule) : Type 0 where
    pub listed : (r : Rule) → Contains after r → Contains before r ⊎ (r ≡ rule)
    pub before_too : (r : Rule) → Contains before r → SomeHasInstance after r
    pub this_too : SomeHasInstance after rule
    pub apart : AreApart before → AreApart after

  -- rules whose left sides f heads, apart, such that each other that it heads is an instance of one of them
  pub record AreNeeded (f : OpId) (rules needed : List Rule) : Type 0 where
    pub given : (rule : Rule) → Contains needed rule → Contains rules rule × (head_of rule.left ≡ Some f)
    pub enough : (rule : Rule) → Contains rules rule → head_of rule.left ≡ Some f → SomeHasInstance needed rule
    pub apart : AreApart needed

  -- for each operator those that are needed under it
  pub record IsTable (rules : List Rule) (table : List (List Rule)) : Type 0 where
    pub all : length table ≡ length d.ops
    pub needed : (f : OpId) → f.0 < length d.ops → AreNeeded f rules (slice_index_or table f.0 [])
