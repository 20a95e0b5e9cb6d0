-- Where at each turn instances lift, or the rule is met in pairs and at pairs they lift, what meets a rule lifts.
use Rattle.std.proofs.Common.{◌≡◌, ◌⊎◌, ◌≤◌, ℕ, zero, suc, true, List, [], ◌∷◌, Some, refl, sym, ap, ◌∙◌, subst, inl, inr, arith}
use Rattle.std.specs.List.{Any, Contains}
use Rattle.fvn_base.proofs.Membership.{contains_none, contains_cases}
use Rattle.fvn_terms.specs.declared.plain.Var.{Var}
use Rattle.fvn_terms.specs.declared.plain.OpId.{OpId}
use Rattle.fvn_terms.specs.declared.declarations.Declarations.{Declarations}
use Rattle.fvn_terms.specs.Term.{Term}
use Rattle.fvn_terms.specs.Substitution.{Substitution, apply, Occurs}
use Rattle.fvn_terms.specs.Theory.{Equations}
use Rattle.fvn_terms.specs.Rewriting.{Rewrites, IsIrreducible}
use Rattle.fvn_forms.specs.Flat.{FlatTerm, plain}
use Rattle.fvn_forms.specs.Good.{IsGood}
use Rattle.fvn_flat.specs.Fits.{Fits, AllFit}
use Rattle.fvn_flat.specs.Forms.{head_of, args_of}
use Rattle.fvn_flat.specs.FlatPlaces.{IsAtPlace, here}
use Rattle.fvn_flat.specs.Successors.{Narrowed}
use Rattle.fvn_flat.proofs.Occurrences.{occurs_in_app}
use Rattle.fvn_cover.specs.declared.variant.Variant.{Variant}
use Rattle.fvn_rewrite_rules.specs.declared.rule.Rule.{Rule}
use Rattle.fvn_rewrite_rules.specs.Given.{RuleLists, headed}
use Rattle.fvn_exploring.specs.Setting.{Setting}
use Rattle.fvn_lifting.specs.Meetings.{Meet}
use Rattle.fvn_lifting.specs.Turns.{IsTurn, MeetsRule}
use Rattle.fvn_lifting.specs.Lifted.{KeepsIrreducibleFrom, IsLiftedFrom, LiftsAt}
use Rattle.fvn_lifting.specs.Pairs.{IsPairOf, IsMetInPairs, IsReducibleInPart, PairsLiftAt}
use Rattle.fvn_lifting.proofs.Parts.{place_fits}
use Rattle.fvn_lifting.proofs.PairSteps.{one_fits}
use Rattle.fvn_lifting.proofs.Within.{weight, some_weight, argument_weight, weight_at, through, argument_place, StandsInArgument, place_cases, occurs_at_place, occurs_in_one, divided_taken}

only_one : (t w : FlatTerm) → Contains (t ∷ []) w → t ≡ w
only_one t w c = elim (contains_cases t [] w c) [ inl e ↦ e | inr k ↦ absurd (contains_none w k) ]

-- what is known of a form is known of the list of it alone
pub of_one : (d : Declarations) (equations : Equations) (c : Substitution) (w : FlatTerm) → ((x : Var) → Occurs x (plain w) → IsIrreducible d equations (c x)) → (x : Var) → Any (λ t. Occurs x (plain t)) (w ∷ []) → IsIrreducible d equations (c x)
of_one d equations c w h x (k, t, i, e, o) = h x (subst (λ z. Occurs x (plain z)) (sym (only_one w t (k, i, e))) o)

one_operator : (f g : OpId) → Some f ≡ Some g → f ≡ g
one_operator f g e = cc

module _ (g : Setting) (good : IsGood g.declarations) (lists : RuleLists) (vars : List Var) (from : Narrowed) (fit : AllFit g.declarations from.terms) (children : List Variant)
    (c : Substitution) (keeps : KeepsIrreducibleFrom g vars from c) (irreducible : (y : Var) → Any (λ t. Occurs y (plain t)) from.terms → IsIrreducible g.declarations g.equations (c y))
    (turns : (at : FlatTerm) (rule : Rule) → IsTurn lists from.terms at rule → LiftsAt g vars from at rule.left children ⊎ (IsMetInPairs g.declarations lists rule × PairsLiftAt g lists vars from at children))
    (meets : (w : FlatTerm) → Fits g.declarations w → ((x : Var) → Occurs x (plain w) → IsIrreducible g.declarations g.equations (c x)) → (u : Term) → Rewrites g.declarations g.equations (apply c (plain w)) u → MeetsRule g.declarations lists (w ∷ []) c)
    (steps : (at : FlatTerm) → Fits g.declarations at → (f : OpId) → head_of at ≡ Some f → (rule : Rule) → Contains (headed lists f) rule → IsMetInPairs g.declarations lists rule → (by : Substitution) → Meet g.declarations (plain at) (plain rule.left) c by → IsReducibleInPart g.declarations g.equations f at c) where
  abbrev d : Declarations
  d = g.declarations

  abbrev equations : Equations
  equations = g.equations

  module _ (m : MeetsRule d lists from.terms c) where
    at_fits : Fits d m.at
    at_fits = place_fits d good m.at m.at m.turn.at_place (one_fits d from.terms m.turn.term fit m.turn.listed)

    -- the values of the variables of an argument are irreducible
    irreducible_in : (t : FlatTerm) → Contains (args_of m.at) t → (x : Var) → Occurs x (plain t) → IsIrreducible d equations (c x)
    irreducible_in t listed x o = irreducible x (m.turn.listed.0, m.turn.term, m.turn.listed.1, m.turn.listed.2, occurs_at_place x (through t m.at (argument_place t m.at t listed here) m.turn.at_place) o)

    -- what meets a rule in an argument meets it in the terms
    abbrev within : (t : FlatTerm) → Contains (args_of m.at) t → (n : MeetsRule d lists (t ∷ []) c) → MeetsRule d lists from.terms c
    within t listed n = record {
      at = n.at;
      rule = n.rule;
      turn = record {
        term = m.turn.term;
        listed = m.turn.listed;
        at_place = through n.at m.at (argument_place n.at m.at t listed (subst (IsAtPlace n.at) (sym (only_one t n.turn.term n.turn.listed)) n.turn.at_place)) m.turn.at_place;
        operator = n.turn.operator;
        heads = n.turn.heads;
        needed = n.turn.needed;
      };
      by = n.by;
      meets = n.meets;
    }

    module _ (low : ℕ) (light : weight m.at ≤ suc low) (more : (n : MeetsRule d lists from.terms c) → weight n.at ≤ low → Any (IsLiftedFrom g vars from c) children) where
      -- in an argument the instance lifts at a lighter form
      in_argument : (t : FlatTerm) → Contains (args_of m.at) t → (n : MeetsRule d lists (t ∷ []) c) → Any (IsLiftedFrom g vars from c) children
      in_argument t listed n =
          let a = argument_weight m.at t listed in
          let b = weight_at n.at (subst (IsAtPlace n.at) (sym (only_one t n.turn.term n.turn.listed)) n.turn.at_place) in
          more (within t listed n) (omega (arith, a, b, light))

      module _ (p : PairsLiftAt g lists vars from m.at children) where
        in_pair : (pair : FlatTerm) → IsPairOf m.turn.operator m.at pair → (n : MeetsRule d lists (pair ∷ []) c) → Any (IsLiftedFrom g vars from c) children
        in_pair pair i n = go (place_cases n.at place) where
          place : IsAtPlace n.at pair
          place = subst (IsAtPlace n.at) (sym (only_one pair n.turn.term n.turn.listed)) n.turn.at_place

          f : OpId
          f = m.turn.operator

          listed_there : (t : FlatTerm) → Contains (args_of pair) t → Contains (args_of m.at) t
          listed_there t h = subst (λ w. Contains (args_of w) t) (sym i.part.is_sum) (divided_taken i.part.divided_into t (subst (λ w. Contains (args_of w) t) i.part.part_is h))

          go : (n.at ≡ pair) ⊎ StandsInArgument n.at pair → Any (IsLiftedFrom g vars from c) children
          go (inl e) =
              let same : n.turn.operator ≡ m.turn.operator = one_operator n.turn.operator m.turn.operator (sym n.turn.heads ∙ ap head_of e ∙ ap head_of i.part.part_is) in
              subst (λ w. LiftsAt g vars from w n.rule.left children) (sym e) (p m.turn.operator m.turn.heads pair i n.rule (subst (λ o. Contains (headed lists o) n.rule) same n.turn.needed)) c n.by keeps n.meets
          go (inr h) = in_argument h.argument (listed_there h.argument h.listed) record {
            at = n.at;
            rule = n.rule;
            turn = record { term = h.argument; listed = (0, omega arith, refl); at_place = h.place; operator = n.turn.operator; heads = n.turn.heads; needed = n.turn.needed };
            by = n.by;
            meets = n.meets;
          }

        irreducible_in_pair : (pair : FlatTerm) → IsPairOf m.turn.operator m.at pair → (x : Var) → Occurs x (plain pair) → IsIrreducible d equations (c x)
        irreducible_in_pair pair i x o =
            let among = (occurs_in_app x m.turn.operator true i.part.taken).0 (subst (λ w. Occurs x (plain w)) i.part.part_is o) in
            let one = occurs_in_one x i.part.taken among in
            irreducible_in one.one (subst (λ w. Contains (args_of w) one.one) (sym i.part.is_sum) (divided_taken i.part.divided_into one.one one.listed)) x one.there

        in_part : IsReducibleInPart d equations m.turn.operator m.at c → Any (IsLiftedFrom g vars from c) children
        in_part q = go q.is_part where
          go : Contains (args_of m.at) q.part ⊎ IsPairOf m.turn.operator m.at q.part → Any (IsLiftedFrom g vars from c) children
          go (inl listed) = in_argument q.part listed (meets q.part q.fits (irreducible_in q.part listed) q.reducible.0 q.reducible.1)
          go (inr i) = in_pair q.part i (meets q.part q.fits (irreducible_in_pair q.part i) q.reducible.0 q.reducible.1)

      one_lifts : LiftsAt g vars from m.at m.rule.left children ⊎ (IsMetInPairs d lists m.rule × PairsLiftAt g lists vars from m.at children) → Any (IsLiftedFrom g vars from c) children
      one_lifts (inl h) = h c m.by keeps m.meets
      one_lifts (inr h) = in_part h.1 (steps m.at at_fits m.turn.operator m.turn.heads m.rule m.turn.needed h.0 m.by m.meets)

  each_lifts : (low : ℕ) (m : MeetsRule d lists from.terms c) → weight m.at ≤ low → Any (IsLiftedFrom g vars from c) children
  each_lifts zero m light = let h = some_weight m.at in absurd (omega (arith, h, light))
  each_lifts (suc low) m light = one_lifts m low light (each_lifts low) (turns m.at m.rule m.turn)

  -- what meets a rule lifts
  pub meeting_lifts : MeetsRule d lists from.terms c → Any (IsLiftedFrom g vars from c) children
  meeting_lifts m = each_lifts (weight m.at) m (omega arith)
