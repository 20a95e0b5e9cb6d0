-- Choices with the same tags that take as many solutions for each sum operator are possible together, and have the same plans.
use Rattle.std.proofs.Common.{◌≡◌, ℕ, ◌/◌, ◌%◌, ◌<◌, ◌≤◌, ◌^◌, length, sym, ap, ◌∙◌, subst, Contains, Option}
use Rattle.std.specs.List.{sum_by}
use Rattle.std.proofs.lemmas.List.Elements.{All-weaker}
use Rattle.fvn_terms.specs.declared.plain.OpId.{OpId}
use Rattle.fvn_terms.specs.declared.declarations.Declarations.{Declarations}
use Rattle.fvn_terms.specs.Substitution.{Substitution}
use Rattle.fvn_terms.specs.Unifiers.{Problem}
use Rattle.fvn_acunify.specs.ValidChoice.{chosen}
use Rattle.fvn_flat.specs.SolvedLists.{Form, unbound, as_member, as_sum, Plan, component}
use Rattle.fvn_combine_nodes.specs.Table.{NodeTable}
use Rattle.fvn_combine_nodes.specs.States.{class_of}
use Rattle.fvn_combine_nodes.specs.declared.state.State.{State}
use Rattle.fvn_combine_leaves.specs.Leaves.{IsSumOperator}
use Rattle.fvn_combine_choices.specs.Choosing.{Systems, Choice, AreTakenTogether, IsAcceptable, IsPossible, Needs, argument, summand, Falls, member_count, taken}
use Rattle.fvn_combine_choices.specs.Plans.{IsSimpleAt, IsFormBy, StandsFor, IsPlanBy}
use Rattle.fvn_combine_complete.specs.CoveringChoices.{IsCovering}
use Rattle.fvn_combine_bounds.specs.Narrow.{KeepsBounds}

module _ (d : Declarations) (t : NodeTable) (class : ℕ → ℕ) (y : Systems) (tag : ℕ → Option OpId) (m n : OpId → ℕ) where
  -- the choices
  abbrev this : Choice
  this = record { tag = tag; number = m }

  abbrev other : Choice
  other = record { tag = tag; number = n }

  module _ (f : OpId) (same : m f ≡ n f) where
    same_taken : taken y this f ≡ taken y other f
    same_taken = ap (λ b. chosen b (y.basis f)) same

    same_count : (k : ℕ) → member_count y this f k ≡ member_count y other f k
    same_count k = ap (λ vs. sum_by (λ v. component (y.columns f) v k) vs) same_taken

    together_from : (k l : ℕ) → AreTakenTogether d t class y other f k l → AreTakenTogether d t class y this f k l
    together_from k l h = record { solution = h.solution; among = subst (λ vs. Contains vs h.solution) (sym same_taken) h.among; left = h.left; right = h.right }

    acceptable_to : IsAcceptable d t class y this f → IsAcceptable d t class y other f
    acceptable_to h = record {
      within = subst (λ b. b < 2 ^ length (y.basis f)) same h.within;
      once = λ k c. sym (same_count k) ∙ h.once k c;
      apart = λ k l c e g. h.apart k l c e (together_from k l g);
      filled = λ k q. subst (λ b. 0 < b) (same_count k) (h.filled k q);
      no_alias = λ k l s b c g. subst (λ b. 2 ≤ b) (same_count k) (h.no_alias k l s b c (together_from k l g));
    }

  module _ (same : (f : OpId) → IsSumOperator d t f → m f ≡ n f) where
    pub possible_to : IsPossible d t class y this → IsPossible d t class y other
    possible_to h = record { tags = h.tags; acceptable = λ f op. acceptable_to f (same f op) (h.acceptable f op) }

    pub bounds_to : KeepsBounds d t class y this → KeepsBounds d t class y other
    bounds_to h = record {
      once = λ f op other_than k used narrow. subst (λ b. b ≤ 1) (same_count f (same f op) k) (h.once f op other_than k used narrow);
      some = λ f op k used never. subst (λ b. 0 < b) (same_count f (same f op) k) (h.some f op k used never);
      untagged = h.untagged;
    }

    needs_from : (k l : ℕ) → Needs d t class y other k l → Needs d t class y this k l
    needs_from k l (argument i f ks j over simple of among at) = argument i f ks j over simple of among at
    needs_from k l (summand f op bound constant together) = summand f op bound constant (together_from f (same f op) k l together)

    pub falls_to : (rank : ℕ → ℕ) → Falls d t class y this rank → Falls d t class y other rank
    falls_to rank h k l needs = h k l (needs_from k l needs)

    simple_from : (k i : ℕ) → IsSimpleAt d t class y other k i → IsSimpleAt d t class y this k i
    simple_from k i h = record { operator = h.operator; arguments = h.arguments; over = h.over; simple = h.simple; of = h.of }

    simple_to : (k i : ℕ) → IsSimpleAt d t class y this k i → IsSimpleAt d t class y other k i
    simple_to k i h = record { operator = h.operator; arguments = h.arguments; over = h.over; simple = h.simple; of = h.of }

    form_from : (k : ℕ) (form : Form) → IsFormBy d t class y other k form → IsFormBy d t class y this k form
    form_from k unbound h = (h.0, λ i s. h.1 i (simple_to k i s))
    form_from k (as_member u) h = (h.0, simple_from k h.0 h.1, h.2)
    form_from k (as_sum f) h = h

    pub plan_from : (first next : ℕ) (plan : Plan) → IsPlanBy d t class y other first next plan → IsPlanBy d t class y this first next plan
    plan_from first next plan h = record {
      enough = h.enough;
      names = h.names;
      forms = λ k l. form_from k (plan.form k) (h.forms k l);
      columns = h.columns;
      solutions = λ f op. h.solutions f op ∙ sym (same_taken f (same f op));
      standing = λ f op. All-weaker (StandsFor d t class y other first next plan f) (StandsFor d t class y this first next plan f) (λ q s. record { constant = s.constant; other = s.other }) (plan.parts f) (h.standing f op);
      only = h.only;
      distinct = h.distinct;
      apart = h.apart;
    }

-- so they cover together
pub covering_to : (d : Declarations) (problem : Problem) (t : NodeTable) (s : State) (y : Systems) (u : Substitution) (tag : ℕ → Option OpId) (m n : OpId → ℕ)
    → ((f : OpId) → IsSumOperator d t f → m f ≡ n f) → IsCovering d problem t s y u (record { tag = tag; number = m }) → IsCovering d problem t s y u (record { tag = tag; number = n })
covering_to d problem t s y u tag m n same h = record {
  possible = possible_to d t (class_of s) y tag m n same h.possible;
  full = λ f op i l none may. ap (λ b. b / 2 ^ i % 2) (sym (same f op)) ∙ h.full f op i l none may;
  rank = h.rank;
  falls = falls_to d t (class_of s) y tag m n same h.rank h.falls;
  covers = λ first next plan after by. h.covers first next plan after (plan_from d t (class_of s) y tag m n same first next plan by);
}
