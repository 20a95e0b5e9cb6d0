-- Answers with later numbers than asked for, and what is kept of an answer.
use Rattle.std.proofs.Common.{◌≡◌, ◌≤◌, ◌∙◌, ℕ, List, Some, sym, subst, arith}
use Rattle.std.specs.Prelude.{◌↔◌, Option}
use Rattle.fvn_terms.specs.declared.declarations.Declarations.{Declarations}
use Rattle.fvn_terms.specs.Substitution.{Substitution}
use Rattle.fvn_terms.specs.Unifiers.{Problem}
use Rattle.fvn_flat.specs.Solving.{IsGiven, AreNumbered}
use Rattle.fvn_flat.specs.declared.solver.Pairs.{Pairs}
use Rattle.fvn_flat.specs.declared.solver.Solved.{Solved}
use Rattle.fvn_flat.specs.declared.solver.SolveEnd.TheVariants.{Complete}
use Rattle.fvn_remembering.specs.declared.answer.Answer.{Answer}
use Rattle.fvn_remembering.specs.declared.keeping.TheConstants.{FIRST}
use Rattle.fvn_remembering.specs.Answers.{Solving, pair_of, IsAnswer, IsKept}

module _ (d : Declarations) (given : Pairs) (first : ℕ) (low : first ≤ FIRST) where
  -- what may be asked from one number on may be asked from a later one on
  pub given_later : IsGiven d given first → IsGiven d given FIRST
  given_later g = record {
    fit = g.fit;
    kinds = g.kinds;
    numbers = λ x c fresh. omega (arith, g.numbers x c fresh, low);
    small = omega (arith);
  }

  numbered_earlier : (r : Solved) → AreNumbered d given FIRST r → AreNumbered d given first r
  numbered_earlier r all = λ i s get. λ x y c o. let n = all i s get x y c o in (n.0, omega (arith, n.1, low), n.2)

  -- numbers from a later one on are numbers from this one on
  pub answer_earlier : (s : Solving) → s.declarations ≡ d → (drawn : Problem → Substitution → Type 0) (r : Solved) → IsAnswer s drawn FIRST given r → IsAnswer s drawn first given r
  answer_earlier s is drawn r a = record {
    sound = a.sound;
    are_drawn = a.are_drawn;
    binds = a.binds;
    fresh = subst (λ (e : Declarations). AreNumbered e given first r) (sym is) (numbered_earlier r (subst (λ (e : Declarations). AreNumbered e given FIRST r) is a.fresh));
    next = omega (arith, a.next, low);
    bounded = a.bounded;
    apart = a.apart;
    complete = a.complete;
    cause = a.cause;
  }

-- a complete answer is kept as it was told
pub kept_as_told : (s : Solving) (drawn : Problem → Substitution → Type 0) (r : Solved) (answer : Answer) → r.end ≡ Complete → answer.unifiers ≡ r.unifiers → answer.next_fresh ≡ r.next_fresh → IsAnswer s drawn FIRST (pair_of answer.first answer.second) r → IsKept s drawn answer
kept_as_told s drawn r answer ended unifiers next a =
    subst (λ (x : Solved). IsAnswer s drawn FIRST (pair_of answer.first answer.second) x) (λ i. record { unifiers = sym unifiers i; next_fresh = sym next i; end = ended i }) a

-- what holds for the value that is named holds for each that is
pub named_one : {S : Type 0} (Holds : S → Answer → Type 0) (o : Option S) (a : S) → o ≡ Some a → (tag : List ℕ) (answer : Answer) → ((s : S) → o ≡ Some s → Holds s answer) ↔ Holds a answer
named_one {S} Holds o a is tag answer = (λ h. h a is, λ k s e. subst (λ (z : S). Holds z answer) (let w : Some a ≡ Some s = sym is ∙ e in cc) k)
