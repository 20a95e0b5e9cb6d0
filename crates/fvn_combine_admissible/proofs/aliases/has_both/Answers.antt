-- One more solution.
use Rattle.std.proofs.Common.{ℕ, ◌<◌, List, length, sym, ◌∙◌, subst, arith, All}
use Rattle.std.proofs.lemmas.Bool.{false≢true}
use Rattle.std.proofs.lemmas.List.Elements.{All-contains}
use Rattle.fvn_lindio.specs.Systems.{vectors_of}
use Rattle.fvn_combine_admissible.specs.inner.Reads.{HasOneOf}
use Rattle.fvn_combine_admissible.proofs.Alone.{HasBoth, of_solution, more_solutions, all_solutions}
use Rattle.fvn_combine_admissible.proofs.aliases.has_both.Goals as goal

pub part-requires : goal.part-requires
part-requires c = of_solution (λ v. c.args.j < length v) c.args.solutions.now c.requires.column c.loop-solution.solution-index c.solution-item.result c.loop-solution-test.true c.solution-item.is

pub has_one_of-requires : goal.has_one_of-requires
has_one_of-requires c =
    subst (λ (v : List ℕ). All (λ k. k < length v) c.args.constants.now) (sym c.as_slice.ensures)
    (of_solution (λ v. All (λ k. k < length v) c.args.constants.now) c.args.solutions.now c.requires.constants c.loop-solution.solution-index c.solution-item.result c.loop-solution-test.true c.solution-item.is)

pub loop-solution-preserved-then-part-eq0 : goal.loop-solution-preserved-then-part-eq0
loop-solution-preserved-then-part-eq0 c =
    more_solutions (λ v. HasBoth c.args.constants.now c.args.j v → ⊥) c.args.solutions.now c.loop-solution.solution-index c.solution-item.result c.loop-solution-test.true c.solution-item.is c.loop-solution.invariant
    (λ both. let up = both.0 in let zero = c.if-part-eq0.true in let is = c.part.ensures in omega (arith, up, zero, is))

pub loop-solution-preserved : goal.loop-solution-preserved
loop-solution-preserved c =
    more_solutions (λ v. HasBoth c.args.constants.now c.args.j v → ⊥) c.args.solutions.now c.loop-solution.solution-index c.solution-item.result c.loop-solution-test.true c.solution-item.is c.loop-solution.invariant
    (λ both. false≢true (sym c.if-has_one_of.false ∙ c.has_one_of.ensures.1 (subst (HasOneOf c.args.constants.now) (sym c.as_slice.ensures) both.1)))

pub returns : goal.returns
returns c =
    let none = all_solutions (λ v. HasBoth c.args.constants.now c.args.j v → ⊥) c.args.solutions.now c.loop-solution.solution-index c.loop-solution-test.false c.loop-solution.invariant in (
      λ e. absurd (false≢true e),
      λ alone. absurd (All-contains (λ v. HasBoth c.args.constants.now c.args.j v → ⊥) (vectors_of c.args.solutions.now) alone.0 none alone.1 (alone.2, alone.3)),
    )
