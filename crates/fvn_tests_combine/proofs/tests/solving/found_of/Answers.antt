-- What is given fits the signature.
use Rattle.std.proofs.Common.{◌≡◌, List, subst, sym, All}
use Rattle.std.proofs.lemmas.List.Elements.{All-weaker}
use Rattle.fvn_terms.specs.declared.declarations.Declarations.{Declarations}
use Rattle.fvn_terms.specs.Unifiers.{Problem}
use Rattle.fvn_flat.specs.Bindings.{Bindings, BindsOnce, BindingsFit}
use Rattle.fvn_flat.specs.Solving.{Binds, problem_of}
use Rattle.fvn_tests_combine.proofs.tests.solving.found_of.Goals as goal

all_fit : (d e : Declarations) (problem : Problem) (all more : List Bindings) → e ≡ d → All (λ s. Binds problem s × BindsOnce s × BindingsFit e s) all → more ≡ all → All (BindingsFit d) more
all_fit d e problem all more same each is =
    subst (All (BindingsFit d)) (sym is) (subst (λ b. All (BindingsFit b) all) same (All-weaker (λ s. Binds problem s × BindsOnce s × BindingsFit e s) (BindingsFit e) (λ s fits. fits.2) all each))

pub push_known-requires : goal.push_known-requires
push_known-requires c = all_fit c.args.sig.now _ (problem_of c.args.problem.now) c.in_ok-found.found.unifiers _ c.new-solver.ensures.declarations c.in_ok-found.ensures.solved.binds c.as_slice.ensures
