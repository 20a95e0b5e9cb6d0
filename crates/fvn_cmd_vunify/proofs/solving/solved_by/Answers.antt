-- What is explored, and what is solved in it.
use Rattle.std.proofs.Common.{◌≡◌, ◌≤◌, length, sym, ap, ◌∙◌, subst}
use Rattle.std.specs.Prelude.{All}
use Rattle.std.proofs.lemmas.List.Elements.{All-nil}
use Rattle.fvn_base.specs.declared.limits.TheConstants.{UNIFIERS}
use Rattle.fvn_terms.specs.declared.declarations.Declarations.{Declarations}
use Rattle.fvn_flat.specs.Fits.{Fits, AllFit}
use Rattle.fvn_cover.specs.declared.marking.TheConstants.{WORKERS}
use Rattle.fvn_cmd_exploring.specs.RewriteUsable.{Rewriting}
use Rattle.fvn_cmd_exploring.proofs.Settings.{setting_is, limits_are}
use Rattle.fvn_cmd_vunify.proofs.Explored.{of_pairs, solved_in, at_once_in, solved_along}
use Rattle.fvn_cmd_vunify.proofs.solving.solved_by.Goals as goal

pub unify_at_once-requires-clause-sig : goal.unify_at_once-requires-clause-sig
unify_at_once-requires-clause-sig g c κs within = sym (ap (λ (r : Rewriting). r.signature) c.new-narrower.ensures.rewrites)

pub unify_at_once-requires-clause-terms : goal.unify_at_once-requires-clause-terms
unify_at_once-requires-clause-terms g c κs within =
    let d = c.signature-signature.result.now in
    let fit : All (λ p. Fits d p.0 × Fits d p.1) c.args.given.pairs = subst (λ (d : Declarations). All (λ p. Fits d p.0 × Fits d p.1) c.args.given.pairs) (sym c.signature-signature.ensures) c.requires.given.fit in
    subst (AllFit d) (sym c.as_slice.ensures.value) (c.in_ok-sides.ensures.fit d fit)

pub returns-in-Some : goal.returns-in-Some
returns-in-Some g c =
    let m = c.args.search.now.declared.now in
    let reach = c.args.search.now.reach in
    at_once_in m reach c.args.given.pairs (g.A.AxiomSolver.drawn c.args.solver.now) _
    (setting_is m reach _ c.signature-signature.ensures c.args.search.now.rules.now c.requires.search.equations _ c.new-narrower.ensures.rewrites _
    (subst (λ z. g.A.AxiomSolver.most_unifiers z ≡ UNIFIERS) (sym c.new-narrower.ensures.solver) c.requires.solver.unifiers_are))
    _ (c.as_slice.ensures.value ∙ c.in_ok-sides.ensures.exact) c.in-Some.solved (rw c.in-Some.is at c.in_ok-solved.ensures.solved)

pub explore-requires-clause-setting : goal.explore-requires-clause-setting
explore-requires-clause-setting g c κs within = record { declarations = ap (λ (r : Rewriting). r.signature) c.new-narrower.ensures.rewrites }

pub explore-requires-clause-start : goal.explore-requires-clause-start
explore-requires-clause-start g c κs within =
    let d = c.signature-signature.result.now in
    let fit : All (λ p. Fits d p.0 × Fits d p.1) c.args.given.pairs = subst (λ (d : Declarations). All (λ p. Fits d p.0 × Fits d p.1) c.args.given.pairs) (sym c.signature-signature.ensures) c.requires.given.fit in
    record {
      some = subst (λ l. 1 ≤ length l) (sym c.as_slice-2.ensures.value) (c.in_ok-sides.ensures.some c.requires.given.some);
      fit = subst (AllFit d) (sym c.as_slice-2.ensures.value) (c.in_ok-sides.ensures.fit d fit);
    }

pub explore-requires-clause-fixed : goal.explore-requires-clause-fixed
explore-requires-clause-fixed g c κs within = record { over = All-nil _; irreducible = All-nil _ }

pub explore-requires-clause-variants : goal.explore-requires-clause-variants
explore-requires-clause-variants g c κs within = subst (λ n. 1 ≤ n) (sym c.limits.ensures.variants) c.requires.search.keeps

pub explore-requires-clause-workers : goal.explore-requires-clause-workers
explore-requires-clause-workers g c κs within = subst (λ n. (1 ≤ n) × (n ≤ WORKERS)) (sym c.limits.ensures.workers) (c.requires.search.workers_are.one, c.requires.search.workers_are.few)

pub variant_unify-requires-clause-sig : goal.variant_unify-requires-clause-sig
variant_unify-requires-clause-sig g c κs within = sym (ap (λ (r : Rewriting). r.signature) c.new-narrower.ensures.rewrites)

pub variant_unify-requires-clause-solver : goal.variant_unify-requires-clause-solver
variant_unify-requires-clause-solver g c κs within = record {
  signature = c.requires.solver.signature ∙ sym c.signature-signature.ensures ∙ sym (ap (λ (r : Rewriting). r.signature) c.new-narrower.ensures.rewrites);
  unifiers_are = sym (ap (g.A.AxiomSolver.most_unifiers) c.new-narrower.ensures.solver);
  symbols_are = c.requires.solver.symbols_are ∙ sym (ap (λ (r : Rewriting). r.bounds.size) c.new-narrower.ensures.rewrites);
}

pub variant_unify-requires-clause-draws : goal.variant_unify-requires-clause-draws
variant_unify-requires-clause-draws g c κs within = λ problem s h. subst (λ v. g.A.AxiomSolver.drawn v problem s) (sym c.new-narrower.ensures.solver) h

pub variant_unify-requires-clause-explored : goal.variant_unify-requires-clause-explored
variant_unify-requires-clause-explored g c κs within =
    let m = c.args.search.now.declared.now in
    let reach = c.args.search.now.reach in
    let same = c.new-narrower.ensures.solver in
    of_pairs m reach c.args.given.pairs c.requires.given _
    (setting_is m reach _ c.signature-signature.ensures c.args.search.now.rules.now c.requires.search.equations _ c.new-narrower.ensures.rewrites _
    (subst (λ z. g.A.AxiomSolver.most_unifiers z ≡ UNIFIERS) (sym same) c.requires.solver.unifiers_are))
    _ c.in_ok-x.x _ (c.as_slice-2.ensures.value ∙ c.in_ok-sides.ensures.exact) _ c.in_ok-x.ensures.exploration

pub returns : goal.returns
returns g c =
    let m = c.args.search.now.declared.now in
    let reach = c.args.search.now.reach in
    let same = c.new-narrower.ensures.solver in
    solved_along (g.A.AxiomSolver.drawn) _ _ same m reach c.args.given.pairs c.in_ok-r.r
    (solved_in m reach c.args.given.pairs c.requires.given _
    (setting_is m reach _ c.signature-signature.ensures c.args.search.now.rules.now c.requires.search.equations _ c.new-narrower.ensures.rewrites _
    (subst (λ z. g.A.AxiomSolver.most_unifiers z ≡ UNIFIERS) (sym same) c.requires.solver.unifiers_are))
    _ c.in_ok-x.x c.args.search.now.workers _ (c.as_slice-2.ensures.value ∙ c.in_ok-sides.ensures.exact) _
    (limits_are m reach c.args.search.now.workers _ c.limits.ensures.levels c.limits.ensures.variants c.limits.ensures.steps c.limits.ensures.size c.limits.ensures.workers)
    c.in_ok-x.ensures.exploration c.explorations_are_lawful.ensures c.in_ok-r.r c.in_ok-r.ensures.solved)
