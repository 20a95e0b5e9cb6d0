-- By the ranks that are declared.
use Rattle.std.proofs.Common.{◌≡◌, List, [], refl, sym, ap, ◌∙◌, subst, true}
use Rattle.std.specs.Prelude.{◌↔◌, IsTrue}
use Rattle.fvn_terms.specs.declared.declarations.Axioms.TheVariants.{Comm}
use Rattle.fvn_terms.specs.declared.declarations.Rank.{Rank}
use Rattle.fvn_terms.specs.declared.declarations.OpDecl.{OpDecl}
use Rattle.fvn_terms.specs.declared.declarations.Declarations.{Declarations}
use Rattle.fvn_terms.specs.Signature.{axioms, declared}
use Rattle.fvn_combine_complete.specs.Neutral.{Absorbs}
use Rattle.fvn_combine_candidates.specs.inner.Letting.{RanksLet}
use Rattle.fvn_combine_candidates.proofs.Letting.{argument_by_ranks, argument_without_ranks}
use Rattle.fvn_combine_candidates.proofs.vanishing.argument_lets.Goals as goal

pub returns-in-None : goal.returns-in-None
returns-in-None c =
    let d = c.args.sig.now in
    let g = c.args.g in
    let none : (declared d g).ranks ≡ [] = ap (λ (k : Declarations). (declared k g).ranks) (sym c.declarations.ensures) ∙ ap (λ (o : OpDecl). o.ranks) c.in-None.ensures in
    (λ _. argument_without_ranks d (Absorbs d c.args.f c.args.e) g c.args.p none, λ _. refl)

pub returns-in-Some : goal.returns-in-Some
returns-in-Some c =
    let d = c.args.sig.now in
    let g = c.args.g in
    let is : c.as_slice.result.now ≡ (declared d g).ranks =
    c.as_slice.ensures ∙ ap (λ (o : OpDecl). o.ranks) c.in-Some.ensures ∙ ap (λ (k : Declarations). (declared k g).ranks) c.declarations.ensures in
    let told : (c.is_swap-swaps.result ≡ true) ↔ (axioms d g ≡ Comm) = (λ t. sym c.axioms.ensures ∙ c.is_swap-swaps.ensures.0 t, λ e. c.is_swap-swaps.ensures.1 (c.axioms.ensures ∙ e)) in
    let by = argument_by_ranks d (Absorbs d c.args.f c.args.e) g c.args.p c.is_swap-swaps.result told in
    let iff : IsTrue c.ranks_let.result ↔ RanksLet (Absorbs d c.args.f c.args.e) c.is_swap-swaps.result c.args.p (declared d g).ranks =
    subst (λ rs. IsTrue c.ranks_let.result ↔ RanksLet (Absorbs d c.args.f c.args.e) c.is_swap-swaps.result c.args.p rs) is c.ranks_let.ensures in
    (λ t. by.0 (iff.0 t), λ h. iff.1 (by.1 h))
