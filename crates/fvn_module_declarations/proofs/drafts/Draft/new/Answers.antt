-- The parts of a draft at the start.
use Rattle.std.proofs.Common.{◌≡◌, List, [], replicate, Option, Some, None, refl, ap, ◌∙◌}
use Rattle.fvn_terms.specs.declared.declarations.Axioms.{Axioms}
use Rattle.fvn_module_declarations.specs.inner.Drafts.{Draft}
use Rattle.fvn_module_declarations.proofs.drafts.Draft.new.Goals as goal

-- what cannot hold of axioms holds of none alone
none_alone : (P : Option Axioms → Type 0) → ((a : Axioms) → P (Some a) → ⊥) → (o : Option Axioms) → P o → o ≡ None
none_alone P h None p = refl
none_alone P h (Some a) p = absurd (h a p)

pub returns : goal.returns
returns c =
    let made : List (Option Axioms) → Draft = λ axioms. record { names = []; latest = axioms; collected = c.args.builder } in
    let all = c.in_ok-latest.ensures.items_if_clones_equal (none_alone _ (λ a h. absurd h)) in
    rw c.new.ensures (ap made (all ∙ ap (λ n. replicate n None) c.from.ensures))
