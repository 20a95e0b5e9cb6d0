-- Each condition is failed as its own search says.
use Rattle.std.proofs.Common.{◌↔◌, List, IsTrue, sym, subst}
use Rattle.fvn_terms.specs.declared.declarations.Rank.{Rank}
use Rattle.fvn_terms.specs.declared.declarations.Declarations.{Declarations}
use Rattle.fvn_terms.specs.Signature.{declared}
use Rattle.fvn_forms.specs.FitsKinds.{HaveOneKind}
use Rattle.fvn_sorts.specs.declared.conditions.shapes.Condition.{Condition}
use Rattle.fvn_sorts.specs.Faults.{Differ, HasFault}
use Rattle.fvn_sorts.specs.inner.Searches.{fault_at}
use Rattle.fvn_sorts.proofs.conditions.shapes.fails.Goals as goal

pub returns-in-Kinds : goal.returns-in-Kinds
returns-in-Kinds c =
    let found = c.kinds_differ.result in
    let of_ranks = subst (λ (l : List Rank). IsTrue found ↔ Differ (HaveOneKind c.args.draft.now.declarations) l) c.declared_ranks.ensures c.kinds_differ.ensures in
    let differ = subst (λ (d : Declarations). IsTrue found ↔ Differ (HaveOneKind d) (declared d c.args.op).ranks) c.requires.is of_ranks in
    subst (λ (k : Condition). IsTrue found ↔ HasFault c.args.collected.now (fault_at k c.args.op)) (sym c.in-Kinds.is) differ

pub returns-in-Shape : goal.returns-in-Shape
returns-in-Shape c = subst (λ (k : Condition). IsTrue c.has_bad_declaration.result ↔ HasFault c.args.collected.now (fault_at k c.args.op)) (sym c.in-Shape.is) c.has_bad_declaration.ensures

pub returns-in-Same : goal.returns-in-Same
returns-in-Same c = subst (λ (k : Condition). IsTrue c.axioms_differ.result ↔ HasFault c.args.collected.now (fault_at k c.args.op)) (sym c.in-Same.is) c.axioms_differ.ensures

pub returns-in-Identity : goal.returns-in-Identity
returns-in-Identity c = subst (λ (k : Condition). IsTrue c.has_bad_identity.result ↔ HasFault c.args.collected.now (fault_at k c.args.op)) (sym c.in-Identity.is) c.has_bad_identity.ensures
