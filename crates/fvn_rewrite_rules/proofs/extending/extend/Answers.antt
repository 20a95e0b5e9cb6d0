-- The rules that were made are those of the equations.
use Rattle.std.proofs.Common.{List, sym, subst}
use Rattle.std.specs.Prelude.{All}
use Rattle.fvn_terms.specs.declared.declarations.Declarations.{Declarations}
use Rattle.fvn_forms.specs.Good.{IsGood}
use Rattle.fvn_signature.specs.Queries.{IsCompleted}
use Rattle.fvn_theory.specs.declared.equation.Equation.{Equation}
use Rattle.fvn_theory.specs.Equations.{equations_of, IsReadableEquation}
use Rattle.fvn_rewrite_laws.specs.Laws.{RuleLaws, RulesAreLawful}
use Rattle.fvn_rewrite_rules.specs.declared.rule.Rule.{Rule}
use Rattle.fvn_rewrite_rules.specs.Given.{AreRules}
use Rattle.fvn_rewrite_rules.specs.inner.Making.{IsKindedRule}
use Rattle.fvn_rewrite_rules.specs.inner.Heads.{IsTable}
use Rattle.fvn_rewrite_rules.proofs.Claims.{kinds_of, all_kinded, all_promises}
use Rattle.fvn_rewrite_rules.proofs.extending.extend.Goals as goal

laws : RulesAreLawful → (d : Declarations) → IsGood d → IsCompleted d → (list : List Equation) → All (IsReadableEquation d) list → RuleLaws d (equations_of list)
laws lawful d good completed list readable = lawful d good completed (equations_of list) (kinds_of d list readable)

pub table-requires : goal.table-requires
table-requires c =
    let d = c.args.sig.now in
    let list = c.args.equations.now in
    subst (All (IsKindedRule d)) (sym c.as_slice.ensures.value)
    (all_kinded d list (laws c.rules_are_lawful.ensures d c.recall_good.ensures c.recall_completed.ensures list c.requires) c.in_ok-rules.rules.items c.in_ok-rules.ensures)

pub returns-clause-rules : goal.returns-clause-rules
returns-clause-rules c =
    let d = c.args.sig.now in
    let list = c.args.equations.now in
    let rules = c.in_ok-rules.rules.items in
    let table = c.in_ok-table.table.items in
    let tabled = subst (λ (l : List Rule). IsTable d l table) c.as_slice.ensures.value c.in_ok-table.ensures in
    let promised = all_promises d list (laws c.rules_are_lawful.ensures d c.recall_good.ensures c.recall_completed.ensures list c.requires) rules c.in_ok-rules.ensures table tabled in
    subst (λ (l : List Equation). AreRules d (record { equations = l; rules = rules; table = table })) (sym c.in_ok-copies.ensures) promised
