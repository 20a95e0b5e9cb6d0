-- The first fault of a binding, or what it binds.
use Rattle.std.proofs.Common.{◌≡◌, ◌⊎◌, true, false, None, Some, refl, sym, ap, subst, ◌∙◌}
use Rattle.fvn_base.specs.declared.limits.TheConstants.{TERM_SYMBOLS}
use Rattle.fvn_terms.specs.Signature.{kind}
use Rattle.fvn_syntax.specs.declared.fault.TermFault.TheVariants.{NoMemory}
use Rattle.fvn_syntax.specs.declared.seen.Seen.{Seen}
use Rattle.fvn_syntax.specs.Scope.{Scope}
use Rattle.fvn_syntax.specs.Readings.{Reads, Refuses}
use Rattle.fvn_problems.specs.Scopes.{unguarded}
use Rattle.fvn_problems.specs.inner.Bound.{Finds, RefusesBinding}
use Rattle.fvn_problems.specs.inner.Sorting.{HasLeastSort}
use Rattle.fvn_problems.proofs.Binding.{refuse-variable, refuse-term, refuse-kind, refuse-sort, read-binding}
use Rattle.fvn_problems.proofs.bindings.read_binding.Goals as goal
use Rattle.fvn_problems.proofs.bindings.read_binding.Goals.{After-leq}

pub returns-in_default-clause-err : goal.returns-in_default-clause-err
returns-in_default-clause-err c =
    let u = unguarded c.args.signature.now c.args.names.now in
    let n = rw c.in_default.is at c.in_ok-x.ensures in
    refuse-variable u c.args.problem.now (record { texts = c.args.texts; count = 0 }) refl c.args.halves.now (subst (λ r. Finds u c.args.problem.now r None) c.pieces.ensures n)

pub returns-in-Err-clause-err : goal.returns-in-Err-clause-err
returns-in-Err-clause-err c =
    let u = unguarded c.args.signature.now c.args.names.now in
    let found = rw c.in-Some.is at c.in_ok-x.ensures in
    let scope = c.new-scope.ensures ∙ ap (λ d. unguarded d c.args.names.now) c.declarations.ensures in
    let err = subst (λ r. (c.in-Err.fault ≡ NoMemory) ⊎ Refuses c.new-scope.result c.args.texts r c.in-Err.fault) c.pieces-2.ensures c.in-Err.ensures.err in
    subst (RefusesBinding u c.args.problem.now c.args.texts c.args.halves.now) (sym c.term_fault.ensures)
    (refuse-term u c.args.problem.now (record { texts = c.args.texts; count = 0 }) refl c.args.halves.now c.in-Some.x
    (subst (λ r. Finds u c.args.problem.now r (Some c.in-Some.x)) c.pieces.ensures found) c.in-Err.fault
    (subst (λ s. (c.in-Err.fault ≡ NoMemory) ⊎ Refuses s c.args.texts c.args.halves.now.right c.in-Err.fault) scope err))

pub returns-then-read-kind-clause-err : goal.returns-then-read-kind-clause-err
returns-then-read-kind-clause-err c =
    let u = unguarded c.args.signature.now c.args.names.now in
    let found = rw c.in-Some.is at c.in_ok-x.ensures in
    let scope = c.new-scope.ensures ∙ ap (λ d. unguarded d c.args.names.now) c.declarations.ensures in
    let before : Seen = record { texts = c.args.texts; count = 0 } in
    let reads = subst (λ r. Reads c.new-scope.result TERM_SYMBOLS before r (c.in-Ok.read, c.in-Ok.seen)) c.pieces-2.ensures c.in-Ok.ensures.ok in
    refuse-kind u c.args.problem.now before refl c.args.halves.now c.in-Some.x
    (subst (λ r. Finds u c.args.problem.now r (Some c.in-Some.x)) c.pieces.ensures found) (c.in-Ok.read, c.in-Ok.seen)
    (subst (λ s. Reads s TERM_SYMBOLS before c.args.halves.now.right (c.in-Ok.read, c.in-Ok.seen)) scope reads)
    (λ e. c.if-read-kind.true (e ∙ ap (λ s. s.0) (sym c.kind.ensures.exact)))

-- what is known where sorts are compared
module _ (c : After-leq) where
  abbrev u : Scope
  u = unguarded c.args.signature.now c.args.names.now

  abbrev before : Seen
  before = record { texts = c.args.texts; count = 0 }

  found : Finds u c.args.problem.now c.args.halves.now.left (Some c.in-Some.x)
  found =
      let at-pieces = rw c.in-Some.is at c.in_ok-x.ensures in
      subst (λ r. Finds u c.args.problem.now r (Some c.in-Some.x)) c.pieces.ensures at-pieces

  reads : Reads u TERM_SYMBOLS before c.args.halves.now.right (c.in-Ok.read, c.in-Ok.seen)
  reads =
      let scope = c.new-scope.ensures ∙ ap (λ d. unguarded d c.args.names.now) c.declarations.ensures in
      let at-pieces = subst (λ r. Reads c.new-scope.result TERM_SYMBOLS before r (c.in-Ok.read, c.in-Ok.seen)) c.pieces-2.ensures c.in-Ok.ensures.ok in
      subst (λ s. Reads s TERM_SYMBOLS before c.args.halves.now.right (c.in-Ok.read, c.in-Ok.seen)) scope at-pieces

  least : HasLeastSort u c.args.halves.now.right c.in_ok-sort-in-Ok.sort
  least = subst (λ r. HasLeastSort u r c.in_ok-sort-in-Ok.sort) c.pieces-in-Ok.ensures c.in_ok-sort-in-Ok.ensures

  kinds : (c.in-Ok.read).kind.0 ≡ (kind c.args.signature.now c.in-Some.x.sort).0
  kinds = c.if-read-kind.false ∙ ap (λ s. s.0) c.kind.ensures.exact

pub returns-then-not-leq-clause-err : goal.returns-then-not-leq-clause-err
returns-then-not-leq-clause-err c =
    let w = (goal.at.returns-then-not-leq-clause-err c).After-leq in
    refuse-sort (u w) c.args.problem.now (before w) refl c.args.halves.now c.in-Some.x (found w) (c.in-Ok.read, c.in-Ok.seen) (reads w) (kinds w) c.in_ok-sort-in-Ok.sort (least w)
    (λ a. (let t : c.leq.result ≡ true = c.leq.ensures.1 a in let q : true ≡ false = sym t ∙ c.if-not-leq.true in cc))

pub returns-else-not-leq-clause-ok : goal.returns-else-not-leq-clause-ok
returns-else-not-leq-clause-ok c =
    let w = (goal.at.returns-else-not-leq-clause-ok c).After-leq in
    read-binding (u w) c.args.problem.now (before w) refl c.args.halves.now c.in-Some.x (found w) (c.in-Ok.read, c.in-Ok.seen) (reads w) (kinds w) c.in_ok-sort-in-Ok.sort (least w)
    (c.leq.ensures.0 c.if-not-leq.false)
