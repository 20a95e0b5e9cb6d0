-- the operators refuse, or the variables decide
use Rattle.std.proofs.Common.{false, refl, subst}
use Rattle.std.specs.Prelude.{◌↔◌, IsTrue, All}
use Rattle.fvn_cover_counts.specs.Profiles.{AllowsMatching}
use Rattle.fvn_cover_counts.specs.inner.Comparing.{AllowsOperator, allows_variable}
use Rattle.fvn_cover_counts.proofs.Refusals.{refused_by_operators, decided_by_variables, never_matched}
use Rattle.fvn_cover_counts.proofs.profile.Profile.may_cover.Goals as goal

pub returns-then-not-operators_allow : goal.returns-then-not-operators_allow
returns-then-not-operators_allow c =
    let d = c.args.sig.now in
    let p = c.args.self.now in
    let q = c.args.other.now in
    let own : IsTrue c.operators_allow.result ↔ All (AllowsOperator d q.rows.items) p.rows.items =
    subst (λ l. IsTrue c.operators_allow.result ↔ All (AllowsOperator d q.rows.items) l) c.as_slice.ensures.value
    (subst (λ m. IsTrue c.operators_allow.result ↔ All (AllowsOperator d m) c.as_slice.result.now) c.as_slice-2.ensures.value c.operators_allow.ensures) in
    let exact : AllowsMatching d p q (IsTrue false) = refused_by_operators d p q (λ h.
    let t = own.1 h in
    let f = c.if-not-operators_allow.true in cc) in
    record { exact = exact; none = λ e. never_matched d p q false exact refl }

pub returns : goal.returns
returns c =
    let d = c.args.sig.now in
    let p = c.args.self.now in
    let q = c.args.other.now in
    let own : IsTrue c.operators_allow.result ↔ All (AllowsOperator d q.rows.items) p.rows.items =
    subst (λ l. IsTrue c.operators_allow.result ↔ All (AllowsOperator d q.rows.items) l) c.as_slice.ensures.value
    (subst (λ m. IsTrue c.operators_allow.result ↔ All (AllowsOperator d m) c.as_slice.result.now) c.as_slice-2.ensures.value c.operators_allow.ensures) in
    let above : IsTrue c.variables_allow.result ↔ All (λ o. IsTrue (allows_variable p.rows.items o)) q.rows.items =
    subst (λ m. IsTrue c.variables_allow.result ↔ All (λ o. IsTrue (allows_variable p.rows.items o)) m) c.as_slice-4.ensures.value
    (subst (λ l. IsTrue c.variables_allow.result ↔ All (λ o. IsTrue (allows_variable l o)) c.as_slice-4.result.now) c.as_slice-3.ensures.value c.variables_allow.ensures) in
    let exact : AllowsMatching d p q (IsTrue c.variables_allow.result) =
    decided_by_variables d p q c.variables_allow.result (own.0 c.if-not-operators_allow.false) above in
    record { exact = exact; none = λ e. never_matched d p q c.variables_allow.result exact e }
