-- The columns and rows are those of the operator's sums, and a solver takes them.
use Rattle.std.proofs.Common.{◌≡◌, map, sym, ap, ◌∙◌, subst}
use Rattle.fvn_lindio.specs.declared.system.System.{System}
use Rattle.fvn_lindio.specs.Systems.{rows_of, coefficients_of}
use Rattle.fvn_combine_nodes.specs.States.{class_of}
use Rattle.fvn_combine_systems.specs.NodeSystems.{IsNodeSystem, row_at, sums}
use Rattle.fvn_combine_reading.proofs.Collected.{system_is, system_fits}
use Rattle.fvn_combine_reading.proofs.system.sum_system.Goals as goal

pub returns-clause-exact : goal.returns-clause-exact
returns-clause-exact c =
    let t = c.args.table.now in
    let class = class_of c.args.state.now in
    let f = c.args.f in
    let columns = c.in_ok-columns.columns.items in
    let system : System = record { columns = c.len.result; rows = c.from_vec.result } in
    let rows : rows_of system ≡ map (row_at t class f columns) (sums t f) = ap coefficients_of c.from_vec.ensures ∙ c.in_ok-rows.ensures ∙ ap (λ l. map (row_at t class f l) (sums t f)) c.as_slice.ensures.value in
    subst (λ l. IsNodeSystem t class f l system) (sym c.from_vec-2.ensures) (system_is t class f columns c.in_ok-columns.ensures system (c.len.ensures ∙ c.in_ok-columns.columns.ok.0) rows)

pub returns-clause-system : goal.returns-clause-system
returns-clause-system c =
    let t = c.args.table.now in
    let class = class_of c.args.state.now in
    let f = c.args.f in
    let columns = c.in_ok-columns.columns.items in
    let system : System = record { columns = c.len.result; rows = c.from_vec.result } in
    let rows : rows_of system ≡ map (row_at t class f columns) (sums t f) = ap coefficients_of c.from_vec.ensures ∙ c.in_ok-rows.ensures ∙ ap (λ l. map (row_at t class f l) (sums t f)) c.as_slice.ensures.value in
    system_fits t class f columns c.in_ok-columns.ensures system (c.len.ensures ∙ c.in_ok-columns.columns.ok.0) rows c.requires.arguments c.requires.few
