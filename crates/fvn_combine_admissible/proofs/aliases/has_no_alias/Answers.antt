-- Without constants there is no alias, and one more column.
use Rattle.std.proofs.Common.{◌≡◌, ℕ, List, ◌<◌, inl, inr, length, refl, sym, ap, ◌∙◌, subst, arith, All}
use Rattle.std.specs.Prelude.{nat_eq}
use Rattle.std.proofs.lemmas.Bool.{false≢true, cases_lt, eqb-true}
use Rattle.fvn_acunify.specs.ValidChoice.{chosen}
use Rattle.fvn_combine_nodes.specs.declared.table.Node.{Node}
use Rattle.fvn_combine_nodes.specs.States.{class_of}
use Rattle.fvn_lindio.specs.declared.system.Solution.{Solution}
use Rattle.fvn_lindio.specs.Systems.{vectors_of}
use Rattle.fvn_combine_leaves.specs.Users.{IsWholeSums, IsWhole}
use Rattle.fvn_combine_admissible.specs.Listed.{tag_in}
use Rattle.fvn_combine_admissible.specs.Aliases.{HasNoAlias}
use Rattle.fvn_combine_leaves.proofs.ReadOfState.{reading_whole, sums_whole}
use Rattle.fvn_combine_admissible.specs.inner.Reads.{MayBeAliasIn}
use Rattle.fvn_combine_admissible.proofs.Alone.{taken_long, has_column, has_constants, alias_among, no_alias_of_columns, alias_of_column}
use Rattle.fvn_combine_admissible.proofs.aliases.has_no_alias.Goals as goal

pub constants_of-requires : goal.constants_of-requires
constants_of-requires c =
    let d = c.args.sig.now in
    let t = c.args.table.now in
    let made = c.recall_well_made.ensures in
    record {
      whole = subst (λ (ns : List Node). IsWhole (length ns) c.args.reading.now) (sym c.nodes-n.ensures) (reading_whole d t made c.args.state.now c.requires.closed c.args.reading.now c.requires.reading);
      sums = subst (λ (ns : List Node). IsWholeSums (length ns) c.args.sums.now) (sym c.nodes-n.ensures) (sums_whole d t made c.args.state.now c.requires.closed c.args.reading.now c.requires.reading c.args.sums.now c.requires.listed);
    }

pub returns-then-is_empty : goal.returns-then-is_empty
returns-then-is_empty c =
    let constants = c.in_ok-constants.constants.items in
    let none : length constants ≡ 0 = eqb-true (length constants) 0 (ap (λ n. nat_eq n 0) (sym c.in_ok-constants.constants.ok.0) ∙ sym c.is_empty.ensures ∙ c.if-is_empty.true) in (
      λ e. no_alias_of_columns c.args.sig.now c.args.table.now c.recall_well_made.ensures c.args.state.now c.requires.closed c.args.reading.now c.requires.reading c.args.tags.now c.args.sums.now c.requires.listed constants c.in_ok-constants.ensures (chosen c.args.number (vectors_of c.args.basis.now)) (λ j l may. let within = may.2.3.1.1 in absurd (omega (arith, within, none))),
      λ all. refl,
    )

pub is_alias_at-requires-clause-whole : goal.is_alias_at-requires-clause-whole
is_alias_at-requires-clause-whole c =
    subst (λ (ns : List Node). IsWhole (length ns) c.args.reading.now) (sym c.nodes-n.ensures) (reading_whole c.args.sig.now c.args.table.now c.recall_well_made.ensures c.args.state.now c.requires.closed c.args.reading.now c.requires.reading)

pub is_alias_at-requires-clause-sums : goal.is_alias_at-requires-clause-sums
is_alias_at-requires-clause-sums c =
    subst (λ (ns : List Node). IsWholeSums (length ns) c.args.sums.now) (sym c.nodes-n.ensures)
    (sums_whole c.args.sig.now c.args.table.now c.recall_well_made.ensures c.args.state.now c.requires.closed c.args.reading.now c.requires.reading c.args.sums.now c.requires.listed)

pub is_alias_at-requires-clause-column : goal.is_alias_at-requires-clause-column
is_alias_at-requires-clause-column c =
    let n = length c.args.sums.now.columns in
    let long = taken_long n c.args.number (vectors_of c.args.basis.now) (vectors_of c.in_ok-solutions.solutions.items) c.in_ok-solutions.ensures c.requires.sized in
    subst (λ (vs : List Solution). All (λ v. c.loop-j.j < length v) (vectors_of vs)) (sym c.as_slice.ensures.value) (has_column n (vectors_of c.in_ok-solutions.solutions.items) long c.loop-j.j (omega arith))

pub is_alias_at-requires-clause-constants : goal.is_alias_at-requires-clause-constants
is_alias_at-requires-clause-constants c =
    let n = length c.args.sums.now.columns in
    let long = taken_long n c.args.number (vectors_of c.args.basis.now) (vectors_of c.in_ok-solutions.solutions.items) c.in_ok-solutions.ensures c.requires.sized in
    let all = has_constants n (vectors_of c.in_ok-solutions.solutions.items) long c.in_ok-constants.constants.items (λ j m. ((c.in_ok-constants.ensures.exact j).0 m).0) in
    subst (λ (vs : List Solution). All (λ v. All (λ k. k < length v) c.as_slice-in-loop-j.result.now) (vectors_of vs)) (sym c.as_slice.ensures.value)
    (subst (λ (ks : List ℕ). All (λ v. All (λ k. k < length v) ks) (vectors_of c.in_ok-solutions.solutions.items)) (sym c.as_slice-in-loop-j.ensures.value) all)

pub loop-j-preserved : goal.loop-j-preserved
loop-j-preserved c i l may =
    let r = c.args.reading.now in
    let e = c.args.sums.now in
    let constants = c.in_ok-constants.constants.items in
    let vectors = vectors_of c.in_ok-solutions.solutions.items in
    elim (cases_lt i c.loop-j.j) [
      | inl below ↦ c.loop-j.invariant i below may
      | inr above ↦
          let here = subst (MayBeAliasIn r c.args.tags.now e constants vectors) (omega (arith, l, above)) may in
          let there = alias_among r c.args.tags.now e constants c.as_slice-in-loop-j.result.now vectors (vectors_of c.as_slice.result.now) c.loop-j.j (sym c.as_slice-in-loop-j.ensures.value) (ap vectors_of (sym c.as_slice.ensures.value)) here in
          false≢true (sym c.if-is_alias_at.false ∙ c.is_alias_at.ensures.1 there)
    ]

pub returns-then-is_alias_at : goal.returns-then-is_alias_at
returns-then-is_alias_at c =
    let vectors = vectors_of c.in_ok-solutions.solutions.items in
    let constants = c.in_ok-constants.constants.items in
    let here = alias_among c.args.reading.now c.args.tags.now c.args.sums.now c.as_slice-in-loop-j.result.now constants (vectors_of c.as_slice.result.now) vectors c.loop-j.j c.as_slice-in-loop-j.ensures.value (ap vectors_of c.as_slice.ensures.value) (c.is_alias_at.ensures.0 c.if-is_alias_at.true) in (
      λ e. absurd (false≢true e),
      λ none. absurd (alias_of_column c.args.sig.now c.args.table.now c.recall_well_made.ensures c.args.state.now c.requires.closed c.args.reading.now c.requires.reading c.args.tags.now c.args.sums.now c.requires.listed constants c.in_ok-constants.ensures vectors c.loop-j.j (omega arith) here
          (subst (HasNoAlias c.args.sig.now c.args.table.now (class_of c.args.state.now) (tag_in c.args.tags.now) c.args.sums.now.operator c.args.sums.now.columns) (sym c.in_ok-solutions.ensures) none)),
    )

pub returns : goal.returns
returns c =
    let vectors = vectors_of c.in_ok-solutions.solutions.items in
    let all = no_alias_of_columns c.args.sig.now c.args.table.now c.recall_well_made.ensures c.args.state.now c.requires.closed c.args.reading.now c.requires.reading c.args.tags.now c.args.sums.now c.requires.listed c.in_ok-constants.constants.items c.in_ok-constants.ensures vectors (λ j l. c.loop-j.invariant j (omega (arith, l))) in (
      λ e. subst (HasNoAlias c.args.sig.now c.args.table.now (class_of c.args.state.now) (tag_in c.args.tags.now) c.args.sums.now.operator c.args.sums.now.columns) c.in_ok-solutions.ensures all,
      λ none. refl,
    )
