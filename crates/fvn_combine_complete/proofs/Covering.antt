-- What the bindings of a plan unfold to covers the unifier.
use Rattle.std.proofs.Common.{ℕ, sym}
use Rattle.std.proofs.lemmas.List.Elements.{All-weaker}
use Rattle.fvn_terms.specs.declared.declarations.Declarations.{Declarations}
use Rattle.fvn_terms.specs.Substitution.{Substitution}
use Rattle.fvn_terms.specs.Unifiers.{Problem}
use Rattle.fvn_flat.specs.Bindings.{Bindings}
use Rattle.fvn_flat.specs.Problems.{variables_of}
use Rattle.fvn_flat.specs.SolvedLists.{Plan, IsBinding}
use Rattle.fvn_combine_nodes.specs.Table.{NodeTable}
use Rattle.fvn_combine_nodes.specs.States.{class_of}
use Rattle.fvn_combine_nodes.specs.Laws.{class_at, UnifiersPartition}
use Rattle.fvn_combine_nodes.specs.Unifiers.{value_at}
use Rattle.fvn_combine_nodes.specs.declared.state.State.{State}
use Rattle.fvn_combine_choices.specs.Choosing.{Systems, Choice}
use Rattle.fvn_combine_choices.specs.Covering.{CoversOnKinds}
use Rattle.fvn_combine_choices.specs.Plans.{AreBindingsBy, unfolds_to}
use Rattle.fvn_combine_complete.specs.Laws.{UnifiersGoWith, TablesHaveSums, ValuesObeyChoices, ObeyedChoicesFall, ObeyedChoicesCover, LeavesCover}
use Rattle.fvn_combine_complete.proofs.Keeping.{sorted, keeps_sorts}
use Rattle.fvn_combine_complete.proofs.Later.{later, later_flat, value_of_variable}
use Rattle.fvn_combine_complete.proofs.Rightly.{binding_right}
use Rattle.fvn_combine_complete.proofs.Setting.{Setting}
use Rattle.fvn_combine_complete.proofs.Unfolding.{IsRight, unfolding_covers}

module _ {d : Declarations} {problem : Problem} {t : NodeTable} {s : State} {y : Systems} {u : Substitution} {c : Choice} {first next : ℕ} {plan : Plan} (g : Setting d problem t s y u c first next plan) where
  covered : (bindings : Bindings) → AreBindingsBy d problem (class_at t (class_of s)) plan bindings → CoversOnKinds d (variables_of problem) (unfolds_to d bindings) u
  covered bindings by = unfolding_covers d g.good (later g) (later_flat g) bindings
      (All-weaker (IsBinding d problem (class_at t (class_of s)) plan) (IsRight d g.good (later g) (later_flat g)) (binding_right g) bindings by.no_other)
      (variables_of problem) u g.unifier.0 (sorted g) (λ x among. sym (value_of_variable g x among)) (keeps_sorts g bindings by.no_other)

pub obeyed_choices_cover : UnifiersPartition → UnifiersGoWith → TablesHaveSums → ObeyedChoicesCover
obeyed_choices_cover partitions go_with sums d good problem kinded t made table s heads leaf told y systems u unifier admits c obeying first next plan after plan_by bindings by =
    covered (record {
      good = good;
      kinded = kinded;
      made = made;
      table = table;
      has = sums d good.fits problem kinded t made table;
      heads = heads;
      leaf = leaf;
      told = told;
      systems = systems;
      unifier = unifier;
      partitions = partitions d good.fits problem kinded t made table u unifier;
      admits = admits;
      go_with = go_with d good.fits problem kinded t made table u unifier s leaf.closed admits;
      obeying = obeying;
      after = after;
      plan_by = plan_by;
    }) bindings by

pub leaves_cover : UnifiersGoWith → TablesHaveSums → ValuesObeyChoices → ObeyedChoicesFall → ObeyedChoicesCover → LeavesCover
leaves_cover go_with sums obey fall cover d good problem kinded t made table s heads leaf told y systems alive u unifier admits obey_heads =
    let has = sums d good.fits problem kinded t made table in
    let values = go_with d good.fits problem kinded t made table u unifier s leaf.closed admits in
    let chosen = obey d good t made has s heads leaf told y systems alive (value_at d u t.nodes) values obey_heads in
    let c = chosen.0 in
    let ranked = fall d t made has s heads leaf told y systems (value_at d u t.nodes) values c chosen.3 in (
      c,
      record {
        possible = chosen.1;
        full = chosen.2;
        rank = ranked.0;
        falls = ranked.1;
        covers = λ first next plan after plan_by bindings by. cover d good problem kinded t made table s heads leaf told y systems u unifier admits c chosen.3 first next plan after plan_by bindings by;
      },
    )
