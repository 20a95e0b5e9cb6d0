-- What fits has few sorts and operators.
use Rattle.std.proofs.Common.{◌≤◌, length, sym, subst}
use Rattle.std.specs.List.{All}
use Rattle.fvn_terms.specs.declared.plain.SortId.{SortId}
use Rattle.fvn_base.specs.declared.limits.TheConstants.{SORTS, OPERATORS}
use Rattle.fvn_syntax.specs.declared.names.Variables.{Variables}
use Rattle.fvn_module_names.specs.Vocabulary.{Vocabulary}
use Rattle.fvn_module_declarations.proofs.LongRanks.{few-sorts, few-operators}
use Rattle.fvn_module_names.proofs.VariableSorts.{variables-small}
use Rattle.fvn_module_declarations.proofs.declaring.fit.Goals as goal

pub build-requires-clause-sorts : goal.build-requires-clause-sorts
build-requires-clause-sorts c = subst (λ (v : Vocabulary). length v.sorts ≤ SORTS) (sym c.requires.vocabulary) (few-sorts c.args.form.now.statements c.requires.small)

pub build-requires-clause-ops : goal.build-requires-clause-ops
build-requires-clause-ops c = subst (λ (v : Vocabulary). length v.ops ≤ OPERATORS) (sym c.requires.vocabulary) (few-operators c.args.form.now.statements c.requires.small)

pub into_variables-requires : goal.into_variables-requires
into_variables-requires c =
    let few = subst (λ (v : Vocabulary). length v.sorts ≤ SORTS) (sym c.requires.vocabulary) (few-sorts c.args.form.now.statements c.requires.small) in
    subst (λ (x : Variables). All (λ (s : SortId). s.0 ≤ 65535) x.sorts) (sym c.requires.variables)
    (variables-small c.args.v c.requires.in_range few c.args.form.now.statements)
