-- Where there are few sorts and operators the ranks decide.
use Rattle.std.proofs.Common.{◌≡◌, ◌≤◌, length, ap, arith}
use Rattle.fvn_base.specs.declared.limits.TheConstants.{SORTS, OPERATORS}
use Rattle.fvn_module_names.specs.Names.{sorts_of, operators_of}
use Rattle.fvn_module_names.specs.Vocabulary.{Vocabulary}
use Rattle.fvn_module_declarations.proofs.LongRanks.{long-ranks-decide}
use Rattle.fvn_module_declarations.proofs.sizes.is_too_large.Goals as goal

pub returns : goal.returns
returns c =
    let sorts : length (sorts_of c.args.statements.now) ≤ SORTS =
    (let here = ap length c.sorts.ensures in
    let all : length c.args.v.now.sorts ≡ length (sorts_of c.args.statements.now) = ap (λ (v : Vocabulary). length v.sorts) c.requires in
    omega arith) in
    let ops : length (operators_of c.args.statements.now) ≤ OPERATORS =
    (let here = ap length c.ops.ensures in
    let all : length c.args.v.now.ops ≡ length (operators_of c.args.statements.now) = ap (λ (v : Vocabulary). length v.ops) c.requires in
    omega arith) in
    long-ranks-decide c.args.statements.now sorts ops c.any_long_rank.result c.any_long_rank.ensures
