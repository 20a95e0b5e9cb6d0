-- The draft of all statements holds what they declare.
use Rattle.std.proofs.Common.{◌≤◌, List, [], length, replicate, None, refl, sym, ap, subst, ◌∙◌}
use Rattle.std.specs.List.{All}
use Rattle.fvn_base.specs.declared.limits.TheConstants.{OPERATORS}
use Rattle.fvn_module_syntax.specs.declared.statement.Statement.{Statement}
use Rattle.fvn_module_names.specs.Order.{with_pairs}
use Rattle.fvn_module_names.specs.Vocabulary.{Vocabulary}
use Rattle.fvn_module_declarations.specs.inner.Shapes.{HasRank}
use Rattle.fvn_module_declarations.specs.inner.Drafts.{Draft, with_all_operators}
use Rattle.fvn_module_declarations.proofs.NamedRanks.{named-ranks}
use Rattle.fvn_module_declarations.proofs.Collecting.{collected-is}
use Rattle.fvn_module_declarations.proofs.building.build.Goals as goal

-- a draft that starts with sorts and their order
abbrev draft_in : Vocabulary → List Statement → Draft
draft_in v sts = record {
  names = [];
  latest = replicate OPERATORS None;
  collected = record { sorts = length v.sorts; below = with_pairs v.sorts [] sts; operators = 0; declarations = [] };
}

pub add_all-requires-clause-known : goal.add_all-requires-clause-known
add_all-requires-clause-known c = subst (λ v. All (HasRank v) c.args.statements.now) (sym c.requires.vocabulary) (named-ranks c.args.statements.now c.requires.named)

pub returns : goal.returns
returns c =
    let few = subst (λ (v : Vocabulary). length v.ops ≤ OPERATORS) c.requires.vocabulary c.requires.ops in
    c.into_builder.ensures.exact
    ∙ ap (λ (d : Draft). d.collected) c.in_ok-draft.ensures
    ∙ ap (λ d. (with_all_operators c.args.v.now d c.args.statements.now).collected) (rw (c.in_ok-empty.ensures, c.in_ok-ordered.ensures, c.in_ok-sorted.ensures, c.len.ensures.exact, c.sorts.ensures, c.sorts-2.ensures) refl)
    ∙ ap (λ v. (with_all_operators v (draft_in v c.args.statements.now) c.args.statements.now).collected) c.requires.vocabulary
    ∙ collected-is c.args.statements.now few
