-- One more statement is declared.
use Rattle.std.proofs.Common.{◌+◌, ◌∷◌, List, length, drop, sym, ap, ◌∙◌, arith}
use Rattle.std.proofs.lemmas.List.{drop_more}
use Rattle.fvn_signature_draft.specs.declared.collected.Collected.{Collected}
use Rattle.fvn_module_syntax.specs.declared.statement.Statement.{Statement}
use Rattle.fvn_module_names.specs.Names.{operators_in, with_texts, with_names}
use Rattle.fvn_module_declarations.specs.inner.Drafts.{Draft, with_all_operators}
use Rattle.fvn_module_names.proofs.TextCounts.{grown-names}
use Rattle.fvn_module_declarations.proofs.Drafted.{statement-names, statement-others}
use Rattle.fvn_module_declarations.proofs.drafts.Draft.add_all.Goals as goal

pub add_statement-requires-clause-few : goal.add_statement-requires-clause-few
add_statement-requires-clause-few c =
    let rest : List Statement = drop (c.loop-statement.statement-index + 1) c.args.statements.now in
    let next = drop_more c.args.statements.now c.loop-statement.statement-index c.statement-item.result c.loop-statement-test.true ∙ ap (λ s. s ∷ rest) (sym c.statement-item.is) in
    let all = ap length (sym (ap (with_names operators_in c.loop-statement.draft.names) next) ∙ c.loop-statement.invariant.texts) in
    let grown = grown-names operators_in (with_texts c.loop-statement.draft.names (operators_in c.statement-item.result)) rest in
    let few = c.requires.few in
    omega arith

pub loop-statement-preserved : goal.loop-statement-preserved
loop-statement-preserved c =
    let rest : List Statement = drop (c.loop-statement.statement-index + 1) c.args.statements.now in
    let next = drop_more c.args.statements.now c.loop-statement.statement-index c.statement-item.result c.loop-statement-test.true ∙ ap (λ s. s ∷ rest) (sym c.statement-item.is) in
    let made = c.in_ok-draft.ensures in
    record {
      left = ap (λ d. with_all_operators c.args.v.now d rest) made ∙ ap (with_all_operators c.args.v.now c.loop-statement.draft) (sym next) ∙ c.loop-statement.invariant.left;
      texts =
          ap (λ (d : Draft). with_names operators_in d.names rest) made
          ∙ ap (λ ts. with_names operators_in ts rest) (statement-names c.args.v.now c.requires.ops c.loop-statement.draft c.statement-item.result)
          ∙ ap (with_names operators_in c.loop-statement.draft.names) (sym next)
          ∙ c.loop-statement.invariant.texts;
      sorts =
          ap (λ (d : Draft). d.collected.sorts) made
          ∙ ap (λ (b : Collected). b.sorts) (statement-others c.args.v.now c.requires.ops c.loop-statement.draft c.statement-item.result)
          ∙ c.loop-statement.invariant.sorts;
    }
