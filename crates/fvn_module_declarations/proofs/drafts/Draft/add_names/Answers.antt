-- There are no more names than will be.
use Rattle.std.proofs.Common.{◌+◌, ◌∷◌, length, drop, sym, ap, ◌∙◌, arith}
use Rattle.std.proofs.lemmas.List.{drop_more}
use Rattle.fvn_syntax.specs.Texts.{with_text}
use Rattle.fvn_module_names.specs.Names.{with_texts}
use Rattle.fvn_module_names.proofs.TextCounts.{grown-texts}
use Rattle.fvn_module_declarations.proofs.drafts.Draft.add_names.Goals as goal

pub add-requires-clause-few : goal.add-requires-clause-few
add-requires-clause-few c =
    let next = drop_more c.args.names.now c.loop-name.name-index c.name-item.result c.loop-name-test.true ∙ ap (λ w. w ∷ drop (c.loop-name.name-index + 1) c.args.names.now) (sym c.name-item.is) in
    let all = ap length (sym (ap (with_texts c.loop-name.draft.names) next) ∙ c.loop-name.invariant.texts) in
    let grown = grown-texts (with_text c.loop-name.draft.names c.name-item.result) (drop (c.loop-name.name-index + 1) c.args.names.now) in
    let same = ap (λ w. length (with_text c.loop-name.draft.names w)) c.as_slice.ensures in
    let few = c.requires.few in
    omega arith
