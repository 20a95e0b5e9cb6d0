-- One more way.
use Rattle.std.proofs.Common.{◌≡◌, ◌∙◌, length, get_or, sym, ap, Some, slice_get}
use Rattle.std.proofs.lemmas.Option.{slice_get-get_or}
use Rattle.fvn_purify.specs.Parts.{outline}
use Rattle.fvn_purify.proofs.Stepped.{way_step}
use Rattle.fvn_purify.proofs.stepping.step_way.Goals as goal

pub returns : goal.returns
returns c =
    let pairs = c.args.classes.now.places.pairs in
    let n = length c.args.leaf.now.swaps in
    let p = get_or c.as_slice.result.now c.len.result (0, 0) in
    let at : slice_get pairs n ≡ Some p = slice_get-get_or pairs n (0, 0) c.requires.more ∙ ap (λ l. Some (get_or l n (0, 0))) (sym c.as_slice.ensures) ∙ ap (λ m. Some (get_or c.as_slice.result.now m (0, 0))) (sym c.len.ensures) in
    way_step c.args.sig.now (outline c.args.classes.now) c.requires.fit c.args.leaf.now c.requires.leaf p at c.in_ok-options.options.items c.as_slice-2.result.now c.in_ok-options.ensures c.as_slice-2.ensures.value c.in_ok-list.list c.in_ok-list.ensures c.requires.more
