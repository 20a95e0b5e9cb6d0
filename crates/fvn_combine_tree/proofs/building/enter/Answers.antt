-- The node is there, or it comes to the end.
use Rattle.std.proofs.Common.{[], ◌∷◌, ◌++◌, slice_get, refl, sym, ap, ◌∙◌, inl, inr}
use Rattle.fvn_combine_tree.proofs.Entering.{slice_get-push}
use Rattle.fvn_combine_tree.proofs.building.enter.Goals as goal

pub returns-in-Some : goal.returns-in-Some
returns-in-Some c = record { at = ap (λ ns. slice_get ns c.in-Some.i) (sym c.as_slice.ensures.value) ∙ c.in-Some.ensures; how = inl refl }

pub returns-in_ok-push-in-None : goal.returns-in_ok-push-in-None
returns-in_ok-push-in-None c =
    let items = c.args.nodes.now.items in
    let n = c.args.node in
    let grown = c.in_ok-push-in-None.ensures.items in
    let last = c.len-place.ensures ∙ c.args.nodes.now.ok.0 in
    record {
      at = ap (λ ns. slice_get ns c.len-place.result) grown ∙ ap (slice_get (items ++ n ∷ [])) last ∙ slice_get-push items n;
      how = inr (grown, λ i e. c.in-None.ensures i (ap (λ ns. slice_get ns i) c.as_slice.ensures.value ∙ e));
    }
