-- The sort itself, where it is a kind.
use Rattle.std.proofs.Common.{◌++◌, [], ◌∷◌, Bool, sym, ap, ◌∙◌}
use Rattle.std.specs.Prelude.{if◌then◌else◌, filter}
use Rattle.std.proofs.lemmas.List.{append-nil}
use Rattle.fvn_terms.specs.declared.plain.SortId.{SortId}
use Rattle.fvn_forms.specs.SortOrder.{at_or_below}
use Rattle.fvn_signature.specs.FirstSorts.{first_sorts}
use Rattle.fvn_cohere.proofs.identities.sorts_below.Goals as goal

pub returns-then-is_declared : goal.returns-then-is_declared
returns-then-is_declared c =
    let d = c.args.sig.now in
    let declared = filter (λ (q : SortId). at_or_below d q c.args.s) (first_sorts d.sorts) in
    c.in_ok-all.ensures ∙ sym (ap (λ (b : Bool). declared ++ (if b then [] else c.args.s ∷ [])) (sym c.is_declared.ensures ∙ c.if-is_declared.true) ∙ append-nil declared)

pub returns : goal.returns
returns c =
    let d = c.args.sig.now in
    let declared = filter (λ (q : SortId). at_or_below d q c.args.s) (first_sorts d.sorts) in
    c.in_ok-push.ensures.items ∙ ap (λ l. l ++ c.args.s ∷ []) c.in_ok-all.ensures ∙ sym (ap (λ (b : Bool). declared ++ (if b then [] else c.args.s ∷ [])) (sym c.is_declared.ensures ∙ c.if-is_declared.false))
