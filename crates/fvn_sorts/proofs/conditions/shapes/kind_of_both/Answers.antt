-- Whether the two arguments have one kind.
use Rattle.std.proofs.Common.{[], ◌∷◌, length, refl, sym, ap, ◌∙◌}
use Rattle.std.proofs.lemmas.Bool.{false≢true, eq-eqb}
use Rattle.fvn_terms.specs.declared.plain.SortId.{SortId}
use Rattle.fvn_terms.specs.Signature.{kind}
use Rattle.fvn_signature_draft.specs.Collected.{completed, meant_or_kind}
use Rattle.fvn_sorts.proofs.ShapeLemmas.{kinds_of_two, two_long, same_two}
use Rattle.fvn_forms.proofs.SortTests.{same_sort-true}
use Rattle.fvn_sorts.proofs.conditions.shapes.kind_of_both.Goals as goal

pub returns-then-args-ne2 : goal.returns-then-args-ne2
returns-then-args-ne2 c w = c.if-args-ne2.true (ap (λ l. length l) c.as_slice-args.ensures ∙ two_long (kind (completed c.args.collected.now)) (meant_or_kind c.args.collected.now c.args.declaration.now.partial) c.args.declaration.now.rank.args w.0 w.0 w.1)

pub returns-then-eq : goal.returns-then-eq
returns-then-eq c =
    let first = c.kind_meant-first.result in
    let second = c.kind_meant-second.result in
    kinds_of_two (kind (completed c.args.collected.now)) (meant_or_kind c.args.collected.now c.args.declaration.now.partial) c.as_slice-args.result.now c.args.declaration.now.rank.args first second c.as_slice-args.ensures c.if-args-ne2.false c.kind_meant-first.ensures c.kind_meant-second.ensures
    ∙ ap (λ k. first ∷ k ∷ []) (sym (same_sort-true first second (sym c.if-eq.ensures)))

pub returns-else-eq : goal.returns-else-eq
returns-else-eq c w =
    let first = c.kind_meant-first.result in
    let second = c.kind_meant-second.result in
    let two = kinds_of_two (kind (completed c.args.collected.now)) (meant_or_kind c.args.collected.now c.args.declaration.now.partial) c.as_slice-args.result.now c.args.declaration.now.rank.args first second c.as_slice-args.ensures c.if-args-ne2.false c.kind_meant-first.ensures c.kind_meant-second.ensures in
    false≢true (c.if-eq.ensures ∙ eq-eqb first.0 second.0 (ap (λ (s : SortId). s.0) (same_two (sym two ∙ w.1) refl)))
