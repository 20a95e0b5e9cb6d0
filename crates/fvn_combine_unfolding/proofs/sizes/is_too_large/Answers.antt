-- One more variable, and all of them.
use Rattle.std.proofs.Common.{◌≤◌, ◌<◌, ◌∙◌, [], ◌∷◌, get_or, take, refl, sym, ap, subst, All, arith}
use Rattle.std.proofs.lemmas.List.{take_more, take_all, get_or_default}
use Rattle.std.proofs.lemmas.List.Elements.{All-append, All-cons, All-nil}
use Rattle.fvn_terms.specs.declared.plain.Var.{Var}
use Rattle.fvn_combine_unfolding.specs.inner.Noted.{noted_size, noted_sizes}
use Rattle.fvn_combine_unfolding.proofs.Values.{any_variable}
use Rattle.fvn_combine_unfolding.proofs.Sizing.{too_large_at, none_too_large}
use Rattle.fvn_combine_unfolding.proofs.sizes.is_too_large.Goals as goal

pub returns-then-size-limit : goal.returns-then-size-limit
returns-then-size-limit c =
    let vars = c.args.vars.now in
    let i = c.loop-x.x-index in
    let x = get_or vars i any_variable in
    let sizes = c.in_ok-sizes.sizes.items in
    let noted = c.in_ok-sizes.ensures ∙ ap noted_sizes c.as_slice.ensures in
    let here = c.noted_size-size.ensures ∙ ap (λ l. noted_size l x) c.as_slice-in-loop-x.ensures.value in
    let over : c.args.limit < noted_size sizes x = omega (arith, here, c.if-size-limit.true) in (
      (λ t. too_large_at c.args.sig.now c.args.list.now.bindings c.requires.triangular c.requires.add_up sizes noted c.args.limit c.requires.limit vars i x c.loop-x-test.true
          (get_or_default vars i x any_variable c.loop-x-test.true) over),
      (λ a. refl),
    )

pub loop-x-preserved : goal.loop-x-preserved
loop-x-preserved c =
    let vars = c.args.vars.now in
    let i = c.loop-x.x-index in
    let x = get_or vars i any_variable in
    let P : Var → Type 0 = λ y. noted_size c.in_ok-sizes.sizes.items y ≤ c.args.limit in
    let here = c.noted_size-size.ensures ∙ ap (λ l. noted_size l x) c.as_slice-in-loop-x.ensures.value in
    let within : P x = omega (arith, here, c.if-size-limit.false) in
    subst (All P) (sym (take_more vars i any_variable c.loop-x-test.true)) (All-append P (take i vars) (x ∷ []) c.loop-x.invariant (All-cons P x [] within (All-nil P)))

pub returns : goal.returns
returns c =
    let vars = c.args.vars.now in
    let P : Var → Type 0 = λ y. noted_size c.in_ok-sizes.sizes.items y ≤ c.args.limit in
    let noted = c.in_ok-sizes.ensures ∙ ap noted_sizes c.as_slice.ensures in
    let none : All P vars = subst (All P) (take_all c.loop-x.x-index vars c.loop-x-test.false) c.loop-x.invariant in (
      (λ t. cc),
      (λ a. absurd (none_too_large c.args.sig.now c.args.list.now.bindings c.requires.triangular c.requires.add_up c.in_ok-sizes.sizes.items noted c.args.limit c.requires.limit vars none a)),
    )
