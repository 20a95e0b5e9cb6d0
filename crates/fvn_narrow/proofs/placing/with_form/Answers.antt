-- No form, none with a head, no rule under it, one that has a place, or a new one.
use Rattle.std.proofs.Common.{refl, sym, ◌∙◌, subst}
use Rattle.std.specs.Prelude.{List}
use Rattle.fvn_forms.specs.Flat.{FlatTerm}
use Rattle.fvn_narrow.specs.inner.Placing.{HasPlace}
use Rattle.fvn_narrow.proofs.Along.{read_at}
use Rattle.fvn_narrow.proofs.Posed.{no_unifiers}
use Rattle.fvn_narrow.proofs.Placed.{no_form, no_head, no_rule, has_one, one_added}
use Rattle.fvn_narrow.proofs.placing.with_form.Goals as goal

pub returns-in_default : goal.returns-in_default
returns-in_default c =
    let terms : List FlatTerm = c.args.terms.now in
    let term : FlatTerm = c.index-terms-member.result in
    no_form c.args.rules.now terms c.args.member term (read_at terms terms c.args.member term refl c.requires c.index-terms-member.is) c.args.path.now (rw c.in_default.is at c.form_at.ensures) c.args.places.items

pub returns-in_default-head : goal.returns-in_default-head
returns-in_default-head c =
    let terms : List FlatTerm = c.args.terms.now in
    let term : FlatTerm = c.index-terms-member.result in
    no_head c.args.rules.now terms c.args.member term (read_at terms terms c.args.member term refl c.requires c.index-terms-member.is) c.args.path.now
    c.in-Some.at.now (rw c.in-Some.is at c.form_at.ensures) (sym c.head.ensures ∙ c.in_default-head.is) c.args.places.items

pub returns-then-unneeded : goal.returns-then-unneeded
returns-then-unneeded c =
    let terms : List FlatTerm = c.args.terms.now in
    let term : FlatTerm = c.index-terms-member.result in
    no_rule c.args.rules.now terms c.args.member term (read_at terms terms c.args.member term refl c.requires c.index-terms-member.is) c.args.path.now
    c.in-Some.at.now (rw c.in-Some.is at c.form_at.ensures) c.in-Some-head.head (sym c.head.ensures ∙ c.in-Some-head.is)
    (sym c.headed.ensures ∙ no_unifiers c.headed.result.now (sym c.is_empty-unneeded.ensures ∙ c.if-unneeded.true)) c.args.places.items

pub returns-then-placed : goal.returns-then-placed
returns-then-placed c =
    let terms : List FlatTerm = c.args.terms.now in
    let term : FlatTerm = c.index-terms-member.result in
    has_one c.args.rules.now terms c.args.member term (read_at terms terms c.args.member term refl c.requires c.index-terms-member.is) c.args.path.now
    c.in-Some.at.now (rw c.in-Some.is at c.form_at.ensures) c.args.places.items
    (subst (λ l. HasPlace l c.in-Some.at.now) c.as_slice.ensures.value (c.is_placed-placed.ensures c.if-placed.true))

pub returns : goal.returns
returns c =
    let terms : List FlatTerm = c.args.terms.now in
    let term : FlatTerm = c.index-terms-member.result in
    one_added c.args.rules.now terms c.args.member term (read_at terms terms c.args.member term refl c.requires c.index-terms-member.is) c.args.path.now
    c.in-Some.at.now (rw c.in-Some.is at c.form_at.ensures) c.in-Some-head.head (sym c.head.ensures ∙ c.in-Some-head.is)
    c.args.places.items c.push.new.self.items
    record { member = c.args.member; path = c.in_ok-copy.copy; at = c.in-Some.at; head = c.in-Some-head.head; size = c.size-size.result }
    c.in_ok-push.ensures.items refl c.in_ok-copy.ensures refl refl
