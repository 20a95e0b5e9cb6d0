-- One more class.
use Rattle.std.proofs.Common.{◌≡◌, take, get_or, [], ◌∷◌, ◌++◌, sym, ap, ◌∙◌, subst}
use Rattle.std.proofs.lemmas.Bool.{false≢true}
use Rattle.std.proofs.lemmas.List.{take_more}
use Rattle.fvn_combine_nodes.specs.States.{class_of}
use Rattle.fvn_combine_systems.specs.NodeSystems.{IsIdentityClass}
use Rattle.fvn_combine_reading.specs.inner.Collecting.{AreOnce}
use Rattle.fvn_combine_nodes.proofs.Lists.{has, has-contains, contains-has}
use Rattle.fvn_combine_reading.proofs.Collected.{once_new, once_old, once_left}
use Rattle.fvn_combine_reading.proofs.columns.once.Goals as goal

pub loop-k-preserved-then-contains : goal.loop-k-preserved-then-contains
loop-k-preserved-then-contains c =
    let i = c.loop-k.k-index in
    let list = c.args.classes.now in
    let k = get_or list i 0 in
    let once = c.loop-k.once.items in
    let Left = IsIdentityClass c.args.table.now (class_of c.args.state.now) c.args.f in
    let test : c.contains.result ≡ has k once = c.contains.ensures.value ∙ ap (has k) c.as_slice.ensures.value in
    subst (λ l. AreOnce Left l once) (sym (take_more list i 0 c.loop-k-test.true)) (once_old Left (take i list) once k c.loop-k.invariant (has-contains k once (sym test ∙ c.if-contains.true)))

pub loop-k-preserved-then-is_identity_class : goal.loop-k-preserved-then-is_identity_class
loop-k-preserved-then-is_identity_class c =
    let i = c.loop-k.k-index in
    let list = c.args.classes.now in
    let k = get_or list i 0 in
    let once = c.loop-k.once.items in
    let Left = IsIdentityClass c.args.table.now (class_of c.args.state.now) c.args.f in
    subst (λ l. AreOnce Left l once) (sym (take_more list i 0 c.loop-k-test.true)) (once_left Left (take i list) once k c.loop-k.invariant (c.is_identity_class.ensures.0 c.if-is_identity_class.true))

pub loop-k-preserved : goal.loop-k-preserved
loop-k-preserved c =
    let i = c.loop-k.k-index in
    let list = c.args.classes.now in
    let k = get_or list i 0 in
    let once = c.loop-k.once.items in
    let Left = IsIdentityClass c.args.table.now (class_of c.args.state.now) c.args.f in
    let test : c.contains.result ≡ has k once = c.contains.ensures.value ∙ ap (has k) c.as_slice.ensures.value in
    let more = once_new Left (take i list) once k c.loop-k.invariant
    (λ there. false≢true (sym c.if-contains.false ∙ test ∙ contains-has k once there))
    (λ left. false≢true (sym c.if-is_identity_class.false ∙ c.is_identity_class.ensures.1 left))
    in
    subst (λ l. AreOnce Left l c.push.new.self.items) (sym (take_more list i 0 c.loop-k-test.true)) (subst (AreOnce Left (take i list ++ k ∷ [])) (sym c.in_ok-push.ensures.items) more)
