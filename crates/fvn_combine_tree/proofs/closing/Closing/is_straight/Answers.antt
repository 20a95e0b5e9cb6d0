-- The first test that holds decides.
use Rattle.std.proofs.Common.{sym, ◌∙◌}
use Rattle.fvn_combine_nodes.specs.States.{is_same, is_apart}
use Rattle.fvn_combine_nodes.specs.declared.state.State.{State}
use Rattle.fvn_combine_tree.specs.inner.Closing.{state_of}
use Rattle.fvn_combine_tree.proofs.Alike.{first_of_four, second_of_four, third_of_four, last_of_four}
use Rattle.fvn_combine_tree.proofs.closing.Closing.is_straight.Goals as goal

pub returns-then-is_same : goal.returns-then-is_same
returns-then-is_same c =
    let s : State = state_of c.args.self.now in
    first_of_four (is_same s c.args.a c.args.v) (is_same s c.args.b c.args.w) (is_apart s c.args.a c.args.w) (is_apart s c.args.b c.args.v) (sym c.is_same.ensures ∙ c.if-is_same.true)

pub returns-then-is_same-2 : goal.returns-then-is_same-2
returns-then-is_same-2 c =
    let s : State = state_of c.args.self.now in
    second_of_four (is_same s c.args.a c.args.v) (is_same s c.args.b c.args.w) (is_apart s c.args.a c.args.w) (is_apart s c.args.b c.args.v) (sym c.is_same.ensures ∙ c.if-is_same.false) (sym c.is_same-2.ensures ∙ c.if-is_same-2.true)

pub returns-then-is_apart : goal.returns-then-is_apart
returns-then-is_apart c =
    let s : State = state_of c.args.self.now in
    third_of_four (is_same s c.args.a c.args.v) (is_same s c.args.b c.args.w) (is_apart s c.args.a c.args.w) (is_apart s c.args.b c.args.v) (sym c.is_same.ensures ∙ c.if-is_same.false) (sym c.is_same-2.ensures ∙ c.if-is_same-2.false) (sym c.is_apart.ensures ∙ c.if-is_apart.true)

pub returns : goal.returns
returns c =
    let s : State = state_of c.args.self.now in
    c.is_apart-2.ensures
    ∙ last_of_four (is_same s c.args.a c.args.v) (is_same s c.args.b c.args.w) (is_apart s c.args.a c.args.w) (is_apart s c.args.b c.args.v) (sym c.is_same.ensures ∙ c.if-is_same.false) (sym c.is_same-2.ensures ∙ c.if-is_same-2.false) (sym c.is_apart.ensures ∙ c.if-is_apart.false)
