-- The answers stand in place of the top.
use Rattle.std.proofs.Common.{◌≡◌, ◌-◌, ◌++◌, length, take, get_or, slice_get, refl, sym, ap, ◌∙◌, subst, arith}
use Rattle.std.proofs.lemmas.List.{length_push, get_or_push}
use Rattle.fvn_combine_nodes.specs.States.{IsClosed, IsOpen}
use Rattle.fvn_combine_tree.specs.Questions.{AreAnswers}
use Rattle.fvn_combine_tree.specs.inner.Starts.{listed}
use Rattle.fvn_combine_tree.proofs.Growing.{asked_is, asked_closed, asked_ordered, asked_falls, last_is}
use Rattle.fvn_combine_tree.proofs.tree.Tree.ask.Goals as goal
use Rattle.fvn_combine_tree.proofs.tree.Tree.ask.Goals.{In-Some}

-- the top is the last state
top_is : (c : goal.In-Some) → c.in-Some.top.now ≡ c.requires.open.top
top_is c =
    let states = c.args.self.now in
    let items = c.as_slice.ensures.value ∙ c.self.view_is in
    last_is states c.requires.open.below c.requires.open.top c.in-Some.top.now c.requires.open.is (c.in-Some.ensures.value ∙ ap (λ l. slice_get l (length l - 1)) items)

pub ask-requires : goal.ask-requires
ask-requires c =
    let same = top_is (goal.at.ask-requires c).In-Some in
    let states = c.args.self.now in
    let below = c.requires.open.below in
    let top = c.requires.open.top in
    let n = ap length c.requires.open.is ∙ length_push below top in
    let there : get_or states (length below) top ≡ top = ap (λ l. get_or l (length below) top) c.requires.open.is ∙ get_or_push below top top (length below) refl in
    let closed : IsClosed c.args.sig.now c.args.table.now top = subst (IsClosed c.args.sig.now c.args.table.now) there (c.requires.closed (length below) top (omega arith)) in
    record {
      closed = subst (IsClosed c.args.sig.now c.args.table.now) (sym same) closed;
      left = c.requires.left;
      right = c.requires.right;
      «open» = subst (λ s. IsOpen s c.args.i c.args.j) (sym same) c.requires.open.open_there;
    }

pub replace_top-requires : goal.replace_top-requires
replace_top-requires c = let n = ap length (c.self.view_is ∙ c.requires.open.is) ∙ length_push c.requires.open.below c.requires.open.top in omega arith

pub returns : goal.returns
returns c =
    let d = c.args.sig.now in
    let t = c.args.table.now in
    let below = c.requires.open.below in
    let top = c.requires.open.top in
    let a = c.in_ok-answers-in-Some.answers in
    let are : AreAnswers d t top c.args.i c.args.j a = subst (λ s. AreAnswers d t s c.args.i c.args.j a) (top_is (goal.at.returns c).In-Some) c.in_ok-answers-in-Some.ensures in
    let before = c.args.self.now in
    let after = c.replace_top.new.states.items in
    let is : after ≡ take (length before - 1) before ++ listed a = c.in_ok-replace_top.ensures.ok ∙ ap (λ l. take (length l - 1) l ++ listed a) c.self.view_is in
    record {
      asked = asked_is d t top c.args.i c.args.j a are before after below c.requires.open.is is;
      closed = asked_closed d t top c.args.i c.args.j a are before after below c.requires.open.is is c.requires.closed;
      ordered = asked_ordered d t top c.args.i c.args.j a are before after below c.requires.open.is is c.requires.left c.requires.right;
      falls = asked_falls d t top c.args.i c.args.j a are before after below c.requires.open.is is;
      no_memory = tt;
    }
