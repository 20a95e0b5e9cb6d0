-- What is left stands in place of the top.
use Rattle.std.proofs.Common.{◌≡◌, ℕ, ◌-◌, [], ◌++◌, length, take, get_or, slice_get, refl, sym, ap, ◌∙◌, subst, arith}
use Rattle.std.specs.Option.{option_to_list}
use Rattle.std.proofs.lemmas.List.{length_push, get_or_push, append-nil}
use Rattle.fvn_combine_nodes.specs.States.{IsClosed, IsOpen}
use Rattle.fvn_combine_tree.specs.Questions.{IsAnswer}
use Rattle.fvn_combine_tree.specs.Trees.{AreKeptApart}
use Rattle.fvn_combine_tree.proofs.Growing.{taken_on_is, taken_on_closed, taken_on_ordered, taken_on_falls, last_is}
use Rattle.fvn_combine_tree.proofs.tree.Tree.part_all.Goals as goal
use Rattle.fvn_combine_tree.proofs.tree.Tree.part_all.Goals.{In-Some}

-- the top is the last state
top_is : (c : goal.In-Some) → c.in-Some.top.now ≡ c.requires.some_open.3.top
top_is c =
    let states = c.args.self.now in
    let items = c.as_slice.ensures.value ∙ c.self.view_is in
    last_is states c.requires.some_open.3.below c.requires.some_open.3.top c.in-Some.top.now c.requires.some_open.3.is (c.in-Some.ensures.value ∙ ap (λ l. slice_get l (length l - 1)) items)

pub ask_all_apart-requires : goal.ask_all_apart-requires
ask_all_apart-requires c =
    let same = top_is (goal.at.ask_all_apart-requires c).In-Some in
    let one = c.requires.some_open in
    let states = c.args.self.now in
    let below = c.requires.some_open.3.below in
    let top = c.requires.some_open.3.top in
    let n = ap length c.requires.some_open.3.is ∙ length_push below top in
    let there : get_or states (length below) top ≡ top = ap (λ l. get_or l (length below) top) c.requires.some_open.3.is ∙ get_or_push below top top (length below) refl in
    let closed : IsClosed c.args.sig.now c.args.table.now top = subst (IsClosed c.args.sig.now c.args.table.now) there (c.requires.closed (length below) top (omega arith)) in
    record {
      closed = subst (IsClosed c.args.sig.now c.args.table.now) (sym same) closed;
      within = c.requires.within;
      some_open = (one.0, one.1, one.2, subst (λ s. IsOpen s one.0 one.1) (sym same) one.3.open_there);
    }

pub replace_top-requires : goal.replace_top-requires
replace_top-requires c = let n = ap length (c.self.view_is ∙ c.requires.some_open.3.is) ∙ length_push c.requires.some_open.3.below c.requires.some_open.3.top in omega arith

pub returns : goal.returns
returns c =
    let d = c.args.sig.now in
    let t = c.args.table.now in
    let Holds : (ℕ → ℕ) → Type 0 = AreKeptApart c.args.pairs.now in
    let below = c.requires.some_open.3.below in
    let top = c.requires.some_open.3.top in
    let r = c.in_ok-left-in-Some.left in
    let answer : IsAnswer d t top Holds r = subst (λ s. IsAnswer d t s Holds r) (top_is (goal.at.returns c).In-Some) c.in_ok-left-in-Some.ensures in
    let before = c.args.self.now in
    let after = c.replace_top.new.states.items in
    let is : after ≡ take (length before - 1) before ++ option_to_list r = c.in_ok-replace_top.ensures.ok ∙ ap (λ l. take (length l - 1) l ++ (option_to_list r ++ [])) c.self.view_is ∙ ap (λ l. take (length before - 1) before ++ l) (append-nil (option_to_list r)) in
    record {
      parted = taken_on_is d t top Holds r answer before after below c.requires.some_open.3.is is;
      closed = taken_on_closed d t top Holds r answer before after below c.requires.some_open.3.is is c.requires.closed;
      ordered = taken_on_ordered d t top Holds r answer before after below c.requires.some_open.3.is is;
      falls = taken_on_falls d t top Holds r answer before after below c.requires.some_open.3.is is;
      no_memory = tt;
    }
