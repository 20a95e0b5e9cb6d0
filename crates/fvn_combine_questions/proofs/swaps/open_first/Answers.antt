-- Two and two nodes, whose first are open.
use Rattle.std.proofs.Common.{◌≡◌, true, false, get_or, sym, ◌∙◌, subst, inl, inr}
use Rattle.fvn_combine_nodes.specs.Classes.{MeetEitherWay}
use Rattle.fvn_combine_nodes.specs.States.{class_of, is_open, IsOpen}
use Rattle.fvn_combine_nodes.proofs.Lists.{two_items}
use Rattle.fvn_combine_questions.proofs.Swapping.{crosswise, neither_way}
use Rattle.fvn_combine_questions.proofs.swaps.open_first.Goals as goal

pub returns-then-are_crosswise : goal.returns-then-are_crosswise
returns-then-are_crosswise c a b v w p q =
    let s = c.args.state.now in
    let ks = c.args.ks.now in
    let ls = c.args.ls.now in
    let m = crosswise s (get_or ks 0 0) (get_or ks 1 0) (get_or ls 0 0) (get_or ls 1 0) (sym c.are_crosswise.ensures ∙ c.if-are_crosswise.true) in
    inl (subst (λ ns. MeetEitherWay (class_of s) (get_or ns 0 0) (get_or ns 1 0) v w) p (subst (λ ns. MeetEitherWay (class_of s) (get_or ks 0 0) (get_or ks 1 0) (get_or ns 0 0) (get_or ns 1 0)) q m))

pub returns-then-is_open : goal.returns-then-is_open
returns-then-is_open c =
    let s = c.args.state.now in
    let ks = c.args.ks.now in
    let ls = c.args.ls.now in
    let o : IsOpen s (get_or ks 0 0) (get_or ls 0 0) = sym c.is_open.ensures ∙ c.if-is_open.true in (
      get_or ks 1 0,
      get_or ls 1 0,
      two_items ks c.if-ks-ne2.false,
      two_items ls c.if-ls-ne2.false,
      o,
      neither_way s (get_or ks 0 0) (get_or ks 1 0) (get_or ls 0 0) (get_or ls 1 0) o (sym c.are_crosswise.ensures ∙ c.if-are_crosswise.false),
    )

pub returns : goal.returns
returns c a b v w p q = inr (λ o.
    let s = c.args.state.now in
    let ks = c.args.ks.now in
    let ls = c.args.ls.now in
    let there : is_open s (get_or ks 0 0) (get_or ls 0 0) ≡ true = subst (λ ns. is_open s (get_or ns 0 0) (get_or ls 0 0) ≡ true) (sym p) (subst (λ ns. is_open s a (get_or ns 0 0) ≡ true) (sym q) o) in
    let z : true ≡ false = sym there ∙ sym c.is_open.ensures ∙ c.if-is_open.false in
    cc)
