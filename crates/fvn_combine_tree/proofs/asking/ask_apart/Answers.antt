-- The pair is kept apart, and the state is closed again.
use Rattle.std.proofs.Common.{◌≡◌, ℕ, ◌<◌, [], ◌∷◌, ◌++◌, length, ap, ◌∙◌, subst, All}
use Rattle.std.proofs.lemmas.List.Elements.{All-nil, All-cons}
use Rattle.fvn_base.proofs.Membership.{contains_here}
use Rattle.fvn_combine_nodes.specs.declared.state.State.{State}
use Rattle.fvn_combine_tree.specs.inner.Chains.{HasRoom}
use Rattle.fvn_combine_tree.proofs.Starting.{parted_naming, parted_sides, apart_is, one_apart}
use Rattle.fvn_combine_tree.proofs.asking.ask_apart.Goals as goal
use Rattle.fvn_combine_tree.proofs.asking.ask_apart.Goals.{In_ok-push}

-- the state with one more pair
abbrev parted : (c : goal.In_ok-push) → State
parted c = record { names = c.in_ok-closing.closing.names.items; apart = c.push.new.self.items }

names_are : (c : goal.In_ok-push) → (parted c).names ≡ c.args.state.now.names
names_are c = ap (λ (s : State). s.names) c.in_ok-closing.ensures

apart_are : (c : goal.In_ok-push) → (parted c).apart ≡ c.args.state.now.apart ++ (c.args.i, c.args.j) ∷ []
apart_are c = c.in_ok-push.ensures.items ∙ ap (λ (s : State). s.apart ++ (c.args.i, c.args.j) ∷ []) c.in_ok-closing.ensures

-- the nodes of the pair
within : (c : goal.In_ok-push) → All (λ (p : ℕ × ℕ). (p.0 < length c.args.table.now.nodes) × (p.1 < length c.args.table.now.nodes)) ((c.args.i, c.args.j) ∷ [])
within c =
    let P = λ (p : ℕ × ℕ). (p.0 < length c.args.table.now.nodes) × (p.1 < length c.args.table.now.nodes) in
    All-cons P (c.args.i, c.args.j) [] (c.requires.left, c.requires.right) (All-nil P)

pub close-left-requires : goal.close-left-requires
close-left-requires c =
    let at = (goal.at.close-left-requires c).In_ok-push in
    record {
      naming = parted_naming c.args.sig.now c.args.table.now c.args.state.now c.requires.closed ((c.args.i, c.args.j) ∷ []) (within at) (parted at) (names_are at) (apart_are at);
      whole = ap length (names_are at) ∙ c.requires.closed.whole;
      sides = parted_sides c.args.sig.now c.args.table.now c.args.state.now c.requires.closed ((c.args.i, c.args.j) ∷ []) (within at) (parted at) (names_are at) (apart_are at);
      room = subst (λ n. HasRoom n c.in_ok-chains.chains) (ap length c.nodes.ensures) c.in_ok-chains.ensures;
    }

pub returns : goal.returns
returns c =
    let at = (goal.at.returns c).In_ok-push in
    one_apart c.args.sig.now c.args.table.now c.args.state.now c.args.i c.args.j c.close-left.result
    (apart_is c.args.sig.now c.args.table.now c.args.state.now c.requires.closed ((c.args.i, c.args.j) ∷ []) (within at) (parted at) (names_are at) (apart_are at) c.args.i c.args.j (contains_here (c.args.i, c.args.j) []) c.requires.open c.close-left.result c.close-left.ensures)
