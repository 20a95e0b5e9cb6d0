-- The top is taken out, if there is one.
use Rattle.std.proofs.Common.{◌≡◌, ℕ, ◌+◌, length, Option, Some, None, sym, ◌∙◌}
use Rattle.std.specs.Prelude.{MatchOption}
use Rattle.fvn_combine_nodes.specs.declared.state.State.{State}
use Rattle.fvn_combine_tree.proofs.Growing.{taken, taken_falls, taken_ordered}
use Rattle.fvn_combine_tree.proofs.tree.Tree.take_top.Goals as goal

emptied : (r : Option State) (n m k : ℕ) → k ≡ m → MatchOption r ((n ≡ 0) × (k ≡ 0)) (λ _. k + 1 ≡ n) → MatchOption r (m ≡ 0) (λ s. Unit {0})
emptied None n m k e h = sym e ∙ h.1
emptied (Some s) n m k e h = tt

pub returns : goal.returns
returns c =
    let is = sym c.self.view_is ∙ c.pop.ensures.items in
    let none = emptied c.pop.result c.self.inside.states.len (length c.pop.new.self.items) c.pop.new.self.len c.pop.new.self.ok.0 c.pop.ensures.cases in
    record {
      taken = taken c.args.self.now c.pop.new.self.items c.pop.result is none;
      falls = taken_falls c.args.self.now c.pop.new.self.items c.pop.result is;
      ordered = taken_ordered c.args.self.now c.pop.new.self.items c.pop.result is;
    }
