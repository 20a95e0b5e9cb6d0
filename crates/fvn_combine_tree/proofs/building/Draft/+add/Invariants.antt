-- The terms so far are walked through.
use Rattle.std.proofs.Common.{◌≡◌, ◌<◌, length, map, take, All}
use Rattle.fvn_terms.specs.Term.{pack}
use Rattle.fvn_terms.specs.Plain.{terms}
use Rattle.fvn_flat.specs.Problems.{subterms_among}
use Rattle.fvn_combine_nodes.specs.Table.{term_at}
use Rattle.fvn_combine_tree.specs.inner.Drafts.{AreNodes, HasWalked}
use Rattle.fvn_combine_tree.proofs.building.Draft.+add.Given as goal

abbrev pub invariant-add_all-loop-u : goal.invariant-add_all-loop-u
invariant-add_all-loop-u l = record {
  nodes : AreNodes l.self.nodes.items;
  walked : HasWalked l.initial.self l.self (subterms_among (terms (take l.u-index l.u-items)));
  within : All (λ k. k < length l.self.nodes.items) l.kids.items;
  are : pack (map (term_at l.self.nodes.items) l.kids.items) ≡ terms (take l.u-index l.u-items);
}
