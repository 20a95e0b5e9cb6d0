-- The variable that is given something reducible.
use Rattle.std.proofs.lemmas.List.Elements.{All-get_or, Contains-get_or}
use Rattle.fvn_terms.specs.declared.plain.Var.{Var}
use Rattle.fvn_terms.specs.Signature.{IsSort}
use Rattle.fvn_narrow_children.proofs.values.some_moved.Goals as goal

pub is_reducible-requires : goal.is_reducible-requires
is_reducible-requires c = record {
  sort = All-get_or (λ (x : Var). IsSort c.args.rewriter.now.signature x.sort) c.args.names.now c.loop-y.y-index _ c.loop-y-test.true c.requires.sorts;
  values = c.requires.values;
}

pub returns-then-found : goal.returns-then-found
returns-then-found c h = record {
  variable = _;
  listed = Contains-get_or c.args.names.now c.loop-y.y-index _ c.loop-y-test.true;
  reducible = rw c.if-found.true at c.in_ok-found.ensures;
}
