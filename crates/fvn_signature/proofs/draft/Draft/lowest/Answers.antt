-- The first least result, by where going down the results ends.
use Rattle.std.proofs.Common.{sym, ◌∙◌}
use Rattle.fvn_forms.specs.Ranks.{results}
use Rattle.fvn_signature.proofs.Lowered.{none_lowest, not_lowest, first_lowest}
use Rattle.fvn_signature.proofs.draft.Draft.lowest.Goals as goal

pub returns-in-None : goal.returns-in-None
returns-in-None c =
    let d = c.args.self.now.declarations in
    sym (none_lowest d (results d c.args.ranks.now c.args.args.now) (sym c.in-None.ensures))

pub returns-then-not-is_lowest : goal.returns-then-not-is_lowest
returns-then-not-is_lowest c =
    let d = c.args.self.now.declarations in
    sym (not_lowest d (results d c.args.ranks.now c.args.args.now) c.in-Some.sort (sym c.in-Some.ensures) (sym c.if-not-is_lowest.ensures))

pub returns : goal.returns
returns c =
    let d = c.args.self.now.declarations in
    c.first_below.ensures ∙ first_lowest d (results d c.args.ranks.now c.args.args.now) c.in-Some.sort (sym c.in-Some.ensures) (sym c.if-not-is_lowest.ensures)
