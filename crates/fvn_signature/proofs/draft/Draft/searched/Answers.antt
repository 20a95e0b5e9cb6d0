-- A search among an operator's ranks gives its result.
use Rattle.std.proofs.Common.{◌≡◌, ap, ◌∙◌, List, Option}
use Rattle.std.specs.Prelude.{find, unwrap_or}
use Rattle.fvn_terms.specs.declared.plain.OpId.{OpId}
use Rattle.fvn_terms.specs.declared.plain.SortId.{SortId}
use Rattle.fvn_terms.specs.declared.declarations.Rank.{Rank}
use Rattle.fvn_terms.specs.declared.declarations.Declarations.{Declarations}
use Rattle.fvn_terms.specs.Signature.{declared}
use Rattle.fvn_forms.specs.Ranks.{ranks_of, results, is_lowest, first_result, result}
use Rattle.fvn_signature.proofs.draft.Draft.searched.Goals as goal

-- the lowest of the results, and else the first declared rank's
found_or_first : (d : Declarations) (f : OpId) (ss : List SortId) (ranks : List Rank) (found : Option SortId) → found ≡ find (is_lowest d (results d ranks ss)) (results d ranks ss) → ranks ≡ ranks_of d f → unwrap_or found (first_result d (declared d f).ranks) ≡ result d f ss
unfolding result
found_or_first d f ss ranks found sought all =
    let default = first_result d (declared d f).ranks in
    ap (λ o. unwrap_or o default) sought ∙ ap (λ l. unwrap_or (find (is_lowest d (results d l ss)) (results d l ss)) default) all

pub returns-in-Some : goal.returns-in-Some
returns-in-Some c = found_or_first c.args.self.now.declarations c.args.op c.args.args.now _ _ c.in-Some.ensures c.ranks_of.ensures

pub returns-in-None : goal.returns-in-None
returns-in-None c = c.first_kind.ensures ∙ found_or_first c.args.self.now.declarations c.args.op c.args.args.now _ _ c.in-None.ensures c.ranks_of.ensures
