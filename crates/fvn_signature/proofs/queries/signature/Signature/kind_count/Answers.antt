-- There are as many kinds as sorts and kinds together, less the sorts.
use Rattle.std.proofs.Common.{◌≡◌, ap, arith, length}
use Rattle.fvn_terms.specs.declared.declarations.Declarations.{Declarations}
use Rattle.fvn_signature.proofs.queries.signature.Signature.kind_count.Goals as goal

pub overflow_sub-result : goal.overflow_sub-result
overflow_sub-result c = let more = c.self.inside.draft.sound.more in omega arith

pub returns : goal.returns
returns c =
    let more = c.self.inside.draft.sound.more in
    let total = c.self.inside.draft.sound.total in
    let kinds : length c.self.inside.draft.declarations.kinds ≡ length c.args.self.now.kinds = ap (λ (d : Declarations). length d.kinds) c.self.view_is in
    let sorts : c.self.inside.draft.declarations.sorts ≡ c.args.self.now.sorts = ap (λ (d : Declarations). d.sorts) c.self.view_is in
    omega arith
