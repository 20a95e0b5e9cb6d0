-- The list kept at a sort is that of its direct subsorts.
use Rattle.std.proofs.Common.{◌≡◌, ◌<◌, ◌≤◌, ℕ, List, length, map, ap, ◌∙◌, arith}
use Rattle.fvn_terms.specs.declared.plain.SortId.{SortId}
use Rattle.fvn_terms.specs.declared.declarations.Declarations.{Declarations}
use Rattle.fvn_signature.specs.FirstSorts.{first_sorts}
use Rattle.fvn_signature.specs.Queries.{direct_subsorts}
use Rattle.fvn_signature.proofs.FirstSorts.{map_sorts-at, map_sorts-length}
use Rattle.fvn_signature.proofs.TableLemmas.{looked_up}
use Rattle.fvn_signature.proofs.queries.signature.Signature.direct_of.Goals as goal
use Rattle.fvn_signature.proofs.queries.signature.Signature.direct_of.Goals.{After-from}

lists : (c : After-from) → c.deref.result.now ≡ map (direct_subsorts c.self.inside.draft.declarations) (first_sorts c.self.inside.draft.total)
lists c = c.deref.ensures.value ∙ c.self.invariant.direct

within : (c : After-from) → c.args.s.0 < c.self.inside.draft.total
within c =
    let kinds : length c.self.inside.draft.declarations.kinds ≡ length c.args.self.now.kinds = ap (λ (x : Declarations). length x.kinds) c.self.view_is in
    omega (arith, c.self.inside.draft.sound.total, c.requires)

pub returns-in-Some : goal.returns-in-Some
returns-in-Some c =
    let at = (goal.at.returns-in-Some c).After-from in
    let d : Declarations = c.self.inside.draft.declarations in
    let total : ℕ = c.self.inside.draft.total in
    let some : List SortId = c.in-Some.list.now in
    let found = looked_up c.deref.result.now (map (direct_subsorts d) (first_sorts total)) c.from.result c.args.s.0 some (lists at) c.from.ensures c.in-Some.ensures.lookup.0 c.in-Some.ensures.lookup.1 in
    c.as_slice.ensures
    ∙ found.1
    ∙ map_sorts-at (direct_subsorts d) total c.args.s.0 some (within at)
    ∙ ap (λ (x : Declarations). direct_subsorts x c.args.s) c.self.view_is

pub returns-in-None : goal.returns-in-None
returns-in-None c = absurd (
    let at = (goal.at.returns-in-None c).After-from in
    let all : length c.deref.result.now ≡ c.self.inside.draft.total = ap length (lists at) ∙ map_sorts-length (direct_subsorts c.self.inside.draft.declarations) c.self.inside.draft.total in
    let past : length c.deref.result.now ≤ c.from.result = c.in-None.ensures.lookup.3 in
    omega (arith, c.from.ensures, within at)
    )
