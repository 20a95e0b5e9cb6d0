-- A sum of what stands for solutions.
use Rattle.std.proofs.Common.{ℕ, ◌<◌, List, length, map, ap, ◌∙◌, arith}
use Rattle.fvn_forms.specs.Canon.{sum}
use Rattle.fvn_flat.specs.SolvedLists.{members}
use Rattle.fvn_combine_triangular.specs.declared.shares.Share.{Share}
use Rattle.fvn_combine_triangular.specs.inner.Planning.{part_of}
use Rattle.fvn_combine_triangular.proofs.Forms.{place_in_map, sum_at_here}
use Rattle.fvn_combine_triangular.proofs.choice.sum_term.Goals as goal

pub returns : goal.returns
returns c =
    let d = c.args.sig.now in
    let e = c.index-as_slice-i.result in
    let w = c.index-shares-i.result in
    let k = c.args.k in
    let a = ap length c.as_slice.ensures in
    let l = c.requires.within in
    let within : c.args.i < length c.as_slice.result.now = omega (arith, a, l) in
    let there : c.args.i < length c.args.shares.now = place_in_map (λ w. w.items) c.args.shares.now c.args.i c.requires.as_many l in
    c.in_ok-t.ensures.exact
    ∙ ap (sum d e.operator) (c.in_ok-terms.ensures ∙ ap (λ (cs : List ℕ). members cs (map part_of c.as_slice-3.result.now) k) c.as_slice-2.ensures ∙ ap (λ (ws : List Share). members e.columns (map part_of ws) k) c.as_slice-3.ensures.value)
    ∙ sum_at_here d (λ w. w.items) c.args.reading.now.sums c.as_slice.result.now c.args.shares.now c.args.i k e w c.as_slice.ensures within c.index-as_slice-i.is there c.index-shares-i.is
