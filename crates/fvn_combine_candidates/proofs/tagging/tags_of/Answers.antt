-- One more class.
use Rattle.std.proofs.Common.{◌<◌, get_or, set, ap, ◌∙◌, arith}
use Rattle.std.proofs.lemmas.List.{length-set}
use Rattle.fvn_combine_candidates.specs.declared.sharing.SharedClass.{SharedClass}
use Rattle.fvn_combine_candidates.specs.Tags.{user_at}
use Rattle.fvn_combine_candidates.proofs.Entries.{of_entry}
use Rattle.fvn_combine_candidates.proofs.Setting.{more_tags}
use Rattle.fvn_combine_candidates.proofs.tagging.tags_of.Goals as goal

pub loop-i-preserved : goal.loop-i-preserved
loop-i-preserved c =
    let i = c.loop-i.i in
    let e = c.index-shared-i.result in
    let at = c.index-shared-i.is in
    let n = c.requires.numbered in
    let within = c.loop-i-test.true in
    let numbers = c.args.numbers.now in
    record {
      as_many = length-set c.loop-i.tags.items e.class c.user_at-tag.result ∙ c.loop-i.invariant.as_many;
      exact = more_tags c.loop-i.tags.items _ c.args.shared.now numbers i e c.requires.distinct within (omega (arith, within, n)) at
          (let l = of_entry (λ (z : SharedClass). z.class < c.args.n) c.args.shared.now i e within at c.requires.within in let m = c.loop-i.invariant.as_many in omega (arith, l, m))
          (ap (set c.loop-i.tags.items e.class) (c.user_at-tag.ensures ∙ ap (λ us. user_at us (get_or numbers i 0)) c.as_slice.ensures)) c.loop-i.invariant.exact;
    }
