-- as many of the next level as may be kept
use Rattle.std.proofs.Common.{◌≡◌, ◌+◌, ◌-◌, length, get_or, drop, sym, ap, ◌∙◌, subst, arith}
use Rattle.fvn_fold.specs.inner.Running.{LevelLists, deep_of, AreKept}
use Rattle.fvn_cover.specs.Pruning.{IsPruned}
use Rattle.fvn_fold.proofs.Rounds.{kept_cut, cut_at}
use Rattle.fvn_fold.proofs.exploring.full.Goals as goal

pub with_level-requires : goal.with_level-requires
with_level-requires c =
    let next = c.args.next.items in
    let room = c.args.limits.variants - c.len.result in
    let length_kept : c.len.result ≡ length c.args.run.kept.items = c.len.ensures ∙ c.args.run.kept.ok.0 in
    let many = c.requires.many in
    let few = c.requires.few in
    let cut = cut_at next c.remove.new.self.items c.truncate.new.self.items room c.into_variant-v.result (omega (arith, length_kept, many, few)) (c.into_variant-v.ensures ∙ c.remove.ensures.value ∙ ap (λ v. get_or next room v) (sym c.into_variant-v.ensures)) c.remove.ensures.items c.truncate.ensures.items in
    kept_cut c.args.sig.now c.args.run.kept.items next room c.into_variant-v.result c.truncate.new.self.items cut c.requires.kept

pub finish-requires : goal.finish-requires
finish-requires c =
    let next = c.args.next.items in
    let room = c.args.limits.variants - c.len.result in
    let length_kept : c.len.result ≡ length c.args.run.kept.items = c.len.ensures ∙ c.args.run.kept.ok.0 in
    let many = c.requires.many in
    let few = c.requires.few in
    let cut = cut_at next c.remove.new.self.items c.truncate.new.self.items room c.into_variant-v.result (omega (arith, length_kept, many, few)) (c.into_variant-v.ensures ∙ c.remove.ensures.value ∙ ap (λ v. get_or next room v) (sym c.into_variant-v.ensures)) c.remove.ensures.items c.truncate.ensures.items in
    subst (AreKept c.args.sig.now) (sym (ap (λ (l : LevelLists). l.kept) c.in_ok-more.ensures)) (kept_cut c.args.sig.now c.args.run.kept.items next room c.into_variant-v.result c.truncate.new.self.items cut c.requires.kept)

pub returns : goal.returns
returns c =
    let next = c.args.next.items in
    let room = c.args.limits.variants - c.len.result in
    let length_kept : c.len.result ≡ length c.args.run.kept.items = c.len.ensures ∙ c.args.run.kept.ok.0 in
    let many = c.requires.many in
    let few = c.requires.few in
    let cut = cut_at next c.remove.new.self.items c.truncate.new.self.items room c.into_variant-v.result (omega (arith, length_kept, many, few)) (c.into_variant-v.ensures ∙ c.remove.ensures.value ∙ ap (λ v. get_or next room v) (sym c.into_variant-v.ensures)) c.remove.ensures.items c.truncate.ensures.items in
    record {
      more_levels = c.requires.more_levels;
      front = c.truncate.new.self.items;
      variant = c.into_variant-v.result;
      back = drop (room + 1) next;
      split = cut.split;
      full = let l = cut.long in omega (arith, l, length_kept, few);
      kept = c.in_ok-x.ensures.kept ∙ ap (λ l. deep_of l (c.args.depth + 1)) c.in_ok-more.ensures;
      pruned = subst (λ l. IsPruned c.args.sig.now l c.in_ok-x.x.variants) (ap (λ (l : LevelLists). l.kept) c.in_ok-more.ensures) c.in_ok-x.ensures.pruned;
      is_end = c.in_ok-x.ensures.end;
    }
