-- By its head, its users and all nodes.
use Rattle.std.proofs.Common.{◌≡◌, ◌<◌, length, refl, sym, ◌∙◌, subst}
use Rattle.std.proofs.lemmas.Bool.{iff_false}
use Rattle.fvn_combine_nodes.specs.States.{class_of}
use Rattle.fvn_combine_candidates.proofs.Letting.{takes_told, all_takes, soft_by, headed_not}
use Rattle.fvn_combine_candidates.proofs.vanishing.takes_identity.Goals as goal

pub is_soft-requires : goal.is_soft-requires
is_soft-requires c = subst (λ n. c.args.k < n) (sym c.requires.reading.heads.as_many) c.requires.within

pub returns-then-not-is_soft : goal.returns-then-not-is_soft
returns-then-not-is_soft c = (
  λ e. cc,
  λ h. absurd (headed_not c.args.sig.now c.args.table.now (class_of c.args.state.now) c.args.reading.now c.requires.reading c.args.k c.requires.within (iff_false c.is_soft.ensures c.if-not-is_soft.true) h.soft),
)

pub returns-then-not-is_alone : goal.returns-then-not-is_alone
returns-then-not-is_alone c = (λ e. cc, λ h. absurd (iff_false c.is_alone.ensures c.if-not-is_alone.true h.alone))

pub returns : goal.returns
returns c =
    let d = c.args.sig.now in
    let t = c.args.table.now in
    let class = class_of c.args.state.now in (
      λ told. takes_told d t class c.args.f c.args.e c.args.k (c.is_alone.ensures.0 c.if-not-is_alone.false)
          (soft_by d t class c.args.reading.now c.requires.reading c.args.k c.requires.within (c.is_soft.ensures.0 c.if-not-is_soft.false)) (c.all_let.ensures.0 told),
      λ h. c.all_let.ensures.1 (all_takes d t class c.args.f c.args.e c.args.k h),
    )
