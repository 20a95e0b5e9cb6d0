-- One argument more, and in the end all.
use Rattle.std.proofs.Common.{◌≡◌, ℕ, ◌<◌, Some, length, slice_index, refl, sym, ap, ◌∙◌, arith}
use Rattle.std.specs.Prelude.{slice_get}
use Rattle.std.proofs.lemmas.Bool.{iff_false}
use Rattle.std.proofs.lemmas.Option.{slice_get_within, slice_get-get_or}
use Rattle.std.proofs.lemmas.List.Elements.{All-get_or}
use Rattle.fvn_combine_nodes.specs.States.{class_of}
use Rattle.fvn_combine_complete.specs.Neutral.{Absorbs}
use Rattle.fvn_combine_candidates.specs.inner.Letting.{ArgumentLets}
use Rattle.fvn_combine_candidates.proofs.Letting.{one_more}
use Rattle.fvn_combine_candidates.proofs.vanishing.arguments_let.Goals as goal

pub class_of-requires : goal.class_of-requires
class_of-requires c = All-get_or (λ j. j < length c.args.state.now.names) c.args.nodes.now c.loop-p.p 0 c.loop-p-test.true c.requires

pub loop-p-preserved-then-class_of-k : goal.loop-p-preserved-then-class_of-k
loop-p-preserved-then-class_of-k c =
    let j = slice_index c.args.nodes.now c.loop-p.p in
    let at = slice_get-get_or c.args.nodes.now c.loop-p.p 0 c.loop-p-test.true in
    one_more (λ (p i : ℕ). class_of c.args.state.now i ≡ c.args.k → ArgumentLets c.args.sig.now (Absorbs c.args.sig.now c.args.f c.args.e) c.args.g p) c.args.nodes.now c.loop-p.p j at
    (λ of. absurd (c.if-class_of-k.true (c.class_of.ensures ∙ of))) c.loop-p.invariant

pub returns-then-not-argument_lets : goal.returns-then-not-argument_lets
returns-then-not-argument_lets c =
    let j = slice_index c.args.nodes.now c.loop-p.p in
    let at = slice_get-get_or c.args.nodes.now c.loop-p.p 0 c.loop-p-test.true in
    (λ e. cc, λ h. absurd (iff_false c.argument_lets.ensures c.if-not-argument_lets.true (h c.loop-p.p j at (sym c.class_of.ensures ∙ c.if-class_of-k.false))))

pub loop-p-preserved : goal.loop-p-preserved
loop-p-preserved c =
    let j = slice_index c.args.nodes.now c.loop-p.p in
    let at = slice_get-get_or c.args.nodes.now c.loop-p.p 0 c.loop-p-test.true in
    one_more (λ (p i : ℕ). class_of c.args.state.now i ≡ c.args.k → ArgumentLets c.args.sig.now (Absorbs c.args.sig.now c.args.f c.args.e) c.args.g p) c.args.nodes.now c.loop-p.p j at
    (λ _. c.argument_lets.ensures.0 c.if-not-argument_lets.false) c.loop-p.invariant

pub returns : goal.returns
returns c = (
  λ _ p j is of.
      let l = slice_get_within c.args.nodes.now p j is in
      let past = c.loop-p-test.false in
      c.loop-p.invariant p j (omega (arith, l, past)) is of,
  λ _. refl,
)
