-- One more operator.
use Rattle.std.proofs.Common.{◌≡◌, [], ◌∷◌, ◌++◌, map, take, sym, ap, ◌∙◌, subst, All}
use Rattle.fvn_combine_nodes.specs.States.{class_of}
use Rattle.std.proofs.lemmas.List.{map_push, take_more}
use Rattle.std.proofs.lemmas.List.Elements.{All-push}
use Rattle.fvn_combine_leaves.specs.Readings.{AreSums}
use Rattle.fvn_combine_reading.proofs.reading.all_sums.Goals as goal

pub loop-f-preserved : goal.loop-f-preserved
loop-f-preserved c =
    let d = c.args.sig.now in
    let t = c.args.table.now in
    let class = class_of c.args.state.now in
    let old = c.loop-f.sums.items in
    let x = c.in_ok-sums_of.field-0 in
    let i = c.loop-f.f-index in
    let operators = c.args.operators.now in
    let pushed : c.push.new.self.items ≡ old ++ x ∷ [] = c.in_ok-push.ensures.items in
    record {
      sums = subst (All (AreSums d t class)) (sym pushed) (All-push (AreSums d t class) old x c.loop-f.invariant.sums c.in_ok-sums_of.ensures.sums);
      operators =
          ap (map (λ s. s.operator)) pushed
          ∙ map_push (λ s. s.operator) old x
          ∙ ap (λ l. l ++ x.operator ∷ []) c.loop-f.invariant.operators
          ∙ ap (λ f. take i operators ++ f ∷ []) c.in_ok-sums_of.ensures.operator
          ∙ sym (take_more operators i _ c.loop-f-test.true);
    }
