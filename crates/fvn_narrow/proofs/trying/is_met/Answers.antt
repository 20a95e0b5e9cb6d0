-- All needed rules have the head under which they are needed, and fit.
use Rattle.std.proofs.Common.{sym, ◌∙◌}
use Rattle.std.specs.Prelude.{All, Contains}
use Rattle.std.proofs.lemmas.List.Elements.{All-weaker, All-contains_itself}
use Rattle.fvn_rewrite_rules.specs.Given.{headed}
use Rattle.fvn_rewrite.specs.Usable.{equations_by}
use Rattle.fvn_narrow.specs.inner.Pairing.{IsHeadedFit}
use Rattle.fvn_narrow.proofs.Fit.{needed_fits}
use Rattle.fvn_narrow.proofs.trying.is_met.Goals as goal

pub is_met_in_pairs-requires : goal.is_met_in_pairs-requires
is_met_in_pairs-requires g c =
    let r = c.args.tools.now.rewriter.now in
    let f = c.in-Some.f in
    let usable = c.recall.ensures.usable in
    let laws = c.rules_are_lawful.ensures r.signature c.recall.ensures.good c.recall.ensures.completed (equations_by r) (λ e i. (usable.admissible e i).kinded.kinds) in
    let all : All (IsHeadedFit r.signature f) (headed r.rules f) =
    All-weaker (Contains (headed r.rules f)) (IsHeadedFit r.signature f) (λ inner i. record { heads = (usable.rules.given f inner i).1; fits = needed_fits r c.recall.ensures.good usable laws f inner i }) (headed r.rules f) (All-contains_itself (headed r.rules f)) in record {
      heads = sym c.head.ensures ∙ c.in-Some.is;
      all = all;
    }
