-- One rule, by heads and then by matching.
use Rattle.std.proofs.Common.{sym, ◌∙◌, subst}
use Rattle.fvn_flat.specs.Fits.{AllFit}
use Rattle.fvn_rewrite.proofs.Trying.{match_as}
use Rattle.fvn_rewrite.proofs.Fewer.{short_has_no_matcher}
use Rattle.fvn_rewrite.proofs.Repeated.{lacking_has_no_matcher}
use Rattle.fvn_rewrite.proofs.root.rule_match.Goals as goal

pub may_match-open-requires : goal.may_match-open-requires
may_match-open-requires c = record { pattern = c.requires.sides.left; target = c.requires.term }

pub returns-then-not-open : goal.returns-then-not-open
returns-then-not-open c = c.may_match-open.ensures c.if-not-open.true

pub returns-then-short : goal.returns-then-short
returns-then-short c = short_has_no_matcher c.args.sig.now c.args.rule.now.left c.args.t.now c.requires.sides.left c.requires.term (c.lacks_arguments-short.ensures c.if-short.true)

pub returns-then-lost : goal.returns-then-lost
returns-then-lost c = lacking_has_no_matcher c.args.sig.now c.args.rule.now.left c.args.t.now c.requires.sides.left c.requires.term (c.lacks_twins-lost.ensures c.if-lost.true)

pub matches-requires : goal.matches-requires
matches-requires c =
    let d = c.args.sig.now in record {
      patterns = subst (AllFit d) (sym c.from_ref.ensures.value) (c.requires.sides.left, tt);
      targets = subst (AllFit d) (sym c.from_ref-2.ensures.value) (c.requires.term, tt);
      lengths = c.from_ref.ensures.len ∙ sym c.from_ref-2.ensures.len;
    }

pub returns : goal.returns
returns c =
    match_as c.args.sig.now c.args.rule.now c.args.t.now c.from_ref.result.now c.from_ref-2.result.now c.from_ref.ensures.value c.from_ref-2.ensures.value
    c.in_ok-found.found c.in_ok-found.ensures.some c.in_ok-found.ensures.fits c.in_ok-found.ensures.none
