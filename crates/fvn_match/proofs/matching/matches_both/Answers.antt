-- What the search finds is what is promised.
use Rattle.std.proofs.Common.{sym, subst, ◌∙◌}
use Rattle.std.proofs.lemmas.Bool.{false≢true}
use Rattle.fvn_flat.specs.Fits.{Fits}
use Rattle.fvn_match.specs.Matching.{joined}
use Rattle.fvn_match.specs.inner.Pairing.{HaveOneKind}
use Rattle.fvn_match.specs.inner.Variables.{AreOnce, AreVariablesOf}
use Rattle.fvn_match.proofs.Runs.{each_append_back}
use Rattle.fvn_match.proofs.PairFinding.{variables_are_candidate}
use Rattle.fvn_match.proofs.PairingSteps.{one_kind_pairs, matched_have_one_kind}
use Rattle.fvn_match.proofs.Matchers.{found_matches, found_binds, found_fits, found_nothing}
use Rattle.fvn_match.proofs.TwoLists.{zip_both, found_both}
use Rattle.fvn_match.proofs.matching.matches_both.Goals as goal

pub all_have_one_kind-requires-clause-patterns : goal.all_have_one_kind-requires-clause-patterns
all_have_one_kind-requires-clause-patterns c = (each_append_back (Fits c.args.sig.now) c.args.pattern.0.now c.args.pattern.1.now c.requires.patterns).0

pub all_have_one_kind-requires-clause-targets : goal.all_have_one_kind-requires-clause-targets
all_have_one_kind-requires-clause-targets c = (each_append_back (Fits c.args.sig.now) c.args.target.0.now c.args.target.1.now c.requires.targets).0

pub all_have_one_kind-requires-2-clause-patterns : goal.all_have_one_kind-requires-2-clause-patterns
all_have_one_kind-requires-2-clause-patterns c = (each_append_back (Fits c.args.sig.now) c.args.pattern.0.now c.args.pattern.1.now c.requires.patterns).1

pub all_have_one_kind-requires-2-clause-targets : goal.all_have_one_kind-requires-2-clause-targets
all_have_one_kind-requires-2-clause-targets c = (each_append_back (Fits c.args.sig.now) c.args.target.0.now c.args.target.1.now c.requires.targets).1

pub returns-then-not-all_have_one_kind-clause-none : goal.returns-then-not-all_have_one_kind-clause-none
returns-then-not-all_have_one_kind-clause-none c = λ e s m.
    let all_are = matched_have_one_kind c.args.sig.now c.recall_good.ensures s m.0 (joined c.args.pattern) (joined c.args.target) c.requires.patterns c.requires.targets m.1 in
    let both = (zip_both (HaveOneKind c.args.sig.now) c.args.pattern.0.now c.args.pattern.1.now c.args.target.0.now c.args.target.1.now c.requires.first_lengths).0 all_are in
    false≢true (sym c.if-not-all_have_one_kind.true ∙ c.all_have_one_kind.ensures.1 both.0)

pub returns-then-not-all_have_one_kind-2-clause-none : goal.returns-then-not-all_have_one_kind-2-clause-none
returns-then-not-all_have_one_kind-2-clause-none c = λ e s m.
    let all_are = matched_have_one_kind c.args.sig.now c.recall_good.ensures s m.0 (joined c.args.pattern) (joined c.args.target) c.requires.patterns c.requires.targets m.1 in
    let both = (zip_both (HaveOneKind c.args.sig.now) c.args.pattern.0.now c.args.pattern.1.now c.args.target.0.now c.args.target.1.now c.requires.first_lengths).0 all_are in
    false≢true (sym c.if-not-all_have_one_kind-2.true ∙ c.all_have_one_kind-2.ensures.1 both.1)

pub solve-requires-clause-vars : goal.solve-requires-clause-vars
solve-requires-clause-vars c = subst AreOnce (sym c.as_slice.ensures.value) c.in_ok-vars.ensures.once

pub solve-requires-clause-state : goal.solve-requires-clause-state
solve-requires-clause-state c =
    let d = c.args.sig.now in
    let ps = each_append_back (Fits d) c.args.pattern.0.now c.args.pattern.1.now c.requires.patterns in
    let ts = each_append_back (Fits d) c.args.target.0.now c.args.target.1.now c.requires.targets in record {
      pairs = (
        one_kind_pairs d c.recall_good.ensures c.args.pattern.0.now c.args.target.0.now ps.0 ts.0 (c.all_have_one_kind.ensures.0 c.if-not-all_have_one_kind.false),
        (one_kind_pairs d c.recall_good.ensures c.args.pattern.1.now c.args.target.1.now ps.1 ts.1 (c.all_have_one_kind-2.ensures.0 c.if-not-all_have_one_kind-2.false), tt),
      );
      sums = tt;
      values = variables_are_candidate d;
    }

pub returns-clause-some : goal.returns-clause-some
returns-clause-some c =
    found_matches c.args.sig.now c.recall_good.ensures (joined c.args.pattern) (joined c.args.target) c.requires.patterns c.requires.targets c.as_slice.result.now (subst (AreVariablesOf (joined c.args.pattern)) (sym c.as_slice.ensures.value) c.in_ok-vars.ensures) c.in_ok-found.found
    (found_both c.args.sig.now c.args.pattern.0.now c.args.pattern.1.now c.args.target.0.now c.args.target.1.now c.requires.first_lengths c.as_slice.result.now c.in_ok-found.found c.in_ok-found.ensures)

pub returns-clause-binds : goal.returns-clause-binds
returns-clause-binds c =
    found_binds c.args.sig.now c.recall_good.ensures (joined c.args.pattern) (joined c.args.target) c.requires.patterns c.requires.targets c.as_slice.result.now (subst (AreVariablesOf (joined c.args.pattern)) (sym c.as_slice.ensures.value) c.in_ok-vars.ensures) c.in_ok-found.found
    (found_both c.args.sig.now c.args.pattern.0.now c.args.pattern.1.now c.args.target.0.now c.args.target.1.now c.requires.first_lengths c.as_slice.result.now c.in_ok-found.found c.in_ok-found.ensures)

pub returns-clause-fits : goal.returns-clause-fits
returns-clause-fits c =
    found_fits c.args.sig.now c.recall_good.ensures (joined c.args.pattern) (joined c.args.target) c.requires.patterns c.requires.targets c.as_slice.result.now (subst (AreVariablesOf (joined c.args.pattern)) (sym c.as_slice.ensures.value) c.in_ok-vars.ensures) c.in_ok-found.found
    (found_both c.args.sig.now c.args.pattern.0.now c.args.pattern.1.now c.args.target.0.now c.args.target.1.now c.requires.first_lengths c.as_slice.result.now c.in_ok-found.found c.in_ok-found.ensures)

pub returns-clause-none : goal.returns-clause-none
returns-clause-none c =
    found_nothing c.args.sig.now c.recall_good.ensures (joined c.args.pattern) (joined c.args.target) c.requires.patterns c.requires.targets c.as_slice.result.now (subst (AreVariablesOf (joined c.args.pattern)) (sym c.as_slice.ensures.value) c.in_ok-vars.ensures) c.in_ok-found.found
    (found_both c.args.sig.now c.args.pattern.0.now c.args.pattern.1.now c.args.target.0.now c.args.target.1.now c.requires.first_lengths c.as_slice.result.now c.in_ok-found.found c.in_ok-found.ensures)
