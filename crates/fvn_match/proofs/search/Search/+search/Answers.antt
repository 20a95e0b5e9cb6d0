-- What each call of the search is given, and what it finds.
use Rattle.std.proofs.Common.{◌≡◌, ◌≤◌, [], ◌∷◌, length, get_or, Some, refl, sym, ap, ◌∙◌, subst, arith}
use Rattle.std.specs.Prelude.{IfOk, ◌*◌, sum as std_sum}
use Rattle.std.specs.List.{AllZip, AllByRecursion}
use Rattle.std.proofs.lemmas.Bool.{false≢true, eqb-true}
use Rattle.std.proofs.lemmas.List.{nil_from_length}
use Rattle.fvn_terms.specs.Signature.{kind, axioms}
use Rattle.fvn_terms.specs.Equality.{is_sum}
use Rattle.fvn_terms.proofs.AxiomWords.{sums_associate}
use Rattle.fvn_forms.specs.InOrder.{InOrder}
use Rattle.fvn_forms.specs.Canon.{inst}
use Rattle.fvn_flat.specs.Forms.{args_of}
use Rattle.fvn_match.specs.inner.Choices.{IsWithin}
use Rattle.fvn_match.specs.inner.Summands.{references, IsCounted}
use Rattle.fvn_match.specs.inner.Candidates.{IsSolution, Finds}
use Rattle.fvn_match.specs.inner.Goals.{bindings_of, patterns_of, SumsHold, Asked, AllMake, ChoiceAsked, IsPair, IsFlatOf, GoalsFit, SumsFit, weight, weight_of, goals_weight, sums_weight}
use Rattle.fvn_match.specs.inner.Searching.{SearchesGoals, SearchesPair, SearchesSum, crossed, IsWhole}
use Rattle.fvn_match.specs.inner.Known.{LeavesOpen}
use Rattle.fvn_match.specs.declared.goals.Goals.{Done}
use Rattle.fvn_match.specs.declared.goals.SumGoal.{SumGoal}
use Rattle.fvn_match.proofs.AxiomTests.{free_at, commutative_at}
use Rattle.fvn_match.proofs.Advancing.{zeros_within, rises, place_value_bounded, RisesIf}
use Rattle.fvn_match.proofs.SummandLists.{parts_in_order}
use Rattle.fvn_match.proofs.PatternOrder.{renamed_same}
use Rattle.fvn_match.proofs.Runs.{length_references, references-drop}
use Rattle.fvn_match.proofs.PairSteps.{variable_is, variable_or_head}
use Rattle.fvn_match.specs.inner.Apart.{IsTakenApart}
use Rattle.fvn_match.proofs.TakingApart.{untouched_fits, as_many_left, left_pairs, left_values, lighter_left, found_never, found_apart, pairs_parted, pairs_weight, found_pairs}
use Rattle.fvn_match.proofs.PairFinding.{zip_long, two_is, one_more_candidate, if_found_bound, refused_sort, refused_unsorted, found_known, refused_known, found_straight, found_across, found_values, found_no_pairs, refused_unheaded, pairs_of_args, as_many_args, found_free, crossing_args, two_of_patterns, two_of_targets, found_commutative}
use Rattle.fvn_match.proofs.SumFitting.{started_fits, smaller_fits}
use Rattle.fvn_match.proofs.SumFinding.{IsTried, no_patterns, group_of, group_within, choice_within, as_long, length_quotients, each_itself, refused_hopeless, refused_closed, found_open, open_fits, open_weight, refused_left, found_taken, found_only, found_choices, tried_none, found_choice, tried_one, tried_all}
use Rattle.fvn_match.proofs.ChoiceFinding.{refused_whole, refused_made, whole_pair, left_fits, found_whole}
use Rattle.fvn_match.proofs.SummedFinding.{found_summed}
use Rattle.fvn_match.proofs.OneMore.{one_more_named, more_weight, more_fit, more_hold, found_more}
use Rattle.fvn_match.proofs.WholeSteps.{not_zero}
use Rattle.fvn_match.proofs.Weights.{weight_args, weight_of-same, weight_of-group}
use Rattle.fvn_match.proofs.search.Search.+search.Goals as goal

-- goals and sums, from the first on
pub solve-lists-requires : goal.solve-lists-requires
solve-lists-requires t c =
    let fits = subst (GoalsFit c.args.self.now.sig.now) c.in-Lists.is c.requires.state.pairs in
    (omega (arith, ap goals_weight c.in-Lists.is), (c.requires.vars, (zip_long (IsPair c.args.self.now.sig.now) c.in-Lists.ps.now c.in-Lists.ts.now fits.0, (fits.0, record { pairs = fits.1; sums = c.requires.state.sums; values = c.requires.state.values }))))

pub solve-returns-in-Lists : goal.solve-returns-in-Lists
solve-returns-in-Lists t c = subst (λ g. IfOk c.lists.result (SearchesGoals c.args.self.now g c.args.sums.now c.args.bound.now)) (sym c.in-Lists.is) c.lists.ensures

pub solve-again-requires : goal.solve-again-requires
solve-again-requires t c =
    let fits = subst (GoalsFit c.args.self.now.sig.now) c.in-Pairs.is c.requires.state.pairs in
    let long = zip_long (IsPair c.args.self.now.sig.now) (references c.in-Pairs.pairs.patterns.now) (references c.in-Pairs.pairs.targets.now) fits.0 in
    let ps = length_references c.in-Pairs.pairs.patterns.now in
    let ts = length_references c.in-Pairs.pairs.targets.now in
    (omega (arith, ap goals_weight c.in-Pairs.is), (c.requires.vars, (sym ps ∙ long ∙ ts, (fits.0, record { pairs = fits.1; sums = c.requires.state.sums; values = c.requires.state.values }))))

pub solve-returns-in-Pairs : goal.solve-returns-in-Pairs
solve-returns-in-Pairs t c = subst (λ g. IfOk c.again.result (SearchesGoals c.args.self.now g c.args.sums.now c.args.bound.now)) (sym c.in-Pairs.is) c.again.ensures

pub solve-returns-then-is_empty : goal.solve-returns-then-is_empty
solve-returns-then-is_empty t c =
    let none = nil_from_length c.args.sums.now (eqb-true (length c.args.sums.now) 0 (sym c.is_empty.ensures ∙ c.if-is_empty.true)) in
    subst (λ g. SearchesGoals c.args.self.now g c.args.sums.now c.args.bound.now (Some c.in_ok-s-in-Done.s)) (sym c.in-Done.is)
    (subst (λ w. SearchesGoals c.args.self.now Done w c.args.bound.now (Some c.in_ok-s-in-Done.s)) (sym none)
    (found_values c.args.self.now.sig.now (bindings_of c.args.bound.now) c.args.self.now.vars.now c.in_ok-s-in-Done.s c.requires.state.values c.in_ok-s-in-Done.ensures))

pub solve-first_sum-requires : goal.solve-first_sum-requires
solve-first_sum-requires t c = not_zero (length c.args.sums.now) (sym c.is_empty.ensures ∙ c.if-is_empty.false)

pub solve-other_sums-requires : goal.solve-other_sums-requires
solve-other_sums-requires t c = not_zero (length c.args.sums.now) (sym c.is_empty.ensures ∙ c.if-is_empty.false)

pub solve-sum-requires : goal.solve-sum-requires
solve-sum-requires t c =
    let d = c.args.self.now.sig.now in
    let fits = subst (SumsFit d) c.first_sum.ensures c.requires.state.sums in
    (omega (arith, ap sums_weight c.first_sum.ensures, ap sums_weight c.other_sums.ensures), (c.requires.vars, record { sum_fits = fits.0; sums_fit = subst (SumsFit d) (sym c.other_sums.ensures) fits.1; values = c.requires.state.values }))

pub solve-returns-else-is_empty : goal.solve-returns-else-is_empty
solve-returns-else-is_empty t c =
    subst (λ g. IfOk c.sum.result (SearchesGoals c.args.self.now g c.args.sums.now c.args.bound.now)) (sym c.in-Done.is)
    (subst (λ w. IfOk c.sum.result (SearchesGoals c.args.self.now Done w c.args.bound.now)) (sym c.first_sum.ensures)
    (subst (λ w. IfOk c.sum.result (SearchesSum c.args.self.now c.first_sum.result.now w c.args.bound.now)) c.other_sums.ensures c.sum.ensures))

-- two lists
pub lists-take_all-requires-clause-fits : goal.lists-take_all-requires-clause-fits
lists-take_all-requires-clause-fits t c = untouched_fits c.args.self.now.sig.now (bindings_of c.args.bound.now) c.requires.state.values c.untouched-parts.result c.untouched-parts.ensures

pub lists-returns-then-not-can : goal.lists-returns-then-not-can
lists-returns-then-not-can t c =
    found_never c.args.self.now.sig.now (bindings_of c.args.bound.now) c.args.self.now.vars.now (Asked c.args.self.now.sig.now c.args.rest.now c.args.sums.now) c.untouched-parts.result c.take_all.new.self c.untouched-parts.ensures
    c.args.ps.now c.args.ts.now (rw c.if-not-can.true at c.in_ok-can.ensures)

pub lists-again-requires : goal.lists-again-requires
lists-again-requires t c =
    let d = c.args.self.now.sig.now in
    let b = bindings_of c.args.bound.now in
    let after = c.take_all.new.self in
    let taken : IsTakenApart d b c.untouched-parts.result after (AllMake d c.args.ps.now c.args.ts.now) (weight_of c.args.ps.now) = rw c.if-not-can.false at c.in_ok-can.ensures in
    let qs = c.as_slice-patterns.ensures.value in
    let us = c.as_slice-targets.ensures.value in
    let light = lighter_left d b c.args.self.now.vars.now (Asked d c.args.rest.now c.args.sums.now) c.untouched-parts.result after c.untouched-parts.ensures c.args.ps.now c.args.ts.now taken in
    let heavy = ap (λ l. weight_of (references l)) qs in (
      omega (arith, light, heavy),
      (
        c.requires.vars,
        (
          ap length qs ∙ as_many_left d b after taken.fits ∙ sym (ap length us),
          (
            left_pairs d b after taken.fits c.as_slice-patterns.result.now c.as_slice-targets.result.now qs us,
            record { pairs = c.requires.state.pairs; sums = c.requires.state.sums; values = left_values d b after taken.fits c.as_slice.result.now c.as_slice.ensures.value },
          ),
        ),
      ),
    )

pub lists-returns : goal.lists-returns
lists-returns t c =
    let d = c.args.self.now.sig.now in
    let b = bindings_of c.args.bound.now in
    found_apart d b c.args.self.now.vars.now (Asked d c.args.rest.now c.args.sums.now) c.untouched-parts.result c.take_all.new.self c.untouched-parts.ensures c.args.ps.now c.args.ts.now (rw c.if-not-can.false at c.in_ok-can.ensures)
    c.as_slice.result.now c.as_slice-patterns.result.now c.as_slice-targets.result.now c.as_slice.ensures.value c.as_slice-patterns.ensures.value c.as_slice-targets.ensures.value c.again.result c.again.ensures

-- pairs that were kept
pub again-one_by_one-requires : goal.again-one_by_one-requires
again-one_by_one-requires t c = (omega arith, (c.requires.vars, (c.requires.lengths, (c.requires.pairs, c.requires.state))))

pub again-returns-then-known-seen : goal.again-returns-then-known-seen
again-returns-then-known-seen t c = c.one_by_one.ensures

pub again-take_each-requires-clause-fits : goal.again-take_each-requires-clause-fits
again-take_each-requires-clause-fits t c = untouched_fits c.args.self.now.sig.now (bindings_of c.args.bound.now) c.requires.state.values c.untouched-parts.result c.untouched-parts.ensures

pub again-returns-then-not-can : goal.again-returns-then-not-can
again-returns-then-not-can t c =
    found_never c.args.self.now.sig.now (bindings_of c.args.bound.now) c.args.self.now.vars.now (Asked c.args.self.now.sig.now c.args.rest.now c.args.sums.now) c.untouched-parts.result c.take_each.new.self c.untouched-parts.ensures
    (references c.args.ps.now) (references c.args.ts.now) (rw c.if-not-can.true at c.in_ok-can.ensures)

pub again-one_by_one-requires-2 : goal.again-one_by_one-requires-2
again-one_by_one-requires-2 t c =
    let d = c.args.self.now.sig.now in
    let b = bindings_of c.args.bound.now in
    let after = c.take_each.new.self in
    let taken : IsTakenApart d b c.untouched-parts.result after (AllMake d (references c.args.ps.now) (references c.args.ts.now)) (weight_of (references c.args.ps.now)) = rw c.if-not-can.false at c.in_ok-can.ensures in
    let qs = c.as_slice-patterns.ensures.value in
    let us = c.as_slice-targets.ensures.value in
    let light = lighter_left d b c.args.self.now.vars.now (Asked d c.args.rest.now c.args.sums.now) c.untouched-parts.result after c.untouched-parts.ensures (references c.args.ps.now) (references c.args.ts.now) taken in
    let heavy = ap (λ l. weight_of (references l)) qs in (
      omega (arith, light, heavy),
      (
        c.requires.vars,
        (
          ap length qs ∙ as_many_left d b after taken.fits ∙ sym (ap length us),
          (
            left_pairs d b after taken.fits c.as_slice-patterns.result.now c.as_slice-targets.result.now qs us,
            record { pairs = c.requires.state.pairs; sums = c.requires.state.sums; values = left_values d b after taken.fits c.as_slice.result.now c.as_slice.ensures.value },
          ),
        ),
      ),
    )

pub again-returns : goal.again-returns
again-returns t c =
    let d = c.args.self.now.sig.now in
    let b = bindings_of c.args.bound.now in
    found_apart d b c.args.self.now.vars.now (Asked d c.args.rest.now c.args.sums.now) c.untouched-parts.result c.take_each.new.self c.untouched-parts.ensures (references c.args.ps.now) (references c.args.ts.now) (rw c.if-not-can.false at c.in_ok-can.ensures)
    c.as_slice.result.now c.as_slice-patterns.result.now c.as_slice-targets.result.now c.as_slice.ensures.value c.as_slice-patterns.ensures.value c.as_slice-targets.ensures.value c.one_by_one-2.result c.one_by_one-2.ensures

-- references, pair by pair
pub one_by_one-solve-requires : goal.one_by_one-solve-requires
one_by_one-solve-requires t c = (omega arith, (c.requires.vars, c.requires.state))

pub one_by_one-returns-then-is_empty : goal.one_by_one-returns-then-is_empty
one_by_one-returns-then-is_empty t c =
    let none = eqb-true (length c.args.ps.now) 0 (sym c.is_empty.ensures ∙ c.if-is_empty.true) in
    found_no_pairs c.args.self.now.sig.now (bindings_of c.args.bound.now) c.args.self.now.vars.now (Asked c.args.self.now.sig.now c.args.rest.now c.args.sums.now)
    (references c.args.ps.now) (references c.args.ts.now) (length_references c.args.ps.now ∙ none) (length_references c.args.ps.now ∙ c.requires.lengths ∙ sym (length_references c.args.ts.now)) c.solve.result c.solve.ensures

pub one_by_one-pair-requires : goal.one_by_one-pair-requires
one_by_one-pair-requires t c =
    let some = not_zero (length c.args.ps.now) (sym c.is_empty.ensures ∙ c.if-is_empty.false) in
    let z = (pairs_parted c.args.ps.now c.args.ts.now c.index-ps-0.result c.index-ts-0.result some c.requires.lengths c.index-ps-0.is c.index-ts-0.is (IsPair c.args.self.now.sig.now)).0 c.requires.pairs in
    let w = pairs_weight c.args.ps.now c.args.ts.now c.index-ps-0.result c.index-ts-0.result some c.requires.lengths c.index-ps-0.is c.index-ts-0.is in (
      omega (arith, w),
      (c.requires.vars, (z.0, record { pairs = (z.1, c.requires.state.pairs); sums = c.requires.state.sums; values = c.requires.state.values })),
    )

pub one_by_one-returns : goal.one_by_one-returns
one_by_one-returns t c =
    let some = not_zero (length c.args.ps.now) (sym c.is_empty.ensures ∙ c.if-is_empty.false) in
    found_pairs c.args.ps.now c.args.ts.now c.index-ps-0.result c.index-ts-0.result some c.requires.lengths c.index-ps-0.is c.index-ts-0.is
    c.args.self.now.sig.now (bindings_of c.args.bound.now) c.args.self.now.vars.now (Asked c.args.self.now.sig.now c.args.rest.now c.args.sums.now) c.pair.result c.pair.ensures

-- a pair
pub pair-variable-requires : goal.pair-variable-requires
pair-variable-requires t c =
    let is = variable_is c.args.p.now c.in-Some.x (sym c.in-Some.ensures) in
    (omega (arith, ap weight is), (c.requires.vars, (subst (λ u. IsPair c.args.self.now.sig.now u c.args.t.now) is c.requires.pair, c.requires.state)))

pub pair-returns-in-Some : goal.pair-returns-in-Some
pair-returns-in-Some t c =
    let is = variable_is c.args.p.now c.in-Some.x (sym c.in-Some.ensures) in
    subst (λ u. IfOk c.variable.result (SearchesPair c.args.self.now u c.args.t.now c.args.rest.now c.args.sums.now c.args.bound.now)) (sym is) c.variable.ensures

pub pair-returns-in-None : goal.pair-returns-in-None
pair-returns-in-None t c = absurd (variable_or_head c.args.p.now (sym c.in_default.ensures) (sym c.in-None.ensures))

pub pair-summed-requires : goal.pair-summed-requires
pair-summed-requires t c =
    let sum = sums_associate (axioms c.args.self.now.sig.now c.in-Some-head.f) (ap is_sum (sym c.axioms-axioms.ensures) ∙ sym c.is_sum.ensures.exact ∙ c.if-is_sum.true) in
    (omega arith, (c.requires.vars, (sym c.in-Some-head.ensures, (sum, (c.requires.pair, c.requires.state)))))

pub pair-returns-then-is_sum : goal.pair-returns-then-is_sum
pair-returns-then-is_sum t c = c.summed.ensures

pub pair-returns-then-not-is_headed : goal.pair-returns-then-not-is_headed
pair-returns-then-not-is_headed t c =
    refused_unheaded c.args.self.now.sig.now c.recall_good.ensures.fits c.in-Some-head.f c.args.p.now c.args.t.now c.requires.pair (sym c.in-Some-head.ensures) (bindings_of c.args.bound.now) c.args.self.now.vars.now
    (Asked c.args.self.now.sig.now c.args.rest.now c.args.sums.now) (ap is_sum (sym c.axioms-axioms.ensures) ∙ sym c.is_sum.ensures.exact ∙ c.if-is_sum.false) (λ h. false≢true (sym c.if-not-is_headed.true ∙ c.is_headed.ensures.1 h))

pub pair-either-requires : goal.pair-either-requires
pair-either-requires t c =
    let d = c.args.self.now.sig.now in
    let head = sym c.in-Some-head.ensures in
    let X = Asked d c.args.rest.now c.args.sums.now in
    let headed = c.is_headed.ensures.0 c.if-not-is_headed.false in
    let w = weight_args c.args.p.now c.in-Some-head.f head in
    let v = ap weight_of c.args-then-is_commutative.ensures.exact in (
      omega (arith, w, v),
      (
        c.requires.vars,
        (
          two_of_patterns d c.recall_good.ensures.fits c.in-Some-head.f c.args.p.now c.args.t.now c.requires.pair head (bindings_of c.args.bound.now) c.args.self.now.vars.now X headed c.args-then-is_commutative.result.now c.args-then-is_commutative-2.result.now c.args-then-is_commutative.ensures.exact c.args-then-is_commutative-2.ensures.exact (commutative_at c.args.self.now.sig.now c.in-Some-head.f c.axioms-axioms.result c.axioms-axioms.ensures (sym c.is_sum.ensures.exact ∙ c.if-is_sum.false) (sym c.is_commutative.ensures.exact ∙ c.if-is_commutative.true)),
          (
            two_of_targets d c.recall_good.ensures.fits c.in-Some-head.f c.args.p.now c.args.t.now c.requires.pair head (bindings_of c.args.bound.now) c.args.self.now.vars.now X headed c.args-then-is_commutative.result.now c.args-then-is_commutative-2.result.now c.args-then-is_commutative.ensures.exact c.args-then-is_commutative-2.ensures.exact (commutative_at c.args.self.now.sig.now c.in-Some-head.f c.axioms-axioms.result c.axioms-axioms.ensures (sym c.is_sum.ensures.exact ∙ c.if-is_sum.false) (sym c.is_commutative.ensures.exact ∙ c.if-is_commutative.true)),
            (
              crossing_args d c.recall_good.ensures.fits c.in-Some-head.f c.args.p.now c.args.t.now c.requires.pair head (bindings_of c.args.bound.now) c.args.self.now.vars.now X headed c.args-then-is_commutative.result.now c.args-then-is_commutative-2.result.now c.args-then-is_commutative.ensures.exact c.args-then-is_commutative-2.ensures.exact (commutative_at c.args.self.now.sig.now c.in-Some-head.f c.axioms-axioms.result c.axioms-axioms.ensures (sym c.is_sum.ensures.exact ∙ c.if-is_sum.false) (sym c.is_commutative.ensures.exact ∙ c.if-is_commutative.true)),
              c.requires.state,
            ),
          ),
        ),
      ),
    )

pub pair-returns-then-is_commutative : goal.pair-returns-then-is_commutative
pair-returns-then-is_commutative t c =
    let d = c.args.self.now.sig.now in
    found_commutative d c.recall_good.ensures.fits c.in-Some-head.f c.args.p.now c.args.t.now c.requires.pair (sym c.in-Some-head.ensures) (bindings_of c.args.bound.now) c.args.self.now.vars.now (Asked d c.args.rest.now c.args.sums.now)
    (c.is_headed.ensures.0 c.if-not-is_headed.false) c.args-then-is_commutative.result.now c.args-then-is_commutative-2.result.now c.args-then-is_commutative.ensures.exact c.args-then-is_commutative-2.ensures.exact (commutative_at c.args.self.now.sig.now c.in-Some-head.f c.axioms-axioms.result c.axioms-axioms.ensures (sym c.is_sum.ensures.exact ∙ c.if-is_sum.false) (sym c.is_commutative.ensures.exact ∙ c.if-is_commutative.true)) c.either.result c.either.ensures

pub pair-lists-requires : goal.pair-lists-requires
pair-lists-requires t c =
    let d = c.args.self.now.sig.now in
    let head = sym c.in-Some-head.ensures in
    let X = Asked d c.args.rest.now c.args.sums.now in
    let headed = c.is_headed.ensures.0 c.if-not-is_headed.false in
    let w = weight_args c.args.p.now c.in-Some-head.f head in
    let v = ap weight_of c.args-2.ensures.exact in (
      omega (arith, w, v),
      (
        c.requires.vars,
        (
          as_many_args d c.recall_good.ensures.fits c.in-Some-head.f c.args.p.now c.args.t.now c.requires.pair head (bindings_of c.args.bound.now) c.args.self.now.vars.now X headed c.args-2.result.now c.args-3.result.now c.args-2.ensures.exact c.args-3.ensures.exact (free_at c.args.self.now.sig.now c.in-Some-head.f c.axioms-axioms.result c.axioms-axioms.ensures (sym c.is_sum.ensures.exact ∙ c.if-is_sum.false) (sym c.is_commutative.ensures.exact ∙ c.if-is_commutative.false)),
          (
            pairs_of_args d c.recall_good.ensures.fits c.in-Some-head.f c.args.p.now c.args.t.now c.requires.pair head (bindings_of c.args.bound.now) c.args.self.now.vars.now X headed c.args-2.result.now c.args-3.result.now c.args-2.ensures.exact c.args-3.ensures.exact (free_at c.args.self.now.sig.now c.in-Some-head.f c.axioms-axioms.result c.axioms-axioms.ensures (sym c.is_sum.ensures.exact ∙ c.if-is_sum.false) (sym c.is_commutative.ensures.exact ∙ c.if-is_commutative.false)),
            c.requires.state,
          ),
        ),
      ),
    )

pub pair-returns : goal.pair-returns
pair-returns t c =
    let d = c.args.self.now.sig.now in
    found_free d c.recall_good.ensures.fits c.in-Some-head.f c.args.p.now c.args.t.now c.requires.pair (sym c.in-Some-head.ensures) (bindings_of c.args.bound.now) c.args.self.now.vars.now (Asked d c.args.rest.now c.args.sums.now)
    (c.is_headed.ensures.0 c.if-not-is_headed.false) c.args-2.result.now c.args-3.result.now c.args-2.ensures.exact c.args-3.ensures.exact (free_at c.args.self.now.sig.now c.in-Some-head.f c.axioms-axioms.result c.axioms-axioms.ensures (sym c.is_sum.ensures.exact ∙ c.if-is_sum.false) (sym c.is_commutative.ensures.exact ∙ c.if-is_commutative.false)) c.lists.result c.lists.ensures

-- a variable
pub variable-returns-then-not-same : goal.variable-returns-then-not-same
variable-returns-then-not-same t c =
    refused_known c.args.self.now.sig.now (bindings_of c.args.bound.now) c.args.x c.args.t.now c.requires.pair c.args.self.now.vars.now (Asked c.args.self.now.sig.now c.args.rest.now c.args.sums.now)
    c.in-Some.v.now c.in-Some.ensures (λ p. false≢true (sym c.if-not-same.true ∙ c.same.ensures.exact.1 p))

pub variable-solve-requires : goal.variable-solve-requires
variable-solve-requires t c = (omega arith, (c.requires.vars, c.requires.state))

pub variable-returns-else-not-same : goal.variable-returns-else-not-same
variable-returns-else-not-same t c =
    found_known c.args.self.now.sig.now (bindings_of c.args.bound.now) c.args.x c.args.t.now c.requires.pair c.args.self.now.vars.now (Asked c.args.self.now.sig.now c.args.rest.now c.args.sums.now)
    c.in-Some.v.now c.in-Some.ensures (c.same.ensures.exact.0 c.if-not-same.false) c.solve.result c.solve.ensures

pub variable-has_sort_of-requires : goal.variable-has_sort_of-requires
variable-has_sort_of-requires t c = c.requires.pair

pub variable-returns-then-not-has_sort_of : goal.variable-returns-then-not-has_sort_of
variable-returns-then-not-has_sort_of t c =
    refused_sort c.args.self.now.sig.now (bindings_of c.args.bound.now) c.args.x c.args.t.now c.requires.pair c.args.self.now.vars.now (Asked c.args.self.now.sig.now c.args.rest.now c.args.sums.now)
    (λ h. false≢true (sym c.if-not-has_sort_of.true ∙ c.has_sort_of.ensures.1 h))

pub variable-solve-requires-in-None : goal.variable-solve-requires-in-None
variable-solve-requires-in-None t c =
    let low = c.has_sort_of.ensures.0 c.if-not-has_sort_of.false in (
      omega arith,
      (
        c.requires.vars,
        record {
          pairs = c.requires.state.pairs;
          sums = c.requires.state.sums;
          values = one_more_candidate c.args.self.now.sig.now (bindings_of c.args.bound.now) c.args.x c.args.t.now c.requires.pair c.requires.state.values low;
        },
      ),
    )

pub variable-returns-else-not-has_sort_of : goal.variable-returns-else-not-has_sort_of
variable-returns-else-not-has_sort_of t c =
    if_found_bound c.args.self.now.sig.now (bindings_of c.args.bound.now) c.args.x c.args.t.now c.requires.pair c.args.self.now.vars.now (Asked c.args.self.now.sig.now c.args.rest.now c.args.sums.now)
    c.in-None.ensures c.solve-in-None.result c.solve-in-None.ensures

-- a commutative pair, in one order of the targets and in the other
pub either-way-requires : goal.either-way-requires
either-way-requires t c =
    let ts_are = two_is c.args.ts.now c.index-ts-0.result c.index-ts-1.result c.requires.targets c.index-ts-0.is c.index-ts-1.is in
    (omega arith, (c.requires.vars, (c.requires.patterns, (subst (AllZip (IsPair c.args.self.now.sig.now) c.args.ps.now) ts_are c.requires.pairs.straight, c.requires.state))))

pub either-returns-then-is_some : goal.either-returns-then-is_some
either-returns-then-is_some t c =
    let ts_are = two_is c.args.ts.now c.index-ts-0.result c.index-ts-1.result c.requires.targets c.index-ts-0.is c.index-ts-1.is in
    found_straight c.args.self.now.sig.now (bindings_of c.args.bound.now) c.args.self.now.vars.now c.args.ps.now c.args.ts.now c.index-ts-0.result c.index-ts-1.result ts_are (Asked c.args.self.now.sig.now c.args.rest.now c.args.sums.now)
    c.in_ok-found.found (sym c.is_some.ensures ∙ c.if-is_some.true) c.in_ok-found.ensures

pub either-way-requires-2 : goal.either-way-requires-2
either-way-requires-2 t c =
    let ts_are = two_is c.args.ts.now c.index-ts-0.result c.index-ts-1.result c.requires.targets c.index-ts-0.is c.index-ts-1.is in
    (omega arith, (c.requires.vars, (c.requires.patterns, (subst (λ m. AllZip (IsPair c.args.self.now.sig.now) c.args.ps.now (crossed m)) ts_are c.requires.pairs.across, c.requires.state))))

pub either-returns : goal.either-returns
either-returns t c =
    let ts_are = two_is c.args.ts.now c.index-ts-0.result c.index-ts-1.result c.requires.targets c.index-ts-0.is c.index-ts-1.is in
    found_across c.args.self.now.sig.now (bindings_of c.args.bound.now) c.args.self.now.vars.now c.args.ps.now c.args.ts.now c.index-ts-0.result c.index-ts-1.result ts_are (Asked c.args.self.now.sig.now c.args.rest.now c.args.sums.now)
    c.in_ok-found.found (sym c.is_some.ensures ∙ c.if-is_some.false) c.in_ok-found.ensures c.way-2.result c.way-2.ensures

pub way-take_both-requires-clause-fits : goal.way-take_both-requires-clause-fits
way-take_both-requires-clause-fits t c = untouched_fits c.args.self.now.sig.now (bindings_of c.args.bound.now) c.requires.state.values c.untouched-parts.result c.untouched-parts.ensures

pub way-returns-then-not-can : goal.way-returns-then-not-can
way-returns-then-not-can t c =
    found_never c.args.self.now.sig.now (bindings_of c.args.bound.now) c.args.self.now.vars.now (Asked c.args.self.now.sig.now c.args.rest.now c.args.sums.now) c.untouched-parts.result c.take_both.new.self c.untouched-parts.ensures
    c.args.ps.now (c.args.t.now ∷ c.args.u.now ∷ []) (rw c.if-not-can.true at c.in_ok-can.ensures)

pub way-again-requires : goal.way-again-requires
way-again-requires t c =
    let d = c.args.self.now.sig.now in
    let b = bindings_of c.args.bound.now in
    let after = c.take_both.new.self in
    let taken : IsTakenApart d b c.untouched-parts.result after (AllMake d c.args.ps.now (c.args.t.now ∷ c.args.u.now ∷ [])) (weight_of c.args.ps.now) = rw c.if-not-can.false at c.in_ok-can.ensures in
    let qs = c.as_slice-patterns.ensures.value in
    let us = c.as_slice-targets.ensures.value in
    let light = lighter_left d b c.args.self.now.vars.now (Asked d c.args.rest.now c.args.sums.now) c.untouched-parts.result after c.untouched-parts.ensures c.args.ps.now (c.args.t.now ∷ c.args.u.now ∷ []) taken in
    let heavy = ap (λ l. weight_of (references l)) qs in (
      omega (arith, light, heavy),
      (
        c.requires.vars,
        (
          ap length qs ∙ as_many_left d b after taken.fits ∙ sym (ap length us),
          (
            left_pairs d b after taken.fits c.as_slice-patterns.result.now c.as_slice-targets.result.now qs us,
            record { pairs = c.requires.state.pairs; sums = c.requires.state.sums; values = left_values d b after taken.fits c.as_slice.result.now c.as_slice.ensures.value },
          ),
        ),
      ),
    )

pub way-returns : goal.way-returns
way-returns t c =
    let d = c.args.self.now.sig.now in
    let b = bindings_of c.args.bound.now in
    found_apart d b c.args.self.now.vars.now (Asked d c.args.rest.now c.args.sums.now) c.untouched-parts.result c.take_both.new.self c.untouched-parts.ensures c.args.ps.now (c.args.t.now ∷ c.args.u.now ∷ []) (rw c.if-not-can.false at c.in_ok-can.ensures)
    c.as_slice.result.now c.as_slice-patterns.result.now c.as_slice-targets.result.now c.as_slice.ensures.value c.as_slice-patterns.ensures.value c.as_slice-targets.ensures.value c.again.result c.again.ensures

-- a sum at the start
pub summed-summands-requires-clause-settled : goal.summed-summands-requires-clause-settled
summed-summands-requires-clause-settled t c = c.requires.pair.target

pub summed-count_pieces-requires : goal.summed-count_pieces-requires
summed-count_pieces-requires t c = subst InOrder (sym c.summands.ensures) (parts_in_order c.args.self.now.sig.now c.args.f c.args.t.now c.requires.pair.target)

pub summed-returns-then-lacks_sort : goal.summed-returns-then-lacks_sort
summed-returns-then-lacks_sort t c =
    refused_unsorted c.args.self.now.sig.now c.recall_good.ensures c.args.p.now c.args.t.now c.requires.pair (c.lacks_sort.ensures c.if-lacks_sort.true) (bindings_of c.args.bound.now) c.args.self.now.vars.now
    (Asked c.args.self.now.sig.now c.args.rest.now c.args.sums.now)

pub summed-solve-requires : goal.summed-solve-requires
summed-solve-requires t c =
    let d = c.args.self.now.sig.now in
    let one : SumGoal = record { op = c.args.f; patterns = c.as_slice.result; pieces = c.as_slice-2.result; left = c.as_slice-3.result; seen = 0 } in
    let more = one_more_named one c.args.sums.now c.in_ok-more.more.items c.as_slice-4.result.now c.in_ok-more.ensures c.as_slice-4.ensures.value in
    let same = renamed_same c.in_ok-patterns.patterns.items c.as_slice.result.now c.args-2.result.now (args_of c.args.p.now) c.as_slice.ensures.value c.args-2.ensures.exact c.in_ok-patterns.ensures in
    let small = ap std_sum c.as_slice-3.ensures.value ∙ c.in_ok-counted.ensures.together in
    let w = weight_args c.args.p.now c.args.f c.requires.head in
    let v = weight_of-same (references c.as_slice.result.now) (args_of c.args.p.now) same in
    let z = more_weight one c.args.sums.now c.as_slice-4.result.now more in
    let fits =
    started_fits d c.recall_good.ensures.fits c.args.f c.requires.associative c.args.p.now c.args.t.now c.requires.pair c.requires.head
    c.as_slice.result same c.in_ok-counted.counted (subst (λ l. IsCounted l c.in_ok-counted.counted) c.summands.ensures c.in_ok-counted.ensures) c.as_slice-2.result c.as_slice-2.ensures.value c.as_slice-3.result c.as_slice-3.ensures.value (omega (arith, small)) 0 in (
      omega (arith, w, v, z),
      (c.requires.vars, record { pairs = c.requires.state.pairs; sums = more_fit d one c.args.sums.now c.as_slice-4.result.now more fits c.requires.state.sums; values = c.requires.state.values }),
    )

pub summed-returns : goal.summed-returns
summed-returns t c =
    let d = c.args.self.now.sig.now in
    let one : SumGoal = record { op = c.args.f; patterns = c.as_slice.result; pieces = c.as_slice-2.result; left = c.as_slice-3.result; seen = 0 } in
    let more = one_more_named one c.args.sums.now c.in_ok-more.more.items c.as_slice-4.result.now c.in_ok-more.ensures c.as_slice-4.ensures.value in
    found_summed d c.recall_good.ensures.fits c.args.f c.requires.associative c.args.p.now c.args.t.now c.requires.pair c.requires.head
    one refl (renamed_same c.in_ok-patterns.patterns.items c.as_slice.result.now c.args-2.result.now (args_of c.args.p.now) c.as_slice.ensures.value c.args-2.ensures.exact c.in_ok-patterns.ensures)
    c.in_ok-counted.counted (subst (λ l. IsCounted l c.in_ok-counted.counted) c.summands.ensures c.in_ok-counted.ensures) c.as_slice-2.ensures.value c.as_slice-3.ensures.value
    (bindings_of c.args.bound.now) c.args.self.now.vars.now c.args.rest.now c.as_slice-4.result.now c.args.sums.now c.solve.result c.solve.ensures (more_hold d one c.args.sums.now c.as_slice-4.result.now more)

-- a sum
pub sum-is_hopeless-requires : goal.sum-is_hopeless-requires
sum-is_hopeless-requires t c = c.requires.state.sum_fits

pub sum-returns-then-is_hopeless : goal.sum-returns-then-is_hopeless
sum-returns-then-is_hopeless t c =
    refused_hopeless c.args.self.now.sig.now (bindings_of c.args.bound.now) c.args.self.now.vars.now c.args.goal.now c.requires.state.sum_fits (SumsHold c.args.self.now.sig.now c.args.sums.now) (c.is_hopeless.ensures c.if-is_hopeless.true)

pub sum-pick-requires : goal.sum-pick-requires
sum-pick-requires t c = (
  omega arith,
  (
    c.requires.vars,
    record {
      sum_fits = smaller_fits c.args.self.now.sig.now c.args.goal.now c.requires.state.sum_fits c.args.goal.now.patterns (λ q some. some) c.args.goal.now.left refl (omega arith) c.count-seen.result;
      sums_fit = c.requires.state.sums_fit;
      values = c.requires.state.values;
    },
  ),
)

pub sum-returns-then-not-has_known : goal.sum-returns-then-not-has_known
sum-returns-then-not-has_known t c = c.pick.ensures

pub sum-without_known-requires-clause-fits : goal.sum-without_known-requires-clause-fits
sum-without_known-requires-clause-fits t c = c.requires.state.sum_fits

pub sum-without_known-requires-clause-bound : goal.sum-without_known-requires-clause-bound
sum-without_known-requires-clause-bound t c = c.requires.state.values

pub sum-returns-in-None : goal.sum-returns-in-None
sum-returns-in-None t c =
    let never = subst (LeavesOpen c.args.self.now.sig.now (bindings_of c.args.bound.now) c.args.goal.now) c.in-None.is c.in_ok-without_known.ensures in
    refused_closed c.args.self.now.sig.now (bindings_of c.args.bound.now) c.args.self.now.vars.now c.args.goal.now c.requires.state.sum_fits (SumsHold c.args.self.now.sig.now c.args.sums.now) never

pub sum-pick-requires-2 : goal.sum-pick-requires-2
sum-pick-requires-2 t c =
    let d = c.args.self.now.sig.now in
    let b = bindings_of c.args.bound.now in
    let is_open = subst (LeavesOpen d b c.args.goal.now) c.in-Some.is c.in_ok-without_known.ensures in
    let w = open_weight d b c.args.self.now.vars.now c.args.goal.now c.requires.state.sum_fits (SumsHold d c.args.sums.now) c.in-Some.open is_open c.as_slice.result c.as_slice.ensures.value c.as_slice-2.result c.as_slice-2.ensures.value c.count-seen.result in (
      omega (arith, w),
      (
        c.requires.vars,
        record {
          sum_fits = open_fits d b c.args.self.now.vars.now c.args.goal.now c.requires.state.sum_fits (SumsHold d c.args.sums.now) c.in-Some.open is_open c.as_slice.result c.as_slice.ensures.value c.as_slice-2.result c.as_slice-2.ensures.value c.count-seen.result;
          sums_fit = c.requires.state.sums_fit;
          values = c.requires.state.values;
        },
      ),
    )

pub sum-returns : goal.sum-returns
sum-returns t c =
    let d = c.args.self.now.sig.now in
    let b = bindings_of c.args.bound.now in
    let is_open = subst (LeavesOpen d b c.args.goal.now) c.in-Some.is c.in_ok-without_known.ensures in
    found_open d b c.args.self.now.vars.now c.args.goal.now c.requires.state.sum_fits (SumsHold d c.args.sums.now) c.in-Some.open is_open c.as_slice.result c.as_slice.ensures.value c.as_slice-2.result c.as_slice-2.ensures.value c.count-seen.result c.pick-2.result c.pick-2.ensures

-- the first group of a sum
pub pick-returns-then-not-are_zero : goal.pick-returns-then-not-are_zero
pick-returns-then-not-are_zero t c =
    refused_left c.args.self.now.sig.now (bindings_of c.args.bound.now) c.args.self.now.vars.now c.args.goal.now c.requires.state.sum_fits (SumsHold c.args.self.now.sig.now c.args.sums.now)
    (no_patterns c.args.goal.now (eqb-true (length c.args.goal.now.patterns.now) 0 (sym c.is_empty.ensures ∙ c.if-is_empty.true))) (λ e. false≢true (sym c.if-not-are_zero.true ∙ c.are_zero.ensures.1 e))

pub pick-solve-requires : goal.pick-solve-requires
pick-solve-requires t c = (omega arith, (c.requires.vars, record { pairs = tt; sums = c.requires.state.sums_fit; values = c.requires.state.values }))

pub pick-returns-then-is_empty : goal.pick-returns-then-is_empty
pick-returns-then-is_empty t c =
    found_taken c.args.self.now.sig.now (bindings_of c.args.bound.now) c.args.self.now.vars.now c.args.goal.now c.requires.state.sum_fits (SumsHold c.args.self.now.sig.now c.args.sums.now)
    (no_patterns c.args.goal.now (eqb-true (length c.args.goal.now.patterns.now) 0 (sym c.is_empty.ensures ∙ c.if-is_empty.true))) (c.are_zero.ensures.0 c.if-not-are_zero.false) c.solve.result c.solve.ensures

pub pick-quotients-requires : goal.pick-quotients-requires
pick-quotients-requires t c = c.alike-k.ensures.some

pub pick-choose-requires : goal.pick-choose-requires
pick-choose-requires t c =
    let goal_now = c.args.goal.now in
    let k = c.alike-k.result in
    let limits_are = c.as_slice.ensures.value ∙ c.in_ok-limits.ensures in (
      omega arith,
      (
        c.requires.vars,
        (
          c.requires.state,
          (
            group_of c.args.self.now.sig.now goal_now c.index-goal-0.result k (not_zero (length goal_now.patterns.now) (sym c.is_empty.ensures ∙ c.if-is_empty.false)) c.index-goal-0.is c.alike-k.ensures,
            (
              group_within goal_now k c.alike-k.ensures,
              (
                ap length limits_are ∙ length_quotients k goal_now.left.now,
                choice_within k goal_now.left.now c.as_slice.result.now c.as_slice.result.now limits_are (each_itself c.as_slice.result.now),
              ),
            ),
          ),
        ),
      ),
    )

pub pick-returns-then-k-goal : goal.pick-returns-then-k-goal
pick-returns-then-k-goal t c =
    let d = c.args.self.now.sig.now in
    let k = c.alike-k.result in
    let g = group_of d c.args.goal.now c.index-goal-0.result k (not_zero (length c.args.goal.now.patterns.now) (sym c.is_empty.ensures ∙ c.if-is_empty.false)) c.index-goal-0.is c.alike-k.ensures in
    let all : k ≡ length c.args.goal.now.patterns.now = omega arith in
    found_only d (bindings_of c.args.bound.now) c.args.self.now.vars.now c.args.goal.now c.requires.state.sum_fits (get_or c.args.goal.now.patterns.now 0 c.index-goal-0.result).now k g c.args.sums.now c.as_slice.result.now (c.as_slice.ensures.value ∙ c.in_ok-limits.ensures)
    (all ∙ sym (length_references c.args.goal.now.patterns.now)) c.choose.result c.choose.ensures

pub pick-room-room-requires-clause-fits : goal.pick-room-room-requires-clause-fits
pick-room-room-requires-clause-fits t c = c.requires.state.sum_fits

pub pick-room-room-requires-clause-group : goal.pick-room-room-requires-clause-group
pick-room-room-requires-clause-group t c = group_of c.args.self.now.sig.now c.args.goal.now c.index-goal-0.result c.alike-k.result (not_zero (length c.args.goal.now.patterns.now) (sym c.is_empty.ensures ∙ c.if-is_empty.false)) c.index-goal-0.is c.alike-k.ensures

pub pick-room-room-requires-clause-some : goal.pick-room-room-requires-clause-some
pick-room-room-requires-clause-some t c = c.alike-k.ensures.some

pub pick-room-room-requires-clause-within : goal.pick-room-room-requires-clause-within
pick-room-room-requires-clause-within t c = group_within c.args.goal.now c.alike-k.result c.alike-k.ensures

pub pick-choose_any-requires : goal.pick-choose_any-requires
pick-choose_any-requires t c =
    let k = c.alike-k.result in (
      omega arith,
      (
        c.requires.vars,
        (
          c.requires.state,
          (
            group_of c.args.self.now.sig.now c.args.goal.now c.index-goal-0.result k (not_zero (length c.args.goal.now.patterns.now) (sym c.is_empty.ensures ∙ c.if-is_empty.false)) c.index-goal-0.is c.alike-k.ensures,
            (group_within c.args.goal.now k c.alike-k.ensures, c.as_slice-2.ensures.value ∙ c.in_ok-limits.ensures),
          ),
        ),
      ),
    )

pub pick-returns : goal.pick-returns
pick-returns t c =
    let d = c.args.self.now.sig.now in
    let k = c.alike-k.result in
    let g = group_of d c.args.goal.now c.index-goal-0.result k (not_zero (length c.args.goal.now.patterns.now) (sym c.is_empty.ensures ∙ c.if-is_empty.false)) c.index-goal-0.is c.alike-k.ensures in
    found_choices d (bindings_of c.args.bound.now) c.args.self.now.vars.now c.args.goal.now c.requires.state.sum_fits (get_or c.args.goal.now.patterns.now 0 c.index-goal-0.result).now k g c.args.sums.now c.as_slice-2.result.now (c.as_slice-2.ensures.value ∙ c.in_ok-limits.ensures)
    c.room-room.result c.room-room.ensures c.choose_any.result c.choose_any.ensures

-- choices one after another
pub choose_any-loop-chosen-init : goal.choose_any-loop-chosen-init
choose_any-loop-chosen-init t c =
    let d = c.args.self.now.sig.now in
    let b = bindings_of c.args.bound.now in
    let e = c.in_ok-chosen.ensures in
    record {
      within = subst (IsWithin c.args.room c.args.limits.now) (sym e) (zeros_within c.args.room c.args.limits.now);
      tried =
          subst (IsTried d b c.args.goal.now c.args.p.now c.args.k c.args.limits.now c.args.room c.args.sums.now) (sym e)
          (tried_none d b c.args.self.now.vars.now c.args.goal.now c.requires.state.sum_fits c.args.p.now c.args.k c.requires.group c.args.sums.now c.args.limits.now c.requires.limits c.args.room);
    }

pub choose_any-choose-requires : goal.choose_any-choose-requires
choose_any-choose-requires t c =
    let places = c.loop-chosen.invariant.within.places in
    let js = c.loop-chosen.chosen.items in
    let value = c.as_slice.ensures.value in (
      omega arith,
      (
        c.requires.vars,
        (
          c.requires.state,
          (
            c.requires.group,
            (
              c.requires.within,
              (
                ap length value ∙ as_long c.args.limits.now js places ∙ ap length c.requires.limits ∙ length_quotients c.args.k c.args.goal.now.left.now,
                subst (λ l. AllZip (λ j n. c.args.k * j ≤ n) l c.args.goal.now.left.now) (sym value) (choice_within c.args.k c.args.goal.now.left.now c.args.limits.now js c.requires.limits places),
              ),
            ),
          ),
        ),
      ),
    )

pub choose_any-returns-then-is_some : goal.choose_any-returns-then-is_some
choose_any-returns-then-is_some t c =
    let d = c.args.self.now.sig.now in
    let b = bindings_of c.args.bound.now in
    let vars = c.args.self.now.vars.now in
    let f = subst (λ js. Finds vars (IsSolution d b (ChoiceAsked d c.args.goal.now c.args.p.now c.args.k js c.args.sums.now)) c.in_ok-found.found) c.as_slice.ensures.value c.in_ok-found.ensures in
    found_choice d b vars c.args.goal.now c.requires.state.sum_fits c.args.p.now c.args.k c.requires.group c.args.sums.now c.args.limits.now c.requires.limits c.args.room c.loop-chosen.chosen.items c.loop-chosen.invariant.tried c.loop-chosen.invariant.within c.in_ok-found.found (sym c.is_some.ensures ∙ c.if-is_some.true) f

pub choose_any-advanced-requires-clause-long : goal.choose_any-advanced-requires-clause-long
choose_any-advanced-requires-clause-long t c = as_long c.args.limits.now c.loop-chosen.chosen.items c.loop-chosen.invariant.within.places

pub choose_any-advanced-requires-clause-small : goal.choose_any-advanced-requires-clause-small
choose_any-advanced-requires-clause-small t c = omega (arith, c.loop-chosen.invariant.within.together)

pub choose_any-returns-in-None : goal.choose_any-returns-in-None
choose_any-returns-in-None t c =
    let d = c.args.self.now.sig.now in
    let b = bindings_of c.args.bound.now in
    let vars = c.args.self.now.vars.now in
    let f = subst (λ js. Finds vars (IsSolution d b (ChoiceAsked d c.args.goal.now c.args.p.now c.args.k js c.args.sums.now)) c.in_ok-found.found) c.as_slice.ensures.value c.in_ok-found.ensures in
    tried_all d b vars c.args.goal.now c.requires.state.sum_fits c.args.p.now c.args.k c.requires.group c.args.sums.now c.args.limits.now c.requires.limits c.args.room c.loop-chosen.chosen.items c.loop-chosen.invariant.tried c.in_ok-found.found (sym c.is_some.ensures ∙ c.if-is_some.false) f (sym c.in-None.ensures)

pub choose_any-loop-chosen-smaller-in-Some : goal.choose_any-loop-chosen-smaller-in-Some
choose_any-loop-chosen-smaller-in-Some t c =
    let room = c.args.room in
    let limits = c.args.limits.now in
    let js = c.loop-chosen.chosen.items in
    let r = subst (RisesIf room limits js) (sym c.in-Some.ensures) (rises room limits js c.loop-chosen.invariant.within) in
    let top = place_value_bounded limits c.in-Some.next.items r.within.places in
    omega (arith, r.greater, top)

pub choose_any-loop-chosen-preserved-in-Some : goal.choose_any-loop-chosen-preserved-in-Some
choose_any-loop-chosen-preserved-in-Some t c =
    let d = c.args.self.now.sig.now in
    let b = bindings_of c.args.bound.now in
    let vars = c.args.self.now.vars.now in
    let room = c.args.room in
    let limits = c.args.limits.now in
    let js = c.loop-chosen.chosen.items in
    let r = subst (RisesIf room limits js) (sym c.in-Some.ensures) (rises room limits js c.loop-chosen.invariant.within) in
    let f = subst (λ js. Finds vars (IsSolution d b (ChoiceAsked d c.args.goal.now c.args.p.now c.args.k js c.args.sums.now)) c.in_ok-found.found) c.as_slice.ensures.value c.in_ok-found.ensures in
    record {
      within = r.within;
      tried = tried_one d b vars c.args.goal.now c.requires.state.sum_fits c.args.p.now c.args.k c.requires.group c.args.sums.now limits c.requires.limits room js c.loop-chosen.invariant.tried c.in_ok-found.found (sym c.is_some.ensures ∙ c.if-is_some.false) f c.in-Some.next.items (sym c.in-Some.ensures);
    }

pub choose_any-loop-chosen-smaller : goal.choose_any-loop-chosen-smaller
choose_any-loop-chosen-smaller t c =
    let room = c.args.room in
    let limits = c.args.limits.now in
    let js = c.loop-chosen.chosen.items in
    let r = subst (RisesIf room limits js) (sym c.in-Some.ensures) (rises room limits js c.loop-chosen.invariant.within) in
    let top = place_value_bounded limits c.in-Some.next.items r.within.places in
    omega (arith, r.greater, top)

pub choose_any-loop-chosen-preserved : goal.choose_any-loop-chosen-preserved
choose_any-loop-chosen-preserved t c =
    let d = c.args.self.now.sig.now in
    let b = bindings_of c.args.bound.now in
    let vars = c.args.self.now.vars.now in
    let room = c.args.room in
    let limits = c.args.limits.now in
    let js = c.loop-chosen.chosen.items in
    let r = subst (RisesIf room limits js) (sym c.in-Some.ensures) (rises room limits js c.loop-chosen.invariant.within) in
    let f = subst (λ js. Finds vars (IsSolution d b (ChoiceAsked d c.args.goal.now c.args.p.now c.args.k js c.args.sums.now)) c.in_ok-found.found) c.as_slice.ensures.value c.in_ok-found.ensures in
    record {
      within = r.within;
      tried = tried_one d b vars c.args.goal.now c.requires.state.sum_fits c.args.p.now c.args.k c.requires.group c.args.sums.now limits c.requires.limits room js c.loop-chosen.invariant.tried c.in_ok-found.found (sym c.is_some.ensures ∙ c.if-is_some.false) f c.in-Some.next.items (sym c.in-Some.ensures);
    }

-- one choice
pub choose-whole-requires-clause-fits : goal.choose-whole-requires-clause-fits
choose-whole-requires-clause-fits t c = c.requires.state.sum_fits

pub choose-returns-in-None : goal.choose-returns-in-None
choose-returns-in-None t c =
    let d = c.args.self.now.sig.now in
    let w = subst (IsWhole d c.args.goal.now c.args.chosen.now) c.in-None.is c.in_ok-whole.ensures in
    refused_whole d c.args.goal.now c.requires.state.sum_fits c.args.chosen.now c.requires.long (bindings_of c.args.bound.now) c.args.self.now.vars.now c.args.p.now c.args.k c.args.sums.now w

pub choose-may_make-requires-clause-pair : goal.choose-may_make-requires-clause-pair
choose-may_make-requires-clause-pair t c =
    let d = c.args.self.now.sig.now in
    let fit = c.requires.state.sum_fits in
    let w = subst (IsWhole d c.args.goal.now c.args.chosen.now) c.in-Some.is c.in_ok-whole.ensures in
    let flat_p = (subst (AllByRecursion (IsFlatOf d (kind d fit.rank.result))) c.requires.group.first fit.patterns).0 in
    whole_pair d c.args.goal.now fit c.args.chosen.now c.requires.long (bindings_of c.args.bound.now) c.args.self.now.vars.now c.args.p.now c.args.k c.args.sums.now c.in-Some.t w c.recall_good.ensures.fits flat_p

pub choose-may_make-requires-clause-values : goal.choose-may_make-requires-clause-values
choose-may_make-requires-clause-values t c = c.requires.state.values

pub choose-returns-then-not-may : goal.choose-returns-then-not-may
choose-returns-then-not-may t c =
    let d = c.args.self.now.sig.now in
    let w = subst (IsWhole d c.args.goal.now c.args.chosen.now) c.in-Some.is c.in_ok-whole.ensures in
    refused_made d c.args.goal.now c.requires.state.sum_fits c.args.chosen.now c.requires.long (bindings_of c.args.bound.now) c.args.self.now.vars.now c.args.p.now c.args.k c.args.sums.now c.in-Some.t w
    (c.in_ok-may.ensures c.if-not-may.true)

pub choose-pair-requires : goal.choose-pair-requires
choose-pair-requires t c =
    let d = c.args.self.now.sig.now in
    let b = bindings_of c.args.bound.now in
    let vars = c.args.self.now.vars.now in
    let goal_now = c.args.goal.now in
    let k = c.args.k in
    let fit = c.requires.state.sum_fits in
    let w = subst (IsWhole d goal_now c.args.chosen.now) c.in-Some.is c.in_ok-whole.ensures in
    let first = c.requires.group.first in
    let flat_p = (subst (AllByRecursion (IsFlatOf d (kind d fit.rank.result))) first fit.patterns).0 in
    let others = ap references c.after-others.ensures ∙ references-drop k goal_now.patterns.now in
    let one : SumGoal = record { op = goal_now.op; patterns = c.after-others.result; pieces = goal_now.pieces; left = c.as_slice.result; seen = goal_now.seen } in
    let more = one_more_named one c.args.sums.now c.in_ok-more.more.items c.as_slice-2.result.now c.in_ok-more.ensures c.as_slice-2.ensures.value in
    let x = ap weight_of others in
    let y = weight_of-group k (patterns_of goal_now) c.args.p.now c.requires.group.others c.requires.group.run.some first in
    let z = more_weight one c.args.sums.now c.as_slice-2.result.now more in
    let fits = left_fits d goal_now fit c.args.chosen.now c.requires.long b vars c.args.p.now k c.args.sums.now c.in-Some.t w c.after-others.result c.after-others.ensures c.as_slice.result (c.as_slice.ensures.value ∙ c.in_ok-left.ensures) goal_now.seen in (
      omega (arith, x, y, z),
      (
        c.requires.vars,
        (
          whole_pair d goal_now fit c.args.chosen.now c.requires.long b vars c.args.p.now k c.args.sums.now c.in-Some.t w c.recall_good.ensures.fits flat_p,
          record { pairs = tt; sums = more_fit d one c.args.sums.now c.as_slice-2.result.now more fits c.requires.state.sums_fit; values = c.requires.state.values },
        ),
      ),
    )

pub choose-returns : goal.choose-returns
choose-returns t c =
    let d = c.args.self.now.sig.now in
    let b = bindings_of c.args.bound.now in
    let vars = c.args.self.now.vars.now in
    let goal_now = c.args.goal.now in
    let w = subst (IsWhole d goal_now c.args.chosen.now) c.in-Some.is c.in_ok-whole.ensures in
    let one : SumGoal = record { op = goal_now.op; patterns = c.after-others.result; pieces = goal_now.pieces; left = c.as_slice.result; seen = goal_now.seen } in
    let more = one_more_named one c.args.sums.now c.in_ok-more.more.items c.as_slice-2.result.now c.in_ok-more.ensures c.as_slice-2.ensures.value in
    found_whole d goal_now c.requires.state.sum_fits c.args.chosen.now c.requires.long b vars c.args.p.now c.args.k c.args.sums.now c.in-Some.t w c.after-others.result c.after-others.ensures c.as_slice.result (c.as_slice.ensures.value ∙ c.in_ok-left.ensures) goal_now.seen
    c.pair.result (found_more d one c.args.sums.now c.as_slice-2.result.now more b vars (λ v. inst d v c.args.p.now ≡ c.in-Some.t) c.pair.result c.pair.ensures)
