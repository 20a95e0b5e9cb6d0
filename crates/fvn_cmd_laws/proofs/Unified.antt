-- What is promised of an answer to a problem follows from what was found and how it ended.
use Rattle.std.proofs.Common.{◌≡◌, ℕ, zero, suc, List, [], ◌∷◌, length, refl, sym, ap, ◌∙◌, subst, arith}
use Rattle.std.specs.Prelude.{All}
use Rattle.std.proofs.lemmas.List.Elements.{All-head}
use Rattle.fvn_base.specs.declared.limits.TheConstants.{UNIFIERS}
use Rattle.fvn_terms.specs.Substitution.{Substitution}
use Rattle.fvn_terms.specs.CompleteSets.{IsCompleteSet, IsApart}
use Rattle.fvn_terms.proofs.Instances.{shortest_unifiers}
use Rattle.fvn_module.specs.Contents.{Contents}
use Rattle.fvn_problems.specs.declared.problem.Problem.{Problem}
use Rattle.fvn_answer.specs.declared.end.End.{End}
use Rattle.fvn_answer.specs.declared.end.End.TheVariants.{Complete, Levels, Variants, Steps, Size, Basis, Unifiers, Sorts}
use Rattle.fvn_cmd.specs.declared.status.Status.{Status}
use Rattle.fvn_cmd.specs.declared.status.Status.TheVariants.{Nothing}
use Rattle.fvn_cmd.specs.Statuses.{IsAnswering}
use Rattle.fvn_cmd.specs.Headline.{AreAll}
use Rattle.fvn_cmd_vunify.specs.CmdUnifyAsked.{pairs_of, Unifies, IsInstanceOf, CannotBeUnified, unifiers_of}
use Rattle.fvn_cmd.specs.Ends.{status_of_end}
use Rattle.fvn_cmd_vunify.specs.CmdUnifyEnds.{IsCauseOf, StaysWithinBounds}
use Rattle.fvn_cmd_vunify.specs.CmdUnifySolutions.{Found, IsWhole, IsSolution}
use Rattle.fvn_cmd_laws.specs.Unified.{IsNothingExact, HasFewUnifiers, IsCountOfUnifiers}
use Rattle.fvn_cmd_laws.specs.Laws.{AnswersAreExact}

pub end_answering : (e : End) → IsAnswering (status_of_end e)
end_answering (Complete zero) = tt
end_answering (Complete (suc n)) = tt
end_answering (Levels n) = tt
end_answering (Variants n) = tt
end_answering (Steps n t) = tt
end_answering (Size n) = tt
end_answering (Basis f) = tt
end_answering (Unifiers n) = tt
end_answering (Sorts n) = tt

end_nothing : (e : End) → status_of_end e ≡ Nothing → e ≡ Complete 0
end_nothing (Complete zero) h = refl
end_nothing (Complete (suc n)) h = cc
end_nothing (Levels n) h = cc
end_nothing (Variants n) h = cc
end_nothing (Steps n t) h = cc
end_nothing (Size n) h = cc
end_nothing (Basis f) h = cc
end_nothing (Unifiers n) h = cc
end_nothing (Sorts n) h = cc

module _ (m : Contents) (p : Problem) where
  no_values : (values : List Substitution) → All (Unifies m p) values → CannotBeUnified m p → values ≡ []
  no_values [] sound none = refl
  no_values (v ∷ vs) sound none = absurd (none v (All-head (Unifies m p) v vs sound))

  module _ (found : Found) (solution : IsSolution m p found) where
    -- an end that is complete tells the number of unifiers
    whole-of : (n : ℕ) → found.end ≡ Complete n → IsWhole found
    whole-of n e = e ∙ ap Complete (subst (IsCauseOf m p found.values) e solution.cause)

    all-of : (n : ℕ) → found.end ≡ Complete n → AreAll (unifiers_of m p) found.values
    all-of n e = solution.headline.all (whole-of n e) tt

    none_found : found.end ≡ Complete 0 → CannotBeUnified m p
    none_found e u h =
        let none : 0 ≡ length found.values = subst (IsCauseOf m p found.values) e solution.cause in
        let some = (all-of 0 e).complete u h in
        let l = some.2 in
        omega (arith, none, l)

    complete-set : (n : ℕ) → found.end ≡ Complete n → IsCompleteSet (Unifies m p) (IsInstanceOf m p) found.values
    complete-set n e = record { sound = solution.headline.sound; complete = (all-of n e).complete }

    module _ (free : StaysWithinBounds m p) where
      whole-end : (e : End) → IsCauseOf m p found.values e → e ≡ Complete (length found.values)
      whole-end (Complete n) c = ap Complete c
      whole-end (Size n) c = absurd (free.small c.1)
      whole-end (Basis f) c = absurd (free.basis f c)
      whole-end (Unifiers n) c = absurd (free.few c.1)
      whole-end (Levels n) c = absurd c
      whole-end (Variants n) c = absurd c
      whole-end (Steps n t) c = absurd c
      whole-end (Sorts n) c = absurd c

      -- where no bound is met, all were found
      whole : IsWhole found
      whole = whole-end found.end solution.cause

    module _ (free : HasFewUnifiers m p) where
      -- the limit was not reached
      not_full : length found.values ≡ UNIFIERS → ⊥
      not_full full = free.few (record {
        values = found.values;
        sound = solution.headline.sound;
        drawn = solution.drawn;
        apart = solution.headline.apart;
        count = full;
      })

      few-end : (e : End) → found.end ≡ e → IsCauseOf m p found.values e → e ≡ Complete (length found.values)
      few-end (Complete n) is c = ap Complete c
      few-end (Size n) is c = absurd (free.small c.1)
      few-end (Basis f) is c = absurd (free.basis f c)
      few-end (Unifiers n) is c = absurd (not_full (solution.full.0 (is ∙ ap Unifiers c.0)))
      few-end (Levels n) is c = absurd c
      few-end (Variants n) is c = absurd c
      few-end (Steps n t) is c = absurd c
      few-end (Sorts n) is c = absurd c

      few : IsWhole found
      few = few-end found.end refl solution.cause

  -- Nothing comes where it should
  nothing : (found : Found) → IsSolution m p found → (s : Status) → s ≡ status_of_end found.end → IsNothingExact m p s found
  nothing found solution s is = record {
    end_is = (λ e. end_nothing found.end (sym is ∙ e), λ e. is ∙ ap status_of_end e);
    only = λ e. none_found found solution (end_nothing found.end (sym is ∙ e));
    no_line = no_values found.values solution.headline.sound;
  }

  -- a complete answer is no longer than another complete set, and where none of that is an instance of another, no shorter
  count : (found : Found) → IsSolution m p found → (n : ℕ) → found.end ≡ Complete n → IsCountOfUnifiers m p n
  count found solution n e values complete apart =
      let told : n ≡ length found.values = subst (IsCauseOf m p found.values) e solution.cause in
      let less = (all-of found solution n e).shortest values complete in
      let more = shortest_unifiers m.signature p.vars (pairs_of p.pairs) values complete apart found.values (complete-set found solution n e) in
      omega (arith, told, less, more)

  -- two complete answers are equally long
  one_count : (found other : Found) → IsSolution m p found → IsSolution m p other → (n k : ℕ) → found.end ≡ Complete n → other.end ≡ Complete k → n ≡ k
  one_count found other a b n k e f =
      let told : k ≡ length other.values = subst (IsCauseOf m p other.values) f b.cause in
      sym (told ∙ count found a n e other.values (complete-set other b k f) b.headline.apart)

pub answers_exact : AnswersAreExact
answers_exact = record {
  nothing = nothing;
  whole = whole;
  few = few;
  count = count;
  one_count = one_count;
}
