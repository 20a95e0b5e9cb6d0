-- The law, by its lemmas.
use Rattle.std.proofs.Common.{[], ◌∷◌, inl}
use Rattle.fvn_exploring.specs.Children.{narrowed}
use Rattle.fvn_lifting.proofs.Renaming.{renamed_fit}
use Rattle.fvn_lifting.proofs.Lifting.{irreducible_there, keeps_there, lifts_into_some}
use Rattle.fvn_lifting.proofs.PairTurns.{meeting_lifts, of_one}
use Rattle.fvn_lifting.proofs.laws.whole_expansions_lift.Goals as goal

pub returns : goal.returns
returns c = λ g lists used first v expandable from is children turns s keeps us l.
    let d = g.declarations in
    let rewriting = c.rewriting_is_lawful.ensures d g.equations in
    let coherent = c.rules_are_coherent.ensures d used.good used.completed g.equations used.admissible in
    let renamed = c.renamed_forms_have_the_same_instances.ensures d used.good v.vars (narrowed v) from expandable.flat.terms is s keeps.well_sorted in
    let fits = renamed_fit d used.good v.vars (narrowed v) from expandable.flat.terms is in
    let irreducible = irreducible_there g rewriting coherent first v expandable from fits s keeps renamed.0 renamed.1 in
    lifts_into_some g rewriting coherent first v expandable from fits s keeps renamed.0 renamed.1 lists children
    (λ ws m. c.instances_meet_rules.ensures d g.equations lists used from.terms fits renamed.0 (renamed.1).well_sorted irreducible ws m)
    (meeting_lifts g used.good lists v.vars from fits children renamed.0 (keeps_there g rewriting coherent first v expandable from fits s keeps renamed.0 renamed.1) irreducible turns
    (λ w h there u r. c.instances_meet_rules.ensures d g.equations lists used (w ∷ []) (h, tt) renamed.0 (renamed.1).well_sorted (of_one d g.equations renamed.0 w there) (u ∷ []) (inl (r, tt)))
    (λ at h f heads rule listed met by meet. c.sums_step_in_pairs.ensures d g.equations lists used at h f heads rule listed met renamed.0 by meet)) us l
