-- The law, by its lemmas.
use Rattle.fvn_rewrite_laws.specs.Kinds.{HaveOneKind}
use Rattle.fvn_rewrite_normal_forms.proofs.Deciding.{reducible_or_not, list_reducible_or_not}
use Rattle.fvn_rewrite_normal_forms.proofs.Normalising.{normal_form, normal_forms_within, normalised_substitution, unifier_too, within_too, stays_too}
use Rattle.fvn_rewrite_normal_forms.proofs.laws.normal_forms_are_lawful.Goals as goal

pub returns : goal.returns
returns c = λ d good completed equations admissible.
    let kinds : HaveOneKind d equations = λ equation i. (admissible equation i).kinded.kinds in
    let laws = c.rewriting_is_lawful.ensures d equations in
    let sequences = c.sequences_are_lawful.ensures d equations in
    let lists = c.lists_are_lawful.ensures d equations in
    let kinded = c.kinded_theories_are_lawful.ensures d good.fits equations kinds in
    let coherence = c.rules_are_coherent.ensures d good completed equations admissible in
    let decided = reducible_or_not d good completed equations kinds laws sequences coherence in
    let decided_lists = list_reducible_or_not d good completed equations kinds laws sequences coherence in
    record {
      decided = decided;
      lists = decided_lists;
      normal_forms = normal_form d equations kinded decided;
      list_normal_forms = normal_forms_within d good.fits equations kinded decided_lists;
      normalised = λ ends decreasing s sorted. normalised_substitution d equations kinded (normal_form d equations kinded decided ends) (c.sequences_keep_sorts.ensures d good completed equations admissible decreasing) s sorted;
      solutions = λ s e n. unifier_too d equations laws sequences s e n (c.theory_equality_is_lawful.ensures d equations);
      within = λ s e n. within_too d equations laws sequences s e n lists;
      stay = λ s e n. stays_too d equations laws sequences s e n;
    }
