-- What admissible equations keep.
use Rattle.fvn_rewrite.specs.Usable.{equations_by}
use Rattle.fvn_narrow.proofs.narrower.NarrowerExpander.rest.Goals as goal

pub returns-clause-normal : goal.returns-clause-normal
returns-clause-normal g c = c.in_ok-found.ensures

pub returns-clause-lawful : goal.returns-clause-lawful
returns-clause-lawful g c =
    let r = c.args.self.now.rewriter in
    let k = c.recall.ensures in
    let admissible = k.usable.admissible in record {
      one_kind = λ e i. (admissible e i).kinded.kinds;
      brings_none = λ left right i. (admissible (left, right) i).kinded.brings_none;
      variables = (c.rules_are_coherent.ensures r.signature k.good k.completed (equations_by r) admissible).variables;
      decided = (c.normal_forms_are_lawful.ensures r.signature k.good k.completed (equations_by r) admissible).decided;
    }
