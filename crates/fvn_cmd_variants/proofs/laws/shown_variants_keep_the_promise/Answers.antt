-- What is promised of variants holds of the lines that are shown.
use Rattle.fvn_cmd_variants.proofs.Shown.{shown_variants_keep}
use Rattle.fvn_cmd_variants.proofs.laws.shown_variants_keep_the_promise.Goals as goal

pub returns : goal.returns
returns c =
    shown_variants_keep c.loaded_modules_are_good.ensures c.queries_are_kinded.ensures c.rewriting_is_lawful.ensures c.sequences_are_lawful.ensures c.lists_are_lawful.ensures c.covering_is_reflexive_and_transitive.ensures
    c.equal_lines_cover.ensures c.lines_denote_one_variant.ensures
