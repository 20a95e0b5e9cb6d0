-- The sorts that are left decide.
use Rattle.std.proofs.Common.{◌≡◌, drop, Some}
use Rattle.fvn_forms.specs.SortOrder.{sort_number}
use Rattle.fvn_syntax.specs.Names.{bracket, kind_of_all}
use Rattle.fvn_module_names.proofs.vocabulary.Vocabulary.find_bracket.Given as goal

-- the sorts that are left decide
abbrev pub invariant-loop-other : goal.invariant-loop-other
invariant-loop-other l =
    bracket l.self.sorts l.self.kinds l.first l.others ≡ kind_of_all l.self.sorts l.self.kinds (Some (sort_number l.kind)) (drop l.other-index l.others)
