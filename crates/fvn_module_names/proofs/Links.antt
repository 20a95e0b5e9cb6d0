-- Sorts that pairs link.
use Rattle.std.proofs.Common.{List, []}
use Rattle.std.specs.List.{Contains}
use Rattle.fvn_terms.specs.declared.plain.SortId.{SortId}
use Rattle.fvn_forms.proofs.SortTests.{reaches-self, reaches-trans}
use Rattle.fvn_signature_draft.specs.declared.collected.Collected.{Collected}
use Rattle.fvn_signature_draft.specs.Collected.{both_ways}
use Rattle.fvn_signature_draft.proofs.Parts.{joins-sym, joins-below}
use Rattle.fvn_module_names.specs.inner.Joining.{AreLinked}

module _ (ps : List (SortId × SortId)) where
  -- what has this order and nothing else
  abbrev with_order : Collected
  with_order = record { sorts = 0; below = ps; operators = 0; declarations = [] }

  pub linked-self : (s : SortId) → AreLinked ps s s
  linked-self = reaches-self (both_ways ps)

  pub linked-trans : (s q r : SortId) → AreLinked ps s q → AreLinked ps q r → AreLinked ps s r
  linked-trans = reaches-trans (both_ways ps)

  pub linked-sym : (s q : SortId) → AreLinked ps s q → AreLinked ps q s
  linked-sym = joins-sym with_order

  pub linked-pair : (s q : SortId) → Contains ps (s, q) → AreLinked ps s q
  linked-pair = joins-below with_order
