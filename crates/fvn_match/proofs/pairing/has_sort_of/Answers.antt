-- A term of a kind has each sort that is the kind.
use Rattle.std.proofs.Common.{refl, sym, ◌∙◌, subst}
use Rattle.std.specs.Prelude.{◌↔◌, IsTrue}
use Rattle.fvn_terms.specs.Signature.{AtOrBelow}
use Rattle.fvn_forms.proofs.SortTests.{same_sort-true}
use Rattle.fvn_match.proofs.PairingSteps.{has_kind_itself}
use Rattle.fvn_match.proofs.pairing.has_sort_of.Goals as goal

pub returns-then-eq : goal.returns-then-eq
returns-then-eq c = (
  λ _. has_kind_itself c.args.sig.now c.recall_good.ensures c.args.x c.args.t.now c.requires (sym c.kind.ensures.exact ∙ same_sort-true c.kind.result c.args.x.sort (sym c.eq.ensures ∙ c.if-eq.true)),
  λ _. refl,
)

pub least_sort-requires : goal.least_sort-requires
least_sort-requires c = record { flat = c.requires.target; kinded = (c.requires.of_kind, c.requires.target_kind) }

pub returns : goal.returns
returns c = subst (λ s. IsTrue c.leq.result ↔ AtOrBelow c.args.sig.now s c.args.x.sort) c.least_sort.ensures.exact c.leq.ensures
