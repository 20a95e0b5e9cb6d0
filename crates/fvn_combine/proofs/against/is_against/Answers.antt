-- What is noted of the class is no tag of it.
use Rattle.std.proofs.Common.{sym, ◌∙◌, subst, Contains}
use Rattle.std.proofs.lemmas.Bool.{false≢true}
use Rattle.fvn_flat.specs.Partitions.{HasNoIdentity}
use Rattle.fvn_combine.proofs.against.is_against.Goals as goal

pub returns-else-not-is_user : goal.returns-else-not-is_user
returns-else-not-is_user c t = record {
  head = c.in-Some.g;
  noted = c.in-Some.is;
  some = λ bare. false≢true (sym c.if-has_no_identity.false ∙ c.has_no_identity.ensures.1 (subst HasNoIdentity (sym c.axioms.ensures) bare));
  user = subst (λ l. Contains l c.in-Some.g) c.as_slice.ensures (c.is_user.ensures c.if-not-is_user.false);
  other = c.is_other.ensures t;
}
