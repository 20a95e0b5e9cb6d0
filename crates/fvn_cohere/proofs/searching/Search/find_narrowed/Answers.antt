-- A search among fewer shapes.
use Rattle.std.proofs.Common.{sym, subst}
use Rattle.std.specs.List.{AllZip}
use Rattle.fvn_cohere.specs.inner.Narrowing.{IsNarrowed}
use Rattle.fvn_cohere.proofs.Hopeless.{stays_allowed}
use Rattle.fvn_cohere.proofs.Narrowed.{narrowed_offers, finds, finds_none}
use Rattle.fvn_cohere.proofs.searching.Search.find_narrowed.Goals as goal

pub excludes_all-requires : goal.excludes_all-requires
excludes_all-requires c = record {
  posed = record {
    identities_are = c.requires.posed.identities_are;
    left_term = c.requires.posed.left_term;
    right_term = c.requires.posed.right_term;
    offers = narrowed_offers c.args.self.now c.args.self.now.unchosen.now c.as_slice-left_over.result.now (subst (AllZip (IsNarrowed c.args.self.now) c.args.self.now.unchosen.now) (sym c.as_slice-left_over.ensures.value) c.in_ok-some.ensures) c.requires.posed.offers;
  };
}

pub returns-then-excludes_all : goal.returns-then-excludes_all
returns-then-excludes_all c =
    finds_none c.args.self.now c.requires.posed c.as_slice-left_over.result.now (subst (AllZip (IsNarrowed c.args.self.now) c.args.self.now.unchosen.now) (sym c.as_slice-left_over.ensures.value) c.in_ok-some.ensures)
    (c.excludes_all.ensures c.if-excludes_all.true)

pub find-found-requires-clause-posed : goal.find-found-requires-clause-posed
find-found-requires-clause-posed c = record {
  identities_are = c.requires.posed.identities_are;
  left_term = c.requires.posed.left_term;
  right_term = c.requires.posed.right_term;
  offers = narrowed_offers c.args.self.now c.args.self.now.unchosen.now c.as_slice-left_over.result.now (subst (AllZip (IsNarrowed c.args.self.now) c.args.self.now.unchosen.now) (sym c.as_slice-left_over.ensures.value) c.in_ok-some.ensures) c.requires.posed.offers;
}

pub find-found-requires-clause-allowed : goal.find-found-requires-clause-allowed
find-found-requires-clause-allowed c = stays_allowed c.args.self.now.sig.now

pub returns : goal.returns
returns c =
    finds c.args.self.now c.requires.posed c.as_slice-left_over.result.now (subst (AllZip (IsNarrowed c.args.self.now) c.args.self.now.unchosen.now) (sym c.as_slice-left_over.ensures.value) c.in_ok-some.ensures)
    c.find-found.result c.find-found.ensures
