-- Terms with a form put in place of a part of one of them.
use Rattle.std.proofs.Common.{◌≡◌, ◌<◌, ◌+◌, ℕ, List, ◌∷◌, ◌++◌, take, drop, length, get_or, Some, sym, ◌∙◌, subst}
use Rattle.std.specs.Prelude.{slice_get}
use Rattle.std.proofs.lemmas.Option.{slice_get_within, get_or_from_slice_get}
use Rattle.fvn_terms.specs.declared.declarations.Declarations.{Declarations}
use Rattle.fvn_forms.specs.Flat.{FlatTerm}
use Rattle.fvn_flat.specs.Fits.{Fits, AllFit}
use Rattle.fvn_flat.proofs.Instances.{each_at}
use Rattle.fvn_places.specs.Paths.{LeadsTo}
use Rattle.fvn_places.specs.Putting.{CanPut, PutAs}
use Rattle.fvn_places.proofs.Replacing.{split_at, each_replaced}
use Rattle.fvn_narrow.specs.inner.Turns.{CanReplace, AreMembers}

module _ (d : Declarations) (terms : List FlatTerm) (member : ℕ) (path : List ℕ) (given : FlatTerm) where
  module _ (can : CanReplace d terms member path given) where
    pub is_within : member < length terms
    is_within = slice_get_within terms member can.term can.is

    -- the member
    module _ (t : FlatTerm) (is : t ≡ get_or terms member t) where
      term_is : t ≡ can.term
      term_is = is ∙ get_or_from_slice_get terms member can.term t can.is

      pub member_at_fits : AllFit d terms → Fits d t
      member_at_fits fit = each_at (Fits d) terms fit member t is_within is

      pub can_put : CanPut d path t given
      can_put = subst (λ w. CanPut d path w given) (sym term_is) can.can

      pub are_members : (u : FlatTerm) (all : List FlatTerm) → PutAs d path t given u → all ≡ take member terms ++ u ∷ drop (member + 1) terms → AreMembers d terms member path given all
      are_members u all p e = record { term = can.term; is = can.is; new = u; put_there = subst (λ w. PutAs d path w given u) term_is p; all_are = e }

  -- they fit
  pub members_fit : (all : List FlatTerm) → AreMembers d terms member path given all → AllFit d terms → (term at : FlatTerm) → slice_get terms member ≡ Some term → LeadsTo path term at → AllFit d all
  members_fit all m fit term at is leads =
      let same : term ≡ m.term = one term m.term (sym is ∙ m.is) in
      let put = m.put_there at (subst (λ w. LeadsTo path w at) same leads) in
      subst (AllFit d) (sym m.all_are) (each_replaced (Fits d) (take member terms) m.term m.new (drop (member + 1) terms) (subst (AllFit d) (split_at terms member m.term m.is) fit) put.fits)
    where
      one : (a b : FlatTerm) → Some a ≡ Some b → a ≡ b
      one a b e = cc
