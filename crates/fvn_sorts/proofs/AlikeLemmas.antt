-- Operators with the same declarations have the same faults.
use Rattle.std.proofs.Common.{◌≡◌, List, [], ◌∷◌, sym, subst}
use Rattle.std.specs.List.{Contains}
use Rattle.fvn_terms.specs.declared.plain.OpId.{OpId}
use Rattle.fvn_terms.specs.declared.plain.SortId.{SortId}
use Rattle.fvn_terms.specs.declared.declarations.Rank.{Rank}
use Rattle.fvn_terms.specs.declared.declarations.OpDecl.{OpDecl}
use Rattle.fvn_terms.specs.declared.declarations.Declarations.{Declarations}
use Rattle.fvn_terms.specs.Signature.{declared}
use Rattle.fvn_terms.specs.Equality.{IsAssociative}
use Rattle.fvn_forms.specs.Good.{TakesKinds, IsOfKind, Associates}
use Rattle.fvn_forms.specs.Ranks.{Serves, IsResult}
use Rattle.fvn_signature_draft.specs.declared.collected.Collected.{Collected}
use Rattle.fvn_signature_draft.specs.Collected.{completed}
use Rattle.fvn_sorts.specs.Faults.{HasNoResult, HasBadBrackets}
use Rattle.fvn_signature_draft.specs.Alike.{AreAlike}
use Rattle.fvn_signature_draft.proofs.AlikeLemmas.{serving, same_results}

module _ (d : Declarations) (f g : OpId) (alike : AreAlike d f g) where
  alike_listed : (r : Rank) → Contains (declared d g).ranks r → Contains (declared d f).ranks r
  alike_listed r = subst (λ (o : OpDecl). Contains o.ranks r) (sym alike)

  alike_serves : (ss : List SortId) (r : SortId) → Serves d g ss r → Serves d f ss r
  alike_serves ss r h = record { rank = h.rank; listed = subst (λ (o : OpDecl). Contains (serving d o) h.rank) (sym alike) h.listed; fits = h.fits; gives = h.gives }

  serves_alike : (ss : List SortId) (r : SortId) → Serves d f ss r → Serves d g ss r
  serves_alike ss r h = record { rank = h.rank; listed = subst (λ (o : OpDecl). Contains (serving d o) h.rank) alike h.listed; fits = h.fits; gives = h.gives }

  alike_kinds : (ss : List SortId) → TakesKinds d g ss → TakesKinds d f ss
  alike_kinds ss h = record { rank = h.rank; listed = alike_listed h.rank h.listed; kinds = h.kinds }

  result_alike : (ss : List SortId) (r : SortId) → IsResult d f ss r → IsResult d g ss r
  result_alike ss r h = record { serves = serves_alike ss r h.serves; least = λ q k. h.least q (alike_serves ss q k) }

  alike_of_kind : (s : SortId) → IsOfKind d g s → IsOfKind d f s
  alike_of_kind s h = record { rank = h.rank; listed = alike_listed h.rank h.listed; kind_is = h.kind_is }

  alike_associates : (s q r : SortId) → Associates d f s q r → Associates d g s q r
  alike_associates s q r = subst (λ (give : List SortId → SortId). give (give (s ∷ q ∷ []) ∷ r ∷ []) ≡ give (s ∷ give (q ∷ r ∷ []) ∷ [])) (same_results d f g alike)

module _ (c : Collected) (d : Declarations) (is : d ≡ completed c) (f g : OpId) (alike : AreAlike d f g) where
  same : AreAlike (completed c) f g
  same = subst (λ (e : Declarations). AreAlike e f g) is alike

  pub alike_no_result : (ss : List SortId) → HasNoResult c g ss → HasNoResult c f ss
  alike_no_result ss h = (alike_kinds (completed c) f g same ss h.0, λ r k. h.1 r (result_alike (completed c) f g same ss r k))

  pub alike_brackets : (s q r : SortId) → HasBadBrackets c g s q r → HasBadBrackets c f s q r
  alike_brackets s q r h = record {
    associative = subst (λ (o : OpDecl). IsAssociative o.axioms) (sym same) h.associative;
    first = alike_of_kind (completed c) f g same s h.first;
    second = alike_of_kind (completed c) f g same q h.second;
    third = alike_of_kind (completed c) f g same r h.third;
    bad = λ a. h.bad (alike_associates (completed c) f g same s q r a);
  }
