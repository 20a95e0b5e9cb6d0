-- A term and the identity make a sum of the term's sort.
use Rattle.std.proofs.Common.{◌≡◌, List, [], ◌∷◌, map, refl, ◌∙◌, Some}
use Rattle.fvn_terms.specs.declared.plain.OpId.{OpId}
use Rattle.fvn_terms.specs.declared.plain.SortId.{SortId}
use Rattle.fvn_terms.specs.declared.declarations.Declarations.{Declarations}
use Rattle.fvn_terms.specs.Term.{none}
use Rattle.fvn_terms.specs.Signature.{axioms, kind, HaveKinds}
use Rattle.fvn_terms.specs.Equality.{identity}
use Rattle.fvn_forms.specs.Good.{IsGood, IsOfKind, TakesKinds}
use Rattle.fvn_forms.specs.Ranks.{result}
use Rattle.fvn_forms.proofs.Results.{result-kind}
use Rattle.fvn_combine_complete.specs.Neutral.{Absorbs}
use Rattle.fvn_sort_bounds.specs.Admitting.{AdmitsSum}
use Rattle.fvn_combine_bounds.specs.Laws.{NeutralOperatorsAdmitSums}

none_taken : (d : Declarations) (ks : List SortId) → HaveKinds d none ks → [] ≡ ks
none_taken d [] h = refl
none_taken d (k ∷ ks) h = absurd h

-- where the sum of a term of the sort and the identity has the sort, the sort admits a sum
pub absorbing_admits : (d : Declarations) → IsGood d → (f e : OpId) → identity (axioms d f) ≡ Some e → (s : SortId) → IsOfKind d f s → Absorbs d f e s → AdmitsSum d f s
absorbing_admits d good f e is s fits absorbs =
    let unit = good.fits.identity f e fits.rank is fits.listed in
    let takes : TakesKinds d e [] = record { rank = unit.rank; listed = unit.listed; kinds = none_taken d (map (kind d) unit.rank.args) unit.args } in
    let of_unit : IsOfKind d f (result d e []) =
    record { rank = fits.rank; listed = fits.listed; kind_is = result-kind d good e [] unit.rank takes unit.listed ∙ unit.result } in
    record { left = s; right = result d e []; left_fits = fits; right_fits = of_unit; below = absorbs }

pub neutral_admit : NeutralOperatorsAdmitSums
neutral_admit d good f neutral s fits = absorbing_admits d good f neutral.unit neutral.is_identity s fits (neutral.absorbs s fits)
