-- Where the same is found, the first least result is the same.
use Rattle.std.proofs.Common.{◌≡◌, Bool, true, false, not, ◌&&◌, List, [], ◌∷◌, refl, sym, ap, ◌∙◌}
use Rattle.std.specs.Prelude.{Some, cond, find, is_some}
use Rattle.std.specs.List.{list_all}
use Rattle.fvn_terms.specs.declared.plain.SortId.{SortId}
use Rattle.fvn_terms.specs.declared.declarations.Rank.{Rank}
use Rattle.fvn_terms.specs.declared.declarations.Declarations.{Declarations}
use Rattle.fvn_forms.specs.SortOrder.{at_or_below}
use Rattle.fvn_forms.specs.Ranks.{results, is_lowest}
use Rattle.fvn_signature.specs.FoundAlike.{FindAlike}
use Rattle.fvn_signature.proofs.FirstSorts.{find-agree}

-- a test of all finds none that fails
all_by_find : (p : SortId → Bool) (ss : List SortId) → list_all p ss ≡ not (is_some (find (λ s. not (p s)) ss))
all_by_find p [] = refl
all_by_find p (s ∷ ss) = go (p s) (all_by_find p ss) where
  go : (b : Bool) → list_all p ss ≡ not (is_some (find (λ s. not (p s)) ss)) → b && list_all p ss ≡ not (is_some (cond (not b) (Some s) (find (λ s. not (p s)) ss)))
  go true rest = rest
  go false rest = refl

-- the first least result is the same
pub same_lowest : (some all : List Rank) → FindAlike some all → (d : Declarations) (args : List SortId) → find (is_lowest d (results d some args)) (results d some args) ≡ find (is_lowest d (results d all args)) (results d all args)
same_lowest some all alike d args =
    let tests : (s : SortId) → is_lowest d (results d some args) s ≡ is_lowest d (results d all args) s = λ s. all_by_find (at_or_below d s) (results d some args) ∙ ap (λ o. not (is_some o)) (alike d args (λ q. not (at_or_below d s q))) ∙ sym (all_by_find (at_or_below d s) (results d all args)) in
    find-agree (is_lowest d (results d some args)) (is_lowest d (results d all args)) tests (results d some args) ∙ alike d args (is_lowest d (results d all args))
