-- Operators with the same declarations give the same results.
use Rattle.std.proofs.Common.{◌≡◌, ℕ, ◌<◌, List, [], ◌∷◌, ◌++◌, map, length, refl, sym, ap, subst, ◌∙◌}
use Rattle.std.specs.Prelude.{find, unwrap_or}
use Rattle.fvn_terms.specs.declared.plain.OpId.{OpId}
use Rattle.fvn_terms.specs.declared.plain.SortId.{SortId}
use Rattle.fvn_terms.specs.declared.declarations.Rank.{Rank}
use Rattle.fvn_terms.specs.declared.declarations.OpDecl.{OpDecl}
use Rattle.fvn_terms.specs.declared.declarations.Declarations.{Declarations}
use Rattle.fvn_terms.specs.Signature.{declared}
use Rattle.fvn_forms.specs.Ranks.{kind_rank, swaps, results, is_lowest, first_result, result}
use Rattle.fvn_signature.specs.FirstSorts.{first_sorts}
use Rattle.fvn_signature.specs.Drafts.{IsTable}
use Rattle.fvn_signature_draft.specs.Alike.{AreAlike}

module _ (d : Declarations) where
  -- the ranks that serve what is so declared
  abbrev pub serving : OpDecl → List Rank
  serving o = let written = o.ranks ++ map (kind_rank d) o.ranks in written ++ swaps o.axioms written

  -- what is so declared gives over these sorts
  abbrev given : OpDecl → List SortId → SortId
  given o ss = let rs = results d (serving o) ss in unwrap_or (find (is_lowest d rs) rs) (first_result d o.ranks)

  results_given : (f : OpId) → result d f ≡ given (declared d f)
  unfolding result
  results_given f = refl

module _ (d : Declarations) (f g : OpId) (alike : AreAlike d f g) where
  pub same_results : result d f ≡ result d g
  same_results = results_given d f ∙ ap (given d) alike ∙ sym (results_given d g)

  pub alike_table : (n : ℕ) (rows : List (List SortId)) → IsTable d f n rows → IsTable d g n rows
  alike_table n rows = subst (λ (r : List SortId → SortId). 0 < length rows → (rows ≡ map (λ s. map (λ q. r (s ∷ q ∷ [])) (first_sorts n)) (first_sorts n))) same_results
