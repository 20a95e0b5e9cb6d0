-- One more head or way, as the code finds it.
use Rattle.std.proofs.Common.{◌≡◌, ℕ, ◌<◌, Bool, List, [], ◌∷◌, ◌++◌, map, length, get_or, sym, ap, ◌∙◌, subst, Some, slice_get}
use Rattle.std.proofs.lemmas.Option.{slice_get-get_or}
use Rattle.fvn_terms.specs.declared.declarations.Declarations.{Declarations}
use Rattle.fvn_combine_nodes.specs.States.{class_of}
use Rattle.fvn_purify.specs.Parts.{Outline}
use Rattle.fvn_purify.specs.inner.Options.{IsHeadOptions, IsWayOptions}
use Rattle.fvn_purify.specs.inner.Choices.{chosen, AreStepped, IsLeaf, IsExpansion}
use Rattle.fvn_purify.specs.declared.classes.Head.{Head}
use Rattle.fvn_purify.specs.declared.choosing.Leaf.{Leaf}
use Rattle.fvn_purify.specs.declared.choosing.Partial.{Partial}
use Rattle.fvn_purify.specs.declared.choosing.Partial.TheVariants.{Choosing}
use Rattle.fvn_purify.proofs.Heads.{head_options, few_options}
use Rattle.fvn_purify.proofs.Ways.{way_options, few_ways}
use Rattle.fvn_purify.proofs.Expanding.{heads_expand, ways_expand}

module _ (d : Declarations) (c : Outline) (fit : AreStepped d c) (l : Leaf) (leaf : IsLeaf d c l) where
  pub head_step : (nodes : List ℕ) → nodes ≡ c.places.headed → (n : ℕ) → n ≡ length l.heads → (heads : List Head) → heads ≡ l.heads → (options given : List Head) → IsHeadOptions d c (class_of l.state) heads (get_or nodes n 0) options → given ≡ options →
      (list : List Partial) → list ≡ map (λ h. chosen l.state (l.heads ++ h ∷ []) l.swaps) given → length l.heads < length c.places.headed → IsExpansion d c (Choosing l) list
  head_step nodes same n count heads these options given are from list is more =
      let i = get_or c.places.headed (length l.heads) 0 in
      let at : slice_get c.places.headed (length l.heads) ≡ Some i = slice_get-get_or c.places.headed (length l.heads) 0 more in
      let here : IsHeadOptions d c (class_of l.state) l.heads i options =
      subst (λ m. IsHeadOptions d c (class_of l.state) l.heads (get_or c.places.headed m 0) options) count
      (subst (λ ns. IsHeadOptions d c (class_of l.state) l.heads (get_or ns n 0) options) same (subst (λ hs. IsHeadOptions d c (class_of l.state) hs (get_or nodes n 0) options) these are))
      in
      subst (IsExpansion d c (Choosing l)) (sym (is ∙ ap (map (λ h. chosen l.state (l.heads ++ h ∷ []) l.swaps)) from))
      (heads_expand d c fit l leaf options (head_options d c fit l.state leaf.closed leaf.decided l.heads leaf.heads i at options here) more (few_options d c fit l.state leaf.closed leaf.decided l.heads leaf.heads i at options here))

  pub way_step : (p : ℕ × ℕ) → slice_get c.places.pairs (length l.swaps) ≡ Some p → (options given : List Bool) → IsWayOptions c (class_of l.state) p options → given ≡ options →
      (list : List Partial) → list ≡ map (λ w. chosen l.state l.heads (l.swaps ++ w ∷ [])) given → length l.swaps < length c.places.pairs → IsExpansion d c (Choosing l) list
  way_step p at options given are from list is more =
      subst (IsExpansion d c (Choosing l)) (sym (is ∙ ap (map (λ w. chosen l.state l.heads (l.swaps ++ w ∷ []))) from))
      (ways_expand d c fit l leaf options (way_options d c fit l.state leaf.closed leaf.decided l.swaps leaf.swaps p at options are) more (few_ways d c fit l.state leaf.closed leaf.decided l.swaps leaf.swaps p at options are))
