-- The numbers in a rank whose sorts are known.
use Rattle.std.proofs.Common.{◌≡◌, ℕ, ◌<◌, true, false, List, [], ◌∷◌, length, map, Option, Some, None, refl, sym, ap, ◌∙◌, inl, inr, arith}
use Rattle.std.specs.List.{All, list_any}
use Rattle.std.proofs.lemmas.Bool.{or_parts, true≢false}
use Rattle.std.proofs.lemmas.List.Elements.{All-nil, All-cons}
use Rattle.fvn_terms.specs.declared.plain.SortId.{SortId}
use Rattle.fvn_signature_draft.specs.Collected.{Names}
use Rattle.fvn_syntax.specs.Pieces.{Text}
use Rattle.fvn_syntax.specs.Texts.{place, or_end, place_or_end}
use Rattle.fvn_syntax.specs.Names.{sort_at, kind_of, kind_of_all}
use Rattle.fvn_syntax.specs.declared.sorts.RawSort.{RawSort}
use Rattle.fvn_syntax.specs.declared.sorts.RawSort.TheVariants.{Name, Kind}
use Rattle.fvn_syntax.proofs.TextLemmas.{place-below}
use Rattle.fvn_module_syntax.specs.declared.statement.RawRank.{RawRank}
use Rattle.fvn_module_declarations.specs.Operators.{rank_number, rank_of}
use Rattle.fvn_module_names.specs.Faults.{is_none, is_unknown_sort, has_unknown_sort}
use Rattle.fvn_module_names.specs.Vocabulary.{Vocabulary}

module _ (v : Vocabulary) where
  -- the place of a name that is known
  known_place : (w : Text) → (place v.sorts w ≡ None → ⊥) → place_or_end v.sorts w < length v.sorts
  known_place w known = go (place v.sorts w) refl where
    go : (o : Option ℕ) → place v.sorts w ≡ o → or_end v.sorts o < length v.sorts
    go None e = absurd (known e)
    go (Some i) e = place-below v.sorts w i e

  named : (s : RawSort) → is_unknown_sort v.sorts v.ops v.kinds s ≡ false → Names (length v.sorts) (rank_number v.sorts v.ops s)
  named (Name w) h = inl (known_place w (λ e. true≢false (sym (ap (λ o. is_none (sort_at o)) e) ∙ h)))
  named (Kind w ws) h =
      let l = known_place w (λ e. true≢false (sym (none ws (sort_at (place v.sorts w)) (ap sort_at e)) ∙ h)) in
      inr (omega arith, omega arith) where
        without : (ws : List Text) → is_none (kind_of_all v.sorts v.kinds None ws) ≡ true
        without [] = refl
        without (x ∷ xs) = refl

        none : (ws : List Text) (o : Option SortId) → o ≡ None → is_none (kind_of_all v.sorts v.kinds (kind_of v.kinds o) ws) ≡ true
        none ws o e = ap (λ p. is_none (kind_of_all v.sorts v.kinds (kind_of v.kinds p) ws)) e ∙ without ws

  all_named : (ss : List RawSort) → list_any (is_unknown_sort v.sorts v.ops v.kinds) ss ≡ false → All (Names (length v.sorts)) (map (rank_number v.sorts v.ops) ss)
  all_named [] h = All-nil (Names (length v.sorts))
  all_named (s ∷ ss) h =
      let r = or_parts (is_unknown_sort v.sorts v.ops v.kinds s) (list_any (is_unknown_sort v.sorts v.ops v.kinds) ss) h in
      All-cons (Names (length v.sorts)) (rank_number v.sorts v.ops s) (map (rank_number v.sorts v.ops) ss) (named s r.0) (all_named ss r.1)

  -- a rank without an unknown sort names sorts, or kinds of sorts
  pub rank_named : (r : RawRank) → has_unknown_sort v.sorts v.ops v.kinds r ≡ false →
      All (Names (length v.sorts)) (rank_of v.sorts v.ops r).args × Names (length v.sorts) (rank_of v.sorts v.ops r).result
  rank_named r h =
      let p = or_parts (list_any (is_unknown_sort v.sorts v.ops v.kinds) r.args) (is_unknown_sort v.sorts v.ops v.kinds r.result) h in
      (all_named r.args p.0, named r.result p.1)
