-- A declaration is added where its code is new.
use Rattle.std.proofs.Common.{◌≡◌, ℕ, ◌+◌, ◌<◌, max, true, false, List, [], ◌∷◌, ◌++◌, length, map, refl, sym, ap, ◌∙◌, arith, Option, Some, None}
use Rattle.std.specs.List.{All, list_any}
use Rattle.std.specs.Prelude.{is_none, not}
use Rattle.std.proofs.lemmas.Bool.{cond-true, cond-false}
use Rattle.std.proofs.lemmas.List.{map-append}
use Rattle.std.proofs.lemmas.List.Elements.{All-contains}
use Rattle.std.proofs.lemmas.Map.Views.{Contains-from_any}
use Rattle.fvn_signature_draft.specs.declared.collected.Declaration.{Declaration}
use Rattle.fvn_signature_draft.specs.declared.collected.Collected.{Collected}
use Rattle.fvn_syntax.specs.Pieces.{Text}
use Rattle.fvn_syntax.specs.Texts.{place, or_end, place_or_end, unless_at, with_text}
use Rattle.fvn_syntax.proofs.TextLemmas.{place-below}
use Rattle.fvn_module_names.specs.Order.{with_new}
use Rattle.fvn_module_declarations.specs.Operators.{same_declaration}
use Rattle.fvn_module_declarations.specs.inner.Codes.{code}
use Rattle.fvn_module_declarations.specs.inner.Drafts.{with_one}
use Rattle.fvn_module_declarations.proofs.CodeLemmas.{coded-place, same_declaration-true}

-- the place of a text that is new is the number of the others
pub at_end : (texts : List Text) (text : Text) → place_or_end texts text ≡ length texts → place texts text ≡ None
at_end texts text e = go (place texts text) refl e where
  go : (o : Option ℕ) → place texts text ≡ o → or_end texts o ≡ length texts → o ≡ None
  go None p e = refl
  go (Some i) p e = absurd (let l = place-below texts text i p in omega arith)

module _ (c : Collected) (codes : List Text) (d : Declaration) (text : Text) (coded : codes ≡ map code c.declarations) (is : text ≡ code d) where
  there : (o : Option ℕ) → place codes text ≡ o → list_any (same_declaration d) c.declarations ≡ not (is_none o)
  there o p = coded-place d c.declarations ∙ ap (λ q. not (is_none q)) (ap (λ cs. place cs (code d)) (sym coded) ∙ ap (place codes) (sym is) ∙ p)

  -- a declaration that is there is not added
  pub one-there : (place_or_end codes text ≡ length codes → ⊥) → All (λ e. e.op.0 < c.operators) c.declarations → c ≡ with_one c d
  one-there ne known = go (place codes text) refl where
    go : (o : Option ℕ) → place codes text ≡ o → c ≡ with_one c d
    go None p = absurd (ne (ap (or_end codes) p))
    go (Some i) p =
        let yes : list_any (same_declaration d) c.declarations ≡ true = there (Some i) p in
        let same : with_new same_declaration c.declarations d ≡ c.declarations = cond-true (list_any (same_declaration d) c.declarations) c.declarations (c.declarations ++ d ∷ []) yes in
        let below : d.op.0 < c.operators = All-contains (λ e. e.op.0 < c.operators) c.declarations d known (Contains-from_any same_declaration-true d c.declarations yes) in
        let most : max c.operators (d.op.0 + 1) ≡ c.operators = omega arith in
        sym (ap (λ n. record c { operators = n; declarations = with_new same_declaration c.declarations d }) most ∙ ap (λ ds. record c { declarations = ds }) same)

  pub codes-there : (place_or_end codes text ≡ length codes → ⊥) → with_text codes text ≡ map code c.declarations
  codes-there ne = go (place codes text) refl ∙ coded where
    go : (o : Option ℕ) → place codes text ≡ o → unless_at codes text (place codes text) ≡ codes
    go None p = absurd (ne (ap (or_end codes) p))
    go (Some i) p = ap (unless_at codes text) p

  -- a declaration that is new comes after the others
  pub one-new : place_or_end codes text ≡ length codes → record c { operators = max c.operators (d.op.0 + 1); declarations = c.declarations ++ d ∷ [] } ≡ with_one c d
  one-new e =
      let no_such : list_any (same_declaration d) c.declarations ≡ false = there None (at_end codes text e) in
      ap (λ ds. record c { operators = max c.operators (d.op.0 + 1); declarations = ds }) (sym (cond-false (list_any (same_declaration d) c.declarations) c.declarations (c.declarations ++ d ∷ []) no_such))

  pub codes-new : place_or_end codes text ≡ length codes → with_text codes text ≡ map code (c.declarations ++ d ∷ [])
  codes-new e =
      ap (unless_at codes text) (at_end codes text e)
      ∙ ap (λ cs. cs ++ text ∷ []) coded ∙ ap (λ t. map code c.declarations ++ t ∷ []) is
      ∙ sym (map-append code c.declarations (d ∷ []))
