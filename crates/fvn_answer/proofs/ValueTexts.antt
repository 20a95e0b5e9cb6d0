-- The texts of values of variables.
use Rattle.std.proofs.Common.{◌≡◌, true, ◌≤◌, ℕ, drop, Some, List, [], ◌∷◌, ◌++◌, length, refl, sym, ap, ◌∙◌, append_assoc, map}
use Rattle.std.specs.Prelude.{codes, slice_get}
use Rattle.std.specs.List.{AllByRecursion}
use Rattle.std.proofs.lemmas.List.{drop_all}
use Rattle.std.proofs.lemmas.List.Elements.{All-head, All-tail}
use Rattle.fvn_terms.specs.declared.plain.Var.{Var}
use Rattle.fvn_terms.specs.declared.declarations.Declarations.{Declarations}
use Rattle.fvn_forms.specs.Flat.{FlatTerm}
use Rattle.fvn_flat.specs.Bindings.{Bindings, value}
use Rattle.fvn_syntax.specs.declared.names.Names.{Names}
use Rattle.fvn_syntax.specs.Pieces.{Text}
use Rattle.fvn_problems.specs.Variables.{IsNamed}
use Rattle.fvn_answer.specs.inner.Readable.{AreReadable}
use Rattle.fvn_answer.specs.Lines.{values, variant, values_of, asked_name, written_pair, text}
use Rattle.fvn_answer.specs.Writing.{text_of, sorted, written}
use Rattle.fvn_answer.specs.inner.Bytes.{beside, pair_text, with_pairs, IsPrintable}
use Rattle.fvn_answer.specs.inner.Shown.{HavePrintable, value_texts}
use Rattle.fvn_answer.proofs.Joining.{IsEndedPair, texts_of, bindings-text, variant-text}
use Rattle.fvn_answer.proofs.Printing.{got, written-ended, operator-filled}

module _ (d : Declarations) (names : Names) (readable : AreReadable d names) (texts : List Text) (order : List Var) (s : Bindings) where
  each-ended : (vars : List Var) → HavePrintable d texts s vars → AllByRecursion IsEndedPair (map (written_pair d names texts order) (values_of s vars))
  each-ended [] h = tt
  each-ended (x ∷ vars) h = (
    written-ended d names (operator-filled d names readable) order (value s x) (All-head (λ y. IsNamed d texts y × IsPrintable d (value s y)) x vars h).1,
    each-ended vars (All-tail (λ y. IsNamed d texts y × IsPrintable d (value s y)) x vars h),
  )

  each-text : (vars : List Var) → map texts_of (map (written_pair d names texts order) (values_of s vars)) ≡ map (value_texts d texts names order s) vars
  each-text [] = refl
  each-text (x ∷ vars) = ap (λ l. value_texts d texts names order s x ∷ l) (each-text vars)

  pub values-text : (vars : List Var) → HavePrintable d texts s vars →
      beside (with_pairs true (codes "{") (map (value_texts d texts names order s) vars)) 125 ≡ text d names texts order (values (values_of s vars))
  values-text vars h =
      ap (λ l. beside (with_pairs true (codes "{") l) 125) (sym (each-text vars))
      ∙ sym (bindings-text (map (written_pair d names texts order) (values_of s vars)) (each-ended vars h))

  pub whole-text : (t : FlatTerm) (vars : List Var) →
      text_of (written d names order t) ++ (32 ∷ []) ++ text d names texts order (values (values_of s vars)) ≡ text d names texts order (variant t (values_of s vars))
  whole-text t vars =
      append_assoc (text_of (written d names order t)) (32 ∷ []) (text d names texts order (values (values_of s vars)))
      ∙ sym (variant-text (written d names order t) (map (written_pair d names texts order) (values_of s vars)))

-- a variable, an arrow and its value behind a text
pub pair-push : (d : Declarations) (names : Names) (texts : List Text) (order : List Var) (s : Bindings) (x : Var) (old called : Text) → slice_get texts x.name ≡ Some called →
    old ++ text_of (sorted d names called x.sort) ++ codes " --> " ++ text_of (written d names order (value s x)) ≡ old ++ pair_text (value_texts d texts names order s x)
pair-push d names texts order s x old called e =
    let it : asked_name d names texts x ≡ called = got texts x.name called [] e in
    rw it
    (append_assoc (old ++ text_of (sorted d names called x.sort)) (codes " --> ") (text_of (written d names order (value s x)))
    ∙ append_assoc old (text_of (sorted d names called x.sort)) (codes " --> " ++ text_of (written d names order (value s x))))

-- behind the last variable nothing is left
pub nothing-left : {A : Type 0} (xs : List A) (i : ℕ) → length xs ≤ i → drop i xs ≡ []
nothing-left xs i h = drop_all i xs h
