-- The names of a module fit its signature.
use Rattle.std.proofs.Common.{◌≡◌, ℕ, ◌<◌, List, [], ◌∷◌, length, Option, Some, None, refl, subst, arith}
use Rattle.std.specs.List.{All}
use Rattle.std.proofs.lemmas.List.Elements.{All-nil, All-push}
use Rattle.std.proofs.lemmas.List.FromFn.{length-map-range_with_len}
use Rattle.std.proofs.lemmas.Option.{slice_get_within, get_or_from_slice_get}
use Rattle.fvn_terms.specs.declared.plain.SortId.{SortId}
use Rattle.fvn_terms.specs.declared.declarations.Declarations.{Declarations}
use Rattle.fvn_terms.specs.Signature.{kind, IsSort}
use Rattle.fvn_forms.specs.Good.{IsGood}
use Rattle.fvn_signature.specs.Queries.{IsCompleted}
use Rattle.fvn_signature_draft.specs.Collected.{op_number, declarations_of, operator_meant, kinds, completed}
use Rattle.fvn_syntax.specs.Pieces.{Text}
use Rattle.fvn_syntax.specs.Texts.{place}
use Rattle.fvn_syntax.specs.Names.{resolve_sort}
use Rattle.fvn_syntax.specs.Raw.{kind_variable}
use Rattle.fvn_syntax.specs.Resolve.{the_variable}
use Rattle.fvn_syntax.specs.Laws.{IsFitting}
use Rattle.fvn_syntax.specs.declared.names.Names.{Names}
use Rattle.fvn_syntax.specs.declared.names.Variables.{Variables}
use Rattle.fvn_syntax.specs.declared.sorts.RawSort.{RawSort}
use Rattle.fvn_syntax.specs.declared.sorts.RawSort.TheVariants.{Name, Kind}
use Rattle.fvn_syntax.proofs.TextLemmas.{place-below}
use Rattle.fvn_syntax.proofs.WellKinded.{well-kinded}
use Rattle.fvn_module_syntax.specs.declared.statement.Statement.{Statement}
use Rattle.fvn_module_syntax.specs.declared.statement.Statement.TheVariants as statement
use Rattle.fvn_module_syntax.specs.declared.form.Form.{Form}
use Rattle.fvn_module_names.specs.Names.{sorts_of, operators_of}
use Rattle.fvn_module_names.specs.Variables.{no_variables, unless_declared, with_variables, where_sorted, with_declared, with_all_declared}
use Rattle.fvn_module_names.specs.Order.{kinds_in}
use Rattle.fvn_module_declarations.specs.Module.{collected_in, names_alone, names_in}
use Rattle.fvn_module.specs.Contents.{scope_of}
use Rattle.fvn_module.specs.ModuleText.{scope_in}

-- Sorts of variables.

module _ (P : SortId → Type 0) where
  unless_declared-sorts : (xs : Variables) (w : Text) (s : SortId) (o : Option ℕ) → All P xs.sorts → P s → All P (unless_declared xs w s o).sorts
  unless_declared-sorts xs w s None h k = All-push P xs.sorts s h k
  unless_declared-sorts xs w s (Some i) h k = h

  with_variables-sorts : (xs : Variables) (ws : List Text) (s : SortId) → All P xs.sorts → P s → All P (with_variables xs ws s).sorts
  with_variables-sorts xs [] s h k = h
  with_variables-sorts xs (w ∷ ws) s h k =
      with_variables-sorts (unless_declared xs w s (place xs.texts w)) ws s (unless_declared-sorts xs w s (place xs.texts w) h k) k

  where_sorted-sorts : (xs : Variables) (ws : List Text) (o : Option SortId) → All P xs.sorts → ((s : SortId) → o ≡ Some s → P s) →
      All P (where_sorted xs ws o).sorts
  where_sorted-sorts xs ws None h k = h
  where_sorted-sorts xs ws (Some s) h k = with_variables-sorts xs ws s h (k s refl)

  module _ (sorts : List Text) (kinds : List SortId) (is : (q : RawSort) (s : SortId) → resolve_sort sorts kinds q ≡ Some s → P s) where
    with_declared-sorts : (xs : Variables) (st : Statement) → All P xs.sorts → All P (with_declared sorts kinds xs st).sorts
    with_declared-sorts xs (statement.Sorts plural names) h = h
    with_declared-sorts xs (statement.Subsorts plural groups) h = h
    with_declared-sorts xs (statement.Operator name rank attributes) h = h
    with_declared-sorts xs (statement.Operators names rank attributes) h = h
    with_declared-sorts xs (statement.Variables plural names sort) h = where_sorted-sorts xs names (resolve_sort sorts kinds sort) h (is sort)
    with_declared-sorts xs (statement.Equation label left right marks) h = h

    -- what holds of each sort that is written holds of the sorts of all variables
    with_all_declared-sorts : (xs : Variables) (sts : List Statement) → All P xs.sorts → All P (with_all_declared sorts kinds xs sts).sorts
    with_all_declared-sorts xs [] h = h
    with_all_declared-sorts xs (st ∷ sts) h = with_all_declared-sorts (with_declared sorts kinds xs st) sts (with_declared-sorts xs st h)

-- the kinds by which sorts of variables are read are those of the signature
kinds-same : (sts : List Statement) → kinds_in sts ≡ (completed (collected_in sts)).kinds
unfolding kinds
kinds-same sts = refl

pub operators-long : (sts : List Statement) → length (completed (collected_in sts)).ops ≡ length (operators_of sts)
operators-long sts =
    length-map-range_with_len (λ n. operator_meant (collected_in sts) (declarations_of (collected_in sts) (op_number n))) 0 (length (operators_of sts))

module _ (f : Form) (good : IsGood (completed (collected_in f.statements))) (complete : IsCompleted (completed (collected_in f.statements))) where
  abbrev signature : Declarations
  signature = completed (collected_in f.statements)

  -- names of which each variable's sort is one of the signature fit it
  fitting-with : (names : Names) → names.sorts ≡ sorts_of f.statements → names.ops ≡ operators_of f.statements →
      All (IsSort signature) names.variables.sorts → IsFitting (scope_of signature names)
  fitting-with names e g vs = record {
    sorts = λ i l. complete.sort_listed (record { 0 = i }) (subst (λ (ws : List Text). i < length ws) e l);
    kinds = good.kinded.listed;
    variables = λ i s k.
        subst (IsSort signature) (get_or_from_slice_get names.variables.sorts i s s k) (vs i s (slice_get_within names.variables.sorts i s k));
    ops = λ i l.
        let n : i < length (operators_of f.statements) = subst (λ (ws : List Text). i < length ws) g l in
        complete.op_declared (record { 0 = i }) (let m = operators-long f.statements in omega arith);
    sums = good.fits.associative;
  }

  alone : IsFitting (scope_of signature (names_alone f))
  alone = fitting-with (names_alone f) refl refl (All-nil (IsSort signature))

  -- a sort that is written is one of the signature
  sort-is : (q : RawSort) (s : SortId) → resolve_sort (sorts_of f.statements) signature.kinds q ≡ Some s → IsSort signature s
  sort-is (Name w) s h = go (place (sorts_of f.statements) w) refl where
    go : (o : Option ℕ) → place (sorts_of f.statements) w ≡ o → IsSort signature s
    go None e = let g = rw e at h in cc
    go (Some i) e =
        let g : Some (record { 0 = i }) ≡ Some s = rw e at h in
        let is : record { 0 = i } ≡ s = cc in
        subst (IsSort signature) is (alone.sorts i (place-below (sorts_of f.statements) w i e))
  sort-is (Kind w ws) s h =
      (well-kinded (scope_of signature (names_alone f)) alone [] (kind_variable [] w ws) (the_variable [] [] s (kind signature s)) (rw h refl)).0

  variables-sorted : All (IsSort signature) (names_in f).variables.sorts
  variables-sorted =
      with_all_declared-sorts (IsSort signature) (sorts_of f.statements) (kinds_in f.statements)
      (λ q s h. sort-is q s (subst (λ ks. resolve_sort (sorts_of f.statements) ks q ≡ Some s) (kinds-same f.statements) h))
      no_variables f.statements (All-nil (IsSort signature))

  -- The names of the module fit its signature.
  pub names-fit : IsFitting (scope_in f)
  names-fit = fitting-with (names_in f) refl refl variables-sorted
