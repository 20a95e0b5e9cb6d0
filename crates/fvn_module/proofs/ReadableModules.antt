-- What holds of every module that was read.
use Rattle.std.proofs.Common.{◌≡◌, ◌<◌, ◌≤◌, List, [], length, slice_get, Some, refl, sym, arith}
use Rattle.std.specs.List.{All}
use Rattle.std.proofs.lemmas.Option.{slice_get_within}
use Rattle.fvn_base.specs.declared.limits.TheConstants.{SORTS, OPERATORS, EQUATIONS, NAMES}
use Rattle.fvn_lex.specs.Cut.{Piece}
use Rattle.fvn_lex.specs.Join.{IsPiece}
use Rattle.fvn_terms.specs.declared.plain.OpId.{OpId}
use Rattle.fvn_forms.specs.Good.{IsGood}
use Rattle.fvn_signature.specs.Queries.{IsCompleted}
use Rattle.fvn_signature_draft.specs.Collected.{completed}
use Rattle.fvn_syntax.specs.Pieces.{Text}
use Rattle.fvn_syntax.specs.Names.{arity_of}
use Rattle.fvn_module_syntax.specs.declared.form.Form.{Form}
use Rattle.fvn_module_statements.specs.Forms.{IsFormOf}
use Rattle.fvn_module_names.specs.Names.{sorts_in, sorts_of, operators_in, operators_of}
use Rattle.fvn_module_names.specs.Order.{kinds_in}
use Rattle.fvn_module_declarations.specs.Module.{collected_in, names_in}
use Rattle.fvn_module_names.specs.Faults.{HasNames}
use Rattle.fvn_theory.specs.declared.equation.Equation.{Equation}
use Rattle.fvn_module.specs.Equations.{equations_in, AreEquationsOf}
use Rattle.fvn_module.specs.ModuleText.{scope_in}
use Rattle.fvn_module.specs.Readable.{IsConstantText, IsReadable}
use Rattle.fvn_module.proofs.ReadableLists.{with_names-distinct}
use Rattle.fvn_module.proofs.ReadableTexts.{sort-texts, op-texts}
use Rattle.fvn_module.proofs.ReadableConstants.{constants-apart}
use Rattle.fvn_module.proofs.ReadableDeclared.{constant-named}
use Rattle.fvn_module.proofs.ReadableScope.{operators-long, names-fit}
use Rattle.fvn_module.proofs.ReadableEquations.{equations-readable, equations-count}

-- A module that is written, with no name at fault and a good signature, is readable.
pub readable-module : (f : Form) (row : List Piece) → All IsPiece row → IsFormOf row f → HasNames f.statements →
    IsGood (completed (collected_in f.statements)) → IsCompleted (completed (collected_in f.statements)) →
    length (equations_in f.statements) ≤ EQUATIONS →
    (es : List Equation) → AreEquationsOf (scope_in f) (equations_in f.statements) es →
    IsReadable (record { signature = completed (collected_in f.statements); names = names_in f; equations = es })
readable-module f row pieces form named good complete few es is = record {
  numbered = (sorts_small, ops_small);
  fitting = names-fit f good complete;
  sort_names = refl;
  op_names = sym (operators-long f.statements);
  sort_texts = sort-texts f row pieces form;
  op_texts = op-texts f row pieces form;
  distinct_sorts = with_names-distinct sorts_in [] f.statements (λ i j d l m. absurd (omega (arith, m)));
  distinct_ops = with_names-distinct operators_in [] f.statements (λ i j d l m. absurd (omega (arith, m)));
  constants = constant;
  few_sorts = good.limits.sorts;
  few_ops = ops_few;
  few_equations = (let n = equations-count (scope_in f) (equations_in f.statements) es is in omega arith);
  equations = equations-readable (scope_in f) (names-fit f good complete) (equations_in f.statements) es is;
} where
  ops_few : length (operators_of f.statements) ≤ OPERATORS
  ops_few = let n = operators-long f.statements in let l = good.limits.operators in omega arith

  sorts_small : length (sorts_of f.statements) ≤ NAMES
  sorts_small = let l : length (sorts_of f.statements) ≤ SORTS = good.limits.sorts in omega arith

  ops_small : length (operators_of f.statements) ≤ NAMES
  ops_small = let l = ops_few in omega arith

  constant : (g : OpId) (w : Text) → slice_get (operators_of f.statements) g.0 ≡ Some w →
      arity_of (completed (collected_in f.statements)) g ≡ 0 → IsConstantText (names_in f) w
  constant g w h n =
      let l : g.0 < length (completed (collected_in f.statements)).ops =
      (let m = slice_get_within (operators_of f.statements) g.0 w h in let k = operators-long f.statements in omega arith) in
      let r = complete.op_declared g l in
      constants-apart (sorts_of f.statements) (operators_of f.statements) (kinds_in f.statements) (names_in f) f.statements refl refl named w
      (constant-named f.statements g w h r.0 r.1 n)
