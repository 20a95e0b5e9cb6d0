-- Every module is readable, and its signature is good.
use Rattle.std.proofs.Common.{sym, subst}
use Rattle.fvn_lex.specs.Laws.{PiecesStandAlone}
use Rattle.fvn_terms.specs.declared.declarations.Declarations.{Declarations}
use Rattle.fvn_forms.specs.Good.{IsGood}
use Rattle.fvn_sorts.specs.declared.conditions.fault.SigFault.TheVariants as sig
use Rattle.fvn_signature.specs.Queries.{IsCompleted}
use Rattle.fvn_sorts.specs.Laws.{FaultlessSignaturesAreGood}
use Rattle.fvn_syntax.specs.declared.names.Names.{Names}
use Rattle.fvn_syntax.specs.Pieces.{Text}
use Rattle.fvn_module_syntax.specs.declared.form.Form.{Form}
use Rattle.fvn_module_declarations.specs.Module.{collected_in, names_in}
use Rattle.fvn_module_declarations.proofs.ClosedModules.{collected-closed}
use Rattle.fvn_module.specs.Contents.{Contents}
use Rattle.fvn_module.specs.ModuleText.{IsModule, IsWrittenAs, Declares}
use Rattle.fvn_module.specs.Readable.{IsReadable}
use Rattle.fvn_module.proofs.ReadableModules.{readable-module}

abbrev Facts : Contents → Type 0
Facts m = IsReadable m × IsGood m.signature × IsCompleted m.signature

module _ (stands : PiecesStandAlone) (faultless : FaultlessSignaturesAreGood) where
  declared-good : (bytes : Text) (f : Form) → IsWrittenAs bytes f → (m : Contents) → Declares f m → Facts m
  declared-good bytes f w m d =
      let closed = collected-closed f.statements d.named (d.good sig.TooMany) in
      let good = faultless (collected_in f.statements) closed d.good in
      let read = readable-module f w.row (stands bytes w.row w.cut) w.form d.named good.0 good.1 d.few m.equations d.equations in
      subst (λ (n : Names). Facts (record { signature = m.signature; names = n; equations = m.equations })) (sym d.names)
      (subst (λ (s : Declarations). Facts (record { signature = s; names = names_in f; equations = m.equations })) (sym d.signature) (read, good.0, good.1))

  pub module-good : (bytes : Text) (m : Contents) → IsModule bytes m → Facts m
  module-good bytes m is = declared-good bytes is.form is.written m is.declares
