-- What the steps of `variants` are given, find and reply.
use Rattle.std.specs.Prelude.{◌≡◌, ℕ, List, [], ◌∷◌, length}
use Rattle.std.specs.List.{AllZip}
use Rattle.fvn_terms.specs.declared.plain.Var.{Var}
use Rattle.fvn_terms.specs.declared.declarations.Declarations.{Declarations}
use Rattle.fvn_terms.specs.Term.{Term}
use Rattle.fvn_terms.specs.Plain.{term}
use Rattle.fvn_terms.specs.Signature.{IsTerm}
use Rattle.fvn_terms.specs.Equality.{BEqual}
use Rattle.fvn_flat.specs.Bindings.{BindingsFit}
use Rattle.fvn_flat.specs.Fits.{Fits, AllFit}
use Rattle.fvn_forms.specs.Flat.{FlatTerm, plain}
use Rattle.fvn_forms.specs.Canon.{canon}
use Rattle.fvn_syntax.specs.Pieces.{Text}
use Rattle.fvn_problems.specs.declared.query.Query.{Query}
use Rattle.fvn_problems.specs.Queries.{HasVariables}
use Rattle.fvn_module.specs.Contents.{Contents}
use Rattle.fvn_module_loading.specs.Loading.{IsLoaded}
use Rattle.fvn_cover.specs.declared.variant.Variant.{Variant}
use Rattle.fvn_closure.specs.Closing.{reached_of}
use Rattle.fvn_answer.specs.Asked.{AreAsked, HaveSorts}
use Rattle.fvn_cmd.specs.declared.status.Status.{Status}
use Rattle.fvn_cmd_words.specs.declared.reach.Reach.{Reach}
use Rattle.fvn_cmd_variants.specs.Solutions.{IsLineOf}
use Rattle.fvn_cmd_variants.specs.Replies.{IsVariantsReply}

-- the term is well-kinded, and its variables can be asked for
pub record IsTermIn (m : Contents) (t : Query) : Type 0 where
  pub kinded : IsTerm m.signature (term t.term)
  pub vars : HasVariables m.signature t
  pub asked : AreAsked m.signature t.names.texts t.vars

-- the list has the flat form of the term alone
pub record IsStartOf (d : Declarations) (t : Term) (start : List FlatTerm) : Type 0 where
  pub is : start ≡ canon d t ∷ []
  pub fits : Fits d (canon d t)
  pub equal : BEqual d t (plain (canon d t))

-- the variant has one term, and is flat; and what it makes of the variables has their sorts
pub record IsPrintable (d : Declarations) (vars : List Var) (v : Variant) : Type 0 where
  pub single : length v.terms ≡ 1
  pub terms : AllFit d v.terms
  pub values : BindingsFit d v.subst
  pub sorts : HaveSorts d vars v.subst

-- a line for each of the variants
abbrev pub AreLinesOfVariants : Contents → Query → List Variant → List Text → Type 0
AreLinesOfVariants m t variants lines = AllZip (λ v line. IsLineOf m t (reached_of v) line) variants lines

-- replies to a word, whichever bytes are loaded as this module
abbrev pub RepliesIn : Contents → List ℕ → Reach → Status → List ℕ → Type 0
RepliesIn m word reach status text = (bytes : List ℕ) → IsLoaded bytes m → IsVariantsReply bytes word reach status text
