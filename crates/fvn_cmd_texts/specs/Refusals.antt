-- The text of each refusal of a module.
use Rattle.std.specs.Prelude.{ℕ, ◌-◌, nat_lt, if◌then◌else◌, List, [], ◌∷◌, ◌++◌, map, length, slice_index_or, Option, Some, None, option_map, codes, decimal}
use Rattle.fvn_terms.specs.declared.plain.OpId.{OpId}
use Rattle.fvn_terms.specs.declared.plain.SortId.{SortId}
use Rattle.fvn_lex.specs.declared.token.LexFault.{LexFault}
use Rattle.fvn_lex.specs.declared.token.LexFault.TheVariants as lexed
use Rattle.fvn_sorts.specs.declared.conditions.fault.SigFault.{SigFault}
use Rattle.fvn_sorts.specs.declared.conditions.fault.SigFault.TheVariants as signature
use Rattle.fvn_syntax.specs.declared.names.Names.{Names}
use Rattle.fvn_module_syntax.specs.declared.statement.Feature.{Feature}
use Rattle.fvn_module_syntax.specs.declared.statement.Feature.TheVariants as feature
use Rattle.fvn_module.specs.declared.fault.Place.TheVariants as place
use Rattle.fvn_module.specs.declared.fault.ModuleFault.{ModuleFault}
use Rattle.fvn_module.specs.declared.fault.ModuleFault.TheVariants.{Lex, Header, Statement, UnknownName, Twice, Arity, WrongKind, LeftOut, Signature, VariableLeft, ExtraVariable, IdentityLeft, TooMany, TooLong, NoMemory}

-- the offset of the byte at which a text has no token
abbrev pub offset : LexFault → Option ℕ
offset (lexed.BadByte n) = Some n
offset (lexed.BlockComment n) = Some n
offset lexed.NoMemory = None

-- the word for a form of Maude that is left out
abbrev pub feature_word : Feature → List ℕ
feature_word feature.Import = codes "import"
feature_word feature.Membership = codes "membership"
feature_word feature.Condition = codes "condition"
feature_word feature.Rule = codes "rule"
feature_word feature.Name = codes "name"
feature_word feature.Assoc = codes "assoc"
feature_word feature.Identity = codes "identity"
feature_word feature.Attribute = codes "attribute"
feature_word feature.Equation = codes "equation"

-- The signature's faults.

-- the name at a place
abbrev pub name_at : List (List ℕ) → ℕ → List ℕ
name_at names place = slice_index_or names place []

-- a kind is the sort after which it is named, in brackets
abbrev pub kind_text : List ℕ → List ℕ
kind_text top = codes "[" ++ top ++ codes "]"

-- an operator is its name
abbrev pub operator_text : Names → OpId → List ℕ
operator_text names f = name_at names.ops f.0

module _ (names : Names) (tops : List SortId) where
  -- a sort is its name; kinds are numbered after the sorts, and each has a sort after which it is named
  abbrev pub sort_text : SortId → List ℕ
  sort_text s =
      if nat_lt s.0 (length names.sorts) then name_at names.sorts s.0
      else kind_text (name_at names.sorts (slice_index_or tops (s.0 - length names.sorts) s).0)

  -- what a fault holds: its operator and its sorts
  abbrev pub told : SigFault → List (List ℕ)
  told (signature.SortCycle s) = sort_text s ∷ []
  told (signature.KindsDiffer f) = operator_text names f ∷ []
  told (signature.AxiomShape f) = operator_text names f ∷ []
  told (signature.AxiomsDiffer f) = operator_text names f ∷ []
  told (signature.IdentityBad f) = operator_text names f ∷ []
  told (signature.NotPreregular f ss) = operator_text names f ∷ map sort_text ss
  told (signature.NotAssocSorts f s q r) = operator_text names f ∷ sort_text s ∷ sort_text q ∷ sort_text r ∷ []
  told (signature.NotCollapsing f s) = operator_text names f ∷ sort_text s ∷ []
  told signature.TooMany = []
  told signature.NoMemory = []

-- the number of a fault
abbrev pub number : SigFault → Option ℕ
number (signature.SortCycle s) = Some 1
number (signature.KindsDiffer f) = Some 2
number (signature.AxiomShape f) = Some 3
number (signature.AxiomsDiffer f) = Some 4
number (signature.IdentityBad f) = Some 5
number (signature.NotPreregular f ss) = Some 6
number (signature.NotAssocSorts f s q r) = Some 7
number (signature.NotCollapsing f s) = Some 8
number signature.TooMany = Some 9
number signature.NoMemory = None

-- each text after a space
abbrev pub spaced : List (List ℕ) → List ℕ
spaced [] = []
spaced (text ∷ texts) = (32 ∷ text) ++ spaced texts

-- the text of a signature's refusal: the number of the fault, and what it holds
abbrev pub signature_text : Names → List SortId → SigFault → Option (List ℕ)
signature_text names tops fault = option_map (λ k. (codes "module 9." ++ decimal k) ++ spaced (told names tops fault)) (number fault)

-- The text of a refusal, without a line end. Statements are numbered from 1, and so are equations among equations. Want
-- of memory refuses no module, and has none.
abbrev pub refusal_text : ModuleFault → Option (List ℕ)
refusal_text (Lex fault) = option_map (λ n. codes "module 1 byte " ++ decimal n) (offset fault)
refusal_text Header = Some (codes "module 2")
refusal_text (Statement n) = Some (codes "module 3 statement " ++ decimal n)
refusal_text (UnknownName n) = Some (codes "module 4 statement " ++ decimal n)
refusal_text (Twice n) = Some (codes "module 5 statement " ++ decimal n)
refusal_text (Arity n) = Some (codes "module 6 statement " ++ decimal n)
refusal_text (WrongKind n) = Some (codes "module 7 statement " ++ decimal n)
refusal_text (LeftOut n form) = Some ((codes "module 8 statement " ++ decimal n) ++ spaced (feature_word form ∷ []))
refusal_text (Signature fault names tops) = signature_text names tops fault
refusal_text (VariableLeft k) = Some (codes "module 10 equation " ++ decimal k)
refusal_text (ExtraVariable k) = Some (codes "module 11 equation " ++ decimal k)
refusal_text (IdentityLeft k) = Some (codes "module 12 equation " ++ decimal k)
refusal_text (TooMany (place.Statement n)) = Some (codes "module 13 statement " ++ decimal n)
refusal_text (TooMany (place.Equation k)) = Some (codes "module 13 equation " ++ decimal k)
refusal_text TooLong = Some (codes "module 14")
refusal_text NoMemory = None
