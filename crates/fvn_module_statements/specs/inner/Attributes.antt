-- How the reader goes over attributes of operators.
use Rattle.std.specs.Prelude.{◌&&◌, Bool, true, false, if◌then◌else◌, List, [], ◌∷◌, Option, Some, None, codes}
use Rattle.std.specs.Str.{bytes_eq}
use Rattle.fvn_lex.specs.Cut.{Piece}
use Rattle.fvn_syntax.specs.Pieces.{Text, is_word, is_special}
use Rattle.fvn_module_syntax.specs.declared.statement.Attribute.{Attribute}
use Rattle.fvn_module_syntax.specs.declared.statement.Attribute.TheVariants.{Assoc, Comm, Identity, Constructor, Ditto, Precedence, Gather, Format}
use Rattle.fvn_module_syntax.specs.declared.statement.Feature.{Feature}
use Rattle.fvn_module_statements.specs.declared.outcome.Reading.{Reading}
use Rattle.fvn_module_statements.specs.declared.outcome.Reading.TheVariants.{Read, LeftOut, NoForm}
use Rattle.fvn_module_syntax.specs.LeftOut.{is_next, left_out_in}
use Rattle.fvn_module_statements.specs.inner.Gather.{gather}

-- WORD
abbrev pub word_of : List Piece → Option (Text × List Piece)
word_of [] = None
word_of (p ∷ ps) = if is_word p then Some (p.text, ps) else None

-- one word or more, before a parenthesis that closes
abbrev pub words_before : List Text → List Piece → Option (List Text × List Piece)
words_before [] ps = None
words_before (w ∷ ws) [] = None
words_before (w ∷ ws) (p ∷ ps) = if is_special (codes ")") p then Some (w ∷ ws, ps) else None

-- ( WORD .. WORD )
abbrev pub words_in_parens : List Piece → Option (List Text × List Piece)
words_in_parens [] = None
words_in_parens (p ∷ ps) =
    if is_special (codes "(") p then words_before (gather word_of ps [] ps).0 (gather word_of ps [] ps).1 else None

-- WORD, and behind it an attribute or the end
abbrev pub identity_of : List Piece → Option (Attribute × List Piece)
identity_of [] = None
identity_of (p ∷ []) = None
identity_of (p ∷ q ∷ ps) =
    if is_word p && is_next q then Some (Identity p.text, q ∷ ps) else None

-- the attribute of what was read
abbrev pub made : {A : Type 0} → (A → Attribute) → Option (A × List Piece) → Option (Attribute × List Piece)
made make None = None
made make (Some r) = Some (make r.0, r.1)

-- the attribute that begins with a word
abbrev pub attribute_named : Text → List Piece → Option (Attribute × List Piece)
attribute_named w ps =
    if bytes_eq w (codes "assoc") then Some (Assoc, ps)
    else if bytes_eq w (codes "comm") then Some (Comm, ps)
    else if bytes_eq w (codes "ctor") then Some (Constructor, ps)
    else if bytes_eq w (codes "ditto") then Some (Ditto, ps)
    else if bytes_eq w (codes "id:") then identity_of ps
    else if bytes_eq w (codes "prec") then made Precedence (word_of ps)
    else if bytes_eq w (codes "gather") then made Gather (words_in_parens ps)
    else if bytes_eq w (codes "format") then made Format (words_in_parens ps)
    else None

-- an attribute
abbrev pub attribute_of : List Piece → Option (Attribute × List Piece)
attribute_of [] = None
attribute_of (p ∷ ps) = if is_word p then attribute_named p.text ps else None

-- whether the pieces are a bracket that closes, alone
abbrev pub is_close : List Piece → Bool
is_close [] = false
is_close (p ∷ []) = is_special (codes "]") p
is_close (p ∷ q ∷ ps) = false

-- there is one or more
abbrev pub is_some : {A : Type 0} → List A → Bool
is_some [] = false
is_some (x ∷ xs) = true

-- attributes before a bracket that closes, where none is left out
abbrev pub attributes_before : List Attribute → List Piece → Option Feature → Reading (List Attribute)
attributes_before xs ps (Some f) = LeftOut f
attributes_before xs ps None = if is_some xs && is_close ps then Read xs else NoForm

-- attributes in brackets, to the end of the statement, or nothing
abbrev pub attributes_of : List Piece → Reading (List Attribute)
attributes_of [] = Read []
attributes_of (p ∷ ps) =
    if is_special (codes "[") p
    then attributes_before (gather attribute_of ps [] ps).0 (gather attribute_of ps [] ps).1
    (left_out_in (gather attribute_of ps [] ps).0 (gather attribute_of ps [] ps).1)
    else NoForm
