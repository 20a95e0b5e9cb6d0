-- How the reader goes over equations.
use Rattle.std.specs.Prelude.{◌-◌, ◌&&◌, not, Bool, true, false, if◌then◌else◌, List, [], ◌∷◌, length, take, Option, Some, None, codes}
use Rattle.std.specs.List.{list_any}
use Rattle.std.specs.Str.{bytes_eq}
use Rattle.fvn_lex.specs.Cut.{Piece}
use Rattle.fvn_syntax.specs.Pieces.{Text, is_word, is_name, is_special}
use Rattle.fvn_syntax.specs.Behind.{behind_term}
use Rattle.fvn_module_syntax.specs.declared.statement.Mark.{Mark}
use Rattle.fvn_module_syntax.specs.declared.statement.Mark.TheVariants.{Variant, Label}
use Rattle.fvn_module_syntax.specs.declared.statement.Feature.{Feature}
use Rattle.fvn_module_syntax.specs.declared.statement.Feature.TheVariants as feature
use Rattle.fvn_module_syntax.specs.declared.statement.Statement.{Statement}
use Rattle.fvn_module_syntax.specs.declared.statement.Statement.TheVariants as statement
use Rattle.fvn_module_statements.specs.declared.outcome.Reading.{Reading}
use Rattle.fvn_module_statements.specs.declared.outcome.Reading.TheVariants.{Read, LeftOut, NoForm}
use Rattle.fvn_module_statements.specs.inner.Gather.{map_reading, gather}
use Rattle.fvn_module_statements.specs.inner.Attributes.{word_of, is_some, is_close}

-- the pieces before these, which are the last
abbrev pub before : List Piece → List Piece → List Piece
before ps rest = take (length ps - length rest) ps

-- a term before these pieces, where there is one
abbrev pub term_before : List Piece → Option (List Piece) → Option (List Piece × List Piece)
term_before ps None = None
term_before ps (Some rest) = Some (before ps rest, rest)

-- a term, and what follows it
abbrev pub term_of : List Piece → Option (List Piece × List Piece)
term_of ps = term_before ps (behind_term ps)

-- label WORD
abbrev pub labelled : Option (Text × List Piece) → Option (Mark × List Piece)
labelled None = None
labelled (Some r) = Some (Label r.0, r.1)

-- the attribute of an equation that begins with a word
abbrev pub mark_named : Text → List Piece → Option (Mark × List Piece)
mark_named w ps =
    if bytes_eq w (codes "variant") then Some (Variant, ps)
    else if bytes_eq w (codes "label") then labelled (word_of ps)
    else None

-- an attribute of an equation
abbrev pub mark_of : List Piece → Option (Mark × List Piece)
mark_of [] = None
mark_of (p ∷ ps) = if is_word p then mark_named p.text ps else None

-- the attribute `variant`
abbrev pub is_variant : Mark → Bool
is_variant Variant = true
is_variant (Label w) = false

-- the left-out form that begins where no attribute of an equation can be read
abbrev pub left_out_at_mark : List Piece → Option Feature
left_out_at_mark [] = None
left_out_at_mark (p ∷ ps) = if is_word p && not (is_name (codes "label") p) then Some feature.Attribute else None

-- a left-out form, or no form
abbrev pub left_out_or_none : Option Feature → Reading (List Mark)
left_out_or_none None = NoForm
left_out_or_none (Some f) = LeftOut f

-- attributes before a bracket that closes; without `variant` the equation is left out
abbrev pub marks_before : List Mark → List Piece → Reading (List Mark)
marks_before xs ps =
    if is_some xs && is_close ps
    then (if list_any is_variant xs then Read xs else LeftOut feature.Equation)
    else left_out_or_none (left_out_at_mark ps)

-- attributes in brackets, to the end of the statement
abbrev pub marks_of : List Piece → Reading (List Mark)
marks_of [] = LeftOut feature.Equation
marks_of (p ∷ ps) =
    if is_special (codes "[") p then marks_before (gather mark_of ps [] ps).0 (gather mark_of ps [] ps).1
    else NoForm

-- WORD ] :
abbrev pub label_behind : List Piece → Option (Option Text × List Piece)
label_behind [] = None
label_behind (a ∷ []) = None
label_behind (a ∷ b ∷ []) = None
label_behind (a ∷ b ∷ c ∷ ps) =
    if is_word a && is_special (codes "]") b && is_name (codes ":") c then Some (Some a.text, ps) else None

-- [ WORD ] : or nothing
abbrev pub label_of : List Piece → Option (Option Text × List Piece)
label_of [] = Some (None, [])
label_of (p ∷ ps) = if is_special (codes "[") p then label_behind ps else Some (None, p ∷ ps)

-- what stands behind =
abbrev pub behind_equals : List Piece → Option (List Piece)
behind_equals [] = None
behind_equals (p ∷ ps) = if is_name (codes "=") p then Some ps else None

-- the right side, and attributes
abbrev pub right_of : Option Text → List Piece → Option (List Piece × List Piece) → Reading Statement
right_of label left None = NoForm
right_of label left (Some r) = map_reading (statement.Equation label left r.0) (marks_of r.1)

-- = and what follows it
abbrev pub equals_of : Option Text → List Piece → Option (List Piece) → Reading Statement
equals_of label left None = NoForm
equals_of label left (Some ps) = right_of label left (term_of ps)

-- the left side, and what follows it
abbrev pub left_of : Option Text → Option (List Piece × List Piece) → Reading Statement
left_of label None = NoForm
left_of label (Some l) = equals_of label l.0 (behind_equals l.1)

-- a label, and what follows it
abbrev pub labelled_equation : Option (Option Text × List Piece) → Reading Statement
labelled_equation None = NoForm
labelled_equation (Some r) = left_of r.0 (term_of r.1)

-- what follows `eq`, as it is read from left to right
abbrev pub equation_of : List Piece → Reading Statement
equation_of ps = labelled_equation (label_of ps)

-- where there is no form, an equation is left out as long as `variant` is not named
abbrev pub unless_unnamed : List Piece → Reading Statement → Reading Statement
unless_unnamed ps (Read st) = Read st
unless_unnamed ps (LeftOut f) = LeftOut f
unless_unnamed ps NoForm = if list_any (is_name (codes "variant")) ps then NoForm else LeftOut feature.Equation

-- what follows `eq`, or the form that is left out
abbrev pub asked_equation : List Piece → Reading Statement
asked_equation ps = unless_unnamed ps (equation_of ps)
