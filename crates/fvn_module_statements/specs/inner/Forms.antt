-- How the reader goes over a module.
use Rattle.std.specs.Prelude.{ℕ, ◌+◌, if◌then◌else◌, List, [], ◌∷◌, ◌++◌, Option, Some, None, Result, Ok, Err, codes}
use Rattle.std.specs.Str.{bytes_eq}
use Rattle.fvn_lex.specs.Cut.{Piece}
use Rattle.fvn_syntax.specs.Pieces.{Text, is_name}
use Rattle.fvn_module_syntax.specs.declared.statement.Statement.{Statement}
use Rattle.fvn_module_statements.specs.declared.outcome.Reading.{Reading}
use Rattle.fvn_module_statements.specs.declared.outcome.Reading.TheVariants.{Read, LeftOut, NoForm}
use Rattle.fvn_module_syntax.specs.declared.form.Form.{Form}
use Rattle.fvn_module_statements.specs.declared.form.FormFault.{FormFault}
use Rattle.fvn_module_statements.specs.declared.form.FormFault.TheVariants as fault
use Rattle.fvn_module_syntax.specs.Words.{is_stop}
use Rattle.fvn_module_statements.specs.inner.Gather.{bind}
use Rattle.fvn_module_statements.specs.inner.Attributes.{word_of}
use Rattle.fvn_module_statements.specs.inner.Names.{is_empty}
use Rattle.fvn_module_statements.specs.inner.Statements.{statement_of}

-- what stands behind a first word of this text
abbrev pub behind : Text → List Piece → Option (List Piece)
behind text [] = None
behind text (p ∷ ps) = if is_name text p then Some ps else None

-- what stands before the first `endfm`, which is the last piece
abbrev pub before_end : List Piece → Option (List Piece)
before_end [] = None
before_end (p ∷ ps) =
    if is_name (codes "endfm") p then (if is_empty ps then Some [] else None)
    else bind (before_end ps) (λ r. Some (p ∷ r))

-- a name other than `endfm`, with its body
abbrev pub named_frame : Text → Option (List Piece) → Option (Text × List Piece)
named_frame name None = None
named_frame name (Some body) = if bytes_eq name (codes "endfm") then None else Some (name, body)

-- fmod NAME is BODY endfm
abbrev pub frame_of : List Piece → Option (Text × List Piece)
frame_of ps =
    bind (behind (codes "fmod") ps) (λ a.
    bind (word_of a) (λ n.
    bind (behind (codes "is") n.1) (λ b.
    named_frame n.0 (before_end b))))

-- what stands before and behind the first dot
abbrev pub split_dot : List Piece → Option (List Piece × List Piece)
split_dot [] = None
split_dot (p ∷ ps) =
    if is_stop p then Some ([], ps) else bind (split_dot ps) (λ r. Some (p ∷ r.0, r.1))

-- what has no dot behind it is no statement
abbrev pub end_at : ℕ → List Statement → List Piece → Result (List Statement) FormFault
end_at n sts [] = Ok sts
end_at n sts (p ∷ ps) = Err (fault.Statement n)

-- how the reading goes on, from the number of the next statement, those that were read and the pieces that are left
abbrev pub Onward : Type 0
Onward = ℕ → List Statement → List Piece → Result (List Statement) FormFault

-- what was read of a statement, and then the later ones
abbrev pub on_reading : ℕ → List Statement → List Piece → Reading Statement → Onward → Result (List Statement) FormFault
on_reading n sts ps (Read st) later = later (n + 1) (sts ++ (st ∷ [])) ps
on_reading n sts ps (LeftOut f) later = Err (fault.LeftOut n f)
on_reading n sts ps NoForm later = Err (fault.Statement n)

-- a statement before a dot, and then the later ones
abbrev pub on_dot : ℕ → List Statement → List Piece → Option (List Piece × List Piece) → Onward → Result (List Statement) FormFault
on_dot n sts ps None later = end_at n sts ps
on_dot n sts ps (Some r) later = on_reading n sts r.1 (statement_of r.0) later

-- these statements and those that follow, of which the first has this number, at most as many as there are pieces in the first list
abbrev pub statements_from : List Piece → ℕ → List Statement → List Piece → Result (List Statement) FormFault
statements_from [] n sts ps = Ok sts
statements_from (f ∷ fs) n sts ps = on_dot n sts ps (split_dot ps) (λ m more rest. statements_from fs m more rest)

-- all statements
abbrev pub body_of : List Piece → Result (List Statement) FormFault
body_of ps = statements_from ps 1 [] ps

-- the module of this name
abbrev pub form_with : Text → Result (List Statement) FormFault → Result Form FormFault
form_with name (Ok sts) = Ok (record { name = name; statements = sts })
form_with name (Err f) = Err f

-- the module in this frame
abbrev pub form_in : Option (Text × List Piece) → Result Form FormFault
form_in None = Err fault.Header
form_in (Some r) = form_with r.0 (body_of r.1)

-- the module of a text's pieces, or its first fault
abbrev pub form_of : List Piece → Result Form FormFault
form_of ps = form_in (frame_of ps)
