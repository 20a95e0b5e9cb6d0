-- How the reader goes over sorts.
use Rattle.std.specs.Prelude.{◌||◌, ◌&&◌, Bool, true, false, if◌then◌else◌, List, [], ◌∷◌, Option, Some, None, codes}
use Rattle.fvn_lex.specs.Cut.{Piece}
use Rattle.fvn_syntax.specs.Pieces.{Text, is_word, is_name, is_special}
use Rattle.fvn_syntax.specs.declared.sorts.RawSort.{RawSort}
use Rattle.fvn_syntax.specs.declared.sorts.RawSort.TheVariants.{Name, Kind}
use Rattle.fvn_module_syntax.specs.declared.statement.RawRank.{RawRank}
use Rattle.fvn_module_statements.specs.inner.Gather.{bind, gather}

-- , WORD
abbrev pub after_comma : List Piece → Option (Text × List Piece)
after_comma [] = None
after_comma (p ∷ []) = None
after_comma (p ∷ q ∷ ps) = if is_special (codes ",") p && is_word q then Some (q.text, ps) else None

-- ]
abbrev pub kind_before : Text → List Text → List Piece → Option (RawSort × List Piece)
kind_before s ss [] = None
kind_before s ss (p ∷ ps) = if is_special (codes "]") p then Some (Kind s ss, ps) else None

-- WORD , WORD ]
abbrev pub bracket_sort : List Piece → Option (RawSort × List Piece)
bracket_sort [] = None
bracket_sort (p ∷ ps) =
    if is_word p then kind_before p.text (gather after_comma ps [] ps).0 (gather after_comma ps [] ps).1 else None

-- WORD, or [ WORD , WORD ]
abbrev pub sort_of : List Piece → Option (RawSort × List Piece)
sort_of [] = None
sort_of (p ∷ ps) =
    if is_special (codes "[") p then bracket_sort ps
    else if is_word p then Some (Name p.text, ps) else None

-- -> or ~>
abbrev pub arrow_of : List Piece → Option (Bool × List Piece)
arrow_of [] = None
arrow_of (p ∷ ps) =
    if is_name (codes "->") p then Some (false, ps)
    else if is_name (codes "~>") p then Some (true, ps) else None

-- a sort before the arrow
abbrev pub argument_of : List Piece → Option (RawSort × List Piece)
argument_of [] = None
argument_of (p ∷ ps) = if is_name (codes "->") p || is_name (codes "~>") p then None else sort_of (p ∷ ps)

-- arguments, an arrow and a result
abbrev pub rank_before : List RawSort → List Piece → Option (RawRank × List Piece)
rank_before ss ps =
    bind (arrow_of ps) (λ a. bind (sort_of a.1) (λ s. Some (record { args = ss; partial = a.0; result = s.0 }, s.1)))

-- SORT .. SORT -> SORT
abbrev pub rank_of : List Piece → Option (RawRank × List Piece)
rank_of ps = rank_before (gather argument_of ps [] ps).0 (gather argument_of ps [] ps).1
