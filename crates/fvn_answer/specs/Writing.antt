-- How values are written: each variable with its sort, and arguments that may be exchanged in byte order.
use Rattle.std.specs.Prelude.{ℕ, Bool, false, nat_lt, if◌then◌else◌, List, [], ◌∷◌, ◌++◌, map, slice_index_or}
use Rattle.std.specs.Global.{Vec}
use Rattle.std.specs.Ordering.{is_gt, nat_cmp}
use Rattle.std.specs.Cmp.Lexicographic.{slice_cmp}
use Rattle.fvn_lex.specs.Cut.{Piece}
use Rattle.fvn_lex.specs.Join.{Laid, join}
use Rattle.fvn_terms.specs.declared.plain.Var.{Var}
use Rattle.fvn_terms.specs.declared.plain.OpId.{OpId}
use Rattle.fvn_terms.specs.declared.plain.SortId.{SortId}
use Rattle.fvn_terms.specs.declared.declarations.Axioms.{Axioms}
use Rattle.fvn_terms.specs.Equality.{is_commutative}
use Rattle.fvn_terms.specs.declared.declarations.Declarations.{Declarations}
use Rattle.fvn_terms.specs.Signature.{axioms}
use Rattle.fvn_signature.specs.Queries.{direct_subsorts}
use Rattle.fvn_forms.specs.Flat.{FlatTerm, FlatTerms, fvar, fapp, fnone, fmore}
use Rattle.fvn_syntax.specs.declared.names.Names.{Names}
use Rattle.fvn_syntax.specs.Pieces.{Text}
use Rattle.fvn_syntax.specs.Raw.{RawTerm, RawTerms, name, call, kind_variable, last, and, spell}
use Rattle.fvn_answer.specs.Numberings.{new_name}

-- the bytes of each text
abbrev pub bytes_of : List (Vec ℕ) → List Text
bytes_of = map (λ v. v.items)

-- no space is asked for before the piece
abbrev pub close : Piece → Laid
close p = record { spaced = false; piece = p }

-- the text of a written term: its pieces, with a space only where two of them would else be one token
abbrev pub text_of : RawTerm → Text
text_of t = join (map close (spell t))

-- the first text stands after the second in byte order
abbrev pub is_after : Text → Text → Bool
is_after s t = is_gt (slice_cmp nat_cmp s t)

-- the terms with t put before the first one whose text its own does not stand after
abbrev pub put : RawTerm → List RawTerm → List RawTerm
put t [] = t ∷ []
put t (u ∷ us) = if is_after (text_of t) (text_of u) then u ∷ put t us else t ∷ u ∷ us

-- the terms in byte order of their texts
abbrev pub in_byte_order : List RawTerm → List RawTerm
in_byte_order [] = []
in_byte_order (t ∷ ts) = put t (in_byte_order ts)

-- the arguments of an operator with these axioms: in byte order where they may be exchanged
abbrev pub arranged : Axioms → List RawTerm → List RawTerm
arranged a ts = if is_commutative a then in_byte_order ts else ts

-- one or more arguments
abbrev pub arguments : RawTerm → List RawTerm → RawTerms
arguments t [] = last t
arguments t (u ∷ us) = and t (arguments u us)

-- a constant is its name; other operators stand before their arguments
abbrev pub over : Text → List RawTerm → RawTerm
over w [] = name w
over w (t ∷ ts) = call w (arguments t ts)

module _ (d : Declarations) where
  -- the sort after which a kind is named: the first of the declared sorts right below it, which are its maximal ones
  abbrev pub top : SortId → SortId
  top k = slice_index_or (direct_subsorts d k) 0 k

  module _ (names : Names) where
    -- the text of a declared sort
    abbrev pub sort_text : SortId → Text
    sort_text s = slice_index_or names.sorts s.0 []

    -- the text of an operator
    abbrev pub op_text : OpId → Text
    op_text f = slice_index_or names.ops f.0 []

    -- NAME:SORT, or NAME:[S] for a kind
    abbrev pub sorted : Text → SortId → RawTerm
    sorted x s =
        if nat_lt s.0 d.sorts then name (x ++ 58 ∷ sort_text s)
        else kind_variable (x ++ 58 ∷ []) (sort_text (top s)) []

    module _ (order : List Var) where
      -- how a value is written; `order` numbers its variables
      abbrev mutual
        pub written : FlatTerm → RawTerm
        written (fvar x) = sorted (new_name order x) x.sort
        written (fapp f joined ts) = over (op_text f) (arranged (axioms d f) (written_all ts))

        -- how several values are written
        pub written_all : FlatTerms → List RawTerm
        written_all fnone = []
        written_all (fmore t ts) = written t ∷ written_all ts
