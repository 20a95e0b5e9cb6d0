-- Forms of Maude's modules that are left out, and the words by which they are known.
use Rattle.std.specs.Prelude.{◌||◌, ◌&&◌, Bool, true, false, if◌then◌else◌, List, [], ◌∷◌, Option, Some, None, codes}
use Rattle.std.specs.List.{list_any}
use Rattle.std.specs.Str.{bytes_eq}
use Rattle.fvn_lex.specs.Cut.{Piece}
use Rattle.fvn_syntax.specs.Pieces.{Text, is_word, is_name, is_special}
use Rattle.fvn_module_syntax.specs.declared.statement.Attribute.{Attribute}
use Rattle.fvn_module_syntax.specs.declared.statement.Attribute.TheVariants.{Assoc, Comm, Identity, Ditto}
use Rattle.fvn_module_syntax.specs.declared.statement.Feature.{Feature}
use Rattle.fvn_module_syntax.specs.declared.statement.Feature.TheVariants as feature

-- the left-out form that the first word of a statement begins
abbrev pub feature_of : Text → Option Feature
feature_of w =
    if bytes_eq w (codes "protecting") || bytes_eq w (codes "pr") || bytes_eq w (codes "including") || bytes_eq w (codes "inc")
    || bytes_eq w (codes "extending") || bytes_eq w (codes "ex") then Some feature.Import
    else if bytes_eq w (codes "mb") || bytes_eq w (codes "cmb") then Some feature.Membership
    else if bytes_eq w (codes "ceq") || bytes_eq w (codes "cq") then Some feature.Condition
    else if bytes_eq w (codes "rl") || bytes_eq w (codes "crl") then Some feature.Rule
    else None

-- Attributes.

-- a word that begins an attribute of an operator
abbrev pub begins_own : Text → Bool
begins_own w =
    bytes_eq w (codes "assoc") || bytes_eq w (codes "comm") || bytes_eq w (codes "ctor") || bytes_eq w (codes "ditto")
    || bytes_eq w (codes "id:") || bytes_eq w (codes "prec") || bytes_eq w (codes "gather") || bytes_eq w (codes "format")

-- a word that begins one of Maude's further attributes, which are left out
abbrev pub begins_further : Text → Bool
begins_further w =
    bytes_eq w (codes "left") || bytes_eq w (codes "right") || bytes_eq w (codes "memo") || bytes_eq w (codes "frozen")
    || bytes_eq w (codes "iter") || bytes_eq w (codes "idem") || bytes_eq w (codes "strat") || bytes_eq w (codes "strategy")
    || bytes_eq w (codes "poly") || bytes_eq w (codes "special") || bytes_eq w (codes "metadata")

-- what stands behind the name of an identity: a word that begins the next attribute, or the bracket that closes
abbrev pub is_next : Piece → Bool
is_next p = (is_word p && (begins_own p.text || begins_further p.text)) || is_special (codes "]") p

-- the attribute `assoc`
abbrev pub is_assoc : Attribute → Bool
is_assoc Assoc = true
is_assoc a = false

-- the attribute `comm`
abbrev pub is_comm : Attribute → Bool
is_comm Comm = true
is_comm a = false

-- the attribute `ditto`
abbrev pub is_ditto : Attribute → Bool
is_ditto Ditto = true
is_ditto a = false

-- the word stands before the bracket that closes
abbrev pub stands : Text → List Piece → Bool
stands w [] = false
stands w (p ∷ ps) = if is_special (codes "]") p then false else (is_name w p || stands w ps)

-- the left-out form that an attribute is, where these stand beside it
abbrev pub left_out : (assoc comm ditto : Bool) → Attribute → Option Feature
left_out assoc comm ditto Assoc = if comm || ditto then None else Some feature.Assoc
left_out assoc comm ditto (Identity e) = if comm && assoc then None else Some feature.Identity
left_out assoc comm ditto a = None

-- the first of two, where there is one
abbrev pub or_else : Option Feature → Option Feature → Option Feature
or_else None later = later
or_else (Some f) later = Some f

-- the first left-out form of these attributes
abbrev pub first_left_out : (assoc comm ditto : Bool) → List Attribute → Option Feature
first_left_out assoc comm ditto [] = None
first_left_out assoc comm ditto (a ∷ xs) = or_else (left_out assoc comm ditto a) (first_left_out assoc comm ditto xs)

-- the pieces begin with `id:`
abbrev pub begins_identity : List Piece → Bool
begins_identity [] = false
begins_identity (p ∷ ps) = is_name (codes "id:") p

-- the left-out form that a word begins, which begins no attribute here
abbrev pub left_out_at_word : Text → List Piece → Option Feature
left_out_at_word w ps =
    if bytes_eq w (codes "id:") then Some feature.Identity
    else if (bytes_eq w (codes "left") || bytes_eq w (codes "right")) && begins_identity ps then Some feature.Identity
    else if bytes_eq w (codes "prec") || bytes_eq w (codes "gather") || bytes_eq w (codes "format") then None
    else Some feature.Attribute

-- the left-out form that begins where no attribute can be read
abbrev pub left_out_at : List Piece → Option Feature
left_out_at [] = None
left_out_at (p ∷ ps) = if is_word p then left_out_at_word p.text ps else None

-- the first left-out form among attributes that were read, and at what is left of them
abbrev pub left_out_in : List Attribute → List Piece → Option Feature
left_out_in xs ps =
    or_else (first_left_out (list_any is_assoc xs || stands (codes "assoc") ps)
    (list_any is_comm xs || stands (codes "comm") ps)
    (list_any is_ditto xs || stands (codes "ditto") ps) xs) (left_out_at ps)
