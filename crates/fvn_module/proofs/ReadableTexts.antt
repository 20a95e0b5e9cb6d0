-- The names of sorts and of operators are words.
use Rattle.std.proofs.Common.{◌≡◌, inl, inr, true, false, List, [], ◌∷◌, ◌++◌, map, sym, subst}
use Rattle.std.specs.Prelude.{codes}
use Rattle.std.specs.List.{All, AllByRecursion, Contains}
use Rattle.std.proofs.lemmas.List.Elements.{All-nil, All-cons, All-contains, All-from_recursion, Contains-append_left, Contains-append_right}
use Rattle.fvn_base.proofs.Membership.{contains_here, contains_later, contains_cases, contains_none, map_contains}
use Rattle.fvn_lex.specs.Cut.{Piece}
use Rattle.fvn_lex.specs.Join.{IsPiece}
use Rattle.fvn_syntax.specs.Pieces.{Text, word, dot, left_paren, right_paren}
use Rattle.fvn_module_syntax.specs.declared.statement.OperatorName.{OperatorName}
use Rattle.fvn_module_syntax.specs.declared.statement.OperatorName.TheVariants.{Single, Round}
use Rattle.fvn_module_syntax.specs.declared.statement.Statement.{Statement}
use Rattle.fvn_module_syntax.specs.declared.statement.Statement.TheVariants.{Sorts, Subsorts, Operator, Operators, Variables, Equation}
use Rattle.fvn_module_syntax.specs.declared.form.Form.{Form}
use Rattle.fvn_module_syntax.specs.Spelling.{each, spell_word, words, colon, spell_rank, bracketed, spell_attribute, spell_name, spell_statement}
use Rattle.fvn_module_syntax.specs.Words.{names_touch}
use Rattle.fvn_module_syntax.specs.Written.{IsSortName, IsName, IsWritten}
use Rattle.fvn_module_statements.specs.Forms.{dotted, end, spell_frame, IsStatement, IsFormOf}
use Rattle.fvn_module_syntax.specs.Words.{is_stop}
use Rattle.fvn_module_names.specs.Names.{joined, name_text, sorts_in, operators_in, sorts_of, operators_of}
use Rattle.fvn_module.specs.Readable.{IsWord, IsSortText}
use Rattle.fvn_module.proofs.ReadableLists.{all-contains, with_names-all}
use Rattle.fvn_module.proofs.ReadableWords.{IsToken, joined-word}

each-contains : {A : Type 0} (spell : A → List Piece) (xs : List A) (x : A) (p : Piece) → Contains xs x → Contains (spell x) p → Contains (each spell xs) p
each-contains spell [] x p h k = absurd (contains_none x h)
each-contains spell (y ∷ xs) x p h k = elim (contains_cases y xs x h) [
  | inl e ↦ Contains-append_left (spell y) (each spell xs) p (subst (λ z. Contains (spell z) p) (sym e) k)
  | inr i ↦ Contains-append_right (spell y) (each spell xs) p (each-contains spell xs x p i k)
]

-- the tokens of a statement, and of a name behind `ops`
abbrev Tokens : List Piece → Type 0
Tokens ps = (p : Piece) → Contains ps p → IsToken p

single-word : (w : Text) → Tokens (word w ∷ []) → IsWord w
single-word w h = (h (word w) (contains_here (word w) [])).piece

-- each of these words is a token
each-word : (ws : List Text) → Tokens (words ws) → (w : Text) → Contains ws w → IsWord w
each-word ws h w c = (h (word w) (each-contains spell_word ws w (word w) c (contains_here (word w) []))).piece

name-word : (n : OperatorName) → IsName n → names_touch n ≡ true → Tokens (spell_name n) → IsWord (name_text n)
name-word (Single w) is t h = single-word w h
name-word (Round ps) is t h =
    joined-word ps is.0 (λ p c. h p (contains_later left_paren (ps ++ (right_paren ∷ [])) p (Contains-append_left ps (right_paren ∷ []) p c))) t

names-words : (names : List OperatorName) → AllByRecursion IsName names → AllByRecursion (λ n. names_touch n ≡ true) names →
    Tokens (each spell_name names) → All IsWord (map name_text names)
names-words names is t h = all-contains IsWord (map name_text names) go where
  go : (w : Text) → Contains (map name_text names) w → IsWord w
  go w c =
      let n = map_contains name_text names w c in
      subst IsWord n.1.1
      (name-word n.0 (All-contains IsName names n.0 (All-from_recursion IsName names is) n.1.0)
      (All-contains (λ m. names_touch m ≡ true) names n.0 (All-from_recursion (λ m. names_touch m ≡ true) names t) n.1.0)
      (λ p k. h p (each-contains spell_name names n.0 p n.1.0 k)))

-- the sorts that a written statement declares
statement-sorts : (st : Statement) → IsWritten st → Tokens (spell_statement st) → All IsSortText (sorts_in st)
statement-sorts (Sorts plural names) w h = all-contains IsSortText names go where
  go : (s : Text) → Contains names s → IsSortText s
  go s c = record {
    word = each-word names (λ p k. h p (contains_later _ (words names) p k)) s c;
    no_colon = All-contains IsSortName names s (All-from_recursion IsSortName names w.1) c;
  }
statement-sorts (Subsorts plural groups) w h = All-nil IsSortText
statement-sorts (Operator name rank attributes) w h = All-nil IsSortText
statement-sorts (Operators names rank attributes) w h = All-nil IsSortText
statement-sorts (Variables plural names sort) w h = All-nil IsSortText
statement-sorts (Equation label left right marks) w h = All-nil IsSortText

-- the operators that a written statement declares
statement-operators : (st : Statement) → IsWritten st → Tokens (spell_statement st) → All IsWord (operators_in st)
statement-operators (Sorts plural names) w h = All-nil IsWord
statement-operators (Subsorts plural groups) w h = All-nil IsWord
statement-operators (Operator name rank attributes) w h =
    All-cons IsWord (joined name) []
    (joined-word name w.0 (λ p k. h p (contains_later _ (name ++ (colon ∷ spell_rank rank ++ bracketed spell_attribute attributes)) p
    (Contains-append_left name (colon ∷ spell_rank rank ++ bracketed spell_attribute attributes) p k))) w.2)
    (All-nil IsWord)
statement-operators (Operators names rank attributes) w h =
    names-words names w.1 w.2 (λ p k. h p (contains_later _ (each spell_name names ++ (colon ∷ spell_rank rank ++ bracketed spell_attribute attributes)) p
    (Contains-append_left (each spell_name names) (colon ∷ spell_rank rank ++ bracketed spell_attribute attributes) p k)))
statement-operators (Variables plural names sort) w h = All-nil IsWord
statement-operators (Equation label left right marks) w h = All-nil IsWord

module _ (f : Form) (row : List Piece) (pieces : All IsPiece row) (form : IsFormOf row f) where
  body-piece : (p : Piece) → Contains (each dotted f.statements) p → IsPiece p
  body-piece p h =
      let whole = each dotted f.statements ++ (end ∷ []) in
      let in_whole : Contains whole p = Contains-append_left (each dotted f.statements) (end ∷ []) p h in
      let is = word (codes "is") in
      let in_frame : Contains (spell_frame f.name (each dotted f.statements)) p =
      contains_later (word (codes "fmod")) (word f.name ∷ is ∷ whole) p
      (contains_later (word f.name) (is ∷ whole) p (contains_later is whole p in_whole)) in
      All-contains IsPiece row p pieces (subst (λ ps. Contains ps p) (sym form.frame.spelled) in_frame)

  statement-is : (st : Statement) → Contains f.statements st → IsStatement st
  statement-is st h = All-contains IsStatement f.statements st (All-from_recursion IsStatement f.statements form.statements) h

  statement-tokens : (st : Statement) → Contains f.statements st → Tokens (spell_statement st)
  statement-tokens st h p k = record {
    piece = body-piece p (each-contains dotted f.statements st p h (Contains-append_left (spell_statement st) (dot ∷ []) p k));
    no_stop = All-contains (λ q. is_stop q ≡ false) (spell_statement st) p (All-from_recursion (λ q. is_stop q ≡ false) (spell_statement st) (statement-is st h).undotted) k;
  }

  -- the name of each sort is a word without a colon
  pub sort-texts : All IsSortText (sorts_of f.statements)
  sort-texts = with_names-all IsSortText sorts_in [] f.statements (All-nil IsSortText)
      (λ st h. statement-sorts st (statement-is st h).written (statement-tokens st h))

  -- the name of each operator is a word
  pub op-texts : All IsWord (operators_of f.statements)
  op-texts = with_names-all IsWord operators_in [] f.statements (All-nil IsWord)
      (λ st h. statement-operators st (statement-is st h).written (statement-tokens st h))
