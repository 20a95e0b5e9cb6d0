-- The names of the variables of problems and term texts are words with a colon behind them.
use Rattle.std.proofs.Common.{◌≡◌, ◌≢◌, ℕ, zero, suc, ◌+◌, ◌-◌, ◌<◌, inl, inr, Bool, true, false, List, [], ◌∷◌, ◌++◌, length, take, drop, Option, Some, None, Result, Ok, Err, refl, sym, ◌∙◌, subst, arith}
use Rattle.std.specs.Prelude.{◌==◌, ◌&&◌, nat_lt, slice_index_or, if◌then◌else◌, IfOk, All}
use Rattle.std.specs.List.{AllByRecursion}
use Rattle.std.proofs.lemmas.Bool.{ltb-true}
use Rattle.std.proofs.lemmas.Bool.Decides.{nat_tests}
use Rattle.std.proofs.lemmas.List.{append-nil, take-append-drop}
use Rattle.fvn_lex.specs.declared.token.Class.TheVariants.{Word, Special}
use Rattle.fvn_lex.specs.Bytes.{is_printed, is_special, goes_on, begins_comment}
use Rattle.fvn_lex.specs.Cut.{Piece}
use Rattle.fvn_lex.specs.Join.{IsPiece}
use Rattle.fvn_lex.specs.Laws.{PiecesByForm, PiecesStandAlone}
use Rattle.fvn_lex.specs.Parts.{goes_through, is_quoted_after, IsWordPiece}
use Rattle.fvn_lex.proofs.WordLemmas.{goes_through-append}
use Rattle.fvn_terms.specs.declared.plain.OpId.{OpId}
use Rattle.fvn_terms.specs.declared.plain.SortId.{SortId}
use Rattle.fvn_terms.specs.declared.plain.Plain.{Plain}
use Rattle.fvn_terms.specs.declared.declarations.Declarations.{Declarations}
use Rattle.fvn_terms.specs.Signature.{kind}
use Rattle.fvn_syntax.specs.declared.fault.TermFault.{TermFault}
use Rattle.fvn_syntax.specs.declared.fault.TermFault.TheVariants.{UnknownName, ReservedName}
use Rattle.fvn_syntax.specs.declared.names.Names.{Names}
use Rattle.fvn_syntax.specs.declared.naming.Meaning.{Meaning}
use Rattle.fvn_syntax.specs.declared.naming.Meaning.TheVariants.{Constant, Variable}
use Rattle.fvn_syntax.specs.Names.{last_colon, of_sort, sort_named, split_at, declared_sort, variable_or, variable_named, variable_of, constant_or, constant_named, resolve_name, op_named, bracket}
use Rattle.fvn_syntax.specs.Pieces.{Text, word, is_colon_name, is_reserved, without_last, right_paren}
use Rattle.fvn_syntax.specs.Raw.{RawTerm, RawTerms, name, call, round, kind_variable, last, and, spell, spell_all, IsWritten, AreWritten}
use Rattle.fvn_syntax.specs.Resolve.{Resolved, AllResolved, bind, or_fault, apply, the_variable, checked, resolve_meaning, resolve_kind, resolve, resolve_all}
use Rattle.fvn_syntax.specs.Texts.{place, unless_at}
use Rattle.fvn_syntax.proofs.PieceLemmas.{and-left}
use Rattle.fvn_problems.specs.Laws.{QueryNamesAreWords, ProblemNamesAreWords}
use Rattle.fvn_problems.specs.Problems.{IsPairOf, ArePairsOf}
use Rattle.fvn_problems.specs.Scopes.{guarded}
use Rattle.fvn_problems.specs.Spelling.{RawPair, spell_pair, spell_further, spell_pairs, spell_query, spell_problem, ending, equals, conjunction, pairs_in, IsWrittenPair}
use Rattle.fvn_problems.specs.VariableTexts.{IsVariableText}
use Rattle.fvn_problems.proofs.ProblemTexts.{all-at}
use Rattle.fvn_problems.proofs.Results.{after-bind, after-ok, after-unless, nothing-of}

-- Beginnings of words.

colon-goes : (quoted : Bool) → goes_on quoted 58 ≡ true
unfolding goes_on is_printed is_special
colon-goes true = refl
colon-goes false = refl

three : (a b c : Bool) → a ≡ true → b ≡ true → c ≡ true → (a && (b && c)) ≡ true
three true true true e f g = refl
three true true false e f g = g
three true false c e f g = f
three false b c e f g = e

through : (x rest more : Text) → goes_through false (x ++ rest) ≡ true → goes_through false more ≡ true → goes_through false (x ++ (58 ∷ more)) ≡ true
through x rest more h m =
    let begun : goes_through false x ≡ true = and-left (goes_through false x) (goes_through (is_quoted_after false x) rest) (sym (goes_through-append false x rest) ∙ h) in
    goes_through-append false x (58 ∷ more)
    ∙ three (goes_through false x) (goes_on (is_quoted_after false x) 58) (goes_through false more) begun (colon-goes (is_quoted_after false x)) m

no-comment : (x rest more : Text) → x ≢ [] → begins_comment (x ++ rest) ≡ false → begins_comment (x ++ (58 ∷ more)) ≡ false
unfolding begins_comment
no-comment [] rest more n h = absurd (n refl)
no-comment (a ∷ []) rest more n h = grind (arith, nat_tests)
no-comment (a ∷ b ∷ []) rest more n h = grind (arith, nat_tests)
no-comment (a ∷ b ∷ c ∷ x) rest more n h = h

word-form : (x rest more : Text) → x ≢ [] → goes_through false more ≡ true → IsWordPiece (word (x ++ rest)) → IsWordPiece (word (x ++ (58 ∷ more)))
word-form [] rest more n m f = absurd (n refl)
word-form (a ∷ []) rest more n m f =
    record { some = (λ e. (let g : a ∷ 58 ∷ more ≡ [] = e in cc)); printed = through (a ∷ []) rest more f.printed m; no_comment = no-comment (a ∷ []) rest more n f.no_comment; class = refl }
word-form (a ∷ b ∷ x) rest more n m f =
    record { some = (λ e. (let g : a ∷ b ∷ (x ++ (58 ∷ more)) ≡ [] = e in cc)); printed = through (a ∷ b ∷ x) rest more f.printed m; no_comment = no-comment (a ∷ b ∷ x) rest more n f.no_comment; class = refl }

-- x is the beginning of a text, and has a byte
record Begins (w x : Text) : Type 0 where
  pub rest : Text
  pub is : w ≡ x ++ rest
  pub some : x ≢ []

take-some : (n : ℕ) (w : Text) → 0 < n → w ≢ [] → take n w ≢ []
take-some zero w l h = absurd (omega arith)
take-some (suc n) [] l h = absurd (h refl)
take-some (suc n) (b ∷ w) l h = λ e. (let f : b ∷ take n w ≡ [] = e in cc)

begins-take : (n : ℕ) (w : Text) → 0 < n → w ≢ [] → Begins w (take n w)
begins-take n w l h = record { rest = drop n w; is = sym (take-append-drop n w); some = take-some n w l h }

begins-whole : (w : Text) → w ≢ [] → Begins w w
begins-whole w h = record { rest = []; is = sym (append-nil w); some = h }

not-nil : (w : Text) → 0 < length w → w ≢ []
not-nil [] l = absurd (omega arith)
not-nil (b ∷ w) l = λ e. (let f : b ∷ w ≡ [] = e in cc)

begins-colon : (w : Text) → is_colon_name w ≡ true → Begins w (without_last w)
begins-colon w h =
    let l : 1 < length w = ltb-true 1 (length w) (and-left (nat_lt 1 (length w)) (slice_index_or w (length w - 1) 0 == 58) h) in
    begins-take (length w - 1) w (omega arith) (not-nil w (omega arith))

positive : (n : ℕ) → (n == 0) ≡ false → 0 < n
positive zero e = (let f : true ≡ false = e in cc)
positive (suc n) e = omega arith

-- What a name stands for begins the name.

module _ (d : Declarations) (names : Names) (w : Text) (not_empty : w ≢ []) where
  abbrev Begun : Option (Text × SortId) → Type 0
  Begun None = Unit {0}
  Begun (Some v) = Begins w v.0

  abbrev Means : Option Meaning → Type 0
  Means None = Unit {0}
  Means (Some (Constant f)) = Unit {0}
  Means (Some (Variable x s)) = Begins w x

  of-sort : (x : Text) → Begins w x → (o : Option SortId) → Begun (of_sort x o)
  of-sort x b None = tt
  of-sort x b (Some s) = b

  split : (o : Option ℕ) → Begun (split_at names.sorts w o)
  split None = tt
  split (Some i) = go (i == 0) refl where
    go : (b : Bool) → (i == 0) ≡ b → Begun (if b then None else of_sort (take i w) (sort_named names.sorts (drop (i + 1) w)))
    go true e = tt
    go false e = of-sort (take i w) (begins-take i w (positive i e) not_empty) (sort_named names.sorts (drop (i + 1) w))

  variable : (o : Option SortId) → Begun (variable_or names w o)
  variable None = split (last_colon w)
  variable (Some s) = begins-whole w not_empty

  of-variable : (v : Option (Text × SortId)) → Begun v → Means (variable_of v)
  of-variable None b = tt
  of-variable (Some v) b = b

  constant : (o : Option OpId) → Means (constant_or names w o)
  constant None = of-variable (variable_named names w) (variable (declared_sort names.variables.sorts (place names.variables.texts w)))
  constant (Some f) = tt

  means : Means (resolve_name d names w)
  means = constant (constant_named d names w)

-- Rows of tokens.

abbrev Tokens : List Piece → Type 0
Tokens ps = AllByRecursion IsPiece ps

tokens-left : (ps qs : List Piece) → Tokens (ps ++ qs) → Tokens ps
tokens-left [] qs h = tt
tokens-left (p ∷ ps) qs h = (h.0, tokens-left ps qs h.1)

tokens-right : (ps qs : List Piece) → Tokens (ps ++ qs) → Tokens qs
tokens-right [] qs h = h
tokens-right (p ∷ ps) qs h = tokens-right ps qs h.1

tokens-of : (ps : List Piece) → All IsPiece ps → Tokens ps
tokens-of [] h = tt
tokens-of (p ∷ ps) h = (h zero p (omega arith), tokens-of ps (λ k e l. h (suc k) e (omega arith)))

abbrev PairTokens : RawPair → Type 0
PairTokens r = Tokens (spell r.left) × Tokens (spell r.right)

pair-tokens : (between : Text) (r : RawPair) → Tokens (spell_pair between r) → PairTokens r
pair-tokens between r h = (tokens-left (spell r.left) (word between ∷ spell r.right) h, (tokens-right (spell r.left) (word between ∷ spell r.right) h).1)

further-tokens : (between : Text) (separator : Piece) (rs : List RawPair) → Tokens (spell_further between separator rs) → AllByRecursion PairTokens rs
further-tokens between separator [] h = tt
further-tokens between separator (r ∷ rs) h =
    let first = tokens-left (spell_pair between r) (spell_further between separator rs) h.1 in
    let later = tokens-right (spell_pair between r) (spell_further between separator rs) h.1 in
    (pair-tokens between r first, further-tokens between separator rs later)

-- Names that a row of tokens puts to those before it.

abbrev AreTexts : List Text → Type 0
AreTexts xs = AllByRecursion IsVariableText xs

texts-more : (xs : List Text) (x : Text) → AreTexts xs → IsVariableText x → AreTexts (xs ++ (x ∷ []))
texts-more [] x h i = (i, tt)
texts-more (y ∷ xs) x h i = (h.0, texts-more xs x h.1 i)

texts-with : (xs : List Text) (x : Text) → AreTexts xs → IsVariableText x → (o : Option ℕ) → AreTexts (unless_at xs x o)
texts-with xs x h i None = texts-more xs x h i
texts-with xs x h i (Some k) = h

abbrev Kept : Resolved → Type 0
Kept r = AreTexts r.texts

abbrev KeptAll : AllResolved → Type 0
KeptAll r = AreTexts r.texts

checked-kept : (x : Text) (r : Result Resolved TermFault) → (is_reserved x ≡ false → IfOk r Kept) → IfOk (checked true x r) Kept
checked-kept x r f = go (is_reserved x) refl where
  go : (b : Bool) → is_reserved x ≡ b → IfOk (if b then Err ReservedName else r) Kept
  go true e = tt
  go false e = f e

module _ (law : PiecesByForm) (d : Declarations) (names : Names) where
  form : (w : Text) → IsPiece (word w) → IsWordPiece (word w)
  form w h = elim ((law (word w)).0 h) [ inl f ↦ f | inr s ↦ absurd (let e : Word ≡ Special = s.class in cc) ]

  -- a beginning of a word names a variable, where it does not begin with the reserved byte
  text-of : (w x : Text) → IsPiece (word w) → Begins w x → is_reserved x ≡ false → IsVariableText x
  text-of w x h b r =
      record {
        some = b.some;
        not_reserved = r;
        with_colon = λ more m. (law (word (x ++ (58 ∷ more)))).1 (inl (word-form x b.rest more b.some m (subst (λ v. IsWordPiece (word v)) b.is (form w h))));
      }

  variable-kept : (before : List Text) (w x : Text) (s k : SortId) → IsPiece (word w) → Begins w x → AreTexts before → IfOk (checked true x (Ok (the_variable before x s k))) Kept
  variable-kept before w x s k h b a = checked-kept x (Ok (the_variable before x s k)) (λ r. texts-with before x a (text-of w x h b r) (place before x))

  meaning-kept : (before : List Text) (w : Text) (not_empty : w ≢ []) → IsPiece (word w) → AreTexts before → (m : Option Meaning) → Means d names w not_empty m →
      IfOk (resolve_meaning (guarded d names) before m) Kept
  meaning-kept before w not_empty h a None b = tt
  meaning-kept before w not_empty h a (Some (Constant f)) b = a
  meaning-kept before w not_empty h a (Some (Variable x s)) b = variable-kept before w x s (kind d s) h b a

  kind-kept : (before : List Text) (w x : Text) → IsPiece (word w) → Begins w x → AreTexts before → (o : Option SortId) → IfOk (checked true x (resolve_kind (guarded d names) before x o)) Kept
  kind-kept before w x h b a None = checked-kept x (Err UnknownName) (λ r. tt)
  kind-kept before w x h b a (Some k) = variable-kept before w x k (kind d k) h b a

  apply-kept : (f : OpId) (r : AllResolved) → KeptAll r → IfOk (apply d f r) Kept
  apply-kept f r h = after-unless Kept d _ _ h

  mutual
    kept : (t : RawTerm) (before : List Text) → IsWritten t → Tokens (spell t) → AreTexts before → IfOk (resolve (guarded d names) before t) Kept
    kept (name w) before i h a = meaning-kept before w (form w h.0).some h.0 a (resolve_name d names w) (means d names w (form w h.0).some)
    kept (round t) before i h a = kept t before i (tokens-left (spell t) (right_paren ∷ []) h.1) a
    kept (kind_variable w s ss) before i h a = kind-kept before w (without_last w) h.0 (begins-colon w i) a (bracket names.sorts d.kinds s ss)
    kept (call w ts) before i h a =
        after-bind (λ f. Unit {0}) Kept (or_fault UnknownName (op_named names w)) (λ f. bind (resolve_all (guarded d names) before ts) (apply d f)) (nothing-of UnknownName (op_named names w))
        (λ f _. after-bind KeptAll Kept (resolve_all (guarded d names) before ts) (apply d f) (kept-all ts before i (tokens-left (spell_all ts) (right_paren ∷ []) h.1.1) a) (apply-kept f))

    kept-all : (ts : RawTerms) (before : List Text) → AreWritten ts → Tokens (spell_all ts) → AreTexts before → IfOk (resolve_all (guarded d names) before ts) KeptAll
    kept-all (last t) before i h a = after-bind Kept KeptAll (resolve (guarded d names) before t) _ (kept t before i h a) (λ r b. b)
    kept-all (and t ts) before i h a =
        after-bind Kept KeptAll (resolve (guarded d names) before t) _ (kept t before i.0 (tokens-left (spell t) _ h) a)
        (λ r b. after-bind KeptAll KeptAll (resolve_all (guarded d names) r.texts ts) _ (kept-all ts r.texts i.1 (tokens-right (spell t) _ h).1 b) (λ rs e. e))

  pair-kept : (before : List Text) (raw : RawPair) (p : Plain × Plain) (after : List Text) → IsPairOf (guarded d names) before raw p after → IsWrittenPair raw → PairTokens raw →
      AreTexts before → AreTexts after
  pair-kept before raw p after q i h a =
      let l = after-ok Kept (resolve (guarded d names) before raw.left) q.left q.left_stands (kept raw.left before i.0 h.0 a) in
      subst AreTexts (sym q.names) (after-ok Kept (resolve (guarded d names) q.left.texts raw.right) q.right q.right_stands (kept raw.right q.left.texts i.1 h.1 l))

  pairs-kept : (before : List Text) (rs : List RawPair) (ps : List (Plain × Plain)) (after : List Text) → ArePairsOf (guarded d names) before rs ps after →
      AllByRecursion IsWrittenPair rs → AllByRecursion PairTokens rs → AreTexts before → AreTexts after
  pairs-kept before [] [] after q i h a = subst AreTexts q a
  pairs-kept before [] (p ∷ ps) after q i h a = absurd q
  pairs-kept before (r ∷ rs) [] after q i h a = absurd q
  pairs-kept before (r ∷ rs) (p ∷ ps) after q i h a = pairs-kept q.0 rs ps after q.1.1 i.1 h.1 (pair-kept before r p q.0 q.1.0 i.0 h.0 a)

pub query-names : PiecesByForm → PiecesStandAlone → QueryNamesAreWords
query-names law alone d names bytes q a =
    let raw = a.raw in
    let row = tokens-of (spell_query raw) (alone bytes (spell_query raw) a.text.spelled) in
    let asked = a.asked in
    let k = kept law d names raw.term [] a.text.written (tokens-left (spell raw.term) (ending raw.dotted) row) tt in
    all-at IsVariableText q.names.texts (subst AreTexts (sym asked.names) (after-ok Kept (resolve (guarded d names) [] raw.term) asked.resolved asked.stands k))

pub problem-names : PiecesByForm → PiecesStandAlone → ProblemNamesAreWords
problem-names law alone d names bytes p a =
    let raw = a.raw in
    let row = tokens-of (spell_problem raw) (alone bytes (spell_problem raw) a.text.spelled) in
    let pairs = tokens-left (spell_pairs equals conjunction (pairs_in raw)) (ending raw.dotted) row in
    let first = pair-tokens equals raw.first (tokens-left (spell_pair equals raw.first) (spell_further equals conjunction raw.others) pairs) in
    let later = further-tokens equals conjunction raw.others (tokens-right (spell_pair equals raw.first) (spell_further equals conjunction raw.others) pairs) in
    all-at IsVariableText p.names.texts (pairs-kept law d names [] (pairs_in raw) p.pairs p.names.texts a.asked.pairs a.text.written (first, later) tt)
