-- The reader of statements finds exactly the spelled statements.
use Rattle.std.proofs.Common.{◌≡◌, Bool, true, false, List, [], ◌∷◌, ◌++◌, Option, Some, None, refl, sym, ap, ◌∙◌, subst}
use Rattle.std.specs.Prelude.{codes}
use Rattle.std.specs.List.{AllByRecursion, list_all}
use Rattle.std.specs.Str.{bytes_eq}
use Rattle.fvn_lex.specs.Cut.{Piece}
use Rattle.fvn_syntax.specs.Pieces.{Text, word, is_word, is_name}
use Rattle.fvn_syntax.specs.declared.sorts.RawSort.{RawSort}
use Rattle.fvn_syntax.specs.Raw.{spell_sort}
use Rattle.fvn_syntax.proofs.PieceLemmas.{word-is, name-is}
use Rattle.fvn_module_syntax.specs.declared.statement.RawRank.{RawRank}
use Rattle.fvn_module_syntax.specs.declared.statement.Attribute.{Attribute}
use Rattle.fvn_module_syntax.specs.declared.statement.OperatorName.{OperatorName}
use Rattle.fvn_module_syntax.specs.declared.statement.Statement.{Statement}
use Rattle.fvn_module_syntax.specs.declared.statement.Statement.TheVariants as statement
use Rattle.fvn_module_syntax.specs.declared.statement.Feature.{Feature}
use Rattle.fvn_module_statements.specs.declared.outcome.Reading.{Reading}
use Rattle.fvn_module_statements.specs.declared.outcome.Reading.TheVariants.{Read, LeftOut, NoForm}
use Rattle.fvn_module_statements.specs.declared.reading.Keyword.{Keyword}
use Rattle.fvn_module_statements.specs.declared.reading.Keyword.TheVariants.{Sorts, Subsorts, Operator, Operators, Variables, Equation}
use Rattle.fvn_module_syntax.specs.Spelling.{each, equals, spell_label, spell_mark, words, colon, spell_rank, spell_attribute, bracketed, spell_name, spell_groups, sort_word, subsort_word, variable_word, spell_statement}
use Rattle.fvn_module_syntax.specs.Written.{NotEmpty, IsRank, AreAttributes, IsName, IsWritten}
use Rattle.fvn_module_statements.specs.inner.Gather.{gather}
use Rattle.fvn_module_statements.specs.inner.Sorts.{rank_of}
use Rattle.fvn_module_statements.specs.inner.Attributes.{is_some, attributes_of}
use Rattle.fvn_module_statements.specs.inner.Equations.{equation_of, unless_unnamed}
use Rattle.fvn_module_statements.specs.inner.Names.{is_empty, sort_names_of, groups_of, variables_of, split_colon, name_of}
use Rattle.fvn_module_syntax.specs.Words.{touch, names_touch}
use Rattle.fvn_module_statements.specs.inner.Statements.{with_rank, operator_of, operators_behind, operators_of, keyword_of, statement_behind, statement_of}
use Rattle.fvn_module_syntax.specs.LeftOut.{feature_of}
use Rattle.fvn_module_statements.proofs.GatherExact.{gather-sound, gather-spelled}
use Rattle.fvn_module_statements.proofs.SortExact.{Any, rank-sound, rank-complete}
use Rattle.fvn_module_statements.proofs.AttributeExact.{by_text, some-is, attributes-sound, attributes-complete}
use Rattle.fvn_module_statements.proofs.EquationExact.{equation-sound, equation-complete, asked-read}
use Rattle.fvn_module_statements.proofs.NamesExact.{is_some-of, sort_names-sound, sort_names-complete, groups-sound, groups-complete}
use Rattle.fvn_module_statements.proofs.OperatorNamesExact.{variables-sound, variables-complete, split_colon-sound, split_colon-complete, name-sound, name-complete, name_some}
use Rattle.fvn_syntax.proofs.PieceLemmas.{bytes_eq-is}

-- the word that begins a statement
abbrev pub keyword_word : Keyword → Text
keyword_word (Sorts plural) = sort_word plural
keyword_word (Subsorts plural) = subsort_word plural
keyword_word Operator = codes "op"
keyword_word Operators = codes "ops"
keyword_word (Variables plural) = variable_word plural
keyword_word Equation = codes "eq"

pub keyword-sound : (w : Text) (k : Keyword) → keyword_of w ≡ Some k → w ≡ keyword_word k
keyword-sound w k h =
    by_text w (codes "sort") (λ a. found (codes "sort") a (Sorts false) refl (rw a at h))
    (λ a. by_text w (codes "sorts") (λ b. found (codes "sorts") b (Sorts true) refl (rw (a, b) at h))
    (λ b. by_text w (codes "subsort") (λ c. found (codes "subsort") c (Subsorts false) refl (rw (a, b, c) at h))
    (λ c. by_text w (codes "subsorts") (λ d. found (codes "subsorts") d (Subsorts true) refl (rw (a, b, c, d) at h))
    (λ d. by_text w (codes "op") (λ e. found (codes "op") e Operator refl (rw (a, b, c, d, e) at h))
    (λ e. by_text w (codes "ops") (λ f. found (codes "ops") f Operators refl (rw (a, b, c, d, e, f) at h))
    (λ f. by_text w (codes "var") (λ g. found (codes "var") g (Variables false) refl (rw (a, b, c, d, e, f, g) at h))
    (λ g. by_text w (codes "vars") (λ i. found (codes "vars") i (Variables true) refl (rw (a, b, c, d, e, f, g, i) at h))
    (λ i. by_text w (codes "eq") (λ l. found (codes "eq") l Equation refl (rw (a, b, c, d, e, f, g, i, l) at h))
    (λ l. let j = rw (a, b, c, d, e, f, g, i, l) at h in cc)))))))))
  where
    found : (t : Text) → bytes_eq w t ≡ true → (q : Keyword) → t ≡ keyword_word q → Some q ≡ Some k → w ≡ keyword_word k
    found t e q s j = let i : q ≡ k = cc in bytes_eq-is w t e ∙ s ∙ ap keyword_word i

keyword-complete : (k : Keyword) → keyword_of (keyword_word k) ≡ Some k
keyword-complete (Sorts false) = refl
keyword-complete (Sorts true) = refl
keyword-complete (Subsorts false) = refl
keyword-complete (Subsorts true) = refl
keyword-complete Operator = refl
keyword-complete Operators = refl
keyword-complete (Variables false) = refl
keyword-complete (Variables true) = refl
keyword-complete Equation = refl

no_feature : (k : Keyword) → feature_of (keyword_word k) ≡ None
no_feature (Sorts false) = refl
no_feature (Sorts true) = refl
no_feature (Subsorts false) = refl
no_feature (Subsorts true) = refl
no_feature Operator = refl
no_feature Operators = refl
no_feature (Variables false) = refl
no_feature (Variables true) = refl
no_feature Equation = refl

pub behind-keyword : (k : Keyword) (ps : List Piece) → statement_of (word (keyword_word k) ∷ ps) ≡ statement_behind ps (Some k)
behind-keyword k ps = rw (no_feature k, keyword-complete k) refl

pub not_empty : (ps : List Piece) → NotEmpty ps → is_empty ps ≡ false
not_empty [] h = absurd h
not_empty (p ∷ ps) h = refl

pub empty-not : (ps : List Piece) → is_empty ps ≡ false → NotEmpty ps
empty-not [] h = cc
empty-not (p ∷ ps) h = tt

-- ranks with attributes
record Ranked (make : RawRank → List Attribute → Statement) (ps : List Piece) (st : Statement) : Type 0 where
  pub rank : RawRank
  pub attributes : List Attribute
  pub spelled : ps ≡ spell_rank rank ++ bracketed spell_attribute attributes
  pub is_rank : IsRank rank
  pub are_attributes : AreAttributes attributes
  pub is : make rank attributes ≡ st

with_rank-sound : (make : RawRank → List Attribute → Statement) (ps : List Piece) (st : Statement) → with_rank make (rank_of ps) ≡ Read st → Ranked make ps st
with_rank-sound make ps st h = go (rank_of ps) refl where
  inner : (r : RawRank × List Piece) → rank_of ps ≡ Some r → (o : Reading (List Attribute)) → attributes_of r.1 ≡ o → Ranked make ps st
  inner r e NoForm f = let g = rw (e, f) at h in cc
  inner r e (LeftOut x) f = let g = rw (e, f) at h in cc
  inner r e (Read xs) f =
      let g : Read (make r.0 xs) ≡ Read st = rw (e, f) at h in
      let k = rank-sound ps r e in
      let a = attributes-sound r.1 xs f in
      record { rank = r.0; attributes = xs; spelled = k.0 ∙ ap (λ x. spell_rank r.0 ++ x) a.0; is_rank = k.1; are_attributes = a.1; is = cc }

  go : (o : Option (RawRank × List Piece)) → rank_of ps ≡ o → Ranked make ps st
  go None e = let g = rw e at h in cc
  go (Some r) e = inner r e (attributes_of r.1) refl

with_rank-complete : (make : RawRank → List Attribute → Statement) (rank : RawRank) (xs : List Attribute) → IsRank rank → AreAttributes xs →
    with_rank make (rank_of (spell_rank rank ++ bracketed spell_attribute xs)) ≡ Read (make rank xs)
with_rank-complete make rank xs h k = rw (rank-complete rank (bracketed spell_attribute xs) h, attributes-complete xs k) refl

operator-sound : (ps : List Piece) (st : Statement) → operator_of ps ≡ Read st → (word (codes "op") ∷ ps ≡ spell_statement st) × IsWritten st
operator-sound ps st h = go (split_colon ps) refl where
  named : (r : List Piece × List Piece) → split_colon ps ≡ Some r → (b c : Bool) → is_empty r.0 ≡ b → touch r.0 ≡ c →
      (word (codes "op") ∷ ps ≡ spell_statement st) × IsWritten st
  named r e true c f g = let k = rw (e, f) at h in cc
  named r e false false f g = let k = rw (e, f, g) at h in cc
  named r e false true f g =
      let m = with_rank-sound (statement.Operator r.0) r.1 st (rw (e, f, g) at h) in
      let s = split_colon-sound ps r.0 r.1 e in
      let Q : Statement → Type 0 = λ x. (word (codes "op") ∷ ps ≡ spell_statement x) × IsWritten x in
      subst Q m.is
      (ap (λ x. word (codes "op") ∷ x) (s.0 ∙ ap (λ x. r.0 ++ (colon ∷ x)) m.spelled), (empty-not r.0 f, s.1, g, m.is_rank, m.are_attributes))

  go : (o : Option (List Piece × List Piece)) → split_colon ps ≡ o → (word (codes "op") ∷ ps ≡ spell_statement st) × IsWritten st
  go None e = none (touch ps) refl where
    none : (c : Bool) → touch ps ≡ c → (word (codes "op") ∷ ps ≡ spell_statement st) × IsWritten st
    none true f = let k = rw (e, f) at h in cc
    none false f = let k = rw (e, f) at h in cc
  go (Some r) e = named r e (is_empty r.0) (touch r.0) refl refl

pub all-true : {A : Type 0} (p : A → Bool) (xs : List A) → list_all p xs ≡ true → AllByRecursion (λ x. p x ≡ true) xs
all-true p [] h = tt
all-true p (x ∷ xs) h = go (p x) refl (all-true p xs) where
  go : (b : Bool) → p x ≡ b → (list_all p xs ≡ true → AllByRecursion (λ x. p x ≡ true) xs) → AllByRecursion (λ x. p x ≡ true) (x ∷ xs)
  go false e later = let g = rw e at h in cc
  go true e later = (e, later (rw e at h))

pub true-all : {A : Type 0} (p : A → Bool) (xs : List A) → AllByRecursion (λ x. p x ≡ true) xs → list_all p xs ≡ true
true-all p [] h = refl
true-all p (x ∷ xs) h = rw h.0 (true-all p xs h.1)

operators_behind-sound : (names : List OperatorName) (ps : List Piece) (st : Statement) → operators_behind names ps ≡ Read st →
    (rest : List Piece) × ((ps ≡ colon ∷ rest) × Ranked (statement.Operators names) rest st)
operators_behind-sound names [] st h = cc
operators_behind-sound names (p ∷ ps) st h = go (is_name (codes ":") p) refl where
  go : (b : Bool) → is_name (codes ":") p ≡ b → (rest : List Piece) × ((p ∷ ps ≡ colon ∷ rest) × Ranked (statement.Operators names) rest st)
  go false e = let g = rw e at h in cc
  go true e = (ps, (ap (λ x. x ∷ ps) (name-is (codes ":") p e), with_rank-sound (statement.Operators names) ps st (rw e at h)))

operators-sound : (ps : List Piece) (st : Statement) → operators_of ps ≡ Read st → (word (codes "ops") ∷ ps ≡ spell_statement st) × IsWritten st
operators-sound ps st h =
    go (gather name_of ps [] ps).0 refl (list_all names_touch (gather name_of ps [] ps).0) (is_some (gather name_of ps [] ps).0) refl refl where
      go : (names : List OperatorName) → (gather name_of ps [] ps).0 ≡ names → (b c : Bool) → list_all names_touch (gather name_of ps [] ps).0 ≡ b → is_some (gather name_of ps [] ps).0 ≡ c →
          (word (codes "ops") ∷ ps ≡ spell_statement st) × IsWritten st
      go names i false c e f = let k = rw e at h in cc
      go names i true false e f = let k = rw (e, f) at h in cc
      go names i true true e f =
          let g = gather-sound name_of spell_name IsName name-sound ps [] ps in
          let m = operators_behind-sound (gather name_of ps [] ps).0 (gather name_of ps [] ps).1 st (rw (e, f) at h) in
          let Q : Statement → Type 0 = λ x. (word (codes "ops") ∷ ps ≡ spell_statement x) × IsWritten x in
          let same : g.more ≡ (gather name_of ps [] ps).0 = sym g.is in
          subst Q m.1.1.is (
            ap (λ x. word (codes "ops") ∷ x)
                (g.left ∙ ap (λ x. each spell_name x ++ (gather name_of ps [] ps).1) same
                ∙ ap (λ x. each spell_name (gather name_of ps [] ps).0 ++ x) (m.1.0 ∙ ap (λ x. colon ∷ x) m.1.1.spelled)),
            (some-is (gather name_of ps [] ps).0 f, subst (AllByRecursion IsName) same g.fit, all-true names_touch (gather name_of ps [] ps).0 e, m.1.1.is_rank, m.1.1.are_attributes),
          )

behind-sound : (k : Keyword) (ps : List Piece) (st : Statement) → statement_behind ps (Some k) ≡ Read st →
    (word (keyword_word k) ∷ ps ≡ spell_statement st) × IsWritten st
behind-sound (Sorts plural) ps st h = go (sort_names_of ps) refl where
  go : (o : Option (List Text)) → sort_names_of ps ≡ o → (word (sort_word plural) ∷ ps ≡ spell_statement st) × IsWritten st
  go None e = let g = rw e at h in cc
  go (Some names) e =
      let g : Read (statement.Sorts plural names) ≡ Read st = rw e at h in
      let i : statement.Sorts plural names ≡ st = cc in
      let s = sort_names-sound ps names e in
      let Q : Statement → Type 0 = λ x. (word (sort_word plural) ∷ ps ≡ spell_statement x) × IsWritten x in
      subst Q i (ap (λ x. word (sort_word plural) ∷ x) s.0, (s.1, s.2))
behind-sound (Subsorts plural) ps st h = go (groups_of ps) refl where
  go : (o : Option (List (List Text))) → groups_of ps ≡ o → (word (subsort_word plural) ∷ ps ≡ spell_statement st) × IsWritten st
  go None e = let g = rw e at h in cc
  go (Some groups) e =
      let g : Read (statement.Subsorts plural groups) ≡ Read st = rw e at h in
      let i : statement.Subsorts plural groups ≡ st = cc in
      let s = groups-sound ps groups e in
      let Q : Statement → Type 0 = λ x. (word (subsort_word plural) ∷ ps ≡ spell_statement x) × IsWritten x in
      subst Q i (ap (λ x. word (subsort_word plural) ∷ x) s.0, (s.1, s.2))
behind-sound Operator ps st h = operator-sound ps st h
behind-sound Operators ps st h = operators-sound ps st h
behind-sound Equation ps st h = equation-sound ps st (asked-read ps (equation_of ps) st h)
behind-sound (Variables plural) ps st h = go (variables_of ps) refl where
  go : (o : Option (List Text × RawSort)) → variables_of ps ≡ o → (word (variable_word plural) ∷ ps ≡ spell_statement st) × IsWritten st
  go None e = let g = rw e at h in cc
  go (Some r) e =
      let g : Read (statement.Variables plural r.0 r.1) ≡ Read st = rw e at h in
      let i : statement.Variables plural r.0 r.1 ≡ st = cc in
      let s = variables-sound ps r e in
      let Q : Statement → Type 0 = λ x. (word (variable_word plural) ∷ ps ≡ spell_statement x) × IsWritten x in
      subst Q i (ap (λ x. word (variable_word plural) ∷ x) s.0, s.1)

pub statement-sound : (ps : List Piece) (st : Statement) → statement_of ps ≡ Read st → (ps ≡ spell_statement st) × IsWritten st
statement-sound [] st h = cc
statement-sound (p ∷ ps) st h = go (is_word p) (feature_of p.text) (keyword_of p.text) refl refl refl where
  go : (b : Bool) (f : Option Feature) (k : Option Keyword) → is_word p ≡ b → feature_of p.text ≡ f → keyword_of p.text ≡ k →
      (p ∷ ps ≡ spell_statement st) × IsWritten st
  go false f k e g i = let j = rw e at h in cc
  go true (Some f) k e g i = let j = rw (e, g) at h in cc
  go true None None e g i = let j = rw (e, g, i) at h in cc
  go true None (Some k) e g i =
      let s = behind-sound k ps st (rw (e, g, i) at h) in
      (ap (λ x. x ∷ ps) (word-is p e ∙ ap word (keyword-sound p.text k i)) ∙ s.0, s.1)

pub statement-complete : (st : Statement) → IsWritten st → statement_of (spell_statement st) ≡ Read st
statement-complete (statement.Sorts plural names) h =
    behind-keyword (Sorts plural) (words names) ∙ rw (sort_names-complete names h.0 h.1) refl
statement-complete (statement.Subsorts plural groups) h =
    behind-keyword (Subsorts plural) (spell_groups groups) ∙ rw (groups-complete groups h.0 h.1) refl
statement-complete (statement.Operator name rank attributes) h =
    rw (split_colon-complete name (spell_rank rank ++ bracketed spell_attribute attributes) h.1, not_empty name h.0, h.2)
    (with_rank-complete (statement.Operator name) rank attributes h.3 h.4)
statement-complete (statement.Operators names rank attributes) h =
    let g = gather-spelled name_of spell_name IsName Any name-complete (colon ∷ spell_rank rank ++ bracketed spell_attribute attributes) tt refl name_some names h.1 in
    rw (g, true-all names_touch names h.2, is_some-of names h.0)
    (with_rank-complete (statement.Operators names) rank attributes h.3 h.4)
statement-complete (statement.Variables plural names sort) h =
    behind-keyword (Variables plural) (words names ++ (colon ∷ spell_sort sort)) ∙ rw (variables-complete names sort h) refl
statement-complete (statement.Equation label left right marks) h =
    let ps = spell_label label ++ (left ++ (equals ∷ right ++ bracketed spell_mark marks)) in
    behind-keyword Equation ps ∙ ap (unless_unnamed ps) (equation-complete label left right marks h)
