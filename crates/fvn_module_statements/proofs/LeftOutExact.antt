-- The reader of statements tells exactly the left-out form that stands first.
use Rattle.std.proofs.Common.{◌≡◌, inl, inr, Bool, true, false, List, [], ◌∷◌, ◌++◌, Option, Some, None, refl, sym, ap, ◌∙◌, subst}
use Rattle.std.specs.Prelude.{codes}
use Rattle.std.specs.List.{list_all}
use Rattle.std.proofs.lemmas.List.{append-nil}
use Rattle.fvn_lex.specs.Cut.{Piece}
use Rattle.fvn_syntax.specs.Pieces.{Text, word, is_word, is_name}
use Rattle.fvn_syntax.specs.declared.sorts.RawSort.{RawSort}
use Rattle.fvn_syntax.proofs.PieceLemmas.{word-is, name-is}
use Rattle.fvn_module_syntax.specs.declared.statement.OperatorName.{OperatorName}
use Rattle.fvn_module_syntax.specs.declared.statement.Statement.{Statement}
use Rattle.fvn_module_syntax.specs.declared.statement.Statement.TheVariants as statement
use Rattle.fvn_module_syntax.specs.declared.statement.Feature.{Feature}
use Rattle.fvn_module_syntax.specs.declared.statement.Feature.TheVariants as feature
use Rattle.fvn_module_statements.specs.declared.outcome.Reading.{Reading}
use Rattle.fvn_module_statements.specs.declared.outcome.Reading.TheVariants.{Read, LeftOut, NoForm}
use Rattle.fvn_module_statements.specs.declared.reading.Keyword.{Keyword}
use Rattle.fvn_module_statements.specs.declared.reading.Keyword.TheVariants.{Sorts, Subsorts, Operator, Operators, Variables, Equation}
use Rattle.fvn_module_syntax.specs.Spelling.{each, colon, equals, spell_rank, spell_name, spell_label, spell_statement}
use Rattle.fvn_module_syntax.specs.Words.{touch, names_touch}
use Rattle.fvn_module_syntax.specs.LeftOut.{feature_of}
use Rattle.fvn_module_syntax.specs.Written.{IsName, IsWritten}
use Rattle.fvn_module_statements.specs.Forms.{IsFormless}
use Rattle.fvn_module_statements.specs.Laws.{StatementsAreDetermined}
use Rattle.fvn_module_statements.specs.LeftOut.{BeginsWith, HasLooseName, HasLooseNames, IsNaming, one, several, IsLeftOutOperator, IsLeftOutEquation, IsLeftOut, by_first_word, by_name, by_names, by_attribute, by_equation}
use Rattle.fvn_module_statements.specs.inner.Gather.{gather}
use Rattle.fvn_module_statements.specs.inner.Attributes.{is_some}
use Rattle.fvn_module_statements.specs.inner.Names.{is_empty, sort_names_of, groups_of, variables_of, split_colon, name_of}
use Rattle.fvn_module_statements.specs.inner.Statements.{operator_of, operators_behind, operators_of, keyword_of, sorts_read, groups_read, variables_read, statement_behind, statement_of}
use Rattle.fvn_module_statements.proofs.GatherExact.{gather-sound, gather-spelled}
use Rattle.fvn_module_statements.proofs.SortExact.{Any}
use Rattle.fvn_module_statements.proofs.AttributeExact.{some-is}
use Rattle.fvn_module_statements.proofs.NamesExact.{is_some-of}
use Rattle.fvn_module_statements.proofs.OperatorNamesExact.{split_colon-sound, split_colon-complete, name-sound, name-complete, name_some}
use Rattle.fvn_module_statements.proofs.AttributeLeftOut.{RankedOut, ranked-out, out-ranked}
use Rattle.fvn_module_statements.proofs.NameLeftOut.{no_colons, out-name, loose-in, out-names}
use Rattle.fvn_module_statements.proofs.EquationLeftOut.{asked-out, out-asked}
use Rattle.fvn_module_statements.proofs.StatementExact.{keyword_word, keyword-sound, behind-keyword, not_empty, empty-not, all-true, true-all, statement-complete}

-- Behind `op`.

operator-out : (ps : List Piece) (f : Feature) → operator_of ps ≡ LeftOut f → IsLeftOut f (word (codes "op") ∷ ps)
operator-out ps f h = go (split_colon ps) refl where
  named : (r : List Piece × List Piece) → split_colon ps ≡ Some r → (b c : Bool) → is_empty r.0 ≡ b → touch r.0 ≡ c → IsLeftOut f (word (codes "op") ∷ ps)
  named r e true c i j = let k = rw (e, i) at h in cc
  named r e false false i j =
      let k : LeftOut feature.Name ≡ LeftOut f = rw (e, i, j) at h in
      let s = split_colon-sound ps r.0 r.1 e in
      let i : f ≡ feature.Name = cc in
      let n : HasLooseName (word (codes "op") ∷ ps) =
      record { name = r.0; rest = colon ∷ r.1; spelled = ap (λ x. word (codes "op") ∷ x) s.0; plain = s.1; loose = j } in
      by_name i n
  named r e false true i j =
      let o = ranked-out (statement.Operator r.0) r.1 f (rw (e, i, j) at h) in
      let s = split_colon-sound ps r.0 r.1 e in
      let a : IsLeftOutOperator f (word (codes "op") ∷ ps) = record {
        naming = word (codes "op") ∷ r.0;
        rank = o.rank;
        behind = o.behind;
        spelled = ap (λ x. word (codes "op") ∷ x) (s.0 ∙ ap (λ x. r.0 ++ (colon ∷ x)) o.spelled);
        names = one r.0 (empty-not r.0 i) s.1 j refl;
        sorts = o.sorts;
        left_out = o.left_out;
      } in
      by_attribute a

  none : split_colon ps ≡ None → (b : Bool) → touch ps ≡ b → IsLeftOut f (word (codes "op") ∷ ps)
  none e true i = let k = rw (e, i) at h in cc
  none e false i =
      let k : LeftOut feature.Name ≡ LeftOut f = rw (e, i) at h in
      let is : f ≡ feature.Name = cc in
      let n : HasLooseName (word (codes "op") ∷ ps) =
      record { name = ps; rest = []; spelled = ap (λ x. word (codes "op") ∷ x) (sym (append-nil ps)); plain = no_colons ps e; loose = i } in
      by_name is n

  go : (o : Option (List Piece × List Piece)) → split_colon ps ≡ o → IsLeftOut f (word (codes "op") ∷ ps)
  go None e = none e (touch ps) refl
  go (Some r) e = named r e (is_empty r.0) (touch r.0) refl refl

-- Behind `ops`.

record Behind (names : List OperatorName) (f : Feature) (ps : List Piece) : Type 0 where
  rest : List Piece
  is : ps ≡ colon ∷ rest
  ranked : RankedOut f rest

behind-out : (names : List OperatorName) (ps : List Piece) (f : Feature) → operators_behind names ps ≡ LeftOut f → Behind names f ps
behind-out names [] f h = cc
behind-out names (p ∷ ps) f h = go (is_name (codes ":") p) refl where
  go : (b : Bool) → is_name (codes ":") p ≡ b → Behind names f (p ∷ ps)
  go false e = let g = rw e at h in cc
  go true e = record { rest = ps; is = ap (λ x. x ∷ ps) (name-is (codes ":") p e); ranked = ranked-out (statement.Operators names) ps f (rw e at h) }

operators-out : (ps : List Piece) (f : Feature) → operators_of ps ≡ LeftOut f → IsLeftOut f (word (codes "ops") ∷ ps)
operators-out ps f h = go (list_all names_touch (gather name_of ps [] ps).0) (is_some (gather name_of ps [] ps).0) refl refl where
  go : (b c : Bool) → list_all names_touch (gather name_of ps [] ps).0 ≡ b → is_some (gather name_of ps [] ps).0 ≡ c → IsLeftOut f (word (codes "ops") ∷ ps)
  go false c e i =
      let k : LeftOut feature.Name ≡ LeftOut f = rw e at h in
      let g = gather-sound name_of spell_name IsName name-sound ps [] ps in
      let l = loose-in g.more (gather name_of ps [] ps).1 g.fit (ap (list_all names_touch) (sym g.is) ∙ e) in
      let is : f ≡ feature.Name = cc in
      let n : HasLooseNames (word (codes "ops") ∷ ps) = record {
        names = l.names;
        name = l.name;
        rest = l.after;
        spelled = ap (λ x. word (codes "ops") ∷ x) (g.left ∙ l.spelled);
        are_names = l.are_names;
        fits = l.fits;
        loose = l.loose;
      } in
      by_names is n
  go true false e i = let k = rw (e, i) at h in cc
  go true true e i =
      let g = gather-sound name_of spell_name IsName name-sound ps [] ps in
      let o = behind-out (gather name_of ps [] ps).0 (gather name_of ps [] ps).1 f (rw (e, i) at h) in
      let touching : list_all names_touch g.more ≡ true = ap (list_all names_touch) (sym g.is) ∙ e in
      let some : is_some g.more ≡ true = ap is_some (sym g.is) ∙ i in
      let a : IsLeftOutOperator f (word (codes "ops") ∷ ps) = record {
        naming = word (codes "ops") ∷ each spell_name g.more;
        rank = o.ranked.rank;
        behind = o.ranked.behind;
        spelled = ap (λ x. word (codes "ops") ∷ x)
            (g.left ∙ ap (λ x. each spell_name g.more ++ x) (o.is ∙ ap (λ x. colon ∷ x) o.ranked.spelled));
        names = several g.more (some-is g.more some) g.fit (all-true names_touch g.more touching) refl;
        sorts = o.ranked.sorts;
        left_out = o.ranked.left_out;
      } in
      by_attribute a

-- A statement.

sorts-out : (plural : Bool) (o : Option (List Text)) (f : Feature) → sorts_read plural o ≡ LeftOut f → ⊥
sorts-out plural None f h = cc
sorts-out plural (Some names) f h = cc

groups-out : (plural : Bool) (o : Option (List (List Text))) (f : Feature) → groups_read plural o ≡ LeftOut f → ⊥
groups-out plural None f h = cc
groups-out plural (Some groups) f h = cc

variables-out : (plural : Bool) (o : Option (List Text × RawSort)) (f : Feature) → variables_read plural o ≡ LeftOut f → ⊥
variables-out plural None f h = cc
variables-out plural (Some r) f h = cc

keyword-out : (k : Keyword) (ps : List Piece) (f : Feature) → statement_behind ps (Some k) ≡ LeftOut f → IsLeftOut f (word (keyword_word k) ∷ ps)
keyword-out (Sorts plural) ps f h = absurd (sorts-out plural (sort_names_of ps) f h)
keyword-out (Subsorts plural) ps f h = absurd (groups-out plural (groups_of ps) f h)
keyword-out (Variables plural) ps f h = absurd (variables-out plural (variables_of ps) f h)
keyword-out Operator ps f h = operator-out ps f h
keyword-out Operators ps f h = operators-out ps f h
keyword-out Equation ps f h = by_equation (asked-out ps f h)

pub left_out-sound : (ps : List Piece) (f : Feature) → statement_of ps ≡ LeftOut f → IsLeftOut f ps
left_out-sound [] f h = cc
left_out-sound (p ∷ ps) f h = go (is_word p) (feature_of p.text) (keyword_of p.text) refl refl refl where
  go : (b : Bool) (o : Option Feature) (k : Option Keyword) → is_word p ≡ b → feature_of p.text ≡ o → keyword_of p.text ≡ k → IsLeftOut f (p ∷ ps)
  go false o k e i j = let g = rw e at h in cc
  go true (Some x) k e i j =
      let g : LeftOut x ≡ LeftOut f = rw (e, i) at h in
      let s : x ≡ f = cc in
      let b : BeginsWith f (p ∷ ps) = record { first = p.text; rest = ps; spelled = ap (λ y. y ∷ ps) (word-is p e); begins = i ∙ ap Some s } in
      by_first_word b
  go true None None e i j = let g = rw (e, i, j) at h in cc
  go true None (Some k) e i j =
      let s = keyword-out k ps f (rw (e, i, j) at h) in
      subst (λ x. IsLeftOut f (x ∷ ps)) (sym (word-is p e ∙ ap word (keyword-sound p.text k j))) s

-- The other way.

out-operator : (f : Feature) (ps : List Piece) → IsLeftOutOperator f ps → statement_of ps ≡ LeftOut f
out-operator f ps h = go h.names where
  go : IsNaming h.naming → statement_of ps ≡ LeftOut f
  go (one name some plain touches is) =
      let behind = spell_rank h.rank ++ h.behind in
      let d : operator_of (name ++ (colon ∷ behind)) ≡ LeftOut f =
      rw (split_colon-complete name behind plain, not_empty name some, touches) (out-ranked (statement.Operator name) h.rank h.behind f h.sorts h.left_out) in
      ap statement_of (h.spelled ∙ ap (λ x. x ++ (colon ∷ behind)) is) ∙ behind-keyword Operator (name ++ (colon ∷ behind)) ∙ d
  go (several names some are touch is) =
      let behind = spell_rank h.rank ++ h.behind in
      let g = gather-spelled name_of spell_name IsName Any name-complete (colon ∷ behind) tt refl name_some names are in
      let d : operators_of (each spell_name names ++ (colon ∷ behind)) ≡ LeftOut f =
      rw (g, true-all names_touch names touch, is_some-of names some) (out-ranked (statement.Operators names) h.rank h.behind f h.sorts h.left_out) in
      ap statement_of (h.spelled ∙ ap (λ x. x ++ (colon ∷ behind)) is) ∙ behind-keyword Operators (each spell_name names ++ (colon ∷ behind)) ∙ d

-- the pieces behind `eq`
behind-eq : (f : Feature) (ps : List Piece) → IsLeftOutEquation f ps → (rest : List Piece) × (ps ≡ word (codes "eq") ∷ rest)
behind-eq f ps h = elim h [
  | inl s ↦ (spell_label s.label ++ (s.left ++ (equals ∷ s.right ++ s.behind)), s.spelled)
  | inr n ↦ (n.1.rest, n.1.spelled)
]

pub left_out-complete : (ps : List Piece) (f : Feature) → IsLeftOut f ps → statement_of ps ≡ LeftOut f
left_out-complete ps f (by_first_word h) = let d : statement_of (word h.first ∷ h.rest) ≡ LeftOut f = rw h.begins refl in ap statement_of h.spelled ∙ d
left_out-complete ps f (by_name e h) =
    ap statement_of h.spelled ∙ behind-keyword Operator (h.name ++ h.rest) ∙ out-name h.name h.rest h.plain h.loose ∙ ap (λ x. LeftOut x) (sym e)
left_out-complete ps f (by_names e h) =
    ap statement_of h.spelled ∙ behind-keyword Operators (each spell_name h.names ++ (spell_name h.name ++ h.rest))
    ∙ out-names h.names h.name h.rest h.are_names h.fits h.loose ∙ ap (λ x. LeftOut x) (sym e)
left_out-complete ps f (by_attribute h) = out-operator f ps h
left_out-complete ps f (by_equation h) =
    let b = behind-eq f ps h in
    ap statement_of b.1 ∙ behind-keyword Equation b.0 ∙ out-asked b.0 f (subst (IsLeftOutEquation f) b.1 h)

-- What is none of these.

read-once : (o : Reading Statement) (st other : Statement) → o ≡ Read st → o ≡ Read other → st ≡ other
read-once o st other a b = cc

left_out-once : (o : Reading Statement) (f g : Feature) → o ≡ LeftOut f → o ≡ LeftOut g → f ≡ g
left_out-once o f g a b = cc

read-or-left_out : (o : Reading Statement) (st : Statement) (f : Feature) → o ≡ Read st → o ≡ LeftOut f → ⊥
read-or-left_out o st f a b = cc

none-or-read : (o : Reading Statement) (st : Statement) → o ≡ NoForm → o ≡ Read st → ⊥
none-or-read o st a b = cc

none-or-left_out : (o : Reading Statement) (f : Feature) → o ≡ NoForm → o ≡ LeftOut f → ⊥
none-or-left_out o f a b = cc

pub formless : (ps : List Piece) → statement_of ps ≡ NoForm → IsFormless ps
formless ps h = record {
  no_statement = λ st w is. none-or-read (statement_of ps) st h (ap statement_of is ∙ statement-complete st w);
  none_left_out = λ f o. none-or-left_out (statement_of ps) f h (left_out-complete ps f o);
}

pub determined : StatementsAreDetermined
determined = record {
  one_statement = λ st other w v e. read-once (statement_of (spell_statement st)) st other (statement-complete st w) (ap statement_of e ∙ statement-complete other v);
  one_form = λ f g ps a b. left_out-once (statement_of ps) f g (left_out-complete ps f a) (left_out-complete ps g b);
  apart = λ f st w a. read-or-left_out (statement_of (spell_statement st)) st f (statement-complete st w) (left_out-complete (spell_statement st) f a);
}
