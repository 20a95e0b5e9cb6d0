-- Which names of operators are left out.
use Rattle.std.proofs.Common.{◌≡◌, ◌≤◌, Bool, true, false, List, [], ◌∷◌, ◌++◌, length, Option, Some, None, refl, sym, ap, ◌∙◌, append_assoc}
use Rattle.std.specs.Prelude.{codes}
use Rattle.std.specs.List.{AllByRecursion, list_all}
use Rattle.std.proofs.Math.Nat.{le_refl}
use Rattle.fvn_lex.specs.Cut.{Piece}
use Rattle.fvn_syntax.specs.Pieces.{is_name}
use Rattle.fvn_module_syntax.specs.declared.statement.OperatorName.{OperatorName}
use Rattle.fvn_module_syntax.specs.declared.statement.Feature.TheVariants as feature
use Rattle.fvn_module_statements.specs.declared.outcome.Reading.TheVariants.{LeftOut}
use Rattle.fvn_module_syntax.specs.Spelling.{each, spell_name}
use Rattle.fvn_module_syntax.specs.Words.{are_apart, touch_after, touch, names_touch}
use Rattle.fvn_module_syntax.specs.Written.{NoColons, IsName}
use Rattle.fvn_module_statements.specs.inner.Gather.{gather}
use Rattle.fvn_module_statements.specs.inner.Names.{is_empty, split_colon, name_of}
use Rattle.fvn_module_statements.specs.inner.Statements.{operator_of, operators_of}
use Rattle.fvn_module_statements.proofs.GatherExact.{gather-sound, gather-stops, gather-spelled}
use Rattle.fvn_module_statements.proofs.SortExact.{Any}
use Rattle.fvn_module_statements.proofs.OperatorNamesExact.{name-sound, name-complete, name_some}

-- Behind `op`.

pub no_colons : (ps : List Piece) → split_colon ps ≡ None → NoColons ps
no_colons [] h = tt
no_colons (p ∷ ps) h = go (is_name (codes ":") p) (split_colon ps) refl refl (no_colons ps) where
  go : (c : Bool) (o : Option (List Piece × List Piece)) → is_name (codes ":") p ≡ c → split_colon ps ≡ o → (split_colon ps ≡ None → NoColons ps) → NoColons (p ∷ ps)
  go true o e f later = let g = rw e at h in cc
  go false (Some r) e f later = let g = rw (e, f) at h in cc
  go false None e f later = (e, later f)

-- what does not touch does not touch with more behind it
loose-after : (p : Piece) (ps qs : List Piece) → touch_after p ps ≡ false → touch_after p (ps ++ qs) ≡ false
loose-after p [] qs h = cc
loose-after p (q ∷ ps) qs h = go (are_apart p q) refl (loose-after q ps qs) where
  go : (b : Bool) → are_apart p q ≡ b → (touch_after q ps ≡ false → touch_after q (ps ++ qs) ≡ false) → touch_after p (q ∷ ps ++ qs) ≡ false
  go true e later = rw e refl
  go false e later = rw e (later (rw e at h))

loose-front : (ps qs : List Piece) → touch ps ≡ false → touch (ps ++ qs) ≡ false
loose-front [] qs h = cc
loose-front (p ∷ ps) qs h = loose-after p ps qs h

-- the first colon stands behind what has none
behind-plain : (name rest : List Piece) (r : List Piece × List Piece) → NoColons name → split_colon (name ++ rest) ≡ Some r →
    (more : List Piece) × (r.0 ≡ name ++ more)
behind-plain [] rest r plain h = (r.0, refl)
behind-plain (p ∷ name) rest r plain h = go (split_colon (name ++ rest)) refl (λ x. behind-plain name rest x plain.1) where
  go : (o : Option (List Piece × List Piece)) → split_colon (name ++ rest) ≡ o →
      ((x : List Piece × List Piece) → split_colon (name ++ rest) ≡ Some x → (more : List Piece) × (x.0 ≡ name ++ more)) →
      (more : List Piece) × (r.0 ≡ p ∷ name ++ more)
  go None e later = let g = rw (plain.0, e) at h in cc
  go (Some x) e later =
      let g : Some (p ∷ x.0, x.1) ≡ Some r = rw (plain.0, e) at h in
      let i : (p ∷ x.0, x.1) ≡ r = cc in
      let k = later x e in
      (k.0, sym (ap (λ (y : List Piece × List Piece). y.0) i) ∙ ap (λ y. p ∷ y) k.1)

pub out-name : (name rest : List Piece) → NoColons name → touch name ≡ false → operator_of (name ++ rest) ≡ LeftOut feature.Name
out-name [] rest plain loose = cc
out-name (p ∷ name) rest plain loose = go (split_colon (p ∷ name ++ rest)) refl where
  go : (o : Option (List Piece × List Piece)) → split_colon (p ∷ name ++ rest) ≡ o → operator_of (p ∷ name ++ rest) ≡ LeftOut feature.Name
  go None e = rw (e, loose-front (p ∷ name) rest loose) refl
  go (Some r) e =
      let k = behind-plain (p ∷ name) rest r plain e in
      let full : is_empty r.0 ≡ false = ap is_empty k.1 in
      let apart : touch r.0 ≡ false = ap touch k.1 ∙ loose-front (p ∷ name) k.0 loose in
      rw (e, full, apart) refl

-- Behind `ops`.

-- names up to one that does not touch
pub record Loose (xs : List OperatorName) (rest : List Piece) : Type 0 where
  pub names : List OperatorName
  pub name : OperatorName
  pub after : List Piece
  pub spelled : each spell_name xs ++ rest ≡ each spell_name names ++ (spell_name name ++ after)
  pub are_names : AllByRecursion IsName names
  pub fits : IsName name
  pub loose : names_touch name ≡ false

pub loose-in : (xs : List OperatorName) (rest : List Piece) → AllByRecursion IsName xs → list_all names_touch xs ≡ false → Loose xs rest
loose-in [] rest h e = cc
loose-in (x ∷ xs) rest h e = go (names_touch x) refl (λ k. loose-in xs rest h.1 k) where
  go : (b : Bool) → names_touch x ≡ b → (list_all names_touch xs ≡ false → Loose xs rest) → Loose (x ∷ xs) rest
  go false i later = record { names = []; name = x; after = each spell_name xs ++ rest; spelled = append_assoc (spell_name x) (each spell_name xs) rest; are_names = tt; fits = h.0; loose = i }
  go true i later =
      let l = later (rw i at e) in
      record {
        names = x ∷ l.names;
        name = l.name;
        after = l.after;
        spelled = append_assoc (spell_name x) (each spell_name xs) rest ∙ ap (λ y. spell_name x ++ y) l.spelled
            ∙ sym (append_assoc (spell_name x) (each spell_name l.names) (spell_name l.name ++ l.after));
        are_names = (h.0, l.are_names);
        fits = l.fits;
        loose = l.loose;
      }

-- some names, one more and later ones, as one list
all-spelled : (names : List OperatorName) (name : OperatorName) (later : List OperatorName) (rest : List Piece) →
    each spell_name names ++ (spell_name name ++ (each spell_name later ++ rest)) ≡ each spell_name (names ++ (name ∷ later)) ++ rest
all-spelled [] name later rest = sym (append_assoc (spell_name name) (each spell_name later) rest)
all-spelled (x ∷ names) name later rest =
    append_assoc (spell_name x) (each spell_name names) (spell_name name ++ (each spell_name later ++ rest))
    ∙ ap (λ y. spell_name x ++ y) (all-spelled names name later rest)
    ∙ sym (append_assoc (spell_name x) (each spell_name (names ++ (name ∷ later))) rest)

all-names : (names : List OperatorName) (name : OperatorName) (later : List OperatorName) → AllByRecursion IsName names → IsName name → AllByRecursion IsName later →
    AllByRecursion IsName (names ++ (name ∷ later))
all-names [] name later h k l = (k, l)
all-names (x ∷ names) name later h k l = (h.0, all-names names name later h.1 k l)

not-all : (names : List OperatorName) (name : OperatorName) (later : List OperatorName) → names_touch name ≡ false → list_all names_touch (names ++ (name ∷ later)) ≡ false
not-all [] name later h = rw h refl
not-all (x ∷ names) name later h = go (names_touch x) refl (not-all names name later h) where
  go : (b : Bool) → names_touch x ≡ b → list_all names_touch (names ++ (name ∷ later)) ≡ false → list_all names_touch (x ∷ names ++ (name ∷ later)) ≡ false
  go false e k = rw e refl
  go true e k = rw e k

pub out-names : (names : List OperatorName) (name : OperatorName) (rest : List Piece) → AllByRecursion IsName names → IsName name → names_touch name ≡ false →
    operators_of (each spell_name names ++ (spell_name name ++ rest)) ≡ LeftOut feature.Name
out-names names name rest h k loose =
    let g = gather-sound name_of spell_name IsName name-sound rest [] rest in
    let stops = gather-stops name_of spell_name IsName name-sound name_some refl rest [] rest (le_refl (length rest)) in
    let fit = all-names names name g.more h k g.fit in
    let read = gather-spelled name_of spell_name IsName Any name-complete (gather name_of rest [] rest).1 tt stops name_some (names ++ (name ∷ g.more)) fit in
    let spelled : each spell_name names ++ (spell_name name ++ rest) ≡ each spell_name (names ++ (name ∷ g.more)) ++ (gather name_of rest [] rest).1 =
    ap (λ y. each spell_name names ++ (spell_name name ++ y)) g.left ∙ all-spelled names name g.more (gather name_of rest [] rest).1 in
    let d : operators_of (each spell_name (names ++ (name ∷ g.more)) ++ (gather name_of rest [] rest).1) ≡ LeftOut feature.Name =
    rw (read, not-all names name g.more loose) refl in
    ap operators_of spelled ∙ d
