-- The reader of sorts finds exactly the spelled sorts.
use Rattle.std.proofs.Common.{◌≡◌, ◌≤◌, Bool, true, false, ◌&&◌, List, [], ◌∷◌, ◌++◌, length, Option, Some, None, refl, sym, ap, ◌∙◌, subst, append_assoc, arith}
use Rattle.std.specs.Prelude.{codes}
use Rattle.std.specs.List.{AllByRecursion}
use Rattle.fvn_lex.specs.Cut.{Piece}
use Rattle.fvn_syntax.specs.Pieces.{Text, word, comma, left_bracket, right_bracket, is_word, is_name, is_special}
use Rattle.fvn_syntax.specs.declared.sorts.RawSort.{RawSort}
use Rattle.fvn_syntax.specs.declared.sorts.RawSort.TheVariants.{Name, Kind}
use Rattle.fvn_syntax.specs.Raw.{spell_sort, spell_others}
use Rattle.fvn_syntax.proofs.PieceLemmas.{bytes_eq-refl, and-left, and-right, word-is, name-is, special-is}
use Rattle.fvn_module_syntax.specs.declared.statement.RawRank.{RawRank}
use Rattle.fvn_module_syntax.specs.Spelling.{each, arrow, spell_rank}
use Rattle.fvn_module_syntax.specs.Written.{IsArgument, IsRank}
use Rattle.fvn_module_statements.specs.inner.Gather.{gather}
use Rattle.fvn_module_statements.specs.inner.Sorts.{after_comma, kind_before, bracket_sort, sort_of, arrow_of, argument_of, rank_before, rank_of}
use Rattle.fvn_module_statements.proofs.Unequal.{bytes_eq-not}
use Rattle.fvn_module_statements.proofs.GatherExact.{gather-sound, gather-spelled}

abbrev pub spell_after_comma : Text → List Piece
spell_after_comma s = comma ∷ word s ∷ []

-- others are each behind a comma
pub others-each : (ss : List Text) (rest : List Piece) → spell_others ss ++ rest ≡ each spell_after_comma ss ++ (right_bracket ∷ rest)
others-each [] rest = refl
others-each (s ∷ ss) rest = ap (λ ps. comma ∷ word s ∷ ps) (others-each ss rest)

-- anything
abbrev pub Any : {A : Type 0} → A → Type 0
Any x = Unit {0}

pub all_any : {A : Type 0} (xs : List A) → AllByRecursion Any xs
all_any [] = tt
all_any (x ∷ xs) = (tt, all_any xs)

after_comma-sound : (ps : List Piece) (r : Text × List Piece) → after_comma ps ≡ Some r → (ps ≡ spell_after_comma r.0 ++ r.1) × Any r.0
after_comma-sound [] r h = cc
after_comma-sound (p ∷ []) r h = cc
after_comma-sound (p ∷ q ∷ ps) r h = go (is_special (codes ",") p && is_word q) refl where
  go : (b : Bool) → is_special (codes ",") p && is_word q ≡ b → (p ∷ q ∷ ps ≡ spell_after_comma r.0 ++ r.1) × Any r.0
  go false e = let g = rw e at h in cc
  go true e =
      let g : Some (q.text, ps) ≡ Some r = rw e at h in
      let i : (q.text, ps) ≡ r = cc in
      let a = special-is (codes ",") p (and-left (is_special (codes ",") p) (is_word q) e) in
      let b = word-is q (and-right (is_special (codes ",") p) (is_word q) e) in
      (ap (λ x. x ∷ q ∷ ps) a ∙ ap (λ x. comma ∷ x ∷ ps) b ∙ ap (λ (x : Text × List Piece). comma ∷ word x.0 ∷ x.1) i, tt)

after_comma-stops : (rest : List Piece) → after_comma (right_bracket ∷ rest) ≡ None
after_comma-stops [] = refl
after_comma-stops (p ∷ rest) = refl

others-read : (ss : List Text) (rest : List Piece) →
    gather after_comma (spell_others ss ++ rest) [] (spell_others ss ++ rest) ≡ (ss, right_bracket ∷ rest)
others-read ss rest =
    rw (others-each ss rest)
    (gather-spelled after_comma spell_after_comma Any Any (λ s qs t u. (refl, tt)) (right_bracket ∷ rest) tt (after_comma-stops rest) (λ s. omega arith) ss (all_any ss))

kind_before-sound : (s : Text) (ss : List Text) (ps : List Piece) (r : RawSort × List Piece) → kind_before s ss ps ≡ Some r →
    (r.0 ≡ Kind s ss) × (ps ≡ right_bracket ∷ r.1)
kind_before-sound s ss [] r h = cc
kind_before-sound s ss (p ∷ ps) r h = go (is_special (codes "]") p) refl where
  go : (b : Bool) → is_special (codes "]") p ≡ b → (r.0 ≡ Kind s ss) × (p ∷ ps ≡ right_bracket ∷ r.1)
  go false e = let g = rw e at h in cc
  go true e =
      let g : Some (Kind s ss, ps) ≡ Some r = rw e at h in
      let i : (Kind s ss, ps) ≡ r = cc in (
        sym (ap (λ (x : RawSort × List Piece). x.0) i),
        ap (λ x. x ∷ ps) (special-is (codes "]") p e) ∙ ap (λ (x : RawSort × List Piece). right_bracket ∷ x.1) i,
      )

bracket_sort-sound : (ps : List Piece) (r : RawSort × List Piece) → bracket_sort ps ≡ Some r → left_bracket ∷ ps ≡ spell_sort r.0 ++ r.1
bracket_sort-sound [] r h = cc
bracket_sort-sound (p ∷ ps) r h = go (is_word p) refl where
  go : (b : Bool) → is_word p ≡ b → left_bracket ∷ p ∷ ps ≡ spell_sort r.0 ++ r.1
  go false e = let g = rw e at h in cc
  go true e =
      let g = gather-sound after_comma spell_after_comma Any after_comma-sound ps [] ps in
      let k = kind_before-sound p.text (gather after_comma ps [] ps).0 (gather after_comma ps [] ps).1 r (rw e at h) in
      rw k.0
      (ap (λ x. left_bracket ∷ x ∷ ps) (word-is p e)
      ∙ ap (λ x. left_bracket ∷ word p.text ∷ x) (g.left ∙ ap (λ x. each spell_after_comma g.more ++ x) k.1 ∙ sym (others-each g.more r.1) ∙ ap (λ ss. spell_others ss ++ r.1) (sym g.is)))

pub sort-sound : (ps : List Piece) (r : RawSort × List Piece) → sort_of ps ≡ Some r → ps ≡ spell_sort r.0 ++ r.1
sort-sound [] r h = cc
sort-sound (p ∷ ps) r h = go (is_special (codes "[") p) (is_word p) refl refl where
  go : (b c : Bool) → is_special (codes "[") p ≡ b → is_word p ≡ c → p ∷ ps ≡ spell_sort r.0 ++ r.1
  go true c e f = ap (λ x. x ∷ ps) (special-is (codes "[") p e) ∙ bracket_sort-sound ps r (rw e at h)
  go false false e f = let g = rw (e, f) at h in cc
  go false true e f =
      let g : Some (Name p.text, ps) ≡ Some r = rw (e, f) at h in
      let i : (Name p.text, ps) ≡ r = cc in
      ap (λ x. x ∷ ps) (word-is p f) ∙ ap (λ (x : RawSort × List Piece). spell_sort x.0 ++ x.1) i

pub sort-complete : (s : RawSort) (rest : List Piece) → sort_of (spell_sort s ++ rest) ≡ Some (s, rest)
sort-complete (Name s) rest = refl
sort-complete (Kind s ss) rest = rw (others-read ss rest) refl

-- arguments
argument-sound : (ps : List Piece) (r : RawSort × List Piece) → argument_of ps ≡ Some r → (ps ≡ spell_sort r.0 ++ r.1) × IsArgument r.0
argument-sound [] r h = cc
argument-sound (p ∷ ps) r h = go (is_name (codes "->") p) (is_name (codes "~>") p) refl refl where
  go : (b c : Bool) → is_name (codes "->") p ≡ b → is_name (codes "~>") p ≡ c → (p ∷ ps ≡ spell_sort r.0 ++ r.1) × IsArgument r.0
  go true c e f = let g = rw e at h in cc
  go false true e f = let g = rw (e, f) at h in cc
  go false false e f =
      let g : sort_of (p ∷ ps) ≡ Some r = rw (e, f) at h in
      let s = sort-sound (p ∷ ps) r g in
      (s, fits r.0 s)
    where
      fits : (s : RawSort) → p ∷ ps ≡ spell_sort s ++ r.1 → IsArgument s
      fits (Kind s ss) i = tt
      fits (Name s) i =
          let k : p ∷ ps ≡ word s ∷ r.1 = i in
          let j : p ≡ word s = cc in (
            λ is. let k : is_name (codes "->") p ≡ true = ap (is_name (codes "->")) (j ∙ ap word is) ∙ bytes_eq-refl (codes "->") in cc,
            λ is. let k : is_name (codes "~>") p ≡ true = ap (is_name (codes "~>")) (j ∙ ap word is) ∙ bytes_eq-refl (codes "~>") in cc,
          )

argument-complete : (s : RawSort) (qs : List Piece) → IsArgument s → argument_of (spell_sort s ++ qs) ≡ Some (s, qs)
argument-complete (Name s) qs h = rw (bytes_eq-not s (codes "->") h.0, bytes_eq-not s (codes "~>") h.1) refl
argument-complete (Kind s ss) qs h = sort-complete (Kind s ss) qs

pub sort_some : (s : RawSort) → 1 ≤ length (spell_sort s)
sort_some (Name s) = omega arith
sort_some (Kind s ss) = omega arith

-- arrows
arrow-complete : (partial : Bool) (qs : List Piece) → arrow_of (arrow partial ∷ qs) ≡ Some (partial, qs)
arrow-complete false qs = refl
arrow-complete true qs = refl

arrow-stops : (partial : Bool) (qs : List Piece) → argument_of (arrow partial ∷ qs) ≡ None
arrow-stops false qs = refl
arrow-stops true qs = refl

arrow-sound : (ps : List Piece) (a : Bool × List Piece) → arrow_of ps ≡ Some a → ps ≡ arrow a.0 ∷ a.1
arrow-sound [] a h = cc
arrow-sound (p ∷ ps) a h = go (is_name (codes "->") p) (is_name (codes "~>") p) refl refl where
  found : (partial : Bool) → p ≡ arrow partial → Some (partial, ps) ≡ Some a → p ∷ ps ≡ arrow a.0 ∷ a.1
  found partial j g =
      let i : (partial, ps) ≡ a = cc in
      ap (λ x. x ∷ ps) j ∙ ap (λ (x : Bool × List Piece). arrow x.0 ∷ x.1) i

  go : (b c : Bool) → is_name (codes "->") p ≡ b → is_name (codes "~>") p ≡ c → p ∷ ps ≡ arrow a.0 ∷ a.1
  go true c e f = found false (name-is (codes "->") p e) (rw e at h)
  go false true e f = found true (name-is (codes "~>") p f) (rw (e, f) at h)
  go false false e f = let g = rw (e, f) at h in cc

-- ranks
rank_before-sound : (ss : List RawSort) (ps : List Piece) (r : RawRank × List Piece) → rank_before ss ps ≡ Some r →
    (r.0.args ≡ ss) × (ps ≡ arrow r.0.partial ∷ spell_sort r.0.result ++ r.1)
rank_before-sound ss ps r h = go (arrow_of ps) refl where
  inner : (a : Bool × List Piece) → arrow_of ps ≡ Some a → (o : Option (RawSort × List Piece)) → sort_of a.1 ≡ o →
      (r.0.args ≡ ss) × (ps ≡ arrow r.0.partial ∷ spell_sort r.0.result ++ r.1)
  inner a e None f = let g = rw (e, f) at h in cc
  inner a e (Some s) f =
      let g = rw (e, f) at h in
      let rank : RawRank = record { args = ss; partial = a.0; result = s.0 } in
      let i : (rank, s.1) ≡ r = cc in (
        sym (ap (λ (x : RawRank × List Piece). x.0.args) i),
        arrow-sound ps a e ∙ ap (λ x. arrow a.0 ∷ x) (sort-sound a.1 s f)
            ∙ ap (λ (x : RawRank × List Piece). arrow x.0.partial ∷ spell_sort x.0.result ++ x.1) i,
      )

  go : (o : Option (Bool × List Piece)) → arrow_of ps ≡ o → (r.0.args ≡ ss) × (ps ≡ arrow r.0.partial ∷ spell_sort r.0.result ++ r.1)
  go None e = let g = rw e at h in cc
  go (Some a) e = inner a e (sort_of a.1) refl

rank-assoc : (r : RawRank) (rest : List Piece) → spell_rank r ++ rest ≡ each spell_sort r.args ++ (arrow r.partial ∷ spell_sort r.result ++ rest)
rank-assoc r rest = append_assoc (each spell_sort r.args) (arrow r.partial ∷ spell_sort r.result) rest

pub rank-sound : (ps : List Piece) (r : RawRank × List Piece) → rank_of ps ≡ Some r → (ps ≡ spell_rank r.0 ++ r.1) × IsRank r.0
rank-sound ps r h =
    let g = gather-sound argument_of spell_sort IsArgument argument-sound ps [] ps in
    let k = rank_before-sound (gather argument_of ps [] ps).0 (gather argument_of ps [] ps).1 r h in
    let same : g.more ≡ r.0.args = sym g.is ∙ sym k.0 in (
      g.left ∙ ap (λ x. each spell_sort g.more ++ x) k.1
          ∙ ap (λ ss. each spell_sort ss ++ (arrow r.0.partial ∷ spell_sort r.0.result ++ r.1)) same
          ∙ sym (rank-assoc r.0 r.1),
      subst (AllByRecursion IsArgument) same g.fit,
    )

pub rank-complete : (r : RawRank) (rest : List Piece) → IsRank r → rank_of (spell_rank r ++ rest) ≡ Some (r, rest)
rank-complete r rest h =
    let g = gather-spelled argument_of spell_sort IsArgument Any (λ s qs k u. (argument-complete s qs k, tt)) (arrow r.partial ∷ spell_sort r.result ++ rest) tt
    (arrow-stops r.partial (spell_sort r.result ++ rest)) sort_some r.args h in
    rw (rank-assoc r rest, g, arrow-complete r.partial (spell_sort r.result ++ rest), sort-complete r.result rest) refl
