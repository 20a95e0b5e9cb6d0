-- Which attributes of operators are left out.
use Rattle.std.proofs.Common.{◌≡◌, ◌≤◌, Bool, true, false, ◌&&◌, List, [], ◌∷◌, ◌++◌, length, Option, Some, None, refl, sym, ap, ◌∙◌, subst, append_assoc, length-append, arith}
use Rattle.std.specs.Prelude.{codes}
use Rattle.std.proofs.lemmas.List.{append-nil}
use Rattle.std.proofs.Math.Nat.{le_refl}
use Rattle.fvn_lex.specs.Cut.{Piece}
use Rattle.fvn_syntax.specs.Pieces.{left_bracket, is_special}
use Rattle.fvn_syntax.proofs.PieceLemmas.{special-is}
use Rattle.fvn_module_syntax.specs.declared.statement.RawRank.{RawRank}
use Rattle.fvn_module_syntax.specs.declared.statement.Attribute.{Attribute}
use Rattle.fvn_module_syntax.specs.declared.statement.Feature.{Feature}
use Rattle.fvn_module_syntax.specs.declared.statement.Statement.{Statement}
use Rattle.fvn_module_statements.specs.declared.outcome.Reading.{Reading}
use Rattle.fvn_module_statements.specs.declared.outcome.Reading.TheVariants.{Read, LeftOut, NoForm}
use Rattle.fvn_module_syntax.specs.Spelling.{each, spell_rank, spell_attribute}
use Rattle.fvn_module_syntax.specs.LeftOut.{left_out_in}
use Rattle.fvn_module_syntax.specs.Written.{IsAttribute, IsRank}
use Rattle.fvn_module_statements.specs.LeftOut.{IsAttributeBefore, AreAttributesBefore, BeginsNoAttribute, HasLeftOutAttribute}
use Rattle.fvn_module_statements.specs.inner.Gather.{gather_next, gather}
use Rattle.fvn_module_statements.specs.inner.Sorts.{rank_of}
use Rattle.fvn_module_statements.specs.inner.Attributes.{attribute_of, is_close, is_some, attributes_before, attributes_of}
use Rattle.fvn_module_statements.specs.inner.Statements.{with_rank}
use Rattle.fvn_module_statements.proofs.GatherExact.{gather-stops}
use Rattle.fvn_module_statements.proofs.SortExact.{rank-sound, rank-complete}
use Rattle.fvn_module_statements.proofs.AttributeExact.{attribute-before, attribute-sound, attribute-reads, attribute_some}

-- All attributes that are read.

-- what was read is spelled, and each attribute can be written before what follows it
record Gathers (fs : List Piece) (xs : List Attribute) (ps : List Piece) : Type 0 where
  more : List Attribute
  is : (gather attribute_of fs xs ps).0 ≡ xs ++ more
  left : ps ≡ each spell_attribute more ++ (gather attribute_of fs xs ps).1
  fit : AreAttributesBefore (gather attribute_of fs xs ps).1 more

gathers : (fs : List Piece) (xs : List Attribute) (ps : List Piece) → Gathers fs xs ps
gathers [] xs ps = record { more = []; is = sym (append-nil xs); left = refl; fit = tt }
gathers (f ∷ fs) xs ps = go (attribute_of ps) refl (λ ys qs. gathers fs ys qs) where
  go : (o : Option (Attribute × List Piece)) → attribute_of ps ≡ o → ((ys : List Attribute) (qs : List Piece) → Gathers fs ys qs) → Gathers (f ∷ fs) xs ps
  go None e later = record { more = []; is = rw e (sym (append-nil xs)); left = rw e refl; fit = tt }
  go (Some r) e later =
      let g = later (xs ++ (r.0 ∷ [])) r.1 in
      let s = attribute-before ps r e in
      let fits : AreAttributesBefore (gather attribute_of fs (xs ++ (r.0 ∷ [])) r.1).1 (r.0 ∷ g.more) = (subst (λ qs. IsAttributeBefore qs r.0) g.left s.1, g.fit) in
      record {
        more = r.0 ∷ g.more;
        is = rw e (g.is ∙ append_assoc xs (r.0 ∷ []) g.more);
        left = rw e (s.0 ∙ ap (λ qs. spell_attribute r.0 ++ qs) g.left ∙ sym (append_assoc (spell_attribute r.0) (each spell_attribute g.more) (gather attribute_of fs (xs ++ (r.0 ∷ [])) r.1).1));
        fit = subst (λ z. AreAttributesBefore (gather_next z xs ps (λ ys qs. gather attribute_of fs ys qs)).1 (r.0 ∷ g.more)) (sym e) fits;
      }

module _ (rest : List Piece) (stops : attribute_of rest ≡ None) where
  attributes-read : (fs : List Piece) (xs more : List Attribute) → AreAttributesBefore rest more → length more ≤ length fs →
      gather attribute_of fs xs (each spell_attribute more ++ rest) ≡ (xs ++ more, rest)
  attributes-read [] xs [] h few = rw (append-nil xs) refl
  attributes-read (f ∷ fs) xs [] h few = rw (stops, append-nil xs) refl
  attributes-read [] xs (x ∷ more) h few = absurd (omega arith)
  attributes-read (f ∷ fs) xs (x ∷ more) h few =
      let s = attribute-reads x (each spell_attribute more ++ rest) h.0 in
      let fewer : length more ≤ length fs = omega arith in
      rw (append_assoc (spell_attribute x) (each spell_attribute more) rest, s)
      (attributes-read fs (xs ++ (x ∷ [])) more h.1 fewer ∙ rw (append_assoc xs (x ∷ []) more) refl)

  attributes-long : (more : List Attribute) → length more ≤ length (each spell_attribute more ++ rest)
  attributes-long [] = omega arith
  attributes-long (x ∷ more) =
      let a = length-append (spell_attribute x ++ each spell_attribute more) rest in
      let b = length-append (spell_attribute x) (each spell_attribute more) in
      let c = length-append (each spell_attribute more) rest in
      let k = attributes-long more in
      let n = attribute_some x in
      omega arith

  all-read : (more : List Attribute) → AreAttributesBefore rest more →
      gather attribute_of (each spell_attribute more ++ rest) [] (each spell_attribute more ++ rest) ≡ (more, rest)
  all-read more h = attributes-read (each spell_attribute more ++ rest) [] more h (attributes-long more)

-- Where no attribute begins.

none-read : (ps : List Piece) → BeginsNoAttribute ps → attribute_of ps ≡ None
none-read ps h = go (attribute_of ps) refl where
  go : (o : Option (Attribute × List Piece)) → attribute_of ps ≡ o → attribute_of ps ≡ None
  go None e = e
  go (Some r) e = let k = attribute-before ps r e in absurd (h r.0 r.1 k.1 k.0)

not_both : (o : Option (Attribute × List Piece)) (x : Attribute × List Piece) → o ≡ None → o ≡ Some x → ⊥
not_both o x e h = cc

read-none : (ps : List Piece) → attribute_of ps ≡ None → BeginsNoAttribute ps
read-none ps h a rest before is = not_both (attribute_of ps) (a, rest) h (ap attribute_of is ∙ attribute-reads a rest before)

-- Attributes in brackets.

before-out : (xs : List Attribute) (ps : List Piece) (o : Option Feature) (f : Feature) → attributes_before xs ps o ≡ LeftOut f → o ≡ Some f
before-out xs ps (Some g) f h = let i : LeftOut g ≡ LeftOut f = h in let e : g ≡ f = cc in ap Some e
before-out xs ps None f h = go (is_some xs && is_close ps) refl where
  go : (b : Bool) → is_some xs && is_close ps ≡ b → None ≡ Some f
  go true e = let g = rw e at h in cc
  go false e = let g = rw e at h in cc

pub attributes-out : (ps : List Piece) (f : Feature) → attributes_of ps ≡ LeftOut f → HasLeftOutAttribute f ps
attributes-out [] f h = cc
attributes-out (p ∷ ps) f h = go (is_special (codes "[") p) refl where
  go : (b : Bool) → is_special (codes "[") p ≡ b → HasLeftOutAttribute f (p ∷ ps)
  go false e = let g = rw e at h in cc
  go true e =
      let g = gathers ps [] ps in
      let stops = gather-stops attribute_of spell_attribute IsAttribute attribute-sound attribute_some refl ps [] ps (le_refl (length ps)) in
      let o = before-out (gather attribute_of ps [] ps).0 (gather attribute_of ps [] ps).1 (left_out_in (gather attribute_of ps [] ps).0 (gather attribute_of ps [] ps).1) f (rw e at h) in
      record {
        attributes = g.more;
        rest = (gather attribute_of ps [] ps).1;
        spelled = ap (λ x. x ∷ ps) (special-is (codes "[") p e) ∙ ap (λ x. left_bracket ∷ x) g.left;
        written = g.fit;
        ended = read-none (gather attribute_of ps [] ps).1 stops;
        first = ap (λ x. left_out_in x (gather attribute_of ps [] ps).1) (sym g.is) ∙ o;
      }

pub out-attributes : (ps : List Piece) (f : Feature) → HasLeftOutAttribute f ps → attributes_of ps ≡ LeftOut f
out-attributes ps f h =
    let g = all-read h.rest (none-read h.rest h.ended) h.attributes h.written in
    let d : attributes_of (left_bracket ∷ each spell_attribute h.attributes ++ h.rest) ≡ LeftOut f = rw (g, h.first) refl in
    ap attributes_of h.spelled ∙ d

-- Behind the sorts of an operator.

pub record RankedOut (f : Feature) (ps : List Piece) : Type 0 where
  pub rank : RawRank
  pub behind : List Piece
  pub spelled : ps ≡ spell_rank rank ++ behind
  pub sorts : IsRank rank
  pub left_out : HasLeftOutAttribute f behind

module _ (make : RawRank → List Attribute → Statement) where
  pub ranked-out : (ps : List Piece) (f : Feature) → with_rank make (rank_of ps) ≡ LeftOut f → RankedOut f ps
  ranked-out ps f h = go (rank_of ps) refl where
    inner : (r : RawRank × List Piece) → rank_of ps ≡ Some r → (o : Reading (List Attribute)) → attributes_of r.1 ≡ o → RankedOut f ps
    inner r e NoForm g = let k = rw (e, g) at h in cc
    inner r e (Read xs) g = let k = rw (e, g) at h in cc
    inner r e (LeftOut x) g =
        let k : LeftOut x ≡ LeftOut f = rw (e, g) at h in
        let i : x ≡ f = cc in
        let s = rank-sound ps r e in
        record { rank = r.0; behind = r.1; spelled = s.0; sorts = s.1; left_out = subst (λ y. HasLeftOutAttribute y r.1) i (attributes-out r.1 x g) }

    go : (o : Option (RawRank × List Piece)) → rank_of ps ≡ o → RankedOut f ps
    go None e = let g = rw e at h in cc
    go (Some r) e = inner r e (attributes_of r.1) refl

  pub out-ranked : (rank : RawRank) (behind : List Piece) (f : Feature) → IsRank rank → HasLeftOutAttribute f behind →
      with_rank make (rank_of (spell_rank rank ++ behind)) ≡ LeftOut f
  out-ranked rank behind f h k = rw (rank-complete rank behind h, out-attributes behind f k) refl
