-- Lines of variants.
use Rattle.std.proofs.Common.{◌≡◌, ℕ, zero, suc, ◌+◌, ◌<◌, List, [], ◌∷◌, ◌++◌, map, take, length, get_or, sym, ap, ◌∙◌, subst, inl, inr, arith}
use Rattle.std.specs.Prelude.{All}
use Rattle.std.specs.List.{AllZip}
use Rattle.std.specs.Global.{Vec}
use Rattle.std.proofs.lemmas.List.{take_more, map_push, length-map}
use Rattle.std.proofs.lemmas.List.Elements.{All-weaker}
use Rattle.std.proofs.lemmas.Slice.Zip.{AllZip-long}
use Rattle.fvn_terms.specs.declared.plain.Var.{Var}
use Rattle.fvn_terms.specs.declared.declarations.Declarations.{Declarations}
use Rattle.fvn_terms.specs.Term.{Term}
use Rattle.fvn_terms.specs.Equality.{BEqual}
use Rattle.fvn_terms.specs.Substitution.{apply}
use Rattle.fvn_terms.specs.Theory.{Equations}
use Rattle.fvn_terms.specs.Rewriting.{ListRewrites, ListSequence}
use Rattle.fvn_terms.specs.CompleteSets.{IsApart}
use Rattle.fvn_forms.specs.Flat.{FlatTerm, plain}
use Rattle.fvn_flat.specs.Solving.{substitution}
use Rattle.fvn_syntax.specs.Pieces.{Text}
use Rattle.fvn_problems.specs.declared.query.Query.{Query}
use Rattle.fvn_module.specs.Contents.{Contents}
use Rattle.fvn_cover.specs.declared.variant.Variant.{Variant}
use Rattle.fvn_exploring.specs.declared.ends.Explored.{Explored}
use Rattle.fvn_exploring.specs.Explorations.{IsFound}
use Rattle.fvn_closure.specs.Closing.{Reached, reached_of}
use Rattle.fvn_answer.specs.Denoting.{ReadsVariant}
use Rattle.fvn_answer.specs.Lines.{HasNoLineFeed, IsTextOf, variant, values_of}
use Rattle.fvn_answer.specs.Writing.{bytes_of as lines_in}
use Rattle.fvn_answer.specs.Answers.{IsAnswerText}
use Rattle.fvn_answer.specs.Laws.{EqualLinesCover}
use Rattle.fvn_cmd_unify.proofs.Counting.{zip-push, as-many}
use Rattle.fvn_cmd_words.specs.declared.reach.Reach.{Reach}
use Rattle.fvn_cmd_exploring.specs.Searches.{setting_of, AreExplored}
use Rattle.fvn_cmd_variants.specs.Asked.{flattened, IsCoveredBy}
use Rattle.fvn_cmd_variants.specs.Solutions.{Found, values, end_of, IsLineOf, Shows}
use Rattle.fvn_cmd_variants.specs.inner.Steps.{IsPrintable, AreLinesOfVariants}

-- Sequences keep the number of terms.

module _ (d : Declarations) (equations : Equations) where
  rewrites_length : (ts us : List Term) → ListRewrites d equations ts us → length ts ≡ length us
  rewrites_length [] us h = absurd h
  rewrites_length (t ∷ ts) [] h = absurd h
  rewrites_length (t ∷ ts) (u ∷ us) (inl h) = ap suc (sym (AllZip-long (BEqual d) ts us h.1))
  rewrites_length (t ∷ ts) (u ∷ us) (inr h) = ap suc (rewrites_length ts us h.1)

  sequence_length : (k : ℕ) (ts us : List Term) → ListSequence d equations k ts us → length ts ≡ length us
  sequence_length zero ts us h = sym (AllZip-long (BEqual d) ts us h)
  sequence_length (suc k) ts us h = rewrites_length ts h.0 h.1.0 ∙ sequence_length k h.0 us h.1.1

module _ (m : Contents) (t : Query) (reach : Reach) where
  -- what was found can be printed
  found_printable : (v : Variant) → IsFound (setting_of m reach) (flattened m t ∷ []) v → IsPrintable m.signature t.vars v
  found_printable v f = record {
    single =
        sym (length-map v.terms plain) ∙ sym (sequence_length (setting_of m reach).declarations (setting_of m reach).equations f.variant.steps (map (apply (substitution v.subst)) (map plain (flattened m t ∷ []))) (map plain v.terms) f.variant.sequence);
    terms = f.member.flat.terms;
    values = f.member.flat.values;
    sorts = λ x c. f.variant.well_sorted.1 x;
  }

  pub all_printable : (x : Explored) → AreExplored m reach (flattened m t ∷ []) x → All (IsPrintable m.signature t.vars) x.variants
  all_printable x e = All-weaker (IsFound (setting_of m reach) (flattened m t ∷ [])) (IsPrintable m.signature t.vars) found_printable x.variants e.found

-- the one element of a list
one_is : (ts : List FlatTerm) → length ts ≡ 1 → (u : FlatTerm) → u ≡ get_or ts 0 u → ts ≡ u ∷ []
one_is [] e u is = absurd (omega (arith, e))
one_is (s ∷ []) e u is = ap (λ w. w ∷ []) (sym is)
one_is (s ∷ r ∷ ts) e u is = absurd (omega (arith, e))

module _ (m : Contents) (t : Query) where
  pub line-of : (v : Variant) → IsPrintable m.signature t.vars v → (u : FlatTerm) → u ≡ get_or v.terms 0 u → (vars : List Var) → vars ≡ t.vars → (line : Text) →
      ReadsVariant m.signature m.names t.names.texts vars line (plain u) (substitution v.subst) → IsTextOf m.signature m.names t.names.texts (variant u (values_of v.subst vars)) line → HasNoLineFeed line →
      IsLineOf m t (reached_of v) line
  line-of v p u at vars is line reads spelled plain_line = record {
    form = u;
    bindings = v.subst;
    stands = ap (λ ts. (map plain ts, substitution v.subst)) (one_is v.terms p.single u at);
    reads = subst (λ w. ReadsVariant m.signature m.names t.names.texts w line (plain u) (substitution v.subst)) is reads;
    spelled = subst (λ w. IsTextOf m.signature m.names t.names.texts (variant u (values_of v.subst w)) line) is spelled;
    one_line = plain_line;
  }

  abbrev IsLineOfVariant : Variant → List ℕ → Type 0
  IsLineOfVariant v line = IsLineOf m t (reached_of v) line

  pub lines-more : (variants : List Variant) (i : ℕ) (v : Variant) → i < length variants → v ≡ get_or variants i v → (lines after : List (Vec ℕ)) (line : Vec ℕ) → AreLinesOfVariants m t (take i variants) (lines_in lines) → IsLineOf m t (reached_of v) line.items →
      after ≡ lines ++ line ∷ [] → AreLinesOfVariants m t (take (i + 1) variants) (lines_in after)
  lines-more variants i v within is lines after line h r e =
      let pushed = zip-push IsLineOfVariant (take i variants) (lines_in lines) v line.items h r in
      let all : lines_in after ≡ lines_in lines ++ line.items ∷ [] = ap lines_in e ∙ map_push (λ w. w.items) lines line in
      let front : take (i + 1) variants ≡ take i variants ++ v ∷ [] = take_more variants i v within ∙ ap (λ z. take i variants ++ z ∷ []) (sym is) in
      subst (λ l. AllZip IsLineOfVariant l (lines_in after)) (sym front) (subst (AllZip IsLineOfVariant (take i variants ++ v ∷ [])) (sym all) pushed)

  -- variants with one line cover each other
  line-covers : EqualLinesCover → (a b : Reached) (line : Text) → IsLineOf m t a line → IsLineOf m t b line → IsCoveredBy m t a b
  line-covers law a b line i j =
      subst (λ x. IsCoveredBy m t x b) (sym i.stands)
      (subst (IsCoveredBy m t (plain i.form ∷ [], substitution i.bindings)) (sym j.stands)
      (law m.signature m.names t.names.texts t.vars line (plain j.form) (plain i.form) (substitution j.bindings) (substitution i.bindings) j.reads i.reads))

  reached-lines : (variants : List Variant) (lines : List Text) → AreLinesOfVariants m t variants lines → AllZip (IsLineOf m t) (map reached_of variants) lines
  reached-lines [] [] h = tt
  reached-lines [] (l ∷ ls) h = absurd h
  reached-lines (v ∷ vs) [] h = absurd h
  reached-lines (v ∷ vs) (l ∷ ls) h = (h.0, reached-lines vs ls h.1)

  pub shown-lines : EqualLinesCover → (reach : Reach) (found : Found) (lines : List Text) → AreLinesOfVariants m t found.explored.variants lines → IsApart (IsCoveredBy m t) (values found) → (text : Text) →
      IsAnswerText m.signature m.names lines (end_of reach found) text → Shows m t reach found text
  shown-lines law reach found lines h a text answer =
      let z = reached-lines found.explored.variants lines h in
      record {
        lines = lines;
        lines_of = z;
        answer = answer;
        count = as-many (IsLineOf m t) (IsCoveredBy m t) (line-covers law) (values found) lines answer.lines z a answer.in_order ∙ length-map found.explored.variants reached_of;
      }
