-- What a line denotes is a variant.
use Rattle.std.proofs.Common.{◌≡◌, ◌+◌, false, [], ◌∷◌, refl, sym, ◌∙◌, subst, inl, inr, true, arith}
use Rattle.std.specs.Prelude.{Contains}
use Rattle.std.proofs.lemmas.List.Elements.{All-nil, All-cons, All-head}
use Rattle.fvn_terms.specs.declared.plain.Var.{Var}
use Rattle.fvn_terms.specs.declared.declarations.Declarations.{Declarations}
use Rattle.fvn_terms.specs.Term.{Term, var}
use Rattle.fvn_terms.specs.Plain.{term}
use Rattle.fvn_terms.specs.Substitution.{Substitution, apply, followed_by, Occurs}
use Rattle.fvn_terms.specs.Equality.{BEqual}
use Rattle.fvn_terms.specs.Theory.{Equations}
use Rattle.fvn_terms.specs.Rewriting.{IsIrreducible, ListSequence}
use Rattle.fvn_terms.specs.Variants.{IsVariant, Covers}
use Rattle.fvn_terms.specs.Laws.{RewritingLaws, CoveringIsAnOrder}
use Rattle.fvn_terms.proofs.Equal.{BEqual-refl, BEqual-sym}
use Rattle.fvn_terms.proofs.Substitutions.{apply-var, apply-apply}
use Rattle.fvn_terms.proofs.Occurrences.{occurs_value, BEqual-occurs}
use Rattle.fvn_terms.proofs.WellSorted.{IsWellSorted-followed_by}
use Rattle.fvn_forms.specs.FitsKinds.{FitsKinds}
use Rattle.fvn_forms.specs.Flat.{plain}
use Rattle.fvn_flat.specs.Drawn.{renamed}
use Rattle.fvn_flat.specs.Solving.{substitution}
use Rattle.fvn_flat.specs.Variables.{listed}
use Rattle.fvn_rewrite_laws.specs.Laws.{SequenceLaws, ListLaws}
use Rattle.fvn_rewrite_laws.proofs.Lists.{list_before}
use Rattle.fvn_cmd_unify.proofs.AxunifySameValues.{apply_equal}
use Rattle.fvn_syntax.specs.Pieces.{Text}
use Rattle.fvn_problems.specs.declared.query.Query.{Query}
use Rattle.fvn_problems.specs.Queries.{HasVariables}
use Rattle.fvn_module.specs.Contents.{Contents}
use Rattle.fvn_theory.specs.Equations.{equations_of}
use Rattle.fvn_closure.specs.Closing.{Reached}
use Rattle.fvn_answer.specs.Denoting.{DenotesVariant, ReadsVariant, OccursInVariant}
use Rattle.fvn_answer.specs.Laws.{EqualLinesCover, LinesDenoteOneVariant}
use Rattle.fvn_cmd_unify.specs.Asked.{on_variables}
use Rattle.fvn_cmd_unify.proofs.Denoted.{on_listed, on_others, sorted}
use Rattle.fvn_cmd_unify.proofs.Shown.{IsTwin, HasTwins}
use Rattle.fvn_cmd_variants.specs.Asked.{IsVariantOfTerm, DenotesReached, variants_of}
use Rattle.fvn_cmd_variants.specs.Solutions.{IsLineOf}
use Rattle.fvn_cmd_variants.proofs.Headline.{occurs_of}

-- what a line denotes, and the variant whose line it is
module _ (m : Contents) (t : Query) (cover : EqualLinesCover) (one : LinesDenoteOneVariant) (line : Text) (u : Term) (s : Substitution) (of : ReadsVariant m.signature m.names t.names.texts t.vars line u s) (r : Term) (by : Substitution)
    (denotes : DenotesVariant m.signature m.names t.names.texts t.vars line r by) where
  abbrev on : Substitution
  on = on_variables t.vars by

  same : (of.denoted_term ≡ r) × ((x : Var) → Contains t.vars x → of.denoted x ≡ by x)
  same = one m.signature m.names t.names.texts t.vars line of.denoted_term r of.denoted by of.denotes denotes

  -- the variables that it has are new
  new : (y : Var) → OccursInVariant m.signature m.names t.names.texts t.vars r on y → y.fresh ≡ true
  new y (inl o) =
      let here : Occurs y of.denoted_term = subst (Occurs y) (sym same.0) o in
      let from = occurs_value y (λ z. var (of.by z)) u (BEqual-occurs y m.signature (renamed of.by u) of.denoted_term (BEqual-sym m.signature of.term_equal) here) in
      subst (λ z. z.fresh ≡ true) (sym from.1.1) (of.renames.new from.0 (inl from.1.0))
  new y (inr (x, c, o)) =
      let here : Occurs y (of.denoted x) = subst (Occurs y) (on_listed t.vars by x c ∙ sym (same.1 x c)) o in
      let from = occurs_value y (λ z. var (of.by z)) (s x) (BEqual-occurs y m.signature (renamed of.by (s x)) (of.denoted x) (BEqual-sym m.signature (of.equal x c)) here) in
      subst (λ z. z.fresh ≡ true) (sym from.1.1) (of.renames.new from.0 (inr (x, c, from.1.0)))

  own : ReadsVariant m.signature m.names t.names.texts t.vars line r on
  own = record {
    denoted_term = r;
    denoted = by;
    denotes = denotes;
    by = λ x. x;
    renames = record { renames = record { one_to_one = λ x y i j e. e; sorts = λ x i. refl }; new = new };
    term_equal = subst (BEqual m.signature r) (sym (apply-var r) ∙ refl) (BEqual-refl m.signature r);
    equal = λ x c. subst (BEqual m.signature (by x)) (sym (apply-var (on x)) ∙ refl) (subst (BEqual m.signature (by x)) (sym (on_listed t.vars by x c)) (BEqual-refl m.signature (by x)));
  }

  -- each covers the other
  pub denoted_below : Covers m.signature t.vars (u ∷ []) s (r ∷ []) on
  denoted_below = cover m.signature m.names t.names.texts t.vars line u r s on of own

  pub denoted_above : Covers m.signature t.vars (r ∷ []) on (u ∷ []) s
  denoted_above = cover m.signature m.names t.names.texts t.vars line r u on s own of

-- what covers a variant, and is covered by it, is one
module _ (d : Declarations) (equations : Equations) (fits : FitsKinds d) (rewriting : RewritingLaws d equations) (sequences : SequenceLaws d equations) (lists : ListLaws d equations) (t : Query) (vars : HasVariables d t)
    (u r : Term) (s on : Substitution) (others : (x : Var) → listed t.vars x ≡ false → on x ≡ var x) (below : Covers d t.vars (u ∷ []) s (r ∷ []) on) (above : Covers d t.vars (r ∷ []) on (u ∷ []) s)
    (v : IsVariant d equations [] (term t.term ∷ []) (u ∷ []) s) where
  abbrev whole : Substitution
  whole = followed_by s below.by

  abbrev asked : Term
  asked = term t.term

  near : (x : Var) → Contains t.vars x → BEqual d (whole x) (on x)
  near x i = BEqual-sym d (below.same_values x i)

  -- a term that has an irreducible one as an instance
  stays : (a b : Term) → BEqual d a (apply above.by b) → IsIrreducible d equations a → IsIrreducible d equations b
  stays a b e h = sequences.instances above.by above.well_sorted b (sequences.irreducible a (apply above.by b) e h)

  first : BEqual d (apply on asked) (apply below.by (apply s asked))
  first = subst (BEqual d (apply on asked)) (sym (apply-apply s below.by asked)) (BEqual-sym d (apply_equal d whole on asked (λ x o. near x ((vars.exact x).1 o))))

  begun : ListSequence d equations v.steps (apply on asked ∷ []) (apply below.by u ∷ [])
  begun =
      list_before d equations rewriting v.steps (apply below.by (apply s asked) ∷ []) (apply on asked ∷ []) (apply below.by u ∷ []) (first, tt)
      (lists.instances below.by below.well_sorted v.steps (apply s asked ∷ []) (u ∷ []) v.sequence)

  reaches : ListSequence d equations v.steps (apply on asked ∷ []) (r ∷ [])
  reaches =
      let count : v.steps + 0 ≡ v.steps = omega arith in
      subst (λ k. ListSequence d equations k (apply on asked ∷ []) (r ∷ [])) count
      (rewriting.list_joined v.steps 0 (apply on asked ∷ []) (apply below.by u ∷ []) (r ∷ []) begun (BEqual-sym d below.same_terms.0, tt))

  pub as_variant : IsVariant d equations [] (asked ∷ []) (r ∷ []) on
  as_variant = record {
    well_sorted = sorted d fits t.vars whole on near others (IsWellSorted-followed_by d s below.by v.well_sorted below.well_sorted);
    values = λ x o. stays (s x) (on x) (above.same_values x ((vars.exact x).1 (occurs_of x asked o))) (v.values x o);
    stay = All-nil _;
    irreducible =
        (rewriting.lists (r ∷ [])).1
        (All-cons (IsIrreducible d equations) r [] (stays u r above.same_terms.0 (All-head (IsIrreducible d equations) u [] ((rewriting.lists (u ∷ [])).0 v.irreducible))) (All-nil (IsIrreducible d equations)));
    steps = v.steps;
    sequence = reaches;
  }

module _ (m : Contents) (t : Query) (fits : FitsKinds m.signature) (vars : HasVariables m.signature t) (rewriting : RewritingLaws m.signature (equations_of m.equations)) (sequences : SequenceLaws m.signature (equations_of m.equations))
    (lists : ListLaws m.signature (equations_of m.equations)) (order : CoveringIsAnOrder m.signature t.vars) (cover : EqualLinesCover) (one : LinesDenoteOneVariant) where
  -- the twin of a variant
  twin : (u : Term) (s : Substitution) → IsVariantOfTerm m t (u ∷ [], s) → (line : Text) → ReadsVariant m.signature m.names t.names.texts t.vars line u s → (r : Term) (by : Substitution) →
      DenotesVariant m.signature m.names t.names.texts t.vars line r by → IsTwin (variants_of m t) (u ∷ [], s) (r ∷ [], on_variables t.vars by)
  twin u s v line of r by denotes =
      let below = denoted_below m t cover one line u s of r by denotes in
      let above = denoted_above m t cover one line u s of r by denotes in
      record {
        one = as_variant m.signature (equations_of m.equations) fits rewriting sequences lists t vars u r s (on_variables t.vars by) (on_others t.vars by) below above v;
        below = below;
        above = above;
      }

  twins : (v : Reached) → IsVariantOfTerm m t v → (line : Text) → IsLineOf m t v line → (a : Reached) → DenotesReached m t line a → IsTwin (variants_of m t) v a
  twins v is line of a d =
      subst (IsTwin (variants_of m t) v) (sym d.is)
      (subst (λ w. IsTwin (variants_of m t) w (d.reached ∷ [], on_variables t.vars d.by)) (sym of.stands)
      (twin (plain of.form) (substitution of.bindings) (subst (IsVariantOfTerm m t) of.stands is) line of.reads d.reached d.by d.denotes))

  pub variant_lines : HasTwins (variants_of m t) (IsLineOf m t)
  variant_lines = record {
    transitive = λ a b c h g. order.transitive c.0 b.0 a.0 c.1 b.1 a.1 g h;
    denotes = λ v line of. (
      (of.reads.denoted_term ∷ [], on_variables t.vars of.reads.denoted),
      record { reached = of.reads.denoted_term; by = of.reads.denoted; denotes = of.reads.denotes; is = refl },
    );
    twins = twins;
  }
