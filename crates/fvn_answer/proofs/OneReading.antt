-- A line is read in one way.
use Rattle.std.proofs.Common.{◌≡◌, List, [], ◌∷◌, ◌++◌, Result, Ok, refl, sym, ap, ◌∙◌, subst, map}
use Rattle.std.specs.Prelude.{Contains}
use Rattle.fvn_lex.proofs.RowPieces.{pieces-once}
use Rattle.fvn_terms.specs.declared.plain.Var.{Var}
use Rattle.fvn_terms.specs.declared.plain.Plain.{Plain}
use Rattle.fvn_terms.specs.declared.declarations.Declarations.{Declarations}
use Rattle.fvn_terms.specs.Plain.{term}
use Rattle.fvn_terms.specs.Substitution.{Substitution}
use Rattle.fvn_terms.specs.Substitution.{value as plain_value}
use Rattle.fvn_flat.specs.Drawn.{renamed}
use Rattle.fvn_syntax.specs.declared.names.Names.{Names}
use Rattle.fvn_syntax.specs.declared.fault.TermFault.{TermFault}
use Rattle.fvn_syntax.specs.Pieces.{Text, comma, left_brace, right_brace}
use Rattle.fvn_syntax.specs.Raw.{RawTerm, EndsBefore, spell}
use Rattle.fvn_syntax.specs.Resolve.{Resolved, resolve}
use Rattle.fvn_syntax.proofs.SpelledOnce.{once, ends-before}
use Rattle.fvn_problems.specs.Spelling.{RawPair, goes_to, spell_pairs, spell_bindings}
use Rattle.fvn_problems.specs.Bindings.{AreBindingsOf}
use Rattle.fvn_problems.specs.Laws.{BindingsAreSpelledOnce}
use Rattle.fvn_answer.specs.Denoting.{as_new, reading, asked, Bind}
use Rattle.fvn_answer.specs.Laws.{LinesDenoteOneSubstitution, LinesDenoteOneVariant}

abbrev given : Resolved → Result Resolved TermFault
given r = Ok r

ok-once : {r q : Resolved} → given r ≡ given q → r ≡ q
ok-once e = cc

abbrev bound_to : Var → Plain → Var × Plain
bound_to x t = (x, t)

pair-is : {x y : Var} {t u : Plain} → x ≡ y → t ≡ u → bound_to x t ≡ bound_to y u
pair-is p q = λ i. (p i, q i)

module _ (d : Declarations) (names : Names) (texts : List Text) (vars : List Var) where
  -- the same pairs, and the same names behind them
  bindings-once : (raw : List RawPair) (before : List Text) (ps qs : List (Var × Plain)) (after later : List Text) →
      AreBindingsOf (reading d names texts vars) (asked d names texts vars) before raw ps after →
      AreBindingsOf (reading d names texts vars) (asked d names texts vars) before raw qs later →
      map (λ p. p.0) ps ≡ map (λ p. p.0) qs → (ps ≡ qs) × (after ≡ later)
  bindings-once [] before [] [] after later h k e = (refl, sym h ∙ k)
  bindings-once [] before (p ∷ ps) qs after later h k e = absurd h
  bindings-once [] before [] (q ∷ qs) after later h k e = absurd k
  bindings-once (r ∷ rs) before [] qs after later h k e = absurd h
  bindings-once (r ∷ rs) before (p ∷ ps) [] after later h k e = absurd k
  bindings-once (r ∷ rs) before (p ∷ ps) (q ∷ qs) after later h k e =
      let one = h.1.0 in
      let other = k.1.0 in
      let same : one.resolved ≡ other.resolved = ok-once (sym one.stands ∙ other.stands) in
      let next : h.0 ≡ k.0 = one.names ∙ ap (λ (v : Resolved). v.texts) same ∙ sym other.names in
      let first : p.0 ≡ q.0 = cc in
      let second : p.1 ≡ q.1 = one.term_is ∙ ap (λ (v : Resolved). v.term) same ∙ sym other.term_is in
      let tails : map (λ (b : Var × Plain). b.0) ps ≡ map (λ b. b.0) qs = cc in
      let rest = bindings-once rs h.0 ps qs after later h.1.1
      (subst (λ ts. AreBindingsOf (reading d names texts vars) (asked d names texts vars) ts rs qs later) (sym next) k.1.1) tails in
      (ap (λ b. b ∷ ps) (pair-is first second) ∙ ap (λ bs. q ∷ bs) rest.0, rest.1)

  record Same (before : List Text) (raw : List RawPair) (s r : Substitution) (after later : List Text) : Type 0 where
    behind : after ≡ later
    alike : (x : Var) → Contains vars x → s x ≡ r x

  binds-once : (before : List Text) (raw : List RawPair) (s r : Substitution) (after later : List Text) →
      Bind d names texts vars before raw s after → Bind d names texts vars before raw r later → Same before raw s r after later
  binds-once before raw s r after later b c =
      let both = bindings-once raw before b.pairs c.pairs after later b.bound c.bound (b.each ∙ sym c.each) in
      record {
        behind = both.1;
        alike = λ x h.
            b.values x h
            ∙ ap (λ ps. renamed (as_new after) (plain_value ps x)) both.0
            ∙ ap (λ ts. renamed (as_new ts) (plain_value c.pairs x)) both.1
            ∙ sym (c.values x h);
      }

pub one-substitution : BindingsAreSpelledOnce → LinesDenoteOneSubstitution
one-substitution law d names texts vars line s r a b =
    let raws : a.raw ≡ b.raw = law a.raw b.raw a.written b.written (pieces-once line (spell_bindings a.raw) (spell_bindings b.raw) a.spelled b.spelled) in
    (binds-once d names texts vars texts a.raw s r a.after b.after a.bind
    (subst (λ raw. Bind d names texts vars texts raw r b.after) (sym raws) b.bind)).alike

-- Variants.

-- a term ends before a brace
ends : (bs : List RawPair) (t : RawTerm) → EndsBefore (spell_bindings bs) t
ends bs t = ends-before left_brace (spell_pairs goes_to comma bs ++ (right_brace ∷ [])) refl refl t

pub one-variant : BindingsAreSpelledOnce → LinesDenoteOneVariant
one-variant law d names texts vars line t u s r a b =
    let spelled = pieces-once line (spell a.raw_term ++ spell_bindings a.raw) (spell b.raw_term ++ spell_bindings b.raw) a.spelled b.spelled in
    let parts = once a.raw_term b.raw_term (spell_bindings a.raw) (spell_bindings b.raw) a.term_written b.term_written (ends a.raw a.raw_term) (ends b.raw b.raw_term) spelled in
    let raws : a.raw ≡ b.raw = law a.raw b.raw a.written b.written parts.1 in
    let same : a.resolved ≡ b.resolved = ok-once (sym a.stands ∙ ap (resolve (reading d names texts vars) texts) parts.0 ∙ b.stands) in
    let bind : Bind d names texts vars a.resolved.texts a.raw r b.after =
    subst (λ raw. Bind d names texts vars a.resolved.texts raw r b.after) (sym raws)
    (subst (λ (v : Resolved). Bind d names texts vars v.texts b.raw r b.after) (sym same) b.bind) in
    let both = binds-once d names texts vars a.resolved.texts a.raw s r a.after b.after a.bind bind in (
      a.term_is ∙ ap (λ (v : Resolved). renamed (as_new a.after) (term v.term)) same ∙ ap (λ ts. renamed (as_new ts) (term b.resolved.term)) both.behind ∙ sym b.term_is,
      both.alike,
    )
