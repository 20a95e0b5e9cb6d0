-- Pairs, problems and bindings that are spelled alike are one.
use Rattle.std.proofs.Common.{◌≡◌, Bool, true, false, List, [], ◌∷◌, ◌++◌, refl, sym, ap, ◌∙◌, append_assoc}
use Rattle.std.specs.Prelude.{codes}
use Rattle.std.specs.List.{AllByRecursion}
use Rattle.fvn_lex.specs.Cut.{Piece}
use Rattle.fvn_syntax.specs.Pieces.{Text, word, right_brace, comma, dot, is_special, is_dot}
use Rattle.fvn_syntax.specs.Raw.{RawTerm, name, call, round, kind_variable, spell, IsWritten, EndsBefore}
use Rattle.fvn_syntax.proofs.SpelledOnce.{tail, apart, ends-before, ends-nil, once}
use Rattle.fvn_problems.specs.Spelling.{ending, RawQuery, RawPair, RawProblem, spell_query, spell_pair, spell_further, spell_pairs, spell_problem, spell_bindings, pairs_in, equals, goes_to, conjunction, IsWrittenPair, IsWrittenBinding}
use Rattle.fvn_problems.specs.inner.Split.{IsBetween, Closes}

abbrev pub pair_of : RawTerm → RawTerm → RawPair
pair_of t u = record { left = t; right = u }

module _ (between : Text) where
  pub pair-rest : (p : RawPair) (r : List Piece) → spell_pair between p ++ r ≡ spell p.left ++ (word between ∷ (spell p.right ++ r))
  pair-rest p r = append_assoc (spell p.left) (word between ∷ spell p.right) r

  pub pair-once : (p q : RawPair) (r s : List Piece) → IsWrittenPair p → IsWrittenPair q → EndsBefore r p.right → EndsBefore s q.right →
      spell_pair between p ++ r ≡ spell_pair between q ++ s → (p ≡ q) × (r ≡ s)
  pair-once p q r s a b e f h =
      let g = once p.left q.left (word between ∷ (spell p.right ++ r)) (word between ∷ (spell q.right ++ s)) a.0 b.0
      (ends-before (word between) (spell p.right ++ r) refl refl p.left) (ends-before (word between) (spell q.right ++ s) refl refl q.left) (sym (pair-rest p r) ∙ h ∙ pair-rest q s) in
      let k = once p.right q.right r s a.1 b.1 e f (tail g.1) in
      (ap (λ t. pair_of t p.right) g.0 ∙ ap (pair_of q.left) k.0, k.1)

  module _ (separator : Piece) (is : IsBetween separator) where
    pub further-ends : (ps : List RawPair) (r : List Piece) → Closes separator r → (t : RawTerm) → EndsBefore (spell_further between separator ps ++ r) t
    further-ends [] r c t = c.ends t
    further-ends (p ∷ ps) r c t = ends-before separator ((spell_pair between p ++ spell_further between separator ps) ++ r) is.no_paren is.no_bracket t

    pub further-rest : (p : RawPair) (ps : List RawPair) (r : List Piece) →
        (spell_pair between p ++ spell_further between separator ps) ++ r ≡ spell_pair between p ++ (spell_further between separator ps ++ r)
    further-rest p ps r = append_assoc (spell_pair between p) (spell_further between separator ps) r

    pub further-once : (ps qs : List RawPair) (r s : List Piece) → AllByRecursion IsWrittenPair ps → AllByRecursion IsWrittenPair qs →
        Closes separator r → Closes separator s → spell_further between separator ps ++ r ≡ spell_further between separator qs ++ s → (ps ≡ qs) × (r ≡ s)
    further-once [] [] r s a b c d h = (refl, h)
    further-once [] (q ∷ qs) r s a b c d h = absurd (c.last ((spell_pair between q ++ spell_further between separator qs) ++ s) h)
    further-once (p ∷ ps) [] r s a b c d h = absurd (d.last ((spell_pair between p ++ spell_further between separator ps) ++ r) (sym h))
    further-once (p ∷ ps) (q ∷ qs) r s a b c d h =
        let g = pair-once p q (spell_further between separator ps ++ r) (spell_further between separator qs ++ s) a.0 b.0
        (further-ends ps r c p.right) (further-ends qs s d q.right) (sym (further-rest p ps r) ∙ tail h ∙ further-rest q qs s) in
        let k = further-once ps qs r s a.1 b.1 c d g.1 in
        (ap (λ x. x ∷ ps) g.0 ∙ ap (λ xs. q ∷ xs) k.0, k.1)

    pub pairs-once : (p q : RawPair) (ps qs : List RawPair) (r s : List Piece) → AllByRecursion IsWrittenPair (p ∷ ps) → AllByRecursion IsWrittenPair (q ∷ qs) →
        Closes separator r → Closes separator s → spell_pairs between separator (p ∷ ps) ++ r ≡ spell_pairs between separator (q ∷ qs) ++ s →
        (p ∷ ps ≡ q ∷ qs) × (r ≡ s)
    pairs-once p q ps qs r s a b c d h =
        let e = ap (λ xs. separator ∷ xs) h in
        further-once (p ∷ ps) (q ∷ qs) r s a b c d e

pub conjunction-between : IsBetween conjunction
conjunction-between = record { no_paren = refl; no_bracket = refl }

pub comma-between : IsBetween comma
comma-between = record { no_paren = refl; no_bracket = refl }

pub ending-closes : (dotted : Bool) → Closes conjunction (ending dotted)
ending-closes false = record { ends = ends-nil; last = λ more h. (let e : [] ≡ conjunction ∷ more = h in cc) }
ending-closes true = record { ends = ends-before dot [] refl refl; last = λ more h. apart is_dot refl refl h }

pub brace-closes : Closes comma (right_brace ∷ [])
brace-closes = record { ends = ends-before right_brace [] refl refl; last = λ more h. apart (is_special (codes "}")) refl refl h }

pub ending-once : (a b : Bool) → ending a ≡ ending b → a ≡ b
ending-once false false h = refl
ending-once false true h = (let e : [] ≡ dot ∷ [] = h in cc)
ending-once true false h = (let e : dot ∷ [] ≡ [] = h in cc)
ending-once true true h = refl

abbrev query : RawTerm → Bool → RawQuery
query t b = record { term = t; dotted = b }

dot-ends : (dotted : Bool) (t : RawTerm) → EndsBefore (ending dotted) t
dot-ends dotted = (ending-closes dotted).ends

pub queries-once : (q r : RawQuery) → IsWritten q.term → IsWritten r.term → spell_query q ≡ spell_query r → q ≡ r
queries-once q r a b h =
    let g = once q.term r.term (ending q.dotted) (ending r.dotted) a b (dot-ends q.dotted q.term) (dot-ends r.dotted r.term) h in
    ap (λ t. query t q.dotted) g.0 ∙ ap (query r.term) (ending-once q.dotted r.dotted g.1)

abbrev problem : List RawPair → Bool → RawProblem → RawProblem
problem [] b d = d
problem (p ∷ ps) b d = record { first = p; others = ps; dotted = b }

pub problems-once : (p q : RawProblem) → AllByRecursion IsWrittenPair (pairs_in p) → AllByRecursion IsWrittenPair (pairs_in q) → spell_problem p ≡ spell_problem q → p ≡ q
problems-once p q a b h =
    let g = pairs-once equals conjunction conjunction-between p.first q.first p.others q.others (ending p.dotted) (ending q.dotted) a b (ending-closes p.dotted) (ending-closes q.dotted) h in
    ap (λ ps. problem ps p.dotted p) g.0 ∙ ap (λ b. problem (pairs_in q) b p) (ending-once p.dotted q.dotted g.1)

pub pairs-written : (bs : List RawPair) → AllByRecursion IsWrittenBinding bs → AllByRecursion IsWrittenPair bs
pairs-written [] a = tt
pairs-written (b ∷ bs) a = (a.0.1, pairs-written bs a.1)

-- a term does not begin with a brace that closes
pub no-brace : (t : RawTerm) (r s : List Piece) → right_brace ∷ s ≡ spell t ++ r → ⊥
no-brace (name w) r s h = apart (is_special (codes "}")) refl refl h
no-brace (call w ts) r s h = apart (is_special (codes "}")) refl refl h
no-brace (round t) r s h = apart (is_special (codes "}")) refl refl h
no-brace (kind_variable x p ps) r s h = apart (is_special (codes "}")) refl refl h

pub begin : (q : RawPair) (qs : List RawPair) (r : List Piece) →
    spell_pairs goes_to comma (q ∷ qs) ++ r ≡ spell q.left ++ (word goes_to ∷ (spell q.right ++ (spell_further goes_to comma qs ++ r)))
begin q qs r = further-rest goes_to comma comma-between q qs r ∙ pair-rest goes_to q (spell_further goes_to comma qs ++ r)

-- bindings before the brace that closes
inner-once : (bs cs : List RawPair) → AllByRecursion IsWrittenPair bs → AllByRecursion IsWrittenPair cs →
    spell_pairs goes_to comma bs ++ (right_brace ∷ []) ≡ spell_pairs goes_to comma cs ++ (right_brace ∷ []) → bs ≡ cs
inner-once [] [] a b h = refl
inner-once [] (q ∷ qs) a b h = absurd (no-brace q.left _ [] (h ∙ begin q qs (right_brace ∷ [])))
inner-once (p ∷ ps) [] a b h = absurd (no-brace p.left _ [] (sym h ∙ begin p ps (right_brace ∷ [])))
inner-once (p ∷ ps) (q ∷ qs) a b h = (pairs-once goes_to comma comma-between p q ps qs (right_brace ∷ []) (right_brace ∷ []) a b brace-closes brace-closes h).0

pub bindings-once : (bs cs : List RawPair) → AllByRecursion IsWrittenBinding bs → AllByRecursion IsWrittenBinding cs → spell_bindings bs ≡ spell_bindings cs → bs ≡ cs
bindings-once bs cs a b h = inner-once bs cs (pairs-written bs a) (pairs-written cs b) (tail h)
