-- The bindings of a line are read as bindings of the variables that are asked for.
use Rattle.std.proofs.Common.{◌≡◌, ◌<◌, inl, inr, Bool, true, false, List, [], ◌∷◌, ◌++◌, length, Some, refl, sym, ap, ◌∙◌, subst, append_assoc, map}
use Rattle.std.specs.Prelude.{if◌then◌else◌, Contains}
use Rattle.std.proofs.lemmas.List.{append-nil}
use Rattle.std.proofs.lemmas.List.Elements.{Contains-append_left}
use Rattle.fvn_base.proofs.Membership.{contains_here, contains_later, contains_cases, contains_none}
use Rattle.fvn_terms.specs.declared.plain.Var.{Var}
use Rattle.fvn_terms.specs.declared.plain.SortId.{SortId}
use Rattle.fvn_terms.specs.declared.plain.Plain.{Plain}
use Rattle.fvn_terms.specs.declared.declarations.Declarations.{Declarations}
use Rattle.fvn_terms.specs.Signature.{kind, same, IsSort}
use Rattle.fvn_terms.specs.Sorts.{IsWellSorted}
use Rattle.fvn_terms.specs.Term.{var}
use Rattle.fvn_terms.specs.Plain.{term}
use Rattle.fvn_terms.specs.Places.{stop}
use Rattle.fvn_terms.specs.Substitution.{Occurs, same_var, term_or}
use Rattle.fvn_terms.specs.Substitution.{bound as plain_bound, value as plain_value}
use Rattle.fvn_terms.specs.Equality.{BEqual}
use Rattle.fvn_terms.proofs.Equal.{BEqual-trans}
use Rattle.fvn_terms.proofs.WellSorted.{HasSort-apply}
use Rattle.fvn_forms.specs.Flat.{plain}
use Rattle.fvn_forms.specs.FitsKinds.{FitsKinds}
use Rattle.fvn_flat.specs.Bindings.{Bindings, BindingsFit, value}
use Rattle.fvn_flat.specs.Drawn.{Renaming, renamed}
use Rattle.fvn_terms.proofs.Variables.{same_var_is, same_var_itself}
use Rattle.fvn_signature.specs.Queries.{IsKind, IsMaximalOf}
use Rattle.fvn_syntax.specs.declared.names.Names.{Names}
use Rattle.fvn_syntax.specs.Pieces.{Text}
use Rattle.fvn_syntax.specs.Texts.{place}
use Rattle.fvn_problems.specs.Spelling.{RawPair}
use Rattle.fvn_problems.specs.Bindings.{written_variable, AreOneVariable, BindsOnce, IsVariableOf, IsBindingOf, AreBindingsOf}
use Rattle.fvn_answer.specs.Asked.{AreAsked, HaveSorts}
use Rattle.fvn_answer.specs.Denoting.{reading, asked}
use Rattle.fvn_answer.specs.Numberings.{new_name}
use Rattle.fvn_answer.specs.Writing.{top}
use Rattle.fvn_answer.specs.Lines.{values_of, asked_name, written_pair}
use Rattle.fvn_answer.specs.inner.Readable.{AreReadable}
use Rattle.fvn_answer.proofs.Lists.{some-once, got-some, pairs-map}
use Rattle.fvn_answer.proofs.ReadBack.{read_as, IsRead, can-read}
use Rattle.fvn_answer.proofs.TextPlaces.{place-distinct}
use Rattle.fvn_answer.proofs.Variables.{variable-read}

-- a variable for each, of the same sort
pub renaming-sorted : (d : Declarations) (r : Renaming) → ((x : Var) → (r x).sort ≡ x.sort) → IsWellSorted d (λ x. var (r x))
renaming-sorted d r e = (
  λ x is. (subst (IsSort d) (sym (e x)) is, ap (kind d) (e x)),
  λ x. record { form = var (r x); equal = stop; gets = record { sort = x.sort; gets = e x; below = same } },
)

var-is : (x y : Var) → x.name ≡ y.name → x.sort ≡ y.sort → x.fresh ≡ y.fresh → x ≡ y
var-is x y p q r = λ i. record { name = p i; sort = q i; fresh = r i }

module _ (d : Declarations) (names : Names) (readable : AreReadable d names) (fits : FitsKinds d) (tops : (k : SortId) → IsKind d k → IsMaximalOf d k (top d k)) (order : List Var)
    (texts : List Text) (vars : List Var) (ask : AreAsked d texts vars) (s : Bindings) (fit : BindingsFit d s) (sorts : HaveSorts d vars s) where
  abbrev asked_text : Var → Text
  asked_text x = asked_name d names texts x

  abbrev pair_of : Var → RawPair
  pair_of x = written_pair d names texts order (x, value s x)

  abbrev pub pairs_of : List Var → List RawPair
  pairs_of xs = map (written_pair d names texts order) (values_of s xs)

  low : (x : Var) → Contains vars x → x.name < length texts
  low x h = (ask.named x h).number

  text-read : (x : Var) → Contains vars x → written_variable (reading d names texts vars) (pair_of x).left ≡ Some (asked_text x, x.sort)
  text-read x h = variable-read d names readable tops (asked_text x) x.sort (ask.words x.name [] (low x h)).some (ask.named x h).sort

  left-read : (x : Var) → Contains vars x → IsVariableOf (reading d names texts vars) (asked d names texts vars) (pair_of x).left x
  left-read x h = record {
    text = asked_text x;
    stands = text-read x h;
    named = got-some texts x.name [] (low x h);
    not_fresh = (ask.named x h).not_fresh;
    listed = h;
  }

  -- No variable is bound twice.

  one-variable : (x y : Var) → Contains vars x → Contains vars y → AreOneVariable (reading d names texts vars) (pair_of x).left (pair_of y).left → x ≡ y
  one-variable x y h k one =
      let both : Some (asked_text x, x.sort) ≡ Some (asked_text y, y.sort) = sym (text-read x h) ∙ one.first ∙ sym one.second ∙ text-read y k in
      let pair = some-once both in
      let places : Some x.name ≡ Some y.name =
      sym (place-distinct texts x.name ask.distinct_texts (low x h))
      ∙ ap (λ (p : Text × SortId). place texts p.0) pair
      ∙ place-distinct texts y.name ask.distinct_texts (low y k) in
      var-is x y (some-once places) (ap (λ (p : Text × SortId). p.1) pair) ((ask.named x h).not_fresh ∙ sym (ask.named y k).not_fresh)

  pairs-twice : (xs : List Var) → pairs_of xs ≡ map pair_of xs
  pairs-twice [] = refl
  pairs-twice (x ∷ xs) = ap (λ bs. pair_of x ∷ bs) (pairs-twice xs)

  pub binds-once : BindsOnce (reading d names texts vars) (pairs_of vars)
  binds-once = subst (BindsOnce (reading d names texts vars)) (sym (pairs-twice vars))
      (pairs-map (λ a b. AreOneVariable (reading d names texts vars) a.left b.left → ⊥) pair_of vars (λ x y h k n one. n (one-variable x y h k one)) ask.distinct)

  -- Each value is read, and has the variable's sort.

  value-read : (x : Var) → Contains vars x → (before : List Text) → IsRead d names readable fits tops order before (pair_of x).right (plain (value s x)) (kind d x.sort)
  value-read x h = can-read d names readable fits tops order (value s x) (fit.settled x) (kind d x.sort) (fit.keeps_kinds x (ask.named x h).sort)

  binding-read : (x : Var) (h : Contains vars x) (before : List Text) →
      IsBindingOf (reading d names texts vars) (asked d names texts vars) before (pair_of x) (x, (value-read x h before).resolved.term) (value-read x h before).resolved.texts
  binding-read x h before =
      let r = value-read x h before in
      let has = HasSort-apply d (λ y. var (read_as d names readable fits tops order (r.resolved.texts ++ []) y)) (renaming-sorted d (read_as d names readable fits tops order (r.resolved.texts ++ [])) (λ y. refl))
      (plain (value s x)) x.sort (sorts x h) in
      record {
        variable = left-read x h;
        resolved = r.resolved;
        stands = r.stands;
        one_kind = r.of_kind;
        sorted = record { form = has.form; equal = BEqual-trans d (r.equal []) has.equal; gets = has.gets };
        term_is = refl;
        names = refl;
      }

  -- Bindings of these variables.

  pub record AreBound (before : List Text) (xs : List Var) : Type 0 where
    pub pairs : List (Var × Plain)
    pub after : List Text
    pub bound : AreBindingsOf (reading d names texts vars) (asked d names texts vars) before (pairs_of xs) pairs after
    pub each : map (λ p. p.0) pairs ≡ xs
    pub news : List Text
    pub goes_on : after ≡ before ++ news
    pub named : (x y : Var) → Contains xs x → Occurs y (plain (value s x)) → Contains after (new_name order y)
    pub equal : (later : List Text) (x : Var) → Contains xs x →
        BEqual d (plain_value pairs x) (renamed (read_as d names readable fits tops order (after ++ later)) (plain (value s x)))

  -- what the first pair or the others give
  found : (x : Var) (xs : List Var) → (t : Plain) (pairs : List (Var × Plain)) (after later : List Text) (z : Var) → Contains (x ∷ xs) z →
      BEqual d (term t) (renamed (read_as d names readable fits tops order (after ++ later)) (plain (value s x))) →
      ((y : Var) → Contains xs y → BEqual d (plain_value pairs y) (renamed (read_as d names readable fits tops order (after ++ later)) (plain (value s y)))) →
      BEqual d (plain_value ((x, t) ∷ pairs) z) (renamed (read_as d names readable fits tops order (after ++ later)) (plain (value s z)))
  found x xs t pairs after later z c first others = go (same_var x z) refl
    where
      go : (b : Bool) → same_var x z ≡ b → BEqual d (term_or z (if b then Some t else plain_bound pairs z)) (renamed (read_as d names readable fits tops order (after ++ later)) (plain (value s z)))
      go true e = subst (λ v. BEqual d (term t) (renamed (read_as d names readable fits tops order (after ++ later)) (plain (value s v)))) (same_var_is x z e) first
      go false e = elim (contains_cases x xs z c) [
        | inl q ↦ let n : true ≡ false = sym (same_var_itself x) ∙ ap (same_var x) q ∙ e in cc
        | inr k ↦ others z k
      ]

  pub all-bound : (xs : List Var) → ((x : Var) → Contains xs x → Contains vars x) → (before : List Text) → AreBound before xs
  all-bound [] within before = record {
    pairs = [];
    after = before;
    bound = refl;
    each = refl;
    news = [];
    goes_on = sym (append-nil before);
    named = λ x y h o. absurd (contains_none x h);
    equal = λ later x h. absurd (contains_none x h);
  }
  all-bound (x ∷ xs) within before =
      let h = within x (contains_here x xs) in
      let r = value-read x h before in
      let rest = all-bound xs (λ y k. within y (contains_later x xs y k)) r.resolved.texts in
      record {
        pairs = (x, r.resolved.term) ∷ rest.pairs;
        after = rest.after;
        bound = (r.resolved.texts, (binding-read x h before, rest.bound));
        each = ap (λ ys. x ∷ ys) rest.each;
        news = r.news ++ rest.news;
        goes_on = rest.goes_on ∙ ap (λ ts. ts ++ rest.news) r.goes_on ∙ append_assoc before r.news rest.news;
        named = λ z y c o. elim (contains_cases x xs z c) [
          | inl e ↦ subst (λ ts. Contains ts (new_name order y)) (sym rest.goes_on)
              (Contains-append_left r.resolved.texts rest.news (new_name order y) (r.named y (subst (λ v. Occurs y (plain (value s v))) (sym e) o)))
          | inr k ↦ rest.named z y k o
        ];
        equal = λ later z c. found x xs r.resolved.term rest.pairs rest.after later z c
            (subst (λ ts. BEqual d (term r.resolved.term) (renamed (read_as d names readable fits tops order ts) (plain (value s x))))
            (sym (append_assoc r.resolved.texts rest.news later) ∙ ap (λ ts. ts ++ later) (sym rest.goes_on))
            (r.equal (rest.news ++ later)))
            (rest.equal later);
      }
