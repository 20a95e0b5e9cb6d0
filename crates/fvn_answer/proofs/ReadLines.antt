-- Lines are read back as what they print.
use Rattle.std.proofs.Common.{◌≡◌, ◌<◌, ◌^◌, inl, inr, List, [], ◌∷◌, ◌++◌, length, get_or, refl, sym, ap, ◌∙◌, subst, map}
use Rattle.std.specs.Prelude.{Contains}
use Rattle.std.specs.List.{AllByRecursion}
use Rattle.std.proofs.lemmas.List.{append-nil}
use Rattle.std.proofs.lemmas.List.Elements.{Contains-append_left}
use Rattle.fvn_base.proofs.Membership.{contains_here, contains_later, contains_cases, contains_none}
use Rattle.fvn_lex.specs.Parts.{HasPieces}
use Rattle.fvn_terms.specs.declared.plain.Var.{Var}
use Rattle.fvn_terms.specs.declared.plain.SortId.{SortId}
use Rattle.fvn_terms.specs.declared.declarations.Declarations.{Declarations}
use Rattle.fvn_terms.specs.Term.{Term, var}
use Rattle.fvn_terms.specs.Plain.{term}
use Rattle.fvn_terms.specs.Substitution.{Occurs}
use Rattle.fvn_terms.specs.Substitution.{value as plain_value}
use Rattle.fvn_terms.specs.Equality.{BEqual}
use Rattle.fvn_terms.proofs.Equal.{BEqual-apply}
use Rattle.fvn_terms.proofs.Substitutions.{apply-apply}
use Rattle.fvn_forms.specs.Flat.{FlatTerm, plain}
use Rattle.fvn_forms.specs.FitsKinds.{FitsKinds}
use Rattle.fvn_flat.specs.Bindings.{Bindings, BindingsFit, value}
use Rattle.fvn_flat.specs.Drawn.{Renaming, renamed, OccursInValues}
use Rattle.fvn_flat.specs.Fits.{Fits}
use Rattle.fvn_flat.specs.Solving.{substitution}
use Rattle.fvn_signature.specs.Queries.{IsKind, IsMaximalOf}
use Rattle.fvn_syntax.specs.declared.names.Names.{Names}
use Rattle.fvn_syntax.specs.Pieces.{Text, is_reserved}
use Rattle.fvn_syntax.specs.Raw.{spell}
use Rattle.fvn_syntax.specs.Texts.{place_or_end}
use Rattle.fvn_problems.specs.Spelling.{RawPair, IsWrittenBinding, spell_bindings}
use Rattle.fvn_problems.specs.VariableTexts.{IsVariableText}
use Rattle.fvn_answer.specs.Asked.{AreAsked, HaveSorts}
use Rattle.fvn_answer.specs.Denoting.{as_new, IsFreshRenaming, Bind, OccursInVariant, Reads, ReadsVariant}
use Rattle.fvn_answer.specs.Numberings.{OccursInForms, IsNumbering, new_name}
use Rattle.fvn_answer.specs.Writing.{top, written}
use Rattle.fvn_lex.specs.Join.{IsPiece}
use Rattle.fvn_answer.specs.Lines.{values, variant, forms_of, forms_in, values_of, asked_name, written_pair, laid, text, HasNoLineFeed}
use Rattle.fvn_answer.specs.inner.Bytes.{IsPrintable}
use Rattle.fvn_answer.specs.inner.Readable.{AreReadable}
use Rattle.fvn_answer.proofs.BoundLines.{renaming-sorted, pairs_of, binds-once, AreBound, all-bound}
use Rattle.fvn_answer.proofs.NewNames.{new_name-injective, new_name-reserved}
use Rattle.fvn_answer.proofs.Pieces.{PairTokens, tokens-append, pieces-bindings, pieces-variant, bindings-tokens, joined-read}
use Rattle.fvn_answer.proofs.LineFeeds.{joined-plain}
use Rattle.fvn_answer.proofs.Printable.{fits-printable, printable}
use Rattle.fvn_answer.proofs.ReadBack.{read_as, IsRead, can-read}
use Rattle.fvn_answer.proofs.TextPlaces.{at-place}
use Rattle.fvn_answer.proofs.Tokens.{alone-sorted, sorted-tokens, sorted-written, written-tokens, written-written}

-- a variable in a value occurs in the forms that are printed
among-values : (s : Bindings) (xs : List Var) (x y : Var) → Contains xs x → Occurs y (plain (value s x)) → OccursInForms (forms_of (values_of s xs)) y
among-values s [] x y h o = absurd (contains_none x h)
among-values s (z ∷ xs) x y h o = elim (contains_cases z xs x h) [
  | inl e ↦ inl (subst (λ v. Occurs y (plain (value s v))) (sym e) o)
  | inr k ↦ inr (among-values s xs x y k o)
]

module _ (d : Declarations) (names : Names) (readable : AreReadable d names) (fits : FitsKinds d) (tops : (k : SortId) → IsKind d k → IsMaximalOf d k (top d k)) (order : List Var) (few : length order < 2 ^ 64) where
  -- New names of variables that were read.

  -- the new variable that is read for x, where these are all names
  abbrev by_names : List Text → Renaming
  by_names after x = as_new after (read_as d names readable fits tops order after x)

  fresh-renaming : (after : List Text) (Among : Var → Type 0) → ((x : Var) → Among x → Contains order x) → ((x : Var) → Among x → Contains after (new_name order x)) →
      IsFreshRenaming Among (by_names after)
  fresh-renaming after Among listed named = record {
    renames = record {
      one_to_one = λ x y h k e.
          let places : place_or_end after (new_name order x) ≡ place_or_end after (new_name order y) = ap (λ (v : Var). v.name) e in
          new_name-injective order few x y (listed x h) (listed y k)
          (sym (at-place after (new_name order x) (named x h)) ∙ ap (λ i. get_or after i []) places ∙ at-place after (new_name order y) (named y k));
      sorts = λ x h. refl;
    };
    new = λ x h. ap is_reserved (at-place after (new_name order x) (named x h)) ∙ new_name-reserved order x;
  }

  -- a term that was read, with its new names
  newly : (after : List Text) (t u : Term) → BEqual d t (renamed (read_as d names readable fits tops order (after ++ [])) u) → BEqual d (renamed (as_new after) t) (renamed (by_names after) u)
  newly after t u e =
      let here = subst (λ ts. BEqual d t (renamed (read_as d names readable fits tops order ts) u)) (append-nil after) e in
      subst (BEqual d (renamed (as_new after) t)) (apply-apply (λ x. var (read_as d names readable fits tops order after x)) (λ x. var (as_new after x)) u)
      (BEqual-apply d (λ x. var (as_new after x)) (renaming-sorted d (as_new after) (λ x. refl)).0 here)

  module _ (texts : List Text) (vars : List Var) (ask : AreAsked d texts vars) (s : Bindings) (fit : BindingsFit d s) (sorts : HaveSorts d vars s) where
    abbrev raws : List RawPair
    raws = pairs_of d names readable fits tops order texts vars ask s fit sorts vars

    some-text : (x : Var) → Contains vars x → IsVariableText (asked_name d names texts x)
    some-text x h = ask.words x.name [] (ask.named x h).number

    -- Each binding is written as it should be.

    value-printable : (x : Var) → Contains vars x → IsPrintable d (value s x)
    value-printable x h = printable d (value s x) (fit.settled x) (_, fit.keeps_kinds x (ask.named x h).sort)

    all-written : (xs : List Var) → ((x : Var) → Contains xs x → Contains vars x) → AllByRecursion IsWrittenBinding (map (written_pair d names texts order) (values_of s xs))
    all-written [] within = tt
    all-written (x ∷ xs) within =
        let h = within x (contains_here x xs) in (
          (
            alone-sorted d names readable tops (asked_name d names texts x) x.sort,
            (sorted-written d names readable tops (asked_name d names texts x) (some-text x h).some x.sort, written-written d names readable tops order few (value s x)),
          ),
          all-written xs (λ y k. within y (contains_later x xs y k)),
        )

    all-tokens : (xs : List Var) → ((x : Var) → Contains xs x → Contains vars x) → AllByRecursion PairTokens (map (written_pair d names texts order) (values_of s xs))
    all-tokens [] within = tt
    all-tokens (x ∷ xs) within =
        let h = within x (contains_here x xs) in (
          (
            sorted-tokens d names readable tops (asked_name d names texts x) (some-text x h).with_colon x.sort (ask.named x h).sort,
            written-tokens d names readable tops order few (value s x) (value-printable x h),
          ),
          all-tokens xs (λ y k. within y (contains_later x xs y k)),
        )

    -- What the bindings are read as, behind these names.

    bound-from : (before : List Text) → AreBound d names readable fits tops order texts vars ask s fit sorts before vars
    bound-from before = all-bound d names readable fits tops order texts vars ask s fit sorts vars (λ x h. h) before

    abbrev read_values : (before : List Text) → Var → Term
    read_values before x = renamed (as_new (bound-from before).after) (plain_value (bound-from before).pairs x)

    binds : (before : List Text) → Bind d names texts vars before raws (read_values before) (bound-from before).after
    binds before = record {
      once = binds-once d names readable fits tops order texts vars ask s fit sorts;
      pairs = (bound-from before).pairs;
      bound = (bound-from before).bound;
      each = (bound-from before).each;
      values = λ x h. refl;
    }

    values-equal : (before : List Text) (x : Var) → Contains vars x → BEqual d (read_values before x) (renamed (by_names (bound-from before).after) (substitution s x))
    values-equal before x h =
        newly (bound-from before).after (plain_value (bound-from before).pairs x) (substitution s x) ((bound-from before).equal [] x h)

    -- Lines.

    pub values-plain : (line : Text) → line ≡ text d names texts order (values (values_of s vars)) → HasNoLineFeed line
    values-plain line is =
        let shown = laid d names texts order (values (values_of s vars)) in
        subst HasNoLineFeed (sym is) (joined-plain shown (subst (AllByRecursion IsPiece) (sym (pieces-bindings raws)) (bindings-tokens raws (all-tokens vars (λ x h. h)))))

    pub values-read : IsNumbering (forms_in (values (values_of s vars))) order → (line : Text) → line ≡ text d names texts order (values (values_of s vars)) →
        Reads d names texts vars line (substitution s)
    values-read numbering line is =
        let b = bound-from texts in
        record {
          denoted = read_values texts;
          denotes = record {
            raw = raws;
            written = all-written vars (λ x h. h);
            spelled = subst (λ x. HasPieces x (spell_bindings raws)) (sym is)
                (joined-read (laid d names texts order (values (values_of s vars))) (spell_bindings raws) (pieces-bindings raws) (bindings-tokens raws (all-tokens vars (λ x h. h))));
            after = b.after;
            bind = binds texts;
          };
          by = by_names b.after;
          renames = fresh-renaming b.after (OccursInValues vars (substitution s))
              (λ y o. (numbering.exact y).1 (among-values s vars o.0 y o.1 o.2))
              (λ y o. b.named o.0 y o.1 o.2);
          equal = λ x h. values-equal texts x h;
        }

    module _ (t : FlatTerm) (fitting : Fits d t) where
      term-read : IsRead d names readable fits tops order texts (written d names order t) (plain t) fitting.kinded.0
      term-read = can-read d names readable fits tops order t fitting.flat fitting.kinded.0 fitting.kinded.1 texts

      pub variant-plain : (line : Text) → line ≡ text d names texts order (variant t (values_of s vars)) → HasNoLineFeed line
      variant-plain line is =
          let shown = laid d names texts order (variant t (values_of s vars)) in
          subst HasNoLineFeed (sym is) (joined-plain shown (subst (AllByRecursion IsPiece) (sym (pieces-variant (written d names order t) raws))
          (tokens-append (spell (written d names order t)) (spell_bindings raws) (written-tokens d names readable tops order few t (fits-printable d t fitting)) (bindings-tokens raws (all-tokens vars (λ x h. h))))))

      pub variant-read : IsNumbering (forms_in (variant t (values_of s vars))) order → (line : Text) → line ≡ text d names texts order (variant t (values_of s vars)) →
          ReadsVariant d names texts vars line (plain t) (substitution s)
      variant-read numbering line is =
          let r = term-read in
          let b = bound-from r.resolved.texts in
          record {
            denoted_term = renamed (as_new b.after) (term r.resolved.term);
            denoted = read_values r.resolved.texts;
            denotes = record {
              raw_term = written d names order t;
              raw = raws;
              term_written = written-written d names readable tops order few t;
              written = all-written vars (λ x h. h);
              spelled = subst (λ x. HasPieces x (spell (written d names order t) ++ spell_bindings raws)) (sym is)
                  (joined-read (laid d names texts order (variant t (values_of s vars))) (spell (written d names order t) ++ spell_bindings raws)
                  (pieces-variant (written d names order t) raws)
                  (tokens-append (spell (written d names order t)) (spell_bindings raws) (written-tokens d names readable tops order few t (fits-printable d t fitting)) (bindings-tokens raws (all-tokens vars (λ x h. h)))));
              resolved = r.resolved;
              stands = r.stands;
              after = b.after;
              term_is = refl;
              bind = binds r.resolved.texts;
            };
            by = by_names b.after;
            renames = fresh-renaming b.after (OccursInVariant d names texts vars (plain t) (substitution s))
                (λ y o. elim o [ inl a ↦ (numbering.exact y).1 (inl a) | inr v ↦ (numbering.exact y).1 (inr (among-values s vars v.0 y v.1 v.2)) ])
                (λ y o. elim o [
                  | inl a ↦ subst (λ ts. Contains ts (new_name order y)) (sym b.goes_on) (Contains-append_left r.resolved.texts b.news (new_name order y) (r.named y a))
                  | inr v ↦ b.named v.0 y v.1 v.2
                ]);
            term_equal = newly b.after (term r.resolved.term) (plain t)
                (subst (λ ts. BEqual d (term r.resolved.term) (renamed (read_as d names readable fits tops order ts) (plain t)))
                (sym (append-nil (r.resolved.texts ++ b.news)) ∙ ap (λ ts. ts ++ []) (sym b.goes_on))
                (r.equal b.news));
            equal = λ x h. values-equal r.resolved.texts x h;
          }
